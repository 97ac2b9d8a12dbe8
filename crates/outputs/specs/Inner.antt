-- Every output of a circuit, judged from one system.
-- Assumes nothing: these are definitions.
use Rattle.std.specs.Prelude.{ℕ, zero, suc, ◌/◌, ◌<◌, ◌≤◌, ◌≡◌, List, length, get_or}
use Rattle.steps.specs.One.{one}
use Rattle.steps.specs.Room.{Ending, made, full, within}
use Rattle.steps.specs.Rows.{none, count}
use Rattle.steps.specs.Steps.{Steps, answer, ◌>>=◌, normal}
use Rattle.steps.specs.Table.{Slices, rows_of}
use Rattle.table.specs.Made.{Made, At, Full}
use Rattle.table.specs.Lent.{room, Lent}
use Rattle.table.specs.Memory.{Live}
use Rattle.leads.specs.Inner.{System}
use Rattle.aiger.specs.Net as net
use Rattle.aiger.specs.Circuit.{circuit_of}
use Rattle.aiger.specs.declared.net.Net.{Net}
use Rattle.verdicts.specs.Calls.{Answer, verdict_0, verdict_1, verdict_2, end_with}
use Rattle.verdicts.specs.Systems.{literal_steps, build}
use Rattle.verdicts.specs.Verdicts.{verdict_of, room_out}
use Rattle.endings.specs.Answers.{Judged, answer_of_judged}
use Rattle.endings.specs.Inner.{bytes_at}

-- the first c rows are those of the whole system, which is the number F
pub record Built (s : Slices) (n : Net) (c F : ℕ) : Type 0 where
  pub lent : Lent 0 s
  pub fits : c ≤ room s
  pub system : build (circuit_of n).M (circuit_of n).gates 1 none ≡ answer F (rows_of s c)

-- what the system comes to: it is built, or no output has room
abbrev pub BuiltIf : Made → Slices → Net → Type 0
BuiltIf (At F c) s n = Built s n c F.0
BuiltIf Full s n = (o : ℕ) → verdict_of (circuit_of n) (room s) o ≡ room_out

pub record Builds (r : Made) (s s' : Slices) (n : Net) : Type 0 where
  pub same_room : room s' ≡ room s
  pub built : BuiltIf r s' n

-- "its literal, then the normal form by the whole system"
abbrev pub output_from : ℕ → ℕ → ℕ → Steps
output_from M l F = literal_steps M l >>= λ p. normal M p F

-- the answer and the pattern that an ending stands for, where ls are the inputs and p is the pattern before
abbrev pub ending_answer : Ending → Answer
ending_answer (made zero R) = verdict_0 (count R)
ending_answer (made (suc k) R) = verdict_1 (count R)
ending_answer full = verdict_2

abbrev pub ending_pattern : Ending → ℕ → List ℕ → List ℕ → List ℕ
ending_pattern (made zero R) M ls p = p
ending_pattern (made (suc k) R) M ls p = bytes_at M (one R (suc k)) ls
ending_pattern full M ls p = p

-- a live table with the system F in use, a literal, and as many inputs as the pattern has bytes
pub record FromAsked (M c : ℕ) (s : Slices) (work : List ℕ) (l F : ℕ) (ins : List ℕ) (I : ℕ) : Type 0 where
  pub live : Live M c s work
  pub low : l / 2 ≤ M
  pub system : System c F
  pub vars : M ≤ 1024
  pub long : I ≤ length ins
  pub positive : (i : ℕ) → i < I → 0 < get_or ins i 0 / 2
  pub inputs_low : (i : ℕ) → i < I → get_or ins i 0 / 2 ≤ M

-- the rows in use at entry stay, and so do the lengths
pub record Stays (c : ℕ) (s s' : Slices) : Type 0 where
  pub vars : length s'.vars ≡ length s.vars
  pub thens : length s'.thens ≡ length s.thens
  pub elses : length s'.elses ≡ length s.elses
  pub kept : rows_of s' c ≡ rows_of s c

-- r and the pattern p' are what the steps m come to
pub record Ended (m : Steps) (M : ℕ) (ls : List ℕ) (r : Judged) (c : ℕ) (s s' : Slices) (p p' : List ℕ) : Type 0 where
  pub answer : ending_answer (within (room s) (m (rows_of s c))) ≡ answer_of_judged r
  pub pattern : ending_pattern (within (room s) (m (rows_of s c))) M ls p ≡ p'
  pub stays : Stays c s s'

-- one output of those that there are, with a pattern of I bytes
pub record OutputOf (s : Slices) (n : Net) (c F o I : ℕ) : Type 0 where
  pub built : Built s n c F
  pub there : o < n.sizes.outputs
  pub long : I ≡ n.sizes.inputs

-- THE VERDICT IS THE CIRCUIT CALL'S, in any table of this size: its answer, and what it does to the pattern; and the system's rows stay
pub record JudgedAs (circuit : net.Net) (o : ℕ) (r : Judged) (c : ℕ) (s s' : Slices) (p p' : List ℕ) : Type 0 where
  pub answer : (end_with (verdict_of circuit (room s) o) s p).answer ≡ answer_of_judged r
  pub pattern : (end_with (verdict_of circuit (room s) o) s p).pattern ≡ p'
  pub stays : Stays c s s'
