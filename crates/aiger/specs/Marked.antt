-- What the functions that read the lines after the header ask and promise: marks say which variables the literals read so far define.
-- Assumes nothing.
use Rattle.std.specs.Prelude.{ℕ, ◌<◌, ◌≤◌, ◌/◌, ◌≡◌, Bool, true, false, List, [], ◌++◌, length, get_or, take, drop, Result, Ok, Err}
use Rattle.aiger.specs.Form as form
use Rattle.aiger.specs.Net.{Got, got, refused, defined, fresh, input_lines, lefts, gate_lines, Unknown, at, nowhere}
use Rattle.aiger.specs.Answers.{lits_of, literals_in, gates_in}
use Rattle.aiger.specs.declared.lines.Lit.{Lit}
use Rattle.aiger.specs.declared.lines.Gate.{Gate}
use Rattle.aiger.specs.declared.refusal.Refusal.{Refusal}
use Rattle.aiger.specs.declared.refusal.Refusal.TheVariants.{Literal}

-- one mark for each variable from 0 to 1,024: whether the literals ls define it
pub record Marks (marks : List Bool) (ls : List ℕ) : Type 0 where
  pub long : length marks ≡ 1025
  pub says : (v : ℕ) → v < 1025 → get_or marks v false ≡ defined ls v

-- r says whether l may be defined next
pub record Fresh (marks : List Bool) (M l : ℕ) (r : Bool) : Type 0 where
  pub is : (ls : List ℕ) → Marks marks ls → r ≡ fresh M ls l
  pub low : r ≡ true → l / 2 ≤ M

-- a line that was read, with the next position

abbrev pub number_read : List ℕ → Result (ℕ × ℕ) Refusal → Got ℕ
number_read s (Ok r) = got r.0 (drop r.1 s)
number_read s (Err w) = refused w

abbrev pub gate_read : List ℕ → Result (Gate × ℕ) Refusal → Got form.Gate
gate_read s (Ok r) = got (lits_of r.0) (drop r.1 s)
gate_read s (Err w) = refused w

-- the places of an array that was lent, beside what was answered of them
abbrev pub placed : {A : Type 0} → List A → Result ℕ Refusal → Result (List A × ℕ) Refusal
placed xs (Ok p) = Ok (xs, p)
placed xs (Err w) = Err w

-- c lines that were read into the first c places of an array, with the next position
abbrev pub literals_read : List ℕ → ℕ → Result (List Lit × ℕ) Refusal → Got (List ℕ)
literals_read s c (Ok r) = got (literals_in (take c r.0)) (drop r.1 s)
literals_read s c (Err w) = refused w

abbrev pub gates_read : List ℕ → ℕ → Result (List Gate × ℕ) Refusal → Got (List form.Gate)
gates_read s c (Ok r) = got (gates_in (take c r.0)) (drop r.1 s)
gates_read s c (Err w) = refused w

pub record InputsRead (s : List ℕ) (at M c : ℕ) (marks : List Bool) (r : Result (List Lit × ℕ) Refusal) : Type 0 where
  pub answer : literals_read s c r ≡ input_lines M c [] (drop at s)
  pub marked : (x : List Lit × ℕ) → r ≡ Ok x → Marks marks (literals_in (take c x.0))

-- for the literals ls of the inputs
pub record GatesRead (s : List ℕ) (at M n c : ℕ) (ls : List ℕ) (marks : List Bool) (r : Result (List Gate × ℕ) Refusal) : Type 0 where
  pub answer : gates_read s c r ≡ gate_lines M n ls 0 c [] (drop at s)
  pub marked : (x : List Gate × ℕ) → r ≡ Ok x → Marks marks (ls ++ lefts (gates_in (take c x.0)))

-- what the check of the outputs comes to
abbrev pub checked_of : Unknown → Result (Unit {0}) Refusal
checked_of nowhere = Ok tt
checked_of (at n) = Err (Literal n)
