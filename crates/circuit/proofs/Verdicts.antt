-- The verdict of the call, from what was made to the refusals before it.
use Prim.Native.Nat.{ℕ, ◌+◌, ◌*◌, ◌/◌, ◌<◌, ◌≤◌}
use mathlib.Core.Path.{◌≡◌, refl, sym, ap, subst, ◌∙◌}
use mathlib.Core.Bool.{Bool, true, false, ◌&&◌}
use mathlib.Core.List.{List, []}
use native.Mathlib.Omega.{arith}
use lib.Dec.{eqb, leb}
use lib.ListN.{length, get_or, take, length-map}
use lib.Seq.{take_all}
use borrow.Author.Tests.{ltb-true, eqb-true, eqb-false, leb-true}
use Rattle.std.proofs.lemmas.List.{get_or-map}
use Rattle.std.specs.Prelude.{Option, Some, Result, Ok, Err, nat_lt, if◌then◌else◌}
use Rattle.std.specs.Option.{is_some, IfSome}
use Rattle.std.proofs.Common.{Bor}
use Rattle.steps.specs.One.{one}
use Rattle.steps.specs.Table.{Slices, rows_of, most_rows}
use Rattle.steps.specs.Rows.{none, next}
use Rattle.steps.specs.Steps.{Answer as StepsAnswer, answer}
use Rattle.steps.proofs.Bools.{both_true}
use Rattle.steps.proofs.Table.{rows_of_next, rows_of_none}
use Rattle.table.specs.declared.Row.{Row}
use Rattle.table.specs.declared.Refusal.{Refusal}
use Rattle.table.specs.declared.Refusal.TheVariants.{OutOfRange}
use Rattle.table.specs.Made.{Made, At, Full}
use Rattle.table.specs.Lent.{room, Lent}
use Rattle.table.specs.Memory.{Live}
use Rattle.table.proofs.Takes.{taken_rows, taken_lent, taken_lends}
use Rattle.checks.specs.Checks.{Refuses}
use Rattle.checks.proofs.Never.{never_refused, empty_sound}
use Rattle.checks.proofs.Results.{refusal_of_number}
use Rattle.reduction.specs.Inner.{Took}
use Rattle.aiger.specs.Form.{Gate}
use Rattle.aiger.specs.Answers.{literals_in}
use Rattle.aiger.specs.Circuit.{circuit_of}
use Rattle.aiger.specs.Net.{Net as Circuit, Got, got, refused, circuit}
use Rattle.aiger.specs.declared.lines.Lit.{Lit}
use Rattle.aiger.specs.declared.net.Net.{Net}
use Rattle.aiger.specs.declared.refusal.Refusal.{Refusal as Text-refusal}
use Rattle.aiger.specs.declared.refusal.Refusal.TheVariants.{TooLong}
use Rattle.aiger.proofs.Accepted.{inputs_at, gates_ascending}
use Rattle.verdicts.specs.Calls.{Answer, verdict_0, verdict_1, verdict_2, refusal, Left, left, lengths_fine, end_with, judge, circuit_call}
use Rattle.verdicts.specs.Systems.{output_steps}
use Rattle.verdicts.specs.Verdicts.{verdict_of}
use Rattle.verdicts.proofs.Building.{reduced}
use Rattle.verdicts.proofs.Endings.{ends_at_0, ends_at_1, ends_full}
use Rattle.verdicts.proofs.Inputs.{output_low}
use Rattle.verdicts.proofs.Outcomes.{judge_passes}
use Rattle.endings.specs.declared.Verdict.{Verdict}
use Rattle.endings.specs.declared.Verdict.TheVariants.{Never, Can, RoomOut}
use Rattle.endings.specs.declared.Refusal.{Refusal as Circuit-refusal}
use Rattle.endings.specs.declared.Refusal.TheVariants.{Table as OfTable, Text, NoOutput, PatternLength}
use Rattle.endings.specs.Answers.{Judged, answer_of_judged, judged_of, Answered}
use Rattle.endings.specs.Inner.{bytes_at, end_at, end_of, PatternIf, EndAsked}
use Rattle.circuit.specs.Inner.{OutputAsked, Counted, IfText}

-- the lengths

lent_fine : (s : Slices) → lengths_fine s ≡ true → Lent 0 s
unfolding lengths_fine
lent_fine s fine =
    let y = both_true (leb (room s) most_rows && eqb (length s.thens) (room s)) (eqb (length s.elses) (room s)) fine in
    let z = both_true (leb (room s) most_rows) (eqb (length s.thens) (room s)) y.0 in
    record { used = omega arith; small = leb-true (room s) most_rows z.0; thens = eqb-true (length s.thens) (room s) z.1; elses = eqb-true (length s.elses) (room s) y.1 }

-- the check finds nothing in an empty table
pub check_passes : (s : Slices) (x : Net) → lengths_fine s ≡ true → (why : Refusal) → Refuses why x.sizes.vars 0 s → ⊥
check_passes s x fine = never_refused x.sizes.vars 0 s x.accepted.vars (lent_fine s fine) (empty_sound x.sizes.vars s)

-- an empty table, the literal l of an output of an accepted net, and a pattern of I bytes, one for each input
pub record Judgeable (x : Net) (s : Slices) (o l I : ℕ) : Type 0 where
  pub lent : Lent 0 s
  pub there : o < length (circuit_of x).outputs
  pub literal : l ≡ get_or (circuit_of x).outputs o 0
  pub long : I ≡ length (circuit_of x).inputs

-- the output was looked up
pub judgeable : (x : Net) (outputs inputs : List Lit) (r : Option (Bor Lit)) {s : Slices} {o I : ℕ} {l : Bor Lit} → lengths_fine s ≡ true
    → literals_in outputs ≡ (circuit_of x).outputs → literals_in inputs ≡ (circuit_of x).inputs
    → is_some r ≡ nat_lt o (length outputs) → IfSome r (λ y. y.now ≡ get_or outputs o y.now) → r ≡ Some l
    → I ≡ length inputs → Judgeable x s o l.now.0 I
judgeable x outputs inputs r {s = s} {o = o} {l = l} fine os is some value found long =
    let there : o < length outputs = ltb-true o (length outputs) (sym (rw found at some)) in
    let e : l.now ≡ get_or outputs o l.now = rw found at value in
    record {
      lent = lent_fine s fine;
      there = omega (arith, there, ap (λ (ls : List ℕ). length ls) os, length-map outputs (λ (l : Lit). l.0));
      literal = ap (λ (l : Lit). l.0) e ∙ sym (get_or-map (λ (l : Lit). l.0) outputs o l.now 0 there) ∙ ap (λ (ls : List ℕ). get_or ls o 0) os;
      long = omega (arith, long, ap (λ (ls : List ℕ). length ls) is, length-map inputs (λ (l : Lit). l.0));
    }

module _ (x : Net) (s : Slices) (o l I : ℕ) (a : Judgeable x s o l I) where
  abbrev net : Circuit
  net = circuit_of x

  abbrev M : ℕ
  M = x.sizes.vars

  abbrev made_by : List ℕ → List ℕ → Made → Slices → Type 0
  made_by work work₂ r s₂ = Took M (output_steps M net.gates (get_or net.outputs o 0)) r 0 s s₂ work work₂

  low : get_or net.outputs o 0 / 2 ≤ M
  low = output_low x.accepted o a.there

  -- what the output's normal form asks
  pub output_asks : {c : ℕ} {s₁ : Slices} {work : List ℕ} {gates : List Gate} → c ≡ 0 → s₁ ≡ s → gates ≡ net.gates → Live M 0 s work → OutputAsked M c s₁ work gates l
  output_asks z k g live = rw (z, k, g) (record { build = record { none = refl; live = live; order = gates_ascending x.accepted }; low = rw a.literal low })

  input_in : (i : ℕ) → i < I → (2 ≤ get_or net.inputs i 0) × (get_or net.inputs i 0 ≤ 2 * M + 1)
  input_in i g = inputs_at M [] net.inputs x.accepted.inputs_new i (omega (arith, a.long))

  module _ {work work₂ : List ℕ} where
    number_used : (k : Row) (c : ℕ) (s₂ : Slices) → made_by work work₂ (At k c) s₂ → k.0 < c + 2
    number_used k c s₂ d =
        let z = reduced M net.gates (get_or net.outputs o 0) (gates_ascending x.accepted) low in
        let e : output_steps M net.gates (get_or net.outputs o 0) none ≡ answer k.0 (rows_of s₂ c) = ap (output_steps M net.gates (get_or net.outputs o 0)) (sym (rows_of_none s)) ∙ taken_rows d.taken in
        let u = subst (λ (y : StepsAnswer). y.num < next y.rows) e z.used in
        omega (arith, u, rows_of_next s₂ c)

    pattern_ready : (r : Made) (s₂ : Slices) → made_by work work₂ r s₂ → PatternIf r M s₂ net.inputs I
    pattern_ready Full s₂ d = tt
    pattern_ready (At k c) s₂ d = record {
      lent = taken_lent a.lent d.taken;
      sound = d.live.sound;
      used = number_used k c s₂ d;
      vars = x.accepted.vars;
      long = omega (arith, a.long);
      positive = λ i g. omega (arith, (input_in i g).0);
      low = λ i g. omega (arith, (input_in i g).1);
    }

    ends : (r : Made) (s₂ : Slices) → made_by work work₂ r s₂ → (p : List ℕ) → length p ≡ I → end_with (verdict_of net (room s) o) s p ≡ end_of r M (take (length p) net.inputs) s₂ p
    ends Full s₂ d p e = ends_full net s o p a.lent d.taken
    ends (At k c) s₂ d p e = go (eqb k.0 0) refl
      where
        all_inputs : take (length p) net.inputs ≡ net.inputs
        all_inputs = take_all (length p) net.inputs (omega (arith, e, a.long))

        go : (t : Bool) → eqb k.0 0 ≡ t → end_with (verdict_of net (room s) o) s p ≡ end_at (eqb k.0 0) c (bytes_at M (one (rows_of s₂ c) k.0) (take (length p) net.inputs)) s₂ p
        go true q = rw q (ends_at_0 net s o p a.lent d.taken (eqb-true k.0 0 q))
        go false q = rw (q, all_inputs) (ends_at_1 net s o p a.lent d.taken (eqb-false k.0 0 q))

  as_made : {c : ℕ} {s₁ s₂ : Slices} {work work₂ : List ℕ} {gates : List Gate} {r : Made} → c ≡ 0 → s₁ ≡ s → gates ≡ net.gates → Took M (output_steps M gates l) r c s₁ s₂ work work₂
      → made_by work work₂ r s₂
  as_made z k g t = rw (z, k, g, a.literal) at t

  -- the end of the call, after what was made
  module _ (inputs : List Lit) {c : ℕ} {s₁ s₂ : Slices} {work work₂ : List ℕ} {gates : List Gate} {r : Made}
      (z : c ≡ 0) (k : s₁ ≡ s) (g : gates ≡ net.gates) (is : literals_in inputs ≡ net.inputs) (t : Took M (output_steps M gates l) r c s₁ s₂ work work₂) where
    pub end_asks : EndAsked r M s₂ (literals_in inputs) I
    end_asks = let made = as_made z k g t in rw is (record { lent = taken_lends a.lent made.taken; pattern = pattern_ready r s₂ made })

    pub judge_done : (p : List ℕ) → length p ≡ I → {v : Judged} {s₃ : Slices} {p₃ : List ℕ} → Answered (end_of r M (take (length p) (literals_in inputs)) s₂ p) v s₃ p₃
        → Answered (judge net s o p) v s₃ p₃
    judge_done p e y = let made = as_made z k g t in record { is = judge_passes net s o p a.there (e ∙ a.long) ∙ ends r s₂ made p e ∙ rw is at y.is }

-- "Uniqueness is proved: any two outcomes a contract allows coincide."
pub circuit_unique : (text : List ℕ) (s : Slices) (o : ℕ) (p : List ℕ) (r r' : Judged) (t t' : Slices) (q q' : List ℕ) → Answered (circuit_call text s o p) r t q → Answered (circuit_call text s o p) r' t' q'
    → left (answer_of_judged r) t q ≡ left (answer_of_judged r') t' q'
circuit_unique text s o p r r' t t' q q' a b = sym a.is ∙ b.is

-- no two results stand for one answer, but that the refusal of a text has its kind and line: each comes back from the answer and what the text gives

-- the refusal that a text gives; where it gives a net, any
abbrev refusal_given : Got Circuit → Text-refusal
refusal_given (got _ _) = TooLong
refusal_given (refused w) = w

module _ (given : Got Circuit) where
  abbrev refusal_of : ℕ → Circuit-refusal
  refusal_of n = if leb n 8 then OfTable (refusal_of_number n) else if leb n 13 then Text (refusal_given given) else if eqb n 14 then NoOutput else PatternLength

  abbrev result_of : Answer → Result Verdict Circuit-refusal
  result_of (verdict_0 n) = Ok (Never n)
  result_of (verdict_1 n) = Ok (Can n)
  result_of verdict_2 = Ok RoomOut
  result_of (refusal why) = Err (refusal_of why)

  result_back : (r : Result Verdict Circuit-refusal) → IfText (λ w. given ≡ refused w) r → result_of (answer_of_judged (judged_of r)) ≡ r
  result_back (Ok (Never n)) h = refl
  result_back (Ok _) h = refl
  result_back (Err (OfTable OutOfRange)) h = refl
  result_back (Err (OfTable _)) h = refl
  result_back (Err (Text TooLong)) h = ap {B = Result Verdict Circuit-refusal} (λ y. Err (Text (refusal_given y))) h
  result_back (Err (Text _)) h = ap {B = Result Verdict Circuit-refusal} (λ y. Err (Text (refusal_given y))) h
  result_back (Err _) h = refl

  pub judged_same : (r r' : Result Verdict Circuit-refusal) → answer_of_judged (judged_of r) ≡ answer_of_judged (judged_of r') → IfText (λ w. given ≡ refused w) r → IfText (λ w. given ≡ refused w) r' → r ≡ r'
  judged_same r r' e h h' = sym (result_back r h) ∙ ap result_of e ∙ result_back r' h'

counted_same : (r : Result Verdict Circuit-refusal) (c n n' : ℕ) → Counted r c n → Counted r c n' → n ≡ n'
counted_same (Ok v) c n n' h h' = sym h ∙ h'
counted_same (Err why) c n n' h h' = h ∙ sym h'

-- the uniqueness of the code's results: the verdict or the refusal, with a text's kind and line, the count of rows in use, the three slices and the pattern
pub circuit_result_unique : (text : List ℕ) (s : Slices) (c o : ℕ) (p : List ℕ) (r r' : Result Verdict Circuit-refusal) (n n' : ℕ) (t t' : Slices) (q q' : List ℕ)
    → Answered (circuit_call text s o p) (judged_of r) t q → Counted r c n → IfText (λ w. circuit text ≡ refused w) r
    → Answered (circuit_call text s o p) (judged_of r') t' q' → Counted r' c n' → IfText (λ w. circuit text ≡ refused w) r'
    → (r ≡ r') × (n ≡ n') × (t ≡ t') × (q ≡ q')
circuit_result_unique text s c o p r r' n n' t t' q q' a k h a' k' h' =
    let e : left (answer_of_judged (judged_of r)) t q ≡ left (answer_of_judged (judged_of r')) t' q' = circuit_unique text s o p (judged_of r) (judged_of r') t t' q q' a a' in
    let same : r ≡ r' = judged_same (circuit text) r r' (ap (λ (l : Left). l.answer) e) h h' in
    (same, counted_same r' c n n' (subst (λ (y : Result Verdict Circuit-refusal). Counted y c n) same k) k', ap (λ (l : Left). l.table) e, ap (λ (l : Left). l.pattern) e)
