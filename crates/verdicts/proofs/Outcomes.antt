-- The ways out of the circuit call.
use Prim.Native.Nat.{ℕ, zero, suc, ◌<◌, ◌≤◌}
use mathlib.Core.Path.{◌≡◌, refl, sym, ap, ◌∙◌}
use mathlib.Core.Bool.{Bool, true, false}
use mathlib.Core.List.{List}
use native.Mathlib.Omega.{arith}
use lib.Dec.{eqb, ltb}
use lib.ListN.{length}
use borrow.Author.Tests.{eqb-true, eqb-false, eq-eqb, ne_eqb, ltb-true, ltb-false, lt-ltb, le-ltb}
use Rattle.steps.specs.One.{one}
use Rattle.steps.specs.Room.{made, within}
use Rattle.steps.specs.Rows.{count}
use Rattle.steps.specs.Steps.{Answer as StepsAnswer}
use Rattle.steps.specs.Table.{Slices}
use Rattle.steps.proofs.Room.{Fit, fits, over, fit}
use Rattle.table.specs.Lent.{room}
pub use Rattle.table.proofs.Laid.{laid_rows}
use Rattle.aiger.specs.Answers.{number_of_refusal}
use Rattle.aiger.specs.Net.{Got, got, refused, Net, circuit}
use Rattle.verdicts.specs.Calls.{Answer, verdict_0, verdict_1, verdict_2, refusal, Left, refuse, lengths_fine, end_with, judge, judge_read, circuit_call}
use Rattle.verdicts.specs.Patterns.{pattern_of}
use Rattle.verdicts.specs.StandsFor.{Accepts}
use Rattle.verdicts.specs.Verdicts.{never, can, room_out, judged, verdict_of}

-- the refusals, in their order

module _ (text : List ℕ) (s : Slices) (o : ℕ) (p : List ℕ) where
  pub call_lengths : lengths_fine s ≡ false → circuit_call text s o p ≡ refuse 1 s p
  unfolding circuit_call
  call_lengths e = rw e

  module _ (fine : lengths_fine s ≡ true) where
    pub call_read : {r : Got Net} → circuit text ≡ r → circuit_call text s o p ≡ judge_read r s o p
    unfolding circuit_call
    call_read e = rw (fine, e)

module _ (net : Net) (s : Slices) (o : ℕ) (p : List ℕ) where
  pub judge_no_output : length net.outputs ≤ o → judge net s o p ≡ refuse 14 s p
  judge_no_output h = rw (le-ltb o (length net.outputs) h)

  module _ (there : o < length net.outputs) where
    pub judge_no_pattern : (length p ≡ length net.inputs → ⊥) → judge net s o p ≡ refuse 15 s p
    judge_no_pattern h = rw (lt-ltb o (length net.outputs) there, ne_eqb (length p) (length net.inputs) h)

    pub judge_passes : length p ≡ length net.inputs → judge net s o p ≡ end_with (verdict_of net (room s) o) s p
    judge_passes h = rw (lt-ltb o (length net.outputs) there, eq-eqb (length p) (length net.inputs) h)

-- the number of the verdict, 3 for a refusal: answers of two kinds are not equal
abbrev pub kind : Answer → ℕ
kind (verdict_0 n) = 0
kind (verdict_1 n) = 1
kind verdict_2 = 2
kind (refusal w) = 3

-- nothing is refused after the text
pub record Passed (net : Net) (s : Slices) (o : ℕ) (p : List ℕ) : Type 0 where
  pub fine : lengths_fine s ≡ true
  pub there : o < length net.outputs
  pub long : length p ≡ length net.inputs

module _ (text : List ℕ) (net : Net) (rest : List ℕ) (reads : circuit text ≡ got net rest) (s : Slices) (o : ℕ) (p : List ℕ) where
  pub call_passes : Passed net s o p → circuit_call text s o p ≡ end_with (verdict_of net (room s) o) s p
  call_passes x = call_read text s o p x.fine reads ∙ judge_passes net s o p x.there x.long

  -- an answer that is no refusal
  pub passed : (a : Answer) → ((w : ℕ) → a ≡ refusal w → ⊥) → (circuit_call text s o p).answer ≡ a → Passed net s o p
  passed a n e = go (lengths_fine s) refl (ltb o (length net.outputs)) refl (eqb (length p) (length net.inputs)) refl
    where
      stopped : (w : ℕ) → circuit_call text s o p ≡ refuse w s p → Passed net s o p
      stopped w q = absurd (n w (sym e ∙ ap (λ (l : Left). l.answer) q))

      go : (f : Bool) → lengths_fine s ≡ f → (t : Bool) → ltb o (length net.outputs) ≡ t → (u : Bool) → eqb (length p) (length net.inputs) ≡ u → Passed net s o p
      go false f t g u h = stopped 1 (call_lengths text s o p f)
      go true f false g u h = stopped 14 (call_read text s o p f reads ∙ judge_no_output net s o p (ltb-false o (length net.outputs) g))
      go true f true g false h = stopped 15 (call_read text s o p f reads ∙ judge_no_pattern net s o p (ltb-true o (length net.outputs) g) (eqb-false (length p) (length net.inputs) h))
      go true f true g true h = record { fine = f; there = ltb-true o (length net.outputs) g; long = eqb-true (length p) (length net.inputs) h }

-- the same, said by the kind
module _ (text : List ℕ) (s : Slices) (o : ℕ) (p : List ℕ) where
  abbrev answer : Answer
  answer = (circuit_call text s o p).answer

  pub verdict_passes : (net : Net) (rest : List ℕ) → circuit text ≡ got net rest → kind (circuit_call text s o p).answer < 3 → Passed net s o p
  verdict_passes net rest reads n = passed text net rest reads s o p answer (λ w q. omega (arith, n, ap kind q)) refl

  -- and where it is not known that the text is accepted
  pub answered : kind (circuit_call text s o p).answer < 3 → Accepts text (λ net. Passed net s o p)
  answered n = go (lengths_fine s) refl (circuit text) refl
    where
      stopped : (w : ℕ) → circuit_call text s o p ≡ refuse w s p → Accepts text (λ net. Passed net s o p)
      stopped w q = absurd (omega (arith, n, ap (λ (l : Left). kind l.answer) q))

      go : (f : Bool) → lengths_fine s ≡ f → (r : Got Net) → circuit text ≡ r → Accepts text (λ net. Passed net s o p)
      go false f r e = stopped 1 (call_lengths text s o p f)
      go true f (refused w) e = stopped (number_of_refusal w) (call_read text s o p f e)
      go true f (got net rest) e = record { net = net; rest = rest; reads = e; holds = verdict_passes net rest e n }

-- the verdicts

-- what a verdict is, by what the steps answered
pub data Case (net : Net) (room : ℕ) (x : StepsAnswer) : Type 0 where
  zero_found : count x.rows ≤ room → x.num ≡ 0 → judged net (within room x) ≡ never x.rows → Case net room x
  one_found : count x.rows ≤ room → (x.num ≡ 0 → ⊥) → judged net (within room x) ≡ can x.rows (pattern_of net (one x.rows x.num)) → Case net room x
  no_room : room < count x.rows → judged net (within room x) ≡ room_out → Case net room x

pub case : (net : Net) (room : ℕ) (x : StepsAnswer) → Case net room x
case net room x = go (fit room x)
  where
    made_case : count x.rows ≤ room → (k : ℕ) → x.num ≡ k → within room x ≡ made k x.rows → Case net room x
    made_case h zero z e = zero_found h z (ap (judged net) e)
    made_case h (suc k) z e = one_found h (λ q. omega arith) (ap (judged net) e ∙ ap (λ (n : ℕ). can x.rows (pattern_of net (one x.rows n))) (sym z))

    go : Fit room x → Case net room x
    go (fits h e) = made_case h x.num refl e
    go (over h e) = no_room h (ap (judged net) e)
