-- "Uniqueness is proved: any two outcomes a contract allows coincide", as C sees them: the number returned, the out-parameters and every lent slice.
-- Assumes nothing.
use Prim.Native.Nat.{ℕ}
use mathlib.Core.Path.{◌≡◌, refl, sym, ap, ◌∙◌}
use mathlib.Core.List.{List}
use Rattle.steps.specs.Table.{Slices}
use Rattle.table.specs.Answers.{Answer}
use Rattle.table.specs.Calls.{Left, left, Does}
use Rattle.numbers.specs.Calls.{variable_call, value_call, one_call, OneLeft, one_left, OneMeans}
use Rattle.aiger.specs.Answers.{text_call}
use Rattle.verdicts.specs.Calls.{Left as Circuit-left, left as circuit_left, Answer as Verdict, verdict_0, verdict_1, verdict_2, refusal, circuit_call}
use Rattle.endings.specs.Answers.{Judged, Never, Can, RoomOut, Refused, answer_of_judged, Answered}
use Rattle.shown.specs.Seen.{Seen, seen, Shows, show_made, show_value, show_one, show_verdict, show_counts}

-- answers that coincide are shown alike
module _ {R A : Type 0} {show : R → A → Seen A} {P P' : R → Type 0} {k k' : ℕ} {held outs outs' : A} (a : Shows show P k held outs) (b : Shows show P' k' held outs') where
  shown_alike : a.answer ≡ b.answer → seen k outs ≡ seen k' outs'
  shown_alike e = sym a.is ∙ ap (λ (r : R). show r held) e ∙ b.is

module _ {k k' : ℕ} {held outs outs' : ℕ × ℕ} where
  made_unique : {P P' : Answer → Type 0} (call : Left) (s s' : Slices) → ((r : Answer) → P r → call ≡ left r s) → ((r : Answer) → P' r → call ≡ left r s')
      → Shows show_made P k held outs → Shows show_made P' k' held outs' → (seen k outs ≡ seen k' outs') × (s ≡ s')
  made_unique call s s' p p' a b =
      let e : left a.answer s ≡ left b.answer s' = sym (p a.answer a.promised) ∙ p' b.answer b.promised in
      (shown_alike a b (ap (λ (x : Left). x.answer) e), ap (λ (x : Left). x.table) e)

  pub variable_unique : (N c : ℕ) (s t t' : Slices) (v : ℕ)
      → Shows show_made (λ r. variable_call N c s v ≡ left r t) k held outs → Shows show_made (λ r. variable_call N c s v ≡ left r t') k' held outs'
      → (seen k outs ≡ seen k' outs') × (t ≡ t')
  variable_unique N c s t t' v a b = made_unique (variable_call N c s v) t t' (λ r e. e) (λ r e. e) a b

  -- the sum, the product, adding an equation and the normal form
  pub does_unique : (Meant : ℕ → ℕ → Slices → Type 0) (call : Left) (t t' : Slices)
      → Shows show_made (λ r. Does Meant call r t) k held outs → Shows show_made (λ r. Does Meant call r t') k' held outs'
      → (seen k outs ≡ seen k' outs') × (t ≡ t')
  does_unique Meant call t t' a b = made_unique call t t' (λ r p. p.is) (λ r p. p.is) a b

  pub text_unique : (text : List ℕ) → Shows show_counts (λ r. r ≡ text_call text) k held outs → Shows show_counts (λ r. r ≡ text_call text) k' held outs' → seen k outs ≡ seen k' outs'
  text_unique text a b = shown_alike a b (a.promised ∙ sym b.promised)

module _ {k k' : ℕ} (N c : ℕ) (s : Slices) (f : ℕ) (bytes : List ℕ) where
  pub value_unique : {held out out' : ℕ} → Shows show_value (λ r. value_call N c s f bytes ≡ r) k held out → Shows show_value (λ r. value_call N c s f bytes ≡ r) k' held out' → seen k out ≡ seen k' out'
  value_unique a b = shown_alike a b (sym a.promised ∙ b.promised)

  pub one_unique : (t t' : List ℕ)
      → Shows show_one (λ r. (one_call N c s f bytes ≡ one_left r t) × OneMeans r c s f t) k tt tt
      → Shows show_one (λ r. (one_call N c s f bytes ≡ one_left r t') × OneMeans r c s f t') k' tt tt
      → (k ≡ k') × (t ≡ t')
  one_unique t t' a b =
      let e : one_left a.answer t ≡ one_left b.answer t' = sym a.promised.0 ∙ b.promised.0 in
      (ap (λ (x : Seen (Unit {0})). x.returned) (shown_alike a b (ap (λ (x : OneLeft). x.answer) e)), ap (λ (x : OneLeft). x.bytes) e)

-- the verdict, the count of rows where there is one, the three slices and the pattern
abbrev judged_as : Verdict → Judged
judged_as (verdict_0 n) = Never n
judged_as (verdict_1 n) = Can n
judged_as verdict_2 = RoomOut
judged_as (refusal why) = Refused why

judged_back : (r : Judged) → judged_as (answer_of_judged r) ≡ r
judged_back (Never n) = refl
judged_back (Can n) = refl
judged_back RoomOut = refl
judged_back (Refused why) = refl

module _ {k k' : ℕ} {held outs outs' : ℕ × ℕ} where
  pub circuit_unique : (text : List ℕ) (s t t' : Slices) (o : ℕ) (p q q' : List ℕ)
      → Shows show_verdict (λ r. Answered (circuit_call text s o p) r t q) k held outs → Shows show_verdict (λ r. Answered (circuit_call text s o p) r t' q') k' held outs'
      → (seen k outs ≡ seen k' outs') × (t ≡ t') × (q ≡ q')
  circuit_unique text s t t' o p q q' a b =
      let e : circuit_left (answer_of_judged a.answer) t q ≡ circuit_left (answer_of_judged b.answer) t' q' = sym a.promised.is ∙ b.promised.is in (
        shown_alike a b (sym (judged_back a.answer) ∙ ap (λ (x : Circuit-left). judged_as x.answer) e ∙ judged_back b.answer),
        ap (λ (x : Circuit-left). x.table) e,
        ap (λ (x : Circuit-left). x.pattern) e,
      )
