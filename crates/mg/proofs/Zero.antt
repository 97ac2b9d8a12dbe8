-- What a caller in C may rely on: where 0 is returned the call was answered, and the out-parameters are the answer. No refusal is returned as 0.
-- Assumes nothing.
use Prim.Native.Nat.{ℕ, ◌<◌}
use mathlib.Core.Path.{◌≡◌, refl, sym, ap, subst, ◌∙◌}
use mathlib.Core.Bool.{Bool, true, false, ◌&&◌, not}
use mathlib.Core.List.{List}
use native.Mathlib.Omega.{arith}
use lib.Dec.{eqb, ltb}
use lib.ListN.{length}
use Rattle.steps.specs.Rows.{bit}
use Rattle.steps.specs.Sound.{sound}
use Rattle.steps.specs.Table.{Slices, rows_of}
use Rattle.steps.specs.Steps.{Steps, make, normal}
use Rattle.steps.specs.System.{equation}
use Rattle.steps.specs.Room.{Ending, made, full, within}
use Rattle.table.specs.Answers.{Answer, Made, Refused}
use Rattle.table.specs.Lent.{room}
use Rattle.table.specs.Calls.{unless◌then◌else◌, checked, in_range, in_use, Left, left, refuse, end_in, take_steps, cleared, Does}
use Rattle.numbers.specs.Answers.{Valued, Value, NoValue, Sought, One, NoOne}
use Rattle.numbers.specs.Calls.{variable_call, all_bits, value_call, OneLeft, one_left, one_call, OneMeans}
use Rattle.pairs.specs.Calls.{pair_call, Means, Answered}
use Rattle.normal.specs.Calls.{system_checked, in_order, equation_call, Adds, normal_call, Reduced}
use Rattle.aiger.specs.Net.{Got, got, refused, Net, circuit}
use Rattle.aiger.specs.Answers.{Answer as Text-answer, Counted, Refused as Text-refused, number_of_refusal, answer_of, text_call}
use Rattle.aiger.specs.declared.refusal.Refusal.{Refusal}
use Rattle.aiger.specs.declared.refusal.Refusal.TheVariants.{TooLong, Form, Limits, Literal, Order}
use Rattle.verdicts.specs.Calls.{refusal, Left as Circuit-left, refuse as refuse_circuit, lengths_fine, end_with, judge_read, circuit_call}
use Rattle.verdicts.specs.Verdicts.{Verdict, never, can, room_out, verdict_of}
use Rattle.endings.specs.Answers.{Judged, Never, Can, RoomOut, Refused as Circuit-refused, answer_of_judged, Answered as Circuit-answered}
use Rattle.shown.specs.Seen.{Seen, seen, Shows, show_made, show_value, show_one, show_verdict, show_counts}

-- of outcomes D, of which some refuse with a number: d refuses with none that is 0
pub record Numbered {D : Type 0} (refuses : D → ℕ → Type 0) (d : D) : Type 0 where
  pub not_zero : (why : ℕ) → refuses d why → 0 < why

module _ {D : Type 0} {refuses : D → ℕ → Type 0} where
  numbered_unless : (t : Bool) {a b : D} → Numbered refuses a → Numbered refuses b → Numbered refuses (unless t then a else b)
  numbered_unless true p q = q
  numbered_unless false p q = p

  numbered_checked : (range well : Bool) {refusal : ℕ → D} {d : D} → ((k : ℕ) → 0 < k → Numbered refuses (refusal k)) → Numbered refuses d → Numbered refuses (checked range well refusal d)
  numbered_checked range well p q = numbered_unless range (p 1 (omega arith)) (numbered_unless well (p 2 (omega arith)) q)

-- calls that may append

abbrev appends_not : Left → ℕ → Type 0
appends_not d why = d.answer ≡ Refused why

numbered_refusal : (s : Slices) (k : ℕ) → 0 < k → Numbered appends_not (refuse k s)
numbered_refusal s k p = record { not_zero = λ why e. let q : k ≡ why = cc in omega arith }

numbered_steps : (m : Steps) (c : ℕ) (s : Slices) → Numbered appends_not (take_steps m c s)
numbered_steps m c s = go (within (room s) (m (rows_of s c)))
  where
    go : (e : Ending) → Numbered appends_not (end_in e c s)
    go (made k R) = record { not_zero = λ why e. absurd (let y : ◌≡◌ {A = ℕ} 0 1 = cc in omega arith) }
    go full = numbered_refusal (cleared c s) 7 (omega arith)

-- where 0 is returned, the out-parameters are an answer that the promise allows
zero_made : (promise : Answer → Type 0) {d : Left} {s' : Slices} {held outs : ℕ × ℕ} → Numbered appends_not d → ((r : Answer) → promise r → d ≡ left r s')
    → Shows show_made promise 0 held outs → promise (Made (record { 0 = outs.0 }) outs.1)
zero_made promise {d} {s'} {held} {outs} n is a = go a.answer a.promised a.is
  where
    go : (r : Answer) → promise r → show_made r held ≡ seen 0 outs → promise (Made (record { 0 = outs.0 }) outs.1)
    go (Made k n) p e = subst (λ (o : ℕ × ℕ). promise (Made (record { 0 = o.0 }) o.1)) (ap (λ (x : Seen (ℕ × ℕ)). x.outs) e) p
    go (Refused why) p e = absurd (omega (arith, n.not_zero why (ap (λ (x : Left). x.answer) (is (Refused why) p)), ap (λ (x : Seen (ℕ × ℕ)). x.returned) e))

variable_numbered : (N c : ℕ) (s : Slices) (v : ℕ) → Numbered appends_not (variable_call N c s v)
unfolding variable_call
variable_numbered N c s v =
    numbered_checked (in_range N c s) (sound N (rows_of s c)) (numbered_refusal s)
    (numbered_unless (ltb v N) (numbered_refusal s 5 (omega arith)) (numbered_steps (make v 1 0) c s))

pair_numbered : (N : ℕ) (m : Steps) (c : ℕ) (s : Slices) (f g : ℕ) → Numbered appends_not (pair_call N m c s f g)
unfolding pair_call
pair_numbered N m c s f g =
    numbered_checked (in_range N c s) (sound N (rows_of s c)) (numbered_refusal s)
    (numbered_unless (in_use c f && in_use c g) (numbered_refusal s 3 (omega arith)) (numbered_steps m c s))

system_numbered : (c : ℕ) (s : Slices) (k F : ℕ) {d : Left} → Numbered appends_not d → Numbered appends_not (system_checked c s k F d)
system_numbered c s k F n = numbered_unless (in_use c k && in_use c F) (numbered_refusal s 3 (omega arith)) (numbered_unless (not (eqb F 0)) (numbered_refusal s 4 (omega arith)) n)

equation_numbered : (N c : ℕ) (s : Slices) (i F t : ℕ) → Numbered appends_not (equation_call N c s i F t)
unfolding equation_call
equation_numbered N c s i F t =
    numbered_checked (in_range N c s) (sound N (rows_of s c)) (numbered_refusal s)
    (system_numbered c s t F (numbered_unless (in_order N (rows_of s c) i F t) (numbered_refusal s 5 (omega arith)) (numbered_steps (equation i F t) c s)))

normal_numbered : (N c : ℕ) (s : Slices) (p F : ℕ) → Numbered appends_not (normal_call N c s p F)
unfolding normal_call
normal_numbered N c s p F = numbered_checked (in_range N c s) (sound N (rows_of s c)) (numbered_refusal s) (system_numbered c s p F (numbered_steps (normal N p F) c s))

pub variable_zero : (N c : ℕ) (s s' : Slices) (v : ℕ) {held outs : ℕ × ℕ} → Shows show_made (λ r. variable_call N c s v ≡ left r s') 0 held outs
    → variable_call N c s v ≡ left (Made (record { 0 = outs.0 }) outs.1) s'
variable_zero N c s s' v a = zero_made (λ r. variable_call N c s v ≡ left r s') (variable_numbered N c s v) (λ r e. e) a

-- the sum, the product, adding an equation and the normal form
does_zero : (Meant : ℕ → ℕ → Slices → Type 0) (call : Left) (s' : Slices) → Numbered appends_not call → {held outs : ℕ × ℕ} → Shows show_made (λ r. Does Meant call r s') 0 held outs
    → Does Meant call (Made (record { 0 = outs.0 }) outs.1) s'
does_zero Meant call s' n a = zero_made (λ r. Does Meant call r s') n (λ r p. p.is) a

module _ (N c : ℕ) (s s' : Slices) {held outs : ℕ × ℕ} where
  pub pair_zero : (op : Bool → Bool → Bool) (m : Steps) (f g : ℕ) → Shows show_made (λ r. Answered op (pair_call N m c s f g) r c s s' f g) 0 held outs
      → Answered op (pair_call N m c s f g) (Made (record { 0 = outs.0 }) outs.1) c s s' f g
  pair_zero op m f g = does_zero (Means op c s f g) (pair_call N m c s f g) s' (pair_numbered N m c s f g)

  pub equation_zero : (i F t : ℕ) → Shows show_made (λ r. Does (Adds c s i F t) (equation_call N c s i F t) r s') 0 held outs
      → Does (Adds c s i F t) (equation_call N c s i F t) (Made (record { 0 = outs.0 }) outs.1) s'
  equation_zero i F t = does_zero (Adds c s i F t) (equation_call N c s i F t) s' (equation_numbered N c s i F t)

  pub normal_zero : (p F : ℕ) → Shows show_made (λ r. Does (Reduced c s p F) (normal_call N c s p F) r s') 0 held outs
      → Does (Reduced c s p F) (normal_call N c s p F) (Made (record { 0 = outs.0 }) outs.1) s'
  normal_zero p F = does_zero (Reduced c s p F) (normal_call N c s p F) s' (normal_numbered N c s p F)

-- value and one

abbrev values_not : Valued → ℕ → Type 0
values_not r why = r ≡ NoValue why

abbrev finds_not : OneLeft → ℕ → Type 0
finds_not d why = d.answer ≡ NoOne why

numbered_no_value : (k : ℕ) → 0 < k → Numbered values_not (NoValue k)
numbered_no_value k p = record { not_zero = λ why e. let q : k ≡ why = cc in omega arith }

numbered_no_one : (bytes : List ℕ) (k : ℕ) → 0 < k → Numbered finds_not (one_left (NoOne k) bytes)
numbered_no_one bytes k p = record { not_zero = λ why e. let q : k ≡ why = cc in omega arith }

as_bit : (b : Bool) → Value b ≡ Value (eqb (bit b) 1)
as_bit true = refl
as_bit false = refl

module _ (N c : ℕ) (s : Slices) (f : ℕ) (bytes : List ℕ) where
  value_numbered : Numbered values_not (value_call N c s f bytes)
  unfolding value_call
  value_numbered =
      numbered_checked (eqb (length bytes) N && in_range N c s) (sound N (rows_of s c)) numbered_no_value
      (numbered_unless (in_use c f) (numbered_no_value 3 (omega arith))
      (numbered_unless (all_bits bytes) (numbered_no_value 8 (omega arith))
      (record { not_zero = λ why e. absurd (let y : ◌≡◌ {A = ℕ} 0 1 = cc in omega arith) })))

  pub value_zero : {held out : ℕ} → Shows show_value (λ r. value_call N c s f bytes ≡ r) 0 held out → value_call N c s f bytes ≡ Value (eqb out 1)
  value_zero {held} {out} a = go a.answer a.promised a.is
    where
      go : (r : Valued) → value_call N c s f bytes ≡ r → show_value r held ≡ seen 0 out → value_call N c s f bytes ≡ Value (eqb out 1)
      go (Value b) p e = p ∙ as_bit b ∙ ap (λ (x : Seen ℕ). Value (eqb x.outs 1)) e
      go (NoValue why) p e = absurd (omega (arith, value_numbered.not_zero why p, ap (λ (x : Seen ℕ). x.returned) e))

  one_numbered : Numbered finds_not (one_call N c s f bytes)
  unfolding one_call
  one_numbered =
      numbered_checked (eqb (length bytes) N && in_range N c s) (sound N (rows_of s c)) (numbered_no_one bytes)
      (numbered_unless (in_use c f) (numbered_no_one bytes 3 (omega arith))
      (numbered_unless (not (eqb f 0)) (numbered_no_one bytes 6 (omega arith))
      (record { not_zero = λ why e. absurd (let y : ◌≡◌ {A = ℕ} 0 1 = cc in omega arith) })))

  pub one_zero : (bytes' : List ℕ) → Shows show_one (λ r. (one_call N c s f bytes ≡ one_left r bytes') × OneMeans r c s f bytes') 0 tt tt
      → (one_call N c s f bytes ≡ one_left One bytes') × OneMeans One c s f bytes'
  one_zero bytes' a = go a.answer a.promised a.is
    where
      go : (r : Sought) → (one_call N c s f bytes ≡ one_left r bytes') × OneMeans r c s f bytes' → show_one r tt ≡ seen 0 tt → (one_call N c s f bytes ≡ one_left One bytes') × OneMeans One c s f bytes'
      go One p e = p
      go (NoOne why) p e = absurd (omega (arith, one_numbered.not_zero why (ap (λ (d : OneLeft). d.answer) p.0), ap (λ (x : Seen (Unit {0})). x.returned) e))

-- the text call

number_positive : (w : Refusal) → 0 < number_of_refusal w
number_positive TooLong = omega arith
number_positive (Form w n) = omega arith
number_positive Limits = omega arith
number_positive (Literal n) = omega arith
number_positive (Order n) = omega arith

text_numbered : (g : Got Net) (why : ℕ) → answer_of g ≡ Text-refused why → 0 < why
text_numbered (got net rest) why e = absurd (let y : ◌≡◌ {A = ℕ} 0 1 = cc in omega arith)
text_numbered (refused w) why e = let q : number_of_refusal w ≡ why = cc in omega (arith, q, number_positive w)

pub text_zero : (text : List ℕ) {held outs : ℕ × ℕ} → Shows show_counts (λ r. r ≡ text_call text) 0 held outs → text_call text ≡ Counted outs.0 outs.1
text_zero text {held} {outs} a = go a.answer a.promised a.is
  where
    go : (r : Text-answer) → r ≡ text_call text → show_counts r held ≡ seen 0 outs → text_call text ≡ Counted outs.0 outs.1
    go (Counted i o) p e = sym p ∙ ap (λ (x : Seen (ℕ × ℕ)). Counted x.outs.0 x.outs.1) e
    go (Text-refused why) p e = absurd (omega (arith, text_numbered (circuit text) why (sym p), ap (λ (x : Seen (ℕ × ℕ)). x.returned) e))

-- the circuit call

abbrev judges_not : Circuit-left → ℕ → Type 0
judges_not d why = d.answer ≡ refusal why

numbered_unjudged : (s : Slices) (p : List ℕ) (k : ℕ) → 0 < k → Numbered judges_not (refuse_circuit k s p)
numbered_unjudged s p k q = record { not_zero = λ why e. let r : k ≡ why = cc in omega arith }

numbered_verdict : (v : Verdict) (s : Slices) (p : List ℕ) → Numbered judges_not (end_with v s p)
numbered_verdict (never R) s p = record { not_zero = λ why e. absurd (let y : ◌≡◌ {A = ℕ} 0 1 = cc in omega arith) }
numbered_verdict (can R q) s p = record { not_zero = λ why e. absurd (let y : ◌≡◌ {A = ℕ} 0 1 = cc in omega arith) }
numbered_verdict room_out s p = record { not_zero = λ why e. absurd (let y : ◌≡◌ {A = ℕ} 0 1 = cc in omega arith) }

module _ (s : Slices) (o : ℕ) (p : List ℕ) where
  read_numbered : (g : Got Net) → Numbered judges_not (judge_read g s o p)
  read_numbered (got net rest) =
      numbered_unless (ltb o (length net.outputs)) (numbered_unjudged s p 14 (omega arith))
      (numbered_unless (eqb (length p) (length net.inputs)) (numbered_unjudged s p 15 (omega arith)) (numbered_verdict (verdict_of net (room s) o) s p))
  read_numbered (refused w) = numbered_unjudged s p (number_of_refusal w) (number_positive w)

  circuit_numbered : (text : List ℕ) → Numbered judges_not (circuit_call text s o p)
  unfolding circuit_call
  circuit_numbered text = numbered_unless (lengths_fine s) (numbered_unjudged s p 1 (omega arith)) (read_numbered (circuit text))

-- the verdict that the out-parameters are: 0 and 1 with the count of rows made, or 2, where the second keeps what it held
pub data Verdict-seen (promise : Judged → Type 0) (held outs : ℕ × ℕ) : Type 0 where
  seen_0 : outs.0 ≡ 0 → promise (Never outs.1) → Verdict-seen promise held outs
  seen_1 : outs.0 ≡ 1 → promise (Can outs.1) → Verdict-seen promise held outs
  seen_2 : outs.0 ≡ 2 → outs.1 ≡ held.1 → promise RoomOut → Verdict-seen promise held outs

zero_verdict : (promise : Judged → Type 0) {d : Circuit-left} → Numbered judges_not d → ((r : Judged) → promise r → d.answer ≡ answer_of_judged r) → {held outs : ℕ × ℕ}
    → Shows show_verdict promise 0 held outs → Verdict-seen promise held outs
zero_verdict promise n is {held} {outs} a = go a.answer a.promised a.is
  where
    go : (r : Judged) → promise r → show_verdict r held ≡ seen 0 outs → Verdict-seen promise held outs
    go (Never m) p e = seen_0 (ap (λ (x : Seen (ℕ × ℕ)). x.outs.0) (sym e)) (subst (λ (i : ℕ). promise (Never i)) (ap (λ (x : Seen (ℕ × ℕ)). x.outs.1) e) p)
    go (Can m) p e = seen_1 (ap (λ (x : Seen (ℕ × ℕ)). x.outs.0) (sym e)) (subst (λ (i : ℕ). promise (Can i)) (ap (λ (x : Seen (ℕ × ℕ)). x.outs.1) e) p)
    go RoomOut p e = seen_2 (ap (λ (x : Seen (ℕ × ℕ)). x.outs.0) (sym e)) (ap (λ (x : Seen (ℕ × ℕ)). x.outs.1) (sym e)) p
    go (Circuit-refused why) p e = absurd (omega (arith, n.not_zero why (is (Circuit-refused why) p), ap (λ (x : Seen (ℕ × ℕ)). x.returned) e))

pub circuit_zero : (text : List ℕ) (s s' : Slices) (o : ℕ) (p p' : List ℕ) {held outs : ℕ × ℕ}
    → Shows show_verdict (λ r. Circuit-answered (circuit_call text s o p) r s' p') 0 held outs
    → Verdict-seen (λ r. Circuit-answered (circuit_call text s o p) r s' p') held outs
circuit_zero text s s' o p p' =
    zero_verdict (λ r. Circuit-answered (circuit_call text s o p) r s' p') (circuit_numbered s o p text) (λ r q. ap (λ (d : Circuit-left). d.answer) q.is)
