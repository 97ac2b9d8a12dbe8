-- The loops over the input and the output lines: what is left to read after k lines. Assumes nothing.
use Prim.Native.Nat.{ℕ, suc, ◌+◌, ◌-◌, ◌<◌, ◌≤◌}
use mathlib.Core.Path.{◌≡◌, sym, ap, ◌∙◌}
use mathlib.Core.Bool.{Bool, true, false}
use mathlib.Core.List.{List, [], ◌∷◌, ◌++◌, map}
use native.Mathlib.Numerals.{add-one}
use native.Mathlib.Omega.{arith}
use lib.ListN.{length, take, drop, set, length-set}
use lib.Seq.{take-suc-set, length-take-le}
use Rattle.std.proofs.Common.{Ok, Err}
use Rattle.std.proofs.lemmas.List.{map-append, length-map}
use Rattle.aiger.specs.Form.{number}
use Rattle.aiger.specs.Net.{got, refused, on_line, fresh, input_lines, output_lines}
use Rattle.aiger.specs.Answers.{literals_in}
use Rattle.aiger.specs.Marked.{Marks, InputsRead}
use Rattle.aiger.specs.declared.lines.Lit.{Lit}
use Rattle.aiger.specs.declared.refusal.Refusal.{Refusal}
use Rattle.aiger.specs.declared.refusal.Refusal.TheVariants.{Literal}

-- one more place of an array is filled
pub filled_more : {A B : Type 0} (f : A → B) (xs : List A) (k : ℕ) (x : A) → k < length xs → map f (take (k + 1) (set xs k x)) ≡ map f (take k xs) ++ f x ∷ []
filled_more f xs k x h = rw (add-one, take-suc-set xs k x h, map-append)

-- the places filled so far
pub length_filled : {A B : Type 0} (f : A → B) (xs : List A) (k : ℕ) → k ≤ length xs → length (map f (take k xs)) ≡ k
length_filled f xs k h = rw (length-map, length-take-le k xs h)

pub less : (c k : ℕ) → k < c → c - k ≡ suc (c - (k + 1))
less c k h = omega arith

-- the input lines

module _ (M c k : ℕ) (ls t : List ℕ) where
  inputs_done : c ≤ k → input_lines M (c - k) ls t ≡ got ls t
  unfolding input_lines
  inputs_done h = let z : c - k ≡ 0 = omega arith in rw z

  module _ (h : k < c) where
    inputs_bad : {w : Refusal} → on_line (2 + length ls) number t ≡ refused w → input_lines M (c - k) ls t ≡ refused w
    unfolding input_lines
    inputs_bad e = rw (less c k h, e)

    module _ {l : ℕ} {u : List ℕ} (e : on_line (2 + length ls) number t ≡ got l u) where
      inputs_used : fresh M ls l ≡ false → input_lines M (c - k) ls t ≡ refused (Literal (2 + length ls))
      unfolding input_lines
      inputs_used f = rw (less c k h, e, f)

      inputs_on : fresh M ls l ≡ true → input_lines M (c - k) ls t ≡ input_lines M (c - (k + 1)) (ls ++ l ∷ []) u
      unfolding input_lines
      inputs_on f = rw (less c k h, e, f)

pub record InputsInv (s : List ℕ) (from M c : ℕ) (ins0 ins : List Lit) (marks : List Bool) (at k : ℕ) : Type 0 where
  pub low : k ≤ c
  pub same : length ins ≡ length ins0
  pub marked : Marks marks (literals_in (take k ins))
  pub rest : input_lines M c [] (drop from s) ≡ input_lines M (c - k) (literals_in (take k ins)) (drop at s)

module _ {s : List ℕ} {from M c : ℕ} {ins0 ins : List Lit} {marks : List Bool} {at k : ℕ} (i : InputsInv s from M c ins0 ins marks at k) (r : c ≤ length ins) where
  -- the line after those read so far
  inputs_line : on_line (2 + length (literals_in (take k ins))) number (drop at s) ≡ on_line (2 + k) number (drop at s)
  inputs_line = rw (length_filled (λ (l : Lit). l.0) ins k (omega (arith, i.low, r)))

  inputs_refused : {w : Refusal} → input_lines M (c - k) (literals_in (take k ins)) (drop at s) ≡ refused w → InputsRead s from M c marks (Err w)
  inputs_refused e = record { answer = sym (i.rest ∙ e); marked = λ x q. absurd (cc) }

  pub inputs_stop : {w : Refusal} → k < c → on_line (2 + k) number (drop at s) ≡ refused w → InputsRead s from M c marks (Err w)
  inputs_stop h e = inputs_refused (inputs_bad M c k (literals_in (take k ins)) (drop at s) h (inputs_line ∙ e))

  pub inputs_defined : {l : ℕ} {u : List ℕ} → k < c → on_line (2 + k) number (drop at s) ≡ got l u → fresh M (literals_in (take k ins)) l ≡ false
      → InputsRead s from M c marks (Err (Literal (2 + k)))
  inputs_defined h e f =
      inputs_refused (inputs_used M c k (literals_in (take k ins)) (drop at s) h (inputs_line ∙ e) f ∙ rw (length_filled (λ (l : Lit). l.0) ins k (omega (arith, r))))

  pub inputs_next : {l : Lit} {p : ℕ} {marks' : List Bool} → k < c → on_line (2 + k) number (drop at s) ≡ got l.0 (drop p s) → fresh M (literals_in (take k ins)) l.0 ≡ true
      → Marks marks' (literals_in (take k ins) ++ l.0 ∷ []) → InputsInv s from M c ins0 (set ins k l) marks' p (k + 1)
  inputs_next {l} {p} h e f m =
      let t : literals_in (take (k + 1) (set ins k l)) ≡ literals_in (take k ins) ++ l.0 ∷ [] = filled_more (λ (x : Lit). x.0) ins k l (omega (arith, r)) in
      record {
        low = omega arith;
        same = rw length-set i.same;
        marked = rw t m;
        rest = rw t (i.rest ∙ inputs_on M c k (literals_in (take k ins)) (drop at s) h (inputs_line ∙ e) f);
      }

  pub inputs_end : c ≤ k → InputsRead s from M c marks (Ok (ins, at))
  inputs_end h =
      let q : c ≡ k = omega (arith, i.low) in
      let t : literals_in (take c ins) ≡ literals_in (take k ins) = ap (λ (n : ℕ). literals_in (take n ins)) q in
      record {
        answer = rw t (sym (i.rest ∙ inputs_done M c k (literals_in (take k ins)) (drop at s) h));
        marked = λ x e. let z : x ≡ (ins, at) = cc in rw (z, t) i.marked;
      }

-- the output lines

module _ (n c k : ℕ) (ls t : List ℕ) where
  outputs_done : c ≤ k → output_lines n (c - k) ls t ≡ got ls t
  unfolding output_lines
  outputs_done h = let z : c - k ≡ 0 = omega arith in rw z

  module _ (h : k < c) where
    outputs_bad : {w : Refusal} → on_line (n + length ls) number t ≡ refused w → output_lines n (c - k) ls t ≡ refused w
    unfolding output_lines
    outputs_bad e = rw (less c k h, e)

    outputs_on : {l : ℕ} {u : List ℕ} → on_line (n + length ls) number t ≡ got l u → output_lines n (c - k) ls t ≡ output_lines n (c - (k + 1)) (ls ++ l ∷ []) u
    unfolding output_lines
    outputs_on e = rw (less c k h, e)

pub record OutputsInv (s : List ℕ) (from n c : ℕ) (outs0 outs : List Lit) (at k : ℕ) : Type 0 where
  pub low : k ≤ c
  pub same : length outs ≡ length outs0
  pub rest : output_lines n c [] (drop from s) ≡ output_lines n (c - k) (literals_in (take k outs)) (drop at s)

module _ {s : List ℕ} {from n c : ℕ} {outs0 outs : List Lit} {at k : ℕ} (i : OutputsInv s from n c outs0 outs at k) (r : c ≤ length outs) where
  outputs_line : on_line (n + length (literals_in (take k outs))) number (drop at s) ≡ on_line (n + k) number (drop at s)
  outputs_line = rw (length_filled (λ (l : Lit). l.0) outs k (omega (arith, i.low, r)))

  pub outputs_stop : {w : Refusal} → k < c → on_line (n + k) number (drop at s) ≡ refused w → refused w ≡ output_lines n c [] (drop from s)
  outputs_stop h e = sym (i.rest ∙ outputs_bad n c k (literals_in (take k outs)) (drop at s) h (outputs_line ∙ e))

  pub outputs_next : {l : Lit} {p : ℕ} → k < c → on_line (n + k) number (drop at s) ≡ got l.0 (drop p s) → OutputsInv s from n c outs0 (set outs k l) p (k + 1)
  outputs_next {l} {p} h e =
      let t : literals_in (take (k + 1) (set outs k l)) ≡ literals_in (take k outs) ++ l.0 ∷ [] = filled_more (λ (x : Lit). x.0) outs k l (omega (arith, r)) in
      record {
        low = omega arith;
        same = rw length-set i.same;
        rest = rw t (i.rest ∙ outputs_on n c k (literals_in (take k outs)) (drop at s) h (outputs_line ∙ e));
      }

  pub outputs_end : c ≤ k → got (literals_in (take c outs)) (drop at s) ≡ output_lines n c [] (drop from s)
  outputs_end h =
      let q : c ≡ k = omega (arith, i.low) in
      let t : literals_in (take c outs) ≡ literals_in (take k outs) = ap (λ (m : ℕ). literals_in (take m outs)) q in
      rw t (sym (i.rest ∙ outputs_done n c k (literals_in (take k outs)) (drop at s) h))
