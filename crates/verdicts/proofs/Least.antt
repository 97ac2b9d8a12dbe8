-- An output's normal form and its least one, as values and patterns of the circuit.
use Prim.Native.Nat.{ℕ, zero, suc, ◌-◌, ◌/◌, ◌<◌, ◌≤◌}
use mathlib.Core.Path.{◌≡◌, refl, sym, ap, ◌∙◌, fun_ext}
use mathlib.Core.Bool.{Bool, true, false}
use mathlib.Core.List.{List, [], ◌∷◌, map}
use native.Mathlib.Omega.{arith}
use lib.ListN.{length, get_or, length-map}
use Rattle.steps.specs.One.{put, one}
use Rattle.steps.specs.Rows.{Rows, Assignment, value}
use Rattle.steps.proofs.Compare.{Order, less as lower, equal as level, greater as higher, order}
use Rattle.steps.proofs.Occurs.{free_occurs, one_absent}
use Rattle.steps.proofs.One.{found_one, least_one}
use Rattle.steps.proofs.Rows.{value_0}
use Rattle.aiger.specs.Meaning.{Values, literal, run, values}
use Rattle.aiger.specs.Net.{Net, defined}
use Rattle.aiger.specs.Accepted.{Accepted}
use Rattle.aiger.proofs.Accepted.{gates_ascending}
use Rattle.verdicts.specs.Patterns.{pattern_of, output_value, given, NotGreater, same, less}
use Rattle.verdicts.specs.Verdicts.{output_rows}
use Rattle.verdicts.proofs.Building.{Stands, reduced}
use Rattle.verdicts.proofs.Inputs.{output_low, values_given, given_pattern, output_free, given_same}
use Rattle.verdicts.proofs.Rings.{values_at, values_0, values_inside, values_beyond, ring_of, Place, constant, inside, beyond, place}

-- where two assignments first differ

data Decided (x y : Bool) : Type 0 where
  equal : x ≡ y → Decided x y
  apart : (x ≡ y → ⊥) → Decided x y

decide : (x y : Bool) → Decided x y
decide true true = equal refl
decide false false = equal refl
decide true false = apart (λ q. let z : ◌≡◌ {A = ℕ} 0 1 = cc in omega arith)
decide false true = apart (λ q. let z : ◌≡◌ {A = ℕ} 0 1 = cc in omega arith)

-- they agree below n, or differ first at a variable below n
data Compared (a b : Assignment) (n : ℕ) : Type 0 where
  agree : ((i : ℕ) → i < n → a i ≡ b i) → Compared a b n
  differ : (i : ℕ) → i < n → ((j : ℕ) → j < i → a j ≡ b j) → (a i ≡ b i → ⊥) → Compared a b n

one_more : (a b : Assignment) (n : ℕ) → ((i : ℕ) → i < n → a i ≡ b i) → a n ≡ b n → (i : ℕ) → i < suc n → Order i n → a i ≡ b i
one_more a b n g e i h (lower l) = g i l
one_more a b n g e i h (level q) = rw q e
one_more a b n g e i h (higher l) = absurd (omega arith)

compare : (a b : Assignment) (n : ℕ) → Compared a b n
compare a b zero = agree (λ i h. absurd (omega arith))
compare a b (suc n) = go (compare a b n) (decide (a n) (b n))
  where
    go : Compared a b n → Decided (a n) (b n) → Compared a b (suc n)
    go (differ i h g d) x = differ i (omega arith) g d
    go (agree g) (apart d) = differ n (omega arith) g d
    go (agree g) (equal e) = agree (λ i h. one_more a b n g e i h (order i n))

-- of two values that differ, where a 1 of the first makes one of the second
zero_one : (x y : Bool) → (x ≡ y → ⊥) → (x ≡ true → y ≡ true) → (x ≡ false) × (y ≡ true)
zero_one true y d h = absurd (d (sym (h refl)))
zero_one false true d h = (refl, refl)
zero_one false false d h = absurd (d refl)

get_d_mapped : (f : ℕ → Bool) (ls : List ℕ) (o : ℕ) → o < length ls → get_or (map f ls) o false ≡ f (get_or ls o 0)
get_d_mapped f [] o h = absurd (omega arith)
get_d_mapped f (l ∷ ls) zero h = refl
get_d_mapped f (l ∷ ls) (suc o) h = get_d_mapped f ls o (omega arith)

module _ {net : Net} (ok : Accepted net) (o : ℕ) (there : o < length net.outputs) where
  abbrev M : ℕ
  M = net.M

  abbrev l : ℕ
  l = get_or net.outputs o 0

  -- the rows that the output's steps leave, and the number that they answer
  abbrev R : Rows
  R = (output_rows net o).rows

  abbrev k : ℕ
  k = (output_rows net o).num

  form : Stands M (output_rows net o) (λ a. literal (run net.gates (values_at M a)) l)
  form = reduced M net.gates l (gates_ascending ok) (output_low ok o there)

  -- at the assignment of a pattern the normal form has the output's value
  form_value : (p : List Bool) (a : Assignment) → values_at net.M a ≡ given net.inputs p → value a R k ≡ output_value net p o
  form_value p a e = form.means a ∙ ap (λ (x : Values). literal (run net.gates x) l) e ∙ sym (get_d_mapped (literal (values net p)) net.outputs o there)

  pub form_0 : (output_rows net o).num ≡ 0 → (p : List Bool) → output_value net p o ≡ false
  form_0 z p = sym (form_value p (ring_of M (given net.inputs p)) (values_given ok p)) ∙ rw z (value_0 _ R)

  -- the one that is found
  abbrev found : Assignment
  found = one R k

  -- it is 0 at all that is no input
  found_free : (v : ℕ) → 0 < v → v ≤ M → defined net.inputs v ≡ false → found (M - v) ≡ false
  found_free v p h d =
      one_absent M R form.sound k form.used (M - v)
      (free_occurs M R form.sound k form.used (M - v) (λ a b. form.means (put a (M - v) b) ∙ output_free ok o there v p h d a b ∙ sym (form.means a)))

  found_pattern : given net.inputs (pattern_of net found) ≡ values_at net.M found
  found_pattern = given_pattern ok found found_free

  pub form_1 : ((output_rows net o).num ≡ 0 → ⊥) → output_value net (pattern_of net (one (output_rows net o).rows (output_rows net o).num)) o ≡ true
  form_1 n = sym (form_value (pattern_of net found) found (sym found_pattern)) ∙ found_one M R form.sound k form.used n

  module _ (q : List Bool) (long : length q ≡ length net.inputs) (is_1 : output_value net q o ≡ true) where
    abbrev b : Assignment
    b = ring_of M (given net.inputs q)

    b_one : value b R k ≡ true
    b_one = form_value q b (values_given ok q) ∙ is_1

    same_values : ((i : ℕ) → i < M → found i ≡ b i) → (v : ℕ) → Place M v → values_at M found v ≡ values_at M b v
    same_values g v (constant e) = rw e (values_0 M found ∙ sym (values_0 M b))
    same_values g v (inside p h) = values_inside M found v p h ∙ g (M - v) (omega arith) ∙ sym (values_inside M b v p h)
    same_values g v (beyond h) = values_beyond M found v h ∙ sym (values_beyond M b v h)

    higher_values : (i : ℕ) → i < M → ((j : ℕ) → j < i → found j ≡ b j) → (w : ℕ) → M - i < w → Place M w → values_at M found w ≡ values_at M b w
    higher_values i k g w x (constant e) = absurd (omega arith)
    higher_values i k g w x (inside p h) = values_inside M found w p h ∙ g (M - w) (omega arith) ∙ sym (values_inside M b w p h)
    higher_values i k g w x (beyond h) = values_beyond M found w h ∙ sym (values_beyond M b w h)

    -- the same of what the patterns give
    as_given : (v : ℕ) → values_at M found v ≡ values_at M b v → given net.inputs (pattern_of net found) v ≡ given net.inputs q v
    as_given v e = ap (λ (x : Values). x v) found_pattern ∙ e ∙ ap (λ (x : Values). x v) (values_given ok q)

    pub found_least : NotGreater net.inputs (pattern_of net (one (output_rows net o).rows (output_rows net o).num)) q
    found_least = go (compare found b M)
      where
        go : Compared found b M → NotGreater net.inputs (pattern_of net found) q
        go (agree g) = same (given_same ok (pattern_of net found) q (length-map net.inputs (λ x. found (M - x / 2))) long (fun_ext (λ v. as_given v (same_values g v (place M v)))))
        go (differ i h g d) =
            let x = zero_one (found i) (b i) d (least_one M R form.sound k form.used b b_one i (λ j k. sym (g j k))) in
            let back : M - (M - i) ≡ i = omega arith in
            less (M - i)
            (ap (λ (y : Values). y (M - i)) found_pattern ∙ values_inside M found (M - i) (omega arith) (omega arith) ∙ ap found back ∙ x.0)
            x.1
            (λ w k. as_given w (higher_values i h g w k (place M w)))
