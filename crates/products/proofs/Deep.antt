-- The steps of the product where it goes deeper, piece by piece.
use Prim.Native.Nat.{ℕ, suc, ◌+◌, ◌*◌, ◌-◌, ◌<◌, ◌≤◌, min}
use mathlib.Core.Path.{◌≡◌}
use mathlib.Core.Bool.{◌&&◌, xor}
use mathlib.Core.List.{List}
use native.Mathlib.Omega.{arith}
use native.Mathlib.Nat.{le-min, min-le_left, min-le_right}
use Rattle.steps.specs.Rows.{Rows, next, root, value}
use Rattle.steps.specs.Steps.{◌>>=◌, make, sum, product}
use Rattle.steps.specs.Table.{Slices, rows_of}
use Rattle.steps.proofs.Keeps.{Keeps, keeps_make, keeps_sums, keeps_products, keeps_bind}
use Rattle.steps.proofs.Table.{rows_of_next}
use Rattle.steps.proofs.Theorems.{Right, sum_right, product_right, make_right}
use Rattle.table.specs.declared.Row.{Row}
use Rattle.table.specs.Made.{Made}
use Rattle.table.specs.Made.{At as Made-at, Full}
use Rattle.table.specs.Index.{Indexed}
use Rattle.table.specs.Memory.{Live}
use Rattle.table.specs.Inner.{Entered, Kept}
use Rattle.table.proofs.Takes.{taken_rows}
use Rattle.sums.specs.Inner.{Pair, depth, Split}
use Rattle.sums.proofs.Keeping.{kept_by, kept_full, kept_then, kept_made, Step, stepped}
use Rattle.sums.proofs.Splits.{At, split_at, deeper}
use Rattle.products.specs.Inner.{Proper, Three, Quad, three_steps, rest_steps, then_steps, depth_rest, depth_then}
use Rattle.products.proofs.Parts.{apart, split_product, then_right}

module _ (N c : ℕ) (s : Slices) (work : List ℕ) (live : Live N c s work) (x y : ℕ) (ux : x < c + 2) (uy : y < c + 2) (k : Row) (n : ℕ) (s' : Slices) (work' : List ℕ) where
  pub summed : Kept N (sum N x y) (Made-at k n) c s s' work work' → Step N c s k.0 n s'
  summed d = stepped (sum_right N (rows_of s c) live.sound x y (omega (arith, rows_of_next s c)) (omega (arith, rows_of_next s c)) 0 (omega arith) (omega arith)) d

  pub multiplied : Kept N (product N x y) (Made-at k n) c s s' work work' → Step N c s k.0 n s'
  multiplied d = stepped (product_right N (rows_of s c) live.sound x y (omega (arith, rows_of_next s c)) (omega (arith, rows_of_next s c)) 0 (omega arith) (omega arith)) d

-- the two sums
module _ (N c : ℕ) (s : Slices) (work : List ℕ) (x y z : ℕ) (d : Three N c s work x y z) where
  keeps_plus : (k : ℕ) → Keeps (sum N k z)
  keeps_plus k = keeps_sums N (suc N) k z

  pub three_asks : Pair N c s work x y
  three_asks = record { live = d.live; left = d.first; right = d.second }

  pub three_full : {s₁ : Slices} {work₁ : List ℕ} → Kept N (sum N x y) Full c s s₁ work work₁ → Kept N (three_steps N x y z) Full c s s₁ work work₁
  three_full k = kept_full (λ k. sum N k z) keeps_plus k

  module _ (t : Row) (n : ℕ) (s₁ : Slices) (work₁ : List ℕ) (k : Kept N (sum N x y) (Made-at t n) c s s₁ work work₁) where
    pub three_asks_2 : Pair N n s₁ work₁ t.0 z
    three_asks_2 = let q = summed N c s work d.live x y d.first d.second t n s₁ work₁ k in record { live = k.live; left = q.used; right = q.still z d.third }

    pub three_done : {r : Made} {s₂ : Slices} {work₂ : List ℕ} → Kept N (sum N t.0 z) r n s₁ s₂ work₁ work₂ → Kept N (three_steps N x y z) r c s s₂ work work₂
    three_done l = kept_then (λ k. sum N k z) keeps_plus k l

-- the rest of the then-part
module _ (N c : ℕ) (s : Slices) (work : List ℕ) (a ft gt ge : ℕ) (d : Quad N c s work ft a gt ge) where
  keeps_third : (b z : ℕ) → Keeps (three_steps N a b z)
  keeps_third b z = keeps_bind (sum N a b) (λ k. sum N k z) (keeps_sums N (suc N) a b) (λ k. keeps_sums N (suc N) k z)

  keeps_second : (b : ℕ) → Keeps (product N ft ge >>= λ z. three_steps N a b z)
  keeps_second b = keeps_bind (product N ft ge) (λ z. three_steps N a b z) (keeps_products N (suc N) ft ge) (keeps_third b)

  pub rest_full : {s₁ : Slices} {work₁ : List ℕ} → Kept N (product N ft gt) Full c s s₁ work work₁ → Kept N (rest_steps N a ft gt ge) Full c s s₁ work work₁
  rest_full k = kept_full (λ b. product N ft ge >>= λ z. three_steps N a b z) keeps_second k

  module _ (b : Row) (n : ℕ) (s₁ : Slices) (work₁ : List ℕ) (k : Kept N (product N ft gt) (Made-at b n) c s s₁ work work₁) where
    first_done : Step N c s b.0 n s₁
    first_done = multiplied N c s work d.live ft gt d.ft_used d.gt_used b n s₁ work₁ k

    pub rest_asks_2 : (t : ℕ) → 4 * depth_rest N (rows_of s c) ft gt ge + 2 ≡ t → (4 * depth N (rows_of s₁ n) ft ge + 1 < t) × Pair N n s₁ work₁ ft ge
    rest_asks_2 t e =
        let R = rows_of s c in
        let h : min (root N R ft) (min (root N R gt) (root N R ge)) ≤ min (root N R ft) (root N R ge) =
        le-min (min-le_left (root N R ft) (min (root N R gt) (root N R ge))) (omega (arith, min-le_right (root N R ft) (min (root N R gt) (root N R ge)), min-le_right (root N R gt) (root N R ge))) in
        let z : min (root N (rows_of s₁ n) ft) (root N (rows_of s₁ n) ge) ≡ min (root N R ft) (root N R ge) = rw (first_done.same_root ft d.ft_used, first_done.same_root ge d.ge_used) in
        (omega arith, record { live = k.live; left = first_done.still ft d.ft_used; right = first_done.still ge d.ge_used })

    pub rest_full_2 : {s₂ : Slices} {work₂ : List ℕ} → Kept N (product N ft ge) Full n s₁ s₂ work₁ work₂ → Kept N (rest_steps N a ft gt ge) Full c s s₂ work work₂
    rest_full_2 l = kept_then (λ b. product N ft ge >>= λ z. three_steps N a b z) keeps_second k (kept_full (λ z. three_steps N a b.0 z) (keeps_third b.0) l)

    module _ (z : Row) (n₂ : ℕ) (s₂ : Slices) (work₂ : List ℕ) (l : Kept N (product N ft ge) (Made-at z n₂) n s₁ s₂ work₁ work₂) where
      second_done : Step N n s₁ z.0 n₂ s₂
      second_done = multiplied N n s₁ work₁ k.live ft ge (first_done.still ft d.ft_used) (first_done.still ge d.ge_used) z n₂ s₂ work₂ l

      pub rest_asks_3 : Three N n₂ s₂ work₂ a b.0 z.0
      rest_asks_3 = record { live = l.live; first = second_done.still a (first_done.still a d.fe_used); second = second_done.still b.0 first_done.used; third = second_done.used }

      pub rest_done : {r : Made} {s₃ : Slices} {work₃ : List ℕ} → Kept N (three_steps N a b.0 z.0) r n₂ s₂ s₃ work₂ work₃ → Kept N (rest_steps N a ft gt ge) r c s s₃ work work₃
      rest_done m = kept_then (λ b. product N ft ge >>= λ z. three_steps N a b z) keeps_second k (kept_then (λ z. three_steps N a b.0 z) (keeps_third b.0) l m)

less_deep : (N k m t : ℕ) → k ≤ m → 4 * (N - k) + 3 ≡ t → 4 * (N - m) + 2 < t
less_deep N k m t h e = omega arith

-- the then-part
module _ (N c : ℕ) (s : Slices) (work : List ℕ) (ft fe gt ge : ℕ) (d : Quad N c s work ft fe gt ge) where
  keeps_rest : (a : ℕ) → Keeps (rest_steps N a ft gt ge)
  keeps_rest a = keeps_bind (product N ft gt) (λ b. product N ft ge >>= λ z. three_steps N a b z) (keeps_products N (suc N) ft gt) (λ b.
      keeps_bind (product N ft ge) (λ z. three_steps N a b z) (keeps_products N (suc N) ft ge) (λ z.
      keeps_bind (sum N a b) (λ k. sum N k z) (keeps_sums N (suc N) a b) (λ k. keeps_sums N (suc N) k z)))

  pub then_asks_second : (t : ℕ) → 4 * depth_then N (rows_of s c) ft fe gt ge + 3 ≡ t → (4 * depth N (rows_of s c) ft ge + 1 < t) × Pair N c s work ft ge
  then_asks_second t e =
      let R = rows_of s c in
      let m = min (root N R ft) (min (root N R gt) (root N R ge)) in
      let h : min (root N R fe) m ≤ min (root N R ft) (root N R ge) =
      le-min (omega (arith, min-le_right (root N R fe) m, min-le_left (root N R ft) (min (root N R gt) (root N R ge))))
      (omega (arith, min-le_right (root N R fe) m, min-le_right (root N R ft) (min (root N R gt) (root N R ge)), min-le_right (root N R gt) (root N R ge))) in
      (omega arith, record { live = d.live; left = d.ft_used; right = d.ge_used })

  pub then_full : {s₁ : Slices} {work₁ : List ℕ} → Kept N (product N fe gt) Full c s s₁ work work₁ → Kept N (then_steps N ft fe gt ge) Full c s s₁ work work₁
  then_full k = kept_full (λ a. rest_steps N a ft gt ge) keeps_rest k

  module _ (a : Row) (n : ℕ) (s₁ : Slices) (work₁ : List ℕ) (k : Kept N (product N fe gt) (Made-at a n) c s s₁ work work₁) where
    a_done : Step N c s a.0 n s₁
    a_done = multiplied N c s work d.live fe gt d.fe_used d.gt_used a n s₁ work₁ k

    pub then_asks_2 : (t : ℕ) → 4 * depth_then N (rows_of s c) ft fe gt ge + 3 ≡ t → (4 * depth_rest N (rows_of s₁ n) ft gt ge + 2 < t) × Quad N n s₁ work₁ ft a.0 gt ge
    then_asks_2 t e =
        let R = rows_of s c in
        let m = min (root N R ft) (min (root N R gt) (root N R ge)) in
        let z : min (root N (rows_of s₁ n) ft) (min (root N (rows_of s₁ n) gt) (root N (rows_of s₁ n) ge)) ≡ m = rw (a_done.same_root ft d.ft_used, a_done.same_root gt d.gt_used, a_done.same_root ge d.ge_used) in
        (rw z (less_deep N (min (root N R fe) m) m t (min-le_right (root N R fe) m) e), record { live = k.live; ft_used = a_done.still ft d.ft_used; fe_used = a_done.used; gt_used = a_done.still gt d.gt_used; ge_used = a_done.still ge d.ge_used })

    pub then_done : {r : Made} {s₂ : Slices} {work₂ : List ℕ} → Kept N (rest_steps N a.0 ft gt ge) r n s₁ s₂ work₁ work₂ → Kept N (then_steps N ft fe gt ge) r c s s₂ work work₂
    then_done l = kept_then (λ a. rest_steps N a ft gt ge) keeps_rest k l

-- the whole step
module _ (N c : ℕ) (s : Slices) (work : List ℕ) (f g : ℕ) (d : Pair N c s work f g) (a : Proper f g) (v ft gt fe ge : ℕ) (p : Split N (rows_of s c) f g v ft gt fe ge) where
  abbrev R : Rows
  R = rows_of s c

  used : (k : ℕ) → k < c + 2 → k < next R
  used k h = omega (arith, rows_of_next s c)

  at : At N R f g v ft gt fe ge
  at = split_at N R d.live.sound f g (used f d.left) (used g d.right) (apart a) p

  keeps_make_of : (t : ℕ) → Keeps (product N fe ge >>= make v t)
  keeps_make_of t = keeps_bind (product N fe ge) (make v t) (keeps_products N (suc N) fe ge) (keeps_make v t)

  steps : product N f g R ≡ (then_steps N ft fe gt ge >>= λ t. product N fe ge >>= make v t) R
  steps = split_product N R d.live.sound f g (used f d.left) (used g d.right) a p

  back : (k : ℕ) → k < next R → k < c + 2
  back k h = omega (arith, rows_of_next s c)

  pub deep_asks : (t : ℕ) → 4 * depth N (rows_of s c) f g ≡ t → (4 * depth_then N (rows_of s c) ft fe gt ge + 3 < t) × Quad N c s work ft fe gt ge
  deep_asks t e =
      let h = le-min at.fe_above (le-min at.ft_above (le-min at.gt_above at.ge_above)) in
      (omega (arith, h, at.lesser, at.below), record { live = d.live; ft_used = back ft at.ft_used; fe_used = back fe at.fe_used; gt_used = back gt at.gt_used; ge_used = back ge at.ge_used })

  pub deep_full : {s₁ : Slices} {work₁ : List ℕ} → Kept N (then_steps N ft fe gt ge) Full c s s₁ work work₁ → Kept N (product N f g) Full c s s₁ work work₁
  deep_full k = kept_by steps (kept_full (λ t. product N fe ge >>= make v t) keeps_make_of k)

  module _ (t : Row) (n : ℕ) (s₁ : Slices) (work₁ : List ℕ) (k : Kept N (then_steps N ft fe gt ge) (Made-at t n) c s s₁ work work₁) where
    abbrev R₁ : Rows
    R₁ = rows_of s₁ n

    one : Right N (then_steps N ft fe gt ge) R (suc v) (λ a. xor (xor (value a R fe && value a R gt) (value a R ft && value a R gt)) (value a R ft && value a R ge))
    one = then_right N R d.live.sound f g (used f d.left) (used g d.right) a p

    then_taken : Step N c s t.0 n s₁
    then_taken = stepped one k

    above : (x : ℕ) → x < next R → v < root N R x → v < root N R₁ x
    above x u h = rw (then_taken.same_root x (back x u)) h

    pub deep_asks_2 : (m : ℕ) → 4 * depth N (rows_of s c) f g ≡ m → (4 * depth N (rows_of s₁ n) fe ge + 1 < m) × Pair N n s₁ work₁ fe ge
    deep_asks_2 m e = (
      omega (arith, deeper N R R₁ f g v fe ge at.lesser at.below (above fe at.fe_used at.fe_above) (above ge at.ge_used at.ge_above)),
      record { live = k.live; left = then_taken.still fe (back fe at.fe_used); right = then_taken.still ge (back ge at.ge_used) },
    )

    pub deep_full_2 : {s₂ : Slices} {work₂ : List ℕ} → Kept N (product N fe ge) Full n s₁ s₂ work₁ work₂ → Kept N (product N f g) Full c s s₂ work work₂
    deep_full_2 l = kept_by steps (kept_then (λ t. product N fe ge >>= make v t) keeps_make_of k (kept_full (make v t.0) (keeps_make v t.0) l))

    module _ (e : Row) (n₂ : ℕ) (s₂ : Slices) (work₂ : List ℕ) (l : Kept N (product N fe ge) (Made-at e n₂) n s₁ s₂ work₁ work₂) where
      abbrev R₂ : Rows
      R₂ = rows_of s₂ n₂

      two : Right N (product N fe ge) R₁ (suc v) (λ a. value a R₁ fe && value a R₁ ge)
      two =
          product_right N R₁ k.live.sound fe ge (omega (arith, then_taken.still fe (back fe at.fe_used), rows_of_next s₁ n)) (omega (arith, then_taken.still ge (back ge at.ge_used), rows_of_next s₁ n)) (suc v)
          (above fe at.fe_used at.fe_above) (above ge at.ge_used at.ge_above)

      else_taken : Step N n s₁ e.0 n₂ s₂
      else_taken = stepped two l

      then_above : v < root N R₁ t.0
      then_above = rw (taken_rows k.taken) at one.above

      else_above : v < root N R₂ e.0
      else_above = rw (taken_rows l.taken) at two.above

      fits : Right N (make v t.0 e.0) R₂ v (λ a. xor (a v && value a R₂ t.0) (value a R₂ e.0))
      fits =
          make_right N R₂ l.live.sound v t.0 e.0 at.below (omega (arith, else_taken.still t.0 then_taken.used, rows_of_next s₂ n₂)) (omega (arith, else_taken.used, rows_of_next s₂ n₂))
          (rw (else_taken.same_root t.0 then_taken.used) then_above) else_above

      pub make_asks : Indexed n₂ s₂ work₂
      make_asks = l.live.indexed

      pub product_made : {r : Made} {s₃ : Slices} {work₃ : List ℕ} → Entered (make v t.0 e.0) r n₂ s₂ s₃ work₂ work₃ → Kept N (product N f g) r c s s₃ work work₃
      product_made m =
          kept_by steps (kept_then (λ t. product N fe ge >>= make v t) keeps_make_of k (kept_then (make v t.0) (keeps_make v t.0) l (kept_made l.live m fits.appends fits.sound)))
