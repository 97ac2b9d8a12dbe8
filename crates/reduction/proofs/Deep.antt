-- The steps of the normal form, function by function.
use Prim.Native.Nat.{ℕ, suc, ◌+◌, ◌*◌, ◌-◌, ◌<◌, ◌≤◌, min}
use mathlib.Core.Path.{◌≡◌, ap, ◌∙◌}
use mathlib.Core.Bool.{◌&&◌, xor}
use mathlib.Core.List.{List}
use native.Mathlib.Omega.{arith}
use native.Mathlib.Nat.{le-min, min-le_left, min-eq_left}
use lib.ListN.{length, set}
use Rattle.steps.specs.Rows.{Row as Triple, row_of, next, row, root, value}
use Rattle.steps.specs.Steps.{answer, ◌>>=◌, make, sum, product, normal}
use Rattle.steps.specs.Table.{Slices, rows_of}
use Rattle.steps.proofs.Keeps.{Keeps, keeps_make, keeps_sums, keeps_products, keeps_normals, keeps_bind}
use Rattle.steps.proofs.Laws.{normal_below, normal_equal}
use Rattle.steps.proofs.Normal.{normals_const}
use Rattle.steps.proofs.Rows.{Node, node}
use Rattle.steps.proofs.Solve.{solve}
use Rattle.steps.proofs.Table.{rows_of_next}
use Rattle.steps.proofs.Theorems.{Right, normal_right, make_right}
use Rattle.table.specs.declared.Row.{Row}
use Rattle.std.specs.Prelude.{Option, Some}
use Rattle.table.specs.Made.{Made, At as Made-at, Full}
use Rattle.table.specs.Lent.{room}
use Rattle.table.specs.Memory.{steps_of, key_of, Place, Recalls}
use Rattle.table.specs.Inner.{Entered, Kept}
use Rattle.table.proofs.Takes.{taken_rows}
use Rattle.table.proofs.Words.{steps_normal}
use Rattle.sums.specs.Inner.{Pair, depth}
use Rattle.sums.proofs.Keeping.{kept_by, kept_full, kept_then, kept_made, Step, stepped}
use Rattle.sums.proofs.Recalling.{key_fits, steps_recalled, steps_remembered}
use Rattle.products.specs.Inner.{Three}
use Rattle.products.proofs.Deep.{multiplied}
use Rattle.leads.specs.Inner.{Skips, Reducing}
use Rattle.reduction.specs.Inner.{Reduces, Proper, Below, Meet, Rest, below_steps, join_steps, rest_steps, meet_steps}
use Rattle.leads.proofs.Skipping.{skips_left, skips_normal, normal_empty}
use Rattle.leads.proofs.Tabling.{left_reduces, others_reduce, reducing_keeps}

in_rows : (s : Slices) (c k : ℕ) → k < c + 2 → k < next (rows_of s c)
in_rows s c k h = omega (arith, rows_of_next s c)

no_deeper : (N a b g : ℕ) → a ≤ g → N - min a g ≤ N - min a b
no_deeper N a b g h = omega (arith, min-le_left a b, min-eq_left h)

-- numbers with roots behind v are not so deep
parts_fall : (N v a b m : ℕ) → v < N → v < a → v < b → 4 * (N - v) ≤ m → 4 * (N - min a b) + 3 < m
parts_fall N v a b m h ha hb e = omega (arith, le-min ha hb)

keeps_normal : (N p f : ℕ) → Keeps (normal N p f)
keeps_normal N p f = keeps_normals N (suc N) p f

-- what a normal form leaves: its number, in use, with its root behind v where the operands' roots are
module _ (N c : ℕ) (s : Slices) (work : List ℕ) (p f : ℕ) (d : Reducing N c s work f) (u : p < c + 2) where
  pub right_by : (low : ℕ) → low ≤ root N (rows_of s c) p → low ≤ root N (rows_of s c) f → Right N (normal N p f) (rows_of s c) low (λ a. value (solve (rows_of s c) f a) (rows_of s c) p)
  right_by low lp lf = normal_right N (rows_of s c) d.live.sound p f (in_rows s c p u) (in_rows s c f d.system.used) low lp lf d.system.not_0

  right : Right N (normal N p f) (rows_of s c) 0 (λ a. value (solve (rows_of s c) f a) (rows_of s c) p)
  right = right_by 0 (omega arith) (omega arith)

  module _ (k : Row) (n : ℕ) (s' : Slices) (work' : List ℕ) (e : Kept N (normal N p f) (Made-at k n) c s s' work work') where
    formed : Step N c s k.0 n s'
    formed = stepped right e

    still_by : Reducing N n s' work' f
    still_by = reducing_keeps N c s work f d n s' work' formed.grown (formed.still f d.system.used) e.taken.vars e.behind e.live

    formed_above : (v : ℕ) → v < root N (rows_of s c) p → v < root N (rows_of s c) f → v < root N (rows_of s' n) k.0
    formed_above v lp lf = rw (taken_rows e.taken) at (right_by (suc v) lp lf).above

-- the normal form of p by f
module _ (N c : ℕ) (s : Slices) (work : List ℕ) (p f : ℕ) (d : Reduces N c s work p f) where
  pub form_const : p < 2 → normal N p f (rows_of s c) ≡ answer p (rows_of s c)
  form_const h = normals_const N N p f (rows_of s c) h

  module _ (p2 : 2 ≤ p) (v t e : ℕ) (q : row N (rows_of s c) p ≡ row_of v t e) where
    inner : Node N (rows_of s c) p
    inner = node N (rows_of s c) d.by.live.sound p (in_rows s c p d.used) p2

    pub form_below : v < N
    form_below = rw q at inner.var_below

    module _ (g : ℕ) (k : Skips N (rows_of s c) v f g) where
      same : normal N p f (rows_of s c) ≡ normal N p g (rows_of s c)
      same =
          skips_normal N (rows_of s c) d.by.live.sound v (omega (arith, form_below)) p f g (in_rows s c p d.used) p2 (rw (root, q) (omega arith))
          (in_rows s c f d.by.system.used) d.by.system.not_0 k

      by : Reducing N c s work g
      by = left_reduces N c s work f d.by v form_below g k

      pub form_empty : g ≡ 1 → normal N p f (rows_of s c) ≡ answer p (rows_of s c)
      form_empty e = same ∙ normal_empty N (rows_of s c) p g e

      reached : root N (rows_of s c) p ≤ root N (rows_of s c) g
      reached =
          rw (root, q) (skips_left N (rows_of s c) d.by.live.sound v (omega (arith, form_below)) f g (in_rows s c f d.by.system.used) d.by.system.not_0 k).reached

      pub form_deep : (g ≡ 1 → ⊥) → (m : ℕ) → 4 * depth N (rows_of s c) p f + 3 ≡ m
          → (4 * depth N (rows_of s c) p g + 2 < m) × (Reduces N c s work p g × Proper N (rows_of s c) p g)
      form_deep g1 m e = (
        omega (arith, no_deeper N (root N (rows_of s c) p) (root N (rows_of s c) f) (root N (rows_of s c) g) reached),
        (record { by = by; used = d.used }, record { inner = p2; some = g1; reached = reached }),
      )

      pub form_full : {s' : Slices} {work' : List ℕ} → Kept N (normal N p g) Full c s s' work work' → Kept N (normal N p f) Full c s s' work work'
      form_full e = kept_by same e

      module _ (key : ℕ) (z : key_of 3 p g ≡ key) where
        pub form_key : key < 65536 * 65536 * 4
        form_key = key_fits N c s work d.by.live 3 p g (omega arith) d.used by.system.used key z

        is_normal : (a b : ℕ) → steps_of N 3 a b ≡ normal N a b
        is_normal a b = steps_normal N 3 a b (omega arith) (omega arith)

        module _ (i : ℕ) (place : Place (room s) (length work) i) where
          pub form_recalled : {r : Option Row} {n : Row} → r ≡ Some n → Recalls r work i key → normal N p f (rows_of s c) ≡ answer n.0 (rows_of s c)
          form_recalled e h = same ∙ steps_recalled N c s work d.by.live 3 p g (omega arith) d.used by.system.used key z (omega arith) (normal N p g) (is_normal p g) i place e h

          pub form_remembered : (n : Row) (c' : ℕ) (s' : Slices) (work' : List ℕ) → Kept N (normal N p g) (Made-at n c') c s s' work work'
              → (work'' : List ℕ) → set work' i (key * 65536 + n.0) ≡ work'' → Kept N (normal N p f) (Made-at n c') c s s' work work''
          form_remembered n c' s' work' e work'' w =
              kept_by same (steps_remembered N c s work d.by.live 3 p g (omega arith) d.used by.system.used key z (omega arith) (normal N p g) (is_normal p g) i place
              (λ o. by.system.not_0) _ (right N c s work p g by d.used) n c' s' work' e work'' w)

-- where the first lead is at p's root or behind it
module _ (N c : ℕ) (s : Slices) (work : List ℕ) (p f : ℕ) (d : Reduces N c s work p f) (a : Proper N (rows_of s c) p f) where
  system_2 : 2 ≤ f
  system_2 = omega (arith, a.some, d.by.system.not_0)

  deep_node : Node N (rows_of s c) p
  deep_node = node N (rows_of s c) d.by.live.sound p (in_rows s c p d.used) a.inner

  lead_node : Node N (rows_of s c) f
  lead_node = node N (rows_of s c) d.by.live.sound f (in_rows s c f d.by.system.used) system_2

  back : (k : ℕ) → k < next (rows_of s c) → k < c + 2
  back k h = omega (arith, rows_of_next s c)

  module _ (v t e u h l : ℕ) (q : row N (rows_of s c) p ≡ row_of v t e) (q' : row N (rows_of s c) f ≡ row_of u h l) where
    depth_is : (m : ℕ) → 4 * depth N (rows_of s c) p f + 2 ≡ m → 4 * (N - v) + 1 < m
    depth_is m z = let v_is : root N (rows_of s c) p ≡ v = ap (λ (r : Triple). r.var) q in omega (arith, min-eq_left a.reached)

    pub below_asks : v < u → (m : ℕ) → 4 * depth N (rows_of s c) p f + 2 ≡ m → (4 * (N - v) + 1 < m) × Below N c s work v t e f
    below_asks b m z = (
      depth_is m z,
      record {
        by = d.by;
        var_below = rw q at deep_node.var_below;
        then_used = back t (rw q at deep_node.cut.then_used);
        else_used = back e (rw q at deep_node.cut.else_used);
        then_above = rw q at deep_node.cut.then_above;
        else_above = rw q at deep_node.cut.else_above;
        system_above = rw (root, q') b;
      },
    )

    pub below_done : v < u → {r : Made} {s' : Slices} {work' : List ℕ} → Kept N (below_steps N v t e f) r c s s' work work' → Kept N (normal N p f) r c s s' work work'
    below_done b k =
        kept_by (rw q at (normal_below N (rows_of s c) d.by.live.sound p f (in_rows s c p d.used) (in_rows s c f d.by.system.used) d.by.system.not_0 a.some a.inner (rw (q, q') b))) k

    equal : u ≤ v → v ≡ u
    equal b = let z : v ≤ u = rw (root, q, q') at a.reached in omega arith

    pub meet_asks : u ≤ v → (m : ℕ) → 4 * depth N (rows_of s c) p f + 2 ≡ m → (4 * (N - v) + 1 < m) × Meet N c s work v t e h l
    meet_asks b m z = (
      depth_is m z,
      record {
        parts = record {
          by = rw q' at (others_reduce N c s work f d.by lead_node.var_below);
          var_below = rw q at deep_node.var_below;
          then_used = back t (rw q at deep_node.cut.then_used);
          else_used = back e (rw q at deep_node.cut.else_used);
          then_above = rw q at deep_node.cut.then_above;
          else_above = rw q at deep_node.cut.else_above;
          system_above = rw (equal b) (rw q' at lead_node.cut.then_above);
        };
        tail_used = back l (rw q' at lead_node.cut.else_used);
        tail_above = rw (equal b) (rw q' at lead_node.cut.else_above);
      },
    )

    pub meet_done : u ≤ v → {r : Made} {s' : Slices} {work' : List ℕ} → Kept N (meet_steps N t e h l) r c s s' work work' → Kept N (normal N p f) r c s s' work work'
    meet_done b k =
        kept_by (rw (q, q') at (normal_equal N (rows_of s c) d.by.live.sound p f (in_rows s c p d.used) (in_rows s c f d.by.system.used) d.by.system.not_0 a.some a.inner (rw (q, q') (equal b)))) k

-- below: the normal forms of both parts, make
module _ (N c : ℕ) (s : Slices) (work : List ℕ) (v t e f : ℕ) (d : Below N c s work v t e f) where
  keeps_below : (k : ℕ) → Keeps (normal N e f >>= make v k)
  keeps_below k = keeps_bind (normal N e f) (make v k) (keeps_normal N e f) (keeps_make v k)

  pub then_full : {s₁ : Slices} {work₁ : List ℕ} → Kept N (normal N t f) Full c s s₁ work work₁ → Kept N (below_steps N v t e f) Full c s s₁ work work₁
  then_full k = kept_full (λ x. normal N e f >>= make v x) keeps_below k

  module _ (x : Row) (n : ℕ) (s₁ : Slices) (work₁ : List ℕ) (k : Kept N (normal N t f) (Made-at x n) c s s₁ work work₁) where
    done : Step N c s x.0 n s₁
    done = formed N c s work t f d.by d.then_used x n s₁ work₁ k

    by₁ : Reducing N n s₁ work₁ f
    by₁ = still_by N c s work t f d.by d.then_used x n s₁ work₁ k

    e_above : v < root N (rows_of s₁ n) e
    e_above = rw (done.same_root e d.else_used) d.else_above

    f_above : v < root N (rows_of s₁ n) f
    f_above = rw (done.same_root f d.by.system.used) d.system_above

    pub else_asks : (m : ℕ) → 4 * (N - v) + 1 ≡ m → (4 * depth N (rows_of s₁ n) e f + 3 < m) × Reduces N n s₁ work₁ e f
    else_asks m z = (parts_fall N v _ _ m d.var_below e_above f_above (omega arith), record { by = by₁; used = done.still e d.else_used })

    pub else_full : {s₂ : Slices} {work₂ : List ℕ} → Kept N (normal N e f) Full n s₁ s₂ work₁ work₂ → Kept N (below_steps N v t e f) Full c s s₂ work work₂
    else_full l = kept_then (λ x. normal N e f >>= make v x) keeps_below k (kept_full (make v x.0) (keeps_make v x.0) l)

    module _ (y : Row) (n₂ : ℕ) (s₂ : Slices) (work₂ : List ℕ) (l : Kept N (normal N e f) (Made-at y n₂) n s₁ s₂ work₁ work₂) where
      done₂ : Step N n s₁ y.0 n₂ s₂
      done₂ = formed N n s₁ work₁ e f by₁ (done.still e d.else_used) y n₂ s₂ work₂ l

      x_above : v < root N (rows_of s₂ n₂) x.0
      x_above = rw (done₂.same_root x.0 done.used) (formed_above N c s work t f d.by d.then_used x n s₁ work₁ k v d.then_above d.system_above)

      y_above : v < root N (rows_of s₂ n₂) y.0
      y_above = formed_above N n s₁ work₁ e f by₁ (done.still e d.else_used) y n₂ s₂ work₂ l v e_above f_above

      fits : Right N (make v x.0 y.0) (rows_of s₂ n₂) v (λ a. xor (a v && value a (rows_of s₂ n₂) x.0) (value a (rows_of s₂ n₂) y.0))
      fits =
          make_right N (rows_of s₂ n₂) l.live.sound v x.0 y.0 d.var_below (in_rows s₂ n₂ x.0 (done₂.still x.0 done.used)) (in_rows s₂ n₂ y.0 done₂.used) x_above y_above

      pub below_made : {r : Made} {s₃ : Slices} {work₃ : List ℕ} → Entered (make v x.0 y.0) r n₂ s₂ s₃ work₂ work₃ → Kept N (below_steps N v t e f) r c s s₃ work work₃
      below_made m = kept_then (λ x. normal N e f >>= make v x) keeps_below k (kept_then (make v x.0) (keeps_make v x.0) l (kept_made l.live m fits.appends fits.sound))

-- "then a·b, then that + c"
module _ (N c : ℕ) (s : Slices) (work : List ℕ) (x y z : ℕ) (d : Three N c s work x y z) where
  keeps_plus : (k : ℕ) → Keeps (sum N k z)
  keeps_plus k = keeps_sums N (suc N) k z

  pub join_full : {s₁ : Slices} {work₁ : List ℕ} → Kept N (product N x y) Full c s s₁ work work₁ → Kept N (join_steps N x y z) Full c s s₁ work work₁
  join_full k = kept_full (λ k. sum N k z) keeps_plus k

  module _ (t : Row) (n : ℕ) (s₁ : Slices) (work₁ : List ℕ) (k : Kept N (product N x y) (Made-at t n) c s s₁ work work₁) where
    pub join_asks_2 : Pair N n s₁ work₁ t.0 z
    join_asks_2 = let q = multiplied N c s work d.live x y d.first d.second t n s₁ work₁ k in record { live = k.live; left = q.used; right = q.still z d.third }

    pub join_done : {r : Made} {s₂ : Slices} {work₂ : List ℕ} → Kept N (sum N t.0 z) r n s₁ s₂ work₁ work₂ → Kept N (join_steps N x y z) r c s s₂ work work₂
    join_done l = kept_then (λ k. sum N k z) keeps_plus k l

keeps_join : (N a b k : ℕ) → Keeps (join_steps N a b k)
keeps_join N a b k = keeps_bind (product N a b) (λ d. sum N d k) (keeps_products N (suc N) a b) (λ d. keeps_sums N (suc N) d k)

-- after a and b
module _ (N c : ℕ) (s : Slices) (work : List ℕ) (a b v e f : ℕ) (d : Rest N c s work a b v e f) where
  pub rest_full : {s₁ : Slices} {work₁ : List ℕ} → Kept N (normal N e f) Full c s s₁ work work₁ → Kept N (rest_steps N a b e f) Full c s s₁ work work₁
  rest_full k = kept_full (join_steps N a b) (keeps_join N a b) k

  module _ (x : Row) (n : ℕ) (s₁ : Slices) (work₁ : List ℕ) (k : Kept N (normal N e f) (Made-at x n) c s s₁ work work₁) where
    pub rest_joins : Three N n s₁ work₁ a b x.0
    rest_joins =
        let q = formed N c s work e f d.by d.else_used x n s₁ work₁ k in
        record { live = k.live; first = q.still a d.a_used; second = q.still b d.b_used; third = q.used }

    pub rest_done : {r : Made} {s₂ : Slices} {work₂ : List ℕ} → Kept N (join_steps N a b x.0) r n s₁ s₂ work₁ work₂ → Kept N (rest_steps N a b e f) r c s s₂ work work₂
    rest_done l = kept_then (join_steps N a b) (keeps_join N a b) k l

keeps_rest : (N a b e f : ℕ) → Keeps (rest_steps N a b e f)
keeps_rest N a b e f = keeps_bind (normal N e f) (join_steps N a b) (keeps_normal N e f) (keeps_join N a b)

-- equal roots: a, b, and the rest
module _ (N c : ℕ) (s : Slices) (work : List ℕ) (v t e f u : ℕ) (d : Meet N c s work v t e f u) where
  keeps_b : (a : ℕ) → Keeps (normal N t f >>= λ b. rest_steps N a b e f)
  keeps_b a = keeps_bind (normal N t f) (λ b. rest_steps N a b e f) (keeps_normal N t f) (λ b. keeps_rest N a b e f)

  pub a_full : {s₁ : Slices} {work₁ : List ℕ} → Kept N (normal N u f) Full c s s₁ work work₁ → Kept N (meet_steps N t e f u) Full c s s₁ work work₁
  a_full k = kept_full (λ a. normal N t f >>= λ b. rest_steps N a b e f) keeps_b k

  module _ (x : Row) (n : ℕ) (s₁ : Slices) (work₁ : List ℕ) (k : Kept N (normal N u f) (Made-at x n) c s s₁ work work₁) where
    a_done : Step N c s x.0 n s₁
    a_done = formed N c s work u f d.parts.by d.tail_used x n s₁ work₁ k

    by_a : Reducing N n s₁ work₁ f
    by_a = still_by N c s work u f d.parts.by d.tail_used x n s₁ work₁ k

    pub b_asks : (m : ℕ) → 4 * (N - v) + 1 ≡ m → (4 * depth N (rows_of s₁ n) t f + 3 < m) × Reduces N n s₁ work₁ t f
    b_asks m z = (
      parts_fall N v _ _ m d.parts.var_below (rw (a_done.same_root t d.parts.then_used) d.parts.then_above) (rw (a_done.same_root f d.parts.by.system.used) d.parts.system_above) (omega arith),
      record { by = by_a; used = a_done.still t d.parts.then_used },
    )

    pub b_full : {s₂ : Slices} {work₂ : List ℕ} → Kept N (normal N t f) Full n s₁ s₂ work₁ work₂ → Kept N (meet_steps N t e f u) Full c s s₂ work work₂
    b_full l = kept_then (λ a. normal N t f >>= λ b. rest_steps N a b e f) keeps_b k (kept_full (λ b. rest_steps N x.0 b e f) (λ b. keeps_rest N x.0 b e f) l)

    module _ (y : Row) (n₂ : ℕ) (s₂ : Slices) (work₂ : List ℕ) (l : Kept N (normal N t f) (Made-at y n₂) n s₁ s₂ work₁ work₂) where
      b_done : Step N n s₁ y.0 n₂ s₂
      b_done = formed N n s₁ work₁ t f by_a (a_done.still t d.parts.then_used) y n₂ s₂ work₂ l

      still : (k : ℕ) → k < c + 2 → k < n₂ + 2
      still k h = b_done.still k (a_done.still k h)

      same_root : (k : ℕ) → k < c + 2 → root N (rows_of s₂ n₂) k ≡ root N (rows_of s c) k
      same_root k h = b_done.same_root k (a_done.still k h) ∙ a_done.same_root k h

      pub rest_follows : (m : ℕ) → 4 * (N - v) + 1 ≡ m → (4 * (N - v) < m) × Rest N n₂ s₂ work₂ x.0 y.0 v e f
      rest_follows m z = (
        omega arith,
        record {
          by = still_by N n s₁ work₁ t f by_a (a_done.still t d.parts.then_used) y n₂ s₂ work₂ l;
          var_below = d.parts.var_below;
          a_used = b_done.still x.0 a_done.used;
          b_used = b_done.used;
          else_used = still e d.parts.else_used;
          else_above = rw (same_root e d.parts.else_used) d.parts.else_above;
          system_above = rw (same_root f d.parts.by.system.used) d.parts.system_above;
        },
      )

      pub meet_made : {r : Made} {s₃ : Slices} {work₃ : List ℕ} → Kept N (rest_steps N x.0 y.0 e f) r n₂ s₂ s₃ work₂ work₃ → Kept N (meet_steps N t e f u) r c s s₃ work work₃
      meet_made m = kept_then (λ a. normal N t f >>= λ b. rest_steps N a b e f) keeps_b k (kept_then (λ b. rest_steps N x.0 b e f) (λ b. keeps_rest N x.0 b e f) l m)
