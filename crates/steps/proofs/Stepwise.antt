-- The steps read literally, with a check of the room at each appended row, are the steps without one and one check at the end.
use Rattle.std.proofs.Common.{if◌then◌else◌}
use Prim.Native.Nat.{ℕ, zero, suc, ◌≤◌}
use mathlib.Core.Path.{◌≡◌, refl, sym}
use mathlib.Core.Bool.{Bool, true, false, ◌||◌}
use native.Mathlib.Omega.{arith}
use lib.Dec.{eqb, ltb}
use borrow.Author.Tests.{eqb-true, eqb-false}
use Rattle.steps.specs.Room.{Ending, made, full, within}
use Rattle.steps.specs.Rows.{Row, row_of, Rows, ◌▹◌, count, next, find, row}
use Rattle.steps.specs.Steps.{Steps, answer, ◌>>=◌, append, make, sums, sum, products, product, normals, normal}
use Rattle.steps.proofs.Keeps.{Keeps, keeps_make, keeps_sums, keeps_products, keeps_normals, keeps_bind}
use Rattle.steps.proofs.Room.{within_made, within_full, Fit, fits, over, fit}
use Rattle.steps.proofs.Rows.{stop, count_grows}

module _ (room : ℕ) where
  abbrev pub Limited : Type 0
  Limited = Rows → Ending

  -- full stops all
  abbrev pub then_do : Ending → (ℕ → Limited) → Ending
  then_do (made x S) f = f x S
  then_do full f = full

  infixl 20 ◌>>>◌
  abbrev pub ◌>>>◌ : Limited → (ℕ → Limited) → Limited
  ◌>>>◌ m f R = then_do (m R) f

  abbrev pub give : ℕ → Limited
  give k R = made k R

  infix 10 when◌run◌otherwise◌
  abbrev pub when◌run◌otherwise◌ : Bool → Limited → Limited → Limited
  when◌run◌otherwise◌ true m n = m
  when◌run◌otherwise◌ false m n = n

  -- a row appended, if there is room
  pub append_in : Row → Limited
  append_in r R = (when eqb (count R) room run (λ S. full) otherwise λ S. made (next S) (S ▹ r)) R

  pub make_in : ℕ → ℕ → ℕ → Limited
  make_in v t e R =
      let r : Row = row_of v t e in
      let k = find R r in
      (when eqb t 0 run give e
      otherwise when ltb 0 k run give k
      otherwise append_in r) R

  -- the limited steps do what the unlimited ones do, until the room has run out
  abbrev pub Does : Limited → Steps → Type 0
  Does l m = (R : Rows) → count R ≤ room → l R ≡ within room (m R)

  either : (R : Rows) (b : Bool) (x y : Steps) (x' y' : Limited) → x' R ≡ within room (x R) → y' R ≡ within room (y R)
      → (when b run x' otherwise y') R ≡ within room ((if b then x else y) R)
  either R true x y x' y' p q = p
  either R false x y x' y' p q = q

  does_answer : (k : ℕ) (R : Rows) → count R ≤ room → made k R ≡ within room (answer k R)
  does_answer k R h = sym (within_made room (answer k R) h)

  does_bind : (l : Limited) (m : Steps) (l' : ℕ → Limited) (m' : ℕ → Steps) → Does l m → ((x : ℕ) → Keeps (m' x)) → ((x : ℕ) → Does (l' x) (m' x)) → Does (l >>> l') (m >>= m')
  does_bind l m l' m' d k d' R h = go (fit room (m R))
    where
      go : Fit room (m R) → then_do (l R) l' ≡ within room ((m >>= m') R)
      go (fits g e) = rw (d R h, e) (d' (m R).num (m R).rows g)
      go (over g e) = rw (d R h, e) (sym (within_full room ((m >>= m') R) (let q = count_grows (k (m R).num (m R).rows) in omega arith)))

  does_append : (r : Row) → Does (append_in r) (append r)
  unfolding append_in count
  does_append r R h = go (eqb (count R) room) refl
    where
      go : (b : Bool) → eqb (count R) room ≡ b → append_in r R ≡ within room (append r R)
      go true q = let z = eqb-true (count R) room q in rw (q, append_in) (sym (within_full room (append r R) (omega arith)))
      go false q = let z = eqb-false (count R) room q in rw (q, append_in) (does_answer (next R) (R ▹ r) (omega arith))

  pub does_make : (v t e : ℕ) → Does (make_in v t e) (make v t e)
  unfolding make make_in
  does_make v t e R h =
      let r : Row = row_of v t e in
      either R (eqb t 0) _ _ _ _ (does_answer e R h) (either R (ltb 0 (find R r)) _ _ _ _ (does_answer (find R r) R h) (does_append r R h))

  module _ (N : ℕ) where
    pub sums_in : ℕ → ℕ → ℕ → Limited
    sums_in zero f g = give 0
    sums_in (suc k) f g = λ R.
        let r = row N R f in
        let s = row N R g in
        (when eqb f 0 run give g
        otherwise when eqb g 0 run give f
        otherwise when eqb f g run give 0
        otherwise when ltb r.var s.var run (sums_in k r.else_part g >>> make_in r.var r.then_part)
        otherwise when ltb s.var r.var run (sums_in k f s.else_part >>> make_in s.var s.then_part)
        otherwise (sums_in k r.then_part s.then_part >>> λ t. sums_in k r.else_part s.else_part >>> make_in r.var t)) R

    pub does_sums : (k f g : ℕ) → Does (sums_in k f g) (sums N k f g)
    unfolding sums sums_in
    does_sums zero f g R h = does_answer 0 R h
    does_sums (suc k) f g R h =
        let r = row N R f in
        let s = row N R g in
        either R (eqb f 0) _ _ _ _ (does_answer g R h) (either R (eqb g 0) _ _ _ _ (does_answer f R h) (either R (eqb f g) _ _ _ _ (does_answer 0 R h)
        (either R (ltb r.var s.var) _ _ _ _
        (does_bind (sums_in k r.else_part g) (sums N k r.else_part g) (make_in r.var r.then_part) (make r.var r.then_part) (does_sums k r.else_part g) (keeps_make r.var r.then_part) (does_make r.var r.then_part) R h)
        (either R (ltb s.var r.var) _ _ _ _
        (does_bind (sums_in k f s.else_part) (sums N k f s.else_part) (make_in s.var s.then_part) (make s.var s.then_part) (does_sums k f s.else_part) (keeps_make s.var s.then_part) (does_make s.var s.then_part) R h)
        (does_bind (sums_in k r.then_part s.then_part) (sums N k r.then_part s.then_part) (λ t. sums_in k r.else_part s.else_part >>> make_in r.var t) (λ t. sums N k r.else_part s.else_part >>= make r.var t)
        (does_sums k r.then_part s.then_part)
        (λ t. keeps_bind (sums N k r.else_part s.else_part) (make r.var t) (keeps_sums N k r.else_part s.else_part) (keeps_make r.var t))
        (λ t. does_bind (sums_in k r.else_part s.else_part) (sums N k r.else_part s.else_part) (make_in r.var t) (make r.var t) (does_sums k r.else_part s.else_part) (keeps_make r.var t) (does_make r.var t)) R h)))))

    -- m only appends, and l does the same until the room has run out
    pub record Both (l : Limited) (m : Steps) : Type 0 where
      pub only : Keeps m
      pub does : Does l m

    pub both_bind : {l : Limited} {m : Steps} {l' : ℕ → Limited} {m' : ℕ → Steps} → Both l m → ((x : ℕ) → Both (l' x) (m' x)) → Both (l >>> l') (m >>= m')
    both_bind {l} {m} {l'} {m'} b b' = record { only = keeps_bind m m' b.only (λ x. (b' x).only); does = does_bind l m l' m' b.does (λ x. (b' x).only) (λ x. (b' x).does) }

    pub both_if : {l l' : Limited} {m m' : Steps} (b : Bool) → Both l m → Both l' m' → Both (when b run l otherwise l') (if b then m else m')
    both_if true x y = x
    both_if false x y = y

    pub both_answer : (k : ℕ) → Both (give k) (answer k)
    both_answer k = record { only = λ R. stop; does = does_answer k }

    pub both_make : (v t e : ℕ) → Both (make_in v t e) (make v t e)
    both_make v t e = record { only = keeps_make v t e; does = does_make v t e }

    both_sum : (f g : ℕ) → Both (sums_in (suc N) f g) (sum N f g)
    both_sum f g = record { only = keeps_sums N (suc N) f g; does = does_sums (suc N) f g }

    pub products_in : ℕ → ℕ → ℕ → Limited
    products_in zero f g = give 0
    products_in (suc k) f g = λ R.
        let r = row N R f in
        let s = row N R g in
        (when eqb f 1 run give g
        otherwise when eqb f 0 || eqb g 0 run give 0
        otherwise when eqb g 1 || eqb f g run give f
        otherwise when ltb r.var s.var run (products_in k r.then_part g >>> λ t. products_in k r.else_part g >>> make_in r.var t)
        otherwise when ltb s.var r.var run (products_in k f s.then_part >>> λ t. products_in k f s.else_part >>> make_in s.var t)
        otherwise (products_in k r.else_part s.then_part >>> λ a. products_in k r.then_part s.then_part >>> λ b. products_in k r.then_part s.else_part >>> λ c.
        sums_in (suc N) a b >>> λ d. sums_in (suc N) d c >>> λ t. products_in k r.else_part s.else_part >>> make_in r.var t)) R

    products_row : (k v f g f' g' : ℕ) → ((f g : ℕ) → Both (products_in k f g) (products N k f g))
        → Both (products_in k f g >>> λ t. products_in k f' g' >>> make_in v t) (products N k f g >>= λ t. products N k f' g' >>= make v t)
    products_row k v f g f' g' ih = both_bind (ih f g) λ t. both_bind (ih f' g') (both_make v t)

    products_all : (k v h l h' l' : ℕ) → ((f g : ℕ) → Both (products_in k f g) (products N k f g))
        → Both (products_in k l h' >>> λ a. products_in k h h' >>> λ b. products_in k h l' >>> λ c. sums_in (suc N) a b >>> λ d. sums_in (suc N) d c >>> λ t. products_in k l l' >>> make_in v t)
        (products N k l h' >>= λ a. products N k h h' >>= λ b. products N k h l' >>= λ c. sum N a b >>= λ d. sum N d c >>= λ t. products N k l l' >>= make v t)
    products_all k v h l h' l' ih = both_bind (ih l h') λ a. both_bind (ih h h') λ b. both_bind (ih h l') λ c. both_bind (both_sum a b) λ d. both_bind (both_sum d c) λ t. both_bind (ih l l') (both_make v t)

    pub does_products : (k f g : ℕ) → Does (products_in k f g) (products N k f g)
    unfolding products products_in
    does_products zero f g R h = does_answer 0 R h
    does_products (suc k) f g R h =
        let r = row N R f in
        let s = row N R g in
        let ih : (f g : ℕ) → Both (products_in k f g) (products N k f g) = λ f g. record { only = keeps_products N k f g; does = does_products k f g } in
        either R (eqb f 1) _ _ _ _ (does_answer g R h) (either R (eqb f 0 || eqb g 0) _ _ _ _ (does_answer 0 R h) (either R (eqb g 1 || eqb f g) _ _ _ _ (does_answer f R h)
        (either R (ltb r.var s.var) _ _ _ _ ((products_row k r.var r.then_part g r.else_part g ih).does R h)
        (either R (ltb s.var r.var) _ _ _ _ ((products_row k s.var f s.then_part f s.else_part ih).does R h)
        ((products_all k r.var r.then_part r.else_part s.then_part s.else_part ih).does R h)))))

    pub both_product : (f g : ℕ) → Both (products_in (suc N) f g) (product N f g)
    both_product f g = record { only = keeps_products N (suc N) f g; does = does_products (suc N) f g }

    pub normals_in : ℕ → ℕ → ℕ → Limited
    normals_in zero p s = give 0
    normals_in (suc k) p s = λ R.
        let r = row N R p in
        let q = row N R s in
        (when eqb s 1 || ltb p 2 run give p
        otherwise when ltb q.var r.var run normals_in k p q.then_part
        otherwise when ltb r.var q.var run (normals_in k r.then_part s >>> λ t. normals_in k r.else_part s >>> make_in r.var t)
        otherwise (normals_in k q.else_part q.then_part >>> λ a. normals_in k r.then_part q.then_part >>> λ b. normals_in k r.else_part q.then_part >>> λ c.
        products_in (suc N) a b >>> λ d. sums_in (suc N) d c)) R

    normals_row : (k v f g s : ℕ) → ((p s : ℕ) → Both (normals_in k p s) (normals N k p s))
        → Both (normals_in k f s >>> λ t. normals_in k g s >>> make_in v t) (normals N k f s >>= λ t. normals N k g s >>= make v t)
    normals_row k v f g s ih = both_bind (ih f s) λ t. both_bind (ih g s) (both_make v t)

    normals_all : (k h l t e : ℕ) → ((p s : ℕ) → Both (normals_in k p s) (normals N k p s))
        → Both (normals_in k e t >>> λ a. normals_in k h t >>> λ b. normals_in k l t >>> λ c. products_in (suc N) a b >>> λ d. sums_in (suc N) d c)
        (normals N k e t >>= λ a. normals N k h t >>= λ b. normals N k l t >>= λ c. product N a b >>= λ d. sum N d c)
    normals_all k h l t e ih = both_bind (ih e t) λ a. both_bind (ih h t) λ b. both_bind (ih l t) λ c. both_bind (both_product a b) λ d. both_sum d c

    pub does_normals : (k p s : ℕ) → Does (normals_in k p s) (normals N k p s)
    unfolding normals normals_in
    does_normals zero p s R h = does_answer 0 R h
    does_normals (suc k) p s R h =
        let r = row N R p in
        let q = row N R s in
        let ih : (p s : ℕ) → Both (normals_in k p s) (normals N k p s) = λ p s. record { only = keeps_normals N k p s; does = does_normals k p s } in
        either R (eqb s 1 || ltb p 2) _ _ _ _ (does_answer p R h)
        (either R (ltb q.var r.var) _ _ _ _ (does_normals k p q.then_part R h)
        (either R (ltb r.var q.var) _ _ _ _ ((normals_row k r.var r.then_part r.else_part s ih).does R h)
        ((normals_all k r.then_part r.else_part q.then_part q.else_part ih).does R h)))

    pub both_normal : (p s : ℕ) → Both (normals_in (suc N) p s) (normal N p s)
    both_normal p s = record { only = keeps_normals N (suc N) p s; does = does_normals (suc N) p s }
