-- The steps only append, whatever the table and the numbers.
use Rattle.std.proofs.Common.{if◌then◌else◌}
use Prim.Native.Nat.{ℕ, zero, suc}
use mathlib.Core.Bool.{Bool, true, false, ◌||◌}
use lib.Dec.{eqb, ltb}
use Rattle.steps.specs.Rows.{Row, Rows, find, row, row_of}
use Rattle.steps.specs.Steps.{Steps, ◌>>=◌, make, sums, products, normals}
use Rattle.steps.proofs.Rows.{◌≼◌, stop, more, ≼_trans}

abbrev pub Keeps : Steps → Type 0
Keeps m = (R : Rows) → R ≼ (m R).rows

either : {R : Rows} (b : Bool) (m n : Steps) → R ≼ (m R).rows → R ≼ (n R).rows → R ≼ ((if b then m else n) R).rows
either true m n p q = p
either false m n p q = q

pub keeps_bind : (m : Steps) (f : ℕ → Steps) → Keeps m → ((x : ℕ) → Keeps (f x)) → Keeps (m >>= f)
keeps_bind m f k l R = ≼_trans (k R) (l (m R).num (m R).rows)

pub keeps_make : (v t e : ℕ) → Keeps (make v t e)
unfolding make
keeps_make v t e R =
    let r : Row = row_of v t e in
    either (eqb t 0) _ _ stop (either (ltb 0 (find R r)) _ _ stop (more stop))

pub keeps_sums : (N k f g : ℕ) → Keeps (sums N k f g)
unfolding sums
keeps_sums N zero f g R = stop
keeps_sums N (suc k) f g R =
    let r = row N R f in
    let s = row N R g in
    either (eqb f 0) _ _ stop (either (eqb g 0) _ _ stop (either (eqb f g) _ _ stop
    (either (ltb r.var s.var) _ _ (keeps_bind (sums N k r.else_part g) (make r.var r.then_part) (keeps_sums N k r.else_part g) (keeps_make r.var r.then_part) R)
    (either (ltb s.var r.var) _ _ (keeps_bind (sums N k f s.else_part) (make s.var s.then_part) (keeps_sums N k f s.else_part) (keeps_make s.var s.then_part) R)
    (keeps_bind (sums N k r.then_part s.then_part) (λ t. sums N k r.else_part s.else_part >>= make r.var t) (keeps_sums N k r.then_part s.then_part)
    (λ t. keeps_bind (sums N k r.else_part s.else_part) (make r.var t) (keeps_sums N k r.else_part s.else_part) (keeps_make r.var t)) R)))))

-- two answers, then a row of them
pub keeps_row : (v : ℕ) (m m' : Steps) → Keeps m → Keeps m' → Keeps (m >>= λ t. m' >>= make v t)
keeps_row v m m' k k' = keeps_bind m (λ t. m' >>= make v t) k (λ t. keeps_bind m' (make v t) k' (keeps_make v t))

pub keeps_products : (N k f g : ℕ) → Keeps (products N k f g)
unfolding products
keeps_products N zero f g R = stop
keeps_products N (suc k) f g R =
    let r = row N R f in
    let s = row N R g in
    either (eqb f 1) _ _ stop (either (eqb f 0 || eqb g 0) _ _ stop (either (eqb g 1 || eqb f g) _ _ stop
    (either (ltb r.var s.var) _ _ (keeps_row r.var (products N k r.then_part g) (products N k r.else_part g) (keeps_products N k r.then_part g) (keeps_products N k r.else_part g) R)
    (either (ltb s.var r.var) _ _ (keeps_row s.var (products N k f s.then_part) (products N k f s.else_part) (keeps_products N k f s.then_part) (keeps_products N k f s.else_part) R)
    (≼_trans (keeps_products N k r.else_part s.then_part R) (≼_trans (keeps_products N k r.then_part s.then_part _) (≼_trans (keeps_products N k r.then_part s.else_part _)
    (≼_trans (keeps_sums N (suc N) _ _ _) (≼_trans (keeps_sums N (suc N) _ _ _) (≼_trans (keeps_products N k r.else_part s.else_part _) (keeps_make r.var _ _ _)))))))))))

pub keeps_normals : (N k p s : ℕ) → Keeps (normals N k p s)
unfolding normals
keeps_normals N zero p s R = stop
keeps_normals N (suc k) p s R =
    let r = row N R p in
    let q = row N R s in
    either (eqb s 1 || ltb p 2) _ _ stop
    (either (ltb q.var r.var) _ _ (keeps_normals N k p q.then_part R)
    (either (ltb r.var q.var) _ _ (keeps_row r.var (normals N k r.then_part s) (normals N k r.else_part s) (keeps_normals N k r.then_part s) (keeps_normals N k r.else_part s) R)
    (≼_trans (keeps_normals N k q.else_part q.then_part R) (≼_trans (keeps_normals N k r.then_part q.then_part _) (≼_trans (keeps_normals N k r.else_part q.then_part _)
    (≼_trans (keeps_products N (suc N) _ _ _) (keeps_sums N (suc N) _ _ _)))))))
