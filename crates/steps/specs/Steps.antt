-- The written steps: "These fix which rows are appended and in what order."
-- Assumes nothing: these are definitions.
use Rattle.std.specs.Prelude.{ℕ, zero, suc, ◌||◌, if◌then◌else◌, eqb, ltb}
use Rattle.steps.specs.Rows.{Row, row_of, Rows, ◌▹◌, next, row, find}

-- what steps answer: a number, and the rows in use after them
pub record Answer : Type 0 where
  pub num : ℕ
  pub rows : Rows

-- steps start from the rows in use; a table's room is looked at after them (Room.antt)
abbrev pub Steps : Type 0
Steps = Rows → Answer

abbrev pub answer : ℕ → Steps
answer k R = record { num = k; rows = R }

-- one after the other, so that `do` writes them down in order
infixl 20 ◌>>=◌
abbrev pub ◌>>=◌ : Steps → (ℕ → Steps) → Steps
◌>>=◌ m f R = let a = m R in f a.num a.rows

abbrev pub append : Row → Steps
append r R = answer (next R) (R ▹ r)

-- "Make (v, t, e): if t = 0 the answer is e; if a row in use is alike, its number; else append."
unfoldable pub make : ℕ → ℕ → ℕ → Steps
make v t e R =
    let r = row_of v t e in
    let k = find R r in
    (if eqb t 0 then answer e
    else if ltb 0 k then answer k
    else append r) R

-- "Each descent moves to greater variable indices, so a nesting counter bounded by N falls at every call." That counter is the first
-- number of sums, products and normals; N minus the least root of the operands, and one, is enough (the laws sum_depth, product_depth, normal_depth)
module _ (N : ℕ) where
  -- "Sum f + g: f = 0 gives g; g = 0 gives f; f = g gives 0. With unequal roots, take the smaller root, keep its then-part, add the other
  -- operand to its else-part, make. With equal roots: sum of the then-parts, sum of the else-parts, make."
  unfoldable pub sums : ℕ → ℕ → ℕ → Steps
  sums zero f g = answer 0
  sums (suc k) f g = λ R.
      let r = row N R f in
      let s = row N R g in
      (if eqb f 0 then answer g
      else if eqb g 0 then answer f
      else if eqb f g then answer 0
      else if ltb r.var s.var then (do
        e ← sums k r.else_part g
        make r.var r.then_part e)
      else if ltb s.var r.var then (do
        e ← sums k f s.else_part
        make s.var s.then_part e)
      else (do
        t ← sums k r.then_part s.then_part
        e ← sums k r.else_part s.else_part
        make r.var t e)) R

  abbrev pub sum : ℕ → ℕ → Steps
  sum = sums (suc N)

  -- "Product f·g: f = 1 gives g; f or g = 0 gives 0; g = 1 or f = g gives f. With unequal roots: the smaller root's then-part times the other
  -- operand, then its else-part times the other, make; f's side stays the left operand. With equal roots, in this order: else(f)·then(g),
  -- then(f)·then(g), then(f)·else(g), sum of the first two, that plus the third, else(f)·else(g), make."
  unfoldable pub products : ℕ → ℕ → ℕ → Steps
  products zero f g = answer 0
  products (suc k) f g = λ R.
      let r = row N R f in
      let s = row N R g in
      (if eqb f 1 then answer g
      else if eqb f 0 || eqb g 0 then answer 0
      else if eqb g 1 || eqb f g then answer f
      else if ltb r.var s.var then (do
        t ← products k r.then_part g
        e ← products k r.else_part g
        make r.var t e)
      else if ltb s.var r.var then (do
        t ← products k f s.then_part
        e ← products k f s.else_part
        make s.var t e)
      else (do
        a ← products k r.else_part s.then_part
        b ← products k r.then_part s.then_part
        c ← products k r.then_part s.else_part
        d ← sum a b
        t ← sum d c
        e ← products k r.else_part s.else_part
        make r.var t e)) R

  abbrev pub product : ℕ → ℕ → Steps
  product = products (suc N)

  -- "Normal form of p by F: F = 1 or p constant gives p. Root of p above F's in index: normal form of p by then(F). Below: normal forms of
  -- then(p) and else(p) by F, make with p's root. Equal: a = else(F) by then(F), b = then(p) by then(F), c = else(p) by then(F), then a·b, then that + c."
  unfoldable pub normals : ℕ → ℕ → ℕ → Steps
  normals zero p F = answer 0
  normals (suc k) p F = λ R.
      let rp = row N R p in
      let r_f = row N R F in
      (if eqb F 1 || ltb p 2 then answer p
      else if ltb r_f.var rp.var then normals k p r_f.then_part
      else if ltb rp.var r_f.var then (do
        t ← normals k rp.then_part F
        e ← normals k rp.else_part F
        make rp.var t e)
      else (do
        a ← normals k r_f.else_part r_f.then_part
        b ← normals k rp.then_part r_f.then_part
        c ← normals k rp.else_part r_f.then_part
        d ← product a b
        sum d c)) R

  abbrev pub normal : ℕ → ℕ → Steps
  normal = normals (suc N)
