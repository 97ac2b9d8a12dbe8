-- The walk down a bucket finds what the definition finds.
use Prim.Native.Nat.{ℕ, suc, ◌+◌, ◌-◌, ◌/◌, ◌%◌, ◌<◌, ◌≤◌}
use mathlib.Core.Path.{◌≡◌, refl, sym, ap, ◌∙◌}
use mathlib.Core.Bool.{true, false}
use mathlib.Core.List.{List}
use native.Mathlib.Omega.{arith}
use lib.ListN.{length, get_or}
use Rattle.steps.specs.Rows.{Row, Rows, ◌▹◌, count, next, alike, find, row}
use Rattle.steps.specs.Table.{Slices, row_at, rows_of}
use Rattle.steps.proofs.Rows.{◌≼◌, stop, more, ≼_trans, next_2, next_grows, next_count, row_keeps, row_newest}
use Rattle.steps.proofs.Table.{rows_of_next, rows_of_row, rows_of_part}
use Rattle.steps.proofs.Found.{alike_true, find_newest, find_keeps, find_other}
use native.Mathlib.Numerals.{add-one}
use Rattle.table.specs.Lent.{room}
use Rattle.table.specs.Index.{index_words, bucket, newest_in, Followed, Chains, Apart, Indexed}
use Rattle.table.proofs.Buckets.{Spans, spans, spans_fits, spans_room, spans_bucket, Newest, nowhere, at, newest, newest_below}

-- parts of what is apart and of what is followed
apart_part : {S : Rows} {r : Row} {R : Rows} → (S ▹ r) ≼ R → Apart R → find S r ≡ 0
unfolding Apart
apart_part stop a = a.1
apart_part (more q) a = apart_part q a.0

followed_part : (H : ℕ) (work : List ℕ) {S : Rows} {r : Row} {R : Rows} → (S ▹ r) ≼ R → Followed H R work → get_or work (count S) 0 % 65536 ≡ newest_in H (bucket H r) S
unfolding Followed
followed_part H work stop f = f.1
followed_part H work (more q) f = followed_part H work q f.0

-- the walk for x has come to the number k: among the rows S, which are all that is left, k is the newest of the bucket
pub record Walk (H : ℕ) (R : Rows) (x : Row) (k : ℕ) : Type 0 where
  pub left : Rows
  pub part : left ≼ R
  pub same : find R x ≡ find left x
  pub here : newest_in H (bucket H x) left ≡ k

pub walk_start : (H : ℕ) (R : Rows) (x : Row) (k : ℕ) → newest_in H (bucket H x) R ≡ k → Walk H R x k
walk_start H R x k e = record { left = R; part = stop; same = refl; here = e }

-- the row at which the walk is
record Place (H : ℕ) (R : Rows) (x : Row) (k : ℕ) : Type 0 where
  older : Rows
  this : Row
  inside : (older ▹ this) ≼ R
  number : next older ≡ k
  alike_bucket : bucket H this ≡ bucket H x
  finds : find R x ≡ find (older ▹ this) x

place : {H : ℕ} {R : Rows} {x : Row} {k : ℕ} → Walk H R x k → 0 < k → Place H R x k
place {H} {R} {x} {k} w p = go (newest_in H (bucket H x) w.left) (newest H (bucket H x) w.left) w.here
  where
    go : (m : ℕ) → Newest H (bucket H x) w.left m → m ≡ k → Place H R x k
    go m (nowhere f) q = absurd (omega arith)
    go m (at S r le h f) q = record { older = S; this = r; inside = ≼_trans le w.part; number = q; alike_bucket = h; finds = w.same ∙ f x refl }

pub walk_end : {H : ℕ} {R : Rows} {x : Row} {k : ℕ} → Walk H R x k → k ≤ 0 → find R x ≡ 0
walk_end {H} {R} {x} {k} w p = go (newest_in H (bucket H x) w.left) (newest H (bucket H x) w.left) w.here
  where
    go : (m : ℕ) → Newest H (bucket H x) w.left m → m ≡ k → find R x ≡ 0
    go m (nowhere f) q = w.same ∙ f x refl
    go m (at S r le h f) q = absurd (omega (arith, next_2 S))

-- the same of the c rows of three slices, with i the row at which the walk is
module _ (H : ℕ) (s : Slices) (c : ℕ) (x : Row) (k : ℕ) (w : Walk H (rows_of s c) x k) (p : 0 < k) where
  abbrev R : Rows
  R = rows_of s c

  here : Place H R x k
  here = place w p

  pub walk_inner : 2 ≤ k
  walk_inner = omega (arith, next_2 here.older, here.number)

  below : next (here.older ▹ here.this) ≤ next R
  below = next_grows here.inside

  pub walk_used : k - 2 < c
  unfolding next
  walk_used = omega (arith, below, here.number, rows_of_next s c, walk_inner)

  at_row : row_at s (k - 2) ≡ here.this
  unfolding next
  at_row =
      let q : (k - 2) + 2 ≡ next here.older = omega (arith, walk_inner, here.number) in
      sym (rows_of_row s 0 c (k - 2) walk_used) ∙ ap (row 0 R) q ∙ row_keeps 0 here.inside (next here.older) (omega arith) ∙ row_newest 0 here.older here.this

  pub walk_found : Apart (rows_of s c) → alike (row_at s (k - 2)) x ≡ true → find (rows_of s c) x ≡ k
  walk_found a e =
      let q : here.this ≡ x = alike_true here.this x (sym (ap (λ (r : Row). alike r x) at_row) ∙ e) in
      here.finds ∙ ap (find (here.older ▹ here.this)) (sym q) ∙ find_newest here.older here.this (apart_part here.inside a) ∙ here.number

  module _ (work : List ℕ) (f : Followed H (rows_of s c) work) (m : ℕ) (e : get_or work (k - 2) 0 % 65536 ≡ m) where
    follows : newest_in H (bucket H x) here.older ≡ m
    follows =
        let q : count here.older ≡ k - 2 = omega (arith, next_count here.older, here.number) in
        rw (← here.alike_bucket) (sym (followed_part H work here.inside f) ∙ ap (λ (j : ℕ). get_or work j 0 % 65536) q ∙ e)

    pub walk_less : m < k
    walk_less = omega (arith, newest_below H (bucket H x) here.older, follows, here.number)

    pub walk_on : alike (row_at s (k - 2)) x ≡ false → Walk H (rows_of s c) x m
    walk_on n = record {
      left = here.older;
      part = ≼_trans (more stop) here.inside;
      same = here.finds ∙ find_other here.older here.this x (sym (ap (λ (r : Row). alike r x) at_row) ∙ n);
      here = follows;
    }

-- the search from row 0 on, which has come to row i
module _ (s : Slices) (c i : ℕ) (x : Row) (none_yet : find (rows_of s i) x ≡ 0) where
  pub search_here : i < c → alike (row_at s i) x ≡ true → find (rows_of s c) x ≡ i + 2
  unfolding rows_of
  search_here l e =
      let q = alike_true (row_at s i) x e in
      let h : find (rows_of s i ▹ row_at s i) x ≡ suc (i + 1) = ap (find (rows_of s i ▹ row_at s i)) (sym q) ∙ find_newest (rows_of s i) (row_at s i) (ap (find (rows_of s i)) q ∙ none_yet) ∙ rows_of_next s i ∙ omega arith in
      find_keeps (rows_of_part s (suc i) c (omega arith)) x h ∙ omega arith

  pub search_on : alike (row_at s i) x ≡ false → find (rows_of s (i + 1)) x ≡ 0
  unfolding rows_of
  search_on e = rw (add-one i) (find_other (rows_of s i) (row_at s i) x e ∙ none_yet)

-- a walk in an index of H words
module _ (s : Slices) (c : ℕ) (work : List ℕ) (x : Row) (d : Indexed c s work) (H : ℕ) (e : index_words (room s) (length work) ≡ H) (some : H ≡ 0 → ⊥) where
  spanned : Spans (room s) (length work) H
  spanned = rw e at (spans (room s) (length work) d.lent.small)

  chained : Chains H (rows_of s c) work
  chained = rw e at (d.chains (rw e (omega arith)))

  pub find_fits : H ≤ length work
  find_fits = spans_fits spanned

  pub find_room : c ≤ H
  find_room = omega (arith, spans_room spanned (omega arith), d.lent.used)

  pub find_bucket : (b : ℕ) → bucket H x ≡ b → b < H
  find_bucket b q = rw q at (spans_bucket spanned (omega arith) x)

  pub find_follows : Followed H (rows_of s c) work
  find_follows = chained.follows

  pub find_start : (b k : ℕ) → bucket H x ≡ b → get_or work b 0 / 65536 ≡ k → Walk H (rows_of s c) x k
  find_start b k q p = walk_start H (rows_of s c) x k (rw q (sym (chained.heads b (find_bucket b q)) ∙ p))
