-- The index of the rows, in the first words of the working slice: Make finds or misses a row without looking at the others.
-- Word b holds, in its bits from 16 up, the number of the newest row of bucket b; word k holds, in its low 16 bits, the number of the newest
-- row before row k in row k's bucket. 0 stands for none.
-- Assumes nothing: these are definitions.
use Rattle.std.specs.Prelude.{ℕ, ◌+◌, ◌*◌, ◌/◌, ◌%◌, ◌<◌, ◌≤◌, ◌≡◌, cond, List, length, get_or, set, drop, eqb, ltb}
use Rattle.steps.specs.Rows.{Row, Rows, none, ◌▹◌, count, next, find}
use Rattle.steps.specs.Table.{Slices, rows_of}
use Rattle.table.specs.Lent.{room, Lent}

-- how many words the index of a table of R rows has: one of three sizes, so that a remainder by it is cheap
unfoldable pub index_size : ℕ → ℕ
index_size R = cond (ltb 1024 R) 8192 (cond (ltb 64 R) 1024 64)

-- and in a working slice of L words: none where that is shorter
unfoldable pub index_words : ℕ → ℕ → ℕ
index_words R L = cond (ltb L (index_size R)) 0 (index_size R)

abbrev pub hash : Row → ℕ
hash r = (r.var * 40503 + r.then_part * 48271 + r.else_part * 69621) / 16

-- the bucket of a row in an index of H words
unfoldable pub bucket : ℕ → Row → ℕ
bucket H r = cond (eqb H 8192) (hash r % 8192) (cond (eqb H 1024) (hash r % 1024) (hash r % 64))

-- the number of the newest row of the bucket b, 0 for none
unfoldable pub newest_in : ℕ → ℕ → Rows → ℕ
newest_in H b none = 0
newest_in H b (R ▹ r) = cond (eqb (bucket H r) b) (next R) (newest_in H b R)

-- each row's word names the newest row before it in its bucket
unfoldable pub Followed : ℕ → Rows → List ℕ → Type 0
Followed H none work = Unit {0}
Followed H (R ▹ r) work = Followed H R work × (get_or work (count R) 0 % 65536 ≡ newest_in H (bucket H r) R)

pub record Chains (H : ℕ) (R : Rows) (work : List ℕ) : Type 0 where
  pub heads : (b : ℕ) → b < H → get_or work b 0 / 65536 ≡ newest_in H b R
  pub follows : Followed H R work

-- no two rows are alike
unfoldable pub Apart : Rows → Type 0
Apart none = Unit {0}
Apart (R ▹ r) = Apart R × (find R r ≡ 0)

-- no two of the c rows in use are alike, and the working slice begins with their index if it is long enough
pub record Indexed (c : ℕ) (s : Slices) (work : List ℕ) : Type 0 where
  pub lent : Lent c s
  pub apart : Apart (rows_of s c)
  pub chains : 0 < index_words (room s) (length work) → Chains (index_words (room s) (length work)) (rows_of s c) work

-- the row r belongs in the bucket b of the index of H words that a table of R rows has in a working slice of L words
pub record Belongs (R L : ℕ) (r : Row) (H b : ℕ) : Type 0 where
  pub words : index_words R L ≡ H
  pub place : bucket H r ≡ b

-- the words with row i linked in as the newest of the bucket b
unfoldable pub link : ℕ → ℕ → List ℕ → List ℕ
link b i work =
    let work' = set work i (get_or work i 0 / 65536 * 65536 + get_or work b 0 / 65536) in
    set work' b ((i + 2) * 65536 + get_or work' b 0 % 65536)

unfoldable pub enter : ℕ → ℕ → Row → List ℕ → List ℕ
enter H i r work = cond (eqb H 0) work (link (bucket H r) i work)

-- what linking row i into an index of H words asks: the words are there, and their heads are small
pub record Linkable (H i : ℕ) (work : List ℕ) : Type 0 where
  pub fits : H ≤ length work
  pub buckets : 0 < H → (r : Row) → bucket H r < H
  pub row : 0 < H → i < H
  pub small : i < 8192
  pub heads : (b : ℕ) → b < H → get_or work b 0 / 65536 < 65536

-- nothing but the index has changed, in a table of R rows
pub record Front (R : ℕ) (work work' : List ℕ) : Type 0 where
  pub same_length : length work' ≡ length work
  pub rest : drop (index_words R (length work)) work' ≡ drop (index_words R (length work)) work
