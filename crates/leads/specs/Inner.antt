-- What is left of a system once leads are skipped, and the table of it in the working slice.
-- Assumes nothing: these are definitions.
use Rattle.std.specs.Prelude.{ℕ, ◌+◌, ◌<◌, ◌≤◌, ◌≡◌, List, length, get_or}
use Rattle.steps.specs.Rows.{Rows, row, root}
use Rattle.steps.specs.Sound.{Sound}
use Rattle.steps.specs.Table.{Slices, rows_of}
use Rattle.table.specs.Lent.{room, Lent}
use Rattle.table.specs.Memory.{reach, Live}

-- "Root of p above F's in index: normal form of p by then(F)": G is what is left of the system F once the leads below v are skipped
pub data Skips (N : ℕ) (R : Rows) (v : ℕ) : ℕ → ℕ → Type 0 where
  stays : (F : ℕ) → v ≤ root N R F → Skips N R v F F
  skips : (F G : ℕ) → root N R F < v → Skips N R v (row N R F).then_part G → Skips N R v F G

-- G is what is left of the system F, whose leads are at v or behind it, once a lead at v is skipped
pub data Past (N : ℕ) (R : Rows) (v F : ℕ) : ℕ → Type 0 where
  no_lead : v < root N R F → Past N R v F F
  at_lead : root N R F ≤ v → Past N R v F (row N R F).then_part

-- f is a system in use
pub record System (c f : ℕ) : Type 0 where
  pub used : f < c + 2
  pub not_0 : f ≡ 0 → ⊥

-- the table of systems, in the N words behind the remembered results: word v tells what is left of the system f once the leads below v are skipped.
-- It is there where the working slice is long enough, and need not be right for leads that f itself is behind
abbrev pub tabled : ℕ → Slices → List ℕ → Type 0
tabled N s work = reach (room s) (length work) + N ≤ length work

pub record Tabled (N c : ℕ) (s : Slices) (work : List ℕ) (f : ℕ) : Type 0 where
  pub each : tabled N s work → (v : ℕ) → root N (rows_of s c) f < v → v < N → Skips N (rows_of s c) v f (get_or work (reach (room s) (length work) + v) 0)

-- what walking through the leads of f asks
pub record Walking (N c : ℕ) (s : Slices) (f v : ℕ) : Type 0 where
  pub lent : Lent c s
  pub sound : Sound N (rows_of s c)
  pub system : System c f
  pub var_below : v < N

-- the table was written, and nothing that the inner functions ask was touched
pub record Filled (N c : ℕ) (s : Slices) (work work' : List ℕ) (f : ℕ) : Type 0 where
  pub live : Live N c s work'
  pub table : Tabled N c s work' f
  pub same_length : length work' ≡ length work

-- what all inner functions ask: a live table, and a system in use with its table
pub record Reducing (N c : ℕ) (s : Slices) (work : List ℕ) (f : ℕ) : Type 0 where
  pub live : Live N c s work
  pub system : System c f
  pub table : Tabled N c s work f
