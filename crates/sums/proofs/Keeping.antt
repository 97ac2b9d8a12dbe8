-- How kept promises are put together.
use Prim.Native.Nat.{ℕ, ◌+◌, ◌<◌}
use mathlib.Core.Path.{◌≡◌, ap}
use mathlib.Core.List.{List}
use mathlib.Core.Bool.{Bool}
use native.Mathlib.Omega.{arith}
use Rattle.steps.specs.Rows.{root, Assignment}
use Rattle.steps.specs.Sound.{Sound}
use Rattle.steps.specs.Steps.{Steps, answer, ◌>>=◌}
use Rattle.steps.specs.Table.{Slices, rows_of}
use Rattle.steps.proofs.Keeps.{Keeps}
use Rattle.steps.proofs.Rows.{◌≼◌, row_keeps}
use Rattle.steps.proofs.Table.{rows_of_next}
use Rattle.steps.proofs.Theorems.{Right}
use Rattle.table.specs.declared.Row.{Row}
use Rattle.table.specs.Made.{Made}
use Rattle.table.specs.Made.{At, Full}
use Rattle.table.specs.Lent.{room}
use Rattle.table.specs.Memory.{Live}
use Rattle.table.specs.Inner.{Entered, LiveAfter, Kept}
use Rattle.table.proofs.Takes.{taken_by, taken_nothing, taken_then, taken_full, taken_rows}
use Rattle.std.specs.Prelude.{Ok}
use Rattle.table.specs.declared.Table.{Table}
use Rattle.table.specs.Tables.{LiveIn, KeptIn}
use Rattle.table.specs.Views.{slices_of}
use Rattle.table.proofs.Loans.{same}
use Rattle.table.proofs.Words.{behind_refl, behind_trans, behind_front, live_grows}

-- the same steps under another name
pub kept_by : {N : ℕ} {m n : Steps} {r : Made} {c : ℕ} {s s' : Slices} {work work' : List ℕ} → m (rows_of s c) ≡ n (rows_of s c) → Kept N n r c s s' work work' → Kept N m r c s s' work work'
kept_by e d = record { taken = taken_by e d.taken; live = d.live; behind = d.behind }

-- nothing was appended
pub kept_nothing : {N : ℕ} {m : Steps} {k : Row} {c : ℕ} {s : Slices} {work : List ℕ} → Live N c s work → m (rows_of s c) ≡ answer k.0 (rows_of s c) → Kept N m (At k c) c s s work work
kept_nothing {s = s} {work = work} d e = record { taken = taken_nothing d.indexed.lent.used e; live = d; behind = behind_refl (room s) work }

-- nothing was appended to a table
pub unchanged : {N : ℕ} {m : Steps} {k : Row} {t : Table} → LiveIn N t → m (rows_of (slices_of t) t.count) ≡ answer k.0 (rows_of (slices_of t) t.count) → KeptIn N m (Ok k) t t
unchanged d e = record { same = same; kept = kept_nothing d e }

-- no room: what comes after is not done
pub kept_full : {N : ℕ} {m : Steps} {c : ℕ} {s s' : Slices} {work work' : List ℕ} (f : ℕ → Steps) → ((x : ℕ) → Keeps (f x)) → Kept N m Full c s s' work work' → Kept N (m >>= f) Full c s s' work work'
kept_full f keeps d = record { taken = taken_full f keeps d.taken; live = tt; behind = d.behind }

-- one thing after another
pub kept_then : {N : ℕ} {m : Steps} {k : Row} {r : Made} {c n : ℕ} {s s' s'' : Slices} {work work' work'' : List ℕ} (f : ℕ → Steps) → ((x : ℕ) → Keeps (f x))
    → Kept N m (At k n) c s s' work work' → Kept N (f k.0) r n s' s'' work' work'' → Kept N (m >>= f) r c s s'' work work''
kept_then {s = s} {work = work} f keeps d e = record {
  taken = taken_then f keeps d.taken e.taken;
  live = e.live;
  behind = behind_trans d.behind (rw d.taken.vars at e.behind);
}

live_made : {N : ℕ} {m : Steps} (r : Made) {c : ℕ} {s s' : Slices} {work work' : List ℕ} → Live N c s work → Entered m r c s s' work work'
    → rows_of s c ≼ (m (rows_of s c)).rows → Sound N (m (rows_of s c)).rows → LiveAfter r N s' work'
live_made {N} {m} (At k n) d e g w = let q = taken_rows e.taken in live_grows d e (rw q at g) (rw q at w)
live_made Full d e g w = tt

-- Make keeps what the inner functions ask, where the row that it makes fits
pub kept_made : {N : ℕ} {m : Steps} {r : Made} {c : ℕ} {s s' : Slices} {work work' : List ℕ} → Live N c s work → Entered m r c s s' work work'
    → rows_of s c ≼ (m (rows_of s c)).rows → Sound N (m (rows_of s c)).rows → Kept N m r c s s' work work'
kept_made {r = r} d e g w = record { taken = e.taken; live = live_made r d e g w; behind = behind_front e.front }

-- steps that were taken in a live table
pub record Step (N : ℕ) (c : ℕ) (s : Slices) (k n : ℕ) (s' : Slices) : Type 0 where
  pub grown : rows_of s c ≼ rows_of s' n
  pub used : k < n + 2
  pub still : (x : ℕ) → x < c + 2 → x < n + 2
  pub same_root : (x : ℕ) → x < c + 2 → root N (rows_of s' n) x ≡ root N (rows_of s c) x

pub stepped : {N : ℕ} {m : Steps} {low : ℕ} {p : Assignment → Bool} {c : ℕ} {s : Slices} {k : Row} {n : ℕ} {s' : Slices} {work work' : List ℕ}
    → Right N m (rows_of s c) low p → Kept N m (At k n) c s s' work work' → Step N c s k.0 n s'
stepped {N} {m} {c = c} {s} {k} {n} {s'} r d =
    let made = taken_rows d.taken in
    let g : rows_of s c ≼ rows_of s' n = rw made at r.appends in
    record {
      grown = g;
      used = omega (arith, rows_of_next s' n, rw made at r.used);
      still = λ x h. omega (arith, d.taken.rest.more);
      same_root = λ x h. ap (λ z. z.var) (row_keeps N g x (omega (arith, rows_of_next s c)));
    }
