-- What the checks of a lent table promise.
-- Assumes nothing: these are definitions.
use Rattle.std.specs.Prelude.{ℕ, ◌<◌, ◌≡◌, Bool, true, false, ◌&&◌, not, List, eqb, ltb, length, get_or, Result, Ok, Err, Option, Some, None}
use Rattle.steps.specs.Rows.{Row, Rows, next, root}
use Rattle.steps.specs.Sound.{sound}
use Rattle.steps.specs.Table.{Slices, rows_of}
use Rattle.table.specs.declared.Refusal.{Refusal}
use Rattle.table.specs.declared.Refusal.TheVariants.{OutOfRange, Unsound, NotInUse, SystemZero, BadVariable, NoOne, RoomOut, NotABit}
use Rattle.table.specs.declared.Table.{Table}
use Rattle.table.specs.declared.rows.Rows.{Rows as Checked-rows}
use Rattle.table.specs.declared.rows.View.{View}
use Rattle.table.specs.Lent.{room, Lent}
use Rattle.table.specs.Memory.{reach, Live}
use Rattle.table.specs.Calls.{in_range}
use Rattle.table.specs.Views.{slices_seen, viewed, slices_of, SameLoans}

-- the test of a row but for the search for one that is alike
abbrev pub parts_fit : ℕ → Rows → Row → Bool
parts_fit N R r =
    ltb r.var N && ltb r.then_part (next R) && ltb r.else_part (next R) && not (eqb r.then_part 0)
    && ltb r.var (root N R r.then_part) && ltb r.var (root N R r.else_part)

-- the words that a table of R rows uses are zeros
pub record Zeroed (R : ℕ) (work : List ℕ) : Type 0 where
  pub zeros : (i : ℕ) → i < reach R (length work) → get_or work i 0 ≡ 0

-- a lent table, whose words are zeros
pub record Prepared (c : ℕ) (s : Slices) (work : List ℕ) : Type 0 where
  pub lent : Lent c s
  pub zeroed : Zeroed (room s) work

-- the rows are those that are seen
pub record RowsOf (view : View) (rows : Checked-rows) : Type 0 where
  pub slices : viewed rows ≡ slices_seen view
  pub count : rows.count ≡ view.count

abbrev pub is_some : Option Checked-rows → Bool
is_some (Some rows) = true
is_some None = false

-- the test of all rows, after which a sound table has all that the inner functions ask
pub record SoundChecked (r : Bool) (N c : ℕ) (s : Slices) (work : List ℕ) : Type 0 where
  pub is : sound N (rows_of s c) ≡ r
  pub live : r ≡ true → Live N c s work

-- what is so where the checks refuse; the other refusals are not theirs
abbrev pub Refuses : Refusal → ℕ → ℕ → Slices → Type 0
Refuses OutOfRange N c s = in_range N c s ≡ false
Refuses Unsound N c s = (in_range N c s ≡ true) × (sound N (rows_of s c) ≡ false)
Refuses NotInUse N c s = ⊥
Refuses SystemZero N c s = ⊥
Refuses BadVariable N c s = ⊥
Refuses NoOne N c s = ⊥
Refuses RoomOut N c s = ⊥
Refuses NotABit N c s = ⊥

-- what the checks found; where they found nothing, the working slice is ready for the inner functions
pub record Fine (N c : ℕ) (s : Slices) (work : List ℕ) : Type 0 where
  pub range : in_range N c s ≡ true
  pub sound : sound N (rows_of s c) ≡ true
  pub live : Live N c s work

abbrev pub Checked : {A : Type 0} → Result A Refusal → ℕ → ℕ → Slices → List ℕ → Type 0
Checked (Ok a) N c s work = Fine N c s work
Checked (Err why) N c s work = Refuses why N c s

-- nothing but the working slice was written
pub record OnlyWork (t t' : Table) : Type 0 where
  pub same : SameLoans t t'
  pub slices : slices_of t' ≡ slices_of t
  pub count : t'.count ≡ t.count
  pub length : length t'.work.now ≡ length t.work.now

-- the working slice was not written
pub record OnlyRows (t t' : Table) : Type 0 where
  pub same : SameLoans t t'
  pub work : t'.work.now ≡ t.work.now
