-- What the inner functions promise.
-- Assumes nothing: these are definitions.
use Rattle.std.specs.Prelude.{ℕ, ◌<◌, ◌≤◌, ◌≡◌, List, length, drop, Option, Some, None}
use Rattle.steps.specs.Rows.{Row, Rows, find}
use Rattle.steps.specs.Table.{Slices, rows_of}
use Rattle.steps.specs.Steps.{Steps}
use Rattle.steps.specs.Room.{Ending, made, full, within}
use Rattle.table.specs.declared.Row.{Row as Number}
use Rattle.table.specs.Made.{Made, At, Full}
use Rattle.table.specs.Lent.{room}
use Rattle.table.specs.Index.{Indexed, Front}
use Rattle.table.specs.Memory.{Live, Behind}

-- the number that was found, 0 for none
abbrev pub number_of : Option Number → ℕ
number_of (Some k) = k.0
number_of None = 0

abbrev pub IfFound : Option Number → Type 0
IfFound (Some k) = 0 < k.0
IfFound None = Unit {0}

-- r is what there is of the row x among the rows R
pub record Finds (r : Option Number) (R : Rows) (x : Row) : Type 0 where
  pub is : find R x ≡ number_of r
  pub some : IfFound r

-- what an answer says, with the rows in use at exit
abbrev pub said : Made → Slices → Ending
said (At k n) s = made k.0 (rows_of s n)
said Full s = full

-- after an answer with n rows in use: they fit, and no slice has changed behind them
pub record Beyond (c n : ℕ) (s s' : Slices) : Type 0 where
  pub more : c ≤ n
  pub fits : n ≤ room s
  pub vars : drop n s'.vars ≡ drop n s.vars
  pub thens : drop n s'.thens ≡ drop n s.thens
  pub elses : drop n s'.elses ≡ drop n s.elses

abbrev pub Rest : Made → ℕ → Slices → Slices → Type 0
Rest (At k n) c s s' = Beyond c n s s'
Rest Full c s s' = Unit {0}

-- THE WRITTEN STEPS m WERE TAKEN from the c rows in use: r is what they come to in this room, the rows in use at entry are kept, and
-- where the room has not run out nothing behind the new rows is written
pub record Taken (m : Steps) (r : Made) (c : ℕ) (s s' : Slices) : Type 0 where
  pub is : within (room s) (m (rows_of s c)) ≡ said r s'
  pub vars : length s'.vars ≡ length s.vars
  pub thens : length s'.thens ≡ length s.thens
  pub elses : length s'.elses ≡ length s.elses
  pub kept : rows_of s' c ≡ rows_of s c
  pub rest : Rest r c s s'

-- after an answer, the index is one of the rows then in use
abbrev pub IndexOf : Made → Slices → List ℕ → Type 0
IndexOf (At k n) s work = Indexed n s work
IndexOf Full s work = Unit {0}

-- what Make promises: the step, and the index
pub record Entered (m : Steps) (r : Made) (c : ℕ) (s s' : Slices) (work work' : List ℕ) : Type 0 where
  pub taken : Taken m r c s s'
  pub index : IndexOf r s' work'
  pub front : Front (room s) work work'

-- after an answer, all that the inner functions ask holds again
abbrev pub LiveAfter : Made → ℕ → Slices → List ℕ → Type 0
LiveAfter (At k n) N s work = Live N n s work
LiveAfter Full N s work = Unit {0}

-- what sum, product and normal form promise: the steps, and what the inner functions ask
pub record Kept (N : ℕ) (m : Steps) (r : Made) (c : ℕ) (s s' : Slices) (work work' : List ℕ) : Type 0 where
  pub taken : Taken m r c s s'
  pub live : LiveAfter r N s' work'
  pub behind : Behind (room s) work work'
