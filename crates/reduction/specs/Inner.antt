-- What the inner functions of the normal form ask and promise.
-- Assumes nothing: these are definitions.
use Rattle.std.specs.Prelude.{ℕ, ◌+◌, ◌<◌, ◌≤◌, ◌≡◌, List, length, Result}
use Rattle.steps.specs.Rows.{Rows, root}
use Rattle.steps.specs.Steps.{Steps, ◌>>=◌, make, sum, product, normal}
use Rattle.steps.specs.Table.{Slices, rows_of}
use Rattle.table.specs.declared.NoRoom.{NoRoom}
use Rattle.table.specs.declared.Row.{Row}
use Rattle.table.specs.declared.Table.{Table}
use Rattle.table.specs.Made.{Made, made_of}
use Rattle.table.specs.Memory.{Live}
use Rattle.table.specs.Inner.{Taken, LiveAfter}
use Rattle.table.specs.Views.{slices_of, SameLoans}
use Rattle.leads.specs.Inner.{System, Reducing}

-- a number and a system in use in a live table
pub record Asked (N c : ℕ) (s : Slices) (work : List ℕ) (p f : ℕ) : Type 0 where
  pub live : Live N c s work
  pub used : p < c + 2
  pub system : System c f

-- what the whole normal form promises: the steps, and a live table; the words behind the remembered results may have changed
pub record Took (N : ℕ) (m : Steps) (r : Made) (c : ℕ) (s s' : Slices) (work work' : List ℕ) : Type 0 where
  pub taken : Taken m r c s s'
  pub live : LiveAfter r N s' work'
  pub same_length : length work' ≡ length work

-- a number in use, by the system f
pub record Reduces (N c : ℕ) (s : Slices) (work : List ℕ) (p f : ℕ) : Type 0 where
  pub by : Reducing N c s work f
  pub used : p < c + 2

-- p is no constant, f is not the empty system, and no lead of f is before p's root
pub record Proper (N : ℕ) (R : Rows) (p f : ℕ) : Type 0 where
  pub inner : 2 ≤ p
  pub some : f ≡ 1 → ⊥
  pub reached : root N R p ≤ root N R f

-- the parts t and e of a number with the root v, which is before the system f's root
pub record Below (N c : ℕ) (s : Slices) (work : List ℕ) (v t e f : ℕ) : Type 0 where
  pub by : Reducing N c s work f
  pub var_below : v < N
  pub then_used : t < c + 2
  pub else_used : e < c + 2
  pub then_above : v < root N (rows_of s c) t
  pub else_above : v < root N (rows_of s c) e
  pub system_above : v < root N (rows_of s c) f

-- and the parts of a number and a system with the same root
pub record Meet (N c : ℕ) (s : Slices) (work : List ℕ) (v t e f u : ℕ) : Type 0 where
  pub parts : Below N c s work v t e f
  pub tail_used : u < c + 2
  pub tail_above : v < root N (rows_of s c) u

-- what is left to do after a and b
pub record Rest (N c : ℕ) (s : Slices) (work : List ℕ) (a b v e f : ℕ) : Type 0 where
  pub by : Reducing N c s work f
  pub var_below : v < N
  pub a_used : a < c + 2
  pub b_used : b < c + 2
  pub else_used : e < c + 2
  pub else_above : v < root N (rows_of s c) e
  pub system_above : v < root N (rows_of s c) f

-- "Below: normal forms of then(p) and else(p) by F, make with p's root."
abbrev pub below_steps : ℕ → ℕ → ℕ → ℕ → ℕ → Steps
below_steps N v t e f = normal N t f >>= λ t'. normal N e f >>= make v t'

-- "then a·b, then that + c"
abbrev pub join_steps : ℕ → ℕ → ℕ → ℕ → Steps
join_steps N a b c = product N a b >>= λ d. sum N d c

-- "c = else(p) by then(F)", and what follows
abbrev pub rest_steps : ℕ → ℕ → ℕ → ℕ → ℕ → Steps
rest_steps N a b e f = normal N e f >>= λ c. join_steps N a b c

-- "Equal: a = else(F) by then(F), b = then(p) by then(F)", and what follows
abbrev pub meet_steps : ℕ → ℕ → ℕ → ℕ → ℕ → Steps
meet_steps N t e f u = normal N u f >>= λ a. normal N t f >>= λ b. rest_steps N a b e f

-- the same of a lent table: what the functions ask of it, and what the whole normal form promises
abbrev pub AskedIn : ℕ → Table → ℕ → ℕ → Type 0
AskedIn N t p f = Asked N t.count (slices_of t) t.work.now p f

abbrev pub ReducesIn : ℕ → Table → ℕ → ℕ → Type 0
ReducesIn N t p f = Reduces N t.count (slices_of t) t.work.now p f

abbrev pub BelowIn : ℕ → Table → ℕ → ℕ → ℕ → ℕ → Type 0
BelowIn N t v x e f = Below N t.count (slices_of t) t.work.now v x e f

abbrev pub MeetIn : ℕ → Table → ℕ → ℕ → ℕ → ℕ → ℕ → Type 0
MeetIn N t v x e f u = Meet N t.count (slices_of t) t.work.now v x e f u

abbrev pub RestIn : ℕ → Table → ℕ → ℕ → ℕ → ℕ → ℕ → Type 0
RestIn N t a b v e f = Rest N t.count (slices_of t) t.work.now a b v e f

pub record TookIn (N : ℕ) (m : Steps) (r : Result Row NoRoom) (t t' : Table) : Type 0 where
  pub same : SameLoans t t'
  pub took : Took N m (made_of r t'.count) t.count (slices_of t) (slices_of t') t.work.now t'.work.now
