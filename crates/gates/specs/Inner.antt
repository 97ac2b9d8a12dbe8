-- What the functions of literals and gates ask.
-- Assumes nothing: these are definitions.
use Rattle.std.specs.Prelude.{ℕ, ◌+◌, ◌/◌, ◌<◌, ◌≤◌, ◌≡◌, List}
use Rattle.steps.specs.Rows.{root}
use Rattle.steps.specs.Steps.{Steps, ◌>>=◌, product}
use Rattle.steps.specs.System.{equation}
use Rattle.steps.specs.Table.{Slices, rows_of}
use Rattle.table.specs.declared.Table.{Table}
use Rattle.table.specs.Memory.{Live}
use Rattle.table.specs.Views.{slices_of}
use Rattle.aiger.specs.Form.{Gate}
use Rattle.aiger.specs.Accepted.{Ascending}
use Rattle.verdicts.specs.Systems.{ring}

-- "their product, then the equation is added", of the gate of left l, where F is the system before
abbrev pub joined_steps : ℕ → ℕ → ℕ → ℕ → ℕ → Steps
joined_steps N l F f h = product N f h >>= equation (ring N (l / 2)) F

-- a literal of a ring variable or a constant
pub record LiteralAsked (N c : ℕ) (s : Slices) (work : List ℕ) (l : ℕ) : Type 0 where
  pub live : Live N c s work
  pub low : l / 2 ≤ N

-- the left's variable is one of the ring's, and the numbers f have their roots behind it
pub record Behind (N c : ℕ) (s : Slices) (l f : ℕ) : Type 0 where
  pub used : f < c + 2
  pub above : ring N (l / 2) < root N (rows_of s c) f

-- "Adding an equation needs i < N, and the roots of F and of t to be greater in index than i."
pub record JoinedAsked (N c : ℕ) (s : Slices) (work : List ℕ) (l F f h : ℕ) : Type 0 where
  pub live : Live N c s work
  pub positive : 0 < l / 2
  pub high : l / 2 ≤ N
  pub not_0 : F ≡ 0 → ⊥
  pub system : Behind N c s l F
  pub first : Behind N c s l f
  pub second : Behind N c s l h

-- a gate over variables below its own, added to a system over them
pub record GateAsked (N c : ℕ) (s : Slices) (work : List ℕ) (g : Gate) (F : ℕ) : Type 0 where
  pub live : Live N c s work
  pub positive : 0 < g.left / 2
  pub high : g.left / 2 ≤ N
  pub below0 : g.right0 / 2 < g.left / 2
  pub below1 : g.right1 / 2 < g.left / 2
  pub not_0 : F ≡ 0 → ⊥
  pub system : Behind N c s g.left F

-- the same of a table
abbrev pub LiteralIn : ℕ → Table → ℕ → Type 0
LiteralIn N t = LiteralAsked N t.count (slices_of t) t.work.now

abbrev pub JoinedIn : ℕ → Table → ℕ → ℕ → ℕ → ℕ → Type 0
JoinedIn N t = JoinedAsked N t.count (slices_of t) t.work.now

abbrev pub GateIn : ℕ → Table → Gate → ℕ → Type 0
GateIn N t = GateAsked N t.count (slices_of t) t.work.now

-- an empty table, and the gates of an accepted net
pub record BuildAsked (N c : ℕ) (s : Slices) (work : List ℕ) (gates : List Gate) : Type 0 where
  pub none : c ≡ 0
  pub live : Live N c s work
  pub order : Ascending N 0 gates

abbrev pub BuildIn : ℕ → Table → List Gate → Type 0
BuildIn N t = BuildAsked N t.count (slices_of t) t.work.now
