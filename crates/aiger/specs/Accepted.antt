-- What the net of every accepted text satisfies (`accepted`, proofs/Accepted.antt).
-- Assumes nothing: these are definitions.
use Rattle.std.specs.Prelude.{ℕ, ◌+◌, ◌*◌, ◌/◌, ◌%◌, ◌<◌, ◌≤◌, ◌≡◌, true, false, List, [], ◌∷◌, ◌++◌, length}
use Rattle.std.specs.Coded.{×_prop, Unit-prop, le_prop}
use Rattle.std.proofs.Props.{props}
use Rattle.aiger.specs.Form.{Gate}
use Rattle.aiger.specs.Net.{defined, lefts, Net}

-- even, at least 2, at most 2M+1, of a variable that ls does not define
pub record New (M : ℕ) (ls : List ℕ) (l : ℕ) : Type 0 where
  pub even : l % 2 ≡ 0
  pub low : 2 ≤ l
  pub high : l ≤ 2 * M + 1
  pub undefined : defined ls (l / 2) ≡ false

-- the literals ls' follow ls, each of them new
unfoldable pub News : ℕ → List ℕ → List ℕ → Type 0
News M ls [] = Unit {0}
News M ls (l ∷ ls') = New M ls l × News M (ls ++ l ∷ []) ls'

-- a gate in order: its left is above p, its rights' variables are below its own
pub record InOrder (p : ℕ) (g : Gate) : Type 0 where
  pub above : p < g.left
  pub below0 : g.right0 / 2 < g.left / 2
  pub below1 : g.right1 / 2 < g.left / 2

-- g follows the gate of left p, over the defined literals ls
pub record GateOk (M : ℕ) (ls : List ℕ) (p : ℕ) (g : Gate) : Type 0 where
  pub new : New M ls g.left
  pub order : InOrder p g
  pub defined0 : defined ls (g.right0 / 2) ≡ true
  pub defined1 : defined ls (g.right1 / 2) ≡ true

-- the gates gs' follow gs over the inputs ls
unfoldable pub Chain : ℕ → List ℕ → ℕ → List Gate → List Gate → Type 0
Chain M ls p gs [] = Unit {0}
Chain M ls p gs (g ∷ gs') = GateOk M (ls ++ lefts gs) p g × Chain M ls g.left (gs ++ g ∷ []) gs'

-- every output is in range and defined
unfoldable pub Knowns : ℕ → List ℕ → List ℕ → Type 0
Knowns M ls [] = Unit {0}
Knowns M ls (o ∷ os) = (o ≤ 2 * M + 1) × ((defined ls (o / 2) ≡ true) × Knowns M ls os)

pub record Accepted (net : Net) : Type 0 where
  pub vars : net.M ≤ 1024
  pub outs : length net.outputs ≤ 1024
  pub room : length net.inputs + length net.gates ≤ net.M
  pub inputs_new : News net.M [] net.inputs
  pub gates_chain : Chain net.M net.inputs 0 [] net.gates
  pub outputs_known : Knowns net.M (net.inputs ++ lefts net.gates) net.outputs

-- each of these facts has one proof at most, so that a net may keep the last

New-prop : (M : ℕ) (ls : List ℕ) (l : ℕ) → IsProp (New M ls l)
New-prop M ls l = Prim.hlevel props

News-prop : (M : ℕ) (ls ls' : List ℕ) → IsProp (News M ls ls')
unfolding News
News-prop M ls [] = Unit-prop
News-prop M ls (l ∷ ls') = ×_prop (New-prop M ls l) (News-prop M (ls ++ l ∷ []) ls')

InOrder-prop : (p : ℕ) (g : Gate) → IsProp (InOrder p g)
InOrder-prop p g = Prim.hlevel props

GateOk-prop : (M : ℕ) (ls : List ℕ) (p : ℕ) (g : Gate) → IsProp (GateOk M ls p g)
GateOk-prop M ls p g = Prim.hlevel (props, New-prop, InOrder-prop)

Chain-prop : (M : ℕ) (ls : List ℕ) (p : ℕ) (gs gs' : List Gate) → IsProp (Chain M ls p gs gs')
unfolding Chain
Chain-prop M ls p gs [] = Unit-prop
Chain-prop M ls p gs (g ∷ gs') = ×_prop (GateOk-prop M (ls ++ lefts gs) p g) (Chain-prop M ls g.left (gs ++ g ∷ []) gs')

Knowns-prop : (M : ℕ) (ls os : List ℕ) → IsProp (Knowns M ls os)
unfolding Knowns
Knowns-prop M ls [] = Unit-prop
Knowns-prop M ls (o ∷ os) = ×_prop le_prop (×_prop (Prim.hlevel props) (Knowns-prop M ls os))

pub Accepted-prop : (net : Net) → IsProp (Accepted net)
Accepted-prop net = Prim.hlevel (props, News-prop, Chain-prop, Knowns-prop)

-- the gates in variables: each above b and the one before it, up to M, and above its rights' variables
unfoldable pub Ascending : ℕ → ℕ → List Gate → Type 0
Ascending M b [] = Unit {0}
Ascending M b (g ∷ gs) = (b < g.left / 2) × ((g.left / 2 ≤ M) × ((g.right0 / 2 < g.left / 2) × ((g.right1 / 2 < g.left / 2) × Ascending M (g.left / 2) gs)))
