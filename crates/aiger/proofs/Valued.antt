-- The values of an accepted net are those that the AIGER format asks for, and the only ones: variable 0 is false, an input has the pattern's value,
-- a gate's left is the AND of its rights. Assumes nothing.
use Prim.Native.Nat.{ℕ, ◌/◌}
use mathlib.Core.Path.{◌≡◌, refl, sym, ap, ◌∙◌}
use mathlib.Core.Bool.{Bool, true, false, ◌&&◌, ◌||◌}
use mathlib.Core.List.{List, [], ◌∷◌, ◌++◌, map, append_assoc, append-nil}
use native.Mathlib.Omega.{arith}
use lib.Dec.{eqb}
use lib.ListN.{length}
use lib.Seq.{append_snoc}
use borrow.Author.Tests.{eq-eqb, eqb-true}
use Rattle.std.proofs.Common.{if◌then◌else◌}
use Rattle.aiger.specs.Form.{Gate}
use Rattle.aiger.specs.Net.{defined, lefts, Net}
use Rattle.aiger.specs.Meaning.{Values, literal, assign, feed, run, values}
use Rattle.aiger.proofs.Marking.{defined_snoc}
use Rattle.aiger.proofs.GateLines.{lefts_snoc}
use Rattle.aiger.specs.Accepted.{News, Chain, Accepted}

-- two values of the variables that ls defines are the same
abbrev pub Agree : List ℕ → Values → Values → Type 0
Agree ls a b = (v : ℕ) → defined ls v ≡ true → a v ≡ b v

assign_same : (v : ℕ) (b : Bool) (a : Values) → assign v b a v ≡ b
assign_same v b a = rw (eq-eqb v v refl)

-- a variable that ls does not define may be assigned
assign_new : (ls : List ℕ) (v w : ℕ) (b : Bool) (a : Values) → defined ls v ≡ false → defined ls w ≡ true → assign v b a w ≡ a w
assign_new ls v w b a n d = go (eqb v w) refl
  where
    go : (t : Bool) → eqb v w ≡ t → (if t then b else a w) ≡ a w
    go true e = absurd (let z : v ≡ w = eqb-true v w e in let y : ◌≡◌ {A = Bool} false true = sym n ∙ ap (defined ls) z ∙ d in let x : ◌≡◌ {A = ℕ} 0 1 = cc in omega arith)
    go false e = refl

or_true : (b : Bool) → b || true ≡ true
or_true true = refl
or_true false = refl

defined_more : (ls : List ℕ) (l v : ℕ) → defined ls v ≡ true → defined (ls ++ l ∷ []) v ≡ true
defined_more ls l v d = defined_snoc ls l v ∙ rw d (or_true (eqb (l / 2) v))

defined_last : (ls : List ℕ) (l : ℕ) → defined (ls ++ l ∷ []) (l / 2) ≡ true
defined_last ls l = defined_snoc ls l (l / 2) ∙ rw (eq-eqb (l / 2) (l / 2) refl)

-- one more literal's variable that b has the value x for
assign_only : (ls : List ℕ) (l : ℕ) (x : Bool) (a b : Values) → x ≡ b (l / 2) → Agree ls a b → Agree (ls ++ l ∷ []) (assign (l / 2) x a) b
assign_only ls l x a b s e v d = go (eqb (l / 2) v) refl
  where
    go : (t : Bool) → eqb (l / 2) v ≡ t → (if t then x else a v) ≡ b v
    go true q = s ∙ ap b (eqb-true (l / 2) v q)
    go false q = e v (let z : eqb (l / 2) v || defined ls v ≡ true = sym (defined_snoc ls l v) ∙ d in rw q at z)

zero_defined : defined [] 0 ≡ true
unfolding defined
zero_defined = refl

-- a literal's value depends on its variable only
literal_same : (l : ℕ) (a b : Values) → a (l / 2) ≡ b (l / 2) → literal a l ≡ literal b l
literal_same l a b e = rw e

-- gates

-- what the inputs and the gates up to g define
with_gate : (ls : List ℕ) (gs : List Gate) (g : Gate) → ls ++ lefts (gs ++ g ∷ []) ≡ (ls ++ lefts gs) ++ g.left ∷ []
with_gate ls gs g = rw (lefts_snoc gs g, append_assoc)

-- every gate's left is the AND of its rights
unfoldable pub Holds : Values → List Gate → Type 0
Holds a [] = Unit {0}
Holds a (g ∷ gs) = (a (g.left / 2) ≡ literal a g.right0 && literal a g.right1) × Holds a gs

module _ (M : ℕ) (ls : List ℕ) where
  run_keeps : (p : ℕ) (gs more : List Gate) → Chain M ls p gs more → (a : Values) → Agree (ls ++ lefts gs) (run more a) a
  unfolding Chain run
  run_keeps p gs [] c a v d = refl
  run_keeps p gs (g ∷ more) c a v d =
      run_keeps g.left (gs ++ g ∷ []) more c.1 (assign (g.left / 2) (literal a g.right0 && literal a g.right1) a) v (rw with_gate (defined_more (ls ++ lefts gs) g.left v d))
      ∙ assign_new (ls ++ lefts gs) (g.left / 2) v (literal a g.right0 && literal a g.right1) a c.0.new.undefined d

  run_holds : (p : ℕ) (gs more : List Gate) → Chain M ls p gs more → (a : Values) → Holds (run more a) more
  unfolding Chain run Holds
  run_holds p gs [] c a = tt
  run_holds p gs (g ∷ more) c a =
      let b : Bool = literal a g.right0 && literal a g.right1 in
      let done : Values = run more (assign (g.left / 2) b a) in
      let left : done (g.left / 2) ≡ b = run_keeps g.left (gs ++ g ∷ []) more c.1 (assign (g.left / 2) b a) (g.left / 2) (rw with_gate (defined_last (ls ++ lefts gs) g.left)) ∙ assign_same (g.left / 2) b a in
      let right0 = literal_same g.right0 done a (run_keeps p gs (g ∷ more) c a (g.right0 / 2) c.0.defined0) in
      let right1 = literal_same g.right1 done a (run_keeps p gs (g ∷ more) c a (g.right1 / 2) c.0.defined1) in
      (left ∙ rw (right0, right1), run_holds g.left (gs ++ g ∷ []) more c.1 (assign (g.left / 2) b a))

  -- values that every gate holds for are those that the gates make
  run_only : (p : ℕ) (gs more : List Gate) → Chain M ls p gs more → (a b : Values) → Agree (ls ++ lefts gs) a b → Holds b more → Agree (ls ++ lefts (gs ++ more)) (run more a) b
  unfolding Chain run Holds
  run_only p gs [] c a b e h = rw append-nil e
  run_only p gs (g ∷ more) c a b e h =
      let right0 = literal_same g.right0 a b (e (g.right0 / 2) c.0.defined0) in
      let right1 = literal_same g.right1 a b (e (g.right1 / 2) c.0.defined1) in
      let x : Bool = literal a g.right0 && literal a g.right1 in
      let s : x ≡ b (g.left / 2) = rw (right0, right1) (sym h.0) in
      let f : Agree (ls ++ lefts (gs ++ g ∷ [])) (assign (g.left / 2) x a) b = rw with_gate (assign_only (ls ++ lefts gs) g.left x a b s e) in
      rw append_snoc at (run_only g.left (gs ++ g ∷ []) more c.1 (assign (g.left / 2) x a) b f h.1)

-- inputs

feed_keeps : (M : ℕ) (ls more : List ℕ) → News M ls more → (bs : List Bool) (a : Values) → Agree ls (feed more bs a) a
unfolding News feed
feed_keeps M ls [] n bs a v d = refl
feed_keeps M ls (l ∷ more) n [] a v d = refl
feed_keeps M ls (l ∷ more) n (b ∷ bs) a v d =
    feed_keeps M (ls ++ l ∷ []) more n.1 bs (assign (l / 2) b a) v (defined_more ls l v d) ∙ assign_new ls (l / 2) v b a n.0.undefined d

-- the values of the literals' variables
abbrev pub values_of : Values → List ℕ → List Bool
values_of a = map (λ l. a (l / 2))

feed_gives : (M : ℕ) (ls more : List ℕ) → News M ls more → (bs : List Bool) (a : Values) → length bs ≡ length more → values_of (feed more bs a) more ≡ bs
unfolding News feed
feed_gives M ls [] n [] a e = refl
feed_gives M ls [] n (b ∷ bs) a e = absurd (omega arith)
feed_gives M ls (l ∷ more) n [] a e = absurd (omega arith)
feed_gives M ls (l ∷ more) n (b ∷ bs) a e =
    let first : feed more bs (assign (l / 2) b a) (l / 2) ≡ b = feed_keeps M (ls ++ l ∷ []) more n.1 bs (assign (l / 2) b a) (l / 2) (defined_last ls l) ∙ assign_same (l / 2) b a in
    rw (first, feed_gives M (ls ++ l ∷ []) more n.1 bs (assign (l / 2) b a) (omega arith))

values_agree : (ls : List ℕ) (a b : Values) → Agree ls a b → values_of a ls ≡ values_of b ls
unfolding defined
values_agree [] a b e = refl
values_agree (l ∷ ls) a b e =
    let first : a (l / 2) ≡ b (l / 2) = e (l / 2) (rw (eq-eqb (l / 2) (l / 2) refl)) in
    rw (first, values_agree ls a b (λ v d. e v (rw d (or_true (eqb (l / 2) v)))))

by_first : (l : ℕ) (ls : List ℕ) (a b : Values) → a (l / 2) ≡ b (l / 2) → Agree ls a b → (v : ℕ) (t : Bool) → eqb (l / 2) v ≡ t → t || defined ls v ≡ true → a v ≡ b v
by_first l ls a b e f v true q d = let z : l / 2 ≡ v = eqb-true (l / 2) v q in ap a (sym z) ∙ e ∙ ap b z
by_first l ls a b e f v false q d = f v d

agree_values : (ls : List ℕ) (a b : Values) → a 0 ≡ b 0 → values_of a ls ≡ values_of b ls → Agree ls a b
unfolding defined
agree_values [] a b z e v d = let q : v ≡ 0 = eqb-true v 0 d in ap a q ∙ z ∙ ap b (sym q)
agree_values (l ∷ ls) a b z e v d = by_first l ls a b (cc) (agree_values ls a b z (cc)) v (eqb (l / 2) v) refl d

-- the whole net

-- what the gates make of values depends on the inputs' alone
pub gates_agree : {net : Net} → Accepted net → (a b : Values) → Agree net.inputs a b → Agree (net.inputs ++ lefts net.gates) (run net.gates a) (run net.gates b)
gates_agree {net} ok a b e =
    let kept : Agree (net.inputs ++ lefts []) (run net.gates b) b = run_keeps net.M net.inputs 0 [] net.gates ok.gates_chain b in
    let kept' : Agree net.inputs (run net.gates b) b = rw append-nil at kept in
    run_only net.M net.inputs 0 [] net.gates ok.gates_chain a (run net.gates b) (rw append-nil (λ v d. e v d ∙ sym (kept' v d)))
    (run_holds net.M net.inputs 0 [] net.gates ok.gates_chain b)

module _ {net : Net} (ok : Accepted net) (pattern : List Bool) where
  pub inputs_valued : length pattern ≡ length net.inputs → values_of (values net pattern) net.inputs ≡ pattern
  inputs_valued e =
      values_agree net.inputs (values net pattern) (feed net.inputs pattern (λ v. false))
      (rw append-nil at (run_keeps net.M net.inputs 0 [] net.gates ok.gates_chain (feed net.inputs pattern (λ v. false))))
      ∙ feed_gives net.M [] net.inputs ok.inputs_new pattern (λ v. false) e

  pub gates_valued : Holds (values net pattern) net.gates
  gates_valued = run_holds net.M net.inputs 0 [] net.gates ok.gates_chain (feed net.inputs pattern (λ v. false))

  -- no other values of the defined variables do, so every output has one value
  pub values_only : length pattern ≡ length net.inputs → (b : Values) → b 0 ≡ false → values_of b net.inputs ≡ pattern → Holds b net.gates
      → Agree (net.inputs ++ lefts net.gates) (values net pattern) b
  values_only e b z i h =
      let a : Values = feed net.inputs pattern (λ v. false) in
      let zero : a 0 ≡ false = feed_keeps net.M [] net.inputs ok.inputs_new pattern (λ v. false) 0 zero_defined in
      let same : values_of a net.inputs ≡ values_of b net.inputs = feed_gives net.M [] net.inputs ok.inputs_new pattern (λ v. false) e ∙ sym i in
      run_only net.M net.inputs 0 [] net.gates ok.gates_chain a b (rw append-nil (agree_values net.inputs a b (zero ∙ sym z) same)) h
