-- The values of an accepted net's variables come from its inputs alone.
use Prim.Native.Nat.{ℕ, zero, suc, ◌+◌, ◌*◌, ◌-◌, ◌/◌, ◌<◌, ◌≤◌}
use mathlib.Core.Path.{◌≡◌, refl, sym, ap, ◌∙◌, fun_ext}
use mathlib.Core.Bool.{Bool, true, false}
use mathlib.Core.List.{List, [], ◌∷◌, ◌++◌, map}
use native.Mathlib.Omega.{arith}
use lib.Dec.{eqb}
use lib.ListN.{length, get_or}
use borrow.Author.Tests.{eqb-true, eqb-false}
use Rattle.steps.specs.One.{put}
use Rattle.steps.specs.Rows.{Assignment}
use Rattle.std.proofs.Common.{if◌then◌else◌}
use Rattle.aiger.specs.Meaning.{Values, literal, assign, feed, run}
use Rattle.aiger.specs.Net.{Net, defined, lefts}
use Rattle.aiger.specs.Accepted.{News, Knowns, Accepted}
use Rattle.aiger.proofs.Valued.{Agree, values_of, gates_agree, inputs_valued}
use Rattle.verdicts.specs.Patterns.{pattern_of, given}
use Rattle.verdicts.proofs.Rings.{values_at, values_0, values_inside, values_beyond, ring_of, values_ring, values_put, Place, constant, inside, beyond, place}

literal_agree : (ls : List ℕ) (a b : Values) → Agree ls a b → (l : ℕ) → defined ls (l / 2) ≡ true → literal a l ≡ literal b l
literal_agree ls a b e l d = rw (e (l / 2) d)

-- what a pattern gives

-- no literal of ls is of variable v
unfoldable Absent : List ℕ → ℕ → Type 0
Absent [] v = Unit {0}
Absent (l ∷ ls) v = (l / 2 ≡ v → ⊥) × Absent ls v

assign_other : (v w : ℕ) (b : Bool) (a : Values) → (v ≡ w → ⊥) → assign v b a w ≡ a w
assign_other v w b a n = go (eqb v w) refl
  where
    go : (t : Bool) → eqb v w ≡ t → (if t then b else a w) ≡ a w
    go true e = absurd (n (eqb-true v w e))
    go false e = refl

feed_absent : (ls : List ℕ) (bs : List Bool) (a : Values) (v : ℕ) → Absent ls v → feed ls bs a v ≡ a v
unfolding feed Absent
feed_absent [] bs a v n = refl
feed_absent (l ∷ ls) [] a v n = refl
feed_absent (l ∷ ls) (b ∷ bs) a v n = feed_absent ls bs (assign (l / 2) b a) v n.1 ∙ assign_other (l / 2) v b a n.0

-- variable 0 and those beyond M are no inputs
news_absent : (M : ℕ) (ls more : List ℕ) → News M ls more → (v : ℕ) → ((l : ℕ) → 2 ≤ l → l ≤ 2 * M + 1 → l / 2 ≡ v → ⊥) → Absent more v
unfolding News Absent
news_absent M ls [] n v h = tt
news_absent M ls (l ∷ more) n v h = (h l n.0.low n.0.high, news_absent M (ls ++ l ∷ []) more n.1 v h)

-- where the pattern has the values of f, so have the variables
feed_keeps : (ls : List ℕ) (f a : Values) (v : ℕ) → a v ≡ f v → feed ls (values_of f ls) a v ≡ f v
unfolding feed
feed_keeps [] f a v e = e
feed_keeps (l ∷ ls) f a v e = feed_keeps ls f (assign (l / 2) (f (l / 2)) a) v (go (eqb (l / 2) v) refl)
  where
    go : (t : Bool) → eqb (l / 2) v ≡ t → (if t then f (l / 2) else a v) ≡ f v
    go true q = ap f (eqb-true (l / 2) v q)
    go false q = e

feed_sets : (ls : List ℕ) (f a : Values) (v : ℕ) → (v ≡ 0 → ⊥) → defined ls v ≡ true → feed ls (values_of f ls) a v ≡ f v
unfolding feed defined
feed_sets [] f a v n d = absurd (n (eqb-true v 0 d))
feed_sets (l ∷ ls) f a v n d = go (eqb (l / 2) v) refl (feed_sets ls f)
  where
    go : (t : Bool) → eqb (l / 2) v ≡ t → ((a : Values) (v : ℕ) → (v ≡ 0 → ⊥) → defined ls v ≡ true → feed ls (values_of f ls) a v ≡ f v)
        → feed ls (values_of f ls) (assign (l / 2) (f (l / 2)) a) v ≡ f v
    go true q ih = feed_keeps ls f (assign (l / 2) (f (l / 2)) a) v (rw q (ap f (eqb-true (l / 2) v q)))
    go false q ih = ih (assign (l / 2) (f (l / 2)) a) v n (rw q at d)

feed_all : (ls : List ℕ) (f : Values) → f 0 ≡ false → ((v : ℕ) → defined ls v ≡ false → f v ≡ false) → given ls (values_of f ls) ≡ f
feed_all ls f z n = fun_ext (λ v. go v (eqb v 0) refl (defined ls v) refl)
  where
    go : (v : ℕ) (t : Bool) → eqb v 0 ≡ t → (d : Bool) → defined ls v ≡ d → given ls (values_of f ls) v ≡ f v
    go v true e d q = let y = eqb-true v 0 e in feed_keeps ls f (λ v. false) v (rw y (sym z))
    go v false e true q = feed_sets ls f (λ v. false) v (eqb-false v 0 e) q
    go v false e false q = feed_keeps ls f (λ v. false) v (sym (n v q))

-- an accepted net

-- the outputs' literals are in range, and defined
known_at : (M : ℕ) (ls os : List ℕ) → Knowns M ls os → (o : ℕ) → o < length os → (get_or os o 0 ≤ 2 * M + 1) × (defined ls (get_or os o 0 / 2) ≡ true)
unfolding Knowns
known_at M ls [] k o h = absurd (omega arith)
known_at M ls (l ∷ os) k zero h = (k.0, k.1.0)
known_at M ls (l ∷ os) k (suc o) h = known_at M ls os k.1.1 o (omega arith)

pattern_values : (M : ℕ) (ls more : List ℕ) → News M ls more → (a : Assignment) → map (λ l. a (M - l / 2)) more ≡ values_of (values_at M a) more
unfolding News
pattern_values M ls [] n a = refl
pattern_values M ls (l ∷ more) n a =
    let h = n.0.high in
    let g = n.0.low in
    let first : a (M - l / 2) ≡ values_at M a (l / 2) = sym (values_inside M a (l / 2) (omega arith) (omega arith)) in
    rw (first, pattern_values M (ls ++ l ∷ []) more n.1 a)

module _ {net : Net} (ok : Accepted net) where
  pub output_low : (o : ℕ) → o < length net.outputs → get_or net.outputs o 0 / 2 ≤ net.M
  output_low o h = omega (arith, (known_at net.M (net.inputs ++ lefts net.gates) net.outputs ok.outputs_known o h).0)

  -- a pattern as an assignment
  pub values_given : (p : List Bool) → values_at net.M (ring_of net.M (given net.inputs p)) ≡ given net.inputs p
  values_given p =
      values_ring net.M (given net.inputs p)
      (feed_absent net.inputs p (λ v. false) 0 (news_absent net.M [] net.inputs ok.inputs_new 0 (λ l g h q. omega arith)))
      (λ v b. feed_absent net.inputs p (λ v. false) v (news_absent net.M [] net.inputs ok.inputs_new v (λ l g h q. omega arith)))

  -- an assignment that is 0 at all that is no input is the one of its pattern
  pub given_pattern : (a : Assignment) → ((v : ℕ) → 0 < v → v ≤ net.M → defined net.inputs v ≡ false → a (net.M - v) ≡ false) → given net.inputs (pattern_of net a) ≡ values_at net.M a
  given_pattern a n =
      ap (given net.inputs) (pattern_values net.M [] net.inputs ok.inputs_new a)
      ∙ feed_all net.inputs (values_at net.M a) (values_0 net.M a) (λ v d. go v d (place net.M v))
    where
      go : (v : ℕ) → defined net.inputs v ≡ false → Place net.M v → values_at net.M a v ≡ false
      go v d (constant e) = rw e (values_0 net.M a)
      go v d (inside p h) = values_inside net.M a v p h ∙ n v p h d
      go v d (beyond h) = values_beyond net.M a v h

  -- a variable that is no input alters no output
  pub output_free : (o : ℕ) → o < length net.outputs → (v : ℕ) → 0 < v → v ≤ net.M → defined net.inputs v ≡ false → (a : Assignment) (b : Bool)
      → literal (run net.gates (values_at net.M (put a (net.M - v) b))) (get_or net.outputs o 0) ≡ literal (run net.gates (values_at net.M a)) (get_or net.outputs o 0)
  output_free o h v p l d a b =
      let x : Values = values_at net.M a in
      let agree : Agree net.inputs (assign v b x) x = λ w e. assign_other v w b x (λ q. let y : ◌≡◌ {A = Bool} false true = sym d ∙ ap (defined net.inputs) q ∙ e in let z : ◌≡◌ {A = ℕ} 0 1 = cc in omega arith) in
      ap (λ (y : Values). literal (run net.gates y) (get_or net.outputs o 0)) (values_put net.M a v b p l)
      ∙ literal_agree (net.inputs ++ lefts net.gates) (run net.gates (assign v b x)) (run net.gates x)
      (gates_agree ok (assign v b x) x agree)
      (get_or net.outputs o 0) (known_at net.M (net.inputs ++ lefts net.gates) net.outputs ok.outputs_known o h).1

  -- patterns that give every variable the same value are the same
  pub given_same : (p q : List Bool) → length p ≡ length net.inputs → length q ≡ length net.inputs → given net.inputs p ≡ given net.inputs q → p ≡ q
  given_same p q lp lq e = sym (inputs_valued ok p lp) ∙ ap (λ (a : Values). values_of (run net.gates a) net.inputs) e ∙ inputs_valued ok q lq
