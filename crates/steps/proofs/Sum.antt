-- The steps of the sum.
use Prim.Native.Nat.{ℕ, zero, suc, ◌+◌, ◌<◌, ◌≤◌}
use mathlib.Core.Path.{◌≡◌, refl, sym, ◌∙◌}
use mathlib.Core.Bool.{Bool, true, false, xor}
use native.Mathlib.Omega.{arith}
use lib.Dec.{eqb}
use borrow.Author.Tests.{eqb-true, eqb-false, eq-eqb, ne_eqb, lt-ltb, le-ltb}
use Rattle.steps.specs.Rows.{Rows, next, Assignment, value, row}
use Rattle.steps.specs.Sound.{Sound}
use Rattle.steps.specs.Steps.{Steps, answer, ◌>>=◌, make, sums}
use Rattle.steps.proofs.Bools.{xor_false, xor_false_right, xor_self, add_parts}
use Rattle.steps.proofs.Compare.{Kind, const, inner, kind, Order, less, equal, greater, order}
use Rattle.steps.proofs.Ok.{Is, Ok, is_keeps, is_as, ok_as, ok_answer, ok_by, ok_bind, ok_make}
use Rattle.steps.proofs.Roots.{root_le, node_below, cut_absent}
use Rattle.steps.proofs.Rows.{◌≼◌, next_2, value_0, row_keeps, row_const, node, Cut}

module _ (N : ℕ) where
  pub sums_left_0 : (k g : ℕ) (S : Rows) → sums N (suc k) 0 g S ≡ answer g S
  unfolding sums
  sums_left_0 k g S = refl

  pub sums_right_0 : (k f : ℕ) (S : Rows) → sums N (suc k) f 0 S ≡ answer f S
  unfolding sums
  sums_right_0 k f S = go (eqb f 0) refl
    where
      go : (b : Bool) → eqb f 0 ≡ b → sums N (suc k) f 0 S ≡ answer f S
      go true e = rw (eqb-true f 0 e)
      go false e = rw (e, sums)

  pub sums_same : (k f : ℕ) (S : Rows) → sums N (suc k) f f S ≡ answer 0 S
  unfolding sums
  sums_same k f S = go (eqb f 0) refl
    where
      go : (b : Bool) → eqb f 0 ≡ b → sums N (suc k) f f S ≡ answer 0 S
      go true e = rw (eqb-true f 0 e)
      go false e = rw (e, eq-eqb f f refl, sums)

  module _ (f g : ℕ) (hf : f ≡ 0 → ⊥) (hg : g ≡ 0 → ⊥) (hfg : f ≡ g → ⊥) where
    pub sums_less : (k : ℕ) (S : Rows) → (row N S f).var < (row N S g).var → sums N (suc k) f g S ≡ (sums N k (row N S f).else_part g >>= make (row N S f).var (row N S f).then_part) S
    unfolding sums
    sums_less k S h = rw (ne_eqb f 0 hf, ne_eqb g 0 hg, ne_eqb f g hfg, lt-ltb (row N S f).var (row N S g).var h, sums)

    pub sums_more : (k : ℕ) (S : Rows) → (row N S g).var < (row N S f).var → sums N (suc k) f g S ≡ (sums N k f (row N S g).else_part >>= make (row N S g).var (row N S g).then_part) S
    unfolding sums
    sums_more k S h = rw (ne_eqb f 0 hf, ne_eqb g 0 hg, ne_eqb f g hfg, le-ltb (row N S f).var (row N S g).var (omega arith), lt-ltb (row N S g).var (row N S f).var h, sums)

    pub sums_both : (k : ℕ) (S : Rows) → (row N S f).var ≡ (row N S g).var → sums N (suc k) f g S
        ≡ (sums N k (row N S f).then_part (row N S g).then_part >>= λ t. sums N k (row N S f).else_part (row N S g).else_part >>= make (row N S f).var t) S
    unfolding sums
    sums_both k S h = rw (ne_eqb f 0 hf, ne_eqb g 0 hg, ne_eqb f g hfg, le-ltb (row N S f).var (row N S g).var (omega arith), le-ltb (row N S g).var (row N S f).var (omega arith), sums)

  -- the step in one form: the sums of the then-parts and of the else-parts, where the then-part of an absent variable is 0
  abbrev pub sum_step : (k v h l h' l' : ℕ) → Steps
  sum_step k v h l h' l' = sums N k h h' >>= λ t. sums N k l l' >>= make v t

  data SumCase (R : Rows) (low f g : ℕ) : Type 0 where
    left_0 : f ≡ 0 → SumCase R low f g
    right_0 : g ≡ 0 → SumCase R low f g
    same : f ≡ g → SumCase R low f g
    step : (v h l h' l' : ℕ) → v < N → low ≤ v → Cut N R v f h l → Cut N R v g h' l'
        → ((k : ℕ) (S : Rows) → R ≼ S → sums N (suc (suc k)) f g S ≡ sum_step (suc k) v h l h' l' S) → SumCase R low f g

  sum_case : (R : Rows) → Sound N R → (low f g : ℕ) → f < next R → g < next R → low ≤ (row N R f).var → low ≤ (row N R g).var → SumCase R low f g
  sum_case R s low f g uf ug lf lg = go (eqb f 0) refl (eqb g 0) refl (eqb f g) refl
    where
      go : (a : Bool) → eqb f 0 ≡ a → (b : Bool) → eqb g 0 ≡ b → (c : Bool) → eqb f g ≡ c → SumCase R low f g
      go true x b y c z = left_0 (eqb-true f 0 x)
      go false x true y c z = right_0 (eqb-true g 0 y)
      go false x false y true z = same (eqb-true f g z)
      go false x false y false z = apart (order (row N R f).var (row N R g).var)
        where
          hf : f ≡ 0 → ⊥
          hf = eqb-false f 0 x

          hg : g ≡ 0 → ⊥
          hg = eqb-false g 0 y

          hfg : f ≡ g → ⊥
          hfg = eqb-false f g z

          rl : ((row N R f).var ≤ N) × ((row N R g).var ≤ N)
          rl = (root_le N R s f uf, root_le N R s g ug)

          meet : (row N R f).var ≡ (row N R g).var → Kind f → Kind g → (row N R f).var < N
          meet h (inner i) j = (node N R s f uf i).var_below
          meet h (const i) (inner j) = let b = (node N R s g ug j).var_below in omega arith
          meet h (const i) (const j) = absurd (hfg (omega (arith, hf, hg)))

          keep : {S : Rows} → R ≼ S → (row N S f ≡ row N R f) × (row N S g ≡ row N R g)
          keep q = (row_keeps N q f uf, row_keeps N q g ug)

          apart : Order (row N R f).var (row N R g).var → SumCase R low f g
          apart (less h) =
              let b : (row N R f).var < N = omega (arith, rl) in
              step (row N R f).var (row N R f).then_part (row N R f).else_part 0 g b lf (node_below N s f uf b).cut (cut_absent N b ug h)
              (λ k S q. rw (sums_right_0 k (row N R f).then_part S, ← (keep q).0)
              (sums_less f g hf hg hfg (suc k) S (rw ((keep q).0, (keep q).1) h)))
          apart (greater h) =
              let b : (row N R g).var < N = omega (arith, rl) in
              step (row N R g).var 0 f (row N R g).then_part (row N R g).else_part b lg (cut_absent N b uf h) (node_below N s g ug b).cut
              (λ k S q. rw (sums_left_0 k (row N R g).then_part S, ← (keep q).1)
              (sums_more f g hf hg hfg (suc k) S (rw ((keep q).0, (keep q).1) h)))
          apart (equal h) =
              let b : (row N R f).var < N = meet h (kind f) (kind g) in
              step (row N R f).var (row N R f).then_part (row N R f).else_part (row N R g).then_part (row N R g).else_part b lf
              (node_below N s f uf b).cut (rw h (node_below N s g ug (omega arith)).cut)
              (λ k S q. rw (← (keep q).0, ← (keep q).1) (sums_both f g hf hg hfg (suc k) S (rw ((keep q).0, (keep q).1) h)))

  pub part : {R : Rows} {v k h l : ℕ} → Cut N R v k h l → Is N R (suc v) (λ a. value a R h) h × Is N R (suc v) (λ a. value a R l) l
  part c = (record { used = c.then_used; above = c.then_above; means = λ a. refl }, record { used = c.else_used; above = c.else_above; means = λ a. refl })

  -- the sum's steps at fuel k, and at any other fuel that is enough
  abbrev pub SumsOk : ℕ → Type 0
  SumsOk k = (j : ℕ) (R : Rows) (low f g : ℕ) (p q : Assignment → Bool) → N < low + k → N < low + j → Sound N R → Is N R low p f → Is N R low q g
      → Ok N (sums N k f g) (sums N j f g) R low (λ a. xor (p a) (q a))

  pub sum_step_ok : (k j : ℕ) → SumsOk k → {R : Rows} {v f h l g h' l' : ℕ} → N < suc v + k → N < suc v + j → Sound N R → v < N → Cut N R v f h l → Cut N R v g h' l'
      → Ok N (sum_step k v h l h' l') (sum_step j v h l h' l') R v (λ a. xor (value a R f) (value a R g))
  sum_step_ok k j ih {R} {v} {f} {h} {l} {g} {h'} {l'} d d' s b cf cg =
      ok_as N (omega arith) (λ a. add_parts (a v) (value a R h) (value a R l) (value a R h') (value a R l') ∙ rw (← cf.splits a, ← cg.splits a))
      (ok_bind N (ih j R (suc v) h h' (λ a. value a R h) (λ a. value a R h') d d' s (part cf).0 (part cg).0) λ t S q₁ s₁ i₁.
      ok_bind N (ih j S (suc v) l l' (λ a. value a R l) (λ a. value a R l') d d' s₁ (is_keeps N q₁ (part cf).1) (is_keeps N q₁ (part cg).1)) λ e T q₂ s₂ i₂.
      ok_make N s₂ b (is_keeps N q₂ i₁) i₂)

  sums_ok : (k j : ℕ) → SumsOk k → (R : Rows) (low f g : ℕ) (p q : Assignment → Bool) → N < low + suc k → N < low + suc j → Sound N R → Is N R low p f → Is N R low q g
      → SumCase R low f g → Ok N (sums N (suc k) f g) (sums N (suc j) f g) R low (λ a. xor (p a) (q a))
  sums_ok k j ih R low f g p q d d' s i i' (left_0 e) =
      ok_by N (λ S h. rw e (sums_left_0 k g S)) (λ S h. rw e (sums_left_0 j g S)) (ok_answer N s (is_as N (omega arith) (λ a. sym (rw (← i.means a, e, value_0 a R) (xor_false (q a)))) i'))
  sums_ok k j ih R low f g p q d d' s i i' (right_0 e) =
      ok_by N (λ S h. rw e (sums_right_0 k f S)) (λ S h. rw e (sums_right_0 j f S)) (ok_answer N s (is_as N (omega arith) (λ a. sym (rw (← i'.means a, e, value_0 a R) (xor_false_right (p a)))) i))
  sums_ok k j ih R low f g p q d d' s i i' (same e) =
      ok_by N (λ S h. rw e (sums_same k g S)) (λ S h. rw e (sums_same j g S)) (ok_answer N s (record {
        used = let z = next_2 R in omega arith;
        above = rw (row_const N R 0 (omega arith)) (let z = root_le N R s f i.used in let w = i.above in omega arith);
        means = λ a. value_0 a R ∙ sym (rw (← i.means a, ← i'.means a, e) (xor_self (value a R g)));
      }))
  sums_ok zero j ih R low f g p q d d' s i i' (step v h l h' l' b lv cf cg eq) = absurd (omega arith)
  sums_ok (suc k) zero ih R low f g p q d d' s i i' (step v h l h' l' b lv cf cg eq) = absurd (omega arith)
  sums_ok (suc k) (suc j) ih R low f g p q d d' s i i' (step v h l h' l' b lv cf cg eq) =
      ok_by N (eq k) (eq j) (ok_as N lv (λ a. rw (i.means a, i'.means a)) (sum_step_ok (suc k) (suc j) ih (omega arith) (omega arith) s b cf cg))

  pub ok_sums : (k : ℕ) → SumsOk k
  ok_sums zero j R low f g p q d d' s i i' = absurd (let h = root_le N R s f i.used in let g = i.above in omega arith)
  ok_sums (suc k) zero R low f g p q d d' s i i' = absurd (let h = root_le N R s f i.used in let g = i.above in omega arith)
  ok_sums (suc k) (suc j) R low f g p q d d' s i i' =
      sums_ok k j (ok_sums k) R low f g p q d d' s i i' (sum_case R s low f g i.used i'.used i.above i'.above)
