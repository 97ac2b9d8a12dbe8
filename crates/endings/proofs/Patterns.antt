-- The bytes of a pattern, one after the other.
use Prim.Native.Nat.{ℕ, zero, suc, ◌+◌, ◌-◌, ◌/◌, ◌<◌, ◌≤◌}
use mathlib.Core.Path.{◌≡◌, refl, sym, ap, ◌∙◌}
use mathlib.Core.Bool.{Bool, true, false}
use mathlib.Core.List.{List, [], ◌∷◌, map, map-map}
use native.Mathlib.Omega.{arith}
use lib.Dec.{eqb}
use Rattle.std.proofs.Math.ListN.{get_or-map}
use Rattle.aiger.specs.declared.lines.Lit.{Lit}
use Rattle.aiger.specs.Answers.{literals_in}
use lib.ListN.{length, get_or, set, take, length-set, length-map}
use lib.Seq.{get_or-set_same, get_or-set_other, get_or-take, length-take-le, ext_get_or}
use borrow.Author.Tests.{eqb-true, eqb-false}
use Rattle.steps.specs.One.{one}
use Rattle.steps.specs.Rows.{Rows, none, ◌▹◌, next, row, root, Assignment, bit}
use Rattle.steps.specs.Sound.{Sound}
use Rattle.steps.specs.Table.{Slices, rows_of}
use Rattle.assignments.specs.Bytes.{bytes_of}
use Rattle.assignments.specs.Inner.{Lasting}
use Rattle.assignments.proofs.Ones.{bytes_at as bytes_of_at}
use Rattle.verdicts.specs.Patterns.{bytes}
use Rattle.verdicts.specs.Systems.{ring}
use Rattle.endings.specs.Inner.{bytes_at, PatternAsked}

-- a table that is sound over N variables is sound over more

module _ (N N' : ℕ) (h : N ≤ N') where
  root_more : (R : Rows) (k : ℕ) → root N R k ≤ root N' R k
  unfolding row
  root_more none k = h
  root_more (R ▹ r) k = go (eqb k (next R)) refl (root_more R k)
    where
      go : (b : Bool) → eqb k (next R) ≡ b → root N R k ≤ root N' R k → root N (R ▹ r) k ≤ root N' (R ▹ r) k
      go true e i = rw (root, e, row) (omega arith)
      go false e i = rw (root, e, row) i

  sound_more : (R : Rows) → Sound N R → Sound N' R
  unfolding Sound
  sound_more none s = tt
  sound_more (R ▹ r) s =
      let c = s.1 in (
        sound_more R s.0,
        record {
          var_below = omega (arith, c.var_below);
          then_used = c.then_used;
          else_used = c.else_used;
          then_not_0 = c.then_not_0;
          then_above = omega (arith, c.then_above, root_more R r.then_part);
          else_above = omega (arith, c.else_above, root_more R r.else_part);
          new = c.new;
        },
      )

get_d_mapped : (f : ℕ → ℕ) (ls : List ℕ) (j : ℕ) → j < length ls → get_or (map f ls) j 0 ≡ f (get_or ls j 0)
get_d_mapped f [] j h = absurd (omega arith)
get_d_mapped f (l ∷ ls) zero h = refl
get_d_mapped f (l ∷ ls) (suc j) h = get_d_mapped f ls j (omega arith)

-- a literal among the numbers of all
pub literal_at : (ls : List Lit) (i : ℕ) → get_or (literals_in ls) i 0 ≡ (get_or ls i (record { 0 = 0 })).0
literal_at ls i = get_or-map (λ (l : Lit). l.0) ls i (record { 0 = 0 })

-- the first i bytes of the pattern are written, from the bytes of the ring variables
pub record Written (M : ℕ) (ins p₀ p ones : List ℕ) (i : ℕ) : Type 0 where
  pub same_length : length p ≡ length p₀
  pub few : i ≤ length p₀
  pub each : (j : ℕ) → j < i → get_or p j 0 ≡ get_or ones (M - get_or ins j 0 / 2) 0

module _ (M : ℕ) (ins p₀ ones : List ℕ) where
  pub written_next : {p : List ℕ} {i : ℕ} → Written M ins p₀ p ones i → i < length p → Written M ins p₀ (set p i (get_or ones (M - get_or ins i 0 / 2) 0)) ones (i + 1)
  written_next {p} {i} x h = record { same_length = length-set p i v ∙ x.same_length; few = omega (arith, x.same_length); each = λ j g. at j g (eqb j i) refl }
    where
      v : ℕ
      v = get_or ones (M - get_or ins i 0 / 2) 0

      at : (j : ℕ) → j < i + 1 → (b : Bool) → eqb j i ≡ b → get_or (set p i v) j 0 ≡ get_or ones (M - get_or ins j 0 / 2) 0
      at j g true e = let q = eqb-true j i e in rw q (get_or-set_same p i v 0 h)
      at j g false e = let q = eqb-false j i e in get_or-set_other p i j v 0 q ∙ x.each j (omega arith)

pub one_asks : {M c : ℕ} {s : Slices} {k : ℕ} {ins : List ℕ} {I : ℕ} {ones : List ℕ} → PatternAsked M c s k ins I → length ones ≡ 1024 → Lasting c s ones × (k < c + 2)
one_asks {M} {c} {s} a e = (record { lent = a.lent; sound = rw e (sound_more M 1024 a.vars (rows_of s c) a.sound) }, a.used)

module _ (M c : ℕ) (s : Slices) (k : ℕ) (ins p₀ : List ℕ) (a : PatternAsked M c s k ins (length p₀)) where
  abbrev found : Assignment
  found = one (rows_of s c) k

  abbrev f : ℕ → Bool
  f l = found (ring M (l / 2))

  long_enough : length (bytes (map f (take (length p₀) ins))) ≡ length p₀
  long_enough = length-map (map f (take (length p₀) ins)) bit ∙ length-map (take (length p₀) ins) f ∙ length-take-le (length p₀) ins a.long

  there : (j : ℕ) → j < length p₀ → get_or (bytes (map f (take (length p₀) ins))) j 0 ≡ bit (f (get_or ins j 0))
  there j g =
      ap (λ (l : List ℕ). get_or l j 0) (map-map bit f (take (length p₀) ins)) ∙ get_d_mapped (λ l. bit (f l)) (take (length p₀) ins) j (omega (arith, length-take-le (length p₀) ins a.long))
      ∙ ap (λ (l : ℕ). bit (f l)) (get_or-take (length p₀) ins j 0 g)

  pub written_end : {p ones : List ℕ} {i : ℕ} → Written M ins p₀ p ones i → length p ≤ i → ones ≡ bytes_of 1024 (one (rows_of s c) k) → p ≡ bytes_at M (one (rows_of s c) k) (take (length p₀) ins)
  written_end {p} {ones} {i} x h e =
      ext_get_or 0 p (bytes (map f (take (length p₀) ins))) (x.same_length ∙ sym long_enough) (λ j g.
      let u : j < length p₀ = omega (arith, x.same_length) in
      x.each j (omega arith) ∙ ap (λ (l : List ℕ). get_or l (M - get_or ins j 0 / 2) 0) e
      ∙ bytes_of_at 1024 found (M - get_or ins j 0 / 2) (omega (arith, a.vars, a.positive j u, a.low j u)) ∙ sym (there j u))
