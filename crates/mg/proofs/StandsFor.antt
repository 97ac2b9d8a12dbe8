-- WHAT THE VERDICTS OF `mg_circuit` STAND FOR. The hypothesis `Returns k u` is the `ensures shows` of its contract in src/lib.rt: k is returned and u is the verdict at exit;
-- s, p, v and r are the three slices, the pattern, the verdict and the rows at entry, s', p' and r' the same at exit.
-- Assumes nothing.
use Prim.Native.Nat.{ℕ, ◌<◌}
use mathlib.Core.Path.{◌≡◌, ap, subst}
use mathlib.Core.List.{List}
use native.Mathlib.Omega.{arith}
use Rattle.steps.specs.Table.{Slices}
use Rattle.table.specs.Lent.{room}
use Rattle.verdicts.specs.Calls.{Left, circuit_call}
use Rattle.verdicts.specs.StandsFor.{Accepts, NeverOne, LeastOne, TooFewRows, StandsFor}
use Rattle.verdicts.proofs.Outcomes.{kind, verdict_passes}
use Rattle.verdicts.proofs.StandsFor.{stands_for}
use Rattle.verdicts.proofs.Theorems.{verdict_two_exactly}
use Rattle.endings.specs.Answers.{Judged, answer_of_judged, Answered}
use Rattle.shown.specs.Seen.{Shows, show_verdict}
use Rattle.mg.proofs.Zero.{Verdict-seen, seen_0, seen_1, seen_2, circuit_zero}

module _ (text : List ℕ) (s s' : Slices) (o : ℕ) (p p' : List ℕ) (v r r' : ℕ) where
  abbrev pub Returns : ℕ → ℕ → Type 0
  Returns k u = Shows show_verdict (λ j. Answered (circuit_call text s o p) j s' p') k (v, r) (u, r')

  -- the verdict at exit, where 0 is returned
  abbrev Written : ℕ → Type 0
  Written u = Verdict-seen (λ j. Answered (circuit_call text s o p) j s' p') (v, r) (u, r')

  as_written : {u : ℕ} → Returns 0 u → Written u
  as_written a = circuit_zero text s s' o p p' a

  meant : {j : Judged} → Answered (circuit_call text s o p) j s' p' → StandsFor (answer_of_judged j) p' text o (room s)
  meant a = subst (λ (l : Left). StandsFor l.answer l.pattern text o (room s)) a.is (stands_for text o s p)

  -- 0 returned and verdict 0: the text is an accepted circuit, o is one of its outputs, and at every input pattern that output is 0
  pub zero_stands_for : Returns 0 0 → Accepts text (NeverOne o)
  zero_stands_for a = go (as_written a)
    where
      go : Written 0 → Accepts text (NeverOne o)
      go (seen_0 e x) = meant x
      go (seen_1 e x) = absurd (omega arith)
      go (seen_2 e k x) = absurd (omega arith)

  -- 0 returned and verdict 1: the pattern at exit has a byte, 0 or 1, for each input, makes the output 1, and no pattern that makes it 1 is less
  pub one_stands_for : Returns 0 1 → Accepts text (LeastOne o p')
  one_stands_for a = go (as_written a)
    where
      go : Written 1 → Accepts text (LeastOne o p')
      go (seen_0 e x) = absurd (omega arith)
      go (seen_1 e x) = meant x
      go (seen_2 e k x) = absurd (omega arith)

  -- 0 returned: the verdict is 2 exactly where the written steps need more rows than are lent
  pub two_stands_for : (u : ℕ) → Returns 0 u → (u ≡ 2 → Accepts text (TooFewRows o (room s))) × (Accepts text (TooFewRows o (room s)) → u ≡ 2)
  two_stands_for u a = go (as_written a)
    where
      settled : {j : Judged} → Answered (circuit_call text s o p) j s' p' → kind (answer_of_judged j) < 2 → Accepts text (TooFewRows o (room s)) → ⊥
      settled x n t =
          let k = ap (λ (l : Left). kind l.answer) x.is in
          let y = verdict_passes text s o p t.net t.rest t.reads (omega arith) in
          let e = (verdict_two_exactly text t.net t.rest t.reads s o p y).1 t.holds.needs_more in
          omega (arith, k, ap kind e)

      go : Written u → (u ≡ 2 → Accepts text (TooFewRows o (room s))) × (Accepts text (TooFewRows o (room s)) → u ≡ 2)
      go (seen_0 e x) = (λ q. absurd (omega arith), λ t. absurd (settled x (omega arith) t))
      go (seen_1 e x) = (λ q. absurd (omega arith), λ t. absurd (settled x (omega arith) t))
      go (seen_2 e k x) = (λ q. meant x, λ t. e)
