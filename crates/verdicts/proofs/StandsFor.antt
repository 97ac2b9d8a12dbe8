-- What the verdicts stand for: of an output judged in a table of any size, and of the circuit call.
use Prim.Native.Nat.{ℕ, ◌/◌, ◌<◌}
use mathlib.Core.Path.{◌≡◌, refl, sym, ap, subst, ◌∙◌}
use mathlib.Core.Bool.{Bool, true, false}
use mathlib.Core.List.{List, [], ◌∷◌}
use native.Mathlib.Omega.{arith}
use lib.Dec.{eqb}
use lib.ListN.{length, length-map}
use Rattle.steps.specs.One.{one}
use Rattle.steps.specs.Rows.{bit}
use Rattle.steps.specs.Table.{Slices}
use Rattle.table.specs.Lent.{room}
use Rattle.aiger.specs.Accepted.{Accepted}
use Rattle.aiger.specs.Net.{got, Net, circuit}
use Rattle.aiger.proofs.Accepted.{accepted}
use Rattle.verdicts.specs.Calls.{Answer, verdict_0, verdict_1, verdict_2, refusal, Left, end_with, circuit_call}
use Rattle.verdicts.specs.Patterns.{pattern_of, bytes, bits, output_value, NotGreater}
use Rattle.verdicts.specs.StandsFor.{Accepts, NeverOne, LeastOne, StandsFor}
use Rattle.verdicts.specs.Systems.{ring}
use Rattle.verdicts.specs.Verdicts.{Verdict, output_rows, verdict_of}
use Rattle.verdicts.proofs.Least.{form_0, form_1, found_least}
use Rattle.verdicts.proofs.Outcomes.{call_passes, kind, answered, Case, zero_found, one_found, no_room, case}

-- a byte and back

bit_read : (x : Bool) → eqb (bit x) 1 ≡ x
bit_read true = refl
bit_read false = refl

bits_bytes : (q : List Bool) → bits (bytes q) ≡ q
bits_bytes [] = refl
bits_bytes (x ∷ q) = rw (bit_read x, bits_bytes q)

-- by the number that the steps answer

module _ {net : Net} (ok : Accepted net) (o : ℕ) (there : o < length net.outputs) where
  pub never_one : (output_rows net o).num ≡ 0 → NeverOne o net
  never_one z = record { there = there; always_0 = form_0 ok o there z }

  pub least_one : ((output_rows net o).num ≡ 0 → ⊥) → LeastOne o (bytes (pattern_of net (one (output_rows net o).rows (output_rows net o).num))) net
  least_one z =
      let q : List Bool = pattern_of net (one (output_rows net o).rows (output_rows net o).num) in
      record {
        there = there;
        witness = record {
          zeros_and_ones = ap bytes (bits_bytes q);
          long = length-map q bit ∙ length-map net.inputs (λ l. one (output_rows net o).rows (output_rows net o).num (ring net.M (l / 2)));
          makes_1 = ap (λ (b : List Bool). output_value net b o) (bits_bytes q) ∙ form_1 ok o there z;
        };
        least = λ p long is_1. subst (λ (b : List Bool). NotGreater net.inputs b p) (sym (bits_bytes q)) (found_least ok o there p long is_1);
      }

module _ (text : List ℕ) (o : ℕ) (s : Slices) (p : List ℕ) where
  abbrev Stands : ℕ → Left → Type 0
  Stands R l = StandsFor l.answer l.pattern text o R

  -- of an accepted text's output, in a table of R rows; s and p are whatever the verdict is left in
  pub verdict_stands_for : (net : Net) (rest : List ℕ) → circuit text ≡ got net rest → o < length net.outputs → (R : ℕ)
      → StandsFor (end_with (verdict_of net R o) s p).answer (end_with (verdict_of net R o) s p).pattern text o R
  verdict_stands_for net rest reads there R = go (case net R (output_rows net o))
    where
      accepts : {P : Net → Type 0} → P net → Accepts text P
      accepts x = record { net = net; rest = rest; reads = reads; holds = x }

      ends : {v : Verdict} → verdict_of net R o ≡ v → Stands R (end_with v s p) → Stands R (end_with (verdict_of net R o) s p)
      ends e x = subst (λ (v : Verdict). Stands R (end_with v s p)) (sym e) x

      ok : Accepted net
      ok = accepted text net rest reads

      go : Case net R (output_rows net o) → Stands R (end_with (verdict_of net R o) s p)
      go (zero_found h z e) = ends e (accepts (never_one ok o there z))
      go (one_found h z e) = ends e (accepts (least_one ok o there z))
      go (no_room h e) = ends e (accepts (record { there = there; needs_more = h }))

  -- of the circuit call, whatever it is lent
  pub stands_for : StandsFor (circuit_call text s o p).answer (circuit_call text s o p).pattern text o (room s)
  stands_for = go (circuit_call text s o p).answer refl
    where
      passes : {a : Answer} → kind a < 3 → (circuit_call text s o p).answer ≡ a → StandsFor a (circuit_call text s o p).pattern text o (room s)
      passes n e =
          let x = answered text s o p (omega (arith, ap kind e)) in
          let y = verdict_stands_for x.net x.rest x.reads x.holds.there (room s) in
          rw e at (subst (Stands (room s)) (sym (call_passes text x.net x.rest x.reads s o p x.holds)) y)

      go : (a : Answer) → (circuit_call text s o p).answer ≡ a → StandsFor a (circuit_call text s o p).pattern text o (room s)
      go (verdict_0 n) e = passes (omega arith) e
      go (verdict_1 n) e = passes (omega arith) e
      go verdict_2 e = passes (omega arith) e
      go (refusal why) e = tt
