-- WHAT A PRINTED VERDICT STANDS FOR. The hypothesis `Prints` is what `print` in src/lib.rt promises, for an output o of the net that the text gives; the line is
-- what is printed. The bytes 48, 49 and 50 are `0`, `1` and `2`.
-- Assumes nothing.
use Prim.Native.Nat.{ℕ, ◌<◌}
use mathlib.Core.Path.{◌≡◌, sym, ap, ◌∙◌}
use mathlib.Core.List.{List, ◌∷◌, ◌++◌, map}
use native.Mathlib.Omega.{arith}
use lib.ListN.{length, get_or}
use Rattle.steps.specs.Table.{Slices}
use Rattle.table.specs.Lent.{room}
use Rattle.aiger.specs.Net.{Net, got, circuit}
use Rattle.verdicts.specs.Calls.{Answer, verdict_0, verdict_1, verdict_2, refusal, Left, end_with}
use Rattle.verdicts.specs.StandsFor.{Accepts, NeverOne, LeastOne, TooFewRows, StandsFor}
use Rattle.verdicts.specs.Verdicts.{verdict_of}
use Rattle.verdicts.proofs.StandsFor.{verdict_stands_for}
use Rattle.printing.specs.Inner.{Prints}
use Rattle.printing.specs.Text.{digit, heading, dot, block}

-- the block of verdict 1 for output o, where the digits on the pattern's line are those of the least pattern
pub record LeastPrinted (text : List ℕ) (o : ℕ) (block : List ℕ) : Type 0 where
  pub pattern : List ℕ
  pub digits : block ≡ heading 1 o ++ (10 ∷ map digit pattern ++ 10 ∷ dot)
  pub least : Accepts text (LeastOne o pattern)

first : {xs : List ℕ} {b : ℕ} {t : List ℕ} → xs ≡ b ∷ t → get_or xs 0 0 ≡ b
first e = ap (λ (z : List ℕ). get_or z 0 0) e

module _ {net : Net} {s : Slices} {o : ℕ} {p line : List ℕ} (prints : Prints net s o p line)
    (text rest : List ℕ) (reads : circuit text ≡ got net rest) (there : o < length net.outputs) (t : List ℕ) where
  abbrev judged : Left
  judged = end_with (verdict_of net (room s) o) s p

  meant : StandsFor judged.answer judged.pattern text o (room s)
  meant = verdict_stands_for text o s p net rest reads there (room s)

  -- `0` first: the text is an accepted circuit, o is one of its outputs, and at every input pattern that output is 0
  pub zero_stands_for : line ≡ 48 ∷ t → Accepts text (NeverOne o)
  zero_stands_for e = go judged.answer judged.pattern meant (sym prints.text ∙ e)
    where
      go : (a : Answer) (q : List ℕ) → StandsFor a q text o (room s) → block a o q ≡ 48 ∷ t → Accepts text (NeverOne o)
      go (verdict_0 n) q m e = m
      go (verdict_1 n) q m e = absurd (omega (arith, first e))
      go verdict_2 q m e = absurd (omega (arith, first e))
      go (refusal why) q m e = absurd (omega (arith, first e))

  -- `1` first: the digits on the pattern's line, one for each input, make the output 1, and no pattern that makes it 1 is less
  pub one_stands_for : line ≡ 49 ∷ t → LeastPrinted text o line
  one_stands_for e = go judged.answer judged.pattern meant prints.text
    where
      go : (a : Answer) (q : List ℕ) → StandsFor a q text o (room s) → line ≡ block a o q → LeastPrinted text o line
      go (verdict_0 n) q m f = absurd (omega (arith, first (sym f ∙ e)))
      go (verdict_1 n) q m f = record { pattern = q; digits = f; least = m }
      go verdict_2 q m f = absurd (omega (arith, first (sym f ∙ e)))
      go (refusal why) q m f = absurd (omega (arith, first (sym f ∙ e)))

  -- `2` first: the written steps need more rows for the output than the table has
  pub two_stands_for : line ≡ 50 ∷ t → Accepts text (TooFewRows o (room s))
  two_stands_for e = go judged.answer judged.pattern meant (sym prints.text ∙ e)
    where
      go : (a : Answer) (q : List ℕ) → StandsFor a q text o (room s) → block a o q ≡ 50 ∷ t → Accepts text (TooFewRows o (room s))
      go (verdict_0 n) q m e = absurd (omega (arith, first e))
      go (verdict_1 n) q m e = absurd (omega (arith, first e))
      go verdict_2 q m e = m
      go (refusal why) q m e = absurd (omega (arith, first e))
