use Rattle.std.proofs.Common.{◌∙◌, sym, ltb, rules, tests}
use Rattle.std.proofs.lemmas.Iterator.{YieldsList-from_slice}
use Rattle.std.proofs.lemmas.Iterator.Search.{all_from_yields_List}
use Rattle.numbers.proofs.Bits.{bits_all}
use Rattle.numbers.proofs.all_bits.Goals as goal

pub returns : goal.returns
returns c = bits_all _ ∙ sym (all_from_yields_List (λ b. ltb b 2) _ _ _ c.all.ensures.ran (YieldsList-from_slice c.args.bytes.now cc) (λ x b q k. search (rules, tests)))
