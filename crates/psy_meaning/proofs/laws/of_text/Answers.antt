-- What is left of the proof of `laws::of_text`.
use Rattle.std.proofs.Common.{arith}
use Rattle.psy_tree.proofs.lemmas.TokenCounts.{length-TokensOf}
use Rattle.psy_meaning.proofs.Bare.{bare_unit}
use Rattle.psy_meaning.proofs.Sizes.{size_of_unit}
use Rattle.psy_meaning.proofs.TextNames.{names_of_text}
use Rattle.psy_meaning.proofs.laws.of_text.Goals as goal

pub returns-clause-unit : goal.returns-clause-unit
returns-clause-unit c bytes tokens raw unit short are spells stands = record {
  bare = bare_unit raw unit stands (names_of_text bytes tokens raw are spells);
  text = (raw, stands);
  size = omega (arith, short, length-TokensOf bytes tokens are, size_of_unit raw unit tokens spells stands);
}

pub returns-clause-size : goal.returns-clause-size
returns-clause-size c tokens raw unit spells stands = size_of_unit raw unit tokens spells stands
