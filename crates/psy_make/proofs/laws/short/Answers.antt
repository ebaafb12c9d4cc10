-- What is left of the proof of `laws::short`.
use Rattle.std.proofs.Common.{arith}
use Rattle.psy_make.proofs.ShortTexts.{text_short}
use Rattle.psy_make.proofs.laws.short.Goals as goal

pub returns : goal.returns
returns c seed = omega (arith, text_short seed (c.agents.ensures.few seed).1)
