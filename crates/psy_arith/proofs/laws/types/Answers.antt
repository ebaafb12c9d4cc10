-- What is left of the proof of `laws::types`.
use Rattle.std.proofs.lemmas.Int.{SFits-int_wrap}
use Rattle.psy_arith.proofs.Ranges.{taken1_fits, taken2_fits}
use Rattle.psy_arith.proofs.laws.types.Goals as goal

pub returns-clause-two : goal.returns-clause-two
returns-clause-two c = taken2_fits

pub returns-clause-one : goal.returns-clause-one
returns-clause-one c = taken1_fits

pub returns-clause-taken : goal.returns-clause-taken
returns-clause-taken c = SFits-int_wrap
