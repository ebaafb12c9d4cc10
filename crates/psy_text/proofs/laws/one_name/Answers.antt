-- What is left of the proof of `laws::one_name`.
use Rattle.psy_text.proofs.lemmas.Names.{one_name}
use Rattle.psy_text.proofs.laws.one_name.Goals as goal

pub returns : goal.returns
returns c = one_name
