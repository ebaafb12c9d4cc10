-- What is left of the proof of `laws::same_paths`.
use Rattle.psy_gen.proofs.ways.Lists.{paths_of}
use Rattle.psy_gen.proofs.laws.same_paths.Goals as goal

pub returns : goal.returns
returns c unit code paths same are = paths_of unit code same paths are
