-- What is left of the proof of `laws::by_text`.
use Rattle.psy_save.proofs.TextWays.{sound_by_text}
use Rattle.psy_save.proofs.laws.by_text.Goals as goal

pub returns : goal.returns
returns c plan opening inputs stalls its text sound = sound_by_text c.one_graph.ensures.graph plan its text opening inputs stalls (sound its)
