-- What is left of the proof of `ready::place_in`.
use Rattle.std.proofs.Common.{slice_get, ap, ◌∙◌}
use Rattle.psy_ready.proofs.Places.{found_there}
use Rattle.psy_ready.proofs.ready.place_in.Goals as goal

pub returns : goal.returns
returns c = ap (slice_get c.args.order.now) c.unwrap_or.ensures ∙ found_there c.args.order.now c.args.agent c.requires c.found_in.result c.found_in.ensures
