-- What is left of the proof of `names::Names::find`.
use Rattle.std.proofs.Common.{is_some, sym, ap, ◌∙◌}
use Rattle.psy_draw.proofs.Eachs.{found_name}
use Rattle.psy_draw.proofs.names.Names.find.Goals as goal

pub returns-in-Some : goal.returns-in-Some
returns-in-Some c = c.name.ensures ∙ found_name c.args.name.now c.args.self.now c.in-Some.place (sym c.place.ensures.place ∙ c.in-Some.is)

pub returns-in-None : goal.returns-in-None
returns-in-None c = sym c.place.ensures.found ∙ ap is_some c.in-None.is
