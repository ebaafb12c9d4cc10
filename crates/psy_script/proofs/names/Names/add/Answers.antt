-- What is left of the proof of `names::Names::add`.
use Rattle.std.proofs.Common.{◌∙◌}
use Rattle.psy_script.proofs.NamePlaces.{names_more}
use Rattle.psy_script.proofs.names.Names.add.Goals as goal

pub returns : goal.returns
returns c =
    names_more c.self.inside.table.entries c.insert.new.self.entries c.in_ok-name.name c.args.name.now tt c.args.self.now
    c.in_ok-insert.ensures.entries (c.in_ok-name.ensures ∙ c.bytes.ensures) c.self.view_is c.requires.absent
