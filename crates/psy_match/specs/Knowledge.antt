-- What a program tells of a run.
use Rattle.std.specs.Prelude.{List}
use Rattle.psy_draw.specs.Knowledge.{Knowledge}
use Rattle.psy_log.specs.declared.note.Note.{Note}
use Rattle.psy_match.specs.Homes.{homes_in}
use Rattle.psy_match.specs.Silences.{silences_in}
use Rattle.psy_tree.specs.declared.unit.Unit.{Unit as Whole}

-- From when on variables are silent, and of which processors agents are
abbrev pub knowledge_in : Whole → List Note → Knowledge
knowledge_in unit notes = record { silences = silences_in unit notes; homes = homes_in unit }
