-- What a program tells of a run.
use Rattle.std.specs.Prelude.{List, [], map}
use Rattle.psy_draw.specs.declared.known.Known.{Known}
use Rattle.psy_draw.specs.Homes.{Housed, housed_of}
use Rattle.psy_draw.specs.Silences.{Silent, silent_of}

-- From when on variables are silent, and of which processors agents are
pub record Knowledge : Type 0 where
  pub silences : List Silent
  pub homes : List Housed

-- What is known
abbrev pub knowledge_of : Known → Knowledge
knowledge_of known = record { silences = map silent_of known.silences.now; homes = map housed_of known.homes.now }

-- Nothing is known.
abbrev pub nothing : Knowledge
nothing = record { silences = []; homes = [] }
