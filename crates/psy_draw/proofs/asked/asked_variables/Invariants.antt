-- What each loop of `asked::asked_variables` keeps.
use Rattle.std.proofs.Common.{map, take}
use Rattle.std.specs.Prelude.{string_bytes}
use Rattle.psy_draw.specs.Gathering.{asks_variable}
use Rattle.psy_draw.specs.Listing.{Lists}
use Rattle.psy_draw.proofs.asked.asked_variables.Given as goal

-- The names so far
abbrev pub invariant-loop-note : goal.invariant-loop-note
invariant-loop-note l = Lists (asks_variable (map string_bytes l.names)) (take l.note-index l.summary) l.variables
