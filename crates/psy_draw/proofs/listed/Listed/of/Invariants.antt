-- What each loop of `listed::Listed::of` keeps.
use Rattle.std.proofs.Common.{take}
use Rattle.psy_draw.specs.Listing.{Lists, ends_agent, ends_stream, ends_variable}
use Rattle.psy_draw.proofs.listed.Listed.of.Given as goal

-- The names so far
abbrev pub invariant-loop-note : goal.invariant-loop-note
invariant-loop-note l = record {
  agents : Lists ends_agent (take l.note-index l.notes) l.listed.agents;
  variables : Lists ends_variable (take l.note-index l.notes) l.listed.variables;
  streams : Lists ends_stream (take l.note-index l.notes) l.listed.streams;
}
