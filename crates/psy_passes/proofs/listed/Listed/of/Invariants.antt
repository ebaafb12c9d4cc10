-- What each loop of `listed::Listed::of` keeps.
use Rattle.std.proofs.Common.{◌≡◌, [], take}
use Rattle.std.specs.Prelude.{fold}
use Rattle.psy_passes.specs.Listing.{added_agent, added_stream, added_variable}
use Rattle.psy_passes.proofs.listed.Listed.of.Given as goal

-- The names so far
abbrev pub invariant-loop-note : goal.invariant-loop-note
invariant-loop-note l = record {
  agents : l.listed.agents ≡ fold added_agent [] (take l.note-index l.notes);
  variables : l.listed.variables ≡ fold added_variable [] (take l.note-index l.notes);
  streams : l.listed.streams ≡ fold added_stream [] (take l.note-index l.notes);
}
