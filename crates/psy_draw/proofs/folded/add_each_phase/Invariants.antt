-- What each loop of `folded::add_each_phase` keeps.
use Rattle.std.proofs.Common.{◌≡◌, ◌++◌, take}
use Rattle.std.specs.List.{flat_map}
use Rattle.psy_draw.specs.Folded.{more_phase}
use Rattle.psy_draw.proofs.folded.add_each_phase.Given as goal

-- The texts so far
abbrev pub invariant-loop-phase : goal.invariant-loop-phase
invariant-loop-phase l = l.out.items ≡ l.initial.out.items ++ flat_map more_phase (take l.phase-index l.phases)
