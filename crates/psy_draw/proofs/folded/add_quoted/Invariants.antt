-- What each loop of `folded::add_quoted` keeps.
use Rattle.std.proofs.Common.{◌≡◌, ◌++◌, take}
use Rattle.std.specs.List.{flat_map}
use Rattle.psy_draw.specs.Folded.{quoted}
use Rattle.psy_draw.proofs.folded.add_quoted.Given as goal

-- The texts so far
abbrev pub invariant-loop-byte : goal.invariant-loop-byte
invariant-loop-byte l = l.out.items ≡ l.initial.out.items ++ flat_map quoted (take l.byte-index l.text)
