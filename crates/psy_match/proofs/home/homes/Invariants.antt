-- What each loop of `home::homes` keeps.
use Rattle.std.proofs.Common.{◌≡◌, map, take}
use Rattle.std.specs.List.{flat_map}
use Rattle.psy_draw.specs.Homes.{housed_of}
use Rattle.psy_match.specs.Homes.{home_of}
use Rattle.psy_match.proofs.home.homes.Given as goal

-- The homes so far
abbrev pub invariant-loop-agent : goal.invariant-loop-agent
invariant-loop-agent l = map housed_of l.homes.items ≡ flat_map home_of (take l.agent-index l.unit.agents)
