-- What each loop of `home::home_at` keeps.
use Rattle.std.proofs.Common.{◌≡◌, drop, map}
use Rattle.psy_draw.specs.Homes.{home_at, housed_of}
use Rattle.psy_draw.proofs.home.home_at.Given as goal

-- What is left decides.
abbrev pub invariant-each : goal.invariant-each
invariant-each l = home_at (map housed_of l.homes) l.name ≡ home_at (map housed_of (drop l.home-index l.homes)) l.name
