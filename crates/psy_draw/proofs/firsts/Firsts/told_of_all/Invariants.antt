-- What each loop of `firsts::Firsts::told_of_all` keeps.
use Rattle.std.proofs.Common.{◌≡◌, map, take}
use Rattle.psy_draw.specs.Firsts.{told_of}
use Rattle.psy_draw.proofs.firsts.Firsts.told_of_all.Given as goal

-- The values of those so far
abbrev pub invariant-copying : goal.invariant-copying
invariant-copying l = l.told.items ≡ map (told_of l.self) (take l.place l.names)
