-- What each loop of `silent::Silencing::silences` keeps.
use Rattle.std.proofs.Common.{◌≡◌, map, take}
use Rattle.std.specs.List.{flat_map}
use Rattle.psy_draw.specs.Silences.{silent_of}
use Rattle.psy_match.specs.Silences.{kept_of, silence_of}
use Rattle.psy_match.proofs.silent.Silencing.silences.Given as goal

-- The silences so far
abbrev pub invariant-loop-owned : goal.invariant-loop-owned
invariant-loop-owned l = map silent_of l.silences.items ≡ flat_map silence_of (map kept_of (take l.owned-index l.self.owned.items))
