-- What each loop of `silence::silence_at` keeps.
use Rattle.std.proofs.Common.{◌≡◌, drop, map}
use Rattle.psy_draw.specs.Silences.{silence_at, silent_of}
use Rattle.psy_draw.proofs.silence.silence_at.Given as goal

-- What is left decides.
abbrev pub invariant-each : goal.invariant-each
invariant-each l = silence_at (map silent_of l.silences) l.name ≡ silence_at (map silent_of (drop l.silence-index l.silences)) l.name
