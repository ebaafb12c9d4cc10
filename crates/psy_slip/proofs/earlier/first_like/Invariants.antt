-- What each loop of `earlier::first_like` keeps.
use Rattle.std.proofs.Common.{◌≡◌, ◌+◌, ◌≤◌, length, map}
use Rattle.std.specs.Prelude.{option_map}
use Rattle.psy_slip.specs.Earlier.{first_like}
use Rattle.psy_slip.proofs.earlier.first_like.Given as goal

abbrev pub invariant-each : goal.invariant-each
invariant-each l = record {
  within : l.lines + length l.rest ≤ length l.text;
  found : option_map (λ k. l.lines + k) (first_like l.file (map (λ w. w.now) l.words) l.rest) ≡ first_like l.file (map (λ w. w.now) l.words) l.text;
}

abbrev pub decreases-each : goal.decreases-each
decreases-each l = length l.rest
