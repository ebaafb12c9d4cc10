-- What each loop of `variables::rings` keeps.
use Rattle.std.proofs.Common.{◌≡◌, ℕ, ◌<◌, ◌≤◌, length, get_or}
use Rattle.std.specs.List.{All}
use Rattle.psy_base.specs.declared.limits.TheConstants.{RING}
use Rattle.psy_meaning.specs.KnownWays.{Listed}
use Rattle.psy_meaning.specs.RingSizes.{IsRingSize}
use Rattle.psy_sizes.proofs.variables.rings.Given as goal

abbrev pub invariant-variables : goal.invariant-variables
invariant-variables l = record {
  count : length l.sizes ≡ l.variable;
  each : (variable d : ℕ) → variable < l.variable → IsRingSize l.unit (Listed l.ways) l.ways.nexts variable (get_or l.sizes variable d);
  small : All (λ size. (1 ≤ size) × (size ≤ RING)) l.sizes;
}
