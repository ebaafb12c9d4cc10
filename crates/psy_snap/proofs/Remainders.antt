-- Remainders by periods.
use Rattle.std.proofs.Common.{◌≡◌, ℕ, ◌%◌, List, sym}
use Rattle.std.proofs.Math.Nat.{mod-zero}
use Rattle.std.proofs.lemmas.List.Folds.{list_all-map}
use Rattle.std.specs.Prelude.{◌==◌}
use Rattle.std.specs.List.{list_all}
use Rattle.psy_clock.specs.declared.clock.Clock.{Clock}
use Rattle.psy_snap.specs.Forms.{is_phase}
use Rattle.psy_snap.specs.Plans.{is_alike, periods_of}
use Rattle.psy_tree.specs.declared.unit.Point.{Point}
use Rattle.psy_tree.specs.Parts.{no_clock}
use Rattle.std.specs.Prelude.{get_or}

-- A number itself, by the period 0
pub by_zero : (n : ℕ) → n % 0 ≡ n
by_zero n = mod-zero n

-- Dates that are alike by each point's clock are of one phase.
pub of_one_phase : (clocks : List Clock) (points : List Point) (date other : ℕ) → list_all (is_alike clocks date other) points ≡ is_phase (periods_of clocks points) date other
of_one_phase clocks points date other =
    sym (list_all-map (λ p. date % p == other % p) (λ (p : Point). (get_or clocks p.clock no_clock).period) points)
