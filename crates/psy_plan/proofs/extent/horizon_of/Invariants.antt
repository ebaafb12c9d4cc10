-- What each loop of `extent::horizon_of` keeps.
use Rattle.std.proofs.Common.{map}
use Rattle.std.specs.List.{range_with_len}
use Rattle.psy_rate.specs.Horizons.{IsHorizon}
use Rattle.psy_rate.specs.Lines.{lines_on}
use Rattle.psy_plan.proofs.extent.horizon_of.Given as goal

abbrev pub invariant-processors : goal.invariant-processors
invariant-processors l = record {
  horizon : IsHorizon l.quantum (map (λ processor. lines_on l.homes processor l.lines) (range_with_len 0 l.processor)) l.greatest;
}
