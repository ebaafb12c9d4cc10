-- What each loop of `kernel::Kernel::go_by_cycles` keeps.
use Rattle.std.proofs.Common.{◌≡◌, ℕ, ◌-◌, ◌*◌, ◌<◌, ◌≤◌}
use Rattle.psy_kernel.specs.declared.stage.Stage.TheVariants.{CycleDue}
use Rattle.psy_kernel.specs.Progress.{stage_of}
use Rattle.psy_kernel.specs.Slices.{Changes}
use Rattle.psy_kernel.proofs.kernel.Kernel.go_by_cycles.Given as goal

abbrev pub invariant-cycles : goal.invariant-cycles
invariant-cycles l = record {
  kept : l.self ≡ record l.fn.self { cycles = l.self.cycles };
  due : stage_of l.self ≡ CycleDue l.self.cycles;
  no_less : l.fn.self.cycles ≤ l.self.cycles;
  steady : (between : ℕ) → l.fn.self.cycles < between → between ≤ l.self.cycles → Changes l.fn.self between → ⊥;
}

-- The cycles that are left before the date
abbrev pub decreases-cycles : goal.decreases-cycles
decreases-cycles l = l.fn.self.dates * l.fn.self.plan.unit.quantum - l.self.cycles
