-- What each loop of `kernel::Kernel::round` keeps.
use Rattle.std.proofs.Common.{◌≡◌, ℕ, ◌+◌, ◌<◌, IsFalse, IsTrue, get_or}
use Rattle.psy_history.specs.Scripts.{round_of}
use Rattle.psy_kernel.specs.Slices.{IsOverBy, IsOverFor, counted_on}
use Rattle.psy_kernel.proofs.kernel.Kernel.round.Given as goal

abbrev pub invariant-units : goal.invariant-units
invariant-units l = record {
  state : l.self ≡ counted_on l.counter l.fn.self;
  over : IsTrue l.over → IsOverBy l.fn.self (l.fn.self.cycles + 1);
  goes : IsFalse l.over → (place : ℕ) → place < l.counter → IsOverFor l.fn.self (get_or (round_of l.fn.self.plan.unit l.fn.self.script l.fn.self.cycles) place 0) (l.fn.self.cycles + 1) → ⊥;
}
