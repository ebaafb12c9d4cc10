-- What each loop of `windows::add_weights` keeps.
use Rattle.std.proofs.Common.{◌≡◌, ℕ, ◌^◌, ◌<◌, All, length, get_or}
use Rattle.psy_base.specs.Paths.{IsGreatestWeight}
use Rattle.psy_window.specs.Table.{KeepsRows}
use Rattle.psy_window.specs.Windows.{Fits}
use Rattle.psy_window.proofs.windows.add_weights.Given as goal

abbrev pub invariant-loop-within : goal.invariant-loop-within
invariant-loop-within l =
    KeepsRows l.edges l.span l.within (record { nodes = l.layout.nodes; rows = l.layout.rows; next = l.next }) l.table
    × (length l.weights.items ≡ l.within)
    × ((within : ℕ) → within < l.within → IsGreatestWeight l.edges (Fits l.span within) (get_or l.weights.items within 0))
    × All (λ weight. weight < 2 ^ 50) l.weights.items
