-- What is left of the proof of `windows::by_table`.
use Rattle.std.proofs.Common.{ℕ, ◌+◌, ◌<◌, List, slice_index, sym, subst}
use Rattle.psy_base.specs.Paths.{IsGreatestWeight}
use Rattle.psy_window.specs.Windows.{Fits}
use Rattle.psy_window.proofs.windows.by_table.Goals as goal

pub returns-clause-greatest : goal.returns-clause-greatest
returns-clause-greatest c =
    let P : List ℕ → Type 0 = λ items. (within : ℕ) → within < c.args.top + 1 → IsGreatestWeight c.args.edges.now (Fits c.args.span within) (slice_index items within) in
    subst P (sym c.from_vec.ensures) c.in_ok-add_weights.ensures.greatest
