-- What is left of the proof of `windows::add_weights`.
use Rattle.std.proofs.Common.{◌≡◌, ℕ, ◌+◌, ◌^◌, ◌<◌, List, [], ◌∷◌, All, length, get_or, ap, sym, subst, length-append, arith}
use Rattle.std.proofs.lemmas.List.Elements.{All-push}
use Rattle.psy_base.specs.Paths.{IsGreatestWeight}
use Rattle.psy_window.specs.Table.{KeepsRows, row_after}
use Rattle.psy_window.specs.Windows.{Fits}
use Rattle.psy_window.proofs.Rounds.{rows_more}
use Rattle.psy_window.proofs.Lists.{weights_more, weight_small}
use Rattle.psy_window.proofs.windows.add_weights.Goals as goal

pub loop-within-preserved : goal.loop-within-preserved
loop-within-preserved c =
    let edges = c.args.edges.now in
    let nodes = c.args.layout.nodes in
    let span = c.args.span in
    let within = c.loop-within.within in
    let weight = c.greatest.result in
    let weights = c.loop-within.weights.items in
    let long : length c.loop-within.row ≡ nodes = omega (arith, c.loop-within.auto.row, c.requires.row) in
    let long_new : length c.fill_row.new.row ≡ nodes = omega (arith, c.fill_row.auto.row, long) in
    let rows = c.args.layout.rows in
    let next = c.loop-within.next in
    let kept : KeepsRows edges span (within + 1) (record { nodes = nodes; rows = rows; next = row_after rows next }) c.put_row.new.table =
    subst (KeepsRows edges span (within + 1) (record { nodes = nodes; rows = rows; next = row_after rows next })) (sym c.put_row.ensures)
    (rows_more edges nodes span rows next within c.loop-within.table c.fill_row.new.row c.loop-within.invariant.0 long_new c.fill_row.ensures) in
    let P : ℕ → Type 0 = λ n. KeepsRows edges span (within + 1) (record { nodes = nodes; rows = rows; next = n }) c.put_row.new.table in
    let Q : List ℕ → Type 0 = λ items. (w : ℕ) → w < within + 1 → IsGreatestWeight edges (Fits span w) (get_or items w 0) in
    let R : List ℕ → Type 0 = λ items. All (λ w. w < 2 ^ 50) items in
    let small : weight < 2 ^ 50 = weight_small edges (Fits span within) nodes c.args.top within weight c.requires.edges c.requires.cells (omega arith) c.greatest.ensures.greatest c.greatest.ensures.small in (
      subst P (sym c.row_after-next.ensures) kept,
      omega (arith, ap length c.in_ok-push.ensures.items, length-append weights (weight ∷ []), c.loop-within.invariant.1),
      subst Q (sym c.in_ok-push.ensures.items) (weights_more edges span within weight weights c.loop-within.invariant.1 c.loop-within.invariant.2 c.greatest.ensures.greatest),
      subst R (sym c.in_ok-push.ensures.items) (All-push (λ w. w < 2 ^ 50) weights weight c.loop-within.invariant.3 small),
    )
