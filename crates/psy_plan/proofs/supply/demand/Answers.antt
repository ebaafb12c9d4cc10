-- What is left of the proof of `supply::demand`.
use Rattle.std.proofs.Common.{◌≡◌, ◌∙◌, ◌*◌, ◌<◌, Err, ap, length, refl, subst, sym, arith}
use Rattle.std.specs.List.{All, Any}
use Rattle.psy_base.specs.declared.limits.TheConstants.{PROCESSORS}
use Rattle.psy_demand.specs.Criterion.{HasCells, PassesCells, edges_of}
use Rattle.psy_meaning.specs.Demand.{AreFeasible, IsOverloadOn}
use Rattle.psy_plan.specs.declared.refusal.Refusal.TheVariants.{Cells, Infeasible}
use Rattle.psy_plan.specs.Steps.{demanding, windowing}
use Rattle.psy_plan.proofs.Courses.{gives_then, stops_first, stops_later}
use Rattle.psy_plan.proofs.SupplyLemmas.{has_cells, homes_known, homes_of_graphs}
use Rattle.psy_plan.proofs.supply.demand.Goals as goal

pub criterion-requires-clause-count : goal.criterion-requires-clause-count
criterion-requires-clause-count c =
    omega (arith, ap length (c.as_slice-2.ensures ∙ c.requires.homes), ap length c.as_slice.ensures, homes_of_graphs c.args.unit.now c.args.graphs.now c.requires.count)

pub criterion-requires-clause-known : goal.criterion-requires-clause-known
criterion-requires-clause-known c =
    subst (All (λ home. home < PROCESSORS)) (sym (c.as_slice-2.ensures ∙ c.requires.homes)) (homes_known c.args.unit.now c.requires.bare)

pub returns-in-Ok-Feasible-clause-ok : goal.returns-in-Ok-Feasible-clause-ok
returns-in-Ok-Feasible-clause-ok c =
    let unit = c.args.unit.now in
    let graphs = c.args.graphs.now in
    let top = c.args.top in
    let cells = has_cells top c.as_slice.result.now c.criterion.result c.in-Ok-Feasible.field-0 c.in-Ok-Feasible.is c.criterion.ensures.cells in
    let feasible = c.in-Ok-Feasible.ensures.yes.0 c.in-Ok-Feasible.field-0-is in
    gives_then (windowing graphs top) (λ done. demanding unit graphs top) tt tt (subst (All (HasCells top)) c.as_slice.ensures cells)
    (subst (λ hs. AreFeasible hs (edges_of graphs) unit.quantum top) (c.as_slice-2.ensures ∙ c.requires.homes) (subst (λ gs. AreFeasible c.as_slice-2.result.now (edges_of gs) unit.quantum top) c.as_slice.ensures feasible))

pub returns-in-Ok-Overload-clause-refused : goal.returns-in-Ok-Overload-clause-refused
returns-in-Ok-Overload-clause-refused c =
    let unit = c.args.unit.now in
    let graphs = c.args.graphs.now in
    let top = c.args.top in
    let within = c.in-Ok-Overload.length in
    let processor = c.in-Ok-Overload.processor in
    let passed = c.in-Ok-Overload.demand in
    let cells = has_cells top c.as_slice.result.now c.criterion.result c.in-Ok-Overload.field-0 c.in-Ok-Overload.is c.criterion.ensures.cells in
    let over = (c.in-Ok-Overload.ensures.no within processor passed).0 c.in-Ok-Overload.field-0-is in
    let supply = c.from.result * c.from-in-Ok-Overload.result in
    let product : supply ≡ unit.quantum * within = λ i. c.from.ensures i * c.from-in-Ok-Overload.ensures i in
    stops_later (windowing graphs top) (λ done. demanding unit graphs top) tt (subst (All (HasCells top)) c.as_slice.ensures cells) (Infeasible within passed supply processor) (
      subst (λ hs. IsOverloadOn hs (edges_of graphs) unit.quantum top within processor passed) (c.as_slice-2.ensures ∙ c.requires.homes)
          (subst (λ gs. IsOverloadOn c.as_slice-2.result.now (edges_of gs) unit.quantum top within processor passed) c.as_slice.ensures over),
      product,
    )

pub returns-in-Err-Cells-clause-refused : goal.returns-in-Err-Cells-clause-refused
returns-in-Err-Cells-clause-refused c =
    let graphs = c.args.graphs.now in
    let top = c.args.top in
    let passes = c.criterion.ensures.cells.0 (subst (λ f. c.criterion.result ≡ Err f) c.in-Err-Cells.field-0-is c.in-Err-Cells.is) in
    stops_first (windowing graphs top) (λ done. demanding c.args.unit.now graphs top) Cells (refl, subst (Any (PassesCells top)) c.as_slice.ensures passes)
