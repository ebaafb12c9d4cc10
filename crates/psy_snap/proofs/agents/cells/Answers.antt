-- What is left of the proof of `agents::cells`.
use Rattle.std.proofs.Common.{◌∙◌, ap, sym, arith, length, map, w64}
use Rattle.std.specs.Int.{cast_signed}
use Rattle.std.proofs.lemmas.Result.{err_from_is_err_and}
use Rattle.psy_meaning.specs.CodeWays.{agent_code_at}
use Rattle.psy_snap.specs.Cuts.{cell_of}
use Rattle.psy_snap.specs.Plans.{types_of}
use Rattle.psy_snap.specs.Reading.{said_at}
use Rattle.psy_snap.proofs.Loops.{goes_on, stops, is_done}
use Rattle.psy_snap.proofs.SlotTypes.{ask_is, asks_count}
use Rattle.psy_snap.proofs.agents.cells.Goals as goal
use Rattle.psy_tree.specs.Parts.{agent_at}

pub returns-in_err-rest : goal.returns-in_err-rest
returns-in_err-rest c =
    let p = err_from_is_err_and c.from_residual.result c.from_residual.ensures.1 in
    let its = agent_at c.args.plan.now.unit c.args.number in
    let count = length (agent_code_at c.args.plan.now.code c.args.number).cells in
    let one = cell_of c.type_of.result in
    rw (p.1, p.2) (stops c.in_err-rest.field-0.0 (said_at (cast_signed w64)) (map cell_of (types_of c.args.plan.now c.args.number)) c.cells.index one _ _ _
    (omega (arith, c.cells-test.true, c.cell_count-count.ensures, asks_count its count)) (ask_is its count c.cells.index one (omega (arith, c.cells-test.true, c.cell_count-count.ensures)) ∙ ap cell_of (sym c.type_of.ensures)) c.in_err-rest.ensures c.cells.invariant)

pub cells-preserved : goal.cells-preserved
cells-preserved c =
    let its = agent_at c.args.plan.now.unit c.args.number in
    let count = length (agent_code_at c.args.plan.now.code c.args.number).cells in
    let one = cell_of c.type_of.result in
    goes_on (said_at (cast_signed w64)) (map cell_of (types_of c.args.plan.now c.args.number)) c.cells.index one _ _ _ _ _
    (omega (arith, c.cells-test.true, c.cell_count-count.ensures, asks_count its count)) (ask_is its count c.cells.index one (omega (arith, c.cells-test.true, c.cell_count-count.ensures)) ∙ ap cell_of (sym c.type_of.ensures)) c.in_ok-rest.ensures c.cells.invariant

pub returns : goal.returns
returns c =
    let its = agent_at c.args.plan.now.unit c.args.number in
    let count = length (agent_code_at c.args.plan.now.code c.args.number).cells in
    is_done (said_at (cast_signed w64)) (map cell_of (types_of c.args.plan.now c.args.number)) c.cells.index _ _ _
    (omega (arith, c.cells-test.false, c.cell_count-count.ensures, asks_count its count)) c.cells.invariant
