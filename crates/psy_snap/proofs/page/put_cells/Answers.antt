-- What is left of the proof of `page::put_cells`.
use Rattle.psy_base.specs.declared.limits.TheConstants.{FILE_BYTES}
use Rattle.psy_snap.specs.Bytes.{cell_bytes}
use Rattle.psy_snap.proofs.Written.{flat_passes_at}
use Rattle.psy_snap.proofs.page.put_cells.Goals as goal

pub returns-in-Err-clause-large : goal.returns-in-Err-clause-large
returns-in-Err-clause-large c = λ e. flat_passes_at cell_bytes c.args.cells.now c.cells.cell-index _ c.args.out.now c.cells.out FILE_BYTES c.cells-test.true c.cells.invariant (c.in-Err.ensures.large e)
