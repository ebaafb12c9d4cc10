-- What is left of the proof of `found::found_row`.
use Rattle.psy_flow.proofs.FoundRows.{row_is}
use Rattle.psy_flow.proofs.found.found_row.Goals as goal

pub returns : goal.returns
returns c = row_is c.args.instrs.now c.args.sought c.args.first c.in_ok-row.row c.gather.new.row c.in_ok-row.ensures c.gather.ensures
