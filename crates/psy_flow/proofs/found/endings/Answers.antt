-- What is left of the proof of `found::endings`.
use Rattle.std.proofs.Common.{◌≡◌, [], ◌∷◌, length, length-append, Some, ap, ◌∙◌, arith}
use Rattle.std.specs.Prelude.{slice_get}
use Rattle.psy_lists.proofs.lemmas.Places.{read_is}
use Rattle.psy_code.specs.declared.instr.Instr.{Instr}
use Rattle.psy_flow.specs.Bits.{end_cell}
use Rattle.psy_flow.specs.Quests.{part_of}
use Rattle.psy_flow.proofs.FoundRows.{endings_are}
use Rattle.psy_flow.proofs.WayRows.{each_after}
use Rattle.psy_flow.proofs.found.endings.Goals as goal

pub places-preserved : goal.places-preserved
places-preserved c =
    let instrs = c.args.instrs.now in
    let k = c.places.instr-index in
    let kept = c.places.invariant in
    let read = c.instr-item.result in
    record {
      count = omega (arith, ap length c.in_ok-push.ensures.ok, length-append c.places.row (c.end_cell.result ∷ []), kept.count);
      cells = each_after (λ place cell. (i : Instr) → slice_get instrs place ≡ Some i → cell ≡ end_cell (part_of i)) c.places.row _ c.end_cell.result k c.in_ok-push.ensures.ok kept.count kept.cells
          (λ i at. c.end_cell.ensures ∙ ap end_cell (c.part_of.ensures ∙ ap part_of (read_is instrs k read i c.places-test.true c.instr-item.is at)));
    }

pub returns : goal.returns
returns c =
    let instrs = c.args.instrs.now in
    let all : length c.places.row ≡ length instrs = omega (arith, c.places.invariant.count, c.places-test.false, c.places.auto.instr-index-end) in
    endings_are instrs c.places.row c.gather.new.row all c.places.invariant.cells c.gather.ensures
