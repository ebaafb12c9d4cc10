-- What is left of the proof of `long::write_csv`.
use Rattle.std.proofs.Common.{None, refl, ◌∙◌}
use Rattle.psy_table.proofs.Streaming.{heading_begun, table_begun, table_written}
use Rattle.psy_table.proofs.long.write_csv.Goals as goal

pub returns-in-Err-write_text-clause-front : goal.returns-in-Err-write_text-clause-front
returns-in-Err-write_text-clause-front g c =
    heading_begun (g.R.Shelf.files c.args.reel.now) c.args.name.now c.args.tail.now c.in-Ok.listed (g.S.Sink.held c.args.out.now)
    (g.S.Sink.held c.write_text.new.out) c.as_slice.result.now c.in-Ok.ensures (c.as_slice.ensures.value ∙ c.in-Ok-heading_of.ensures)
    c.in-Err-write_text.ensures.front c.requires

pub returns-in-Ok-write_told-clause-table : goal.returns-in-Ok-write_told-clause-table
returns-in-Ok-write_told-clause-table g c =
    table_written (g.R.Shelf.files c.args.reel.now) c.args.name.now c.args.tail.now c.in-Ok.listed (record { table = c.in-Ok-new.table; latest = None })
    (g.S.Sink.held c.args.out.now) (g.S.Sink.held c.write_text.new.out) (g.S.Sink.held c.write_told.new.out) c.as_slice.result.now c.in-Ok-write_told.field-0
    c.in-Ok.ensures c.in-Ok-new.ensures refl (c.as_slice.ensures.value ∙ c.in-Ok-heading_of.ensures) c.in_default.ensures.written
    c.in-Ok-write_told.ensures.done

pub returns-clause-front : goal.returns-clause-front
returns-clause-front g c =
    table_begun (g.R.Shelf.files c.args.reel.now) c.args.name.now c.args.tail.now c.in-Ok.listed (record { table = c.in-Ok-new.table; latest = None })
    (g.S.Sink.held c.args.out.now) (g.S.Sink.held c.write_text.new.out) (g.S.Sink.held c.write_told.new.out) c.as_slice.result.now c.in-Ok.ensures
    c.in-Ok-new.ensures refl (c.as_slice.ensures.value ∙ c.in-Ok-heading_of.ensures) c.in_default.ensures.written c.requires
    c.in-Err-write_told.ensures.begun
