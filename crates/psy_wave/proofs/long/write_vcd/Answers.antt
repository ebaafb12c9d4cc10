-- What is left of the proof of `long::write_vcd`.
use Rattle.std.proofs.Common.{refl, ◌∙◌}
use Rattle.psy_wave.proofs.Streaming.{dump_begun, dump_written, head_begun}
use Rattle.psy_wave.proofs.long.write_vcd.Goals as goal

pub returns-in-Err-write_text-clause-front : goal.returns-in-Err-write_text-clause-front
returns-in-Err-write_text-clause-front g c =
    head_begun (g.R.Shelf.files c.args.reel.now) c.args.name.now c.args.tail.now c.in-Ok.listed (g.S.Sink.held c.args.out.now)
    (g.S.Sink.held c.write_text.new.out) c.as_slice.result.now c.in-Ok.ensures (c.as_slice.ensures.value ∙ c.in-Ok-head_of.ensures)
    c.in-Err-write_text.ensures.front c.requires

pub returns-in-Ok-write_told-clause-dump : goal.returns-in-Ok-write_told-clause-dump
returns-in-Ok-write_told-clause-dump g c =
    dump_written (g.R.Shelf.files c.args.reel.now) c.args.name.now c.args.tail.now (record { listed = c.in-Ok.listed; last = 0 }) (g.S.Sink.held c.args.out.now)
    (g.S.Sink.held c.write_text.new.out) (g.S.Sink.held c.write_told.new.out) c.as_slice.result.now c.in-Ok-write_told.field-0 c.in-Ok.ensures refl
    (c.as_slice.ensures.value ∙ c.in-Ok-head_of.ensures) c.in_default.ensures.written c.in-Ok-write_told.ensures.done

pub returns-clause-front : goal.returns-clause-front
returns-clause-front g c =
    dump_begun (g.R.Shelf.files c.args.reel.now) c.args.name.now c.args.tail.now (record { listed = c.in-Ok.listed; last = 0 }) (g.S.Sink.held c.args.out.now)
    (g.S.Sink.held c.write_text.new.out) (g.S.Sink.held c.write_told.new.out) c.as_slice.result.now c.in-Ok.ensures refl
    (c.as_slice.ensures.value ∙ c.in-Ok-head_of.ensures) c.in_default.ensures.written c.requires c.in-Err-write_told.ensures.begun
