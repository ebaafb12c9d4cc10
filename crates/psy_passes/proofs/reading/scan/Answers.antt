-- What is left of the proof of `reading::scan`.
use Rattle.std.proofs.Common.{◌≢◌, ◌∙◌, sym, ap, subst, refl, [], ◌++◌, Ok, length, arith}
use Rattle.psy_lists.proofs.lemmas.Results.{ok_err}
use Rattle.psy_notes.specs.Fronts.{NoLine}
use Rattle.psy_notes.specs.Texts.{text_of}
use Rattle.psy_passes.specs.declared.scan_fault.ScanFault.TheVariants as fault
use Rattle.psy_passes.specs.Runs.{IsOutside}
use Rattle.psy_passes.proofs.Ends.{first_told, halts_first, halts_outside, if_err, reads_end, reads_on, reads_piece, unfinished_halts}
use Rattle.psy_passes.proofs.Kept.{starts}
use Rattle.psy_passes.proofs.reading.scan.Goals as goal

pub reading-init : goal.reading-init
reading-init g c =
    let kept = c.new-progress.ensures in
    let bytes = c.new-bytes.ensures.items in
    record {
      stands = (
        [],
        [],
        starts g.T.Tell.tells c.args.tell.now (g.S.Sink.held c.args.out.now) c.new-progress.result kept.stand kept.lines kept.tail kept.text,
        first_told (g.R.Shelf.files c.args.reel.now) c.args.name.now c.new-bytes.result.items (g.R.Reel.left c.begin.new.reel) bytes c.in_default.ensures.begun,
      );
      part = λ some. absurd (some bytes);
      small = omega (arith, ap length bytes);
      few = omega (arith, kept.lines);
      files = c.in_default.ensures.reel.1;
      readable = c.begin.ensures.readable (c.in_default.not-Err fault.Unread);
      writable = refl;
    }

pub reading-preserved : goal.reading-preserved
reading-preserved g c =
    let kept = c.reading.invariant in
    let went = c.in-Ok-true.is ∙ ap Ok c.in-Ok-true.field-0-test in
    let next = c.fill.ensures.next went in
    let copy = c.in-Ok-copied.ensures.copy in
    let on = c.in-Ok.ensures.taken c.args.tell.now (g.S.Sink.held c.args.out.now) kept.stands.0 kept.stands.1 kept.stands.2 in
    record {
      stands = (
        on.0,
        on.1,
        on.2,
        reads_on (g.R.Shelf.files c.args.reel.now) (g.R.Shelf.files c.reading.reel) c.args.name.now c.reading.bytes.items next.0 c.as_slice-in-reading.result.now
            c.in-Ok-copied.left.items (g.R.Reel.left c.reading.reel) (g.R.Reel.left c.fill.new.reel) kept.stands.0 on.0 kept.files kept.stands.3
            (c.as_slice-in-reading.ensures.value ∙ next.1) next.3 (ap (λ b. text_of on.0 ++ b) copy ∙ on.3),
      );
      part = subst (λ b. b ≢ [] → NoLine c.take_lines.new.self.stand b) (sym copy) c.in-Ok.ensures.open_end;
      small = omega (arith, ap length copy, c.in-Ok.ensures.small);
      few = c.in-Ok.ensures.few;
      files = c.fill.ensures.reel.1 ∙ kept.files;
      readable = c.fill.ensures.readable (ok_err _ _ fault.Unread went) ∙ kept.readable;
      writable = c.take_lines.ensures.unfailed (ok_err _ _ fault.Unwritten c.in-Ok.is) ∙ kept.writable;
    }

pub returns-in-Err-clause-halts : goal.returns-in-Err-clause-halts
returns-in-Err-clause-halts g c =
    halts_first g.T.Tell.tells g.T.Tell.refuses c.args.tell.now (g.S.Sink.held c.args.out.now) (g.R.Shelf.files c.args.reel.now) c.args.name.now c.in-Err.fault
    c.in-Err.ensures.only

pub returns-in-Ok-false-clause-halts : goal.returns-in-Ok-false-clause-halts
returns-in-Ok-false-clause-halts g c =
    let kept = c.reading.invariant in
    let ended = c.fill.ensures.ended (c.in-Ok-false.is ∙ ap Ok c.in-Ok-false.field-0-test) in
    let left = c.as_slice.result.now in
    let same = c.as_slice.ensures.value ∙ ended.0 in
    let notes = kept.stands.0 in
    if_err c.finish.result _ _ c.finish.ensures.ends (λ why is. (
      text_of notes ++ left,
      reads_end (g.R.Shelf.files c.args.reel.now) (g.R.Shelf.files c.reading.reel) c.args.name.now c.reading.bytes.items left (g.R.Reel.left c.reading.reel) notes kept.files
          kept.stands.3 same ended.1,
      unfinished_halts g.T.Tell.tells g.T.Tell.refuses c.args.tell.now (g.S.Sink.held c.args.out.now) (g.S.Sink.held c.reading.out) (g.S.Sink.held c.finish.new.out) notes
          kept.stands.1 c.reading.tell c.reading.progress (text_of notes ++ left) left why kept.stands.2 refl
          (subst (λ b. b ≢ [] → NoLine c.reading.progress.stand b) (sym same) kept.part) is,
    ))

pub returns-in-Err-fill-clause-halts : goal.returns-in-Err-fill-clause-halts
returns-in-Err-fill-clause-halts g c =
    let kept = c.reading.invariant in
    halts_outside g.T.Tell.tells g.T.Tell.refuses c.args.tell.now (g.S.Sink.held c.args.out.now) (g.S.Sink.held c.reading.out) kept.stands.0 kept.stands.1 c.reading.tell
    c.reading.progress (g.R.Shelf.files c.args.reel.now) c.args.name.now (c.reading.bytes.items ++ g.R.Reel.left c.reading.reel) c.in-Err-fill.fault kept.stands.2
    kept.stands.3 c.in-Err-fill.ensures.only

pub returns-in-Err-take_lines-clause-halts : goal.returns-in-Err-take_lines-clause-halts
returns-in-Err-take_lines-clause-halts g c =
    let kept = c.reading.invariant in
    let next = c.fill.ensures.next (c.in-Ok-true.is ∙ ap Ok c.in-Ok-true.field-0-test) in
    let slice = c.as_slice-in-reading.result.now in
    let behind = g.R.Reel.left c.fill.new.reel in (
      text_of kept.stands.0 ++ (slice ++ behind),
      reads_piece (g.R.Shelf.files c.args.reel.now) (g.R.Shelf.files c.reading.reel) c.args.name.now c.reading.bytes.items next.0 slice (g.R.Reel.left c.reading.reel) behind
          kept.stands.0 kept.files kept.stands.3 (c.as_slice-in-reading.ensures.value ∙ next.1) next.3,
      c.in-Err-take_lines.ensures.halts c.args.tell.now (g.S.Sink.held c.args.out.now) kept.stands.0 kept.stands.1 kept.stands.2 behind,
    )

pub returns-in-Err-copied-clause-halts : goal.returns-in-Err-copied-clause-halts
returns-in-Err-copied-clause-halts g c =
    let kept = c.reading.invariant in
    let next = c.fill.ensures.next (c.in-Ok-true.is ∙ ap Ok c.in-Ok-true.field-0-test) in
    let on = c.in-Ok.ensures.taken c.args.tell.now (g.S.Sink.held c.args.out.now) kept.stands.0 kept.stands.1 kept.stands.2 in
    halts_outside g.T.Tell.tells g.T.Tell.refuses c.args.tell.now (g.S.Sink.held c.args.out.now) (g.S.Sink.held c.take_lines.new.out) on.0 on.1 c.take_lines.new.tell
    c.take_lines.new.self (g.R.Shelf.files c.args.reel.now) c.args.name.now (c.in-Ok.left.now ++ g.R.Reel.left c.fill.new.reel) c.in-Err-copied.fault on.2
    (reads_on (g.R.Shelf.files c.args.reel.now) (g.R.Shelf.files c.reading.reel) c.args.name.now c.reading.bytes.items next.0 c.as_slice-in-reading.result.now
    c.in-Ok.left.now (g.R.Reel.left c.reading.reel) (g.R.Reel.left c.fill.new.reel) kept.stands.0 on.0 kept.files kept.stands.3
    (c.as_slice-in-reading.ensures.value ∙ next.1) next.3 on.3)
    (subst IsOutside (sym c.in-Err-copied.ensures.only) tt)
