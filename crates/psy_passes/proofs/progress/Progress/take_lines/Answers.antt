-- What is left of the proof of `progress::Progress::take_lines`.
use Rattle.std.proofs.Common.{◌∙◌, ◌+◌, inl, inr, sym, ap, refl, [], ◌∷◌, ◌++◌, append_assoc, arith}
use Rattle.psy_log.specs.Forms.{line_of}
use Rattle.psy_notes.specs.Texts.{text_of}
use Rattle.psy_passes.specs.declared.scan_fault.ScanFault.TheVariants as fault
use Rattle.psy_passes.proofs.Ends.{cut_behind, later_lines, line_before, some_more}
use Rattle.psy_passes.proofs.Kept.{halts, halts_unwritten, untaken_stops, writes}
use Rattle.psy_passes.proofs.lemmas.Notes.{text_of-more}
use Rattle.psy_passes.proofs.progress.Progress.take_lines.Goals as goal

pub taking-init : goal.taking-init
taking-init g c = record { taken = λ old held notes text stands. (notes, text, stands, refl); on = inl (refl, refl); few = c.requires; unfailed = refl }

pub returns-then-self-eq-LINES-clause-halts : goal.returns-then-self-eq-LINES-clause-halts
returns-then-self-eq-LINES-clause-halts g c = λ old held notes text stands more.
    let at = c.taking.invariant.taken old held notes text stands in
    let rest = c.taking.rest.now in
    halts g.T.Tell.tells g.T.Tell.refuses old held _ at.0 at.1 c.taking.tell c.taking.self _ (rest ++ more) fault.Many at.2
    (cut_behind (text_of at.0) (text_of notes) rest c.args.bytes.now more at.3)
    (sym at.2.lines ∙ c.if-self-eq-LINES.true, some_more rest more (sym c.is_empty.ensures ∙ c.taking-test.true))

pub returns-in-Err-clause-halts : goal.returns-in-Err-clause-halts
returns-in-Err-clause-halts g c = λ old held notes text stands more.
    let at = c.taking.invariant.taken old held notes text stands in
    let rest = c.taking.rest.now in
    let note = c.in-Line.note in
    let front = c.in-Line.ensures in
    halts g.T.Tell.tells g.T.Tell.refuses old held _ at.0 at.1 c.taking.tell c.taking.self _ (rest ++ more) c.in-Err.fault at.2
    (cut_behind (text_of at.0) (text_of notes) rest c.args.bytes.now more at.3)
    (untaken_stops g.T.Tell.refuses at.0 c.taking.self.stand c.in-Line.stand (rest ++ more) (c.in-Line.more.now ++ more) c.taking.tell note c.taking.self.lines
    c.in-Err.fault c.in-Err.ensures.untaken at.2.lines front.0 (ap (λ t. t ++ more) front.1 ∙ append_assoc (line_of note) c.in-Line.more.now more))

pub returns-in-Err-write_long-clause-halts : goal.returns-in-Err-write_long-clause-halts
returns-in-Err-write_long-clause-halts g c = λ old held notes text stands more.
    let at = c.taking.invariant.taken old held notes text stands in
    let rest = c.taking.rest.now in
    let note = c.in-Line.note in
    let front = c.in-Line.ensures in
    let told = c.in_default.ensures.taken old held _ at.0 at.1 at.2 front.0 (line_before rest (line_of note) c.in-Line.more.now front.1) in
    halts_unwritten g.T.Tell.tells g.T.Tell.refuses old held _ _ (at.0 ++ note ∷ []) told.0 c.take.new.tell c.take.new.self _ (c.in-Line.more.now ++ more)
    c.in-Err-write_long.fault told.1
    (cut_behind (text_of (at.0 ++ note ∷ [])) (text_of notes) c.in-Line.more.now c.args.bytes.now more
    (text_of-more at.0 note c.in-Line.more.now ∙ ap (λ t. text_of at.0 ++ t) (sym front.1) ∙ at.3))
    c.in-Err-write_long.ensures.only c.in-Err-write_long.ensures.cut

pub taking-preserved : goal.taking-preserved
taking-preserved g c =
    let rest = c.taking.rest.now in
    let note = c.in-Line.note in
    let front = c.in-Line.ensures in
    let written = c.in_default-write_long.ensures.written in
    record {
      taken = λ old held notes text stands.
          let at = c.taking.invariant.taken old held notes text stands in
          let told = c.in_default.ensures.taken old held _ at.0 at.1 at.2 front.0 (line_before rest (line_of note) c.in-Line.more.now front.1) in (
            at.0 ++ note ∷ [],
            told.0,
            writes g.T.Tell.tells old held _ _ (at.0 ++ note ∷ []) told.0 c.take.new.tell c.take.new.self c.write_long.new.self told.1 written,
            text_of-more at.0 note c.in-Line.more.now ∙ ap (λ t. text_of at.0 ++ t) (sym front.1) ∙ at.3,
          );
      on = inr (later_lines c.args.self.now.lines c.taking.self.lines c.take.new.self.lines c.write_long.new.self.lines c.taking.invariant.on c.in_default.ensures.counted written.lines);
      few = omega (arith, c.taking.invariant.few, c.if-self-eq-LINES.false, c.in_default.ensures.counted, written.lines);
      unfailed = c.in_default-write_long.ensures.unfailed ∙ c.taking.invariant.unfailed;
    }

pub returns-in-Broken-clause-halts : goal.returns-in-Broken-clause-halts
returns-in-Broken-clause-halts g c = λ old held notes text stands more.
    let at = c.taking.invariant.taken old held notes text stands in
    let rest = c.taking.rest.now in
    halts g.T.Tell.tells g.T.Tell.refuses old held _ at.0 at.1 c.taking.tell c.taking.self _ (rest ++ more) (fault.Line _) at.2
    (cut_behind (text_of at.0) (text_of notes) rest c.args.bytes.now more at.3)
    (inr (some_more rest more (sym c.is_empty.ensures ∙ c.taking-test.true), c.in-Broken.ensures.1 more), ap (λ n. n + 1) at.2.lines)

pub returns-clause-taken : goal.returns-clause-taken
returns-clause-taken g c = c.taking.invariant.taken

pub returns-in-Part-clause-taken : goal.returns-in-Part-clause-taken
returns-in-Part-clause-taken g c = c.taking.invariant.taken
