-- What is left of the proof of `text::export_text`.
use Rattle.std.proofs.Common.{[], ◌++◌, ap, ◌∙◌}
use Rattle.psy_notes.specs.Stands.{run_begins}
use Rattle.psy_notes.specs.Texts.{BreaksAt}
use Rattle.psy_passes.specs.Outcomes.{IsMany}
use Rattle.psy_reel.specs.States.{TextReelState}
use Rattle.psy_export.specs.Exports.{export_of}
use Rattle.psy_export.proofs.Texts.{log_of, of_text, unlisted_of}
use Rattle.psy_export.proofs.text.export_text.Goals as goal

pub returns-in-Err-clause-line : goal.returns-in-Err-clause-line
returns-in-Err-clause-line c line is =
    let reel : TextReelState = record { name = []; text = c.args.text.now; left = []; taken = 0 } in
    of_text reel (λ text. BreaksAt run_begins text line) (rw c.new-reel.ensures at (c.in-Err.ensures.line line is))

pub returns-in-Err-clause-unlisted : goal.returns-in-Err-clause-unlisted
returns-in-Err-clause-unlisted c line is =
    let reel : TextReelState = record { name = []; text = c.args.text.now; left = []; taken = 0 } in
    unlisted_of reel line (rw c.new-reel.ensures at (c.in-Err.ensures.unlisted line is))

pub returns-in-Err-clause-many : goal.returns-in-Err-clause-many
returns-in-Err-clause-many c is =
    let reel : TextReelState = record { name = []; text = c.args.text.now; left = []; taken = 0 } in
    of_text reel IsMany (rw c.new-reel.ensures at (c.in-Err.ensures.many is))

pub returns-in-Ok-write_long-clause-text : goal.returns-in-Ok-write_long-clause-text
returns-in-Ok-write_long-clause-text c =
    let reel : TextReelState = record { name = []; text = c.args.text.now; left = []; taken = 0 } in
    let done = rw c.in-Ok.ensures.reel.1 at c.in-Ok-write_long.ensures.text in
    let now = rw c.new-reel.ensures at done in
    (now.0, log_of reel now.0 now.1 now.2, now.3 ∙ ap (λ text. text ++ export_of c.args.format now.0) c.new.ensures.items)
