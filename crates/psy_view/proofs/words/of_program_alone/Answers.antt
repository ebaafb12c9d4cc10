-- What is left of the proof of `words::of_program_alone`.
use Rattle.std.proofs.Common.{map, refl}
use Rattle.std.specs.Prelude.{string_bytes}
use Rattle.psy_view.specs.Asked.{asks_timeline_of}
use Rattle.psy_view.proofs.SelectLemmas.{no_timeline_of}
use Rattle.psy_view.proofs.words.of_program_alone.Goals as goal

pub returns-in_err-selection : goal.returns-in_err-selection
returns-in_err-selection c =
    let words = map string_bytes c.args.words.now in
    rw c.from_residual.ensures (no_timeline_of c.args.name.now c.args.program.now words c.requires.program c.requires.alone c.in_err-selection.ensures)

pub returns : goal.returns
returns c =
    let words = map string_bytes c.args.words.now in
    asks_timeline_of c.args.name.now c.args.program.now words c.in_ok-selection.selection.window _ refl c.requires.program c.in_ok-selection.ensures
