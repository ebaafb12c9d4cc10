-- What is left of the proof of `words::of_log`.
use Rattle.std.proofs.Common.{map, refl}
use Rattle.std.specs.Prelude.{string_bytes}
use Rattle.psy_view.specs.Asked.{asks_timeline}
use Rattle.psy_view.proofs.SelectLemmas.{no_timeline}
use Rattle.psy_view.proofs.words.of_log.Goals as goal

pub returns-in_err-selection : goal.returns-in_err-selection
returns-in_err-selection c = rw c.from_residual.ensures (no_timeline c.args.name.now (map string_bytes c.args.words.now) c.requires c.in_err-selection.ensures)

pub returns : goal.returns
returns c = asks_timeline c.args.name.now (map string_bytes c.args.words.now) c.in_ok-selection.selection.window _ refl c.in_ok-selection.ensures
