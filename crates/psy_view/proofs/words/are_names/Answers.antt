-- What is left of the proof of `words::are_names`.
use Rattle.std.proofs.Common.{sym, ◌∙◌}
use Rattle.std.specs.Prelude.{string_bytes}
use Rattle.psy_view.proofs.SelectLemmas.{names_are}
use Rattle.psy_view.proofs.words.are_names.Goals as goal

pub returns : goal.returns
returns c = c.is_each_name.ensures ∙ sym (names_are string_bytes c.args.words.now)
