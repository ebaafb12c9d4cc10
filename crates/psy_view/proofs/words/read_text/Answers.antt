-- What is left of the proof of `words::read_text`.
use Rattle.psy_view.specs.Asked.{for_help_by_none}
use Rattle.psy_view.proofs.AskedLemmas.{no_words}
use Rattle.psy_view.proofs.words.read_text.Goals as goal

pub returns-in-empty : goal.returns-in-empty
returns-in-empty c = for_help_by_none (no_words _ c.args.words.now c.in-empty.len_below)
