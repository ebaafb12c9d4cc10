-- What is left of the proof of `front::cut_name`.
use Rattle.psy_tree.specs.Lexemes.{is_in_word}
use Rattle.psy_text.proofs.lemmas.Runs.{Each-longest, Cuts-longest}
use Rattle.psy_text.proofs.front.cut_name.Goals as goal

pub returns-clause-each : goal.returns-clause-each
returns-clause-each c = Each-longest is_in_word c.args.text.now c.split_at.result.0.now c.word_len.result c.word_len.ensures.value c.split_at.ensures.front

pub returns-clause-cuts : goal.returns-clause-cuts
returns-clause-cuts c = Cuts-longest is_in_word c.args.text.now c.split_at.result.0.now c.split_at.result.1.now c.word_len.result c.word_len.ensures.value c.split_at.ensures.front c.split_at.ensures.back
