-- What is left of the proof of `front::name`.
use Rattle.std.proofs.Common.{subst}
use Rattle.psy_tree.specs.Lexemes.{is_in_word}
use Rattle.psy_text.specs.Fronts.{IsName}
use Rattle.psy_text.proofs.lemmas.Runs.{Cuts-once}
use Rattle.psy_text.proofs.lemmas.Names.{Each-word}
use Rattle.psy_text.proofs.front.name.Goals as goal

pub returns-else-is_name-clause-none : goal.returns-else-is_name-clause-none
returns-else-is_name-clause-none c none name rest is cuts =
    let once = Cuts-once is_in_word c.args.text.now name c.cut_name.result.0.now rest c.cut_name.result.1.now (Each-word name is.0) c.cut_name.ensures.each cuts c.cut_name.ensures.cuts in
    let passed = c.is_name.ensures.1 (subst IsName once.0 is) in
    cc
