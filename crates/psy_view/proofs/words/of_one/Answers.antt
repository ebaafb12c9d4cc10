-- What is left of the proof of `words::of_one`.
use Rattle.std.proofs.Common.{[], ◌∷◌, ap, codes}
use Rattle.psy_lists.proofs.lemmas.Texts.{same_text}
use Rattle.psy_view.specs.Asked.{for_help, for_version}
use Rattle.psy_view.proofs.words.of_one.Goals as goal

pub returns-then-eq : goal.returns-then-eq
returns-then-eq c = for_help (ap (λ w. w ∷ []) (same_text c.args.word.now (codes "--help") c.if-eq.ensures))

pub returns-then-eq-2 : goal.returns-then-eq-2
returns-then-eq-2 c = for_version (ap (λ w. w ∷ []) (same_text c.args.word.now (codes "--version") c.if-eq-2.ensures))
