-- What is left of the proof of `words::of_three`.
use Rattle.std.proofs.Common.{[], ◌∷◌, MatchOption, sym, subst, codes}
use Rattle.psy_lists.proofs.lemmas.Texts.{same_text}
use Rattle.psy_view.specs.Asked.{Asks, AskNoView}
use Rattle.psy_view.specs.Reading.{request_of}
use Rattle.psy_view.proofs.words.of_three.Goals as goal

pub returns-then-eq : goal.returns-then-eq
returns-then-eq c =
    let is = same_text c.args.command.now (codes "report") c.if-eq.ensures in
    subst (λ word. MatchOption c.of_report.result (AskNoView (word ∷ c.args.name.now ∷ c.args.other.now ∷ []))
    (λ asked. Asks (word ∷ c.args.name.now ∷ c.args.other.now ∷ []) (request_of asked))) (sym is) c.of_report.ensures
