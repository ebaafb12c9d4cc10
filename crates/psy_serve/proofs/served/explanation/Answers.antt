-- What is left of the proof of `served::explanation`.
use Rattle.std.proofs.Common.{ℕ, List, [], ◌∷◌, ◌++◌, sym, ap, ◌∙◌}
use Rattle.std.proofs.lemmas.Option.{IfSome_then}
use Rattle.psy_serve.specs.Behind.{of_words}
use Rattle.psy_serve.proofs.served.explanation.Goals as goal

pub returns-then-is_of_words-clause-explained : goal.returns-then-is_of_words-clause-explained
returns-then-is_of_words-clause-explained g c =
    let line = c.in_ok-feed.line.now in
    let last = c.in_ok-feed.ensures.cases.0 ∙ ap (λ b. line ++ b ∷ []) c.if-feed-ne10.false in
    IfSome_then c.fault_of.result c.fault_of.ensures
    (λ more is. of_words line more.items last (sym c.is_of_words.ensures ∙ c.if-is_of_words.true) is)
