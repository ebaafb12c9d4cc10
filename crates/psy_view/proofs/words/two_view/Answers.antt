-- What is left of the proof of `words::two_view`.
use Rattle.std.proofs.Common.{◌≡◌, [], ◌∷◌, ap, codes}
use Rattle.psy_view.specs.Asked.{asks_difference, asks_dot_of, asks_expectation}
use Rattle.psy_view.proofs.words.two_view.Goals as goal

pub returns-in-diff : goal.returns-in-diff
returns-in-diff c name other = let is : c.args.command.now ≡ codes "diff" = cc c.in-diff.is in asks_difference name other (ap (λ w. w ∷ name ∷ other ∷ []) is)

pub returns-in-expect : goal.returns-in-expect
returns-in-expect c name other = let is : c.args.command.now ≡ codes "expect" = cc c.in-expect.is in asks_expectation name other (ap (λ w. w ∷ name ∷ other ∷ []) is)

pub returns-in-dot : goal.returns-in-dot
returns-in-dot c name other = let is : c.args.command.now ≡ codes "dot" = cc c.in-dot.is in asks_dot_of name other (ap (λ w. w ∷ name ∷ other ∷ []) is)
