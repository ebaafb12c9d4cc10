-- What is left of the proof of `tail::Tail::push`.
use Rattle.std.proofs.Common.{List, ℕ, ◌∷◌, [], ◌++◌, sym, subst, ◌∙◌}
use Rattle.std.proofs.lemmas.Bool.{cond-true, cond-false}
use Rattle.psy_last.specs.Lasts.{is_over}
use Rattle.psy_last.specs.Tails.{IsTail}
use Rattle.psy_last.proofs.Pushing.{IsTail-add}
use Rattle.psy_last.proofs.tail.Tail.push.Goals as goal

pub returns-then-self : goal.returns-then-self
returns-then-self c line is =
    let b = c.args.byte in
    subst (λ (l : List ℕ). IsTail c.begin.new.self l) (sym (cond-true (is_over line) (b ∷ []) (line ++ b ∷ []) (sym is.over ∙ c.if-self.true))) c.begin.ensures

pub returns-else-self : goal.returns-else-self
returns-else-self c line is =
    let b = c.args.byte in
    subst (λ (l : List ℕ). IsTail c.add.new.self l) (sym (cond-false (is_over line) (b ∷ []) (line ++ b ∷ []) (sym is.over ∙ c.if-self.false)))
    (IsTail-add c.args.self.now c.add.new.self line b is c.add.ensures.kept c.add.ensures.long c.add.ensures.over)
