-- What is left of the proof of `around::starter_at`.
use Rattle.std.proofs.Common.{ℕ, Option, slice_get, ap, ◌∙◌}
use Rattle.psy_tree.specs.declared.token.Token.{Token}
use Rattle.psy_expect.specs.Arounds.{starter_at, terminal_at}
use Rattle.psy_expect.proofs.around.starter_at.Goals as goal

pub returns : goal.returns
unfolding starter_at
returns c =
    c.terminal_at.ensures
    ∙ ap (λ (token : Option Token). terminal_at token) (c.token_at.ensures ∙ ap (λ (at : ℕ). slice_get c.args.front.now at) c.start_of.ensures)
