-- What is left of the proof of `role::role_at`.
use Rattle.std.proofs.Common.{Option, ap, ◌∙◌}
use Rattle.psy_tree.specs.declared.token.Token.{Token}
use Rattle.psy_breach.specs.Roles.{role_at, role_behind}
use Rattle.psy_breach.proofs.role.role_at.Goals as goal

pub returns : goal.returns
unfolding role_at
returns c = c.role_behind.ensures ∙ ap (λ (next : Option Token). role_behind next) c.second.ensures
