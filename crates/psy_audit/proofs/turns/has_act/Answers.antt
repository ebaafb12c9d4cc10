-- What is left of the proof of `turns::has_act`.
use Rattle.std.proofs.Common.{◌∙◌, ◌==◌, ap}
use Rattle.std.specs.List.{list_any}
use Rattle.psy_audit.specs.declared.said.Act.{Act}
use Rattle.psy_audit.proofs.turns.has_act.Goals as goal

pub returns : goal.returns
returns c = c.has_number.ensures ∙ ap (list_any (λ (a : Act). a.number == c.args.number)) c.acts_of.ensures
