-- What is left of the proof of `tests::ready::the_least_deadline_comes_first`.
use Rattle.std.proofs.Common.{◌≡◌, Some, None, length, ap, ◌∙◌, arith}
use Rattle.std.proofs.lemmas.List.{get_or-set_same}
use Rattle.psy_ready.specs.Choice.{pending_deadline}
use Rattle.psy_ground_trials.proofs.tests.ready.the_least_deadline_comes_first.Goals as goal

pub drop_agent-requires : goal.drop_agent-requires
drop_agent-requires g c =
    let two : length c.add.new.self ≡ 2 = c.add.ensures.agents ∙ ap length c.in_ok-ready.ensures in
    (10, ap (λ ds. pending_deadline ds 0) c.add-2.ensures.pending ∙ get_or-set_same c.add.new.self 0 (Some 10) None (omega (arith, two)))
