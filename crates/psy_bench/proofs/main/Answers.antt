-- What is left of the proof of `main`.
use Rattle.psy_bench.proofs.Stepping.{begins}
use Rattle.psy_bench.proofs.main.Goals as goal

pub actions_within-actions-requires-clause-stands :
    goal.actions_within-actions-requires-clause-stands
actions_within-actions-requires-clause-stands c = begins _ _ c.in-Ok.ensures c.in-Ok-new.ensures.new c.in-Ok-new.ensures.of
