-- What is left of the proof of `timing::following`.
use Rattle.std.proofs.Common.{List, ℕ, [], get_or, ap}
use Rattle.psy_audit.proofs.Places.{get_or_none}
use Rattle.psy_audit.proofs.timing.following.Goals as goal

pub returns-in-None : goal.returns-in-None
returns-in-None c = ap (λ (lists : List (List ℕ)). get_or lists c.args.point []) (get_or_none c.args.plan.now.nexts c.args.agent [] c.in-None.ensures.value)
