-- What each loop of `agents::place_of` keeps.
use Rattle.std.proofs.Common.{◌≡◌, ◌==◌, ◌+◌, drop}
use Rattle.std.specs.List.{position_or_len}
use Rattle.psy_report.proofs.agents.place_of.Given as goal

-- The cost isn't among those that were passed.
abbrev pub invariant-costs : goal.invariant-costs
invariant-costs l = l.place + position_or_len (λ own. own == l.cost) (drop l.place l.costs) ≡ position_or_len (λ own. own == l.cost) l.costs
