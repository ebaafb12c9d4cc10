-- What each loop of `demand::demand_at` keeps.
use Rattle.std.proofs.Common.{◌≡◌, ◌*◌, ◌^◌, ◌≤◌, take}
use Rattle.psy_demand.specs.Demand.{demand}
use Rattle.psy_demand.proofs.demand.demand_at.Given as goal

abbrev pub invariant-loop-list : goal.invariant-loop-list
invariant-loop-list l = (l.sum ≡ demand (take l.list-index l.lists) l.at) × (l.sum ≤ l.list-index * 2 ^ 50)
