-- What each loop of `tried::assertions_of` keeps.
use Rattle.std.proofs.Common.{◌≡◌, map, take}
use Rattle.psy_claims.proofs.tried.assertions_of.Given as goal

-- The assertions so far
abbrev pub invariant-loop-claimed : goal.invariant-loop-claimed
invariant-loop-claimed l = l.assertions.items ≡ map (λ c. c.assertion) (take l.claimed-index l.claims)
