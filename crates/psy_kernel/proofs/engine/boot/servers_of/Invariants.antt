-- What each loop of `engine::boot::servers_of` keeps.
use Rattle.std.proofs.Common.{◌≡◌, replicate}
use Rattle.psy_kernel.specs.Starting.{first_server}
use Rattle.psy_kernel.proofs.engine.boot.servers_of.Given as goal

abbrev pub invariant-servers : goal.invariant-servers
invariant-servers l = l.servers.items ≡ replicate l.counter (first_server l.agents l.passed)
