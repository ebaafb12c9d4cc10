-- What each loop of `engine::open::servers_behind` keeps.
use Rattle.std.proofs.Common.{◌≡◌, replicate}
use Rattle.psy_kernel.specs.Resuming.{server_behind}
use Rattle.psy_kernel.proofs.engine.open.servers_behind.Given as goal

abbrev pub invariant-servers : goal.invariant-servers
invariant-servers l = l.servers.items ≡ replicate l.counter (server_behind l.agents l.passed l.cycles)
