-- What each loop of `starts::starts` keeps.
use Rattle.psy_flow.specs.CodeLists.{AreStartsUpTo}
use Rattle.psy_flow.proofs.starts.starts.Given as goal

abbrev pub invariant-agents : goal.invariant-agents
invariant-agents l = AreStartsUpTo l.code l.agent 0 l.starts
