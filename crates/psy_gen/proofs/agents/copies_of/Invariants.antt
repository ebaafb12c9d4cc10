-- What each loop of `agents::copies_of` keeps.
use Rattle.std.proofs.Common.{◌≡◌, ◌++◌, drop, map}
use Rattle.psy_meaning.specs.Alike.{owned_from}
use Rattle.psy_gen.specs.Emission.{copy_init}
use Rattle.psy_gen.proofs.agents.copies_of.Given as goal

abbrev pub invariant-loop-number : goal.invariant-loop-number
invariant-loop-number l = l.copies ++ map copy_init (owned_from l.agent l.number (drop l.number l.variables)) ≡ map copy_init (owned_from l.agent 0 l.variables)
