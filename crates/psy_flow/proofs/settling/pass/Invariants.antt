-- What each loop of `settling::pass` keeps.
use Rattle.psy_flow.proofs.PassRows.{IsPassing}
use Rattle.psy_flow.proofs.settling.pass.Given as goal

abbrev pub invariant-places : goal.invariant-places
invariant-places l = IsPassing l.quest l.instrs l.places l.most l.fn.row l.row l.rose l.place-index
