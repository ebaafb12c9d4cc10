-- What each loop of `code_sends::mark_all_sent` keeps.
use Rattle.std.proofs.Common.{◌≡◌, take}
use Rattle.psy_flow.specs.Reach.{marked}
use Rattle.psy_flow.proofs.CodeSendCounts.{some_sends}
use Rattle.psy_flow.proofs.code_sends.mark_all_sent.Given as goal

abbrev pub invariant-places : goal.invariant-places
invariant-places l = l.sent ≡ marked l.fn.sent (some_sends l.instrs (take l.place-index l.places))
