-- What each loop of `sends::+stmt` keeps.
use Rattle.std.proofs.Common.{◌≡◌, drop}
use Rattle.psy_meaning.specs.Sendings.{sendings_in}
use Rattle.psy_feed.specs.Arrows.{sends}
use Rattle.psy_feed.proofs.sends.+stmt.Given as goal

-- Those that were passed don't send.
abbrev pub invariant-stmts_send-loop-stmt : goal.invariant-stmts_send-loop-stmt
invariant-stmts_send-loop-stmt l = sends l.stream (sendings_in l.stmts) ≡ sends l.stream (sendings_in (drop l.stmt-index l.stmts))
