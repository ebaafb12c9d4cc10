-- What each loop of `looks::+stmt` keeps.
use Rattle.std.proofs.Common.{◌≡◌, drop}
use Rattle.psy_feed.specs.Arrows.{looks}
use Rattle.psy_feed.specs.Backs.{backs_in}
use Rattle.psy_feed.proofs.looks.+stmt.Given as goal

-- Those that were passed don't look.
abbrev pub invariant-stmts_look_back-loop-stmt : goal.invariant-stmts_look_back-loop-stmt
invariant-stmts_look_back-loop-stmt l = looks l.variable (backs_in l.least l.stmts) ≡ looks l.variable (backs_in l.least (drop l.stmt-index l.stmts))
