-- What is left of the proof of `looks::stmts_look`.
use Rattle.std.proofs.Common.{◌∙◌, ap}
use Rattle.psy_feed.specs.Arrows.{looks}
use Rattle.psy_feed.proofs.AnyBacks.{any_backs}
use Rattle.psy_feed.proofs.looks.stmts_look.Goals as goal

pub returns : goal.returns
returns c = c.stmts_look_back.ensures ∙ ap (looks c.args.variable) (any_backs c.args.stmts.now)
