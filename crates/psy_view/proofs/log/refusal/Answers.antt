-- What is left of the proof of `log::refusal`.
use Rattle.std.proofs.Common.{subst}
use Rattle.psy_view.specs.Views.{IsFaultOf, has_unlisted}
use Rattle.psy_view.proofs.log.refusal.Goals as goal

pub returns-in_ok-unlisted_line-in-Unlisted : goal.returns-in_ok-unlisted_line-in-Unlisted
returns-in_ok-unlisted_line-in-Unlisted c =
    let found = subst (IsFaultOf c.args.bytes.now) c.in-Unlisted.is c.requires in
    rw (c.in_ok-unlisted_line-in-Unlisted.ensures, c.as_bytes-in-Unlisted.ensures.value) (has_unlisted found.0 _ found.1 found.2)
