-- What is left of the proof of `plan::list_of`.
use Rattle.psy_view.specs.Views.{AreLines, lists}
use Rattle.psy_view.proofs.plan.list_of.Goals as goal

pub returns : goal.returns
returns c name =
    let are : AreLines c.args.bytes.now c.in_ok-lines.lines =
    (c.args.program.now.tokens, c.requires.tokens.tokens_of, rw c.as_slice.ensures at c.in_ok-lines.ensures) in
    rw (c.in_ok-list.ensures, c.as_slice-2.ensures) (lists name _ _ _ c.requires.unit are)
