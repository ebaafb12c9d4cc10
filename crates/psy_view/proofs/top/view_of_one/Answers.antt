-- What is left of the proof of `top::view_of_one`.
use Rattle.psy_view.proofs.ReplyLemmas.{viewed_by_one, unread_one}
use Rattle.psy_view.proofs.top.view_of_one.Goals as goal

pub returns-in-Text-clause-replies : goal.returns-in-Text-clause-replies
returns-in-Text-clause-replies g c =
    let read = rw (c.in-Text.is, c.most.ensures) at c.in_ok-fetched.ensures.fetched in
    viewed_by_one _ _ _ _ _ _ _ read.0 (rw c.as_slice.ensures.value at c.view_of.ensures)

pub returns-in-Unread-clause-replies : goal.returns-in-Unread-clause-replies
returns-in-Unread-clause-replies g c =
    let read = rw (c.in-Unread.is, c.most.ensures) at c.in_ok-fetched.ensures.fetched in
    unread_one _ _ _ _ _ _ _ read
