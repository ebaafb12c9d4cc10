-- What is left of the proof of `top::view_of_two`.
use Rattle.psy_view.proofs.ReplyLemmas.{viewed_by_two, unread_first, unread_second}
use Rattle.psy_view.proofs.top.view_of_two.Goals as goal

pub returns-in-Unread-clause-replies : goal.returns-in-Unread-clause-replies
returns-in-Unread-clause-replies g c =
    let read = rw c.in-Unread.is at c.in_ok-fetched.ensures.fetched in
    unread_first _ _ _ _ _ _ _ _ read

pub returns-in-Text-also-clause-replies : goal.returns-in-Text-also-clause-replies
returns-in-Text-also-clause-replies g c =
    let read = rw c.in-Text.is at c.in_ok-fetched.ensures.fetched in
    let more = rw (c.in-Text-also.is, c.most_of_other.ensures, c.in_ok-fetched.ensures.shelf.1) at c.in_ok-also.ensures.fetched in
    viewed_by_two _ _ _ _ _ _ _ _ _ read.0 more.0 (rw (c.as_slice.ensures.value, c.as_slice-in-Text-also.ensures.value) at c.view_of_both.ensures)

pub returns-clause-replies : goal.returns-clause-replies
returns-clause-replies g c =
    let read = rw c.in-Text.is at c.in_ok-fetched.ensures.fetched in
    let more = rw (c.in-Unread-also.is, c.most_of_other.ensures, read.1, c.in_ok-fetched.ensures.shelf.1) at c.in_ok-also.ensures.fetched in
    unread_second _ _ _ _ _ _ _ _ _ read.0 more
