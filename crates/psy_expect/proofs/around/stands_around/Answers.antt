-- What is left of the proof of `around::stands_around`.
use Rattle.std.proofs.Common.{refl}
use Rattle.psy_expect.proofs.around.stands_around.Goals as goal

pub returns : goal.returns
returns c =
    rw (c.around_of.ensures, c.starter_at.ensures, c.last_of.ensures, c.but_last-2.ensures, c.but_last.ensures, c.last_of-2.ensures, c.but_last-3.ensures, c.last_of-3.ensures, c.token_at.ensures, c.token_at-2.ensures, c.token_at-3.ensures, c.split_at.ensures.front, c.split_at.ensures.back) refl
