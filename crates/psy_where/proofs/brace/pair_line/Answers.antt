-- What is left of the proof of `brace::pair_line`.
use Rattle.std.proofs.Common.{refl}
use Rattle.psy_where.specs.Helps.{pair_line}
use Rattle.psy_where.proofs.brace.pair_line.Goals as goal

pub returns : goal.returns
unfolding pair_line
returns c =
    rw (c.in_ok-extend_from_slice.ensures.items, c.in_ok-add_labelled-2.ensures, c.in_ok-add_labelled.ensures, c.new-line.ensures.items)
    (rw (c.spot_of-closing.ensures.line, c.spot_of-opening.ensures.line) refl)
