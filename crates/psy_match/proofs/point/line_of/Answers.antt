-- What is left of the proof of `point::line_of`.
use Rattle.psy_match.proofs.LinesOfPlaces.{point_line_within}
use Rattle.psy_match.proofs.point.line_of.Goals as goal

pub returns : goal.returns
returns c =
    rw (c.in_ok-add_shown_in.ensures, c.in_ok-extend_from_slice.ensures.items, c.in_ok-add_number.ensures, c.new-line.ensures.items, c.without_return.ensures, c.spot_at-spot.ensures.behind, c.spot_at-spot.ensures.line)
    (point_line_within c.args.text.now c.args.place c.min.result c.min.ensures)
