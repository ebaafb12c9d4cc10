-- What is left of the proof of `text::add_agent`.
use Rattle.std.proofs.Common.{◌∙◌, ◌++◌, ℕ, List, ap, get_or}
use Rattle.psy_listing.specs.Listing.{point_lines, point_text}
use Rattle.psy_feed.proofs.lemmas.Ranges.{line_more}
use Rattle.psy_listing.proofs.text.add_agent.Goals as goal

pub points-preserved : goal.points-preserved
points-preserved c =
    let listed = c.args.listed in
    let line = λ (places : List ℕ). point_lines listed.unit.now listed.code.now listed.lines.now c.args.agent c.points.point (get_or places c.points.point 0) in
    line_more (point_text listed.unit.now listed.code.now listed.lines.now c.args.agent) c.args.out.now.items c.points.out.items c.add_point.new.out.items
    c.points.point c.points.invariant
    (c.in_ok-add_point.ensures ∙ ap (λ (places : List ℕ). c.points.out.items ++ line places) c.points_of-place-items.ensures)
