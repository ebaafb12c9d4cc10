-- What is left of the proof of `span::Span::depth`.
use Rattle.std.proofs.Common.{rules, w32, ◌∙◌, ap, min, ◌*◌, ◌/◌}
use Rattle.std.specs.Prelude.{◌-ℤ◌, unsigned_abs}
use mir.Val.{SFits}
use Rattle.psy_draw.proofs.Clean.{clean_two}
use Rattle.psy_draw.proofs.Depths.{depth_is}
use Rattle.psy_draw.proofs.span.Span.depth.Goals as goal

pub returns : goal.returns
returns c =
    let least : SFits w32 c.args.self.now.least = search rules in
    let greatest : SFits w32 c.args.self.now.greatest = search rules in
    let value : SFits w32 c.args.value = search rules in
    depth_is c.args.self.now.least c.args.self.now.greatest c.args.value c.args.height c.from-whole.result c.from-part.result c.min.result
    (c.from-whole.ensures ∙ c.abs_diff.ensures ∙ clean_two (λ a b. unsigned_abs (a -ℤ b)) c.args.self.now.greatest c.args.self.now.least greatest least)
    (c.from-part.ensures ∙ c.abs_diff-2.ensures ∙ clean_two (λ a b. unsigned_abs (a -ℤ b)) c.args.self.now.greatest c.args.value greatest value)
    c.if-whole-eq0.false
    (c.min.ensures ∙ ap (λ h. min (c.from-part.result * h / c.from-whole.result) c.from-2.result) c.from.ensures ∙ ap (min (c.from-part.result * c.args.height / c.from-whole.result)) c.from-2.ensures)
