-- What is left of the proof of `curve::put_stroke`.
use Rattle.std.proofs.Common.{rules, w32, ◌≡◌, ℕ, ℤ, subst, append_assoc, ◌∙◌}
use mir.Val.{SFits}
use Rattle.psy_draw.specs.Spans.{y_in}
use Rattle.psy_draw.proofs.Clean.{clean}
use Rattle.psy_draw.proofs.curve.put_stroke.Goals as goal

pub returns : goal.returns
returns c =
    let column = c.args.column.now in
    let P = λ (y : ℕ) (z : ℤ). y ≡ y_in c.args.span z in
    let fits_least : SFits w32 column.least = search rules in
    let fits_greatest : SFits w32 column.greatest = search rules in
    let fits_last : SFits w32 column.last = search rules in
    let least = subst (P c.y_of.result) (clean column.least fits_least) c.y_of.ensures.place in
    let greatest = subst (P c.y_of-2.result) (clean column.greatest fits_greatest) c.y_of-2.ensures.place in
    let last = subst (P c.y_of-3.result) (clean column.last fits_last) c.y_of-3.ensures.place in (
      c.in_ok-y-3.ensures.0 ∙ last,
      rw (c.in_ok-y-3.ensures.1, c.in_ok-y-2.ensures.1, c.in_ok-y.ensures.1, c.in_ok-y-2.ensures.0, c.in_ok-y.ensures.0, last, greatest, least) (simp append_assoc),
    )
