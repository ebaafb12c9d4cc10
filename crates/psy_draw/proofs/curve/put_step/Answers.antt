-- What is left of the proof of `curve::put_step`.
use Rattle.std.proofs.Common.{rules, w32, ◌≡◌, ℤ, subst, append_assoc, ◌∙◌, sym}
use mir.Val.{SFits}
use Rattle.psy_draw.specs.Spans.{y_in}
use Rattle.psy_draw.proofs.Clean.{clean}
use Rattle.psy_draw.proofs.Joining.{number_else, text_else}
use Rattle.psy_draw.proofs.curve.put_step.Goals as goal

pub returns : goal.returns
returns c =
    let goes = sym c.stays.ensures ∙ c.if-stays.false in
    let P : ℤ → Type 0 = λ z. c.y_of.result ≡ y_in c.args.span z in
    let fits : SFits w32 c.args.column.now.first = search rules in
    let first = subst P (clean c.args.column.now.first fits) c.y_of.ensures.place in (
      number_else _ _ _ _ goes c.in_ok-y-2.ensures.0,
      text_else _ c.args.page.now _ c.put_stroke.new.page goes
          (rw (c.in_ok-y-2.ensures.1, c.in_ok-y.ensures.1, c.in_ok-y.ensures.0, c.in_ok-fill.ensures, first) (simp append_assoc)),
    )
