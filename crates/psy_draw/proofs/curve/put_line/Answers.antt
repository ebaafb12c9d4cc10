-- What is left of the proof of `curve::put_line`.
use Rattle.std.proofs.Common.{rules, w32, ◌≡◌, ℤ, subst, append_assoc}
use mir.Val.{SFits}
use Rattle.psy_draw.specs.Spans.{y_in}
use Rattle.psy_draw.proofs.Clean.{clean}
use Rattle.psy_draw.proofs.curve.put_line.Goals as goal

pub returns : goal.returns
returns c =
    let P : ℤ → Type 0 = λ z. c.y_of-y.result ≡ y_in c.args.span z in
    let fits : SFits w32 c.args.first.now.first = search rules in
    let first = subst P (clean c.args.first.now.first fits) c.y_of-y.ensures.place in
    rw (c.in_ok-put_dashes.ensures, c.in_ok-fill-2.ensures, c.in_ok-y-2.ensures.1, c.in_ok-y-2.ensures.0, c.in_ok-y.ensures.1, c.in_ok-y.ensures.0, c.in_ok-fill.ensures, first)
    (simp append_assoc)
