-- What is left of the proof of `spot::spot_at`.
use Rattle.std.proofs.Common.{◌-◌, length, drop, sym, ap, ◌∙◌}
use Rattle.std.proofs.lemmas.List.{take_rest}
use Rattle.psy_spot.specs.Spots.{line_back}
use Rattle.psy_spot.proofs.lemmas.LinesBack.{line_back-is}
use Rattle.psy_spot.proofs.spot.spot_at.Goals as goal

pub returns-clause-before : goal.returns-clause-before
returns-clause-before c =
    let front = c.split_at.result.0.now in
    take_rest front (length front - c.back_len.result)
    ∙ ap (λ n. drop (length front - n) front) c.back_len.ensures.value
    ∙ sym (line_back-is front)
    ∙ ap line_back c.split_at.ensures.front
