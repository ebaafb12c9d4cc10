-- What is left of the proof of `clears::clear_takes`.
use Rattle.std.proofs.Common.{◌≡◌, length, Some, sym, ap, ◌∙◌, arith}
use Rattle.std.proofs.lemmas.Bool.{cond-false}
use Rattle.std.specs.Prelude.{slice_get}
use Rattle.psy_tree.specs.Parts.{stream_at}
use Rattle.psy_dates.specs.Moves.{ends_at}
use Rattle.psy_dates.proofs.lemmas.Moving.{none_ends}
use Rattle.psy_dates.proofs.clears.clear_takes.Goals as goal

pub returns-else-not-is_empty : goal.returns-else-not-is_empty
returns-else-not-is_empty c stream n at =
    let receiver = (stream_at c.args.plan.now.unit stream).receiver in
    let empty : length c.args.movers.now ≡ 0 = grind (arith, c.if-not-is_empty.false, c.is_empty.ensures) in
    at ∙ ap Some (sym (cond-false (ends_at c.args.date (slice_get c.args.seats.now receiver)) _ _ (none_ends c.args.date c.args.seats.now c.args.movers.now empty c.requires.movers receiver)))
