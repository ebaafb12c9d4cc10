-- What is left of the proof of `place::place`.
use Rattle.std.proofs.Common.{inl, inr, subst}
use Rattle.psy_where.specs.declared.recall.What.{What}
use Rattle.psy_where.specs.Refusals.{IsPlaceOf}
use Rattle.psy_where.proofs.place.place.Goals as goal

pub returns-in-Parse-clause-beyond : goal.returns-in-Parse-clause-beyond
returns-in-Parse-clause-beyond c beyond place is =
    let as_kind = λ (what : What). IsPlaceOf what c.args.text.now c.args.number place in
    elim c.in-Parse.is [
      | inl e ↦ c.token_place.ensures.beyond beyond place (subst as_kind e is)
      | inr e ↦ c.token_place.ensures.beyond beyond place (subst as_kind e is)
    ]
