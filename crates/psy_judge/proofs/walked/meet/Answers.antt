-- What is left of the proof of `walked::meet`.
use Rattle.std.proofs.Common.{◌≡◌, ◌<◌, [], ◌∷◌, true, false, get_or, length, Some, sym, ap, subst, ◌∙◌, arith}
use Rattle.std.specs.Prelude.{slice_get, slice_set}
use Rattle.std.specs.List.{Contains}
use Rattle.std.proofs.lemmas.List.Elements.{Contains-push}
use Rattle.std.proofs.lemmas.Option.{slice_get-get_or}
use Rattle.psy_judge.specs.Walked.{AreMet, IsMarkedAt}
use Rattle.psy_judge.proofs.PlacesMet.{grown_none, met_more}
use Rattle.psy_judge.proofs.walked.meet.Goals as goal

pub returns-then-place-instrs-clause-grown : goal.returns-then-place-instrs-clause-grown
returns-then-place-instrs-clause-grown c = grown_none c.args.places.now

pub returns-then-seen-clause-there : goal.returns-then-seen-clause-there
returns-then-seen-clause-there c within =
    let marks = c.args.marks.now in
    let place = c.args.place in
    let less : place < length marks = omega (arith, within, c.requires.met.count) in
    let marked : IsMarkedAt marks place = slice_get-get_or marks place false less ∙ ap Some (ap (λ ms. get_or ms place false) (sym c.as_slice.ensures) ∙ c.if-seen.true) in
    c.requires.met.listed place marked

pub returns-then-seen-clause-grown : goal.returns-then-seen-clause-grown
returns-then-seen-clause-grown c = grown_none c.args.places.now

pub returns-clause-met : goal.returns-clause-met
returns-clause-met c =
    let instrs = c.args.instrs.now in
    let starts = c.args.starts.now in
    let marks = c.args.marks.now in
    let places = c.args.places.now in
    let place = c.args.place in
    let within : place < length instrs = omega (arith, c.if-place-instrs.false) in
    let less : place < length marks = omega (arith, within, c.requires.met.count) in
    let new : slice_get marks place ≡ Some false = slice_get-get_or marks place false less ∙ ap Some (ap (λ ms. get_or ms place false) (sym c.as_slice.ensures) ∙ c.if-seen.false) in
    subst (λ ms. AreMet instrs starts ms c.push.new.self) (sym c.set.ensures)
    (subst (AreMet instrs starts (slice_set marks place true)) (sym c.in_ok-push.ensures.ok) (met_more instrs starts marks places place c.requires.met new (within, c.requires.passed)))

pub returns-clause-there : goal.returns-clause-there
returns-clause-there c within = subst (λ ps. Contains ps c.args.place) (sym c.in_ok-push.ensures.ok) (Contains-push c.args.places.now c.args.place)

pub returns-clause-grown : goal.returns-clause-grown
returns-clause-grown c = (c.args.place ∷ [], c.in_ok-push.ensures.ok)
