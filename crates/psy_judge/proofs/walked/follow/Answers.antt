-- What is left of the proof of `walked::follow`.
use Rattle.std.proofs.Common.{◌≡◌, ℕ, get_or, sym, ap, subst, ◌∙◌, inl, inr}
use Rattle.std.proofs.lemmas.List.Elements.{Contains-get_or}
use Rattle.psy_lists.proofs.lemmas.Places.{there}
use Rattle.psy_judge.specs.Walked.{IsMetFrom, MayFollow}
use Rattle.psy_judge.proofs.PlacesMet.{followed, grown_has, grown_on, onward_passed}
use Rattle.psy_judge.proofs.walked.follow.Goals as goal

pub goes_on_at-to-requires : goal.goes_on_at-to-requires
goes_on_at-to-requires c =
    let places = c.args.places.now in
    let place : ℕ = get_or c.as_slice.result.now c.args.at 0 in
    let read : place ≡ get_or places c.args.at 0 = ap (λ ps. get_or ps c.args.at 0) c.as_slice.ensures in
    let passed : IsMetFrom c.args.instrs.now c.args.starts.now place = subst (IsMetFrom c.args.instrs.now c.args.starts.now) (sym read) (c.requires.met.passed (get_or places c.args.at 0) (Contains-get_or places c.args.at 0 c.requires.at)) in
    passed.0

pub meet_some-requires-clause-passed : goal.meet_some-requires-clause-passed
meet_some-requires-clause-passed c p e =
    let instrs = c.args.instrs.now in
    let places = c.args.places.now in
    let place : ℕ = get_or c.as_slice.result.now c.args.at 0 in
    let read : place ≡ get_or places c.args.at 0 = ap (λ ps. get_or ps c.args.at 0) c.as_slice.ensures in
    let passed : IsMetFrom instrs c.args.starts.now place = subst (IsMetFrom instrs c.args.starts.now) (sym read) (c.requires.met.passed (get_or places c.args.at 0) (Contains-get_or places c.args.at 0 c.requires.at)) in
    let (i, here) = there instrs place passed.0 in
    onward_passed instrs c.args.starts.now place i passed.1 here p (inl (e ∙ ap (λ o. o.next) (c.goes_on_at-to.ensures i here)))

pub meet_some-requires-2-clause-passed : goal.meet_some-requires-2-clause-passed
meet_some-requires-2-clause-passed c p e =
    let instrs = c.args.instrs.now in
    let places = c.args.places.now in
    let place : ℕ = get_or c.as_slice.result.now c.args.at 0 in
    let read : place ≡ get_or places c.args.at 0 = ap (λ ps. get_or ps c.args.at 0) c.as_slice.ensures in
    let passed : IsMetFrom instrs c.args.starts.now place = subst (IsMetFrom instrs c.args.starts.now) (sym read) (c.requires.met.passed (get_or places c.args.at 0) (Contains-get_or places c.args.at 0 c.requires.at)) in
    let (i, here) = there instrs place passed.0 in
    onward_passed instrs c.args.starts.now place i passed.1 here p (inr (e ∙ ap (λ o. o.jump) (c.goes_on_at-to.ensures i here)))

pub returns-clause-followed : goal.returns-clause-followed
returns-clause-followed c =
    let instrs = c.args.instrs.now in
    let places = c.args.places.now in
    let place : ℕ = get_or c.as_slice.result.now c.args.at 0 in
    let read : place ≡ get_or places c.args.at 0 = ap (λ ps. get_or ps c.args.at 0) c.as_slice.ensures in
    let passed : IsMetFrom instrs c.args.starts.now place = subst (IsMetFrom instrs c.args.starts.now) (sym read) (c.requires.met.passed (get_or places c.args.at 0) (Contains-get_or places c.args.at 0 c.requires.at)) in
    let (i, here) = there instrs place passed.0 in
    subst (MayFollow instrs c.meet_some-2.new.places) read (followed instrs place i c.meet_some-2.new.places here
    (λ p e within. grown_has c.meet_some.new.places c.meet_some-2.new.places p c.in_ok-meet_some-2.ensures.grown (c.in_ok-meet_some.ensures.there p (e ∙ sym (ap (λ o. o.next) (c.goes_on_at-to.ensures i here))) within))
    (λ p e within. c.in_ok-meet_some-2.ensures.there p (e ∙ sym (ap (λ o. o.jump) (c.goes_on_at-to.ensures i here))) within))

pub returns-clause-grown : goal.returns-clause-grown
returns-clause-grown c = grown_on c.args.places.now c.meet_some.new.places c.meet_some-2.new.places c.in_ok-meet_some.ensures.grown c.in_ok-meet_some-2.ensures.grown
