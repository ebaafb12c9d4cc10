-- What is left of the proof of `tried::first_failing`.
use Rattle.std.proofs.Common.{◌∙◌, sym, not}
use Rattle.psy_assert.specs.Verdicts.{is_kept, verdict_of}
use Rattle.psy_claims.proofs.FirstFound.{found_at, found_nowhere}
use Rattle.psy_claims.proofs.tried.first_failing.Goals as goal

pub returns-in-Some : goal.returns-in-Some
returns-in-Some c =
    let place = rw (c.as_slice.ensures.value, c.in_ok-assertions.ensures) at (sym c.in-Some.is ∙ c.in_ok-place.ensures) in
    c.claim_at.ensures ∙ found_at (λ a. not (is_kept (verdict_of a c.args.notes.now))) (λ claimed. claimed.assertion) c.args.claims.now c.in-Some.place place

pub returns : goal.returns
returns c =
    let place = rw (c.as_slice.ensures.value, c.in_ok-assertions.ensures) at (sym c.in-None.is ∙ c.in_ok-place.ensures) in
    found_nowhere (λ a. not (is_kept (verdict_of a c.args.notes.now))) (λ claimed. claimed.assertion) c.args.claims.now place
