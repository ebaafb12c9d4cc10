-- What is left of the proof of `walked::meet_starts`.
use Rattle.std.proofs.Common.{◌≡◌, ◌+◌, ◌<◌, length, [], ◌∷◌, ◌++◌, get_or, take, sym, subst, inl, inr, arith}
use Rattle.std.specs.List.{Contains}
use Rattle.std.proofs.lemmas.List.{take_all, take_more}
use Rattle.std.proofs.lemmas.List.Elements.{Contains-get_or, Contains-push_cases}
use Rattle.psy_meaning.specs.CodeWays.{first}
use Rattle.psy_judge.proofs.PlacesMet.{grown_has}
use Rattle.psy_judge.proofs.walked.meet_starts.Goals as goal

pub starts-init : goal.starts-init
starts-init c = record { met = c.requires.met; begun = λ start has. absurd (omega (arith, has.1)) }

pub meet-requires-clause-passed : goal.meet-requires-clause-passed
meet-requires-clause-passed c =
    let starts = c.args.starts.now in
    let k = c.starts.start-index in
    (get_or starts k 0, Contains-get_or starts k 0 c.starts-test.true, first)

pub starts-preserved : goal.starts-preserved
starts-preserved c =
    let starts = c.args.starts.now in
    let k = c.starts.start-index in
    let kept = c.starts.invariant in
    let after = c.in_ok-meet.ensures in
    let more : take (k + 1) starts ≡ take k starts ++ get_or starts k 0 ∷ [] = take_more starts k 0 c.starts-test.true in
    record {
      met = after.met;
      begun = λ start has within. elim (Contains-push_cases (take k starts) (get_or starts k 0) start (subst (λ xs. Contains xs start) more has)) [
        | inl before ↦ grown_has c.starts.places _ start after.grown (kept.begun start before within)
        | inr is ↦ subst (λ p. p < length c.args.instrs.now → Contains c.meet.new.places p) is after.there within
      ];
    }

pub returns-clause-begun : goal.returns-clause-begun
returns-clause-begun c start has =
    c.starts.invariant.begun start (subst (λ xs. Contains xs start) (sym (take_all c.starts.start-index c.args.starts.now c.starts-test.false)) has)
