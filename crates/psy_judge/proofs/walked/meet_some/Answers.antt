-- What is left of the proof of `walked::meet_some`.
use Rattle.std.proofs.Common.{sym, subst, ◌∙◌, length, ◌<◌}
use Rattle.std.specs.List.{Contains}
use Rattle.std.proofs.lemmas.Option.{none-some, same_Some}
use Rattle.psy_judge.proofs.PlacesMet.{grown_none}
use Rattle.psy_judge.proofs.walked.meet_some.Goals as goal

pub meet-requires-clause-passed : goal.meet-requires-clause-passed
meet-requires-clause-passed c = c.requires.passed c.in-Some.place (sym c.in-Some.is)

pub returns-in-None-clause-there : goal.returns-in-None-clause-there
returns-in-None-clause-there c p e = absurd (none-some p (sym (e ∙ c.in-None.is)))

pub returns-in-None-clause-grown : goal.returns-in-None-clause-grown
returns-in-None-clause-grown c = grown_none c.args.places.now

pub returns-in_ok-meet-in-Some-clause-there : goal.returns-in_ok-meet-in-Some-clause-there
returns-in_ok-meet-in-Some-clause-there c p e =
    subst (λ q. q < length c.args.instrs.now → Contains c.meet.new.places q) (sym (same_Some p c.in-Some.place (e ∙ c.in-Some.is))) c.in_ok-meet-in-Some.ensures.there
