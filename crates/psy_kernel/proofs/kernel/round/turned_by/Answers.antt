-- What is left of the proof of `kernel::round::turned_by`.
use Rattle.std.proofs.Common.{◌≡◌, List, length, Some, refl, sym, ap, ◌∙◌, arith}
use Rattle.std.proofs.lemmas.Option.{slice_get_read, slice_get_within}
use Rattle.psy_history.specs.declared.told.Round.{Round}
use Rattle.psy_kernel.proofs.RoundsInForce.{all_later}
use Rattle.psy_kernel.proofs.kernel.round.turned_by.Goals as goal

pub returns-else-rounds-passed : goal.returns-else-rounds-passed
returns-else-rounds-passed c =
    let rounds : List Round = c.args.rounds.now in
    let next : Round = c.index-rounds-passed.result in
    let here = slice_get_read rounds (length rounds) c.rounds.passed next refl c.rounds-test.true c.index-rounds-passed.is in
    record {
      in_force = record {
        within = c.rounds.invariant.within;
        come = c.rounds.invariant.come;
        ahead = all_later rounds c.requires.rise c.rounds.passed c.args.next (λ r at. (let both : Some next ≡ Some r = sym here ∙ at in let same : next ≡ r = cc in omega (arith, c.if-rounds-passed.false, ap (λ (q : Round). q.cycle) c.index-rounds-passed.is, ap (λ (q : Round). q.cycle) same)));
      };
    }

pub returns-after-rounds : goal.returns-after-rounds
returns-after-rounds c =
    let rounds : List Round = c.args.rounds.now in
    record {
      in_force = record {
        within = c.rounds.invariant.within;
        come = c.rounds.invariant.come;
        ahead = λ place r at more. absurd (omega (arith, slice_get_within rounds place r at, more, c.rounds-test.false));
      };
    }
