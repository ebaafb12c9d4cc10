-- What is left of the proof of `verdict::judge_function`.
use Rattle.std.proofs.Common.{◌≡◌, ◌⊎◌, ◌<◌, ℕ, List, false, true, length, get_or, sym, subst}
use Rattle.std.specs.Prelude.{◌↔◌}
use Rattle.std.specs.List.{Contains}
use Rattle.psy_flow.specs.Owners.{Function}
use Rattle.psy_judge.specs.Judging.{AreReached}
use Rattle.psy_judge.proofs.TakenPlaces.{taken_function}
use Rattle.psy_judge.proofs.verdict.judge_function.Goals as goal

pub need_of-need-requires-clause-places : goal.need_of-need-requires-clause-places
need_of-need-requires-clause-places c =
    subst (λ (ps : List ℕ). AreReached c.args.code.now (Function c.args.number) ps) (sym c.as_slice-5.ensures) c.in_ok-places.ensures.explored.reached

pub take_all-requires-clause-inside : goal.take_all-requires-clause-inside
take_all-requires-clause-inside c place has = ((c.in_ok-places.ensures.explored.reached place).0 (subst (λ (ps : List ℕ). Contains ps place) c.as_slice-7.ensures has)).0

pub clear-requires-clause-inside : goal.clear-requires-clause-inside
clear-requires-clause-inside c place has = ((c.in_ok-places.ensures.explored.reached place).0 (subst (λ (ps : List ℕ). Contains ps place) c.as_slice-8.ensures has)).0

pub returns-clause-ready : goal.returns-clause-ready
returns-clause-ready c = record {
  clear = c.in_ok-places.ensures.clear;
  reached =
      taken_function c.args.code.now c.args.number c.in_ok-places.places c.args.taken.now c.take_all.new.taken c.requires.ready.reached c.in_ok-places.ensures.explored.reached c.take_all.ensures.size
      (subst (λ (ps : List ℕ). (place : ℕ) → place < length c.args.code.now.instrs → (get_or c.take_all.new.taken place false ≡ true) ↔ ((get_or c.args.taken.now place false ≡ true) ⊎ Contains ps place))
      c.as_slice-7.ensures c.take_all.ensures.each);
  empty = c.clear.ensures;
}
