-- What is left of the proof of `verdict::least_fault`.
use Rattle.std.proofs.Common.{◌∙◌, false, length, ap, sym, subst}
use Rattle.std.specs.Prelude.{replicate}
use Rattle.std.proofs.lemmas.Result.{IfOk-weaker}
use Rattle.psy_judge.specs.declared.heights.Top.TheVariants as top
use Rattle.psy_judge.specs.Judging.{AreNeeds}
use Rattle.psy_judge.proofs.OwnersReady.{needs_none, no_heights_empty}
use Rattle.psy_judge.proofs.TakenPlaces.{taken_none}
use Rattle.psy_judge.proofs.WholeJudged.{whole_least}
use Rattle.psy_judge.proofs.verdict.least_fault.Goals as goal

pub judge_functions-requires-clause-ready : goal.judge_functions-requires-clause-ready
judge_functions-requires-clause-ready c = record {
  clear = c.in_ok-marks.ensures ∙ ap (λ n. replicate n false) c.len-count.ensures;
  reached = taken_none c.args.code.now c.in_ok-taken.taken (c.in_ok-taken.ensures ∙ ap (λ n. replicate n false) c.len-count.ensures);
  empty = no_heights_empty (length c.args.code.now.instrs) c.in_ok-row.row (c.in_ok-row.ensures ∙ ap (λ n. replicate n top.Nothing) c.len-count.ensures);
}

pub judge_functions-requires-clause-needs : goal.judge_functions-requires-clause-needs
judge_functions-requires-clause-needs c = subst (AreNeeds c.args.code.now 0) (sym c.new-needs.ensures) (needs_none c.args.code.now)

pub returns : goal.returns
returns c = IfOk-weaker c.judge_agents.result _ _ (λ fault is. whole_least c.args.unit.now c.args.code.now fault is) c.judge_agents.ensures.least
