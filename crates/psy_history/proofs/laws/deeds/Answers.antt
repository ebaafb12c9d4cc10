-- What is left of the proof of `laws::deeds`.
use Rattle.std.proofs.lemmas.List.Elements.{All-contains}
use Rattle.psy_code.specs.declared.code.Code.{Code}
use Rattle.psy_meaning.specs.CodeWays.{agent_code_at}
use Rattle.psy_history.specs.History.{history}
use Rattle.psy_history.proofs.OutboxSizes.{has_place}
use Rattle.psy_history.proofs.RunActions.{AreRunLaws}
use Rattle.psy_history.proofs.RunHistories.{IsOwn, all_own}
use Rattle.psy_history.proofs.TakenSoFar.{taken_so_far}
use Rattle.psy_history.proofs.laws.deeds.Goals as goal

laws_of : (c : goal.After-regular) (code : Code) → AreRunLaws code
laws_of c code = record {
  lasted = λ its s t n. c.lasting.ensures.lasted code its s t n;
  ended = λ its s t n point. c.lasting.ensures.ended code its s t n point;
  late = c.distances.ensures.late;
  again = c.distances.ensures.again;
}

pub returns-clause-sends : goal.returns-clause-sends
returns-clause-sends c s ways code run queues are small dates agent size instr r state sent greatest there running asks less =
    let laws = laws_of c code in
    let own = All-contains (IsOwn s ways code agent) (history s dates agent) r (all_own s ways code laws run dates agent) there in
    has_place s ways code laws run agent r own queues are small size instr state sent greatest running asks less

pub returns-clause-takes : goal.returns-clause-takes
returns-clause-takes c s ways code run dates agent stream instr decl r state at receives there running =
    taken_so_far s agent stream decl at receives (c.regular.ensures.lawful s ways code run) dates r there code (agent_code_at code agent) instr state running
