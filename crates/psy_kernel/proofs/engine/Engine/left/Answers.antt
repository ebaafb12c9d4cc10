-- What is left of the proof of `engine::Engine::left`.
use Rattle.std.proofs.Common.{◌≡◌, ◌<◌, List, [], get_or, length, ℤ, sym, ap, subst, ◌∙◌, arith}
use Rattle.psy_history.specs.Resuming.{IsQuiet}
use Rattle.psy_meaning.specs.CodeWays.{agent_code_at}
use Rattle.psy_meaning.specs.KnownWays.{Listed}
use Rattle.psy_dates.specs.Beginnings.{behind}
use Rattle.psy_dates.specs.declared.opening.Opening.{Opening as State}
use Rattle.psy_kernel.specs.Engines.{EngineState, history_of}
use Rattle.psy_kernel.specs.Freezing.{BeginWithFirst, MayLeave, left_on, state_by}
use Rattle.psy_kernel.specs.Resuming.{HasShapeOf}
use Rattle.psy_kernel.proofs.DatesDue.{AreRunLaws}
use Rattle.psy_kernel.proofs.Engines.{order_in, run_in}
use Rattle.psy_kernel.proofs.LeftStates.{agents_read, all_may, opened_left, shape_left, sized, state_left, state_read, state_same, streams_read, variables_read}
use Rattle.psy_kernel.proofs.RunsDone.{IsDone, is_done}
use Rattle.psy_kernel.proofs.engine.Engine.left.Goals.{After-from, In_ok-streams_left}
use Rattle.psy_kernel.proofs.engine.Engine.left.Goals as goal

-- The last date was done.
over : (c : After-from) → IsDone c.self.inside
over c =
    let laws : AreRunLaws = record { well = c.fitting.ensures; opened = c.openings.ensures.run; lawful = c.regular.ensures.lawful; none = c.openings.ensures.none; silent = c.openings.ensures.silent; waits = c.openings.ensures.waits } in
    is_done c.self.inside c.args.self.now c.self.invariant c.self.view_is c.requires.over laws c.given.ensures.unstarted c.one_of_them.ensures.one

-- It is quiet.
quiet : (c : After-from) → IsQuiet (run_in c.self.inside) c.self.inside.plan.until
quiet c = subst (λ (e : EngineState). IsQuiet (history_of e) e.plan.until) (sym c.self.view_is) c.requires.quiet

pub agents_left-requires-clause-may : goal.agents_left-requires-clause-may
agents_left-requires-clause-may c = λ agent less.
    let k = c.self.inside in
    let at = goal.at.agents_left-requires-clause-may c in
    subst (MayLeave (agent_code_at k.plan.code agent)) (sym c.deref.ensures.value)
    (all_may k (over at.After-from) agent (omega (arith, less, ap length c.deref-3.ensures.value)))

pub variables_left-requires-clause-sizes : goal.variables_left-requires-clause-sizes
variables_left-requires-clause-sizes c = λ variable less.
    let k = c.self.inside in
    let at = goal.at.variables_left-requires-clause-sizes c in
    ap (λ (rings : List (List ℤ)). length (get_or rings variable [])) c.deref-4.ensures.value
    ∙ sized k (over at.After-from) variable (subst (λ (rings : List (List ℤ)). variable < length rings) c.deref-4.ensures.value less)
    ∙ sym (ap (λ xs. get_or xs variable 0) c.as_slice.ensures)

-- The state that is answered
state_is : (c : In_ok-streams_left) → ◌≡◌ {A = State} (record { date = c.from.result; agents = c.in_ok-agents_left.field-0; variables = c.in_ok-variables_left.field-0; streams = c.in_ok-streams_left.field-0 }) (state_left c.self.inside)
state_is c =
    let k = c.self.inside in
    state_read k c.from.result c.in_ok-agents_left.field-0 c.in_ok-variables_left.field-0 c.in_ok-streams_left.field-0 c.from.ensures
    (agents_read k c.deref.result.now c.deref-2.result.now c.deref-3.result.now c.in_ok-agents_left.field-0 c.in_ok-agents_left.ensures c.deref.ensures.value c.deref-2.ensures.value c.deref-3.ensures.value)
    (variables_read k c.deref-4.result.now c.deref-5.result.now c.in_ok-variables_left.field-0 c.in_ok-variables_left.ensures c.deref-4.ensures.value c.deref-5.ensures.value)
    (streams_read k c.deref-6.result.now c.deref-7.result.now c.in_ok-streams_left.field-0 c.in_ok-streams_left.ensures c.deref-6.ensures.value c.deref-7.ensures.value)

pub returns-clause-shape : goal.returns-clause-shape
returns-clause-shape c =
    let k = c.self.inside in
    let at = goal.at.returns-clause-shape c in
    let state : State = record { date = c.from.result; agents = c.in_ok-agents_left.field-0; variables = c.in_ok-variables_left.field-0; streams = c.in_ok-streams_left.field-0 } in
    subst (λ (e : EngineState). HasShapeOf e.plan state) c.self.view_is
    (subst (HasShapeOf k.plan) (sym (state_is c)) (shape_left k (over at.After-from) c.lasting.ensures.ended (quiet at.After-from)))

pub returns-clause-state : goal.returns-clause-state
returns-clause-state c =
    let k = c.self.inside in
    let at = goal.at.returns-clause-state c in
    let done = over at.After-from in
    let state : State = record { date = c.from.result; agents = c.in_ok-agents_left.field-0; variables = c.in_ok-variables_left.field-0; streams = c.in_ok-streams_left.field-0 } in
    subst (λ (e : EngineState). state ≡ state_by e.plan (left_on e)) c.self.view_is
    (state_is c
    ∙ state_same k done c.lasting.ensures.ended (quiet at.After-from) (c.regular.ensures.sends (run_in k) (Listed done.stands.plan.ways) k.plan.code done.run) (c.regular.ensures.runs (run_in k) (Listed done.stands.plan.ways) k.plan.code done.run)
    c.reaches.ensures.date c.reaches.ensures.same (λ other r supplied held le. c.on_time.ensures.due (run_in k) (order_in k) k.plan.until k.plan.until other r supplied (omega arith) held le))

pub returns-clause-opened : goal.returns-clause-opened
returns-clause-opened c = λ first.
    let k = c.self.inside in
    let at = goal.at.returns-clause-opened c in
    let done = over at.After-from in
    let state : State = record { date = c.from.result; agents = c.in_ok-agents_left.field-0; variables = c.in_ok-variables_left.field-0; streams = c.in_ok-streams_left.field-0 } in
    let begins : BeginWithFirst k.plan = subst (λ (e : EngineState). BeginWithFirst e.plan) (sym c.self.view_is) first in
    subst (λ (e : EngineState). behind e.plan state ≡ left_on e) c.self.view_is
    (ap (behind k.plan) (state_is c)
    ∙ opened_left k done c.lasting.ensures.ended (quiet at.After-from) (c.regular.ensures.sends (run_in k) (Listed done.stands.plan.ways) k.plan.code done.run) (c.regular.ensures.runs (run_in k) (Listed done.stands.plan.ways) k.plan.code done.run)
    c.reaches.ensures.date c.reaches.ensures.same (λ other r supplied held le. c.on_time.ensures.due (run_in k) (order_in k) k.plan.until k.plan.until other r supplied (omega arith) held le) begins)
