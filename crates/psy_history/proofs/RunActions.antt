-- What comes of an action of a run that starts where its agent may go on.
use Rattle.std.proofs.Common.{◌≡◌, ℕ, ◌+◌, ◌<◌, ◌≤◌, All, List, length, Some, refl, sym, ap, subst, ◌∙◌, arith}
use Rattle.std.specs.Prelude.{slice_get}
use Rattle.std.specs.List.{Contains}
use Rattle.std.proofs.lemmas.List.Elements.{All-weaker}
use Rattle.std.proofs.lemmas.Option.{slice_get-get_or}
use Rattle.psy_base.specs.declared.message.Message.{Message}
use Rattle.psy_lists.proofs.lemmas.Members.{all_members}
use Rattle.psy_code.specs.declared.code.AgentCode.{AgentCode}
use Rattle.psy_code.specs.declared.code.Code.{Code}
use Rattle.psy_code.specs.Execution.{NoRun, RanTo, Run, RunState, Running, TrappedBy, run_code}
use Rattle.psy_code.specs.Lasting.{IsOver, Lasted, StandsAt}
use Rattle.psy_code.specs.Views.{View}
use Rattle.psy_tree.specs.declared.unit.AgentDecl.{AgentDecl}
use Rattle.psy_history.specs.Actions.{Action, Next, System, Done, charge_of, next_by, timing}
use Rattle.psy_meaning.specs.Alike.{IsViewOf, started}
use Rattle.psy_meaning.specs.CodeWays.{agent_code_at}
use Rattle.psy_history.specs.Executors.{Acted, Carried, Reached, acted_as, machine_at}
use Rattle.psy_tree.specs.Parts.{agent_at}
use Rattle.psy_history.specs.Executors as fate
use Rattle.psy_history.specs.History.{executed}
use Rattle.psy_meaning.specs.Kept.{IsSentOf}
use Rattle.psy_meaning.specs.Timing.{MayStart, Timing, budget_at, deadline, end_date, first, following, later}
use Rattle.psy_history.specs.Regular.{IsRegular, MayAsk, MayStartAlike}
use Rattle.psy_history.specs.Openings.{MayCarry}
use Rattle.psy_history.specs.Runs.{GoesWell, IsRun, StandsWell}
use Rattle.psy_history.specs.Ways.{IsSentBy, SendsAtMost}
use Rattle.psy_meaning.specs.KnownWays.{Ways}
use Rattle.psy_history.proofs.AskedCalls.{deeds_of, sends_as, sent_asked_for}
use Rattle.psy_history.proofs.Deadlines.{deadline_least, due_late}
use Rattle.psy_history.proofs.Growth.{next_done}
use Rattle.psy_history.proofs.OneAction.{some_steps}
use Rattle.psy_history.proofs.SamePhases.{ComesAgain, end_alike, next_alike}
use Rattle.psy_history.proofs.Seeing.{LeavesFit}
use Rattle.psy_history.proofs.SendWeights.{SendsByWay}
use Rattle.psy_history.proofs.Starts.{done_of}
use Rattle.psy_history.proofs.Timings.{ComesLate, ends_late, granted, has_head}

-- What the laws say of the runs of code, and of clocks.
pub record AreRunLaws (code : Code) : Type 0 where
  pub lasted : (its : AgentCode) (s t : RunState) (n : ℕ) → IsOver (run_code code its s n) t → Lasted code its s n t
  pub ended : (its : AgentCode) (s t : RunState) (n point : ℕ) → run_code code its s n ≡ RanTo point t → StandsAt its point s.machine t.machine
  pub late : ComesLate
  pub again : ComesAgain

module _ (s : System) (ways : Ways) (code : Code) (laws : AreRunLaws code) (run : IsRun s ways code) (agent : ℕ) where
  abbrev decl : AgentDecl
  decl = agent_at s.unit agent

  abbrev times : Timing
  times = timing s agent

  abbrev its : AgentCode
  its = agent_code_at code agent

  -- The agent may go on so: in the phase of an action that may start, with what it may carry.
  pub record IsReady (n : Next) : Type 0 where
    pub less : agent < length s.unit.agents
    pub alike : MayStartAlike (timing s agent) n.point n.start
    pub carries : MayCarry s.unit code agent n.carried

  module _ (less : agent < length s.unit.agents) where
    pub of_unit : slice_get s.unit.agents agent ≡ Some decl
    of_unit = slice_get-get_or s.unit.agents agent _ less

    pub of_code : slice_get code.agents agent ≡ Some its
    of_code = slice_get-get_or code.agents agent _ (omega (arith, less, run.agents))

    -- Actions start at points of the agent.
    pub point_known : (point start : ℕ) → MayStart times point start → point < length decl.points
    point_known point start first = has_head s.unit agent decl times.nexts run.bare of_unit
    point_known point start (later from begun to may follows) = (run.points agent from point less follows).1

    pub goes : (point start : ℕ) → MayStartAlike times point start → (carried : Carried) (view : View) → MayCarry s.unit code agent carried → IsViewOf s.unit agent view → GoesWell s ways code agent point carried view
    goes point start alike carried view carries sees = run.runs agent point alike.met carried view less alike.may carries sees

    -- Some point follows.
    pub some_next : (point : ℕ) (carried : Carried) (view : View) → GoesWell s ways code agent point carried view → (to : ℕ) × Contains (following times point) to
    some_next point carried view well = (let on = well.stands 0 (omega arith) in (on.0, on.1))

  -- ---- an action

  module _ (n : Next) (ready : IsReady n) (view : View) (seen : ℕ → List Message) (sees : IsViewOf s.unit agent view) where
    abbrev budget : ℕ
    budget = budget_at times n.point

    abbrev begun : RunState
    begun = started (machine_at its n.point n.carried) view

    abbrev after : ℕ → Run
    after = run_code code its begun

    abbrev acted : Acted
    acted = s.executor.act agent n.point n.carried view budget

    abbrev r : Action
    r = executed s agent n view seen

    well : GoesWell s ways code agent n.point n.carried view
    well = goes ready.less n.point n.start ready.alike n.carried view ready.carries sees

    acts : acted ≡ acted_as budget n.carried (after budget)
    acts = ap (λ executor. executor.act agent n.point n.carried view budget) run.coded

    -- It costs something; where it reached a point, that one follows, no more was sent than on a way there, and what is carried may be.
    record Comes (a : Acted) : Type 0 where
      costs : 1 ≤ a.deeds.steps
      reached : (to : ℕ) → a.fate ≡ Reached to → Contains (following times n.point) to × SendsAtMost ways agent n.point to a.deeds.sends × MayCarry s.unit code agent a.carried

    costs_over : (t : RunState) → IsOver (after budget) t → 1 ≤ t.deeds.steps
    costs_over t over =
        let lasted = laws.lasted its begun t budget over in
        let some = some_steps code its begun t lasted.steps (subst (λ o. IsOver o t) (sym lasted.over) over) in
        omega (arith, some, lasted.counted)

    comes_by : (o : Run) → after budget ≡ o → StandsWell s ways code agent n.point o → Comes (acted_as budget n.carried o)
    comes_by (Running t) is stands = record { costs = omega arith; reached = λ to h. absurd cc }
    comes_by (RanTo point t) is stands = record {
      costs = costs_over t (subst (λ o. IsOver o t) (sym is) refl);
      reached = λ to h.
          let same : point ≡ to = cc in
          subst (λ p. Contains (following times n.point) p × SendsAtMost ways agent n.point p t.deeds.sends × MayCarry s.unit code agent (fate.carried_by t.machine)) same stands;
    }
    comes_by (TrappedBy kind t) is stands = record { costs = costs_over t (subst (λ o. IsOver o t) (sym is) refl); reached = λ to h. absurd cc }
    comes_by NoRun is stands = absurd stands

    comes : Comes acted
    comes = subst Comes (sym acts) (comes_by (after budget) refl (well.stands budget (omega arith)))

    -- Each of its sends an instruction asked for.
    pub sends : All (IsSentBy ways s.unit) r.deeds.sends
    sends = all_members (IsSentBy ways s.unit) acted.deeds.sends (λ sent c.
        let there : Contains (deeds_of (after budget)).sends sent = subst (λ xs. Contains xs sent) (ap (λ (a : Acted). a.deeds.sends) acts ∙ sends_as budget n.carried (after budget)) c in
        let asked = sent_asked_for code its budget begun refl sent there in
        subst (MayAsk ways s.unit agent n.point) asked.asks (well.asks asked.at asked.state asked.before asked.running))

    done : (p e : ℕ) → r.verdict ≡ Done p e → (acted.fate ≡ Reached p) × (e ≡ end_date times n.start p)
    done p e h = done_of times n.start budget (charge_of s agent n.number acted.deeds.steps) acted.fate p e h

    -- Where it reached a point, it sent no more than on a way there.
    pub by_way : SendsByWay ways agent r
    by_way p e h = (comes.reached p (done p e h).0).1

    pub leaves : LeavesFit s.unit r
    leaves = record {
      copies = λ p e h. (comes.reached p (done p e h).0).2.copies;
      sends = λ p e h. All-weaker (IsSentBy ways s.unit) (IsSentOf s.unit) (λ sent by. by.fits) acted.deeds.sends sends;
    }

    ends : (p e : ℕ) → r.verdict ≡ Done p e → Contains (following times n.point) p × (e ≡ end_date times n.start p) × (deadline times n.point n.start ≤ e)
    ends p e h =
        let (is, end) = done p e h in
        let c = (comes.reached p is).0 in
        (c, end, subst (λ d. deadline times n.point n.start ≤ d) (sym end) (deadline_least times n.point n.start p c))

    -- Both it and an action that may start last as long.
    alike : (to : ℕ) → Contains (following times n.point) to → end_date times n.start to + ready.alike.met ≡ end_date times ready.alike.met to + n.start
    alike to c =
        let inner = run.points agent n.point to ready.less c in
        end_alike laws.again times run.bare.clocks n.point n.start ready.alike to inner.0 inner.1

    pub regular : IsRegular s agent r
    regular =
        let (to, follows) = some_next ready.less n.point n.carried view well in
        let at = of_unit ready.less in
        record {
          agent_is = refl;
          known = ready.less;
          starts = ready.alike;
          alike = alike;
          budget = refl;
          deadline = refl;
          due = due_late times n.point n.start to follows (λ to c. let inner = run.points agent n.point to ready.less c in ends_late s.unit agent decl times.nexts run.bare at laws.late n.start to inner.0 inner.1);
          granted = granted s.unit agent decl times.nexts run.bare at n.point (point_known ready.less n.point ready.alike.met ready.alike.may);
          charged = omega (arith, comes.costs);
          ends = ends;
        }

    -- So the agent may go on behind it.
    pub goes_on : (m : Next) → next_by r.number r.after r.verdict ≡ Some m → IsReady m
    goes_on m h =
        let (is, number, carried) = next_done r.number r.after r.verdict m h in
        let (fate_is, end) = done m.point m.start is in
        let (follows, sent, carries) = comes.reached m.point fate_is in
        record {
          less = ready.less;
          alike = subst (MayStartAlike times m.point) (sym end) (next_alike times n.point n.start ready.alike m.point follows (alike m.point follows));
          carries = subst (MayCarry s.unit code agent) (sym carried) carries;
        }
