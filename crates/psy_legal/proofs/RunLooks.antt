-- What an action of a run looked at, an instruction on its way asked for; so it may be looked at.
use Rattle.std.proofs.Common.{◌≡◌, ℕ, ◌<◌, List, Some, refl, sym, ap, ◌∙◌, subst, inl, inr, arith}
use Rattle.std.specs.List.{Contains, AllPairs}
use Rattle.std.proofs.lemmas.Bool.{cases_lt}
use Rattle.std.proofs.lemmas.Option.{get_or_from_slice_get}
use Rattle.psy_meaning.proofs.lemmas.Running.{same_running}
use Rattle.psy_code.specs.declared.code.AgentCode.{AgentCode}
use Rattle.psy_code.specs.declared.code.Code.{Code}
use Rattle.psy_code.specs.Execution.{NoRun, RanTo, Run, RunState, Running, TrappedBy, call_of, run_code}
use Rattle.psy_code.specs.Lasting.{IsOver}
use Rattle.psy_code.specs.Views.{Looked}
use Rattle.psy_history.specs.Actions.{Action, System}
use Rattle.psy_meaning.specs.CodeWays.{agent_code_at}
use Rattle.psy_history.specs.Executors.{acted_as}
use Rattle.psy_history.specs.History.{action_of, history}
use Rattle.psy_history.specs.Regular.{IsLawful, MayAsk, Runs, begun_by}
use Rattle.psy_history.specs.Runs.{IsRun}
use Rattle.psy_meaning.specs.KnownWays.{Ways}
use Rattle.psy_legal.proofs.AskedCalls.{deeds_of, look_asked_for, look_call, looks_as, fresh_rises}
use Rattle.psy_legal.proofs.RunParts.{over_stays}
use Rattle.psy_legal.proofs.LooksOfCode.{looks_of}
use Rattle.psy_legal.proofs.StartedActions.{was_started}

looks_done : (run : Run) → (deeds_of run).looks ≡ looks_of run
looks_done (Running s) = refl
looks_done (RanTo point s) = refl
looks_done (TrappedBy kind s) = refl
looks_done NoRun = refl

-- The looks of the run of an action's code
abbrev pub looked : Code → AgentCode → Action → List Looked
looked code its r = looks_of (run_code code its (begun_by its r) r.budget)

-- A run that runs before its budget is spent isn't over yet.
pub before_end : (s : System) (ways : Ways) (code : Code) (r : Action) (runs : Runs s ways code r) (n : ℕ) (t : RunState) → run_code code runs.its (begun_by runs.its r) n ≡ Running t → n < r.budget → n < runs.steps
before_end s ways code r runs n t running less = elim runs.ends [
  | inl over ↦ elim (cases_lt n runs.steps) [
    | inl early ↦ early
    | inr late ↦ (
        let stays = over_stays code runs.its runs.steps n (begun_by runs.its r) runs.last late over in
        let not : IsOver (Running t) runs.last = subst (λ run. IsOver run runs.last) (sym stays ∙ running) over in
        absurd not)
  ]
  | inr spent ↦ omega (arith, less, spent.0)
]

module _ (s : System) (ways : Ways) (code : Code) (run : IsRun s ways code) (lawful : IsLawful s) (dates agent : ℕ) (r : Action) (there : Contains (history s dates agent) r) (runs : Runs s ways code r) where
  -- its looks are those of its code, within its budget
  pub looks_are : r.deeds.looks ≡ looked code runs.its r
  looks_are =
      let (before, was) = was_started s lawful dates agent r there in
      let n = was.next in
      let q : Action = action_of s (history s n.start) agent n in
      let its = agent_code_at code agent in
      let after : Run = run_code code its (begun_by its q) q.budget in
      let by_code : q.deeds.looks ≡ (acted_as q.budget q.before after).deeds.looks = ap (λ executor. (executor.act agent n.point n.carried q.view q.budget).deeds.looks) run.coded in
      let same : agent_code_at code r.agent ≡ runs.its = get_or_from_slice_get code.agents r.agent runs.its _ runs.of_code in
      subst (λ (x : Action). x.deeds.looks ≡ looked code (agent_code_at code x.agent) x) (sym was.made) (by_code ∙ looks_as q.budget q.before after ∙ looks_done after)
      ∙ ap (λ its. looked code its r) same

  pub may_look : (look : Looked) → Contains r.deeds.looks look → MayAsk ways s.unit r.agent r.point (Some (look_call look))
  may_look look c =
      let begun = begun_by runs.its r in
      let after : Run = run_code code runs.its begun r.budget in
      let on = look_asked_for code runs.its r.budget begun refl look (subst (λ looks. Contains looks look) (looks_are ∙ sym (looks_done after)) c) in
      let goes = runs.on_the_way on.at (before_end s ways code r runs on.at on.state on.running on.before) in
      let same = same_running goes.state on.state (sym goes.running ∙ on.running) in
      subst (MayAsk ways s.unit r.agent r.point) (ap (λ (t : RunState). call_of code t.machine) same ∙ on.asks) goes.asks

  -- And its looks rise.
  pub looks_rise : AllPairs (λ (l m : Looked). l.number < m.number) r.deeds.looks
  looks_rise = subst (AllPairs (λ (l m : Looked). l.number < m.number)) (sym (looks_are ∙ sym (looks_done (run_code code runs.its (begun_by runs.its r) r.budget))))
      (fresh_rises code runs.its r.budget (begun_by runs.its r) refl).pairs
