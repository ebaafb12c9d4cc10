-- What an agent carries into its next action: as many cells as its code has, and a copy of each variable that it owns, with the value committed last.
use Rattle.std.proofs.Common.{◌≡◌, ℕ, suc, ◌+◌, ◌<◌, Bool, true, false, nat_lt, nat_le, if◌then◌else◌, List, [], ◌∷◌, length, Option, Some, ℤ, refl, sym, ap, subst, ◌∙◌, inl, inr, arith}
use Rattle.std.proofs.lemmas.Bool.{cond-false, cond-true, le-leb, lt-leb}
use Rattle.psy_budget.specs.declared.charge.Stall.{Stall}
use Rattle.psy_code.specs.declared.code.AgentCode.{AgentCode}
use Rattle.psy_code.specs.declared.code.Code.{Code}
use Rattle.psy_code.specs.Execution.{Run, RunState, Running, RanTo, TrappedBy, NoRun, run_code}
use Rattle.psy_code.specs.Lasting.{StandsAt}
use Rattle.psy_code.specs.Views.{View}
use Rattle.psy_history.specs.Actions.{Action, History, Next, Opening, System, Verdict, Done, Trapped, Overran, charge_of, next_by, next_of, timing, variable_of, verdict_by}
use Rattle.psy_history.specs.Executors.{Acted, Carried, Fate, Reached, Unfinished, acted_as, carried_by, copy_in, machine_at}
use Rattle.psy_history.specs.Executors as fate
use Rattle.psy_history.specs.History.{action_of, history}
use Rattle.psy_history.specs.Openings.{IsSound}
use Rattle.psy_history.specs.Regular.{IsRegular, WereStarted}
use Rattle.psy_history.specs.Schedule.{Turn}
use Rattle.psy_history.specs.Visible.{commit, committed_in, seen_at, view_of}
use Rattle.psy_meaning.specs.Alike.{first_copies, started}
use Rattle.psy_meaning.specs.CodeWays.{agent_code_at}
use Rattle.psy_meaning.specs.KnownWays.{Listed}
use Rattle.psy_meaning.specs.Timing.{Timing, budget_at}
use Rattle.psy_dates.specs.declared.plan.Plan.{Plan}
use Rattle.psy_dates.specs.Plans.{IsPlan, opened_of}
use Rattle.psy_dates.proofs.lemmas.Begun.{AreBegun}
use Rattle.psy_kernel.specs.Freezing.{BeginWithFirst}
use Rattle.psy_kernel.proofs.LeftCopies.{names_of}
use Rattle.psy_kernel.proofs.UnderWay.{IsAgentAt, action, due_later, grows, regular}

-- A run that ends stands at its point, with as many cells and with copies of the same variables.
abbrev pub EndStanding : Type 0
EndStanding = (code : Code) (agent : AgentCode) (s t : RunState) (n point : ℕ) → run_code code agent s n ≡ RanTo point t → StandsAt agent point s.machine t.machine

-- An action that is done reached its point.
reached_by : (t : Timing) (start : ℕ) (b : Bool) (f : Fate) (point end : ℕ) → (if b then Overran else verdict_by t start f) ≡ Done point end → f ≡ Reached point
reached_by t start true f point end e = absurd (cc)
reached_by t start false (Reached to) point end e = (let same : to ≡ point = cc in ap Reached same)
reached_by t start false (fate.Trapped kind) point end e = absurd (cc)
reached_by t start false Unfinished point end e = absurd (cc)

module _ (plan : Plan) (is : IsPlan plan) (opening : Opening) (inputs : List (List ℤ)) (stalls : ℕ → List Stall) where
  abbrev s : System
  s = opened_of plan opening inputs stalls

  abbrev its : ℕ → AgentCode
  its agent = agent_code_at plan.code agent

  pub record Carries (agent : ℕ) (carried : Carried) : Type 0 where
    pub cells : length carried.cells ≡ length (its agent).cells
    pub copies : names_of carried.copies ≡ names_of (first_copies plan.unit agent)

  module _ (sound : IsSound s (Listed is.ways) plan.code) where
    -- ---- an action carries on

    module _ (ended : EndStanding) where
      carries_by : (agent : ℕ) (state : RunState) (budget : ℕ) (before : Carried) (run : Run) → run_code plan.code (its agent) state budget ≡ run → (point : ℕ) → (acted_as budget before run).fate ≡ Reached point
          → Carries agent (carried_by state.machine) → Carries agent (acted_as budget before run).carried
      carries_by agent state budget before (RanTo to t) e point f h =
          let at = ended plan.code (its agent) state t budget to e in
          record { cells = at.cells ∙ h.cells; copies = at.copies ∙ h.copies }
      carries_by agent state budget before (TrappedBy kind t) e point f h = absurd (cc)
      carries_by agent state budget before (Running t) e point f h = absurd (cc)
      carries_by agent state budget before NoRun e point f h = absurd (cc)

      after_carries : (h : History) (agent : ℕ) (n : Next) (point end : ℕ) → (action_of s h agent n).verdict ≡ Done point end → Carries agent n.carried → Carries agent (action_of s h agent n).after
      after_carries h agent n point end e carries =
          let view : View = view_of s h agent n.start (seen_at s h n.start) in
          let budget : ℕ = budget_at (timing s agent) n.point in
          let state : RunState = started (machine_at (its agent) n.point n.carried) view in
          let run : Run = run_code plan.code (its agent) state budget in
          let acted : Acted = acted_as budget n.carried run in
          let reached = reached_by (timing s agent) n.start (nat_lt budget (charge_of s agent n.number acted.deeds.steps)) acted.fate point end e in
          carries_by agent state budget n.carried run refl point reached (record { cells = carries.cells; copies = carries.copies })

      next_later : (agent : ℕ) (h : History) (m n : Next) (r : Action) → r ≡ action_of s h agent m → Carries agent m.carried → (v : Verdict) → r.verdict ≡ v → next_by r.number r.after v ≡ Some n → Carries agent n.carried
      next_later agent h m n r made carries (Done point end) d e =
          let next : record { number = r.number + 1; point = point; start = end; carried = r.after } ≡ n = cc in
          let ends : (action_of s h agent m).verdict ≡ Done point end = sym (ap (λ (q : Action). q.verdict) made) ∙ d in
          subst (Carries agent) (sym (ap (λ (q : Action). q.after) made) ∙ ap (λ (k : Next). k.carried) next) (after_carries h agent m point end ends carries)
      next_later agent h m n r made carries (Trapped kind) d e = absurd (cc)
      next_later agent h m n r made carries Overran d e = absurd (cc)

      -- So each agent's next action begins with what it may carry.
      pub next_carries : (dates agent : ℕ) (rs : List Action) → WereStarted s dates agent rs → (n : Next) → next_of s agent rs ≡ Some n → Carries agent n.carried
      next_carries dates agent [] w n e = (let may = sound.carries agent n e in record { cells = may.cells; copies = may.variables })
      next_carries dates agent (r ∷ before) w n e =
          next_later agent (history s w.0.next.start) w.0.next n r w.0.made (next_carries dates agent before w.1 w.0.next w.0.is_next) r.verdict refl e

    -- ---- what was committed last

    module _ (date agent variable : ℕ) (owned : (variable_of s variable).owner ≡ Some agent) where
      -- an action that starts at the date commits later,
      uncommitted : (carried : Carried) (earlier : ℤ) (v : Verdict) → ((point end : ℕ) → v ≡ Done point end → date < end) → commit variable date carried earlier v ≡ earlier
      uncommitted carried earlier (Done point end) late = cond-false (nat_le end date) (copy_in carried variable) earlier (lt-leb end date (late point end refl))
      uncommitted carried earlier (Trapped kind) late = refl
      uncommitted carried earlier Overran late = refl

      pub committed_before : (turns : List (Option Turn)) → IsAgentAt s date agent turns → committed_in s variable date (history s (suc date) agent) ≡ committed_in s variable date (history s date agent)
      committed_before turns at = elim (grows s date agent turns at) [
        | inl same ↦ ap (committed_in s variable date) same
        | inr (n, starts) ↦ (
            let r = action s date agent turns at n starts in
            let late : (point end : ℕ) → r.verdict ≡ Done point end → date < end = λ point end e.
            (let ends = (IsRegular.ends (regular s date agent turns at n starts) point end e).2 in omega (arith, ends, due_later s date agent turns at n starts)) in
            ap (committed_in s variable date) starts.grew ∙ uncommitted r.after (committed_in s variable date (history s date agent)) r.verdict late)
      ]

      -- and one that begins there carries what was committed by it.
      module _ (first : BeginWithFirst plan) where
        next_value_by : (r : Action) (n : Next) (earlier : ℤ) (v : Verdict) → next_by r.number r.after v ≡ Some n → n.start ≡ date → commit variable date r.after earlier v ≡ copy_in n.carried variable
        next_value_by r n earlier (Done point end) e at =
            let next : record { number = r.number + 1; point = point; start = end; carried = r.after } ≡ n = cc in
            let ends : end ≡ n.start = ap (λ (k : Next). k.start) next in
            cond-true (nat_le end date) (copy_in r.after variable) earlier (le-leb end date (omega (arith, ends, at))) ∙ ap (λ (k : Next). copy_in k.carried variable) next
        next_value_by r n earlier (Trapped kind) e at = absurd (cc)
        next_value_by r n earlier Overran e at = absurd (cc)

        pub next_value : (n : Next) → n.start ≡ date → (rs : List Action) → next_of s agent rs ≡ Some n → committed_in s variable date rs ≡ copy_in n.carried variable
        next_value n at [] e = elim (sound.places agent n e) [
          | inl begun ↦ begun.committed variable owned
          | inr waits ↦ waits.committed variable owned ∙ sym (first agent variable owned) ∙ sym (ap (λ (k : Next). copy_in k.carried variable) waits.first)
        ]
        next_value n at (r ∷ before) e = next_value_by r n (committed_in s variable date before) r.verdict e at

        -- An agent that waits has committed the first value.
        pub first_value : AreBegun s (suc date) → agent < length plan.unit.agents → opening.silent agent ≡ false → history s (suc date) agent ≡ [] → opening.committed variable ≡ (variable_of s variable).init
        first_value opens less talks none = elim (sound.places agent _ (opens.waits agent less talks none)) [
          | inl begun ↦ begun.committed variable owned ∙ first agent variable owned
          | inr waits ↦ waits.committed variable owned
        ]
