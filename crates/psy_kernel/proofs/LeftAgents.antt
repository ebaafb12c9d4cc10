-- What a run leaves of an agent at a quiet date: where it waits, is silent, or starts an action there.
use Rattle.std.proofs.Common.{◌≡◌, ℕ, suc, ◌<◌, true, false, nat_le, nat_lt, if◌then◌else◌, List, [], ◌∷◌, map, length, get_or, slice_get, pos, Option, Some, None, ℤ, refl, sym, ap, subst, ◌∙◌, inl, inr, arith}
use Rattle.std.proofs.lemmas.Bool.{cond-false, cond-true, le-ltb, lt-leb, lt-ltb, true≢false}
use Rattle.std.proofs.lemmas.Option.{get_or_from_slice_get, slice_get_within}
use Rattle.psy_budget.specs.declared.charge.Stall.{Stall}
use Rattle.psy_code.specs.declared.code.AgentCode.{AgentCode}
use Rattle.psy_code.specs.declared.code.CopyInit.{CopyInit}
use Rattle.psy_code.specs.Execution.{Copy, Machine, RunState, copy_of}
use Rattle.psy_tree.specs.declared.unit.VarDecl.{VarDecl}
use Rattle.psy_tree.specs.Parts.{no_variable, variable_at}
use Rattle.psy_history.specs.Actions.{Action, Next, Opening, System, Verdict, Done, Trapped, Overran, is_silent, next_by, next_of, rests, variable_of}
use Rattle.psy_history.specs.Executors.{Carried, copy_in}
use Rattle.psy_history.specs.History.{history}
use Rattle.psy_history.specs.Openings.{IsSound}
use Rattle.psy_history.specs.Regular.{begun_by}
use Rattle.psy_history.specs.Resuming.{committed_at}
use Rattle.psy_history.specs.Schedule.{Turn, is_pending, units}
use Rattle.psy_history.specs.Summary.{due_by}
use Rattle.psy_history.specs.Visible.{committed_in}
use Rattle.psy_meaning.proofs.lemmas.Running.{same_running}
use Rattle.psy_meaning.specs.Alike.{first_copies}
use Rattle.psy_meaning.specs.CodeWays.{agent_code_at}
use Rattle.psy_meaning.specs.KnownWays.{Listed}
use Rattle.psy_meaning.specs.States.{value_or_zero}
use Rattle.psy_dates.specs.Beginnings.{carried_with, committed_by, is_silent_by, next_at, starts_by, with_values}
use Rattle.psy_dates.specs.declared.opening.Begun.{Begun}
use Rattle.psy_dates.specs.declared.opening.NextAction.{NextAction}
use Rattle.psy_dates.specs.declared.plan.Plan.{Plan}
use Rattle.psy_dates.specs.declared.seat.Seat.{Seat}
use Rattle.psy_dates.specs.Plans.{IsPlan, opened_of}
use Rattle.psy_dates.proofs.lemmas.OwnCopies.{own_owned}
use Rattle.psy_kernel.specs.declared.engine.Runner.{Runner}
use Rattle.psy_kernel.specs.Freezing.{BeginWithFirst, action_left, begun_left, copies_left}
use Rattle.psy_kernel.specs.Freezing as left
use Rattle.psy_kernel.specs.Standing.{AgentStands, IsRunning, MachineIn, MachineStands, charge_after}
use Rattle.psy_kernel.specs.Starting.{is_acting}
use Rattle.psy_kernel.proofs.CarriedOn.{Carries, committed_before, first_value, next_value}
use Rattle.psy_kernel.proofs.LeftCopies.{copy_found, copy_owned, owned_copy_in, same_map, valued, valued_are, valued_at, with_values_is}
use Rattle.psy_kernel.proofs.UnderWay.{Begins, IsAgentAt, Rests, Stands, Waits, action, due_later, first_late, grows, none_had, pending}

module _ (plan : Plan) (is : IsPlan plan) (opening : Opening) (inputs : List (List ℤ)) (stalls : ℕ → List Stall) (sound : IsSound (opened_of plan opening inputs stalls) (Listed is.ways) plan.code)
    (date agent : ℕ) (turns : List (Option Turn)) (at : IsAgentAt (opened_of plan opening inputs stalls) date agent turns) where
  abbrev s : System
  s = opened_of plan opening inputs stalls

  abbrev its : AgentCode
  its = agent_code_at plan.code agent

  abbrev old : List Action
  old = history s date agent

  abbrev now : List Action
  now = history s (suc date) agent

  -- ---- its figure

  -- No action that starts at the date is due by it.
  pub due_old : due_by date now ≡ due_by date old
  due_old = elim (grows s date agent turns at) [
    | inl same ↦ ap (due_by date) same
    | inr (n, starts) ↦ (
        let r = action s date agent turns at n starts in
        let later = due_later s date agent turns at n starts in
        ap (due_by date) starts.grew ∙ cond-false (nat_le r.deadline date) (r ∷ due_by date old) (due_by date old) (lt-leb r.deadline date later))
  ]

  -- ---- its machine

  module _ (seat : Seat) where
    abbrev Stood : Type 0
    Stood = Stands s date agent turns at seat

    -- The machine of an action that has just started has the cells that the agent carries into it.
    pub begins_cells : (until : ℕ) (runner : Runner) (waits : Option ℕ) → AgentStands s plan.code turns until agent now runner waits → (b : Begins s date agent turns at seat)
        → runner.machine.machine.home.cells ≡ b.next.carried.cells
    begins_cells until runner waits stands b =
        let r = action s date agent turns at b.next b.starts in
        let machine = runner.machine in
        let here : MachineIn s plan.code turns r (is_pending turns r) machine = subst (λ rs. MachineStands s plan.code turns agent rs machine) b.starts.grew stands.executes in
        let runs : IsRunning plan.code r (charge_after s r (units agent r.number turns)).paid machine = subst (λ b. MachineIn s plan.code turns r b machine) (pending s date agent turns at b.next b.starts) here in
        let begun : IsRunning plan.code r (charge_after s r 0).paid machine = subst (λ n. IsRunning plan.code r (charge_after s r n).paid machine) (none_had s date agent turns at b.next b.starts) runs in
        let same : begun_by its r ≡ begun.0 = same_running (begun_by its r) begun.0 begun.1 in
        ap (λ (m : Machine). m.home.cells) (sym begun.2) ∙ sym (ap (λ (t : RunState). t.machine.home.cells) same)

    waits_idle : Waits s date agent turns at seat → is_acting seat.phase ≡ false
    waits_idle w = ap is_acting w.waiting

    rests_idle : Rests s date agent turns at seat → is_acting seat.phase ≡ false
    rests_idle w = ap is_acting w.rested

    -- So it has as many cells as the code where the agent acts.
    pub cells_fit : (until : ℕ) (runner : Runner) (waits : Option ℕ) → AgentStands s plan.code turns until agent now runner waits → ((n : Next) → next_of s agent old ≡ Some n → Carries plan is opening inputs stalls agent n.carried)
        → Stood → is_acting seat.phase ≡ true → length runner.machine.machine.home.cells ≡ length its.cells
    cells_fit until runner waits stands carry stood acts = elim stood [
      | inl w ↦ absurd (true≢false (sym acts ∙ waits_idle w))
      | inr (inl r) ↦ absurd (true≢false (sym acts ∙ rests_idle r))
      | inr (inr b) ↦ ap length (begins_cells until runner waits stands b) ∙ Carries.cells (carry b.next b.starts.is_next)
    ]

    -- ---- what is left of it

    module _ (committed : List ℤ) (cells : List ℤ) where
      abbrev copies : List ℤ
      copies = copies_left its.copies committed

      abbrev begun : Option Begun
      begun = begun_left its.copies committed seat cells

      abbrev some : Option NextAction → Begun
      some started = record { copies = copies; action = started }

      abbrev acting : NextAction
      acting = record { number = seat.number; point = seat.point; cells = cells }

      waits_begun : Waits s date agent turns at seat → begun ≡ None
      waits_begun w = ap (λ p. left.begun_by p (some (action_left seat cells))) w.waiting

      rests_begun : Rests s date agent turns at seat → begun ≡ Some (some None)
      rests_begun w = ap (λ p. left.begun_by p (some (action_left seat cells))) w.rested ∙ ap (λ b. Some (some (if b then Some acting else None))) (rests_idle w)

      begins_begun : Begins s date agent turns at seat → begun ≡ Some (some (Some acting))
      begins_begun w = ap (λ p. left.begun_by p (some (action_left seat cells))) w.acting ∙ ap (λ b. Some (some (if b then Some acting else None))) (ap is_acting w.acting)

      -- It is silent where the history says so.
      done_rests : (n : Next) (r : Action) (before : List Action) (v : Verdict) → r.verdict ≡ v → next_by r.number r.after v ≡ Some n → is_silent date (r ∷ before) ≡ false
      done_rests n r before (Done point end) d e = rw d refl
      done_rests n r before (Trapped kind) d e = absurd (cc)
      done_rests n r before Overran d e = absurd (cc)

      next_rests : (n : Next) (rs : List Action) → next_of s agent rs ≡ Some n → rests (opening.silent agent) date rs ≡ false
      next_rests n [] e = (sound.known agent n e).1
      next_rests n (r ∷ before) e = done_rests n r before r.verdict refl e

      pub silent_left : Stood → is_silent_by begun ≡ rests (opening.silent agent) date old
      silent_left stood = elim stood [
        | inl w ↦ ap is_silent_by (waits_begun w) ∙ sym (ap (rests (opening.silent agent) date) w.none_old ∙ w.talks)
        | inr (inl r) ↦ ap is_silent_by (rests_begun r) ∙ sym r.quiet
        | inr (inr b) ↦ ap is_silent_by (begins_begun b) ∙ sym (next_rests b.next old b.starts.is_next)
      ]

      -- ---- the one state of it

      module _ (less : agent < length plan.unit.agents)
          (values : (variable : ℕ) → variable < length plan.unit.variables → (variable_of s variable).owner ≡ Some agent → get_or committed variable (pos 0) ≡ committed_in s variable date now) where
        -- the values that the history committed by the date
        abbrev copies_then : List ℤ
        copies_then = map (λ (c : CopyInit). committed_at s date c.variable (variable_of s c.variable).owner) its.copies

        copies_same : copies ≡ copies_then
        copies_same = same_map (λ (c : CopyInit). get_or committed c.variable (pos 0)) (λ (c : CopyInit). committed_at s date c.variable (variable_of s c.variable).owner) its.copies (λ place c there.
            let variables = plan.unit.variables in
            let own = own_owned agent variables its.copies (is.fits.parts.each agent less).copies place c there in
            let owned : (variable_of s c.variable).owner ≡ Some agent =
            ap (λ (v : VarDecl). v.owner) (get_or_from_slice_get variables c.variable own.0 no_variable own.1) ∙ own.2 in
            values c.variable (slice_get_within variables c.variable own.0 own.1) owned
            ∙ committed_before plan is opening inputs stalls sound date agent c.variable owned turns at
            ∙ sym (ap (committed_at s date c.variable) owned))

        abbrev then_with : Option NextAction → Begun
        then_with started = record { copies = copies_then; action = started }

        some_same : (started : Option NextAction) → some started ≡ then_with started
        some_same started = ap (λ cs. record { copies = cs; action = started }) copies_same

        acting_same : (b : Begins s date agent turns at seat) → cells ≡ b.next.carried.cells → acting ≡ left.action_of b.next
        acting_same b same = λ i. record { number = b.number i; point = b.point i; cells = same i }

        waits_with : (n : Next) → s.opening.starts agent ≡ Some n → now ≡ [] → left.begun_with (suc date) copies_then (Some n) ≡ None
        waits_with n first none =
            cond-false (nat_lt n.start (suc date)) (Some (then_with (Some (left.action_of n)))) None (le-ltb n.start (suc date) (first_late s agent n first (suc date) none))

        begins_with : (n : Next) → n.start ≡ date → left.begun_with (suc date) copies_then (Some n) ≡ Some (then_with (Some (left.action_of n)))
        begins_with n start =
            cond-true (nat_lt n.start (suc date)) (Some (then_with (Some (left.action_of n)))) None (lt-ltb n.start (suc date) (omega (arith, start)))

        -- The one state of what the history leaves has the same of it.
        pub begun_same : ((b : Begins s date agent turns at seat) → cells ≡ b.next.carried.cells) → Stood
            → begun ≡ left.begun_of (suc date) copies_then (rests (opening.silent agent) date old) (next_of s agent old)
        begun_same same stood = elim stood [
          | inl w ↦ (
              let first = at.opens.waits agent less w.talks w.none_now in
              waits_begun w
              ∙ sym (ap (λ b. left.begun_of (suc date) copies_then b (next_of s agent old)) (ap (rests (opening.silent agent) date) w.none_old ∙ w.talks)
              ∙ ap (left.begun_with (suc date) copies_then) (ap (next_of s agent) w.none_old ∙ first) ∙ waits_with _ first w.none_now))
          | inr (inl r) ↦ rests_begun r ∙ ap Some (some_same None) ∙ sym (ap (λ b. left.begun_of (suc date) copies_then b (next_of s agent old)) r.quiet)
          | inr (inr b) ↦
              begins_begun b ∙ ap Some (some_same (Some acting)) ∙ ap (λ a. Some (then_with (Some a))) (acting_same b (same b))
              ∙ sym (ap (λ b. left.begun_of (suc date) copies_then b (next_of s agent old)) (next_rests b.next old b.starts.is_next)
              ∙ ap (left.begun_with (suc date) copies_then) b.starts.is_next ∙ begins_with b.next b.starts.at_date)
        ]

      -- ---- its variables

      module _ (less : agent < length plan.unit.agents) (first : BeginWithFirst plan)
          (values : (variable : ℕ) → variable < length plan.unit.variables → (variable_of s variable).owner ≡ Some agent → get_or committed variable (pos 0) ≡ committed_in s variable date now) where
        abbrev firsts : List Copy
        firsts = first_copies plan.unit agent

        -- the value of a variable that was committed last
        abbrev value : ℕ → ℤ
        value variable = get_or committed variable (pos 0)

        copies_are : with_values firsts copies ≡ valued value firsts
        copies_are = with_values_is value firsts its.copies (is.fits.parts.each agent less).copies

        variable_found : (variable : ℕ) (v : VarDecl) → slice_get plan.unit.variables variable ≡ Some v → variable_at plan.unit variable ≡ v
        variable_found variable v there = get_or_from_slice_get plan.unit.variables variable v no_variable there

        value_old : (variable : ℕ) → variable < length plan.unit.variables → (owned : (variable_of s variable).owner ≡ Some agent) → value variable ≡ committed_in s variable date old
        value_old variable known owned = values variable known owned ∙ committed_before plan is opening inputs stalls sound date agent variable owned turns at

        value_next : (b : Begins s date agent turns at seat) → Carries plan is opening inputs stalls agent b.next.carried → (place : ℕ) (c : Copy) → slice_get b.next.carried.copies place ≡ Some c → c.value ≡ value c.variable
        value_next b carries place c there =
            let variables = plan.unit.variables in
            let own = copy_owned agent variables b.next.carried.copies carries.copies place c there in
            let owned : (variable_of s c.variable).owner ≡ Some agent = ap (λ (v : VarDecl). v.owner) (variable_found c.variable own.0 own.1) ∙ own.2 in
            let found : copy_of c.variable b.next.carried.copies ≡ Some c.value = copy_found agent variables b.next.carried.copies carries.copies place c there in
            sym (value_old c.variable (slice_get_within variables c.variable own.0 own.1) owned
            ∙ next_value plan is opening inputs stalls sound date agent c.variable owned first b.next b.starts.at_date old b.starts.is_next
            ∙ ap value_or_zero found)

        carried_is : (b : Begins s date agent turns at seat) → Carries plan is opening inputs stalls agent b.next.carried → cells ≡ b.next.carried.cells → carried_with plan agent cells copies ≡ b.next.carried
        carried_is b carries same =
            let its_copies : with_values firsts copies ≡ b.next.carried.copies = copies_are ∙ valued_are value firsts b.next.carried.copies carries.copies (value_next b carries) in
            let both : ◌≡◌ {A = Carried} (record { cells = cells; copies = with_values firsts copies }) (record { cells = b.next.carried.cells; copies = b.next.carried.copies }) =
            ap (λ cs. record { cells = cs; copies = with_values firsts copies }) same ∙ ap (λ cs. record { cells = b.next.carried.cells; copies = cs }) its_copies in
            both

        next_is : (b : Begins s date agent turns at seat) → Carries plan is opening inputs stalls agent b.next.carried → cells ≡ b.next.carried.cells → next_at plan date agent copies acting ≡ b.next
        next_is b carries same =
            let n = b.next in
            let carried = carried_with plan agent cells copies in
            ap (λ number. record { number = number; point = seat.point; start = date; carried = carried }) b.number
            ∙ ap (λ point. record { number = n.number; point = point; start = date; carried = carried }) b.point
            ∙ ap (λ start. record { number = n.number; point = n.point; start = start; carried = carried }) (sym b.starts.at_date)
            ∙ ap (λ c. record { number = n.number; point = n.point; start = n.start; carried = c }) (carried_is b carries same)

        -- It starts again as the history goes on.
        pub starts_left : ((b : Begins s date agent turns at seat) → cells ≡ b.next.carried.cells) → ((n : Next) → next_of s agent old ≡ Some n → Carries plan is opening inputs stalls agent n.carried)
            → Stood → starts_by plan date agent begun ≡ next_of s agent old
        starts_left same carry stood = elim stood [
          | inl w ↦ ap (starts_by plan date agent) (waits_begun w) ∙ sym (ap (next_of s agent) w.none_old ∙ at.opens.waits agent less w.talks w.none_now)
          | inr (inl r) ↦ ap (starts_by plan date agent) (rests_begun r) ∙ sym r.ends
          | inr (inr b) ↦ ap (starts_by plan date agent) (begins_begun b) ∙ ap Some (next_is b (carry b.next b.starts.is_next) (same b)) ∙ sym b.starts.is_next
        ]

        -- The variables that it owns are committed as the history says.
        module _ (variable : ℕ) (v : VarDecl) (there : slice_get plan.unit.variables variable ≡ Some v) (owner : v.owner ≡ Some agent) where
          owned : (variable_of s variable).owner ≡ Some agent
          owned = ap (λ (x : VarDecl). x.owner) (variable_found variable v there) ∙ owner

          held : copy_in (carried_with plan agent [] copies) variable ≡ committed_in s variable date old
          held =
              let own = owned_copy_in agent plan.unit.variables firsts refl variable v there owner in
              let found : copy_of variable (valued value firsts) ≡ Some (value variable) =
              subst (λ n. copy_of n (valued value firsts) ≡ Some (value n)) own.3 (valued_at value firsts own.0 own.1 own.2) in
              ap (λ cs. value_or_zero (copy_of variable cs)) copies_are ∙ ap value_or_zero found ∙ value_old variable (slice_get_within plan.unit.variables variable v there) owned

          pub committed_left : Stood → committed_by plan agent variable begun ≡ committed_in s variable date old
          committed_left stood = elim stood [
            | inl w ↦ ap (committed_by plan agent variable) (waits_begun w)
                ∙ sym (first_value plan is opening inputs stalls sound date agent variable owned first at.opens less w.talks w.none_now)
                ∙ sym (ap (committed_in s variable date) w.none_old)
            | inr (inl r) ↦ ap (committed_by plan agent variable) (rests_begun r) ∙ held
            | inr (inr b) ↦ ap (committed_by plan agent variable) (begins_begun b) ∙ held
          ]
