-- Over all dates, the figures, the reaches and what was held are those of the history, so their lines are the summary's.
use Rattle.std.proofs.Common.{◌≡◌, ℕ, suc, ◌+◌, ◌*◌, ◌<◌, ◌≤◌, List, [], ◌∷◌, ◌++◌, map, length, get_or, slice_get, Option, Some, None, refl, sym, ap, subst, ◌∙◌, arith}
use Rattle.std.specs.List.{Contains, range_with_len}
use Rattle.std.proofs.Math.Numerals.{add-one}
use Rattle.std.proofs.lemmas.List.FromFn.{fill_by_all, length-map-range_with_len, get_or-map-range_with_len}
use Rattle.std.proofs.lemmas.Option.{slice_get-get_or}
use Rattle.psy_lists.proofs.lemmas.Places.{there}
use Rattle.psy_log.specs.Forms.{agent_line, end_line, stream_line, variable_line}
use Rattle.psy_history.specs.Actions.{Action, System, stream_of, variable_of}
use Rattle.psy_tree.specs.Parts.{agent_at}
use Rattle.psy_history.specs.History.{history}
use Rattle.psy_history.specs.Schedule.{Turn}
use Rattle.psy_history.specs.Summary.{due_by, due_count, least_slack, most_held, reach}
use Rattle.psy_history.specs.Regular.{IsLawful}
use Rattle.psy_history.specs.Processors.{processor_at, processors}
use Rattle.psy_history.specs.Scheduled.{IsFinished, IsSupplied, turns_by, turns_of}
use Rattle.psy_dates.specs.Standing.{dates_done}
use Rattle.psy_kernel.specs.declared.engine.Engine.TheInside.{Inside}
use Rattle.psy_kernel.specs.declared.engine.Runner.{Runner}
use Rattle.psy_kernel.specs.Engines.{summary_on}
use Rattle.psy_kernel.specs.Standing.{InTick, EngineStands, most_held_in, settled, state_of}
use Rattle.psy_kernel.specs.Telling.{figure_in, figure_line, figured_lines, held_line, reach_line}
use Rattle.psy_kernel.specs.Texts.{agent_end, stream_end, variable_end}
use Rattle.psy_kernel.proofs.DatesDue.{SameReach}
use Rattle.psy_kernel.proofs.Engines.{cycles_is, order_in, run_in, server_there, turns_in}
use Rattle.psy_kernel.proofs.Settled.{date_settled, settled_all}
use Rattle.psy_kernel.proofs.Supplied.{supplied}

-- ---- lists

same_map : (f g : ℕ → List ℕ) (n : ℕ) → ((i : ℕ) → i < n → f i ≡ g i) → map f (range_with_len 0 n) ≡ map g (range_with_len 0 n)
same_map f g n same =
    fill_by_all g (map f (range_with_len 0 n)) n [] (length-map-range_with_len f 0 n) (λ i l. get_or-map-range_with_len f 0 n i i [] l (omega arith) ∙ same i l)

-- ---- the end

module _ (k : Inside) (w : EngineStands k) (done : dates_done k.shared.date ≡ k.plan.until + 1) (home : (agent : ℕ) → processor_at k.plan.unit agent < processors k.plan.unit) where
  abbrev s : System
  s = run_in k

  abbrev until : ℕ
  until = k.plan.until

  abbrev turns : ℕ → List (Option Turn)
  turns agent = turns_by s (order_in k) (until * s.unit.quantum) agent

  -- each processor did all its cycles
  pub all_turns : (agent : ℕ) → turns_in k agent ≡ turns agent
  all_turns agent =
      let processor = processor_at k.plan.unit agent in
      let server = server_there k.servers.items processor (omega (arith, home agent, w.served)) in
      let last : dates_done k.shared.date ≡ suc until = done ∙ omega arith in
      let tick : InTick k.plan.unit.quantum until (suc until) server.0.cycles = subst (λ n. InTick k.plan.unit.quantum until n server.0.cycles) last (w.servers processor server.0 server.1).in_tick in
      ap (λ c. turns_of s (order_in k) c processor) (cycles_is k.servers.items processor server.0 server.1 ∙ tick.3 refl)

  -- ---- variables

  pub reach_told : SameReach → (variable : ℕ) → variable < length s.unit.variables → get_or k.reaches.items variable None ≡ reach s turns (history s (until + 1)) variable
  reach_told same variable l =
      w.reached variable (get_or k.reaches.items variable None) (slice_get-get_or k.reaches.items variable None (omega (arith, l, w.reaching)))
      ∙ same s (turns_in k) turns (history s (dates_done k.shared.date)) variable all_turns
      ∙ ap (λ n. reach s turns (history s n) variable) done

  variable_told : SameReach → (variable : ℕ) → variable < length s.unit.variables → reach_line k.plan k.reaches.items variable ≡ variable_end s turns k.plan.sizes until variable
  variable_told same variable l = ap (variable_line (variable_of s variable).name (get_or k.plan.sizes.rings variable 0)) (reach_told same variable l)

  -- ---- streams

  pub held_told : (stream : ℕ) → stream < length s.unit.streams → get_or k.helds.items stream 0 ≡ most_held s until stream
  held_told stream l =
      w.held stream (get_or k.helds.items stream 0) (slice_get-get_or k.helds.items stream 0 (omega (arith, l, w.holding)))
      ∙ ap (λ n. most_held_in s n stream) (done ∙ add-one until)

  stream_told : (stream : ℕ) → stream < length s.unit.streams → held_line k.plan k.helds.items stream ≡ stream_end s k.plan.sizes until stream
  stream_told stream l = ap (stream_line (stream_of s stream).name (get_or k.plan.sizes.queues stream 0)) (held_told stream l)

  -- ---- agents

  module _ (lawful : IsLawful s)
      (due : (agent : ℕ) (r : Action) → IsSupplied s (order_in k) until → Contains (history s until agent) r → r.deadline ≤ until → IsFinished s (order_in k) (until * s.unit.quantum) r) where
    abbrev actions : ℕ → List Action
    actions agent = history s (until + 1) agent

    all_settled : (agent : ℕ) → settled (turns agent) until (actions agent) ≡ due_by until (actions agent)
    all_settled agent =
        settled_all (turns agent) until (actions agent) (date_settled s (order_in k) until agent lawful (λ r. due agent r (supplied (state_of k) w.plan w.script lawful)))

    pub count_told : (agent : ℕ) (runner : Runner) → slice_get k.runners.items agent ≡ Some runner → runner.figure.count ≡ due_count s agent (due_by until (actions agent))
    count_told agent runner at =
        (w.agents agent runner at).counted ∙ ap (λ ts. due_count s agent (settled ts until (history s (dates_done k.shared.date) agent))) (all_turns agent)
        ∙ ap (λ n. due_count s agent (settled (turns agent) until (history s n agent))) done ∙ ap (due_count s agent) (all_settled agent)

    pub least_told : (agent : ℕ) (runner : Runner) → slice_get k.runners.items agent ≡ Some runner → runner.figure.slack ≡ least_slack s (turns agent) agent (due_by until (actions agent))
    least_told agent runner at =
        (w.agents agent runner at).slacked ∙ ap (λ ts. least_slack s ts agent (settled ts until (history s (dates_done k.shared.date) agent))) (all_turns agent)
        ∙ ap (λ n. least_slack s (turns agent) agent (settled (turns agent) until (history s n agent))) done ∙ ap (least_slack s (turns agent) agent) (all_settled agent)

    figure_told : (agent : ℕ) (runner : Runner) → slice_get k.runners.items agent ≡ Some runner
        → agent_line (agent_at s.unit agent).name runner.figure.count runner.figure.slack ≡ agent_end s turns until agent
    figure_told agent runner at =
        let name = (agent_at s.unit agent).name in
        ap (λ n. agent_line name n runner.figure.slack) (count_told agent runner at) ∙ ap (agent_line name (due_count s agent (due_by until (actions agent)))) (least_told agent runner at)

    agent_told : (agent : ℕ) → agent < length s.unit.agents → figure_line k.plan.unit k.runners.items agent ≡ agent_end s turns until agent
    agent_told agent l =
        let runner = there k.runners.items agent (omega (arith, l, w.run)) in
        ap (λ o. agent_line (agent_at s.unit agent).name (figure_in o).count (figure_in o).slack) runner.1 ∙ figure_told agent runner.0 runner.1

    -- The figures, the reaches and what was held tell the summary.
    pub summary_figured : SameReach → summary_on (state_of k) ≡ figured_lines k.plan k.runners.items k.reaches.items k.helds.items
    summary_figured same =
        let agents = range_with_len 0 (length s.unit.agents) in
        let variables = range_with_len 0 (length s.unit.variables) in
        let streams = range_with_len 0 (length s.unit.streams) in
        let of_agents : map (agent_end s turns until) agents ≡ map (figure_line k.plan.unit k.runners.items) agents =
        sym (same_map (figure_line k.plan.unit k.runners.items) (agent_end s turns until) (length s.unit.agents) agent_told) in
        let of_variables : map (variable_end s turns k.plan.sizes until) variables ≡ map (reach_line k.plan k.reaches.items) variables =
        sym (same_map (reach_line k.plan k.reaches.items) (variable_end s turns k.plan.sizes until) (length s.unit.variables) (variable_told same)) in
        let of_streams : map (stream_end s k.plan.sizes until) streams ≡ map (held_line k.plan k.helds.items) streams =
        sym (same_map (held_line k.plan k.helds.items) (stream_end s k.plan.sizes until) (length s.unit.streams) stream_told) in
        ap (λ lines. end_line until ∷ (map (agent_end s turns until) agents ++ (map (variable_end s turns k.plan.sizes until) variables ++ lines))) of_streams
        ∙ ap (λ lines. end_line until ∷ (lines ++ (map (variable_end s turns k.plan.sizes until) variables ++ map (held_line k.plan k.helds.items) streams))) of_agents
        ∙ ap (λ lines. end_line until ∷ (map (figure_line k.plan.unit k.runners.items) agents ++ (lines ++ map (held_line k.plan k.helds.items) streams))) of_variables
