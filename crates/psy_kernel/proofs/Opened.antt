-- A run that goes on from a state: what its agents have, once the actions have started that start at the state's date.
use Rattle.std.proofs.Common.{◌≡◌, ℤ, ℕ, suc, ◌+◌, ◌-◌, ◌*◌, ◌/◌, ◌^◌, ◌<◌, ◌≤◌, ◌==◌, Bool, true, false, min, if◌then◌else◌, List, [], ◌∷◌, map, length, Option, Some, None, refl, sym, ap, subst, ◌∙◌, inl, inr, arith}
use Rattle.std.specs.Prelude.{option_map, slice_get}
use Rattle.std.specs.List.{All}
use Rattle.std.specs.Option.{is_none}
use Rattle.std.proofs.lemmas.Bool.{eq-eqb, eqb-true}
use Rattle.std.proofs.lemmas.List.Elements.{All-head}
use Rattle.std.proofs.lemmas.Nat.{div_below}
use Rattle.std.proofs.lemmas.Option.{get_or_from_slice_get}
use Rattle.psy_budget.specs.Charges.{Charged, after_start}
use Rattle.psy_code.specs.declared.code.AgentCode.{AgentCode}
use Rattle.psy_code.specs.declared.code.CopyInit.{CopyInit}
use Rattle.psy_code.specs.Execution.{Copy, copy_from, run_code, standing}
use Rattle.psy_code.specs.Views.{found_in}
use Rattle.psy_machine.specs.Copying.{with_values}
use Rattle.psy_machine.specs.Stepping.{IsNew, IsOf}
use Rattle.psy_tree.specs.declared.unit.Point.{Point}
use Rattle.psy_tree.specs.Parts.{agent_at}
use Rattle.psy_meaning.specs.Alike.{first_copies}
use Rattle.psy_meaning.specs.CodeWays.{agent_code_at}
use Rattle.psy_meaning.specs.KnownWays.{Listed}
use Rattle.psy_history.specs.Actions.{Action, Next, System, first_action, next_of}
use Rattle.psy_history.specs.Compiled.{AreInputs}
use Rattle.psy_history.specs.Executors.{by_code, home_with, machine_at}
use Rattle.psy_history.specs.History.{action_of, history, with_start}
use Rattle.psy_history.specs.Openings.{IsSound}
use Rattle.psy_history.specs.Processors.{processor_at, served}
use Rattle.psy_history.specs.Regular.{IsLawful, IsRegular, begun_by}
use Rattle.psy_history.specs.Runs.{IsRun}
use Rattle.psy_history.specs.Schedule.{Turn, is_pending, units}
use Rattle.psy_history.specs.Scheduled.{turns_of}
use Rattle.psy_history.specs.Scripts.{order_of, stalls_of}
use Rattle.psy_history.specs.Summary.{due_count, least_slack}
use Rattle.psy_history.specs.declared.told.Script.{Script}
use Rattle.psy_dates.specs.Beginnings.{agent_in, behind, is_silent_by, next_at, starts_by}
use Rattle.psy_dates.specs.Beginnings as state
use Rattle.psy_dates.specs.declared.opening.AgentOpening.{AgentOpening}
use Rattle.psy_dates.specs.declared.opening.Begun.{Begun}
use Rattle.psy_dates.specs.declared.opening.NextAction.{NextAction}
use Rattle.psy_dates.specs.declared.opening.Opening.{Opening as State}
use Rattle.psy_dates.specs.declared.plan.Plan.{Plan}
use Rattle.psy_dates.specs.declared.seat.Seat.{Seat}
use Rattle.psy_dates.specs.Plans.{IsPlan, IsSoundFor, opened_of}
use Rattle.psy_dates.specs.Standing.{SeatOf}
use Rattle.psy_dates.proofs.lemmas.Fits.{goes_well_from}
use Rattle.psy_kernel.specs.declared.engine.Figure.{Figure}
use Rattle.psy_kernel.specs.declared.engine.Runner.{Runner}
use Rattle.psy_kernel.specs.Resuming.{IsMachineBy, IsMachineOf, IsRunnerBehind, charge_behind, number_by, number_of}
use Rattle.psy_kernel.specs.Standing.{AgentStands, IsRunning, MachineIn, charge_after, deadline_of, settled}
use Rattle.psy_kernel.specs.Starting.{budget_in, first_charge, starts_at}
use Rattle.psy_kernel.proofs.DatesDue.{AreRunLaws}
use Rattle.psy_kernel.proofs.IdleTurns.{idle_turns}
use Rattle.psy_kernel.proofs.OpenedFigures.{least_one, none_added}
use Rattle.psy_kernel.proofs.Started.{Sits, begins_first, last_sits, none_starts, pends, settled_before, starting}

-- The copies of an agent's code with some values are those of the variables that it owns.
same_values : (inits : List CopyInit) (copies : List Copy) (values : List ℤ) → map (λ c. c.variable) inits ≡ map (λ c. c.variable) copies
    → with_values (map copy_from inits) values ≡ state.with_values copies values
same_values [] [] values e = refl
same_values [] (d ∷ copies) values e = absurd (cc)
same_values (c ∷ inits) [] values e = absurd (cc)
same_values (c ∷ inits) (d ∷ copies) [] e = refl
same_values (c ∷ inits) (d ∷ copies) (value ∷ values) e =
    let first : c.variable ≡ d.variable = cc in
    let rest : map (λ (c : CopyInit). c.variable) inits ≡ map (λ (c : Copy). c.variable) copies = cc in
    let one : ℕ → Copy = λ variable. record { variable = variable; value = value } in
    ap (λ variable. one variable ∷ with_values (map copy_from inits) values) first ∙ ap (λ others. one d.variable ∷ others) (same_values inits copies values rest)

module _ (plan : Plan) (known_state : State) (inputs : List (List ℤ)) (script : Script) (fits : IsPlan plan) (are : AreInputs plan.unit inputs)
    (sound : IsSoundFor plan (behind plan known_state) inputs (stalls_of script)) (laws : AreRunLaws) where
  abbrev pub opened : System
  opened = opened_of plan (behind plan known_state) inputs (stalls_of script)

  abbrev date : ℕ
  date = known_state.date

  pub run : IsRun opened (Listed fits.ways) plan.code
  run = goes_well_from plan fits laws.well laws.opened (behind plan known_state) inputs (stalls_of script) are sound

  pub lawful : IsLawful opened
  lawful = laws.lawful opened (Listed fits.ways) plan.code run

  opens : IsSound opened (Listed fits.ways) plan.code
  opens = sound fits

  -- nobody has an action before the date
  pub none_before : (dates agent : ℕ) → dates ≤ date → history opened dates agent ≡ []
  none_before dates agent less = laws.none opened (Listed fits.ways) plan.code run dates agent (omega (arith, less))

  -- By agent, what the cycles before the date went to: nobody
  abbrev pub turns_before : ℕ → List (Option Turn)
  turns_before agent = turns_of opened (order_of plan.unit script) (date * plan.unit.quantum) (processor_at plan.unit agent)

  pub none_had : (agent number : ℕ) → units agent number (turns_before agent) ≡ 0
  none_had agent number =
      idle_turns (λ cycle. served plan.unit (processor_at plan.unit agent) (order_of plan.unit script cycle)) plan.unit.quantum (history opened) (date * plan.unit.quantum)
      (λ cycle less other. none_before (cycle / plan.unit.quantum + 1) other
      (let below = div_below cycle plan.unit.quantum date (omega (arith, fits.fits.bare.quantum.0)) (omega (arith, less)) in omega (arith, below)))
      agent number

  module _ (agent : ℕ) (less : agent < length plan.unit.agents) (known : AgentOpening) (at : slice_get known_state.agents agent ≡ Some known) where
    in_state : agent_in known_state agent ≡ known
    in_state = get_or_from_slice_get known_state.agents agent known _ at

    pub starts_is : (o : Option Begun) → known.begun ≡ o → opened.opening.starts agent ≡ starts_by plan date agent o
    starts_is o e = ap (λ x. found_in x (λ (a : AgentOpening). starts_by plan date agent a.begun)) at ∙ ap (starts_by plan date agent) e

    silent_is : (o : Option Begun) → known.begun ≡ o → opened.opening.silent agent ≡ is_silent_by o
    silent_is o e = ap (λ (a : AgentOpening). is_silent_by a.begun) in_state ∙ ap is_silent_by e

    history_is : (next : Option Next) → opened.opening.starts agent ≡ next
        → history opened (suc date) agent ≡ with_start opened (history opened date) date agent [] next
    history_is next e =
        ap (λ rs. with_start opened (history opened date) date agent rs (next_of opened agent rs)) (none_before date agent (omega arith))
        ∙ ap (with_start opened (history opened date) date agent []) e

    abbrev points : List Point
    points = (agent_at plan.unit agent).points

    -- What it has once its action has started, where it does
    abbrev pub Opened : Seat → Runner → List Action → Bool → Type 0
    Opened seat runner rs starts =
        AgentStands opened plan.code (turns_before agent) plan.until agent rs (record runner { charge = if starts then after_start runner.charge (budget_in points seat.point) else runner.charge })
        (if starts then Some seat.deadline else None)

    counted : (runner : Runner) → runner.figure ≡ record { count = known.count; slack = known.slack } → runner.figure.count ≡ due_count opened agent []
    counted runner figure = ap (λ (f : Figure). f.count) figure ∙ ap (λ (a : AgentOpening). a.count) (sym in_state) ∙ none_added (agent_in known_state agent).count

    slacked : (runner : Runner) → runner.figure ≡ record { count = known.count; slack = known.slack }
        → runner.figure.slack ≡ least_slack opened (turns_before agent) agent []
    slacked runner figure = ap (λ (f : Figure). f.slack) figure ∙ ap (λ (a : AgentOpening). a.slack) (sym in_state) ∙ least_one (agent_in known_state agent).slack

    module _ (seat : Seat) (runner : Runner) (sits : Sits opened date (turns_before agent) agent (history opened (suc date) agent) seat) (of_code : IsOf plan.code runner.machine)
        (figure : runner.figure ≡ record { count = known.count; slack = known.slack }) where
      -- it starts nothing at the date
      rests : history opened (suc date) agent ≡ [] → runner.machine.agent ≡ agent → (opened.opening.silent agent ≡ false → IsNew plan.code agent runner.machine)
          → (opened.opening.silent agent ≡ false → runner.charge ≡ first_charge script agent)
          → Opened seat runner (history opened (suc date) agent) (starts_at date seat)
      rests none is_agent new fresh =
          let quiet : starts_at date seat ≡ false = none_starts (opened.opening.silent agent) opened.opening.dates date (turns_before agent) seat (subst (λ rs. Sits opened date (turns_before agent) agent rs seat) none sits) in
          subst (Opened seat runner (history opened (suc date) agent)) (sym quiet) (subst (λ rs. Opened seat runner rs false) (sym none) (record {
            charged = fresh;
            is_agent = is_agent;
            of_code = of_code;
            executes = new;
            ready = refl;
            counted = counted runner figure;
            slacked = slacked runner figure;
          }))

      -- it starts an action there
      acts : (n : Next) → opened.opening.starts agent ≡ Some n → n.start ≡ date → runner.machine.agent ≡ agent
          → runner.machine.machine ≡ machine_at (agent_code_at plan.code agent) n.point n.carried
          → runner.charge ≡ charge_behind script agent n.number → Opened seat runner (history opened (suc date) agent) (starts_at date seat)
      acts n next now is_agent stands charge =
          let turns = turns_before agent in
          let r = action_of opened (history opened date) agent n in
          let grew : history opened (suc date) agent ≡ r ∷ [] = history_is (Some n) next ∙ ap (λ b. if b then r ∷ [] else []) (eq-eqb n.start date now) in
          let seat_of : SeatOf date turns r seat = last_sits opened date agent turns r [] seat (subst (λ rs. Sits opened date turns agent rs seat) grew sits) in
          let regular = All-head (IsRegular opened agent) r [] (subst (All (IsRegular opened agent)) grew (lawful.actions (suc date) agent).each) in
          let none : units agent r.number turns ≡ 0 = none_had agent r.number in
          let pending : is_pending turns r ≡ true = pends turns r none regular.granted regular.charged in
          let starts : starts_at date seat ≡ true = starting date turns r seat seat_of now regular.due pending in
          let small : n.number ≤ 1000000 = elim (opens.places agent n next) [ inl begun ↦ begun.number | inr waits ↦ (let zero_first : n.number ≡ 0 = ap (λ (m : Next). m.number) waits.first in omega (arith, zero_first)) ] in
          let total : min (n.number + 1) (2 ^ 64 - 1) ≡ n.number + 1 = omega (arith, small) in
          let made : ℕ → Charged = λ m. record { stalls = stalls_of script agent; started = m; budget = r.budget; consumed = 0; paid = 0 } in
          let fresh : after_start runner.charge (budget_in points seat.point) ≡ charge_after opened r 0 =
          ap (λ c. after_start c (budget_in points seat.point)) charge ∙ ap (λ p. after_start (charge_behind script agent n.number) (budget_in points p)) seat_of.point ∙ ap made total in
          let its = agent_code_at plan.code agent in
          let running : IsRunning plan.code r (charge_after opened r (units agent r.number turns)).paid runner.machine =
          (begun_by its r, ap (λ had. run_code plan.code its (begun_by its r) (charge_after opened r had).paid) none, sym stands) in
          let same : settled turns plan.until (r ∷ []) ≡ [] = settled_before turns plan.until r [] pending in
          let due : Some r.deadline ≡ deadline_of turns (r ∷ []) = rw pending refl in
          subst (Opened seat runner (history opened (suc date) agent)) (sym starts) (subst (λ rs. Opened seat runner rs true) (sym grew) (record {
            charged = fresh ∙ ap (charge_after opened r) (sym none);
            is_agent = is_agent;
            of_code = of_code;
            executes = subst (λ b. MachineIn opened plan.code turns r b runner.machine) (sym pending) running;
            ready = ap (λ d. Some d) seat_of.deadline ∙ due;
            counted = counted runner figure ∙ ap (due_count opened agent) (sym same);
            slacked = slacked runner figure ∙ ap (least_slack opened turns agent) (sym same);
          }))

      -- it hasn't begun: it starts its first action there, or later
      opened_first : known.begun ≡ None → IsNew plan.code agent runner.machine → runner.charge ≡ first_charge script agent
          → Opened seat runner (history opened (suc date) agent) (starts_at date seat)
      opened_first e new charge = by (n.start == date) refl
        where
          n : Next
          n = first_action plan.unit plan.nexts (by_code plan.code) agent

          next : opened.opening.starts agent ≡ Some n
          next = starts_is None e

          by : (b : Bool) → (n.start == date) ≡ b → Opened seat runner (history opened (suc date) agent) (starts_at date seat)
          by true now = acts n next (eqb-true n.start date now) new.2 (begins_first plan.unit plan.code plan.nexts (behind plan known_state) (stalls_of script) inputs agent runner.machine n new refl) charge
          by false later =
              rests (history_is (Some n) next ∙ ap (λ b. if b then action_of opened (history opened date) agent n ∷ [] else []) later) new.2 (λ loud. new) (λ loud. charge)

      -- it has begun: it is silent, or starts an action there
      opened_begun : (begun : Begun) → known.begun ≡ Some begun → (a : Option NextAction) → begun.action ≡ a
          → IsMachineBy plan.code agent begun.copies a runner.machine → runner.charge ≡ charge_behind script agent (number_by a)
          → Opened seat runner (history opened (suc date) agent) (starts_at date seat)
      opened_begun begun e None is new charge =
          let next : opened.opening.starts agent ≡ None = starts_is (Some begun) e ∙ ap (option_map (next_at plan date agent begun.copies)) is in
          let silent : opened.opening.silent agent ≡ true = silent_is (Some begun) e ∙ ap is_none is in
          rests (history_is None next) new.2 (λ loud. new) (λ loud. (let wrong : true ≡ false = sym silent ∙ loud in absurd cc))
      opened_begun begun e (Some action) is machine charge =
          let n = next_at plan date agent begun.copies action in
          let next : opened.opening.starts agent ≡ Some n = starts_is (Some begun) e ∙ ap (option_map (next_at plan date agent begun.copies)) is in
          let its = agent_code_at plan.code agent in
          let here : its ≡ machine.0 = get_or_from_slice_get plan.code.agents agent machine.0 _ machine.1 in
          let same = same_values its.copies (first_copies plan.unit agent) begun.copies (fits.fits.parts.each agent less).copies in
          acts n next refl machine.2
          (machine.3 ∙ sym (ap (λ (c : AgentCode). standing c action.point (home_with c action.cells) (with_values (map copy_from c.copies) begun.copies)) here)
          ∙ ap (standing its action.point (home_with its action.cells)) same) charge

    pub agent_opened : (seat : Seat) (runner : Runner) → IsRunnerBehind plan.code script agent known runner
        → Sits opened date (turns_before agent) agent (history opened (suc date) agent) seat
        → Opened seat runner (history opened (suc date) agent) (starts_at date seat)
    agent_opened seat runner h sits = by known.begun refl h.machine h.charge
      where
        by : (o : Option Begun) → known.begun ≡ o → IsMachineOf plan.code agent o runner.machine
            → runner.charge ≡ charge_behind script agent (number_of o) → Opened seat runner (history opened (suc date) agent) (starts_at date seat)
        by None e machine charge = opened_first seat runner sits h.of_code h.figure e machine charge
        by (Some begun) e machine charge = opened_begun seat runner sits h.of_code h.figure begun e begun.action refl machine charge
