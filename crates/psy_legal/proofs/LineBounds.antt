-- The lines of the trace of a plan's run have numbers of at most 12 digits, and values of 32 bits.
use Rattle.std.proofs.Common.{◌≡◌, ◌∙◌, refl, sym, ap, subst, ℕ, zero, suc, ◌+◌, ◌-◌, ◌*◌, ◌^◌, ◌<◌, ◌≤◌, nat_lt, Bool, true, false, List, [], ◌∷◌, ◌++◌, All, length, map, get_or, Option, Some, ℤ, inl, inr, arith}
use Rattle.std.specs.Prelude.{FitsSigned, if◌then◌else◌}
use Rattle.std.specs.Int.{w32}
use Rattle.std.specs.List.{Contains}
use Rattle.std.proofs.lemmas.Bool.{cases_Bool, cond_both}
use Rattle.std.proofs.lemmas.List.Elements.{All-contains, Contains-append_cases}
use Rattle.std.proofs.lemmas.Nat.{mod_below, mul-le}
use Rattle.std.proofs.lemmas.Option.{get_or_from_slice_get, slice_get_within}
use Rattle.psy_base.specs.declared.limits.TheConstants.{ADVANCE, PROCESSORS}
use Rattle.psy_clock.specs.declared.clock.Clock.{Clock}
use Rattle.psy_clock.specs.declared.clock.TheConstants.{PERIOD}
use Rattle.psy_clock.specs.Dates.{IsClock, after_date, count, date}
use Rattle.psy_code.specs.declared.code.Code.{Code}
use Rattle.psy_dates.proofs.lemmas.Fits.{ring_size, small_ring}
use Rattle.psy_dates.specs.declared.plan.Plan.{Plan}
use Rattle.psy_dates.specs.Plans.{IsPlan}
use Rattle.psy_lists.proofs.lemmas.Members.{contains_none, front_or_behind, get_or_holds, map_contains, contains_front}
use Rattle.psy_tree.specs.declared.unit.AgentDecl.{AgentDecl}
use Rattle.psy_tree.specs.declared.unit.Point.{Point}
use Rattle.psy_tree.specs.declared.unit.Unit.{Unit as Whole}
use Rattle.psy_tree.specs.declared.unit.VarDecl.{VarDecl}
use Rattle.psy_tree.specs.Parts.{agent_at, no_agent}
use Rattle.psy_history.specs.Actions.{Action, System, Verdict, Done, Trapped, Overran, publishing, timing, variable_of}
use Rattle.psy_history.specs.Compiled.{AreInputs}
use Rattle.psy_history.specs.declared.told.Script.{Script}
use Rattle.psy_history.specs.History.{history}
use Rattle.psy_history.specs.Processors.{processor_at, processors}
use Rattle.psy_history.specs.Regular.{IsRegular, first_number, number_of as number_in}
use Rattle.psy_history.specs.Runs.{IsRun}
use Rattle.psy_history.specs.Schedule.{Turn, cycle_of_unit, is_of, is_pending, units}
use Rattle.psy_history.specs.Scheduled.{turns_by}
use Rattle.psy_history.specs.Scripts.{IsScript}
use Rattle.psy_history.specs.Visible.{past, published}
use Rattle.psy_history.specs.Ways.{IsSentBy}
use Rattle.psy_meaning.specs.KnownWays.{Ways}
use Rattle.psy_meaning.specs.Timing.{MayStart, Timing, end_date, first, following, later, least, clock_at, point_at}
use Rattle.psy_meaning.specs.Units.{HasHead, IsBare, IsBarePoint}
use Rattle.psy_audit.specs.declared.said.Ending.TheVariants.{Unfinished}
use Rattle.psy_audit.specs.declared.said.Said.{Said}
use Rattle.psy_audit.specs.declared.said.Said.TheVariants.{Acted, Published, Served, Ended}
use Rattle.psy_audit.specs.declared.said.Segment.{Segment}
use Rattle.psy_audit.specs.Spelled.{trace_text}
use Rattle.psy_audit.specs.Texts.{lines_in}
use Rattle.psy_audit.specs.Traced.{act_of, ending_by, looks_of, trace_of}
use Rattle.psy_legal.proofs.Blocks.{act_block, act_line, inner, look_block, look_line, looked_line, publication_block, publication_line, stretch_block, stretch_line, trace_is}
use Rattle.psy_legal.proofs.LookLines.{shown_is, turn, IsSighted}
use Rattle.psy_legal.proofs.Numbers.{agent_of, few, number_of}
use Rattle.psy_legal.proofs.PlanRuns.{RunLaws, begins, on_time, order, run, s, sighted, ways}
use Rattle.psy_legal.proofs.Reading.{IsTold, read_again}
use Rattle.psy_legal.proofs.ServedCycles.{act_of_stretch, known_agent}
use Rattle.psy_legal.proofs.StartedActions.{start_below}
use Rattle.psy_legal.proofs.Telling.{tells}
use Rattle.psy_legal.proofs.Tiles.{tile_of}
use Rattle.psy_legal.proofs.Firsts.{tiles_of}
use Rattle.psy_legal.proofs.Told.{all_stretches, publication_number, IsOnTime}
use Rattle.psy_legal.proofs.Turns.{next_turn, serving, turns_in}
use Rattle.psy_legal.proofs.ValueFits.{firsts_fit, values_fit}
use Rattle.psy_legal.proofs.WrittenNumbers.{EndsShort, IsShort}
use Rattle.psy_budget.specs.Charges.{cycle_of}

-- What more the laws say of a run and of clocks
pub record ReadLaws : Type 0 where
  pub runs : RunLaws
  pub sends : (s : System) (ways : Ways) (code : Code) → IsRun s ways code → (dates agent : ℕ) → All (λ r. All (IsSentBy ways s.unit) r.deeds.sends) (history s dates agent)
  pub few_homes : (unit : Whole) → IsBare unit → processors unit ≤ PROCESSORS
  pub near : (c : Clock) (t k : ℕ) → IsClock c → 1 ≤ k → after_date c t k ≤ t + k * c.period

-- ---- numbers

-- An action has no more units than there are cycles.
units_few : (s : System) (order : ℕ → List ℕ) (agent number n : ℕ) → units agent number (turns_in s order n) ≤ n
units_few s order agent number zero = omega arith
units_few s order agent number (suc n) =
    let rest = units_few s order agent number n in
    elim (cases_Bool (is_of agent number (next_turn s order n))) [
      | inl t ↦ rw t (omega (arith, rest))
      | inr f ↦ rw f (omega (arith, rest))
    ]

least_bound : (bound : ℕ) (xs : List ℕ) → ((x : ℕ) → Contains xs x → x ≤ bound) → least xs ≤ bound
least_bound bound [] all = omega arith
least_bound bound (x ∷ []) all = all x (contains_front x [])
least_bound bound (x ∷ y ∷ xs) all = (let low = all x (contains_front x (y ∷ xs)) in omega (arith, low))

-- Each point behind the head is one of an `advance`.
point_bare : (unit : Whole) (a : AgentDecl) (points : List Point) (to : ℕ) (d : Point) → HasHead a points (IsBarePoint unit) → 1 ≤ to → to < length points → IsBarePoint unit (get_or points to d)
point_bare unit a [] to d head some less = absurd head
point_bare unit a (p ∷ rest) zero d head some less = absurd (omega (arith, some))
point_bare unit a (p ∷ rest) (suc to) d head some less = head.1 to d (omega (arith, less))

module _ (laws : ReadLaws) (plan : Plan) (inputs : List (List ℤ)) (script : Script) (is : IsPlan plan) (are : AreInputs plan.unit inputs) (its : IsScript plan.unit script) (short : plan.until < 2 ^ 32) (brief : plan.until * plan.unit.quantum < 10 ^ 12) where
  abbrev sys : System
  sys = s laws.runs plan inputs script is are its

  abbrev ties : ℕ → List ℕ
  ties = order laws.runs plan inputs script is are its

  abbrev until : ℕ
  until = plan.until

  abbrev last : ℕ
  last = until * plan.unit.quantum

  runs : IsRun sys (ways laws.runs plan inputs script is are its) plan.code
  runs = run laws.runs plan inputs script is are its

  known : IsOnTime sys ties plan.sizes until
  known = on_time laws.runs plan inputs script is are its

  sight : IsSighted sys plan.sizes until
  sight = sighted laws.runs plan inputs script is are its

  bare : IsBare plan.unit
  bare = runs.bare

  -- ---- actions

  module _ (agent : ℕ) (less : agent < length plan.unit.agents) (r : Action) (there : Contains (history sys until agent) r) where
    abbrev times : Timing
    times = timing sys agent

    regular : IsRegular sys agent r
    regular = All-contains (IsRegular sys agent) (history sys until agent) r (known.lawful.actions until agent).each there

    number_short : IsShort r.number
    number_short =
        let below = number_of sys until agent r there in
        let zero_first : first_number sys agent ≡ 0 = ap number_in (begins laws.runs plan inputs script is are its agent less) in
        let many = few sys until agent in
        omega (arith, below, zero_first, many, short)

    abbrev points : List Point
    points = (agent_at plan.unit agent).points

    point_short : (point start : ℕ) → MayStart times point start → IsShort point
    point_short point start first = omega arith
    point_short point start (later from begun to may follows) =
        let inner = runs.points agent from point less follows in
        let limit = (bare.agents agent no_agent less).limit in
        omega (arith, inner.1, limit)

    start_low : r.start < until
    start_low = start_below sys known.lawful until agent r there

    -- Where an action may end lies near its start.
    end_near : (point to : ℕ) → Contains (following times point) to → end_date times r.start to ≤ r.start + ADVANCE * PERIOD
    end_near point to follows =
        let inner = runs.points agent point to less follows in
        let p = point_bare plan.unit (agent_at plan.unit agent) points to (record { count = 1; clock = 0; budget = 0 }) (bare.agents agent no_agent less).points inner.0 inner.1 in
        let clock_is : IsClock (clock_at times (point_at times to).clock) = get_or_holds IsClock plan.unit.clocks (point_at times to).clock (record { period = 1; first = 0 }) (record { first = omega arith; period = omega arith }) bare.clocks in
        let near = laws.near (clock_at times (point_at times to).clock) r.start (point_at times to).count clock_is p.count.0 in
        let far : (point_at times to).count * (clock_at times (point_at times to).clock).period ≤ ADVANCE * PERIOD = mul-le (point_at times to).count (clock_at times (point_at times to).clock).period ADVANCE PERIOD p.count.1 clock_is.period in
        omega (arith, near, far)

    due_short : IsShort r.deadline
    due_short =
        let low = least_bound (r.start + ADVANCE * PERIOD) (map (end_date times r.start) (following times r.point)) (λ x c.
        let (to, follows, same) = map_contains (end_date times r.start) (following times r.point) x c in
        let near = end_near r.point to follows in
        omega (arith, near, same)) in
        omega (arith, regular.deadline, low, start_low, short)

    ending_short : (v : Verdict) → r.verdict ≡ v → EndsShort (ending_by v)
    ending_short (Done point end) done =
        let follows = regular.ends point end done in
        let near = end_near r.point point follows.0 in
        omega (arith, near, follows.1, start_low, short)
    ending_short (Trapped kind) done = tt {0}
    ending_short Overran done = tt {0}

    ends_short : (turns : List (Option Turn)) → EndsShort (act_of turns r).ending
    ends_short turns = by (is_pending turns r)
      where
        by : (b : Bool) → EndsShort (if b then Unfinished else ending_by r.verdict)
        by true = tt {0}
        by false = ending_short r.verdict refl

    work_short : (agent number : ℕ) → IsShort (units agent number (turns_by sys ties last r.agent))
    work_short agent number = (let most = units_few sys (serving sys ties (processor_at plan.unit r.agent)) agent number last in omega (arith, most, brief))

    act_told : IsTold plan.unit until (Acted (act_of (turns_by sys ties last agent) r))
    act_told =
        let of : r.agent ≡ agent = agent_of sys until agent r there in (
          omega (arith, of, less),
          number_short,
          point_short r.point regular.starts.met regular.starts.may,
          omega (arith, start_low, short),
          due_short,
          subst (λ a. IsShort (units r.agent r.number (turns_by sys ties last a))) of (work_short r.agent r.number),
          ends_short (turns_by sys ties last agent),
        )

  -- ---- publications

  ring_some : (variable : ℕ) → variable < length plan.unit.variables → 1 ≤ get_or plan.sizes.rings variable 0
  ring_some variable less =
      let size = ring_size plan is variable less in
      let v : VarDecl = size.decl in
      let deep = (bare.variables variable v less).depth.0 in
      let same : get_or plan.unit.variables variable v ≡ v = get_or_from_slice_get plan.unit.variables variable v v size.declared in
      let depth = ap (λ (w : VarDecl). w.depth) same in
      omega (arith, size.sum, deep, depth)

  publication_told : (variable : ℕ) → variable < length plan.unit.variables → (k : ℕ) → k < count (publishing sys variable) until → IsTold plan.unit until (Published (publication_number sys plan.sizes variable k))
  publication_told variable less k below =
      let early = (known.counted.upto (publishing sys variable) until k (known.clocks variable)).1 below in
      let in_ring = mod_below k (get_or plan.sizes.rings variable 0) (ring_some variable less) in
      let small = small_ring plan is variable less in
      let d = date (publishing sys variable) k in
      (less, omega (arith, early, short), omega (arith, in_ring, small), fits (d + 1) variable d)
    where
      fits : (dates variable date : ℕ) → FitsSigned w32 (published sys (history sys dates) variable date)
      fits = values_fit sys (ways laws.runs plan inputs script is are its) plan.code runs known.lawful (laws.sends sys (ways laws.runs plan inputs script is are its) plan.code runs)

  -- ---- stretches

  stretch_told : (p : ℕ) → p < processors plan.unit → (t : Segment) → Contains (all_stretches sys ties plan.sizes until p) t → IsTold plan.unit until (Served t)
  stretch_told p less t there =
      let all = map Some (inner sys ties plan.sizes until ++ Ended ∷ []) in
      let told = tells sys ties plan.sizes until known in
      let own = serving sys ties p in
      let (m, few_cycles, tile) = tile_of (next_turn sys own) p last (all_stretches sys ties plan.sizes until p) t (tiles_of sys own p last) there in
      let (of, r, started, agent, number) = act_of_stretch sys ties plan.sizes until known all told p t there in
      let mine = known_agent sys ties plan.sizes until known all told p t there in
      let homes = laws.few_homes plan.unit bare in
      let numbered = number_short of (omega (arith, mine, agent)) r started in
      (omega (arith, tile.processor_is, less, homes), omega (arith, tile.filled, tile.within, few_cycles, brief), omega (arith, tile.within, few_cycles, brief), mine, omega (arith, numbered, number))

  -- ---- looks

  look_is_told : (agent : ℕ) → agent < length plan.unit.agents → (r : Action) → Contains (history sys until agent) r → (x : Said) → Contains (looks_of sys plan.sizes (turns_by sys ties last agent) r) x → IsTold plan.unit until x
  look_is_told agent less r there x c =
      let of : r.agent ≡ agent = agent_of sys until agent r there in
      let all = map Some (inner sys ties plan.sizes until ++ Ended ∷ []) in
      let told = tells sys ties plan.sizes until known in
      let (look, cycle, looked, at, is_x) = looked_line sys ties plan.sizes until known (turns_by sys ties last agent) r x c in
      let sees = sight.looks agent r look there looked in
      let variable = slice_get_within plan.unit.variables look.variable sees.0 sees.1 in
      let at_own : cycle_of_unit r.agent r.number (cycle_of (sys.stalls r.agent) r.number look.number) (turns_by sys ties last r.agent) ≡ Some cycle =
      ap (λ k. cycle_of_unit r.agent r.number (cycle_of (sys.stalls r.agent) r.number look.number) (turns_by sys ties last k)) of ∙ at in
      let early = (turn sys ties plan.sizes until known sight all told agent r there look looked cycle at_own).0 in
      let size = get_or plan.sizes.rings look.variable 0 in
      let in_ring = mod_below (count (publishing sys look.variable) r.start + (size - 1) * (look.back + 1)) size (ring_some look.variable variable) in
      let small = small_ring plan is look.variable variable in
      let v : VarDecl = sees.0 in
      let same : get_or plan.unit.variables look.variable v ≡ v = get_or_from_slice_get plan.unit.variables look.variable v v sees.1 in
      let depth = ap (λ (w : VarDecl). w.depth) same in
      let deep = (bare.variables look.variable v variable).depth.1 in
      let value = shown_is sys ties plan.sizes until known sight all told agent r there look looked cycle at_own in
      subst (IsTold plan.unit until) (sym is_x) (
        omega (arith, of, less),
        number_short agent less r there,
        omega (arith, early, brief),
        variable,
        omega (arith, sees.2, depth, deep),
        omega (arith, in_ring, small),
        subst (FitsSigned w32) (sym value) (past_fits look.variable r.start look.back),
      )
    where
      past_fits : (variable start back : ℕ) → FitsSigned w32 (past sys (history sys start) variable start back)
      past_fits variable start back =
          let w = ways laws.runs plan inputs script is are its in
          let sends = laws.sends sys w plan.code runs in
          let clock = publishing sys variable in
          let d = date clock (count clock start - 1 - back) in
          cond_both (nat_lt back (count clock start)) (published sys (history sys start) variable d) (variable_of sys variable).init (FitsSigned w32)
          (λ t. values_fit sys w plan.code runs known.lawful sends start variable d) (λ t. firsts_fit sys w plan.code runs known.lawful sends variable)

  -- ---- the trace

  line_told_short : (x : Said) → Contains (inner sys ties plan.sizes until ++ Ended ∷ []) x → IsTold plan.unit until x
  line_told_short x c = elim (Contains-append_cases (inner sys ties plan.sizes until) (Ended ∷ []) x c) [
    | inr ended ↦ elim (front_or_behind Ended [] x ended) [
      | inl e ↦ subst (IsTold plan.unit until) e (omega (arith, short))
      | inr none ↦ absurd (contains_none x none)
    ]
    | inl within ↦ elim (Contains-append_cases (act_block sys ties plan.sizes until) _ x within) [
      | inl a ↦ (let (agent, less, r, there, is_x) = act_line sys ties plan.sizes until known x a in subst (IsTold plan.unit until) (sym is_x) (act_told agent less r there))
      | inr behind ↦ elim (Contains-append_cases (publication_block sys ties plan.sizes until) _ x behind) [
        | inl p ↦ (let (variable, less, k, below, is_x) = publication_line sys ties plan.sizes until known x p in subst (IsTold plan.unit until) (sym is_x) (publication_told variable less k below))
        | inr more ↦ elim (Contains-append_cases (stretch_block sys ties plan.sizes until) (look_block sys ties plan.sizes until) x more) [
          | inl t ↦ (let (p, less, t, there, is_x) = stretch_line sys ties plan.sizes until known x t in subst (IsTold plan.unit until) (sym is_x) (stretch_told p less t there))
          | inr l ↦ (let (agent, less, r, there, looked) = look_line sys ties plan.sizes until known x l in look_is_told agent less r there x looked)
        ]
      ]
    ]
  ]

  pub read_run : lines_in plan.unit until (trace_text sys ties plan.sizes until) ≡ map Some (trace_of sys ties plan.sizes until)
  read_run = read_again plan.unit bare until (trace_of sys ties plan.sizes until) (λ x c. line_told_short x (subst (λ xs. Contains xs x) (trace_is sys ties plan.sizes until) c))
