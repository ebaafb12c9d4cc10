-- Streams and variables that there aren't: none holds a message, and at none is looked.
use Rattle.std.proofs.Common.{◌≡◌, ℕ, zero, suc, ◌+◌, ◌<◌, ◌≤◌, ◌==◌, false, max, List, [], ◌∷◌, ◌++◌, map, length, filter, Option, Some, None, refl, sym, ap, subst, ◌∙◌, arith}
use Rattle.std.specs.Prelude.{⊤}
use Rattle.std.specs.List.{All, flat_map, range_with_len}
use Rattle.std.proofs.lemmas.Bool.{cond-false, ne_eqb}
use Rattle.std.proofs.lemmas.List.Concat.{flat_map-cons}
use Rattle.std.proofs.lemmas.List.Elements.{All-head, All-nil, All-push, All-tail, All-weaker}
use Rattle.std.proofs.lemmas.Option.{slice_get_within}
use Rattle.psy_base.specs.declared.message.Message.{Message}
use Rattle.psy_base.specs.Extremes.{greatest_of, most_of}
use Rattle.psy_code.specs.declared.code.AgentCode.{AgentCode}
use Rattle.psy_code.specs.declared.code.Code.{Code}
use Rattle.psy_code.specs.declared.look.Sent.{Sent}
use Rattle.psy_code.specs.Execution.{Next, Went, Ended, Trapped, Stuck, Run, RunState, Running, RanTo, TrappedBy, NoRun, call_of, deeds_then, next_of, run_by, run_code}
use Rattle.psy_code.specs.Views.{Call, Deeds, Looked, Past, Ready, Send, Take}
use Rattle.psy_history.specs.Actions.{Action, System, Verdict, Done}
use Rattle.psy_history.specs.Actions as how
use Rattle.psy_history.specs.Executors.{Carried, acted_as}
use Rattle.psy_history.specs.History.{history}
use Rattle.psy_history.specs.Queues.{queue_of}
use Rattle.psy_history.specs.Regular.{Goes, MayAsk, begun_by}
use Rattle.psy_history.specs.Schedule.{Turn}
use Rattle.psy_history.specs.Summary.{ages_of, at_least, dates_from, most_held, numbers_in, reach}
use Rattle.psy_history.specs.Visible.{held, in_order, message_of, messages, messages_by, messages_from}
use Rattle.psy_history.specs.Ways.{IsSentBy}
use Rattle.psy_meaning.specs.CodeWays.{agent_code_at}
use Rattle.psy_meaning.specs.KnownWays.{Ways}
use Rattle.psy_kernel.specs.Acting.{IsOfCode}
use Rattle.psy_kernel.proofs.Verdicts.{in_budget, is_whole}

-- ---- lists of nothing

flat_none : {X Y : Type 0} (f : X → List Y) (xs : List X) → All (λ x. f x ≡ []) xs → flat_map f xs ≡ []
flat_none f [] all = refl
flat_none f (x ∷ xs) all =
    flat_map-cons f x xs ∙ ap (λ ys. ys ++ flat_map f xs) (All-head (λ x. f x ≡ []) x xs all) ∙ flat_none f xs (All-tail (λ x. f x ≡ []) x xs all)

most_none : (f : ℕ → ℕ) → ((n : ℕ) → f n ≡ 0) → (ns : List ℕ) → most_of (map f ns) ≡ 0
most_none f none [] = refl
most_none f none (n ∷ ns) = ap (λ m. max m (most_of (map f ns))) (none n) ∙ ap (λ m. max 0 m) (most_none f none ns)

-- ---- a stream that there isn't

module _ (s : System) (ways : Ways) (sends : (dates agent : ℕ) → All (λ (r : Action). All (IsSentBy ways s.unit) r.deeds.sends) (history s dates agent))
    (stream : ℕ) (past : length s.unit.streams ≤ stream) (before : s.opening.messages stream ≡ []) where
  none_from : (agent end number : ℕ) (sent : List Sent) → All (IsSentBy ways s.unit) sent → messages_from s stream agent end number sent ≡ []
  none_from agent end number [] all = refl
  none_from agent end number (sent ∷ more) all =
      let known = IsSentBy.fits (All-head (IsSentBy ways s.unit) sent more all) in
      let rest : List Message = messages_from s stream agent end (number + 1) more in
      let other : (sent.stream == stream) ≡ false = ne_eqb sent.stream stream (λ e. absurd (omega (arith, e, known.stream, past))) in
      cond-false (sent.stream == stream) (message_of s agent end number sent ∷ rest) rest other ∙ none_from agent end (number + 1) more (All-tail (IsSentBy ways s.unit) sent more all)

  none_by : (agent : ℕ) (sent : List Sent) (v : Verdict) → All (IsSentBy ways s.unit) sent → messages_by s stream agent sent v ≡ []
  none_by agent sent (Done point end) all = none_from agent end 0 sent all
  none_by agent sent (how.Trapped kind) all = refl
  none_by agent sent how.Overran all = refl

  none_sent : (dates : ℕ) → messages s (history s dates) stream ≡ []
  none_sent dates =
      let of : Action → List Message = λ (r : Action). messages_by s stream r.agent r.deeds.sends r.verdict in
      let by_agent : ℕ → List Message = λ agent. flat_map of (history s dates agent) in
      let each : (agent : ℕ) → by_agent agent ≡ [] = λ agent.
      flat_none of (history s dates agent) (All-weaker (λ (r : Action). All (IsSentBy ways s.unit) r.deeds.sends) (λ r. of r ≡ []) (λ r all. none_by r.agent r.deeds.sends r.verdict all) (history s dates agent) (sends dates agent)) in
      ap (λ ms. in_order (ms ++ flat_map by_agent (range_with_len 0 (length s.unit.agents)))) before
      ∙ ap in_order (flat_none by_agent (range_with_len 0 (length s.unit.agents)) (λ place d less. each _))

  -- It holds nothing,
  pub queue_none : (date : ℕ) → queue_of s (suc date) stream ≡ []
  queue_none date = rw (none_sent (suc date)) refl

  held_none : (date : ℕ) → length (held s (history s (date + 1)) stream date) ≡ 0
  held_none date = rw (none_sent (date + 1)) refl

  -- and never held anything.
  pub never_held : s.opening.most stream ≡ 0 → (until : ℕ) → most_held s until stream ≡ 0
  never_held none until =
      let holds : ℕ → ℕ = λ date. length (held s (history s (date + 1)) stream date) in
      ap (λ n. at_least n (most_of (map holds (dates_from s.opening.dates (until + 1))))) none ∙ most_none holds held_none (dates_from s.opening.dates (until + 1))

-- ---- a variable that there isn't

-- Looks at variables below this number
abbrev LooksBelow : ℕ → Deeds → Type 0
LooksBelow n deeds = All (λ (look : Looked). look.variable < n) deeds.looks

module _ (s : System) (code : Code) where
  abbrev known : ℕ
  known = length s.unit.variables

  abbrev KnownIn : Run → Type 0
  KnownIn (Running t) = LooksBelow known t.deeds
  KnownIn (RanTo point t) = LooksBelow known t.deeds
  KnownIn (TrappedBy kind t) = LooksBelow known t.deeds
  KnownIn NoRun = ⊤

  known_then : (ways : Ways) (agent point : ℕ) (deeds : Deeds) (call : Option Call) → MayAsk ways s.unit agent point call → LooksBelow known deeds → LooksBelow known (deeds_then deeds call)
  known_then ways agent point deeds None may h = h
  known_then ways agent point deeds (Some (Past variable back)) may h =
      All-push (λ (look : Looked). look.variable < known) deeds.looks (record { number = deeds.steps; variable = variable; back = back }) h (slice_get_within s.unit.variables variable may.0 may.1)
  known_then ways agent point deeds (Some (Ready stream)) may h = h
  known_then ways agent point deeds (Some (Take stream)) may h = h
  known_then ways agent point deeds (Some (Send sent)) may h = h

  known_one : (t : RunState) (call : Option Call) (next : Next) → LooksBelow known t.deeds → LooksBelow known (deeds_then t.deeds call) → KnownIn (run_by t call next)
  known_one t call (Went m) h more = more
  known_one t call (Ended point m) h more = more
  known_one t call (Trapped kind) h more = h
  known_one t call Stuck h more = tt {0}

  known_acted : (budget : ℕ) (before : Carried) (run : Run) → KnownIn run → LooksBelow known (acted_as budget before run).deeds
  known_acted budget before (RanTo point t) h = h
  known_acted budget before (TrappedBy kind t) h = h
  known_acted budget before (Running t) h = h
  known_acted budget before NoRun h = All-nil (λ (look : Looked). look.variable < known)

  module _ (r : Action) (of : IsOfCode s code r) where
    abbrev its : AgentCode
    its = agent_code_at code r.agent

    known_run : (n : ℕ) → n ≤ of.runs.steps → KnownIn (run_code code its (begun_by its r) n)
    known_run zero less = All-nil (λ (look : Looked). look.variable < known)
    known_run (suc n) less =
        let goes : Goes s of.ways code its r n = (is_whole s code r of).on_the_way n (omega (arith, less)) in
        let here : LooksBelow known goes.state.deeds = subst KnownIn goes.running (known_run n (omega (arith, less))) in
        let call = call_of code goes.state.machine in
        subst KnownIn (sym goes.next)
        (known_one goes.state call (next_of code its goes.state.view goes.state.machine) here (known_then of.ways r.agent r.point goes.state.deeds call goes.asks here))

    known_looks : LooksBelow known r.deeds
    known_looks =
        let same : r.deeds ≡ (acted_as r.budget r.before (run_code code its (begun_by its r) of.runs.steps)).deeds = of.deeds ∙ ap (λ a. a.deeds) (in_budget s code r of) in
        subst (LooksBelow known) (sym same) (known_acted r.budget r.before (run_code code its (begun_by its r) of.runs.steps) (known_run of.runs.steps (omega arith)))

  module _ (of_code : (dates agent : ℕ) → All (IsOfCode s code) (history s dates agent)) (variable : ℕ) (past : known ≤ variable) where
    none_looked : (looks : List Looked) → All (λ (look : Looked). look.variable < known) looks → filter (λ (look : Looked). look.variable == variable) looks ≡ []
    none_looked [] all = refl
    none_looked (look ∷ more) all =
        let low = All-head (λ (look : Looked). look.variable < known) look more all in
        let rest : List Looked = filter (λ (l : Looked). l.variable == variable) more in
        let other : (look.variable == variable) ≡ false = ne_eqb look.variable variable (λ e. absurd (omega (arith, e, low, past))) in
        cond-false (look.variable == variable) (look ∷ rest) rest other ∙ none_looked more (All-tail (λ (look : Looked). look.variable < known) look more all)

    ages_none : (turns : ℕ → List (Option Turn)) (r : Action) → IsOfCode s code r → ages_of s turns variable r ≡ []
    ages_none turns r of = rw (none_looked r.deeds.looks (known_looks r of)) refl

    -- Its ring was never reached for.
    pub reach_none : (turns : ℕ → List (Option Turn)) (date : ℕ) → s.opening.reach variable ≡ None → reach s turns (history s date) variable ≡ None
    reach_none turns date none =
        let by_agent : ℕ → List ℕ = λ agent. flat_map (ages_of s turns variable) (history s date agent) in
        let each : (agent : ℕ) → by_agent agent ≡ [] = λ agent.
        flat_none (ages_of s turns variable) (history s date agent) (All-weaker (IsOfCode s code) (λ r. ages_of s turns variable r ≡ []) (ages_none turns) (history s date agent) (of_code date agent)) in
        ap (λ o. greatest_of (numbers_in o ++ flat_map by_agent (range_with_len 0 (length s.unit.agents)))) none
        ∙ ap greatest_of (flat_none by_agent (range_with_len 0 (length s.unit.agents)) (λ place d less. each _))
