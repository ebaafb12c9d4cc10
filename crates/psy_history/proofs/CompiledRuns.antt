-- The code of a program of a text goes well by the ways of its statements.
use Rattle.std.proofs.Common.{◌≡◌, ℕ, ◌+◌, ◌<◌, ◌≤◌, ◌==◌, true, false, List, [], ◌∷◌, ◌++◌, Option, Some, None, map, length, get_or, refl, sym, ap, subst, ◌∙◌, inl, inr, append-nil, append_assoc, arith}
use Rattle.std.specs.Prelude.{Bool, ℤ, cond, slice_get}
use Rattle.std.specs.List.{Contains, count_by}
use Rattle.std.proofs.lemmas.Bool.{cases_Bool, cases_lt, eq-eqb}
use Rattle.std.proofs.lemmas.List.{map-append}
use Rattle.std.proofs.lemmas.List.Elements.{All-contains, Contains-append_left, Contains-get_or}
use Rattle.std.proofs.lemmas.List.Sums.{sum_by-append, sum_by-cons}
use Rattle.std.proofs.lemmas.Option.{slice_get-get_or}
use Rattle.psy_meaning.proofs.lemmas.SomeSendings.{some_here}
use Rattle.psy_meaning.proofs.lemmas.Running.{same_running}
use Rattle.psy_lists.proofs.lemmas.Places.{mapped_from}
use Rattle.psy_lists.proofs.lemmas.Members.{contains_none, contains_map, filter_in, flat_map_in}
use Rattle.psy_arith.specs.declared.operators.Trap.{Trap}
use Rattle.psy_budget.specs.declared.charge.Stall.{Stall}
use Rattle.psy_code.specs.declared.code.AgentCode.{AgentCode}
use Rattle.psy_code.specs.declared.code.Code.{Code}
use Rattle.psy_code.specs.declared.look.Sent.{Sent}
use Rattle.psy_code.specs.Execution.{Run, RunState, RanTo, Running, call_of, run_code}
use Rattle.psy_code.specs.Lasting.{GoesOn, IsOver, Lasted}
use Rattle.psy_code.specs.Views.{Call, Deeds, Looked, Past, Ready, Send, ServesAll, Take, View, nothing_done}
use Rattle.psy_tree.specs.declared.unit.AgentDecl.{AgentDecl}
use Rattle.psy_tree.specs.declared.unit.Unit.{Unit as Whole}
use Rattle.psy_tree.specs.declared.unit.VarDecl.{VarDecl}
use Rattle.psy_history.specs.Actions.{System, timing}
use Rattle.psy_meaning.specs.Alike.{EndsAs, IsViewOf, begun as begun_with, first_store, is_there, started}
use Rattle.psy_meaning.specs.CodeWays.{agent_code_at}
use Rattle.psy_history.specs.Executors.{Carried, by_code, carried_by, machine_at, store_of}
use Rattle.psy_tree.specs.Parts.{agent_at}
use Rattle.psy_meaning.specs.Flow.{AreNexts, IsWayFrom}
use Rattle.psy_meaning.specs.Kept.{AreDeedsOf, IsKept, IsLookOf, IsSentOf, Receives}
use Rattle.psy_meaning.specs.Sendings.{all_sendings, delay_of, sendings_in, sendings_to}
use Rattle.psy_meaning.specs.Rest.{rest}
use Rattle.psy_meaning.specs.States.{Final, Halts, State}
use Rattle.psy_meaning.specs.States as by
use Rattle.psy_meaning.specs.Statements.{Piece, act}
use Rattle.psy_meaning.specs.Timing.{MayStart, Timing, first, following, later}
use Rattle.psy_meaning.specs.Ways.{IsFrontOf, IsWay, Meter, Sending, met_by, sending_of}
use Rattle.psy_history.specs.Compiled.{AreInputs, IsCompiled, coded}
use Rattle.psy_history.specs.Regular.{MayAsk}
use Rattle.psy_history.specs.Openings.{MayCarry}
use Rattle.psy_history.specs.Runs.{GoesWell, IsRun, StandsWell}
use Rattle.psy_meaning.specs.KnownWays.{HasMost, OfText, is_sent, is_some_sending}
use Rattle.psy_history.specs.Ways.{IsSentBy, SendsAtMost}
use Rattle.psy_history.proofs.CarriedStores.{carries_of, may_carry}
use Rattle.psy_history.proofs.GoingOn.{looked_at, sent_there}
use Rattle.psy_history.proofs.HeldWindow.{most_above}
use Rattle.psy_history.proofs.LateLooks.{over_stays}
use Rattle.psy_history.proofs.OutboxSizes.{count_none}
use Rattle.psy_history.proofs.PlainOpenings.{plain_sound}
use Rattle.psy_history.proofs.Sights.{SeesAs, sees_as, there_found}
use Rattle.psy_history.proofs.Stores.{AreStoreLaws, EndsAlike, ends_alike, first_carried, of_unit}
use Rattle.psy_history.proofs.Timings.{followed, follows, has_head}

-- What the laws say of a unit of a text, and of code.
pub record AreLaws (unit : Whole) (code : Code) : Type 0 where
  pub stores : AreStoreLaws unit code
  pub ways : (pieces : List Piece) (point : ℕ) (s t : State) → s.deeds ≡ nothing_done → act unit.functions pieces s ≡ Halts (by.Ended point t) → IsWay unit.functions pieces point (met_by t.deeds)
  pub traps : (number : ℕ) (agent : AgentDecl) (point : ℕ) (s t : State) (kind : Trap) → slice_get unit.agents number ≡ Some agent → s.deeds ≡ nothing_done → act unit.functions (rest agent.stmts point) s ≡ Halts (by.Trapped kind t)
      → (end : ℕ) × (met : Meter) × IsWay unit.functions (rest agent.stmts point) end met × IsFrontOf (met_by t.deeds) met
  pub sendings : (number : ℕ) (agent : AgentDecl) (from to : ℕ) (met : Meter) (sending : Sending) → slice_get unit.agents number ≡ Some agent → IsWay unit.functions (rest agent.stmts from) to met → Contains met.sends sending → Contains (sendings_in agent.stmts) sending
  pub within : (number : ℕ) (agent : AgentDecl) → slice_get unit.agents number ≡ Some agent → (point to : ℕ) → (met : Meter) → IsWay unit.functions (rest agent.stmts point) to met → (1 ≤ to) × (to < length agent.points)

-- ---- sends of the text

-- As many of what was made of a list pass a test as of the list pass it once made.
count_by-map : {X Y : Type 0} (test : Y → Bool) (f : X → Y) (xs : List X) → count_by test (map f xs) ≡ count_by (λ x. test (f x)) xs
count_by-map test f [] = refl
count_by-map test f (x ∷ xs) =
    sum_by-cons (λ y. cond (test y) 1 0) (f x) (map f xs) ∙ ap (λ n. cond (test (f x)) 1 0 + n) (count_by-map test f xs) ∙ sym (sum_by-cons (λ x. cond (test (f x)) 1 0) x xs)

none_there : (sendings : List Sending) → is_some_sending sendings ≡ false → sendings ≡ []
none_there [] e = refl
none_there (sending ∷ more) e = absurd cc

-- The state of an action that is over
abbrev state_in : Final → State
state_in (by.Ended point t) = t
state_in (by.Trapped kind t) = t

module _ (unit : Whole) (code : Code) (nexts : List (List (List ℕ))) (stalls : ℕ → List Stall) (inputs : List (List ℤ)) (laws : AreLaws unit code) (compiled : IsCompiled unit code nexts) (given : AreInputs unit inputs) where
  abbrev system : System
  system = coded unit code nexts stalls inputs

  -- ---- an agent

  module _ (agent : ℕ) (less : agent < length unit.agents) where
    abbrev decl : AgentDecl
    decl = agent_at unit agent

    abbrev times : Timing
    times = timing system agent

    abbrev its : AgentCode
    its = agent_code_at code agent

    at : slice_get unit.agents agent ≡ Some decl
    at = of_unit unit code nexts laws.stores compiled agent less

    are : AreNexts unit.functions decl (get_or nexts agent [])
    are = compiled.followed.each agent decl (get_or nexts agent []) at (slice_get-get_or nexts agent [] (omega (arith, less, compiled.followed.count)))

    -- What follows a point is a point of an `advance`.
    points : (point to : ℕ) → Contains (following times point) to → (1 ≤ to) × (to < length decl.points)
    points point to c = (let (met, way) = follows unit agent decl (get_or nexts agent []) are point to c in laws.within agent decl at point to met way)

    -- Actions start at points of the agent.
    point_known : (point start : ℕ) → MayStart times point start → point < length decl.points
    point_known point start first = has_head unit agent decl (get_or nexts agent []) compiled.text.bare at
    point_known point start (later from begun to may c) = (points from point c).1

    -- A send on a way is among all sends of the text to its stream.
    sending_there : (point to : ℕ) (met : Meter) (sending : Sending) → IsWayFrom unit.functions decl point to met → Contains met.sends sending → Contains (all_sendings unit sending.stream) sending
    sending_there point to met sending way c =
        let text = laws.sendings agent decl point to met sending at way c in
        flat_map_in (sendings_to sending.stream) unit.agents decl sending (Contains-get_or unit.agents agent _ less) (filter_in (λ (x : Sending). x.stream == sending.stream) (sendings_in decl.stmts) sending text (eq-eqb sending.stream sending.stream refl))

    -- Where nobody's text sends to a stream, no way does.
    none_sent : (point to stream : ℕ) → all_sendings unit stream ≡ [] → (met : Meter) → IsWayFrom unit.functions decl point to met → count_by (λ (s : Sending). s.stream == stream) met.sends ≡ 0
    none_sent point to stream none met way = count_none (λ (s : Sending). s.stream == stream) met.sends (λ s c. elim (cases_Bool (s.stream == stream)) [
      | inl hits ↦ (
          let same : s.stream ≡ stream = grind (arith, hits) in
          let there = sending_there point to met s way c in
          absurd (contains_none s (subst (λ xs. Contains xs s) (ap (all_sendings unit) same ∙ none) there)))
      | inr misses ↦ misses
    ])

    unsent : (point to stream : ℕ) → Contains (following times point) to → is_sent (OfText unit) stream ≡ false → HasMost (OfText unit) agent point to stream 0
    unsent point to stream c none =
        let (met, way) = follows unit agent decl (get_or nexts agent []) are point to c in
        let empty = none_there (all_sendings unit stream) none in
        inr (0, record { one = (met, way, none_sent point to stream empty met way); most = λ n (m, w, count). omega (arith, none_sent point to stream empty m w, count) }, refl)

    -- What is sent on the front of a way is at most the most sends there.
    at_most : (point to : ℕ) (met : Meter) → IsWayFrom unit.functions decl point to met → (sends : List Sent) (more : List Sending) → met.sends ≡ map sending_of sends ++ more → SendsAtMost (OfText unit) agent point to sends
    at_most point to met way sends more is stream n (inl (none, zero)) = absurd (none (met, way))
    at_most point to met way sends more is stream n (inr (k, greatest, cut)) =
        let test : Sending → Bool = λ s. s.stream == stream in
        let counts = ap (count_by test) is ∙ sum_by-append (λ s. cond (test s) 1 0) (map sending_of sends) more in
        let most = greatest.most (count_by test met.sends) (met, way, refl) in
        omega (arith, most, counts, count_by-map test sending_of sends, cut)

    -- ---- a run

    module _ (point start : ℕ) (may : MayStart times point start) (carried : Carried) (view : View) (carries : MayCarry unit code agent carried) (sees : IsViewOf unit agent view) where
      abbrev begun : RunState
      begun = started (machine_at its point carried) view

      abbrev after : ℕ → Run
      after = run_code code its begun

      known : point < length decl.points
      known = point_known point start may

      it : EndsAlike unit code agent point carried view
      it = ends_alike unit code nexts laws.stores compiled agent point carried view less known (carries_of unit code nexts laws.stores compiled agent less carried carries) sees

      -- What was done is done on a way: the looks are among its looks, and the sends are the first of its sends.
      record IsOnWay (deeds : Deeds) : Type 0 where
        to : ℕ
        met : Meter
        way : IsWayFrom unit.functions decl point to met
        looks : (look : Looked) → Contains deeds.looks look → Contains met.looks look
        more : List Sending
        sends : met.sends ≡ map sending_of deeds.sends ++ more

      on_way : (s : State) (final : Final) → s.deeds ≡ nothing_done → act unit.functions (rest decl.stmts point) s ≡ Halts final → IsOnWay (state_in final).deeds
      on_way s (by.Ended p t) none acts = record {
        to = p;
        met = met_by t.deeds;
        way = laws.ways (rest decl.stmts point) p s t none acts;
        looks = λ look there. there;
        more = [];
        sends = sym (append-nil (map sending_of t.deeds.sends));
      }
      on_way s (by.Trapped kind t) none acts =
          let (to, met, way, front) = laws.traps agent decl point s t kind at none acts in
          record {
            to = to;
            met = met;
            way = way;
            looks = λ look there. subst (λ looks. Contains looks look) (sym front.looks.1) (Contains-append_left t.deeds.looks front.looks.0 look there);
            more = front.sends.0;
            sends = front.sends.1;
          }

      way_to : (to : ℕ) (met : Meter) → IsWayFrom unit.functions decl point to met → Contains (following times point) to
      way_to to met way = followed unit agent decl (get_or nexts agent []) are point to known (met, way)

      -- ---- on the way

      module _ (u : RunState) (m : ℕ) (over : IsOver (after m) u) (deeds : AreDeedsOf unit agent u.deeds) (on : IsOnWay u.deeds) where
        abbrev lasted : Lasted code its begun m u
        lasted = laws.stores.lasted its begun u m over

        ended : IsOver (after lasted.steps) u
        ended = subst (λ o. IsOver o u) (sym lasted.over) over

        -- Before the end no more was sent than on the way.
        stands_before : (n : ℕ) → n < lasted.steps → StandsWell system (OfText unit) code agent point (after n)
        stands_before n early =
            let goes = lasted.on_the_way n early in
            let (rest, is) = goes.front.sends in
            let sends = on.sends ∙ ap (λ xs. map sending_of xs ++ on.more) is ∙ ap (λ xs. xs ++ on.more) (map-append sending_of goes.state.deeds.sends rest) ∙ append_assoc (map sending_of goes.state.deeds.sends) (map sending_of rest) on.more in
            subst (StandsWell system (OfText unit) code agent point) (sym goes.running)
            (on.to, way_to on.to on.met on.way, at_most point on.to on.met on.way goes.state.deeds.sends (map sending_of rest ++ on.more) sends)

        -- Behind it the run stands as at the end.
        stands_by : StandsWell system (OfText unit) code agent point (after m) → (n : ℕ) → StandsWell system (OfText unit) code agent point (after n)
        stands_by last n = elim (cases_lt n lasted.steps) [
          | inl early ↦ stands_before n early
          | inr late ↦ subst (StandsWell system (OfText unit) code agent point) (sym (over_stays code its lasted.steps n begun u late ended ∙ lasted.over)) last
        ]

        -- ---- what is asked

        module _ (n : ℕ) (goes : GoesOn code its begun n u.deeds) where
          still : SeesAs view goes.state.view
          still = sees_as code its n begun goes.state goes.running

          receives : (stream : ℕ) → slice_get (map is_there goes.state.view.messages) stream ≡ Some true → Receives unit agent stream
          receives stream there = subst (λ bs. slice_get bs stream ≡ Some true) (still.1 ∙ sees.streams) there

          sent_by : (sent : Sent) → Contains u.deeds.sends sent → IsSentBy (OfText unit) unit sent
          sent_by sent c =
              let met = subst (λ xs. Contains xs (sending_of sent)) (sym on.sends) (Contains-append_left (map sending_of u.deeds.sends) on.more (sending_of sent) (contains_map sending_of u.deeds.sends sent c)) in
              let there = sending_there point on.to on.met (sending_of sent) on.way met in
              let all = all_sendings unit sent.stream in
              record {
                fits = All-contains (IsSentOf unit) u.deeds.sends sent deeds.sends c;
                named = some_here all (sending_of sent) there;
                soon = most_above (map (delay_of unit) all) (delay_of unit (sending_of sent)) (contains_map (delay_of unit) all (sending_of sent) there);
              }

          may_ask : (call : Option Call) → call_of code goes.state.machine ≡ call → ServesAll goes.state.view call → MayAsk (OfText unit) unit agent point call
          may_ask None asks served = tt {0}
          may_ask (Some (Past variable back)) asks served =
              let look : Looked = record { number = goes.state.deeds.steps; variable = variable; back = back } in
              let there = looked_at code its begun n u.deeds goes variable back asks in
              let (depth, at, low) = All-contains (IsLookOf unit) u.deeds.looks look deeds.looks there in
              let (v, is, same) = mapped_from (λ (v : VarDecl). v.depth) unit.variables variable depth at in
              (v, is, subst (λ d. back < d) (sym same) low, (on.to, on.met, on.way, look, on.looks look there, refl))
          may_ask (Some (Ready stream)) asks served = receives stream (there_found goes.state.view.messages stream served)
          may_ask (Some (Take stream)) asks served = receives stream (there_found goes.state.view.messages stream served)
          may_ask (Some (Send sent)) asks served = sent_by sent (sent_there code its begun n u.deeds goes sent asks)

        asks_by : (n : ℕ) (t : RunState) → after n ≡ Running t → MayAsk (OfText unit) unit agent point (call_of code t.machine)
        asks_by n t running = elim (cases_lt n lasted.steps) [
          | inl early ↦ (
              let goes = lasted.on_the_way n early in
              let same = same_running goes.state t (sym goes.running ∙ running) in
              subst (λ (x : RunState). MayAsk (OfText unit) unit agent point (call_of code x.machine)) same (may_ask n goes (call_of code goes.state.machine) refl goes.served))
          | inr late ↦ (
              let stays = over_stays code its lasted.steps n begun u late ended in
              let not : IsOver (Running t) u = subst (λ o. IsOver o u) (sym stays ∙ running) ended in
              absurd not)
        ]

        goes_by : StandsWell system (OfText unit) code agent point (after m) → GoesWell system (OfText unit) code agent point carried view
        goes_by last = record { stands = λ n most. stands_by last n; asks = λ n t early running. asks_by n t running }

      -- ---- to the end

      goes_in : (final : Final) → IsKept unit agent decl final → EndsAs (Halts final) after → IsOnWay (state_in final).deeds → (act unit.functions (rest decl.stmts point) (begun_with (store_of decl carried) view) ≡ Halts final) → GoesWell system (OfText unit) code agent point carried view
      goes_in (by.Ended p s) kept (u, ended, same) on acts =
          let over : IsOver (after s.deeds.steps) u = subst (λ o. IsOver o u) (sym ended) refl in
          let deeds = subst (AreDeedsOf unit agent) (sym same.deeds) kept.2 in
          let way = laws.ways (rest decl.stmts point) p (begun_with (store_of decl carried) view) s refl acts in
          let back : carried_by u.machine ≡ record { cells = _; copies = s.store.copies } = rw (same.cells, same.copies) refl in
          let sends = ap (λ (d : Deeds). map sending_of d.sends) (sym same.deeds) ∙ sym (append-nil (map sending_of u.deeds.sends)) in
          let last : StandsWell system (OfText unit) code agent point (RanTo p u) =
          (way_to p (met_by s.deeds) way, at_most point p (met_by s.deeds) way u.deeds.sends [] sends, subst (MayCarry unit code agent) (sym back) (may_carry unit code nexts laws.stores compiled agent less s.store kept.1)) in
          goes_by u s.deeds.steps over deeds (subst IsOnWay (sym same.deeds) on) (subst (StandsWell system (OfText unit) code agent point) (sym ended) last)
      goes_in (by.Trapped kind s) kept (u, ended, same) on acts =
          let over : IsOver (after s.deeds.steps) u = subst (λ o. IsOver o u) (sym ended) refl in
          let deeds = subst (AreDeedsOf unit agent) (sym same.deeds) kept.1 in
          goes_by u s.deeds.steps over deeds (subst IsOnWay (sym same.deeds) on) (subst (StandsWell system (OfText unit) code agent point) (sym ended) (tt {0}))

      goes : GoesWell system (OfText unit) code agent point carried view
      goes = goes_in it.final it.kept it.ends (on_way (begun_with (store_of decl carried) view) it.final refl it.acts) it.acts

  -- ---- where it begins

  begins_with : (agent : ℕ) → agent < length unit.agents → MayCarry unit code agent ((by_code code).first agent)
  begins_with agent less =
      let store = first_store unit agent (agent_at unit agent) in
      subst (MayCarry unit code agent) (sym (first_carried unit code nexts laws.stores compiled agent less))
      (may_carry unit code nexts laws.stores compiled agent less store (laws.stores.first agent (agent_at unit agent) (at agent less)))

  pub compiled_run : IsRun system (OfText unit) code
  compiled_run = record {
    bare = compiled.text.bare;
    inits = laws.stores.sound.values;
    points = λ agent point to less c. points agent less point to c;
    unsent = λ agent point to stream less inside c none. unsent agent less point to stream c none;
    coded = refl;
    agents = compiled.alike.agents;
    inputs = given;
    opened = plain_sound unit code nexts stalls inputs (OfText unit) laws.stores.sound.values begins_with;
    runs = λ agent point start carried view less may carries sees. goes agent less point start may carried view carries sees;
  }
