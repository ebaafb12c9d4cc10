-- A history reads no statement, slot or function: code has the same one in an emptied unit.
use Rattle.std.proofs.Common.{◌≡◌, ◌∙◌, refl, ap, ℕ, zero, suc, ◌+◌, ◌-◌, ◌==◌, ℤ}
use Rattle.std.proofs.Common.{List, [], ◌∷◌, ◌++◌, map, filter, length, Option, None, Some, if◌then◌else◌, flat_map}
use Rattle.std.specs.Prelude.{nat_lt, option_map, slice_get}
use Rattle.std.specs.List.{range_with_len}
use Rattle.std.proofs.lemmas.Option.{slice_get-map}
use Rattle.psy_base.specs.declared.message.Message.{Message}
use Rattle.psy_budget.specs.declared.charge.Stall.{Stall}
use Rattle.psy_clock.specs.Dates.{count, date}
use Rattle.psy_code.specs.declared.code.Code.{Code}
use Rattle.psy_code.specs.declared.look.Sent.{Sent}
use Rattle.psy_code.specs.Views.{View, found_in}
use Rattle.psy_history.specs.Actions.{Action, Done, History, Next, Overran, System, Trapped, Verdict, charge_of, first_action, next_of, publishing, stream_of}
use Rattle.psy_history.specs.Actions.{timing, variable_of, verdict_of}
use Rattle.psy_history.specs.Compiled.{coded}
use Rattle.psy_history.specs.Executors.{Acted, by_code}
use Rattle.psy_history.specs.History.{action_of, history, with_start}
use Rattle.psy_history.specs.Lines.{Publish, Show, events, events_in, is_date, publications_by, shows, stops_of}
use Rattle.psy_history.specs.Visible.{commit, committed_in, held, in_order, is_held, is_in_view, message_of, messages, messages_by, messages_from, past}
use Rattle.psy_history.specs.Visible.{published, published_by, seen_at, sent_to, values_for, view_of}
use Rattle.psy_image.specs.Answers.{emptied, emptied_agent}
use Rattle.psy_meaning.specs.Timing.{Timing, budget_at, deadline, first_date}
use Rattle.psy_tree.specs.declared.unit.AgentDecl.{AgentDecl}
use Rattle.psy_tree.specs.declared.unit.Unit.{Unit as Whole}
use Rattle.psy_same.proofs.Emptied.{same_count, same_timings}

-- What is found where there is an agent, whichever it is
found_alike : {Y : Type 0} (agent : Option AgentDecl) (y : Option Y) → found_in (option_map emptied_agent agent) (λ a. y) ≡ found_in agent (λ a. y)
found_alike None y = refl
found_alike (Some a) y = refl

module _ (unit : Whole) (code : Code) (nexts : List (List (List ℕ))) (stalls : ℕ → List Stall) (inputs : List (List ℤ)) where
  abbrev pub bare : System
  bare = coded (emptied unit) code nexts stalls inputs

  abbrev pub whole : System
  whole = coded unit code nexts stalls inputs

  -- ---- where actions start

  timing_alike : timing bare ≡ timing whole
  timing_alike = same_timings unit nexts

  starts_alike : (agent : ℕ) → bare.opening.starts agent ≡ whole.opening.starts agent
  starts_alike agent =
      (λ i. found_in (slice_get-map emptied_agent unit.agents agent i)
      (λ a. Some (record { number = 0; point = 0; start = first_date (timing_alike i agent); carried = (by_code code).first agent })))
      ∙ found_alike (slice_get unit.agents agent) (Some (first_action unit nexts (by_code code) agent))

  next_alike : (agent : ℕ) (actions : List Action) → next_of bare agent actions ≡ next_of whole agent actions
  next_alike agent [] = starts_alike agent
  next_alike agent (r ∷ before) = refl

  -- ---- what is published

  committed_alike : (variable by : ℕ) (actions : List Action) → committed_in bare variable by actions ≡ committed_in whole variable by actions
  committed_alike variable by [] = refl
  committed_alike variable by (r ∷ before) = λ i. commit variable by r.after (committed_alike variable by before i) r.verdict

  published_by_alike : (h : History) (variable at : ℕ) (owner : Option ℕ) → published_by bare h variable at owner ≡ published_by whole h variable at owner
  published_by_alike h variable at None = refl
  published_by_alike h variable at (Some owner) = committed_alike variable at (h owner)

  published_alike : (h : History) (variable at : ℕ) → published bare h variable at ≡ published whole h variable at
  published_alike h variable at = published_by_alike h variable at (variable_of whole variable).owner

  past_alike : (h : History) (variable start back : ℕ) → past bare h variable start back ≡ past whole h variable start back
  past_alike h variable start back = λ i.
      if nat_lt back (count (publishing whole variable) start)
      then published_alike h variable (date (publishing whole variable) (count (publishing whole variable) start - 1 - back)) i
      else (variable_of whole variable).init

  -- ---- messages

  from_alike : (stream agent end number : ℕ) (sends : List Sent)
      → messages_from bare stream agent end number sends ≡ messages_from whole stream agent end number sends
  from_alike stream agent end number [] = refl
  from_alike stream agent end number (sent ∷ sends) = λ i.
      if sent.stream == stream
      then message_of whole agent end number sent ∷ from_alike stream agent end (number + 1) sends i
      else from_alike stream agent end (number + 1) sends i

  by_alike : (stream agent : ℕ) (sends : List Sent) (verdict : Verdict)
      → messages_by bare stream agent sends verdict ≡ messages_by whole stream agent sends verdict
  by_alike stream agent sends (Done point end) = from_alike stream agent end 0 sends
  by_alike stream agent sends (Trapped kind) = refl
  by_alike stream agent sends Overran = refl

  sent_alike : (h : History) (stream : ℕ) → sent_to bare h stream ≡ sent_to whole h stream
  sent_alike h stream = λ i.
      flat_map (λ agent. flat_map (λ (r : Action). by_alike stream r.agent r.deeds.sends r.verdict i) (h agent)) (range_with_len 0 (same_count unit i))

  pub messages_alike : (h : History) (stream : ℕ) → messages bare h stream ≡ messages whole h stream
  messages_alike h stream = ap in_order (sent_alike h stream)

  seen_alike : (h : History) (at : ℕ) → seen_at bare h at ≡ seen_at whole h at
  seen_alike h at = λ i stream. filter (is_in_view stream at (h (stream_of whole stream).receiver)) (messages_alike h stream i)

  pub held_alike : (h : History) (stream at : ℕ) → held bare h stream at ≡ held whole h stream at
  held_alike h stream at = λ i.
      filter (is_held (whole.opening.silent (stream_of whole stream).receiver) stream at (h (stream_of whole stream).receiver)) (messages_alike h stream i)

  -- ---- actions

  view_alike : (h : History) (agent start : ℕ) (seen : ℕ → List Message) → view_of bare h agent start seen ≡ view_of whole h agent start seen
  view_alike h agent start seen = λ i. record {
    pasts = map (λ variable. map (λ back. past_alike h variable start back i) (range_with_len 0 (variable_of whole variable).depth))
        (range_with_len 0 (length unit.variables));
    messages = map (values_for whole seen agent) (range_with_len 0 (length unit.streams));
  }

  -- The action that comes of what the code does
  abbrev acting : ℕ → Next → Timing → View → (ℕ → List Message) → Acted → Action
  acting agent n its view seen acted = record {
    agent = agent;
    number = n.number;
    point = n.point;
    start = n.start;
    budget = budget_at its n.point;
    deadline = deadline its n.point n.start;
    before = n.carried;
    view = view;
    seen = seen;
    deeds = acted.deeds;
    charge = charge_of whole agent n.number acted.deeds.steps;
    verdict = verdict_of its n.start (budget_at its n.point) (charge_of whole agent n.number acted.deeds.steps) acted.fate;
    after = acted.carried;
  }

  abbrev action_with : ℕ → Next → Timing → View → (ℕ → List Message) → Action
  action_with agent n its view seen = acting agent n its view seen ((by_code code).act agent n.point n.carried view (budget_at its n.point))

  action_alike : (h : History) (agent : ℕ) (n : Next) → action_of bare h agent n ≡ action_of whole h agent n
  action_alike h agent n = λ i.
      action_with agent n (timing_alike i agent) (view_alike h agent n.start (seen_alike h n.start i) i) (seen_alike h n.start i)

  start_alike : (h : History) (at agent : ℕ) (actions : List Action) (next : Option Next)
      → with_start bare h at agent actions next ≡ with_start whole h at agent actions next
  start_alike h at agent actions None = refl
  start_alike h at agent actions (Some n) = λ i. if n.start == at then action_alike h agent n i ∷ actions else actions

  pub history_alike : (dates : ℕ) → history bare dates ≡ history whole dates
  history_alike zero = λ i agent. []
  history_alike (suc at) = λ i agent.
      start_alike (history_alike at i) at agent (history_alike at i agent) (next_alike agent (history_alike at i agent) i) i

  -- ---- lines

  publication_alike : (h : History) (at variable : ℕ) (owner : Option ℕ) → publications_by bare h at variable owner ≡ publications_by whole h at variable owner
  publication_alike h at variable None = refl
  publication_alike h at variable (Some owner) = λ i.
      if is_date (publishing whole variable) at then Publish variable (published_alike h variable at i) ∷ [] else []

  shows_alike : (h : History) (at stream : ℕ) → shows bare h at stream ≡ shows whole h at stream
  shows_alike h at stream = λ i. map (λ (m : Message). Show stream m.value) (filter (λ (m : Message). m.visible == at) (messages_alike h stream i))

  told_alike : (h : History) (at : ℕ) → events_in bare h at ≡ events_in whole h at
  told_alike h at = λ i.
      flat_map (λ agent. stops_of at (h agent)) (range_with_len 0 (same_count unit i))
      ++ (flat_map (λ variable. publication_alike h at variable (variable_of whole variable).owner i) (range_with_len 0 (length unit.variables))
      ++ flat_map (λ stream. shows_alike h at stream i) (range_with_len 0 (length unit.streams)))

  pub events_alike : (at : ℕ) → events bare at ≡ events whole at
  events_alike at = λ i. told_alike (history_alike (at + 1) i) at i
