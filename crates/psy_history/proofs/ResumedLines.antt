-- What a history that is taken up again at a quiet date tells of each later date: what the whole one tells.
use Rattle.std.proofs.Common.{◌≡◌, ℕ, suc, ◌+◌, ◌<◌, ◌≤◌, All, List, [], ◌∷◌, ◌++◌, length, map, Option, Some, None, append-nil, add-one, refl, sym, ap, ap₂, ◌∙◌, arith}
use Rattle.std.specs.Prelude.{◌==◌, filter, if◌then◌else◌}
use Rattle.std.specs.List.{Contains, range_with_len}
use Rattle.std.proofs.lemmas.Bool.{ne_eqb}
use Rattle.std.proofs.lemmas.List.Concat.{flat_map-append}
use Rattle.std.proofs.lemmas.List.Elements.{All-head, All-tail}
use Rattle.psy_base.specs.declared.message.Message.{Message}
use Rattle.psy_history.specs.Actions.{Action, History, System, Done, publishing, variable_of}
use Rattle.psy_history.specs.History.{history}
use Rattle.psy_history.specs.Lines.{Publish, Show, events, is_date, publications, publications_by, shows, stops_by, stops_of}
use Rattle.psy_history.specs.Queues.{queue_of}
use Rattle.psy_history.specs.Resuming.{resumed_at}
use Rattle.psy_history.proofs.LikeActions.{flat_map_same}
use Rattle.psy_history.proofs.QueueLooks.{shows_is}
use Rattle.psy_history.proofs.ResumedQueues.{queue_resumed}
use Rattle.psy_history.proofs.ResumedViews.{published_later}
use Rattle.psy_history.proofs.SentMessages.{AreClockLaws, HasStreams}

-- What was due by a date stops nothing later.
no_stops : (date later : ℕ) (actions : List Action) → date < later → All (λ r. r.deadline ≤ date) actions → stops_of later actions ≡ []
no_stops date later [] late due = refl
no_stops date later (r ∷ before) late due =
    let early : r.deadline ≤ date = All-head (λ (x : Action). x.deadline ≤ date) r before due in
    ap₂ (λ b rest. (if b then stops_by r.agent r.verdict else []) ++ rest) (ne_eqb r.deadline later (λ at. omega (arith, early, late, at)))
    (no_stops date later before late (All-tail (λ (x : Action). x.deadline ≤ date) r before due))

module _ (s : System) (streams : HasStreams s) (laws : AreClockLaws) (sizes : List ℕ) (order : ℕ → List ℕ) (date : ℕ) (behind : s.opening.dates ≤ suc date)
    (due : (agent : ℕ) → All (λ r. r.deadline ≤ date) (history s date agent))
    (ended : (agent point end : ℕ) (r : Action) → Contains (history s date agent) r → r.verdict ≡ Done point end → end ≤ date)
    (others : HasStreams (resumed_at s sizes order date))
    (actions : (later agent : ℕ) → date ≤ later → history s later agent ≡ history (resumed_at s sizes order date) later agent ++ history s date agent)
    (at : ℕ) (late : date < at) where
  abbrev t : System
  t = resumed_at s sizes order date

  abbrev whole : History
  whole = history s (at + 1)

  abbrev new : History
  new = history t (at + 1)

  since : date ≤ at + 1
  since = omega (arith, late)

  stops_same : (agent : ℕ) → stops_of at (whole agent) ≡ stops_of at (new agent)
  stops_same agent =
      let stops = λ (r : Action). if r.deadline == at then stops_by r.agent r.verdict else [] in
      ap (stops_of at) (actions (at + 1) agent since)
      ∙ flat_map-append stops (new agent) (history s date agent)
      ∙ ap (λ rest. stops_of at (new agent) ++ rest) (no_stops date at (history s date agent) late (due agent))
      ∙ append-nil (stops_of at (new agent))

  publications_same : (variable : ℕ) (owner : Option ℕ) → publications_by s whole at variable owner ≡ publications_by t new at variable owner
  publications_same variable None = refl
  publications_same variable (Some owner) =
      ap (λ value. if is_date (publishing s variable) at then Publish variable value ∷ [] else [])
      (published_later s sizes order date behind ended (at + 1) since (λ agent. actions (at + 1) agent since) variable at late)

  queue_same : (stream : ℕ) → queue_of s (at + 1) stream ≡ queue_of t (at + 1) stream
  queue_same stream =
      ap (λ n. queue_of s n stream) (add-one at)
      ∙ queue_resumed s streams laws sizes order date behind due ended others actions stream at (omega (arith, late))
      ∙ sym (ap (λ n. queue_of t n stream) (add-one at))

  -- what becomes visible is held
  shows_same : (stream : ℕ) → shows s whole at stream ≡ shows t new at stream
  shows_same stream =
      ap (map (λ (m : Message). Show stream m.value))
      (shows_is s streams laws at stream ∙ ap (filter (λ (m : Message). m.visible == at)) (queue_same stream) ∙ sym (shows_is t others laws at stream))

  -- Each later date has the same lines.
  pub events_resumed : events s at ≡ events t at
  events_resumed =
      ap₂ (λ stops rest. stops ++ rest) (flat_map_same (λ agent. stops_of at (whole agent)) (λ agent. stops_of at (new agent)) stops_same (range_with_len 0 (length s.unit.agents)))
      (ap₂ (λ published shown. published ++ shown)
      (flat_map_same (publications s whole at) (publications t new at) (λ variable. publications_same variable (variable_of s variable).owner) (range_with_len 0 (length s.unit.variables)))
      (flat_map_same (shows s whole at) (shows t new at) shows_same (range_with_len 0 (length s.unit.streams))))
