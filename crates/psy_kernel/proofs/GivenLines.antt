-- The lines given so far of the date done last, and the next one.
use Rattle.std.proofs.Common.{◌≡◌, ℕ, suc, ◌+◌, ◌*◌, ◌<◌, ◌≤◌, Bool, true, false, nat_lt, if◌then◌else◌, refl, inl, inr, List, [], ◌∷◌, ◌++◌, map, length, slice_get, Option, Some, None, sym, ap, subst, ◌∙◌, arith, length-append}
use Rattle.std.proofs.lemmas.Bool.{cases_lt, cond-false, le-ltb}
use Rattle.std.proofs.lemmas.List.{length-map, map-append}
use Rattle.psy_history.specs.Actions.{System}
use Rattle.psy_history.specs.History.{history}
use Rattle.psy_history.specs.Lines.{Event, shows}
use Rattle.psy_history.specs.Schedule.{Turn}
use Rattle.psy_history.specs.Regular.{IsLawful}
use Rattle.psy_history.specs.Scripts.{stalls_of}
use Rattle.psy_dates.specs.Standing.{SharedStands, dates_done}
use Rattle.psy_kernel.specs.declared.engine.Engine.TheInside.{Inside}
use Rattle.psy_kernel.specs.Engines.{lines_at, lines_on_date}
use Rattle.psy_kernel.specs.Standing.{InTick, EngineStands, given_at, state_of, told_from}
use Rattle.psy_kernel.specs.Telling.{IsNextTold, StandsBehind}
use Rattle.psy_kernel.specs.Texts.{event_line, lines_of}
use Rattle.psy_kernel.proofs.Engines.{opening_in, run_in, server_there, turns_in}
use Rattle.psy_kernel.proofs.Publications.{publications_few}
use Rattle.psy_kernel.proofs.Stops.{stops_few}
use Rattle.psy_kernel.specs.declared.engine.lines.Mark.{Mark}
use Rattle.psy_kernel.proofs.ToldPlaces.{at_place}
use Rattle.psy_kernel.proofs.ToldStreams.{all_told, at_end, end_of, told_few, told_front}

-- ---- lists

mapped_at : {X Y : Type 0} (f : X → Y) (all front more : List X) (x : X) → all ≡ (front ++ x ∷ []) ++ more → slice_get (map f all) (length front) ≡ Some (f x)
mapped_at f all front more x e =
    ap (λ xs. slice_get (map f xs) (length front)) e
    ∙ ap (λ ys. slice_get ys (length front)) (map-append f (front ++ x ∷ []) more ∙ ap (λ ys. ys ++ map f more) (map-append f front (x ∷ [])))
    ∙ ap (slice_get ((map f front ++ f x ∷ []) ++ map f more)) (sym (length-map front f))
    ∙ at_place (map f front) (map f more) (f x)

-- ---- an engine

-- An engine stands as well where more lines were given of a date that wasn't done before.
pub stands_at : (k : Inside) (place shown given : ℕ) → EngineStands k → place ≤ length k.plan.unit.agents + length k.plan.unit.variables + length k.plan.unit.streams
    → (place < length k.plan.unit.agents + length k.plan.unit.variables → shown ≡ 0) → given ≡ given_at (run_in k) (dates_done k.shared.date) place shown
    → ((last : ℕ) → (opening_in k).dates ≡ suc last → dates_done k.shared.date ≡ suc last → place ≡ length k.plan.unit.agents + length k.plan.unit.variables + length k.plan.unit.streams)
    → EngineStands (record k { place = place; shown = shown; given = given })
stands_at k place shown given w within unshown is before = record {
  plan = w.plan;
  inputs = w.inputs;
  script = w.script;
  parts = w.parts;
  sound = w.sound;
  behind = w.behind;
  before = before;
  served = w.served;
  servers = λ processor server at. (let its = w.servers processor server at in record { in_tick = its.in_tick; waiting = its.waiting; own = its.own; orders = its.orders; choice = its.choice });
  shared = w.shared;
  run = w.run;
  reaching = w.reaching;
  reached = w.reached;
  holding = w.holding;
  held = w.held;
  doing = w.doing;
  agents = w.agents;
  all = w.all;
  place = within;
  unshown = unshown;
  given = is;
}

module _ (k : Inside) (w : EngineStands k) (date : ℕ) (is : k.shared.date ≡ Some date) where
  abbrev s : System
  s = run_in k

  abbrev turns : ℕ → List (Option Turn)
  turns = turns_in k

  done : dates_done k.shared.date ≡ suc date
  done = ap dates_done is ∙ omega arith

  pub date_within : 1 ≤ length k.servers.items → date ≤ k.plan.until
  date_within some =
      let server = server_there k.servers.items 0 some in
      (subst (λ n. InTick k.plan.unit.quantum k.plan.until n server.0.cycles) done (w.servers 0 server.0 server.1).in_tick).0

  shared_now : SharedStands s k.plan.sizes turns (date + 1) k.shared
  shared_now = subst (λ n. SharedStands s k.plan.sizes turns n k.shared) (ap dates_done is) w.shared

  -- ---- where all is told

  -- Behind the last place all lines were given.
  pub given_all : end_of s date ≡ k.place → k.given ≡ length (lines_on_date (state_of k))
  given_all last =
      w.given ∙ ap (λ n. given_at s n k.place k.shown) done ∙ by (nat_lt date s.opening.dates) ∙ sym (ap (λ n. length (lines_at s n)) done)
    where
      by : (before : Bool) → (if before then 0 else length (told_from s date k.place k.shown)) ≡ length (if before then [] else lines_of s date)
      by true = refl
      by false = sym (ap length (at_end s date k.place k.shown last)) ∙ sym (length-map (told_from s date (end_of s date) 0) (event_line s date)) ∙ ap (λ events. length (map (event_line s date) events)) (sym (all_told s date))

  -- Before it the date wasn't done before.
  pub date_later : (end_of s date ≡ k.place → ⊥) → s.opening.dates ≤ date
  date_later more = elim (cases_lt date s.opening.dates) [
    | inr le ↦ le
    | inl past ↦ absurd (more (sym (w.before date (omega (arith, past, w.behind, done)) done)))
  ]

  -- ---- where there may be more

  module _ (later : s.opening.dates ≤ date) where
    told_now : (place shown : ℕ) → given_at s (dates_done k.shared.date) place shown ≡ length (told_from s date place shown)
    told_now place shown = ap (λ n. given_at s n place shown) done ∙ cond-false (nat_lt date s.opening.dates) 0 (length (told_from s date place shown)) (le-ltb date s.opening.dates later)

    given_is : k.given ≡ length (told_from s date k.place k.shown)
    given_is = w.given ∙ told_now k.place k.shown

    lines_are : lines_on_date (state_of k) ≡ map (event_line s date) (told_from s date (end_of s date) 0)
    lines_are =
        ap (lines_at s) done ∙ cond-false (nat_lt date s.opening.dates) [] (lines_of s date) (le-ltb date s.opening.dates later)
        ∙ ap (map (event_line s date)) (all_told s date)

    pub stands_now : StandsBehind k.plan (opening_in k) (stalls_of k.script) turns date k.shared
    stands_now = record { sound = w.sound; later = later; stands = shared_now }

    -- It isn't the last one of those that were done before.
    pub not_before : (place last : ℕ) → s.opening.dates ≡ suc last → dates_done k.shared.date ≡ suc last → place ≡ length k.plan.unit.agents + length k.plan.unit.variables + length k.plan.unit.streams
    not_before place last first is_done = absurd (omega (arith, later, first, is_done, done))

    -- There are few lines.
    pub given_few : IsLawful s → ((stream : ℕ) → stream < length s.unit.streams → length (shows s (history s (date + 1)) date stream) ≤ 131072) → k.given ≤ k.place + k.place + k.place * 131072 + 131072
    given_few lawful shown_few =
        let few : length (told_from s date k.place k.shown) ≤ k.place + k.place + k.place * 131072 + 131072 =
        told_few s date (λ agent. stops_few s date (date + 1) agent (history s (date + 1) agent) (lawful.actions (date + 1) agent).were_started) (λ variable. publications_few s (history s (date + 1)) date variable) shown_few k.place k.shown w.place in
        omega (arith, few, given_is)

    -- The next line is the one behind those given.
    pub next_given : (mark : Mark) (old new : List ℕ) → IsNextTold s date (end_of s date) k.place k.shown (Some mark) old new → slice_get (lines_on_date (state_of k)) k.given ≡ Some new
    next_given mark old new told =
        let front = told_from s date k.place k.shown in
        let event : Event = told.2 in
        let rest = told_front s date mark.place mark.shown told.0 told.1 in
        let all : told_from s date (end_of s date) 0 ≡ (front ++ event ∷ []) ++ rest.0 = rest.1 ∙ ap (λ xs. xs ++ rest.0) told.3 in
        ap (λ lines. slice_get lines k.given) lines_are
        ∙ ap (slice_get (map (event_line s date) (told_from s date (end_of s date) 0))) given_is
        ∙ mapped_at (event_line s date) (told_from s date (end_of s date) 0) front rest.0 event all
        ∙ ap Some (sym told.4)

    pub given_more : (mark : Mark) (old new : List ℕ) → IsNextTold s date (end_of s date) k.place k.shown (Some mark) old new → k.given + 1 ≡ given_at s (dates_done k.shared.date) mark.place mark.shown
    given_more mark old new told =
        let longer : length (told_from s date mark.place mark.shown) ≡ length (told_from s date k.place k.shown) + 1 = ap length told.3 ∙ length-append (told_from s date k.place k.shown) (told.2 ∷ []) in
        let given = told_now mark.place mark.shown in
        omega (arith, longer, given, given_is)

    -- Where no place is left that tells anything, all lines were given.
    pub all_given : (old new : List ℕ) → IsNextTold s date (end_of s date) k.place k.shown None old new → k.given ≡ length (lines_on_date (state_of k))
    all_given old new told = given_is ∙ ap length (sym told.0) ∙ sym (length-map (told_from s date (end_of s date) 0) (event_line s date)) ∙ ap length (sym lines_are)

    pub given_same : (old new : List ℕ) → IsNextTold s date (end_of s date) k.place k.shown None old new → k.given ≡ given_at s (dates_done k.shared.date) (end_of s date) 0
    given_same old new told = given_is ∙ ap length (sym told.0) ∙ sym (told_now (end_of s date) 0)
