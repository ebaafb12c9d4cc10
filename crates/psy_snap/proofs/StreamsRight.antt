-- The streams of a state that a run may go on from are right, and so is the state.
use Rattle.std.proofs.Common.{◌≡◌, ◌∙◌, ℕ, suc, ◌+◌, ◌<◌, Bool, true, List, [], ◌∷◌, ◌++◌, get_or, length, replicate, is_some, Option, Some, None, refl, sym, ap, subst, arith}
use Rattle.std.specs.Prelude.{⊤, ℤ, slice_get}
use Rattle.std.specs.List.{All, AllPairs}
use Rattle.std.proofs.lemmas.List.Elements.{All-head, All-tail}
use Rattle.std.proofs.lemmas.Option.{get_or_from_slice_get, none-some, same_Some, slice_get_within}
use Rattle.psy_base.specs.declared.message.Message.{Message}
use Rattle.psy_budget.specs.declared.charge.Stall.{Stall}
use Rattle.psy_code.specs.Views.{found_in}
use Rattle.psy_dates.specs.declared.opening.AgentOpening.{AgentOpening}
use Rattle.psy_dates.specs.declared.opening.Begun.{Begun}
use Rattle.psy_dates.specs.declared.opening.NextAction.{NextAction}
use Rattle.psy_dates.specs.declared.opening.Opening.{Opening as State}
use Rattle.psy_dates.specs.declared.opening.StreamOpening.{StreamOpening}
use Rattle.psy_dates.specs.declared.plan.Plan.{Plan}
use Rattle.psy_dates.specs.Beginnings.{behind, starts_by, stream_in}
use Rattle.psy_dates.specs.Plans.{IsPlan, opened_of}
use Rattle.psy_dates.proofs.lemmas.Fits.{queue_size}
use Rattle.psy_graph.specs.declared.graph.Graph.{Graph}
use Rattle.psy_graph.specs.Graphs.{AreGraphsBy, IsTimed}
use Rattle.psy_history.specs.Actions.{Next, System}
use Rattle.psy_history.specs.Openings.{AreHeldBefore, HasBegun, IsHeldBefore, IsSound}
use Rattle.psy_meaning.specs.KnownWays.{Listed}
use Rattle.psy_meaning.specs.RingSizes.{agent_timing}
use Rattle.psy_queue.specs.Order.{comes_before}
use Rattle.psy_snap.specs.Bytes.{spelling}
use Rattle.psy_snap.specs.Cuts.{Ask, message_asks}
use Rattle.psy_snap.specs.Faults.{faults_of, least_fault}
use Rattle.psy_snap.specs.Forms.{form_of, stream_form}
use Rattle.psy_snap.specs.Ranges.{FitsState}
use Rattle.psy_snap.specs.Reading.{begun_in, last_of}
use Rattle.psy_snap.specs.Shapes.{AreOf, HasForm, HasStreamForm}
use Rattle.psy_snap.proofs.AgentsRight.{Await, agents_count, agents_right}
use Rattle.psy_snap.proofs.Finds.{Rights}
use Rattle.psy_snap.proofs.MessagesFound.{AreRight, IsMessageRight, IsStreamRight, StandsBehind}
use Rattle.psy_snap.proofs.PartsKept.{are_by}
use Rattle.psy_snap.proofs.PartsRight.{parts_count}
use Rattle.psy_snap.proofs.StatesFound.{IsStateRight}
use Rattle.psy_snap.proofs.StatesGo.{no_fault}
use Rattle.psy_snap.proofs.StreamsRead.{last_pushed}
use Rattle.psy_snap.proofs.VariablesRight.{variables_right}
use Rattle.psy_tree.specs.Parts.{stream_at}

abbrev no_opening : AgentOpening
no_opening = record { begun = None; count = 0; slack = None }

abbrev no_messages : StreamOpening
no_messages = record { held = 0; messages = [] }

abbrev Before : Message → Message → Type 0
Before m n = comes_before m n ≡ true

-- The first of messages stands behind the one before them.
abbrev FrontBehind : Option Message → List Message → Type 0
FrontBehind before [] = ⊤
FrontBehind before (m ∷ messages) = StandsBehind before m

front_behind : (m : Message) (messages : List Message) → AllPairs Before (m ∷ messages) → FrontBehind (Some m) messages
front_behind m [] rise = tt
front_behind m (n ∷ messages) rise = rise 0 1 m (omega arith) (omega arith)

pairs_behind : (m : Message) (messages : List Message) → AllPairs Before (m ∷ messages) → AllPairs Before messages
pairs_behind m messages rise i j d less there = rise (suc i) (suc j) d (omega (arith, less)) (omega (arith, there))

module _ (date agents : ℕ) (begun : Bool) (Held : Message → Type 0)
    (right : (before : List Message) (m : Message) → StandsBehind (last_of before) m → Held m → IsMessageRight date agents begun before m) where
  rights_from : (before messages : List Message) → FrontBehind (last_of before) messages → All Held messages → AllPairs Before messages
      → Rights (λ (asks : List Ask) before m. IsMessageRight date agents begun before m) (replicate (length messages) (message_asks agents)) before messages
  rights_from before [] front held rise = tt
  rights_from before (m ∷ messages) front held rise = record {
    first = right before m front (All-head Held m messages held);
    second = rights_from (before ++ m ∷ []) messages
        (subst (λ o. FrontBehind o messages) (sym (last_pushed agents date begun before m)) (front_behind m messages rise)) (All-tail Held m messages held) (pairs_behind m messages rise);
  }

  none_before : (messages : List Message) → FrontBehind (last_of []) messages
  unfolding last_of
  none_before [] = tt
  none_before (m ∷ messages) = tt

  pub all_right : (messages : List Message) → All Held messages → AllPairs Before messages → AreRight date agents begun messages
  all_right messages held rise = rights_from [] messages (none_before messages) held rise

module _ (plan : Plan) (its : IsPlan plan) (graphs : List Graph) (drawn : AreGraphsBy plan.unit plan.nexts graphs)
    (timed : (agent : ℕ) → agent < length plan.unit.agents → IsTimed (agent_timing plan.unit plan.nexts agent)) (until : ℕ) (state : State)
    (has : HasForm (form_of (record plan { until = until }) graphs) state) (await : Await plan state) (inputs : List (List ℤ)) (stalls : ℕ → List Stall)
    (sound : IsSound (opened_of plan (behind plan state) inputs stalls) (Listed its.ways) plan.code) where
  abbrev system : System
  system = opened_of plan (behind plan state) inputs stalls

  abbrev planned : Plan
  planned = record plan { until = until }

  agents_are : length state.agents ≡ length plan.unit.agents
  agents_are = agents_count plan its graphs drawn timed until state has await inputs stalls sound

  streams_count : length state.streams ≡ length plan.unit.streams
  unfolding form_of
  streams_count = parts_count HasStreamForm (stream_form planned) (length plan.unit.streams) state.streams has.streams

  -- ---- who has begun

  early_by : (agent : ℕ) (copies : List ℤ) (action : Option NextAction) (n : Next) → starts_by plan state.date agent (Some (record { copies = copies; action = action })) ≡ Some n → n.start < state.date + 1
  early_by agent copies None n e = absurd (none-some n e)
  early_by agent copies (Some action) n e = omega (arith, ap (λ (m : Next). m.start) (same_Some _ n e))

  early : (agent : ℕ) (begun : Option Begun) (n : Next) → is_some begun ≡ true → starts_by plan state.date agent begun ≡ Some n → n.start < state.date + 1
  early agent None n some e = absurd cc
  early agent (Some begun) n some e = early_by agent begun.copies begun.action n e

  begun_found : (agent : ℕ) (o : Option AgentOpening) (n : Next) → slice_get state.agents agent ≡ o → begun_in state.agents agent ≡ true
      → found_in o (λ a. starts_by plan state.date agent a.begun) ≡ Some n → n.start < state.date + 1
  begun_found agent None n at some e = absurd (none-some n e)
  begun_found agent (Some a) n at some e =
      early agent a.begun n (ap (λ (x : AgentOpening). is_some x.begun) (sym (get_or_from_slice_get state.agents agent a no_opening at)) ∙ some) e

  has_begun : (agent : ℕ) → begun_in state.agents agent ≡ true → HasBegun system agent
  has_begun agent some n e = begun_found agent (slice_get state.agents agent) n refl some e

  -- ---- messages

  module _ (stream : ℕ) (s : StreamOpening) (at : slice_get state.streams stream ≡ Some s) where
    known : stream < length plan.unit.streams
    known = omega (arith, slice_get_within state.streams stream s at, streams_count)

    opening_is : stream_in state stream ≡ s
    opening_is = get_or_from_slice_get state.streams stream s no_messages at

    abbrev receiver : ℕ
    receiver = (stream_at plan.unit stream).receiver

    held_right : (before : List Message) (m : Message) → StandsBehind (last_of before) m → IsHeldBefore system stream m
        → IsMessageRight state.date (length state.agents) (begun_in state.agents receiver) before m
    held_right before m behind held = record {
      behind = behind;
      entered = omega (arith, held.entered);
      visible = held.visible;
      late = held.late;
      fresh = λ some. omega (arith, held.fresh (has_begun receiver some));
      sender = omega (arith, held.sender, agents_are);
      near = held.near;
    }

    there_right : IsStreamRight state.date state.agents (stream_form planned stream) (stream_in state stream)
    unfolding stream_form
    there_right =
        let held : AreHeldBefore system stream (stream_in state stream).messages = sound.messages stream in
        record {
          held = sound.most stream (get_or plan.sizes.queues stream 0) (queue_size plan its stream known);
          few = held.few;
          messages = all_right state.date (length state.agents) (begun_in state.agents receiver) (IsHeldBefore system stream) held_right (stream_in state stream).messages held.each held.rise;
        }

    stream_right : IsStreamRight state.date state.agents (stream_form planned stream) s
    stream_right = subst (IsStreamRight state.date state.agents (stream_form planned stream)) opening_is there_right

  streams_right : AreOf (IsStreamRight state.date state.agents) (form_of planned graphs).streams state.streams
  unfolding form_of
  streams_right = are_by (IsStreamRight state.date state.agents) (stream_form planned) (length plan.unit.streams) state.streams streams_count stream_right

  -- ---- all of it

  state_kept : IsStateRight (form_of planned graphs) state
  state_kept = record {
    date = has.date;
    agents = agents_right plan its graphs drawn timed until state has await inputs stalls sound;
    variables = variables_right plan its graphs until state has inputs stalls sound;
    streams = streams_right;
  }

  -- Nothing of it is at fault.
  pub none_at_fault : FitsState state → least_fault (faults_of (form_of planned graphs) (spelling state)) ≡ None
  none_at_fault fits = no_fault (form_of planned graphs) state has fits state_kept
