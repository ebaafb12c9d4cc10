-- What an action sees by queues that stand for a history, once it has sent and taken so much.
use Rattle.std.proofs.Common.{◌≡◌, refl, sym, ap, ◌∙◌, inl, inr, arith}
use Rattle.std.specs.Prelude.{ℕ, ◌+◌, ◌==◌, ◌<◌, true, List, [], drop, filter, get_or, length, map, nat_le, option_map, take, Option, Some, None, slice_get, ℤ}
use Rattle.std.specs.List.{count_by}
use Rattle.std.proofs.lemmas.Bool.{cases_lt, eqb-true}
use Rattle.std.proofs.lemmas.List.{drop_all, drop-map, length-take, take-map}
use Rattle.std.proofs.lemmas.Option.{get_or_from_slice_get, slice_get-get_or, slice_get-map, slice_get_within}
use Rattle.psy_base.specs.declared.message.Message.{Message}
use Rattle.psy_base.specs.declared.sizes.Sizes.{Sizes}
use Rattle.psy_meaning.proofs.lemmas.Running.{same_running}
use Rattle.psy_code.specs.declared.code.Code.{Code}
use Rattle.psy_code.specs.declared.look.Sent.{Sent}
use Rattle.psy_code.specs.Execution.{RunState, Running, call_of, run_code}
use Rattle.psy_code.specs.Views.{Past, Send, messages_of, past_of}
use Rattle.psy_dates.specs.Outboxes.{Outboxed}
use Rattle.psy_history.specs.Queues.{queue_of}
use Rattle.psy_history.specs.Regular.{begun_by}
use Rattle.psy_history.specs.Actions.{Action, System, stream_of}
use Rattle.psy_meaning.specs.CodeWays.{agent_code_at}
use Rattle.psy_meaning.specs.Kept.{Receives}
use Rattle.psy_queue.specs.Order.{Queued}
use Rattle.psy_tree.specs.declared.unit.StreamDecl.{StreamDecl}
use Rattle.psy_kernel.specs.Cycles.{ActsIn, AreQueuesOf}
use Rattle.psy_kernel.specs.Seeing.{Sight, left_in, seen_by, sight_in, view_in, window_in}
use Rattle.psy_kernel.specs.Standing.{HasDone, charge_after}
use Rattle.psy_kernel.proofs.StreamsLeft.{left_is, messages_are}
use Rattle.psy_tree.specs.Parts.{no_stream}

-- ---- lists

-- As many as there are of the first so many are dropped as so many
drop_taken : {X : Type 0} (n : ℕ) (xs : List X) → drop (length (take n xs)) xs ≡ drop n xs
drop_taken n xs = elim (cases_lt n (length xs)) [
  | inl less ↦ let same : length (take n xs) ≡ n = omega (arith, less, length-take n xs) in ap (λ m. drop m xs) same
  | inr past ↦ drop_all (length (take n xs)) xs (omega (arith, past, length-take n xs)) ∙ sym (drop_all n xs past)
]

-- ---- streams

-- The declaration of a stream that an agent receives
pub record IsReceived (s : System) (agent stream : ℕ) : Type 0 where
  pub decl : StreamDecl
  pub at : slice_get s.unit.streams stream ≡ Some decl
  pub own : decl.receiver ≡ agent

mapped : (agent : ℕ) (streams : List StreamDecl) (stream : ℕ) (o : Option StreamDecl) → slice_get streams stream ≡ o → option_map (λ (d : StreamDecl). d.receiver == agent) o ≡ Some true
    → (decl : StreamDecl) × (slice_get streams stream ≡ Some decl) × (decl.receiver ≡ agent)
mapped agent streams stream None e is = absurd (let wrong : None ≡ Some true = is in cc)
mapped agent streams stream (Some decl) e is = (decl, e, eqb-true decl.receiver agent (let test : (decl.receiver == agent) ≡ true = cc in test))

pub received : (s : System) (agent stream : ℕ) → Receives s.unit agent stream → IsReceived s agent stream
received s agent stream its =
    let w = mapped agent s.unit.streams stream (slice_get s.unit.streams stream) refl (sym (slice_get-map (λ (d : StreamDecl). d.receiver == agent) s.unit.streams stream) ∙ its) in
    record { decl = w.0; at = w.1; own = w.2 }

module _ (s : System) (sizes : Sizes) (code : Code) (r : Action) (had date : ℕ) (rings : List (List ℤ)) (queues : List Queued) (stand : AreQueuesOf s sizes (date + 1) queues) (taken : List ℕ) (as_many : length taken ≡ length s.unit.streams) (outbox : Outboxed)
    (did : HasDone s code r (charge_after s r had).paid outbox.sends taken)
    (look : (stream : ℕ) (decl : StreamDecl) → slice_get s.unit.streams stream ≡ Some decl → decl.receiver ≡ r.agent
    → (filter (λ (m : Message). nat_le m.visible r.start) (queue_of s (date + 1) stream) ≡ r.seen stream) × (take (length (r.seen stream)) (queue_of s (date + 1) stream) ≡ r.seen stream))
    (takes : (stream : ℕ) (decl : StreamDecl) (state : RunState) → slice_get s.unit.streams stream ≡ Some decl → decl.receiver ≡ r.agent
    → run_code code (agent_code_at code r.agent) (begun_by (agent_code_at code r.agent) r) (charge_after s r had).paid ≡ Running state
    → messages_of state.view stream ≡ Some (map (λ (m : Message). m.value) (drop (count_by (λ t. t == stream) state.deeds.takes) (r.seen stream))))
    (sends : (state : RunState) (sent : Sent) → run_code code (agent_code_at code r.agent) (begun_by (agent_code_at code r.agent) r) (charge_after s r had).paid ≡ Running state
    → call_of code state.machine ≡ Some (Send sent) → length state.deeds.sends < outbox.size)
    (pasts : (messages : List (Option (List ℤ))) (state : RunState) → run_code code (agent_code_at code r.agent) (begun_by (agent_code_at code r.agent) r) (charge_after s r had).paid ≡ Running state
    → (variable back : ℕ) → call_of code state.machine ≡ Some (Past variable back) → past_of (view_in rings s.unit.variables s.unit.clocks r.start date messages) variable back ≡ past_of r.view variable back) where
  abbrev sight : Sight
  sight = sight_in s.unit rings queues r.agent r.start date

  seen_is : (stream : ℕ) (queue : Queued) → Receives s.unit r.agent stream → slice_get queues stream ≡ Some queue → seen_by queue.messages r.start ≡ length (r.seen stream)
  seen_is stream queue its at =
      let d = received s r.agent stream its in
      ap (λ messages. seen_by messages r.start) (stand.1 stream queue at).messages ∙ ap length (look stream d.decl d.at d.own).0

  -- what is left of a stream that it receives is what its running code sees
  left_seen : (state : RunState) → run_code code (agent_code_at code r.agent) (begun_by (agent_code_at code r.agent) r) (charge_after s r had).paid ≡ Running state
      → (stream : ℕ) → Receives s.unit r.agent stream → messages_of (window_in sight taken outbox None).view stream ≡ messages_of state.view stream
  left_seen state running stream its =
      let d = received s r.agent stream its in
      let known : stream < length s.unit.streams = slice_get_within s.unit.streams stream d.decl d.at in
      let n : ℕ = get_or taken stream 0 in
      let at : slice_get taken stream ≡ Some n = slice_get-get_or taken stream 0 (omega (arith, known, as_many)) in
      let queue : Queued = get_or queues stream (record { size = 0; messages = [] }) in
      let queued : slice_get queues stream ≡ Some queue = slice_get-get_or queues stream (record { size = 0; messages = [] }) (omega (arith, known, stand.0)) in
      let seen : List Message = r.seen stream in
      let same : did.state ≡ state = same_running did.state state (sym did.running ∙ running) in
      let own : (stream_of s stream).receiver ≡ r.agent = ap (λ (decl : StreamDecl). decl.receiver) (get_or_from_slice_get s.unit.streams stream d.decl no_stream d.at) ∙ d.own in
      let n_is : n ≡ length (take (count_by (λ t. t == stream) state.deeds.takes) seen) = did.took stream n at own ∙ ap (λ (t : RunState). length (take (count_by (λ t. t == stream) t.deeds.takes) seen)) same in
      let front : take (seen_by queue.messages r.start) queue.messages ≡ seen = ap (λ k. take k queue.messages) (seen_is stream queue its queued) ∙ ap (take (length seen)) (stand.1 stream queue queued).messages ∙ (look stream d.decl d.at d.own).1 in
      let left : left_in r.start n queue ≡ map (λ (m : Message). m.value) (drop (count_by (λ t. t == stream) state.deeds.takes) seen) =
      ap (drop n) (take-map (λ (m : Message). m.value) (seen_by queue.messages r.start) queue.messages ∙ ap (map (λ (m : Message). m.value)) front)
      ∙ drop-map (λ (m : Message). m.value) n seen
      ∙ ap (λ k. map (λ (m : Message). m.value) (drop k seen)) n_is ∙ ap (map (λ (m : Message). m.value)) (drop_taken (count_by (λ t. t == stream) state.deeds.takes) seen) in
      messages_are sight taken (window_in sight taken outbox None).view refl stream ∙ left_is sight taken stream n queue its at queued ∙ ap (λ values. Some values) left
      ∙ sym (takes stream d.decl state d.at d.own running)

  pub acts : ActsIn s code r had sight taken outbox
  acts = record {
    shows = record {
      pasts = pasts (window_in sight taken outbox None).view.messages;
      messages = left_seen;
      streams = refl;
      clocks = refl;
      room = λ state running sent call. (
          let same : did.state ≡ state = same_running did.state state (sym did.running ∙ running) in
          let sent_is : outbox.sends ≡ state.deeds.sends = did.sent ∙ ap (λ (t : RunState). t.deeds.sends) same in
          let less = sends state sent running call in
          omega (arith, less, ap length sent_is)
          );
    };
    sees = record {
      agent = refl;
      streams = refl;
      queued = stand.0;
      counted = as_many;
      seen = seen_is;
    };
    did = did;
  }
