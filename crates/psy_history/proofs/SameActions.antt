-- Actions that are the same but for their charges: what they leave of streams, commit, stop and send, and where the next one starts.
use Rattle.std.proofs.Common.{◌≡◌, ℕ, ◌+◌, ◌&&◌, not, List, [], ◌∷◌, ◌++◌, Some, refl, sym, ap, ap₂, ◌∙◌}
use Rattle.std.specs.List.{flat_map, list_any}
use Rattle.std.specs.Prelude.{ℤ, ◌==◌, if◌then◌else◌}
use Rattle.psy_base.specs.declared.message.Message.{Message}
use Rattle.psy_budget.specs.declared.charge.Stall.{Stall}
use Rattle.psy_code.specs.declared.look.Sent.{Sent}
use Rattle.psy_tree.specs.declared.unit.Unit.{Unit as Whole}
use Rattle.psy_history.specs.Actions.{Action, History, System, Verdict, Done, is_done_by, next_of, publishing, variable_of}
use Rattle.psy_history.specs.Lines.{Event, Publish, is_date, publications, publications_by, stops_of}
use Rattle.psy_history.specs.Visible.{commit, committed_in, is_same, is_untaken, message_of, messages_by, messages_from, published, published_by, taken}
use Rattle.psy_history.specs.Compiled.{stated}
use Rattle.psy_history.specs.Feeding.{AreSame, IsSame}

-- What holds of no actions, and is kept by two that are the same, holds of actions that are the same.
by_same : (P : List Action → List Action → Type 0) → P [] [] → ((r q : Action) (rs qs : List Action) → IsSame r q → P rs qs → P (r ∷ rs) (q ∷ qs)) → (rs qs : List Action) → AreSame rs qs → P rs qs
by_same P none more [] [] h = none
by_same P none more [] (q ∷ qs) h = absurd h
by_same P none more (r ∷ rs) [] h = absurd h
by_same P none more (r ∷ rs) (q ∷ qs) h = more r q rs qs h.0 (by_same P none more rs qs h.1)

-- The same messages of a stream are untaken.
pub untaken_same : (stream by : ℕ) (m : Message) (rs qs : List Action) → AreSame rs qs → is_untaken stream by rs m ≡ is_untaken stream by qs m
untaken_same stream by m = by_same (λ rs qs. is_untaken stream by rs m ≡ is_untaken stream by qs m) refl (λ r q rs qs one rest.
    ap₂ (λ verdict took. not (is_done_by by verdict && list_any (is_same m) took) && is_untaken stream by rs m) one.verdict (one.taken stream)
    ∙ ap (λ left. not (is_done_by by q.verdict && list_any (is_same m) (taken q stream)) && left) rest)

-- There are the same stops.
pub stops_same : (date : ℕ) (rs qs : List Action) → AreSame rs qs → stops_of date rs ≡ stops_of date qs
stops_same date = by_same (λ rs qs. stops_of date rs ≡ stops_of date qs) refl (λ r q rs qs one rest.
    ap₂ (λ (stops : List Event) more. stops ++ more) (rw (one.deadline, one.agent, one.verdict) refl) rest)

module _ (unit : Whole) (nexts : List (List (List ℕ))) (stalls others : ℕ → List Stall) (inputs : List (List ℤ)) where
  abbrev these : System
  these = stated unit nexts stalls inputs

  abbrev those : System
  those = stated unit nexts others inputs

  -- The next action starts where the other does.
  pub next_same : (agent : ℕ) (rs qs : List Action) → AreSame rs qs → next_of these agent rs ≡ next_of those agent qs
  next_same agent = by_same (λ rs qs. next_of these agent rs ≡ next_of those agent qs) refl (λ r q rs qs one rest. rw (one.number, one.after, one.verdict) refl)

  -- The same value is committed.
  pub committed_same : (variable by : ℕ) (rs qs : List Action) → AreSame rs qs → committed_in these variable by rs ≡ committed_in those variable by qs
  committed_same variable by = by_same (λ rs qs. committed_in these variable by rs ≡ committed_in those variable by qs) refl (λ r q rs qs one rest.
      ap (λ earlier. commit variable by r.after earlier r.verdict) rest ∙ ap₂ (λ after verdict. commit variable by after (committed_in those variable by qs) verdict) one.after one.verdict)

  sends_same : (stream agent end number : ℕ) (sends : List Sent) → messages_from these stream agent end number sends ≡ messages_from those stream agent end number sends
  sends_same stream agent end number [] = refl
  sends_same stream agent end number (sent ∷ sends) = ap (λ rest. if sent.stream == stream then message_of those agent end number sent ∷ rest else rest) (sends_same stream agent end (number + 1) sends)

  by_verdict : (stream agent : ℕ) (sends : List Sent) (verdict : Verdict) → messages_by these stream agent sends verdict ≡ messages_by those stream agent sends verdict
  by_verdict stream agent sends (Done point end) = sends_same stream agent end 0 sends
  by_verdict stream agent sends verdict = refl

  -- The same messages are sent to a stream.
  pub messages_of_same : (stream : ℕ) (rs qs : List Action) → AreSame rs qs
      → flat_map (λ (r : Action). messages_by these stream r.agent r.deeds.sends r.verdict) rs ≡ flat_map (λ (r : Action). messages_by those stream r.agent r.deeds.sends r.verdict) qs
  messages_of_same stream = by_same (λ rs qs. flat_map (λ (r : Action). messages_by these stream r.agent r.deeds.sends r.verdict) rs ≡ flat_map (λ (r : Action). messages_by those stream r.agent r.deeds.sends r.verdict) qs) refl (λ r q rs qs one rest.
      ap₂ (λ (first : List Message) more. first ++ more) (by_verdict stream r.agent r.deeds.sends r.verdict ∙ rw (one.agent, one.deeds, one.verdict) refl) rest)

  -- A variable of an agent whose actions are the same publishes the same.
  pub publications_same : (h k : History) (date variable owner : ℕ) → (variable_of these variable).owner ≡ Some owner → AreSame (h owner) (k owner) → publications these h date variable ≡ publications those k date variable
  publications_same h k date variable owner is same =
      let value : published these h variable date ≡ published those k variable date =
      ap (published_by these h variable date) is ∙ committed_same variable date (h owner) (k owner) same ∙ sym (ap (published_by those k variable date) is) in
      ap (publications_by these h date variable) is
      ∙ ap (λ v. if is_date (publishing these variable) date then Publish variable v ∷ [] else []) value
      ∙ sym (ap (publications_by those k date variable) is)
