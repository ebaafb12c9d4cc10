-- The messages that enter a stream at a date: those of its history that have this entry.
use Rattle.std.proofs.Common.{◌≡◌, ◌↔◌, ℕ, suc, ◌<◌, ◌≤◌, true, false, if◌then◌else◌, List, [], ◌∷◌, length, refl, sym, ap, ◌∙◌, subst, inl, inr, arith}
use Rattle.std.specs.List.{Contains, range_with_len}
use Rattle.std.proofs.lemmas.Bool.{cases_Bool, cond_both, eq-eqb, eqb-true}
use Rattle.std.proofs.lemmas.List.Elements.{All-contains}
use Rattle.psy_base.specs.declared.message.Message.{Message}
use Rattle.psy_lists.proofs.lemmas.Members.{contains_none, contains_front, front_or_behind, flat_map_in, flat_map_from}
use Rattle.psy_history.specs.Actions.{Action, System, Verdict, Done, Trapped, Overran}
use Rattle.psy_history.specs.History.{history}
use Rattle.psy_history.specs.Visible.{is_same, messages, messages_by}
use Rattle.psy_history.specs.Queues.{ends_at, entering, entering_of}
use Rattle.psy_history.specs.Regular.{IsRegular}
use Rattle.psy_history.proofs.Growth.{stays_started}
use Rattle.psy_history.proofs.LastActions.{ended_before, last_began}
use Rattle.psy_history.proofs.MessageOrder.{differing, pairs_none}
use Rattle.psy_history.proofs.Reached.{in_range, of_range}
use Rattle.psy_history.proofs.SentMessages.{AreClockLaws, HasStreams, IsBefore, apart, by_apart, contains_messages, known, pairs_flat_map, range_rises, sent_is}

-- An action that ends at a date has it as its end.
ends_there : (date : ℕ) (verdict : Verdict) → ends_at date verdict ≡ true → (point end : ℕ) → verdict ≡ Done point end → end ≡ date
ends_there date (Done to at) is point end e = (let there = eqb-true at date is in cc)
ends_there date (Trapped kind) is point end e = absurd cc
ends_there date Overran is point end e = absurd cc

module _ (s : System) (streams : HasStreams s) (laws : AreClockLaws) (date stream : ℕ) where
  abbrev sent_by : Action → List Message
  sent_by r = messages_by s stream r.agent r.deeds.sends r.verdict

  -- Of an agent's last action
  from_last : (actions : List Action) (m : Message) → Contains (entering_of s date stream actions) m → (r : Action) × Contains actions r × Contains (sent_by r) m × (ends_at date r.verdict ≡ true)
  from_last [] m c = absurd (contains_none m c)
  from_last (r ∷ before) m c = elim (cases_Bool (ends_at date r.verdict)) [
    | inl ends ↦ (r, contains_front r before, subst (λ b. Contains (if b then sent_by r else []) m) ends c, ends)
    | inr goes ↦ absurd (contains_none m (subst (λ b. Contains (if b then sent_by r else []) m) goes c))
  ]

  abbrev of_agent : ℕ → List Message
  of_agent agent = entering_of s date stream (history s date agent)

  -- So each message of an agent that enters has the date as its entry and the agent as its sender.
  entry_of : (agent : ℕ) (m : Message) → Contains (of_agent agent) m → (m.entry ≡ date) × (m.sender ≡ agent) × ((r : Action) × Contains (history s date agent) r × Contains (sent_by r) m)
  entry_of agent m c =
      let (r, there, its, ends) = from_last (history s date agent) m c in
      let is = sent_is s streams laws stream r m its in
      let regular = All-contains (IsRegular s agent) (history s date agent) r (streams.lawful.actions date agent).each there in
      (ends_there date r.verdict ends is.point m.entry is.done, is.sender ∙ regular.agent_is, (r, there, its))

  -- What enters is a message that is known when the date is done, and has it as its entry,
  from_entering : (m : Message) → Contains (entering s date stream) m → Contains (messages s (history s (suc date)) stream) m × (m.entry ≡ date)
  from_entering m c =
      let (agent, among, within) = flat_map_from of_agent (range_with_len 0 (length s.unit.agents)) m c in
      let (entry, sender, (r, there, its)) = entry_of agent m within in
      let known_then = stays_started s date (suc date) agent r (omega arith) there in
      ((contains_messages s streams (history s (suc date)) stream m).1 (inr (agent, r, of_range agent (length s.unit.agents) among, known_then, its)), entry)

  -- an action that ends at a date is its agent's last one before that date
  is_last : (agent : ℕ) (actions : List Action) (r : Action) (m : Message) (point : ℕ) → history s date agent ≡ actions → Contains actions r → r.verdict ≡ Done point date → Contains (sent_by r) m → Contains (entering_of s date stream actions) m
  is_last agent [] r m point e c done its = absurd (contains_none r c)
  is_last agent (x ∷ before) r m point e c done its = elim (front_or_behind x before r c) [
    | inl same ↦ (
        let ends : ends_at date x.verdict ≡ true = ap (λ (y : Action). ends_at date y.verdict) same ∙ ap (ends_at date) done ∙ eq-eqb date date refl in
        subst (λ b. Contains (if b then sent_by x else []) m) (sym ends) (subst (λ y. Contains (sent_by y) m) (sym same) its))
    | inr behind ↦ (
        let began = last_began s date agent x before e in
        let (to, end, ended, early) = ended_before s streams.lawful date agent x before e r behind in
        let at : Done point date ≡ Done to end = sym done ∙ ended in
        let is : date ≡ end = cc in
        absurd (omega (arith, is, early, began.0)))
  ]

  -- and each such message enters, behind the dates that were done before.
  into_entering : s.opening.dates ≤ date → (m : Message) → Contains (messages s (history s (suc date)) stream) m → m.entry ≡ date → Contains (entering s date stream) m
  into_entering later m c at = elim ((contains_messages s streams (history s (suc date)) stream m).0 c) [
    | inl held ↦ absurd (omega (arith, at, later, (All-contains (IsBefore s.opening.dates) (s.opening.messages stream) m (streams.held stream) held).entered))
    | inr (agent, r, less, there, its) ↦ (
        let is = sent_is s streams laws stream r m its in
        let regular = All-contains (IsRegular s agent) (history s (suc date) agent) r (streams.lawful.actions (suc date) agent).each there in
        let early : r.start < date = omega (arith, at, regular.due, (regular.ends is.point m.entry is.done).2) in
        let done : r.verdict ≡ Done is.point date = is.done ∙ ap (Done is.point) at in
        flat_map_in of_agent (range_with_len 0 (length s.unit.agents)) agent m (in_range agent (length s.unit.agents) less)
        (is_last agent (history s date agent) r m is.point refl (known s streams (suc date) date agent r there early) done its))
  ]

  -- So the messages of that entry enter, and no others.
  pub contains_entering : s.opening.dates ≤ date → (m : Message) → Contains (entering s date stream) m ↔ (Contains (messages s (history s (suc date)) stream) m × (m.entry ≡ date))
  contains_entering later m = (from_entering m, λ h. into_entering later m h.0 h.1)

  -- ---- no two are the same

  last_apart : (actions : List Action) → differing (entering_of s date stream actions)
  last_apart [] = pairs_none (λ m n. is_same m n ≡ false)
  last_apart (r ∷ before) = cond_both (ends_at date r.verdict) (sent_by r) [] differing (λ ends. by_apart s streams laws stream r.agent r.deeds.sends r.verdict) (λ goes. pairs_none (λ m n. is_same m n ≡ false))

  agents_apart : (agent other : ℕ) → agent < other → (m n : Message) → Contains (of_agent agent) m → Contains (of_agent other) n → is_same m n ≡ false
  agents_apart agent other less m n c d =
      let first = (entry_of agent m c).1 in
      let second = (entry_of other n d).1 in
      apart m n (λ entry sender number. omega (arith, sender, first, second, less))

  -- No two messages that enter at a date are the same.
  pub differing_entering : differing (entering s date stream)
  differing_entering =
      pairs_flat_map (λ i j. i < j) (λ m n. is_same m n ≡ false) of_agent agents_apart (range_with_len 0 (length s.unit.agents)) (range_rises 0 (length s.unit.agents)) (λ agent c. last_apart (history s date agent))
