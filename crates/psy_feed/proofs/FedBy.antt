-- The arrows of a program: whence and whither they go, and that none is there twice.
use Rattle.std.proofs.Common.{◌≡◌, ◌≢◌, ◌<◌, ◌==◌, ◌||◌, ℕ, Bool, true, false, if◌then◌else◌, List, [], ◌∷◌, Option, Some, None, length, refl, sym}
use Rattle.std.proofs.Common.{ap, subst, ◌∙◌, inl, inr, true≢false}
use Rattle.std.specs.Prelude.{slice_get}
use Rattle.std.specs.List.{AllPairs, Contains}
use Rattle.std.proofs.lemmas.Bool.{cases_Bool, cases_lt, eq-eqb, eqb-true}
use Rattle.std.proofs.lemmas.List.{get_or_past}
use Rattle.std.proofs.lemmas.Option.{get_or_from_slice_get, none-some, same_Some, slice_get-get_or, slice_get_within}
use Rattle.psy_lists.proofs.lemmas.Tests.{or_true}
use Rattle.psy_tree.specs.declared.unit.StreamDecl.{StreamDecl}
use Rattle.psy_tree.specs.declared.unit.Unit.{Unit as Whole}
use Rattle.psy_tree.specs.declared.unit.VarDecl.{VarDecl}
use Rattle.psy_tree.specs.Parts.{agent_at, no_agent, no_stream, no_variable, stream_at, variable_at}
use Rattle.psy_tree.proofs.lemmas.Among.{Among, among, among_left, among_right, contains}
use Rattle.psy_meaning.specs.Sendings.{sendings_in}
use Rattle.psy_meaning.specs.Ways.{Sending}
use Rattle.psy_history.specs.Feeding.{Feeds, pasts_in, by_variable, by_stream}
use Rattle.psy_feed.specs.declared.text.Carried.{Carried}
use Rattle.psy_feed.specs.declared.text.Carried.TheVariants.{Variable, Stream}
use Rattle.psy_feed.specs.Arrows.{Arrow, Source, Agent, Input, arrows, look, look_arrow, look_arrows, looks, looks_of}
use Rattle.psy_feed.specs.Arrows.{send, send_arrow, send_arrows, sends, sends_of, source_by}
use Rattle.psy_feed.proofs.Apart.{Apart, all_pairs, apart_append, apart_range}
use Rattle.psy_feed.proofs.lemmas.Ranges.{among_below, among_cases, below_from}

-- ---- one thing or none

among_if : {A : Type 0} (b : Bool) (r x : A) → Among x (if b then r ∷ [] else []) → (b ≡ true) × (x ≡ r)
among_if true r x (inl e) = (refl, e)
among_if true r x (inr h) = absurd h
among_if false r x h = absurd h

in_if : {A : Type 0} (b : Bool) (r : A) → b ≡ true → Among r (if b then r ∷ [] else [])
in_if true r e = inl refl
in_if false r e = absurd (true≢false (sym e))

apart_if : {A : Type 0} (b : Bool) (r : A) → Apart (if b then r ∷ [] else [])
apart_if true r = (λ h. h, tt)
apart_if false r = tt

-- ---- the texts

looked : (variable : ℕ) (pasts : List ℕ) → looks variable pasts ≡ true → Among variable pasts
looked variable [] e = absurd (true≢false (sym e))
looked variable (past ∷ pasts) e = elim (cases_Bool (past == variable)) [
  | inl same ↦ inl (sym (eqb-true past variable same))
  | inr other ↦ inr (looked variable pasts (sym (ap (λ b. b || looks variable pasts) other) ∙ e))
]

looks_so : (variable : ℕ) (pasts : List ℕ) → Among variable pasts → looks variable pasts ≡ true
looks_so variable [] h = absurd h
looks_so variable (past ∷ pasts) (inl e) = ap (λ b. b || looks variable pasts) (eq-eqb past variable (sym e))
looks_so variable (past ∷ pasts) (inr h) = ap (λ b. (past == variable) || b) (looks_so variable pasts h) ∙ or_true (past == variable)

sent : (stream : ℕ) (sendings : List Sending) → sends stream sendings ≡ true → (s : Sending) × Among s sendings × (s.stream ≡ stream)
sent stream [] e = absurd (true≢false (sym e))
sent stream (s ∷ sendings) e = elim (cases_Bool (s.stream == stream)) [
  | inl same ↦ (s, inl refl, eqb-true s.stream stream same)
  | inr other ↦ (let r = sent stream sendings (sym (ap (λ b. b || sends stream sendings) other) ∙ e) in (r.0, inr r.1, r.2))
]

sends_so : (stream : ℕ) (sendings : List Sending) (s : Sending) → Among s sendings → s.stream ≡ stream → sends stream sendings ≡ true
sends_so stream [] s h e = absurd h
sends_so stream (t ∷ sendings) s (inl same) e = ap (λ b. b || sends stream sendings) (eq-eqb t.stream stream (sym (ap (λ (z : Sending). z.stream) same) ∙ e))
sends_so stream (t ∷ sendings) s (inr h) e = ap (λ b. (t.stream == stream) || b) (sends_so stream sendings s h e) ∙ or_true (t.stream == stream)

-- ---- ends of arrows

abbrev agent_of : Source → Option ℕ
agent_of (Agent agent) = Some agent
agent_of (Input variable) = None

abbrev input_of : Source → Option ℕ
input_of (Agent agent) = None
input_of (Input variable) = Some variable

abbrev variable_of : Carried → Option ℕ
variable_of (Variable variable) = Some variable
variable_of (Stream stream) = None

abbrev stream_of : Carried → Option ℕ
stream_of (Variable variable) = None
stream_of (Stream stream) = Some stream

owner_is : (variable : ℕ) (owner : Option ℕ) (from : ℕ) → source_by variable owner ≡ Agent from → owner ≡ Some from
owner_is variable None from e = absurd (none-some from (ap agent_of e))
owner_is variable (Some owner) from e = ap agent_of e

input_is : (variable : ℕ) (owner : Option ℕ) (input : ℕ) → source_by variable owner ≡ Input input → (owner ≡ None) × (variable ≡ input)
input_is variable None input e = (refl, same_Some variable input (ap input_of e))
input_is variable (Some owner) input e = absurd (none-some input (ap input_of e))

module _ (unit : Whole) where
  -- ---- which arrows there are

  pub look_from : (arrow : Arrow) → Among arrow (looks_of unit) → (variable agent : ℕ) × (variable < length unit.variables)
      × (looks variable (pasts_in (agent_at unit agent).stmts) ≡ true) × (arrow ≡ look unit variable agent)
  look_from arrow m =
      let v = below_from (look_arrows unit) arrow (length unit.variables) m in
      let a = below_from (look_arrow unit v.0) arrow (length unit.agents) v.2 in
      let is = among_if (looks v.0 (pasts_in (agent_at unit a.0).stmts)) (look unit v.0 a.0) arrow a.2 in
      (v.0, a.0, v.1, is.0, is.1)

  look_in : (variable agent : ℕ) → variable < length unit.variables → agent < length unit.agents → looks variable (pasts_in (agent_at unit agent).stmts) ≡ true
      → Among (look unit variable agent) (looks_of unit)
  look_in variable agent v a e = among_below (look_arrows unit) (look unit variable agent) (length unit.variables) variable v
      (among_below (look_arrow unit variable) (look unit variable agent) (length unit.agents) agent a
      (in_if (looks variable (pasts_in (agent_at unit agent).stmts)) (look unit variable agent) e))

  pub send_from : (arrow : Arrow) → Among arrow (sends_of unit) → (stream agent : ℕ) × (stream < length unit.streams)
      × (sends stream (sendings_in (agent_at unit agent).stmts) ≡ true) × (arrow ≡ send unit stream agent)
  send_from arrow m =
      let s = below_from (send_arrows unit) arrow (length unit.streams) m in
      let a = below_from (send_arrow unit s.0) arrow (length unit.agents) s.2 in
      let is = among_if (sends s.0 (sendings_in (agent_at unit a.0).stmts)) (send unit s.0 a.0) arrow a.2 in
      (s.0, a.0, s.1, is.0, is.1)

  send_in : (stream agent : ℕ) → stream < length unit.streams → agent < length unit.agents → sends stream (sendings_in (agent_at unit agent).stmts) ≡ true
      → Among (send unit stream agent) (sends_of unit)
  send_in stream agent s a e = among_below (send_arrows unit) (send unit stream agent) (length unit.streams) stream s
      (among_below (send_arrow unit stream) (send unit stream agent) (length unit.agents) agent a
      (in_if (sends stream (sendings_in (agent_at unit agent).stmts)) (send unit stream agent) e))

  -- an agent whose text has something is one of the program
  looker_within : (agent variable : ℕ) → Among variable (pasts_in (agent_at unit agent).stmts) → agent < length unit.agents
  looker_within agent variable m = elim (cases_lt agent (length unit.agents)) [
    | inl less ↦ less
    | inr past ↦ absurd (subst (λ a. Among variable (pasts_in a.stmts)) (get_or_past unit.agents agent no_agent past) m)
  ]

  sender_within : (agent : ℕ) (s : Sending) → Among s (sendings_in (agent_at unit agent).stmts) → agent < length unit.agents
  sender_within agent s m = elim (cases_lt agent (length unit.agents)) [
    | inl less ↦ less
    | inr past ↦ absurd (subst (λ a. Among s (sendings_in a.stmts)) (get_or_past unit.agents agent no_agent past) m)
  ]

  -- ---- agents

  -- There is an arrow between two agents.
  abbrev pub IsArrow : Source → ℕ → Type 0
  IsArrow from to = (arrow : Arrow) × Contains (arrows unit) arrow × (arrow.from ≡ from) × (arrow.to ≡ to)

  pub fed : (from to : ℕ) → IsArrow (Agent from) to → Feeds unit from to
  fed from to (arrow, c, begins, ends) = elim (among_cases arrow (looks_of unit) (sends_of unit) (among arrow (arrows unit) c)) [
    | inl m ↦ (
        let l = look_from arrow m in
        let is = sym l.4 in
        let owner = owner_is l.0 (variable_at unit l.0).owner from (ap (λ (a : Arrow). a.from) is ∙ begins) in
        let there = contains l.0 (pasts_in (agent_at unit l.1).stmts) (looked l.0 (pasts_in (agent_at unit l.1).stmts) l.3) in
        subst (Feeds unit from) (ap (λ (a : Arrow). a.to) is ∙ ends)
        (by_variable l.0 (variable_at unit l.0) (slice_get-get_or unit.variables l.0 no_variable l.2) owner there))
    | inr m ↦ (
        let l = send_from arrow m in
        let is = sym l.4 in
        let s = sent l.0 (sendings_in (agent_at unit l.1).stmts) l.3 in
        let there = contains s.0 (sendings_in (agent_at unit l.1).stmts) s.1 in
        let at = ap (slice_get unit.streams) s.2 ∙ slice_get-get_or unit.streams l.0 no_stream l.2 in
        let sender = same_Some l.1 from (ap (λ (a : Arrow). agent_of a.from) is ∙ ap agent_of begins) in
        subst (λ agent. Feeds unit agent to) sender (by_stream s.0 (stream_at unit l.0) there at (ap (λ (a : Arrow). a.to) is ∙ ends)))
  ]

  pub feeds : (from to : ℕ) → Feeds unit from to → IsArrow (Agent from) to
  feeds from to (by_variable variable v at owner there) =
      let m = among variable (pasts_in (agent_at unit to).stmts) there in
      let drawn = look_in variable to (slice_get_within unit.variables variable v at) (looker_within to variable m)
      (looks_so variable (pasts_in (agent_at unit to).stmts) m) in
      let is : variable_at unit variable ≡ v = get_or_from_slice_get unit.variables variable v no_variable at in (
        look unit variable to,
        contains (look unit variable to) (arrows unit) (among_left (look unit variable to) (looks_of unit) (sends_of unit) drawn),
        ap (λ (w : VarDecl). source_by variable w.owner) is ∙ ap (source_by variable) owner,
        refl,
      )
  feeds from to (by_stream s decl there at receiver) =
      let m = among s (sendings_in (agent_at unit from).stmts) there in
      let drawn = send_in s.stream from (slice_get_within unit.streams s.stream decl at) (sender_within from s m)
      (sends_so s.stream (sendings_in (agent_at unit from).stmts) s m refl) in
      let is : stream_at unit s.stream ≡ decl = get_or_from_slice_get unit.streams s.stream decl no_stream at in (
        send unit s.stream from,
        contains (send unit s.stream from) (arrows unit) (among_right (send unit s.stream from) (looks_of unit) (sends_of unit) drawn),
        refl,
        ap (λ (d : StreamDecl). d.receiver) is ∙ receiver,
      )

  -- ---- inputs

  -- The text of an agent looks at an input.
  abbrev pub IsLookAt : ℕ → ℕ → Type 0
  IsLookAt input to = (v : VarDecl) × (slice_get unit.variables input ≡ Some v) × (v.owner ≡ None) × Contains (pasts_in (agent_at unit to).stmts) input

  pub from_input : (input to : ℕ) → IsArrow (Input input) to → IsLookAt input to
  from_input input to (arrow, c, begins, ends) = elim (among_cases arrow (looks_of unit) (sends_of unit) (among arrow (arrows unit) c)) [
    | inl m ↦ (
        let l = look_from arrow m in
        let is = sym l.4 in
        let source = input_is l.0 (variable_at unit l.0).owner input (ap (λ (a : Arrow). a.from) is ∙ begins) in
        let there = contains l.0 (pasts_in (agent_at unit l.1).stmts) (looked l.0 (pasts_in (agent_at unit l.1).stmts) l.3) in
        let here : IsLookAt l.0 l.1 = (variable_at unit l.0, slice_get-get_or unit.variables l.0 no_variable l.2, source.0, there) in
        subst (λ i. IsLookAt i to) source.1 (subst (IsLookAt l.0) (ap (λ (a : Arrow). a.to) is ∙ ends) here))
    | inr m ↦ (let l = send_from arrow m in absurd (none-some input (ap (λ (a : Arrow). input_of a.from) (sym l.4) ∙ ap input_of begins)))
  ]

  pub to_looker : (input to : ℕ) → IsLookAt input to → IsArrow (Input input) to
  to_looker input to (v, at, none, there) =
      let m = among input (pasts_in (agent_at unit to).stmts) there in
      let drawn = look_in input to (slice_get_within unit.variables input v at) (looker_within to input m)
      (looks_so input (pasts_in (agent_at unit to).stmts) m) in
      let is : variable_at unit input ≡ v = get_or_from_slice_get unit.variables input v no_variable at in (
        look unit input to,
        contains (look unit input to) (arrows unit) (among_left (look unit input to) (looks_of unit) (sends_of unit) drawn),
        ap (λ (w : VarDecl). source_by input w.owner) is ∙ ap (source_by input) none,
        refl,
      )

  -- ---- each once

  look_is : (variable agent : ℕ) (x : Arrow) → Among x (look_arrow unit variable agent) → x ≡ look unit variable agent
  look_is variable agent x m = (among_if (looks variable (pasts_in (agent_at unit agent).stmts)) (look unit variable agent) x m).1

  send_is : (stream agent : ℕ) (x : Arrow) → Among x (send_arrow unit stream agent) → x ≡ send unit stream agent
  send_is stream agent x m = (among_if (sends stream (sendings_in (agent_at unit agent).stmts)) (send unit stream agent) x m).1

  carries_variable : (variable : ℕ) (x : Arrow) → Among x (look_arrows unit variable) → variable_of x.carries ≡ Some variable
  carries_variable variable x m =
      let a = below_from (look_arrow unit variable) x (length unit.agents) m in ap (λ (y : Arrow). variable_of y.carries) (look_is variable a.0 x a.2)

  carries_stream : (stream : ℕ) (x : Arrow) → Among x (send_arrows unit stream) → stream_of x.carries ≡ Some stream
  carries_stream stream x m =
      let a = below_from (send_arrow unit stream) x (length unit.agents) m in ap (λ (y : Arrow). stream_of y.carries) (send_is stream a.0 x a.2)

  looks_apart : Apart (looks_of unit)
  looks_apart = apart_range (look_arrows unit)
      (λ variable. apart_range (look_arrow unit variable) (λ agent. apart_if (looks variable (pasts_in (agent_at unit agent).stmts)) (look unit variable agent))
      (λ i j x here there. sym (ap (λ (y : Arrow). y.to) (look_is variable i x here)) ∙ ap (λ (y : Arrow). y.to) (look_is variable j x there)) 0
      (length unit.agents))
      (λ i j x here there. same_Some i j (sym (carries_variable i x here) ∙ carries_variable j x there)) 0 (length unit.variables)

  sends_apart : Apart (sends_of unit)
  sends_apart = apart_range (send_arrows unit)
      (λ stream. apart_range (send_arrow unit stream) (λ agent. apart_if (sends stream (sendings_in (agent_at unit agent).stmts)) (send unit stream agent))
      (λ i j x here there. same_Some i j
      (sym (ap (λ (y : Arrow). agent_of y.from) (send_is stream i x here)) ∙ ap (λ (y : Arrow). agent_of y.from) (send_is stream j x there)))
      0 (length unit.agents))
      (λ i j x here there. same_Some i j (sym (carries_stream i x here) ∙ carries_stream j x there)) 0 (length unit.streams)

  pub once : AllPairs (λ a b. a ≢ b) (arrows unit)
  once = all_pairs (arrows unit) (apart_append (looks_of unit) (sends_of unit) looks_apart sends_apart (λ x here there.
      let l = look_from x here in
      let s = send_from x there in
      none-some l.0 (sym (ap (λ (y : Arrow). variable_of y.carries) s.4) ∙ ap (λ (y : Arrow). variable_of y.carries) l.4)))
