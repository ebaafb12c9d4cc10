-- What an action sees of a stream after so many instructions: what it saw at its start, without the first messages, which it took.
use Rattle.std.proofs.Common.{◌≡◌, ℕ, zero, suc, ◌+◌, ◌<◌, ◌==◌, true, false, List, [], ◌∷◌, ◌++◌, Option, Some, None, map, length, refl, sym, ap, ◌∙◌, subst, inl, inr, arith}
use Rattle.std.specs.Prelude.{ℤ, cond, drop, if◌then◌else◌, slice_get, slice_set}
use Rattle.std.specs.List.{Contains, count_by, range_with_len}
use Rattle.std.proofs.lemmas.Bool.{cases_Bool}
use Rattle.std.proofs.lemmas.List.{drop-drop, drop-map}
use Rattle.std.proofs.lemmas.List.FromFn.{get_or-map-range_with_len, length-map-range_with_len}
use Rattle.std.proofs.lemmas.List.Sums.{sum_by_push}
use Rattle.std.proofs.lemmas.Option.{get_or_from_slice_get, slice_get-get_or, slice_get_within}
use Rattle.psy_base.specs.declared.message.Message.{Message}
use Rattle.psy_meaning.proofs.lemmas.Running.{same_running}
use Rattle.psy_code.specs.declared.code.AgentCode.{AgentCode}
use Rattle.psy_code.specs.declared.code.Code.{Code}
use Rattle.psy_code.specs.Execution.{Next, Went, Ended, Trapped, Stuck, Run, RunState, Running, RanTo, TrappedBy, NoRun, call_of, deeds_then, go_on, next_of, run_by, run_code, run_one, state_then, view_then}
use Rattle.psy_code.specs.Views.{Call, Past, Ready, Take, Send, Deeds, View, found_in, messages_of, taken_from, without_first}
use Rattle.psy_tree.specs.declared.unit.StreamDecl.{StreamDecl}
use Rattle.psy_history.specs.Actions.{Action, History, System, stream_of}
use Rattle.psy_history.specs.History.{action_of, history}
use Rattle.psy_history.specs.Visible.{seen_at, values_for, view_of}
use Rattle.psy_history.specs.Regular.{IsLawful, WasStarted, begun_by}
use Rattle.psy_history.proofs.StartedActions.{was_started}

-- ---- messages by stream

-- Messages put in a stream's place are found there,
set_here : (messages : List (Option (List ℤ))) (stream : ℕ) (values new : List ℤ) → found_in (slice_get messages stream) (λ m. m) ≡ Some values → found_in (slice_get (slice_set messages stream (Some new)) stream) (λ m. m) ≡ Some new
set_here [] stream values new is = absurd (let not : ◌≡◌ {A = Option (List ℤ)} None (Some values) = is in cc)
set_here (m ∷ messages) zero values new is = refl
set_here (m ∷ messages) (suc stream) values new is = set_here messages stream values new is

-- And leave those of the other streams.
set_there : (messages : List (Option (List ℤ))) (stream other : ℕ) (new : Option (List ℤ)) → (other ≡ stream → ⊥) → slice_get (slice_set messages other new) stream ≡ slice_get messages stream
set_there [] stream other new differ = refl
set_there (m ∷ messages) zero zero new differ = absurd (differ refl)
set_there (m ∷ messages) zero (suc other) new differ = refl
set_there (m ∷ messages) (suc stream) zero new differ = refl
set_there (m ∷ messages) (suc stream) (suc other) new differ = set_there messages stream other new (λ same. differ (ap suc same))

module _ (stream : ℕ) (values : List ℤ) where
  -- how many of these were taken from the stream
  abbrev count_of : List ℕ → ℕ
  count_of takes = count_by (λ t. t == stream) takes

  -- The view shows these values but for those that were taken.
  abbrev Shows : View → List ℕ → Type 0
  Shows view takes = messages_of view stream ≡ Some (drop (count_of takes) values)

  -- ---- one instruction

  -- One that is taken from the stream goes,
  shows_taken : (view : View) (takes : List ℕ) → Shows view takes → Shows (taken_from view stream) (takes ++ stream ∷ [])
  shows_taken view takes shows =
      let old : List ℤ = drop (count_of takes) values in
      let one : ◌≡◌ {A = ℕ} (cond (stream == stream) 1 0) 1 = grind arith in
      let count : count_of (takes ++ stream ∷ []) ≡ count_of takes + 1 = sum_by_push (λ t. cond (t == stream) 1 0) takes stream ∙ ap (λ n. count_of takes + n) one in
      ap (λ found. found_in (slice_get (slice_set view.messages stream (without_first found)) stream) (λ m. m)) shows
      ∙ set_here view.messages stream old (drop 1 old) shows ∙ ap Some (drop-drop 1 (count_of takes) values ∙ ap (λ n. drop n values) (sym count))

  -- and one that is taken from another leaves them.
  shows_other : (view : View) (takes : List ℕ) (other : ℕ) → (other == stream) ≡ false → Shows view takes → Shows (taken_from view other) (takes ++ other ∷ [])
  shows_other view takes other misses shows =
      let none : ◌≡◌ {A = ℕ} (cond (other == stream) 1 0) 0 = ap (λ b. cond b 1 0) misses in
      let count : count_of (takes ++ other ∷ []) ≡ count_of takes = sum_by_push (λ t. cond (t == stream) 1 0) takes other ∙ omega (arith, none) in
      ap (λ found. found_in found (λ m. m)) (set_there view.messages stream other (without_first (messages_of view other)) (λ same. grind (arith, same, misses)))
      ∙ shows ∙ ap (λ n. Some (drop n values)) (sym count)

  -- So the view shows what is left after any call,
  shows_then : (view : View) (deeds : Deeds) (call : Option Call) → Shows view deeds.takes → Shows (view_then view call) (deeds_then deeds call).takes
  shows_then view deeds None shows = shows
  shows_then view deeds (Some (Past variable back)) shows = shows
  shows_then view deeds (Some (Ready other)) shows = shows
  shows_then view deeds (Some (Send sent)) shows = shows
  shows_then view deeds (Some (Take other)) shows = elim (cases_Bool (other == stream)) [
    | inl hits ↦ (let same : other ≡ stream = grind (arith, hits) in subst (λ t. Shows (taken_from view t) (deeds.takes ++ t ∷ [])) (sym same) (shows_taken view deeds.takes shows))
    | inr misses ↦ shows_other view deeds.takes other misses shows
  ]

  -- after any instruction,
  shows_one : (s u : RunState) (call : Option Call) (next : Next) → run_by s call next ≡ Running u → Shows s.view s.deeds.takes → Shows u.view u.deeds.takes
  shows_one s u call (Went m) e shows = subst (λ (t : RunState). Shows t.view t.deeds.takes) (same_running (state_then s call m) u e) (shows_then s.view s.deeds call shows)
  shows_one s u call (Ended point m) e shows = cc
  shows_one s u call (Trapped kind) e shows = cc
  shows_one s u call Stuck e shows = cc

  -- ---- runs

  -- where a run goes on from there,
  shows_on : (t : RunState) (run : Run) (go : RunState → Run) → ((u : RunState) → run ≡ Running u → go u ≡ Running t → Shows t.view t.deeds.takes) → go_on run go ≡ Running t → Shows t.view t.deeds.takes
  shows_on t (Running u) go on e = on u refl e
  shows_on t (RanTo point u) go on e = cc
  shows_on t (TrappedBy kind u) go on e = cc
  shows_on t NoRun go on e = cc

  -- and after so many instructions.
  shows_after : (code : Code) (its : AgentCode) (n : ℕ) (s t : RunState) → run_code code its s n ≡ Running t → Shows s.view s.deeds.takes → Shows t.view t.deeds.takes
  shows_after code its zero s t e shows = subst (λ (u : RunState). Shows u.view u.deeds.takes) (same_running s t e) shows
  shows_after code its (suc n) s t e shows =
      shows_on t (run_one code its s) (λ u. run_code code its u n) (λ u one rest. shows_after code its n u t rest (shows_one s u (call_of code s.machine) (next_of code its s.view s.machine) one shows)) e

-- ---- actions

module _ (s : System) (agent stream : ℕ) (decl : StreamDecl) (at : slice_get s.unit.streams stream ≡ Some decl) (receives : decl.receiver ≡ agent) where
  -- The receiver's action sees the values of the stream's messages.
  begins_with : (h : History) (start : ℕ) (seen : ℕ → List Message) → messages_of (view_of s h agent start seen) stream ≡ Some (map (λ (m : Message). m.value) (seen stream))
  begins_with h start seen =
      let streams = length s.unit.streams in
      let values : ℕ → Option (List ℤ) = values_for s seen agent in
      let less : stream < streams = slice_get_within s.unit.streams stream decl at in
      let within : stream < length (map values (range_with_len 0 streams)) = omega (arith, less, length-map-range_with_len values 0 streams) in
      let found = slice_get-get_or (map values (range_with_len 0 streams)) stream None within ∙ ap Some (get_or-map-range_with_len values 0 streams stream stream None less (omega arith)) in
      let its : stream_of s stream ≡ decl = get_or_from_slice_get s.unit.streams stream decl _ at in
      let hits : ((stream_of s stream).receiver == agent) ≡ true = grind (arith, ap (λ (d : StreamDecl). d.receiver) its, receives) in
      ap (λ found. found_in found (λ m. m)) found ∙ ap (λ b. if b then Some (map (λ (m : Message). m.value) (seen stream)) else None) hits

  -- After so many instructions the action sees what it saw at its start but for the messages that it took.
  pub taken_so_far : IsLawful s → (dates : ℕ) (r : Action) → Contains (history s dates agent) r → (code : Code) (its : AgentCode) (instr : ℕ) (state : RunState) → run_code code its (begun_by its r) instr ≡ Running state
      → messages_of state.view stream ≡ Some (map (λ (m : Message). m.value) (drop (count_by (λ t. t == stream) state.deeds.takes) (r.seen stream)))
  taken_so_far lawful dates r there code its instr state running =
      let values : List ℤ = map (λ (m : Message). m.value) (r.seen stream) in
      shows_after stream values code its instr (begun_by its r) state running (begins (was_started s lawful dates agent r there))
      ∙ ap Some (drop-map (λ (m : Message). m.value) (count_by (λ t. t == stream) state.deeds.takes) (r.seen stream))
    where
      begins : (before : List Action) × WasStarted s dates agent before r → messages_of r.view stream ≡ Some (map (λ (m : Message). m.value) (r.seen stream))
      begins (before, was) =
          subst (λ (x : Action). messages_of x.view stream ≡ Some (map (λ (m : Message). m.value) (x.seen stream))) {x = action_of s (history s was.next.start) agent was.next} (sym was.made)
          (begins_with (history s was.next.start) was.next.start (seen_at s (history s was.next.start) was.next.start))
