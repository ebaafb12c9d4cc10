-- The lines of an agent are those of its stops and of its variables' values: where these are the same, so are the lines.
use Rattle.std.proofs.Common.{◌≡◌, ◌∙◌, refl, sym, ap, ap₂, subst, ℕ, zero, suc, ◌+◌, ◌<◌, ◌≤◌, ◌==◌, Bool, true, false, if◌then◌else◌, List, [], ◌∷◌, ◌++◌, map, filter, length, slice_get, ◌⊎◌, Option, None, Some, ℤ, All, eqb-true, arith, inl, inr}
use Rattle.std.specs.List.{Contains, flat_map, range_with_len}
use Rattle.std.proofs.lemmas.List.Elements.{All-cons, All-head, All-nil, All-tail, filter-append, filter_agree}
use Rattle.std.proofs.lemmas.Option.{slice_get-get_or}
use Rattle.std.proofs.Math.Nat.{eq-or-lt_of_le}
use Rattle.psy_base.specs.declared.message.Message.{Message}
use Rattle.psy_budget.specs.declared.charge.Stall.{Stall}
use Rattle.psy_history.specs.Compiled.{stated}
use Rattle.psy_history.specs.Feeding.{OverranAlike}
use Rattle.psy_kernel.specs.Texts.{event_line, text_of}
use Rattle.psy_history.specs.Actions.{Action, History, Next, System, Verdict, Done, Trapped, Overran, next_of, publishing, variable_of}
use Rattle.psy_history.specs.History.{action_of, history, with_start}
use Rattle.psy_history.specs.Lines.{Event, Stop, Publish, Show, events, is_date, publications, publications_by, shows, stops_by, stops_of}
use Rattle.psy_history.specs.Visible.{messages, published}
use Rattle.psy_tree.specs.declared.unit.Unit.{Unit as Whole}
use Rattle.psy_tree.specs.declared.unit.VarDecl.{VarDecl}
use Rattle.psy_run.specs.OwnLines.{is_own, own_lines, own_text}

-- ---- lists

-- Two functions that agree on a range give the same there.
flat_map-range : {X : Type 0} (f g : ℕ → List X) (a n : ℕ) → ((k : ℕ) → a ≤ k → k < a + n → f k ≡ g k) → flat_map f (range_with_len a n) ≡ flat_map g (range_with_len a n)
flat_map-range f g a zero same = refl
flat_map-range f g a (suc n) same = ap₂ (λ xs ys. xs ++ ys) (same a (omega arith) (omega arith)) (flat_map-range f g (a + 1) n (λ k low high. same k (omega (arith, low)) (omega (arith, high))))

-- What is kept of lists one behind the other
filter-flat_map : {X Y : Type 0} (p : Y → Bool) (f : X → List Y) (xs : List X) → filter p (flat_map f xs) ≡ flat_map (λ x. filter p (f x)) xs
filter-flat_map p f [] = refl
filter-flat_map p f (x ∷ xs) = filter-append p (f x) (flat_map f xs) ∙ ap (λ ys. filter p (f x) ++ ys) (filter-flat_map p f xs)

-- ---- the history

module _ (s : System) (agent : ℕ) where
  -- Each action of an agent names it.
  its_own : (dates : ℕ) → All (λ (r : Action). r.agent ≡ agent) (history s dates agent)
  its_own zero = All-nil (λ (r : Action). r.agent ≡ agent)
  its_own (suc date) = by_next (next_of s agent (history s date agent)) (its_own date)
    where
      by_test : (n : Next) (b : Bool) → All (λ (r : Action). r.agent ≡ agent) (history s date agent) → All (λ (r : Action). r.agent ≡ agent) (if b then action_of s (history s date) agent n ∷ history s date agent else history s date agent)
      by_test n true before = All-cons (λ (r : Action). r.agent ≡ agent) (action_of s (history s date) agent n) (history s date agent) refl before
      by_test n false before = before

      by_next : (next : Option Next) → All (λ (r : Action). r.agent ≡ agent) (history s date agent) → All (λ (r : Action). r.agent ≡ agent) (with_start s (history s date) date agent (history s date agent) next)
      by_next None before = before
      by_next (Some n) before = by_test n (n.start == date) before

  -- An action stays in the history.
  kept_next : (date : ℕ) (r : Action) → Contains (history s date agent) r → Contains (history s (suc date) agent) r
  kept_next date r (place, less, same) = by_next (next_of s agent (history s date agent))
    where
      by_test : (n : Next) (b : Bool) → Contains (if b then action_of s (history s date) agent n ∷ history s date agent else history s date agent) r
      by_test n true = (suc place, omega (arith, less), same)
      by_test n false = (place, less, same)

      by_next : (next : Option Next) → Contains (with_start s (history s date) date agent (history s date agent) next) r
      by_next None = (place, less, same)
      by_next (Some n) = by_test n (n.start == date)

  kept : (n m : ℕ) (r : Action) → n ≤ m → Contains (history s n agent) r → Contains (history s m agent) r
  kept n zero r less there = let none : n ≡ 0 = omega arith in subst (λ d. Contains (history s d agent) r) none there
  kept n (suc m) r less there = elim (eq-or-lt_of_le less) [
    | inl eq ↦ subst (λ d. Contains (history s d agent) r) eq there
    | inr lt ↦ kept_next m r (kept n m r (omega arith) there)
  ]

-- Where actions overran alike in longer histories, they did in shorter ones.
pub overran_before : (unit : Whole) (nexts : List (List (List ℕ))) (stalls others : ℕ → List Stall) (inputs : List (List ℤ)) (from n m : ℕ) → n ≤ m
    → OverranAlike (history (stated unit nexts stalls inputs) m from) (history (stated unit nexts others inputs) m from)
    → OverranAlike (history (stated unit nexts stalls inputs) n from) (history (stated unit nexts others inputs) n from)
overran_before unit nexts stalls others inputs from n m less alike r q there here = alike r q (kept (stated unit nexts stalls inputs) from n m r less there) (kept (stated unit nexts others inputs) from n m q less here)

-- ---- what isn't the agent's

module _ (s : System) (to : ℕ) where
  -- The stop of another agent
  other_stop : (who date : ℕ) (due : Bool) (verdict : Verdict) → (who == to) ≡ false → filter (is_own s to) (if due then stops_by who verdict else []) ≡ []
  other_stop who date true (Done point end) other = refl
  other_stop who date true (Trapped kind) other = rw other refl
  other_stop who date true Overran other = rw other refl
  other_stop who date false verdict other = refl

  other_stops : (agent date : ℕ) (rs : List Action) → All (λ (r : Action). r.agent ≡ agent) rs → (agent == to) ≡ false → filter (is_own s to) (stops_of date rs) ≡ []
  other_stops agent date [] all other = refl
  other_stops agent date (r ∷ rs) all other =
      let is = All-head (λ (q : Action). q.agent ≡ agent) r rs all in
      filter-append (is_own s to) (if r.deadline == date then stops_by r.agent r.verdict else []) (stops_of date rs)
      ∙ ap₂ (λ xs ys. xs ++ ys) (other_stop r.agent date (r.deadline == date) r.verdict (ap (λ a. a == to) is ∙ other)) (other_stops agent date rs (All-tail (λ (q : Action). q.agent ≡ agent) r rs all) other)

  -- The value of a variable that isn't the agent's
  other_value : (h : History) (date variable : ℕ) (owner : Option ℕ) → (variable_of s variable).owner ≡ owner → (owner ≡ None) ⊎ ((who : ℕ) × (owner ≡ Some who) × ((who == to) ≡ false)) → filter (is_own s to) (publications s h date variable) ≡ []
  other_value h date variable owner is (inl none) = ap (λ o. filter (is_own s to) (publications_by s h date variable o)) (is ∙ none)
  other_value h date variable owner is (inr (who, some, other)) = ap (λ o. filter (is_own s to) (publications_by s h date variable o)) (is ∙ some) ∙ by (is_date (publishing s variable) date)
    where
      by : (b : Bool) → filter (is_own s to) (if b then Publish variable (published s h variable date) ∷ [] else []) ≡ []
      by true = rw (is ∙ some) (rw other refl)
      by false = refl

  -- Messages
  no_messages : (stream : ℕ) (ms : List Message) → filter (is_own s to) (map (λ (m : Message). Show stream m.value) ms) ≡ []
  no_messages stream [] = refl
  no_messages stream (m ∷ ms) = no_messages stream ms

  no_shows : (h : History) (date stream : ℕ) → filter (is_own s to) (shows s h date stream) ≡ []
  no_shows h date stream = no_messages stream (filter (λ (m : Message). m.visible == date) (messages s h stream))

-- The agent's events of a date: its stops, then the values of its variables, then what is left of messages
parts_of : (s : System) (to date : ℕ) → filter (is_own s to) (events s date)
    ≡ flat_map (λ agent. filter (is_own s to) (stops_of date (history s (date + 1) agent))) (range_with_len 0 (length s.unit.agents))
    ++ (flat_map (λ variable. filter (is_own s to) (publications s (history s (date + 1)) date variable)) (range_with_len 0 (length s.unit.variables))
    ++ flat_map (λ stream. filter (is_own s to) (shows s (history s (date + 1)) date stream)) (range_with_len 0 (length s.unit.streams)))
parts_of s to date =
    let own = is_own s to in
    let h = history s (date + 1) in
    let agents = range_with_len 0 (length s.unit.agents) in
    let variables = range_with_len 0 (length s.unit.variables) in
    let streams = range_with_len 0 (length s.unit.streams) in
    let stops = flat_map (λ agent. stops_of date (h agent)) agents in
    let values = flat_map (publications s h date) variables in
    let messages = flat_map (shows s h date) streams in
    filter-append own stops (values ++ messages)
    ∙ ap₂ (λ xs ys. xs ++ ys) (filter-flat_map own (λ agent. stops_of date (h agent)) agents)
    (filter-append own values messages ∙ ap₂ (λ xs ys. xs ++ ys) (filter-flat_map own (publications s h date) variables) (filter-flat_map own (shows s h date) streams))

-- ---- two runs

module _ (unit : Whole) (nexts : List (List (List ℕ))) (stalls others : ℕ → List Stall) (inputs : List (List ℤ)) (to until : ℕ) where
  abbrev one : System
  one = stated unit nexts stalls inputs

  abbrev two : System
  two = stated unit nexts others inputs

  own-same : (e : Event) → is_own one to e ≡ is_own two to e
  own-same (Stop who trap) = refl
  own-same (Publish variable value) = refl
  own-same (Show stream value) = refl

  line-same : (date : ℕ) (e : Event) → event_line one date e ≡ event_line two date e
  line-same date (Stop who None) = refl
  line-same date (Stop who (Some kind)) = refl
  line-same date (Publish variable value) = refl
  line-same date (Show stream value) = refl

  lines-same : (date : ℕ) (es : List Event) → map (event_line one date) es ≡ map (event_line two date) es
  lines-same date [] = refl
  lines-same date (e ∷ es) = ap₂ (λ line lines. line ∷ lines) (line-same date e) (lines-same date es)

  kept-same : (xs ys : List Event) → xs ≡ ys → filter (is_own one to) xs ≡ filter (is_own two to) ys
  kept-same xs ys same = filter_agree (is_own one to) (is_own two to) own-same xs ∙ ap (filter (is_own two to)) same

  module _ (stops : (dates date : ℕ) → dates ≤ until + 1 → stops_of date (history one dates to) ≡ stops_of date (history two dates to)) (values : (dates date variable : ℕ) (v : VarDecl) → dates ≤ until + 1 → slice_get unit.variables variable ≡ Some v → v.owner ≡ Some to → publications one (history one dates) date variable ≡ publications two (history two dates) date variable) (date : ℕ) (less : date + 1 ≤ until + 1) where
    stops_at : (agent : ℕ) → filter (is_own one to) (stops_of date (history one (date + 1) agent)) ≡ filter (is_own two to) (stops_of date (history two (date + 1) agent))
    stops_at agent = by (agent == to) refl
      where
        by : (b : Bool) → (agent == to) ≡ b → filter (is_own one to) (stops_of date (history one (date + 1) agent)) ≡ filter (is_own two to) (stops_of date (history two (date + 1) agent))
        by true e =
            kept-same (stops_of date (history one (date + 1) agent)) (stops_of date (history two (date + 1) agent))
            (subst (λ a. stops_of date (history one (date + 1) a) ≡ stops_of date (history two (date + 1) a)) (sym (eqb-true agent to e)) (stops (date + 1) date less))
        by false e = other_stops one to agent date (history one (date + 1) agent) (its_own one agent (date + 1)) e ∙ sym (other_stops two to agent date (history two (date + 1) agent) (its_own two agent (date + 1)) e)

    values_at : (variable : ℕ) → variable < length unit.variables → filter (is_own one to) (publications one (history one (date + 1)) date variable) ≡ filter (is_own two to) (publications two (history two (date + 1)) date variable)
    values_at variable known = by (variable_of one variable).owner refl
      where
        by_test : (who : ℕ) (b : Bool) → (who == to) ≡ b → (variable_of one variable).owner ≡ Some who → filter (is_own one to) (publications one (history one (date + 1)) date variable) ≡ filter (is_own two to) (publications two (history two (date + 1)) date variable)
        by_test who true e is =
            kept-same (publications one (history one (date + 1)) date variable) (publications two (history two (date + 1)) date variable)
            (values (date + 1) date variable (variable_of one variable) less (slice_get-get_or unit.variables variable _ known) (is ∙ ap Some (eqb-true who to e)))
        by_test who false e is = other_value one to (history one (date + 1)) date variable (Some who) is (inr (who, refl, e)) ∙ sym (other_value two to (history two (date + 1)) date variable (Some who) is (inr (who, refl, e)))

        by : (owner : Option ℕ) → (variable_of one variable).owner ≡ owner → filter (is_own one to) (publications one (history one (date + 1)) date variable) ≡ filter (is_own two to) (publications two (history two (date + 1)) date variable)
        by None is = other_value one to (history one (date + 1)) date variable None is (inl refl) ∙ sym (other_value two to (history two (date + 1)) date variable None is (inl refl))
        by (Some who) is = by_test who (who == to) refl is

    messages_at : (stream : ℕ) → filter (is_own one to) (shows one (history one (date + 1)) date stream) ≡ filter (is_own two to) (shows two (history two (date + 1)) date stream)
    messages_at stream = no_shows one to (history one (date + 1)) date stream ∙ sym (no_shows two to (history two (date + 1)) date stream)

    own_lines-same : own_lines one to date ≡ own_lines two to date
    own_lines-same =
        let first = flat_map-range (λ agent. filter (is_own one to) (stops_of date (history one (date + 1) agent))) (λ agent. filter (is_own two to) (stops_of date (history two (date + 1) agent))) 0 (length unit.agents) (λ k low high. stops_at k) in
        let second = flat_map-range (λ variable. filter (is_own one to) (publications one (history one (date + 1)) date variable)) (λ variable. filter (is_own two to) (publications two (history two (date + 1)) date variable)) 0 (length unit.variables) (λ k low high. values_at k (omega (arith, high))) in
        let third = flat_map-range (λ stream. filter (is_own one to) (shows one (history one (date + 1)) date stream)) (λ stream. filter (is_own two to) (shows two (history two (date + 1)) date stream)) 0 (length unit.streams) (λ k low high. messages_at k) in
        let same = parts_of one to date ∙ ap₂ (λ xs ys. xs ++ ys) first (ap₂ (λ xs ys. xs ++ ys) second third) ∙ sym (parts_of two to date) in
        ap (map (event_line one date)) same ∙ lines-same date (filter (is_own two to) (events two date))

  -- So are the agent's lines up to a date.
  pub own_text-same : ((dates date : ℕ) → dates ≤ until + 1 → stops_of date (history one dates to) ≡ stops_of date (history two dates to))
      → ((dates date variable : ℕ) (v : VarDecl) → dates ≤ until + 1 → slice_get unit.variables variable ≡ Some v → v.owner ≡ Some to → publications one (history one dates) date variable ≡ publications two (history two dates) date variable)
      → own_text one to until ≡ own_text two to until
  own_text-same stops values =
      flat_map-range (λ date. text_of (own_lines one to date)) (λ date. text_of (own_lines two to date)) 0 (until + 1)
      (λ date low high. ap text_of (own_lines-same stops values date (omega (arith, high))))
