-- What is told of a date, place by place: first of the agents and the variables.
use Rattle.std.proofs.Common.{◌≡◌, ℕ, ◌+◌, ◌-◌, ◌<◌, ◌≤◌, Bool, true, false, nat_lt, if◌then◌else◌, List, [], ◌∷◌, ◌++◌, take, length, get_or, slice_get, Some, refl, sym, ap, ◌∙◌, inl, inr, arith, append_assoc, length-append}
use Rattle.std.specs.List.{flat_map, range_with_len}
use Rattle.std.proofs.lemmas.Bool.{cases_lt, lt-ltb, le-ltb}
use Rattle.std.proofs.lemmas.Grind.{flat_map-append}
use Rattle.std.proofs.lemmas.List.{append-nil, take_all, take_more}
use Rattle.std.proofs.lemmas.List.FromFn.{length-range_with_len, get_or-range_with_len}
use Rattle.psy_history.specs.Actions.{System}
use Rattle.psy_history.specs.History.{history}
use Rattle.psy_history.specs.Lines.{Event, publications, shows, stops_of}
use Rattle.psy_kernel.specs.Standing.{shows_first, told_from}
use Rattle.psy_kernel.specs.Telling.{places_of, told_by}

-- ---- lists

-- What stands behind a front has its length as its place.
pub at_place : {X : Type 0} (xs more : List X) (x : X) → slice_get ((xs ++ x ∷ []) ++ more) (length xs) ≡ Some x
at_place [] more x = refl
at_place (y ∷ xs) more x = at_place xs more x

pub range_more : (n i : ℕ) → i < n → take (i + 1) (range_with_len 0 n) ≡ take i (range_with_len 0 n) ++ i ∷ []
range_more n i l =
    let here : get_or (range_with_len 0 n) i 0 ≡ i = get_or-range_with_len 0 n i 0 l ∙ omega arith in
    take_more (range_with_len 0 n) i 0 (omega (arith, l, length-range_with_len 0 n)) ∙ ap (λ j. take i (range_with_len 0 n) ++ j ∷ []) here

pub flat_more : {X : Type 0} (f : ℕ → List X) (n i : ℕ) → i < n → flat_map f (take (i + 1) (range_with_len 0 n)) ≡ flat_map f (take i (range_with_len 0 n)) ++ f i
flat_more f n i l =
    let front = take i (range_with_len 0 n) in
    ap (flat_map f) (range_more n i l) ∙ flat_map-append f front (i ∷ []) ∙ ap (λ xs. flat_map f front ++ xs) (append-nil (f i))

pub range_all : (n i : ℕ) → n ≤ i → take i (range_with_len 0 n) ≡ range_with_len 0 n
range_all n i l = take_all i (range_with_len 0 n) (omega (arith, l, length-range_with_len 0 n))

pub flat_few : {X : Type 0} (f : ℕ → List X) (xs : List ℕ) → ((x : ℕ) → length (f x) ≤ 1) → length (flat_map f xs) ≤ length xs
flat_few f [] few = omega arith
flat_few f (x ∷ xs) few =
    let here : length (f x) ≤ 1 = few x in
    let rest : length (flat_map f xs) ≤ length xs = flat_few f xs few in
    omega (arith, length-append (f x) (flat_map f xs), here, rest)

-- ---- the places

module _ (s : System) (date : ℕ) where
  abbrev pub agents : ℕ
  agents = length s.unit.agents

  abbrev pub variables : ℕ
  variables = length s.unit.variables

  abbrev pub streams : ℕ
  streams = length s.unit.streams

  abbrev pub stops : ℕ → List Event
  stops agent = stops_of date (history s (date + 1) agent)

  abbrev pub values : ℕ → List Event
  values = publications s (history s (date + 1)) date

  abbrev pub shown : ℕ → List Event
  shown = shows s (history s (date + 1)) date

  abbrev pub stops_to : ℕ → List Event
  stops_to n = flat_map stops (take n (range_with_len 0 agents))

  abbrev pub values_to : ℕ → List Event
  values_to n = flat_map values (take n (range_with_len 0 variables))

  abbrev pub shows_to : ℕ → List Event
  shows_to n = flat_map shown (take n (range_with_len 0 streams))

  none_by : (b : Bool) (stream : ℕ) → (if b then take 0 (shown stream) else []) ≡ []
  none_by true stream = refl
  none_by false stream = refl

  pub none_first : (stream : ℕ) → shows_first s date stream 0 ≡ []
  none_first stream = none_by (nat_lt stream streams) stream

  -- Before the places of the streams no message is told.
  abbrev placed : ℕ → List Event
  placed place = stops_to place ++ values_to (place - agents)

  told_placed : (place : ℕ) → place ≤ places_of s → told_from s date place 0 ≡ placed place
  told_placed place l =
      let none : place - agents - variables ≡ 0 = omega (arith, l) in
      ap (λ n. stops_to place ++ (values_to (place - agents) ++ (shows_to n ++ shows_first s date n 0))) none
      ∙ ap (λ xs. stops_to place ++ (values_to (place - agents) ++ xs)) (none_first 0)
      ∙ ap (λ xs. stops_to place ++ xs) (append-nil (values_to (place - agents)))

  pub told_stop : (place : ℕ) → place < agents → told_by s date place ≡ stops place
  told_stop place l = ap (λ b. if b then stops place else values (place - agents)) (lt-ltb place agents l)

  pub told_value : (place : ℕ) → agents ≤ place → told_by s date place ≡ values (place - agents)
  told_value place l = ap (λ b. if b then stops place else values (place - agents)) (le-ltb place agents l)

  more_stop : (place : ℕ) → place < agents → placed (place + 1) ≡ placed place ++ told_by s date place
  more_stop place l =
      let none : place - agents ≡ 0 = omega (arith, l) in
      let none_more : place + 1 - agents ≡ 0 = omega (arith, l) in
      ap (λ n. stops_to (place + 1) ++ values_to n) none_more
      ∙ append-nil (stops_to (place + 1))
      ∙ flat_more stops agents place l
      ∙ ap (λ xs. stops_to place ++ xs) (sym (told_stop place l))
      ∙ ap (λ xs. xs ++ told_by s date place) (sym (append-nil (stops_to place)))
      ∙ ap (λ n. (stops_to place ++ values_to n) ++ told_by s date place) (sym none)

  pub all_stops : (place : ℕ) → agents ≤ place → stops_to (place + 1) ≡ stops_to place
  all_stops place le = ap (flat_map stops) (range_all agents (place + 1) (omega (arith, le)) ∙ sym (range_all agents place le))

  more_value : (place : ℕ) → agents ≤ place → place < agents + variables → placed (place + 1) ≡ placed place ++ told_by s date place
  more_value place le l =
      let next : place + 1 - agents ≡ (place - agents) + 1 = omega (arith, le) in
      ap (λ n. stops_to (place + 1) ++ values_to n) next
      ∙ ap (λ xs. xs ++ values_to (place - agents + 1)) (all_stops place le)
      ∙ ap (λ xs. stops_to place ++ xs) (flat_more values variables (place - agents) (omega (arith, le, l)))
      ∙ sym (append_assoc (stops_to place) (values_to (place - agents)) (values (place - agents)))
      ∙ ap (λ xs. (stops_to place ++ values_to (place - agents)) ++ xs) (sym (told_value place le))

  placed_more : (place : ℕ) → place < places_of s → placed (place + 1) ≡ placed place ++ told_by s date place
  placed_more place l = elim (cases_lt place agents) [
    | inl h ↦ more_stop place h
    | inr h ↦ more_value place h l
  ]

  -- A place adds what it tells.
  pub told_more : (place : ℕ) → place < places_of s → told_from s date (place + 1) 0 ≡ told_from s date place 0 ++ told_by s date place
  told_more place l =
      told_placed (place + 1) (omega (arith, l)) ∙ placed_more place l ∙ ap (λ xs. xs ++ told_by s date place) (sym (told_placed place (omega (arith, l))))
