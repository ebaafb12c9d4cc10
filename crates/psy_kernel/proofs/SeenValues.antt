-- Where the value of a look stands in its variable's ring.
use Rattle.std.proofs.Common.{◌≡◌, ℕ, zero, suc, ◌+◌, ◌<◌, ◌≤◌, List, [], ◌∷◌, map, take, drop, length, get_or, Option, None, Some, slice_get, ℤ, refl, sym, ap, ◌∙◌, subst, inl, inr, arith}
use Rattle.std.specs.Prelude.{IsSome}
use Rattle.std.specs.List.{range_with_len}
use Rattle.std.proofs.lemmas.Bool.{cases_lt}
use Rattle.std.proofs.lemmas.List.{get_or_default, get_or_past, length-take}
use Rattle.std.proofs.lemmas.List.Elements.{All-get_or}
use Rattle.std.proofs.lemmas.List.FromFn.{get_or-map-range_with_len, length-map-range_with_len}
use Rattle.std.proofs.lemmas.Option.{slice_get-get_or, slice_get_past}
use Rattle.psy_base.specs.declared.limits.TheConstants.{RING}
use Rattle.psy_clock.specs.declared.clock.Clock.{Clock}
use Rattle.psy_code.specs.Views.{found_in, past_of}
use Rattle.psy_queue.specs.Order.{Queued}
use Rattle.psy_tree.specs.declared.unit.StreamDecl.{StreamDecl}
use Rattle.psy_tree.specs.declared.unit.VarDecl.{VarDecl}
use Rattle.psy_meaning.specs.RingSizes.{dates_between}
use Rattle.psy_kernel.specs.Seeing.{CanSee, Sight, clock_in, values_of, view_in}
use Rattle.psy_tree.specs.Parts.{no_variable}

pub none_some : (X : Type 0) → IsSome {T = X} None → ⊥
none_some X some = cc

module _ {X : Type 0} where
  pub slice_get-take : (m : ℕ) (xs : List X) (i : ℕ) → i < m → slice_get (take m xs) i ≡ slice_get xs i
  slice_get-take zero xs i less = absurd (omega (arith, less))
  slice_get-take (suc m) [] i less = refl
  slice_get-take (suc m) (x ∷ xs) zero less = refl
  slice_get-take (suc m) (x ∷ xs) (suc i) less = slice_get-take m xs i (omega (arith, less))

  pub slice_get-drop : (n : ℕ) (xs : List X) (i : ℕ) → slice_get (drop n xs) i ≡ slice_get xs (i + n)
  slice_get-drop zero xs i = let same : i ≡ i + 0 = omega arith in ap (slice_get xs) same
  slice_get-drop (suc n) [] i = refl
  slice_get-drop (suc n) (x ∷ xs) i = let same : suc (i + n) ≡ i + suc n = omega arith in slice_get-drop n xs i ∙ ap (slice_get (x ∷ xs)) same

  -- a place at which there is something is one of the list's
  some_within : (xs : List X) (i : ℕ) → IsSome (slice_get xs i) → i < length xs
  some_within xs i some = elim (cases_lt i (length xs)) [
    | inl less ↦ less
    | inr past ↦ absurd (none_some X (subst IsSome (slice_get_past xs i past) some))
  ]

  some_found : {Y : Type 0} (o : Option X) (f : X → Option Y) → IsSome (found_in o f) → IsSome o
  some_found {Y = Y} None f some = absurd (none_some Y some)
  some_found (Some x) f some = refl

module _ (rings : List (List ℤ)) (variables : List VarDecl) (clocks : List Clock) (start date : ℕ) where
  abbrev decl : ℕ → VarDecl
  decl variable = get_or variables variable no_variable

  abbrev values : ℕ → List ℤ
  values variable = values_of rings clocks start date (decl variable) variable

  -- how many dates of a variable have passed
  abbrev pub passed : ℕ → ℕ
  passed variable = dates_between (clock_in clocks (decl variable).clock) start date

  abbrev ring : ℕ → List ℤ
  ring variable = get_or rings variable []

  seen_by : (variable : ℕ) → variable < length variables → (back : ℕ) → past_of (view_in rings variables clocks start date []) variable back ≡ slice_get (values variable) back
  seen_by variable known back =
      let lists = map values (range_with_len 0 (length variables)) in
      let there : slice_get lists variable ≡ Some (get_or lists variable []) = slice_get-get_or lists variable [] (omega (arith, known, length-map-range_with_len values 0 (length variables))) in
      ap (λ list. found_in list (λ (list : List ℤ). slice_get list back)) (there ∙ ap Some (get_or-map-range_with_len values 0 (length variables) variable variable [] known (omega arith)))

  -- a look no deeper than its variable finds its value in the ring, behind what has passed
  pub found_at : (variable back : ℕ) → variable < length variables → back < (decl variable).depth → past_of (view_in rings variables clocks start date []) variable back ≡ slice_get (ring variable) (back + passed variable)
  found_at variable back known shallow =
      seen_by variable known back ∙ slice_get-take (decl variable).depth (drop (passed variable) (ring variable)) back shallow ∙ slice_get-drop (passed variable) (ring variable) back

  module _ (can : CanSee rings clocks start date) where
    -- a look that is served finds its value so
    pub record IsSeen (variable back : ℕ) : Type 0 where
      pub known : variable < length variables
      pub ringed : variable < length rings
      pub inside : back + passed variable < length (ring variable)
      pub few : length (ring variable) ≤ RING
      pub value : past_of (view_in rings variables clocks start date []) variable back ≡ slice_get (ring variable) (back + passed variable)

    is_seen : (variable back : ℕ) → IsSome (past_of (view_in rings variables clocks start date []) variable back) → IsSeen variable back
    is_seen variable back some =
        let lists = map values (range_with_len 0 (length variables)) in
        let listed : variable < length lists = some_within lists variable (some_found (slice_get lists variable) (λ (list : List ℤ). slice_get list back) some) in
        let known : variable < length variables = omega (arith, listed, length-map-range_with_len values 0 (length variables)) in
        let found = seen_by variable known back in
        let taken : back < length (values variable) = some_within (values variable) back (subst IsSome found some) in
        let shallow : back < (decl variable).depth = omega (arith, taken, length-take (decl variable).depth (drop (passed variable) (ring variable))) in
        let value = found_at variable back known shallow in
        let inside : back + passed variable < length (ring variable) = some_within (ring variable) (back + passed variable) (subst IsSome value some) in
        let ringed : variable < length rings = elim (cases_lt variable (length rings)) [
          | inl less ↦ less
          | inr past ↦ absurd (omega (arith, inside, ap length (get_or_past rings variable [] past)))
        ] in
        record {
          known = known;
          ringed = ringed;
          inside = inside;
          few = All-get_or (λ (ring : List ℤ). length ring ≤ RING) rings variable [] ringed can.few;
          value = value;
        }

    -- what has passed, by the clock that is found for the variable
    passed_is : (variable : ℕ) (other : VarDecl) (clock : Clock) (dates : ℕ) → variable < length variables → clock ≡ clock_in clocks (get_or variables variable other).clock → dates ≡ dates_between clock start date → dates ≡ passed variable
    passed_is variable other clock dates known clock_is dates_is =
        dates_is ∙ ap (λ clock. dates_between clock start date) (clock_is ∙ ap (λ (v : VarDecl). clock_in clocks v.clock) (get_or_default variables variable other _ known))

    -- a look of a sight that has these, where so many dates have passed
    pub record IsRead (now : Sight) (variable back dates : ℕ) : Type 0 where
      pub few : back + dates < RING
      pub inside : (other : List ℤ) → back + dates < length (get_or rings variable other)
      pub value : (other : List ℤ) (x : ℤ) → slice_get (get_or rings variable other) (back + dates) ≡ Some x → past_of (view_in now.rings now.variables now.clocks now.start now.date []) variable back ≡ Some x

    module _ (queues : List Queued) (streams : List StreamDecl) (agent : ℕ) (now : Sight) (is : record { rings = rings; variables = variables; clocks = clocks; queues = queues; streams = streams; agent = agent; start = start; date = date } ≡ now) (variable back : ℕ)
        (some : IsSome (past_of (view_in now.rings now.variables now.clocks now.start now.date []) variable back)) where
      pub seen_in : IsSeen variable back
      seen_in = is_seen variable back (subst (λ (sight : Sight). IsSome (past_of (view_in sight.rings sight.variables sight.clocks sight.start sight.date []) variable back)) (sym is) some)

      pub read_in : (other : VarDecl) (clock : Clock) (dates : ℕ) → clock ≡ clock_in clocks (get_or variables variable other).clock → dates ≡ dates_between clock start date → IsRead now variable back dates
      read_in other clock dates clock_is dates_is =
          let same = passed_is variable other clock dates seen_in.known clock_is dates_is in
          let ring_is : (other : List ℤ) → get_or rings variable other ≡ ring variable = λ other. get_or_default rings variable other [] seen_in.ringed in
          record {
            few = omega (arith, same, seen_in.inside, seen_in.few);
            inside = λ other. omega (arith, same, seen_in.inside, ap length (ring_is other));
            value = λ other x found. subst (λ (sight : Sight). past_of (view_in sight.rings sight.variables sight.clocks sight.start sight.date []) variable back ≡ Some x) is
                (seen_in.value ∙ sym (ap (λ list. slice_get list (back + dates)) (ring_is other) ∙ ap (λ n. slice_get (ring variable) (back + n)) same) ∙ found);
          }
