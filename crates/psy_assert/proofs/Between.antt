-- What is looked for between two cuts, from cut to cut.
use Rattle.std.proofs.Common.{◌≡◌, ◌∙◌, refl, sym, ap, ℕ, ◌+◌, ◌<◌, ◌≤◌, Bool, true, false, ◌&&◌, ◌||◌, ltb, leb, eqb, List, [], ◌∷◌, Option, None, Some, true≢false, arith, lt-ltb, le-leb, ltb-true, leb-true, leb-false, eqb-true, eq-eqb}
use Rattle.std.specs.List.{list_any}
use Rattle.std.proofs.lemmas.Bool.{or_parts, and_parts}
use Rattle.psy_log.specs.declared.note.Note.{Note}
use Rattle.psy_assert.specs.declared.cut.Cut.{Cut}
use Rattle.psy_assert.specs.declared.sum.Sought.{Sought}
use Rattle.psy_assert.specs.Cuts.{note_cut}
use Rattle.psy_assert.specs.Sums.{is_between, is_cut, passes, rank, stands_at, value_of}

-- None passes a test where none passes one of two others that it takes.
pub none_of_either : {X : Type 0} (p q r : X → Bool) → ((x : X) → r x ≡ true → (p x || q x) ≡ true) → (xs : List X) → list_any p xs ≡ false → list_any q xs ≡ false → list_any r xs ≡ false
none_of_either p q r takes [] none lacks = refl
none_of_either p q r takes (x ∷ xs) none lacks =
    let here = or_parts (p x) (list_any p xs) none in
    let there = or_parts (q x) (list_any q xs) lacks in
    by (r x) refl here.0 there.0 (none_of_either p q r takes xs here.1 there.1)
  where
    by : (t : Bool) → r x ≡ t → p x ≡ false → q x ≡ false → list_any r xs ≡ false → (t || list_any r xs) ≡ false
    by false e f g more = more
    by true e f g more = absurd (true≢false (sym (takes x e) ∙ ap (λ t. t || q x) f ∙ g))

-- One passes a test where one passes another that takes it.
pub one_of : {X : Type 0} (p q : X → Bool) → ((x : X) → p x ≡ true → q x ≡ true) → (xs : List X) → list_any p xs ≡ true → list_any q xs ≡ true
one_of p q takes xs one = by (list_any q xs) refl
  where
    by : (t : Bool) → list_any q xs ≡ t → t ≡ true
    by true e = refl
    by false e = absurd (true≢false (sym one ∙ none_of_either q q p (λ x is. ap (λ t. t || q x) (takes x is)) xs e e))

module _ (by_value : Bool) where
  -- What is looked for, of the notes that stand behind so many cuts
  abbrev pub sought_at : List Cut → Sought → ℕ → Note → Bool
  sought_at cuts wanted place n = stands_at by_value cuts place n && passes wanted (value_of n)

  abbrev pub sought_between : List Cut → Sought → ℕ → ℕ → Note → Bool
  sought_between cuts wanted first last n = is_between by_value cuts first last n && passes wanted (value_of n)

  module _ (cuts : List Cut) (wanted : Sought) where
    at_one : (first last place : ℕ) → first < place → place ≤ last → (o : Option Cut) (b : Bool) → (is_cut (λ cut. eqb (rank cuts cut) place) o && b) ≡ true
        → (is_cut (λ cut. ltb first (rank cuts cut) && leb (rank cuts cut) last) o && b) ≡ true
    at_one first last place more less None b is = is
    at_one first last place more less (Some cut) b is =
        let parts = and_parts (eqb (rank cuts cut) place) b is in
        let same : rank cuts cut ≡ place = eqb-true (rank cuts cut) place parts.0 in
        rw (lt-ltb first (rank cuts cut) (omega (arith, same, more)), le-leb (rank cuts cut) last (omega (arith, same, less))) parts.1

    pub one_between : (first last place : ℕ) → first < place → place ≤ last → (notes : List Note) → list_any (sought_at cuts wanted place) notes ≡ true
        → list_any (sought_between cuts wanted first last) notes ≡ true
    one_between first last place more less notes is =
        one_of (sought_at cuts wanted place) (sought_between cuts wanted first last) (λ n. at_one first last place more less (note_cut by_value n) (passes wanted (value_of n))) notes is

    -- One place more
    one_more : (first place : ℕ) (o : Option Cut) (b : Bool) → (is_cut (λ cut. ltb first (rank cuts cut) && leb (rank cuts cut) (place + 1)) o && b) ≡ true
        → ((is_cut (λ cut. ltb first (rank cuts cut) && leb (rank cuts cut) place) o && b) || (is_cut (λ cut. eqb (rank cuts cut) (place + 1)) o && b)) ≡ true
    one_more first place None b is = absurd (true≢false (sym is))
    one_more first place (Some cut) b is =
        let parts = and_parts (ltb first (rank cuts cut) && leb (rank cuts cut) (place + 1)) b is in
        let dates = and_parts (ltb first (rank cuts cut)) (leb (rank cuts cut) (place + 1)) parts.0 in
        by (leb (rank cuts cut) place) refl (ltb first (rank cuts cut)) dates.0 b parts.1 (leb-true (rank cuts cut) (place + 1) dates.1)
      where
        by : (t : Bool) → leb (rank cuts cut) place ≡ t → (f : Bool) → f ≡ true → (c : Bool) → c ≡ true → rank cuts cut ≤ place + 1
            → (((f && t) && c) || (eqb (rank cuts cut) (place + 1) && c)) ≡ true
        by true e f front c is upto = rw (front, is) refl
        by false e f front c is upto =
            let last : rank cuts cut ≡ place + 1 = omega (arith, upto, leb-false (rank cuts cut) place e) in
            rw (front, is, eq-eqb (rank cuts cut) (place + 1) last) refl

    pub none_more : (first place : ℕ) (notes : List Note) → list_any (sought_between cuts wanted first place) notes ≡ false → list_any (sought_at cuts wanted (place + 1)) notes ≡ false
        → list_any (sought_between cuts wanted first (place + 1)) notes ≡ false
    none_more first place notes none lacks =
        none_of_either (sought_between cuts wanted first place) (sought_at cuts wanted (place + 1)) (sought_between cuts wanted first (place + 1))
        (λ n. one_more first place (note_cut by_value n) (passes wanted (value_of n))) notes none lacks

    -- Fewer places
    fewer : (first last place : ℕ) → last ≤ place → (o : Option Cut) (b : Bool) → (is_cut (λ cut. ltb first (rank cuts cut) && leb (rank cuts cut) last) o && b) ≡ true
        → ((is_cut (λ cut. ltb first (rank cuts cut) && leb (rank cuts cut) place) o && b) || (is_cut (λ cut. ltb first (rank cuts cut) && leb (rank cuts cut) place) o && b)) ≡ true
    fewer first last place less None b is = absurd (true≢false (sym is))
    fewer first last place less (Some cut) b is =
        let parts = and_parts (ltb first (rank cuts cut) && leb (rank cuts cut) last) b is in
        let dates = and_parts (ltb first (rank cuts cut)) (leb (rank cuts cut) last) parts.0 in
        rw (dates.0, le-leb (rank cuts cut) place (omega (arith, leb-true (rank cuts cut) last dates.1, less)), parts.1) refl

    pub none_fewer : (first last place : ℕ) → last ≤ place → (notes : List Note) → list_any (sought_between cuts wanted first place) notes ≡ false
        → list_any (sought_between cuts wanted first last) notes ≡ false
    none_fewer first last place less notes none =
        none_of_either (sought_between cuts wanted first place) (sought_between cuts wanted first place) (sought_between cuts wanted first last)
        (λ n. fewer first last place less (note_cut by_value n) (passes wanted (value_of n))) notes none none

    -- None stand between a place and itself.
    nowhere : (first : ℕ) (o : Option Cut) (b : Bool) → (is_cut (λ cut. ltb first (rank cuts cut) && leb (rank cuts cut) first) o && b) ≡ false
    nowhere first None b = refl
    nowhere first (Some cut) b = by (ltb first (rank cuts cut)) (leb (rank cuts cut) first) (λ f l. omega (arith, ltb-true first (rank cuts cut) f, leb-true (rank cuts cut) first l))
      where
        by : (f l : Bool) → (f ≡ true → l ≡ true → ⊥) → ((f && l) && b) ≡ false
        by true true apart = absurd (apart refl refl)
        by true false apart = refl
        by false l apart = refl

    pub none_there : (first : ℕ) (notes : List Note) → list_any (sought_between cuts wanted first first) notes ≡ false
    none_there first [] = refl
    none_there first (n ∷ notes) = rw (nowhere first (note_cut by_value n) (passes wanted (value_of n))) (none_there first notes)
