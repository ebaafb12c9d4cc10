-- What is published at a date, by the rings.
use Rattle.std.proofs.Common.{◌≡◌, ◌∙◌, refl, sym, ap, subst, ℕ, zero, suc, ◌+◌, ◌-◌, ◌%◌, ◌^◌, ◌<◌, ◌≤◌, ◌==◌, Bool, true, false, List, [], ◌∷◌, ◌++◌, Option, Some, filter, map, take, length, get_or, append-nil, arith}
use Rattle.std.specs.Prelude.{if◌then◌else◌, pos, slice_get, ℤ}
use Rattle.std.specs.List.{All, flat_map, range_with_len}
use Rattle.std.proofs.lemmas.Grind.{flat_map-append}
use Rattle.std.proofs.lemmas.List.{get_or_default, map-append}
use Rattle.std.proofs.lemmas.List.Elements.{All-cons, All-nil}
use Rattle.std.proofs.lemmas.Option.{get_or_from_slice_get, slice_get-get_or}
use Rattle.psy_audit.specs.declared.said.Publication.{Publication}
use Rattle.psy_audit.specs.declared.said.Said.TheVariants.{Published}
use Rattle.psy_audit.specs.Traced.{publication_at}
use Rattle.psy_clock.specs.Dates.{IsClock, count}
use Rattle.psy_collect.specs.Collected.{ArePublished, ShowsAll}
use Rattle.psy_collect.specs.Keeping.{published_in}
use Rattle.psy_collect.proofs.Laws.{NextRing}
use Rattle.psy_collect.proofs.Rows.{all_more, row_more}
use Rattle.psy_dates.proofs.lemmas.Fits.{ring_size}
use Rattle.psy_dates.specs.declared.plan.Plan.{Plan}
use Rattle.psy_dates.specs.declared.shared.Shared.{Shared}
use Rattle.psy_dates.specs.Plans.{IsPlan}
use Rattle.psy_dates.specs.Standing.{SharedStands}
use Rattle.psy_history.specs.Actions.{System, publishing}
use Rattle.psy_history.specs.History.{history}
use Rattle.psy_history.specs.Lines.{is_date}
use Rattle.psy_history.specs.Regular.{IsLawful}
use Rattle.psy_history.specs.Rings.{ring_of}
use Rattle.psy_history.specs.Schedule.{Turn}
use Rattle.psy_history.specs.Visible.{published}
use Rattle.psy_lists.proofs.lemmas.Ranges.{range_more}
use Rattle.psy_tree.specs.Parts.{clock_in, variable_at}
use Rattle.psy_tree.specs.declared.unit.VarDecl.{VarDecl}

-- One publication
abbrev pub one_published : ℕ → ℕ → ℕ → ℤ → List Publication
one_published variable date slot value = record { variable = variable; date = date; slot = slot; value = value } ∷ []

-- A ring has places.
pub some_places : (plan : Plan) → IsPlan plan → (variable : ℕ) → variable < length plan.unit.variables → 1 ≤ get_or plan.sizes.rings variable 0
some_places plan is variable less =
    let size = ring_size plan is variable less in
    let deep = (is.fits.bare.variables variable size.decl less).depth.0 in
    let same = ap (λ (v : VarDecl). v.depth) (get_or_from_slice_get plan.unit.variables variable size.decl size.decl size.declared) in
    omega (arith, size.sum, deep, same)

-- What is shared behind a date shows all that is published there.
pub shows : (plan : Plan) (s : System) (turns : ℕ → List (Option Turn)) (date : ℕ) (shared : Shared) → s.unit ≡ plan.unit → date ≤ 2 ^ 40 → SharedStands s plan.sizes turns (date + 1) shared → ShowsAll plan date shared
shows plan s turns date shared same early stands = record {
  early = early;
  ringed = stands.ringed ∙ ap (λ u. length u.variables) same;
  sized = λ variable ring at. (stands.rings variable ring at).size;
}

module _ (plan : Plan) (shared : Shared) (date variable : ℕ) (is : IsPlan plan) (shows_all : ShowsAll plan date shared) (less : variable < length plan.unit.variables) where
  abbrev ring : List ℤ
  ring = get_or shared.rings.items variable []

  pub ring_at : slice_get shared.rings.items variable ≡ Some ring
  ring_at = slice_get-get_or shared.rings.items variable [] (omega (arith, less, shows_all.ringed))

  -- The ring has a first value.
  pub some_ring : (given : List ℤ) → given ≡ get_or shared.rings.items variable given → 0 < length given
  some_ring given same =
      let at : slice_get shared.rings.items variable ≡ Some given = slice_get-get_or shared.rings.items variable given (omega (arith, less, shows_all.ringed)) ∙ ap Some (sym same) in
      omega (arith, shows_all.sized variable given at, some_places plan is variable less)

  pub told : (slot : ℕ) (given : List ℤ) (value : ℤ) → is_date (clock_in plan.unit (variable_at plan.unit variable).clock) date ≡ true
      → slot ≡ (count (clock_in plan.unit (variable_at plan.unit variable).clock) date - 1) % get_or plan.sizes.rings variable 0
      → given ≡ get_or shared.rings.items variable given → slice_get given 0 ≡ Some value
      → record { variable = variable; date = date; slot = slot; value = value } ∷ [] ≡ published_in plan shared date variable
  told slot given value at slot_is same first =
      let whole : Publication → List Publication = λ p. p ∷ [] in
      let its : given ≡ ring = same ∙ get_or_default shared.rings.items variable given [] (omega (arith, less, shows_all.ringed)) in
      let value_is : value ≡ get_or ring 0 (pos 0) = sym (get_or_from_slice_get given 0 value (pos 0) first) ∙ ap (λ xs. get_or xs 0 (pos 0)) its in
      ap (λ n. whole (record { variable = variable; date = date; slot = n; value = value })) slot_is
      ∙ ap (λ v. whole (record { variable = variable; date = date; slot = (count (clock_in plan.unit (variable_at plan.unit variable).clock) date - 1) % get_or plan.sizes.rings variable 0; value = v })) value_is
      ∙ sym (ap (λ b. if b then whole (record {
        variable = variable;
        date = date;
        slot = (count (clock_in plan.unit (variable_at plan.unit variable).clock) date - 1) % get_or plan.sizes.rings variable 0;
        value = get_or ring 0 (pos 0);
      }) else []) at)

-- ---- what is kept of it

module _ (plan : Plan) (s : System) (turns : ℕ → List (Option Turn)) (date : ℕ) (shared : Shared) (is : IsPlan plan) (same : s.unit ≡ plan.unit) (lawful : IsLawful s) (law : NextRing)
    (stands : SharedStands s plan.sizes turns (date + 1) shared) (clocks : (variable : ℕ) → variable < length s.unit.variables → IsClock (publishing s variable)) where
  first_is : (variable : ℕ) → variable < length s.unit.variables → is_date (publishing s variable) date ≡ true
      → get_or (get_or shared.rings.items variable []) 0 (pos 0) ≡ published s (history s (date + 1)) variable date
  first_is variable less at =
      let ring = get_or shared.rings.items variable [] in
      let its = stands.rings variable ring (slice_get-get_or shared.rings.items variable [] (omega (arith, less, stands.ringed))) in
      let some : 1 ≤ length ring = (let places = some_places plan is variable (subst (λ u. variable < length u.variables) same less) in omega (arith, its.size, places)) in
      let value = published s (history s (date + 1)) variable date in
      let next : ring_of s (date + 1) variable (length ring) ≡ take (length ring) (value ∷ ring_of s date variable (length ring)) =
      law s date variable (length ring) lawful (clocks variable less)
      ∙ ap (λ b. if b then take (length ring) (value ∷ ring_of s date variable (length ring)) else ring_of s date variable (length ring)) at in
      ap (λ xs. get_or xs 0 (pos 0)) (its.values ∙ next) ∙ first (length ring) value (ring_of s date variable (length ring)) some
    where
      first : (n : ℕ) (x : ℤ) (xs : List ℤ) → 1 ≤ n → get_or (take n (x ∷ xs)) 0 (pos 0) ≡ x
      first zero x xs some = absurd (omega (arith, some))
      first (suc n) x xs some = refl

  one : (variable : ℕ) → variable < length s.unit.variables → map Published (published_in plan shared date variable) ≡ publication_at s plan.sizes variable date
  one variable less = by (is_date (publishing s variable) date) refl
    where
      clock_same : clock_in plan.unit (variable_at plan.unit variable).clock ≡ publishing s variable
      clock_same = ap (λ u. clock_in u (variable_at u variable).clock) (sym same)

      by : (b : Bool) → is_date (publishing s variable) date ≡ b → map Published (published_in plan shared date variable) ≡ publication_at s plan.sizes variable date
      by false e =
          ap (λ c. map Published (if is_date c date then record {
            variable = variable;
            date = date;
            slot = (count c date - 1) % get_or plan.sizes.rings variable 0;
            value = get_or (get_or shared.rings.items variable []) 0 (pos 0);
          } ∷ [] else [])) clock_same
          ∙ ap (λ t. map Published (if t then record {
            variable = variable;
            date = date;
            slot = (count (publishing s variable) date - 1) % get_or plan.sizes.rings variable 0;
            value = get_or (get_or shared.rings.items variable []) 0 (pos 0);
          } ∷ [] else [])) e
          ∙ sym (ap (λ t. if t then Published (record {
            variable = variable;
            date = date;
            slot = (count (publishing s variable) date - 1) % get_or plan.sizes.rings variable 0;
            value = published s (history s (date + 1)) variable date;
          }) ∷ [] else []) e)
      by true e =
          ap (λ c. map Published (if is_date c date then record {
            variable = variable;
            date = date;
            slot = (count c date - 1) % get_or plan.sizes.rings variable 0;
            value = get_or (get_or shared.rings.items variable []) 0 (pos 0);
          } ∷ [] else [])) clock_same
          ∙ ap (λ t. map Published (if t then record {
            variable = variable;
            date = date;
            slot = (count (publishing s variable) date - 1) % get_or plan.sizes.rings variable 0;
            value = get_or (get_or shared.rings.items variable []) 0 (pos 0);
          } ∷ [] else [])) e
          ∙ ap (λ v. Published (record {
            variable = variable;
            date = date;
            slot = (count (publishing s variable) date - 1) % get_or plan.sizes.rings variable 0;
            value = v;
          }) ∷ []) (first_is variable less e)
          ∙ sym (ap (λ t. if t then Published (record {
            variable = variable;
            date = date;
            slot = (count (publishing s variable) date - 1) % get_or plan.sizes.rings variable 0;
            value = published s (history s (date + 1)) variable date;
          }) ∷ [] else []) e)

  own : (variable : ℕ) → variable < length s.unit.variables → All (λ (p : Publication). p.variable ≡ variable) (published_in plan shared date variable)
  own variable less = by (is_date (clock_in plan.unit (variable_at plan.unit variable).clock) date)
    where
      by : (b : Bool) → All (λ (p : Publication). p.variable ≡ variable) (if b then record {
        variable = variable;
        date = date;
        slot = (count (clock_in plan.unit (variable_at plan.unit variable).clock) date - 1) % get_or plan.sizes.rings variable 0;
        value = get_or (get_or shared.rings.items variable []) 0 (pos 0);
      } ∷ [] else [])
      by false = All-nil (λ (p : Publication). p.variable ≡ variable)
      by true = All-cons (λ (p : Publication). p.variable ≡ variable) _ [] refl (All-nil (λ (p : Publication). p.variable ≡ variable))

  -- What is published at one date more
  pub published_more : (publications : List Publication) → ArePublished s plan.sizes date publications
      → ArePublished s plan.sizes (date + 1) (publications ++ flat_map (published_in plan shared date) (range_with_len 0 (length s.unit.variables)))
  published_more publications are = record {
    each = λ variable less.
        ap (map Published) (row_more (λ (p : Publication). p.variable) (published_in plan shared date) (length s.unit.variables) own publications variable less)
        ∙ map-append Published (filter (λ (p : Publication). p.variable == variable) publications) (published_in plan shared date variable)
        ∙ ap (λ xs. xs ++ map Published (published_in plan shared date variable)) (are.each variable less)
        ∙ ap (λ xs. flat_map (publication_at s plan.sizes variable) (range_with_len 0 date) ++ xs) (one variable less)
        ∙ sym (ap (flat_map (publication_at s plan.sizes variable)) (range_more date)
        ∙ flat_map-append (publication_at s plan.sizes variable) (range_with_len 0 date) (date ∷ [])
        ∙ ap (λ xs. flat_map (publication_at s plan.sizes variable) (range_with_len 0 date) ++ xs) (append-nil (publication_at s plan.sizes variable date)));
    known = all_more (λ (p : Publication). p.variable) (published_in plan shared date) (length s.unit.variables) own publications are.known;
  }
