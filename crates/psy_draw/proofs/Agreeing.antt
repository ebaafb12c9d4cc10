-- What two walks over runs with one summary know.
use Rattle.std.proofs.Common.{◌≡◌, ℕ, ◌+◌, ◌==◌, Bool, true, false, ◌&&◌, ◌||◌, not, cond, List, [], ◌∷◌, Option, None, Some, bytes_eq, get_or, is_some, length, map, nat_lt, refl, sym, ap, subst, ◌∙◌, arith}
use Rattle.std.specs.Prelude.{ℤ}
use Rattle.std.specs.List.{list_all, list_any, position, position_or_len, prefix_len}
use Rattle.std.proofs.lemmas.Bool.{and_from, and_parts, false≢true}
use Rattle.std.proofs.lemmas.Bool.Decides.{Decides-eqb, Decides-int_eq}
use Rattle.std.proofs.lemmas.Grind.{common_steps}
use Rattle.std.proofs.lemmas.List.{get_or-map}
use Rattle.std.proofs.lemmas.Slice.Eq.{bytes_eq-Decides}
use Rattle.psy_log.specs.declared.note.Note.{Note}
use Rattle.psy_log.specs.declared.note.Note.TheVariants as note
use Rattle.psy_draw.specs.declared.firsts.Firsts.{Firsts}
use Rattle.psy_draw.specs.declared.outset.Outset.{Outset}
use Rattle.psy_draw.specs.declared.values.Told.{Told}
use Rattle.psy_draw.specs.Columns.{Dated, dated}
use Rattle.psy_draw.specs.Firsts.{agree_on, told_at, told_of}
use Rattle.psy_draw.specs.Gathering.{AreFirst, Counts, asks_variable, first_values}
use Rattle.psy_draw.specs.Lanes.{is_asked}
use Rattle.psy_draw.specs.Listing.{Lists, ends_variable}
use Rattle.psy_draw.specs.Told.{is_same, values_of}
use Rattle.psy_draw.proofs.Eachs.{found_name, place_within}

-- ---- a value by its name

-- One is there where there is a place of it.
any_before : {X : Type 0} (p : X → Bool) (xs : List X) → list_any p xs ≡ nat_lt (prefix_len (λ x. not (p x)) xs) (length xs)
any_before p [] = refl
any_before p (x ∷ xs) = by (p x) (any_before p xs)
  where
    behind : (b : Bool) → nat_lt (prefix_len (λ y. not (p y)) xs) (length xs) ≡ b → nat_lt (1 + prefix_len (λ y. not (p y)) xs) (length (x ∷ xs)) ≡ b
    behind true e = grind (arith, common_steps)
    behind false e = grind (arith, common_steps)

    by : (b : Bool) → list_any p xs ≡ nat_lt (prefix_len (λ y. not (p y)) xs) (length xs)
        → (b || list_any p xs) ≡ nat_lt (cond (not b) (1 + prefix_len (λ y. not (p y)) xs) 0) (length (x ∷ xs))
    by true more = let some : nat_lt 0 (length (x ∷ xs)) ≡ true = grind (arith, common_steps) in sym some
    by false more = more ∙ sym (behind (nat_lt (prefix_len (λ y. not (p y)) xs) (length xs)) refl)

place_of : {X : Type 0} (p : X → Bool) (xs : List X) → list_any p xs ≡ true → position p xs ≡ Some (position_or_len p xs)
place_of p xs there = ap (λ b. cond b (Some (position_or_len p xs)) None) (sym (any_before p xs) ∙ there)

no_place : {X : Type 0} (p : X → Bool) (xs : List X) → list_any p xs ≡ false → position p xs ≡ None
no_place p xs absent = ap (λ b. cond b (Some (position_or_len p xs)) None) (sym (any_before p xs) ∙ absent)

placed : {X : Type 0} (p : X → Bool) (xs : List X) (k : ℕ) → position p xs ≡ Some k → list_any p xs ≡ true
placed p xs k at = by (list_any p xs) refl
  where
    by : (b : Bool) → list_any p xs ≡ b → list_any p xs ≡ true
    by true e = e
    by false e = absurd (false≢true (ap is_some (sym (no_place p xs e) ∙ at)))

-- The value of a variable that is there
here : (values : List ℕ → List Dated) (firsts : Firsts) (name : List ℕ) → AreFirst values firsts → list_any (bytes_eq name) firsts.names ≡ true
    → values_of (told_of firsts name) ≡ values name
here values firsts name are there =
    let at = place_of (bytes_eq name) firsts.names there in
    ap (λ place. values_of (told_at firsts.told.items place)) at ∙ are name (position_or_len (bytes_eq name) firsts.names) at

-- Of one that isn't there is none.
absent : (firsts : Firsts) (name : List ℕ) → list_any (bytes_eq name) firsts.names ≡ false → told_of firsts name ≡ None
absent firsts name away = ap (told_at firsts.told.items) (no_place (bytes_eq name) firsts.names away)

-- The values of some variables that are there, once more
pub copied : (values : List ℕ → List Dated) (firsts : Firsts) (names : List (List ℕ)) (told : List (Option Told)) → AreFirst values firsts
    → ((name : List ℕ) → list_any (bytes_eq name) names ≡ true → list_any (bytes_eq name) firsts.names ≡ true) → told ≡ map (told_of firsts) names
    → (name : List ℕ) (k : ℕ) → position (bytes_eq name) names ≡ Some k → values_of (get_or told k None) ≡ values name
copied values firsts names told are there is name k at =
    let item : get_or (map (told_of firsts) names) k None ≡ told_of firsts name =
    get_or-map (told_of firsts) names k [] None (place_within name names k (length names) at refl) ∙ ap (told_of firsts) (found_name name names k at) in
    ap (λ ts. values_of (get_or ts k None)) is ∙ ap values_of item ∙ here values firsts name are (there name (placed (bytes_eq name) names k at))

-- ---- the same value

-- The date and the value of the first of some, and others of none
first_date_of : ℕ → List Dated → ℕ
first_date_of date [] = date
first_date_of date (v ∷ values) = v.date

first_value_of : ℤ → List Dated → ℤ
first_value_of value [] = value
first_value_of value (v ∷ values) = v.value

has_some : List Dated → Bool
has_some [] = false
has_some (v ∷ values) = true

same_values : (some other : Option Told) → is_same some other ≡ true → values_of some ≡ values_of other
same_values None None same = refl
same_values None (Some other) same = absurd (false≢true same)
same_values (Some some) None same = absurd (false≢true same)
same_values (Some some) (Some other) same =
    let parts = and_parts _ _ same in
    let dates = (Decides-eqb some.date other.date).0 parts.0 in
    let values = (Decides-int_eq some.value other.value).0 parts.1 in
    ap (λ date. dated date some.value ∷ []) dates ∙ ap (λ value. dated other.date value ∷ []) values

values_same : (some other : Option Told) → values_of some ≡ values_of other → is_same some other ≡ true
unfolding first_date_of first_value_of has_some
values_same None None same = refl
values_same None (Some other) same = absurd (false≢true (ap has_some same))
values_same (Some some) None same = absurd (false≢true (sym (ap has_some same)))
values_same (Some some) (Some other) same =
    and_from _ _ ((Decides-eqb some.date other.date).1 (ap (first_date_of 0) same)) ((Decides-int_eq some.value other.value).1 (ap (first_value_of some.value) same))

-- ---- the same of all variables in a summary

-- One of which both tell the same
agree_at : (some other : Firsts) (summary : List Note) (name : List ℕ) → list_all (agree_on some other) summary ≡ true → list_any (ends_variable name) summary ≡ true
    → is_same (told_of some name) (told_of other name) ≡ true
agree_at some other [] name all there = absurd (false≢true there)
agree_at some other (note.VariableEnd variable size reach ∷ summary) name all there =
    by (bytes_eq name variable.now) refl (and_parts _ _ all) (agree_at some other summary name) there
  where
    by : (b : Bool) → bytes_eq name variable.now ≡ b
        → (is_same (told_of some variable.now) (told_of other variable.now) ≡ true) × (list_all (agree_on some other) summary ≡ true)
        → (list_all (agree_on some other) summary ≡ true → list_any (ends_variable name) summary ≡ true → is_same (told_of some name) (told_of other name) ≡ true)
        → (b || list_any (ends_variable name) summary) ≡ true → is_same (told_of some name) (told_of other name) ≡ true
    by true e parts more there =
        subst (λ n. is_same (told_of some n) (told_of other n) ≡ true) (sym ((bytes_eq-Decides name variable.now).0 e)) parts.0
    by false e parts more there = more parts.1 there
agree_at some other (n ∷ summary) name all there = agree_at some other summary name all there

-- A variable that was asked for is one of the summary.
asked_ends : (names : List (List ℕ)) (name : List ℕ) (summary : List Note) → list_any (asks_variable names name) summary ≡ true → list_any (ends_variable name) summary ≡ true
asked_ends names name [] there = there
asked_ends names name (note.VariableEnd variable size reach ∷ summary) there = by (bytes_eq name variable.now) (asked_ends names name summary) there
  where
    by : (b : Bool) → (list_any (asks_variable names name) summary ≡ true → list_any (ends_variable name) summary ≡ true)
        → ((b && is_asked names variable.now) || list_any (asks_variable names name) summary) ≡ true → (b || list_any (ends_variable name) summary) ≡ true
    by true more there = refl
    by false more there = more there
asked_ends names name (n ∷ summary) there = asked_ends names name summary there

-- So what one knows the other does.
agreed_firsts : (names : List (List ℕ)) (summary : List Note) (values : List ℕ → List Dated) (some other : Firsts) → Lists (asks_variable names) summary some.names
    → Lists (asks_variable names) summary other.names → list_all (agree_on some other) summary ≡ true → AreFirst values other → AreFirst values some
agreed_firsts names summary values some other lists also agree are name k at =
    let there = placed (bytes_eq name) some.names k at in
    let asked = sym (lists name) ∙ there in
    let same = agree_at some other summary name agree (asked_ends names name summary asked) in
    ap (λ place. values_of (told_at some.told.items place)) (sym at) ∙ same_values (told_of some name) (told_of other name) same
    ∙ here values other name are (also name ∙ asked)

-- And both agree where they know the same.
firsts_agree : (values : List ℕ → List Dated) (some other : Firsts) → ((name : List ℕ) → list_any (bytes_eq name) other.names ≡ list_any (bytes_eq name) some.names)
    → AreFirst values some → AreFirst values other → (summary : List Note) → list_all (agree_on some other) summary ≡ true
firsts_agree values some other names are also [] = refl
firsts_agree values some other names are also (note.VariableEnd variable size reach ∷ summary) =
    and_from _ _ (by (list_any (bytes_eq variable.now) some.names) refl) (firsts_agree values some other names are also summary)
  where
    by : (b : Bool) → list_any (bytes_eq variable.now) some.names ≡ b → is_same (told_of some variable.now) (told_of other variable.now) ≡ true
    by true e =
        values_same (told_of some variable.now) (told_of other variable.now)
        (here values some variable.now are e ∙ sym (here values other variable.now also (names variable.now ∙ e)))
    by false e =
        ap (λ t. is_same t (told_of other variable.now)) (absent some variable.now e) ∙ ap (is_same None) (absent other variable.now (names variable.now ∙ e))
firsts_agree values some other names are also (n ∷ summary) = firsts_agree values some other names are also summary

-- ---- the same of all that is known

pub agree : (names : List (List ℕ)) (from : ℕ) (summary notes : List Note) (some other : Outset) → Lists (asks_variable names) summary some.firsts.names
    → Lists (asks_variable names) summary other.firsts.names → Counts names from notes some → Counts names from notes other
    → (some.last == other.last && some.lanes == other.lanes && list_all (agree_on some.firsts other.firsts) summary) ≡ true
agree names from summary notes some other lists also counts known =
    and_from _ _
    (and_from _ _ ((Decides-eqb some.last other.last).1 (counts.last ∙ sym known.last)) ((Decides-eqb some.lanes other.lanes).1 (counts.lanes ∙ sym known.lanes)))
    (firsts_agree (first_values from notes) some.firsts other.firsts (λ name. also name ∙ sym (lists name)) counts.firsts known.firsts summary)

pub agreed : (names : List (List ℕ)) (from : ℕ) (summary notes : List Note) (some other : Outset) → Lists (asks_variable names) summary some.firsts.names
    → Lists (asks_variable names) summary other.firsts.names
    → (some.last == other.last && some.lanes == other.lanes && list_all (agree_on some.firsts other.firsts) summary) ≡ true
    → Counts names from notes other → Counts names from notes some
agreed names from summary notes some other lists also same known =
    let parts = and_parts _ _ same in
    let more = and_parts _ _ parts.0 in
    record {
      last = (Decides-eqb some.last other.last).0 more.0 ∙ known.last;
      lanes = (Decides-eqb some.lanes other.lanes).0 more.1 ∙ known.lanes;
      firsts = agreed_firsts names summary (first_values from notes) some.firsts other.firsts lists also parts.1 known.firsts;
    }
