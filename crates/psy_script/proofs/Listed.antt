-- What stands under a name in what lines say.
use Rattle.std.proofs.Common.{◌≡◌, ◌≢◌, ℕ, Bool, true, false, List, [], ◌∷◌, ◌++◌, map, Option, Some, None, refl, sym, ap, ◌∙◌, subst}
use Rattle.std.specs.Prelude.{ℤ, ◌||◌, if◌then◌else◌, bytes_eq, option_map, option_to_list}
use Rattle.std.specs.List.{All}
use Rattle.std.proofs.lemmas.Bool.{false≢true, false_from_ne_true, true_from_ne_false}
use Rattle.std.proofs.lemmas.List.{append-nil}
use Rattle.std.proofs.lemmas.List.Concat.{flat_map-append}
use Rattle.std.proofs.lemmas.List.Elements.{All-nil, All-cons, All-head, All-tail, All-append}
use Rattle.std.proofs.lemmas.Option.{none-some}
use Rattle.psy_script.specs.Inputs.{Listing, is_listed, listing_in, listing_of, listings, values_under}
use Rattle.psy_text.specs.Lines.{is_skipped}
use Rattle.psy_text.specs.Words.{words_of, value_of}
use Rattle.psy_script.specs.Numbers.{all_some}

-- What one more line says is said last.
pub listings_more : (before : List (List ℕ)) (line : List ℕ) → listings (before ++ line ∷ []) ≡ listings before ++ option_to_list (listing_of line)
listings_more before line =
    let f = λ (l : List ℕ). option_to_list (listing_of l) in
    flat_map-append f before (line ∷ []) ∙ ap (λ last. listings before ++ last) (append-nil (f line))

-- ---- lists that aren't empty

-- It lists a value.
abbrev pub HasValues : Listing → Type 0
HasValues l = l.values ≢ []

-- Values, one of which comes first, are some.
some_values : (first : Option ℤ) (rest : List (Option ℤ)) (values : List ℤ) → all_some (first ∷ rest) ≡ Some values → values ≢ []
some_values None rest values e = absurd (none-some values e)
some_values (Some x) rest values e = by (all_some rest) e
  where
    by : (o : Option (List ℤ)) → option_map (λ xs. x ∷ xs) o ≡ Some values → values ≢ []
    by None e = absurd (none-some values e)
    by (Some xs) e = λ empty. absurd cc

pub has_values : (words : List (List ℕ)) (l : Listing) → listing_in words ≡ Some l → HasValues l
has_values [] l e = absurd (none-some l e)
has_values (name ∷ []) l e = absurd (none-some l e)
has_values (name ∷ word ∷ words) l e = by (all_some (map value_of (word ∷ words))) refl e
  where
    by : (o : Option (List ℤ)) → all_some (map value_of (word ∷ words)) ≡ o → option_map (λ values. record { name = name; values = values }) o ≡ Some l → HasValues l
    by None is e = absurd (none-some l e)
    by (Some values) is e = let own : values ≡ l.values = cc in subst (λ vs. vs ≢ []) own (some_values (value_of word) (map value_of words) values is)

-- What a line that says something says
pub said : (line : List ℕ) (l : Listing) → listing_of line ≡ Some l → (is_skipped line ≡ false) × (listing_in (words_of line) ≡ Some l)
said line l e = by (is_skipped line) e
  where
    by : (b : Bool) → (if b then None else listing_in (words_of line)) ≡ Some l → (b ≡ false) × (listing_in (words_of line) ≡ Some l)
    by true e = absurd (none-some l e)
    by false e = (refl, e)

all_have_values : (lines : List (List ℕ)) → All HasValues (listings lines)
all_have_values [] = All-nil HasValues
all_have_values (line ∷ lines) = All-append HasValues (option_to_list (listing_of line)) (listings lines) (by (listing_of line) refl) (all_have_values lines)
  where
    by : (o : Option Listing) → listing_of line ≡ o → All HasValues (option_to_list o)
    by None is = All-nil HasValues
    by (Some l) is = All-cons HasValues l [] (has_values (words_of line) l (said line l is).1) (All-nil HasValues)

-- ---- what stands under a name

values_none : (name : List ℕ) (before : List Listing) → is_listed before name ≡ false → values_under name before ≡ []
values_none name [] e = refl
values_none name (l ∷ rest) e = by (bytes_eq name l.name) e (values_none name rest)
  where
    by : (b : Bool) → (b || is_listed rest name) ≡ false → (is_listed rest name ≡ false → values_under name rest ≡ []) → (if b then l.values else values_under name rest) ≡ []
    by true e on = absurd (false≢true (sym e))
    by false e on = on e

values_some : (name : List ℕ) (before : List Listing) → All HasValues before → is_listed before name ≡ true → values_under name before ≢ []
values_some name [] all e = absurd (false≢true e)
values_some name (l ∷ rest) all e = by (bytes_eq name l.name) e (values_some name rest (All-tail HasValues l rest all))
  where
    by : (b : Bool) → (b || is_listed rest name) ≡ true → (is_listed rest name ≡ true → values_under name rest ≢ []) → (if b then l.values else values_under name rest) ≢ []
    by true e on = All-head HasValues l rest all
    by false e on = on e

-- A name that isn't listed has the values that are listed under it last.
pub values_last : (name : List ℕ) (before : List Listing) (l : Listing) → is_listed before name ≡ false → bytes_eq name l.name ≡ true → values_under name (before ++ l ∷ []) ≡ l.values
values_last name [] l e same = ap (λ b. if b then l.values else []) same
values_last name (m ∷ rest) l e same = by (bytes_eq name m.name) e (λ h. values_last name rest l h same)
  where
    by : (b : Bool) → (b || is_listed rest name) ≡ false → (is_listed rest name ≡ false → values_under name (rest ++ l ∷ []) ≡ l.values) → (if b then m.values else values_under name (rest ++ l ∷ [])) ≡ l.values
    by true e on = absurd (false≢true (sym e))
    by false e on = on e

-- Another name keeps its values.
pub values_kept : (name : List ℕ) (before : List Listing) (l : Listing) → bytes_eq name l.name ≡ false → values_under name (before ++ l ∷ []) ≡ values_under name before
values_kept name [] l other = ap (λ b. if b then l.values else []) other
values_kept name (m ∷ rest) l other = ap (λ vs. if bytes_eq name m.name then m.values else vs) (values_kept name rest l other)

-- A name is listed in lines exactly where it has values there.
pub unlisted : (name : List ℕ) (lines : List (List ℕ)) → values_under name (listings lines) ≡ [] → is_listed (listings lines) name ≡ false
unlisted name lines empty = false_from_ne_true _ (λ there. absurd (values_some name (listings lines) (all_have_values lines) there empty))

pub listed : (name : List ℕ) (lines : List (List ℕ)) → values_under name (listings lines) ≢ [] → is_listed (listings lines) name ≡ true
listed name lines some = true_from_ne_false _ (λ none. some (values_none name (listings lines) none))
