-- What words select, as it is found word by word.
use Rattle.std.proofs.Common.{◌≡◌, refl, sym, ap, subst, ◌∙◌, MatchOption, ℕ, ◌<◌, Bool, true, false, not, List, [], ◌∷◌, Option, None, Some, length, map, codes, nat_le, ◌&&◌, ◌||◌, ◌==◌, ◌⊎◌, inl, inr, arith}
use Rattle.std.specs.Char.{is_ascii_digit}
use Rattle.std.specs.List.{list_all}
use Rattle.std.proofs.lemmas.List.Folds.{list_all-map}
use Rattle.std.proofs.lemmas.Bool.Decides.{nat_tests}
use Rattle.std.proofs.lemmas.Option.{cond_some}
use Rattle.psy_base.specs.declared.limits.TheConstants.{WORD_DIGITS}
use Rattle.psy_lists.proofs.lemmas.Tests.{each_of_both}
use Rattle.psy_tree.specs.Lexemes.{decimal_value}
use Rattle.psy_text.specs.Words.{is_number, number_of}
use Rattle.psy_draw.specs.declared.window.Window.{Window}
use Rattle.psy_draw.specs.declared.window.TheConstants.Window.{WHOLE}
use Rattle.psy_view.specs.declared.asked.Selection.{Selection}
use Rattle.psy_view.specs.Asked.{AskNoView, Select, SelectNothing, begins_with_file, is_file, is_name, of_all_dates, of_two_dates}
use Rattle.psy_view.specs.Asked.{asks_where, asks_timeline, asks_timeline_of, asks_timeline_with, asks_dot, asks_dot_of, asks_table, asks_dump, asks_flow}
use Rattle.psy_view.specs.Asked.{asks_listing, asks_report, asks_difference, asks_expectation}
use Rattle.psy_view.specs.Reading.{IsSelected, Selects, names_in}

-- All words are names, where they are read one by one.
pub names_are : {S : Type 0} (f : S → List ℕ) (words : List S) → list_all is_name (map f words) ≡ list_all (λ word. is_name (f word)) words
names_are f words = list_all-map is_name f words

-- What is told of a value that there may be, said otherwise
pub told : {X : Type 0} {A B : Type 0} {P Q : X → Type 0} (o : Option X) → MatchOption o A P → (A → B) → ((x : X) → P x → Q x) → MatchOption o B Q
told None here none some = none here
told (Some x) here none some = some x here

-- ---- nothing is selected

-- A word that has a number is one.
numbered : (word : List ℕ) (n : ℕ) → number_of word ≡ Some n → is_number word ≡ true
numbered word n is = (cond_some (is_number word) (decimal_value word) n is).0

-- A date comes first, so the words aren't names.
no_names : (from : List ℕ) (more : List (List ℕ)) (first : ℕ) → number_of from ≡ Some first → list_all is_name (from ∷ more) ≡ true → ⊥
no_names from more first is all =
    let falls : list_all is_name (from ∷ more) ≡ false = ap (λ b. not (b || is_file from) && list_all is_name more) (numbered from first is) in
    cc (all, falls)

-- Two dates come first, and a third one is among the others.
pub none_of_dates : (from to : List ℕ) (first last : ℕ) (names : List (List ℕ)) → number_of from ≡ Some first → number_of to ≡ Some last → list_all is_name names ≡ false
    → SelectNothing (from ∷ to ∷ names)
none_of_dates from to first last names a b none _ _ (of_all_dates all) = no_names from (to ∷ names) first a all
none_of_dates from to first last names a b none _ _ (of_two_dates f t m n others same p q all) =
    let are : names ≡ others = cc same in
    let yes : list_all is_name names ≡ true = ap (list_all is_name) are ∙ all in
    cc (none, yes)

-- One of the first two is no date, and a date is among the words.
pub none_of_names : (from to : List ℕ) (names : List (List ℕ)) → (number_of from ≡ None) ⊎ (number_of to ≡ None) → list_all is_name (from ∷ to ∷ names) ≡ false
    → SelectNothing (from ∷ to ∷ names)
none_of_names from to names un none _ _ (of_all_dates all) = cc (none, all)
none_of_names from to names (inl missing) none _ _ (of_two_dates f t m n others same p q all) = cc (same, missing, p)
none_of_names from to names (inr missing) none _ _ (of_two_dates f t m n others same p q all) = cc (same, missing, q)

-- There is one word at most, and it is a date.
pub none_of_few : (words : List (List ℕ)) → length words < 2 → list_all is_name words ≡ false → SelectNothing words
none_of_few words few none _ _ (of_all_dates all) = cc (none, all)
none_of_few words few none _ _ (of_two_dates f t m n others same p q all) = let long = ap length same in absurd (omega (arith, long, few))

or_falls : (a b : Bool) → (not (a || true) && b) ≡ false
or_falls true b = refl
or_falls false b = refl

-- A digit is neither `.` nor `/`.
no_sign : (b : ℕ) → is_ascii_digit b ≡ true → (b == 46 || b == 47) ≡ false
no_sign b digit = grind (arith, nat_tests)

-- A number is digits.
digits_of : (word : List ℕ) → is_number word ≡ true → list_all is_ascii_digit word ≡ true
digits_of word is =
    let both = each_of_both (nat_le 1 (length word)) _ is in
    (each_of_both (nat_le (length word) WORD_DIGITS) (list_all is_ascii_digit word) both.1).1

-- A file isn't among dates and names.
digits_alone : (word : List ℕ) → list_all is_ascii_digit word ≡ true → is_file word ≡ false
digits_alone [] all = refl
digits_alone (b ∷ word) all =
    let digit : is_ascii_digit b ≡ true = (each_of_both (is_ascii_digit b) (list_all is_ascii_digit word) all).0 in
    let more : list_all is_ascii_digit word ≡ true = (each_of_both (is_ascii_digit b) (list_all is_ascii_digit word) all).1 in
    let here : (b == 46 || b == 47) ≡ false = no_sign b digit in
    ap (λ t. t || is_file word) here ∙ digits_alone word more

no_number : (word : List ℕ) → is_file word ≡ true → is_number word ≡ true → ⊥
no_number word file number =
    let digits : list_all is_ascii_digit word ≡ true = digits_of word number in
    let none : is_file word ≡ false = digits_alone word digits in
    cc (file, none)

pub no_file_selected : (file : List ℕ) (more : List (List ℕ)) → is_file file ≡ true → SelectNothing (file ∷ more)
no_file_selected file more is _ _ (of_all_dates all) =
    let falls : list_all is_name (file ∷ more) ≡ false = ap (λ b. not (is_number file || b) && list_all is_name more) is ∙ or_falls (is_number file) (list_all is_name more) in
    cc (all, falls)
no_file_selected file more is _ _ (of_two_dates from to first last names same a b all) =
    let begins : file ≡ from = cc same in
    no_number file is (numbered file first (ap number_of begins ∙ a))

-- ---- then no view is asked for

pub no_timeline : (name : List ℕ) (words : List (List ℕ)) → begins_with_file words ≡ false → SelectNothing words → AskNoView (codes "timeline" ∷ name ∷ words)
no_timeline name words alone none _ (asks_timeline n more window names same selects) =
    let are : more ≡ words = cc same in
    none window names (subst (λ w. Select w window names) are selects)
no_timeline name words alone none _ (asks_timeline_of n program more window names same file selects) =
    let are : words ≡ program ∷ more = cc same in
    let begins : begins_with_file words ≡ true = ap begins_with_file are ∙ file in
    cc (alone, begins)
no_timeline name words alone none _ (asks_timeline_with n program inputs more window names same file also selects) =
    let are : words ≡ program ∷ inputs ∷ more = cc same in
    let begins : begins_with_file words ≡ true = ap begins_with_file are ∙ file in
    cc (alone, begins)
no_timeline name words alone none _ (asks_where n word more same) = absurd (cc same)
no_timeline name words alone none _ (asks_dot n same) = absurd (cc same)
no_timeline name words alone none _ (asks_dot_of n other same) = absurd (cc same)
no_timeline name words alone none _ (asks_table n same) = absurd (cc same)
no_timeline name words alone none _ (asks_dump n same) = absurd (cc same)
no_timeline name words alone none _ (asks_flow n same) = absurd (cc same)
no_timeline name words alone none _ (asks_listing n same) = absurd (cc same)
no_timeline name words alone none _ (asks_report n date until same date_is) = absurd (cc same)
no_timeline name words alone none _ (asks_difference n other same) = absurd (cc same)
no_timeline name words alone none _ (asks_expectation n claims same) = absurd (cc same)

pub no_timeline_of : (name program : List ℕ) (words : List (List ℕ)) → is_file program ≡ true → begins_with_file words ≡ false → SelectNothing words
    → AskNoView (codes "timeline" ∷ name ∷ program ∷ words)
no_timeline_of name program words is alone none _ (asks_timeline n more window names same selects) =
    let are : more ≡ program ∷ words = cc same in
    no_file_selected program words is window names (subst (λ w. Select w window names) are selects)
no_timeline_of name program words is alone none _ (asks_timeline_of n other more window names same file selects) =
    let are : more ≡ words = cc same in
    none window names (subst (λ w. Select w window names) are selects)
no_timeline_of name program words is alone none _ (asks_timeline_with n other inputs more window names same file also selects) =
    let are : words ≡ inputs ∷ more = cc same in
    let begins : begins_with_file words ≡ true = ap begins_with_file are ∙ also in
    cc (alone, begins)
no_timeline_of name program words is alone none _ (asks_where n word more same) = absurd (cc same)
no_timeline_of name program words is alone none _ (asks_dot n same) = absurd (cc same)
no_timeline_of name program words is alone none _ (asks_dot_of n other same) = absurd (cc same)
no_timeline_of name program words is alone none _ (asks_table n same) = absurd (cc same)
no_timeline_of name program words is alone none _ (asks_dump n same) = absurd (cc same)
no_timeline_of name program words is alone none _ (asks_flow n same) = absurd (cc same)
no_timeline_of name program words is alone none _ (asks_listing n same) = absurd (cc same)
no_timeline_of name program words is alone none _ (asks_report n date until same date_is) = absurd (cc same)
no_timeline_of name program words is alone none _ (asks_difference n other same) = absurd (cc same)
no_timeline_of name program words is alone none _ (asks_expectation n claims same) = absurd (cc same)

pub no_timeline_with : (name program inputs : List ℕ) (words : List (List ℕ)) → is_file program ≡ true → is_file inputs ≡ true → SelectNothing words
    → AskNoView (codes "timeline" ∷ name ∷ program ∷ inputs ∷ words)
no_timeline_with name program inputs words is too none _ (asks_timeline n more window names same selects) =
    let are : more ≡ program ∷ inputs ∷ words = cc same in
    no_file_selected program (inputs ∷ words) is window names (subst (λ w. Select w window names) are selects)
no_timeline_with name program inputs words is too none _ (asks_timeline_of n other more window names same file selects) =
    let are : more ≡ inputs ∷ words = cc same in
    no_file_selected inputs words too window names (subst (λ w. Select w window names) are selects)
no_timeline_with name program inputs words is too none _ (asks_timeline_with n other fed more window names same file also selects) =
    let are : more ≡ words = cc same in
    none window names (subst (λ w. Select w window names) are selects)
no_timeline_with name program inputs words is too none _ (asks_where n word more same) = absurd (cc same)
no_timeline_with name program inputs words is too none _ (asks_dot n same) = absurd (cc same)
no_timeline_with name program inputs words is too none _ (asks_dot_of n other same) = absurd (cc same)
no_timeline_with name program inputs words is too none _ (asks_table n same) = absurd (cc same)
no_timeline_with name program inputs words is too none _ (asks_dump n same) = absurd (cc same)
no_timeline_with name program inputs words is too none _ (asks_flow n same) = absurd (cc same)
no_timeline_with name program inputs words is too none _ (asks_listing n same) = absurd (cc same)
no_timeline_with name program inputs words is too none _ (asks_report n date until same date_is) = absurd (cc same)
no_timeline_with name program inputs words is too none _ (asks_difference n other same) = absurd (cc same)
no_timeline_with name program inputs words is too none _ (asks_expectation n claims same) = absurd (cc same)

-- ---- what is selected

-- A window of two dates, and names behind them
pub of_dates : (from to : List ℕ) (window : Window) (names : List (List ℕ)) (s : Selection) → number_of from ≡ Some window.from → number_of to ≡ Some window.to
    → list_all is_name names ≡ true → Selects window names s → IsSelected (from ∷ to ∷ names) s
of_dates from to window names s a b all (same, are) =
    subst (λ w. Select (from ∷ to ∷ names) w (names_in s)) (sym same)
    (subst (λ n. Select (from ∷ to ∷ names) window n) (sym are) (of_two_dates from to window.from window.to names refl a b all))

pub of_names : (words : List (List ℕ)) (s : Selection) → list_all is_name words ≡ true → Selects WHOLE words s → IsSelected words s
of_names words s all (same, are) =
    subst (λ w. Select words w (names_in s)) (sym same) (subst (λ n. Select words WHOLE n) (sym are) (of_all_dates all))
