-- What is wrong with a line of inputs.
use Rattle.std.proofs.Common.{◌≡◌, ℕ, Bool, true, false, List, [], ◌∷◌, ◌++◌, map, length, Option, Some, None, refl, sym, ap, ◌∙◌, subst, arith}
use Rattle.std.specs.Prelude.{ℤ, not, if◌then◌else◌, bytes_eq, is_none, slice_get, FitsSigned, option_to_list}
use Rattle.std.specs.Int.{w32}
use Rattle.std.specs.List.{All, list_all, position}
use Rattle.std.proofs.lemmas.Int.{ints}
use Rattle.std.proofs.lemmas.Bool.{cond_both}
use Rattle.std.proofs.lemmas.List.{length-map}
use Rattle.std.proofs.lemmas.Option.{none-some, same_Some}
use Rattle.std.proofs.lemmas.List.Elements.{All-nil, All-cons, All-head, All-tail, All-append, All-weaker}
use Rattle.std.proofs.lemmas.List.Sums.{AllPass-from_list_all}
use Rattle.psy_tree.specs.declared.unit.VarDecl.{VarDecl}
use Rattle.psy_tree.proofs.lemmas.Lists.{slice_get_mapped}
use Rattle.psy_history.specs.Compiled.{AreInputs}
use Rattle.psy_meaning.specs.Alike.{AllFit}
use Rattle.psy_tree.specs.declared.unit.Unit.{Unit as Whole}
use Rattle.psy_script.specs.declared.fault.LineKind.{LineKind}
use Rattle.psy_script.specs.declared.fault.LineKind.TheVariants.{NoSuchName, Again, Range}
use Rattle.psy_script.specs.Inputs.{AreListsOf, Listing, inputs_judge, is_input, is_listed, list_of, listing_fault, listing_in, listing_of, listings, values_under}
use Rattle.psy_text.specs.Lines.{is_skipped}
use Rattle.psy_text.specs.Lines.{lines_of}
use Rattle.psy_text.specs.Words.{words_of}
use Rattle.psy_script.specs.Numbers.{fits_32}
use Rattle.psy_script.proofs.FirstFaults.{kept_lines}
use Rattle.psy_script.proofs.InputNumbers.{is_named}
use Rattle.psy_script.proofs.Listed.{listings_more}
use Rattle.psy_script.proofs.Positions.{none_found, found_any}

-- The first fault of what names an input or doesn't, was listed or wasn't, and fits or doesn't
abbrev first_of_three : Bool → Bool → Bool → Option LineKind
first_of_three input again fits = if not input then Some NoSuchName else (if again then Some Again else (if not fits then Some Range else None))

module _ (unit : Whole) (before : List Listing) (l : Listing) where
  -- It names no input.
  pub fault_no_name : position (is_named l.name) unit.variables ≡ None → Some NoSuchName ≡ listing_fault unit before (Some l)
  fault_no_name none = ap (λ b. first_of_three b (is_listed before l.name) (list_all fits_32 l.values)) (sym (none_found (is_named l.name) unit.variables none))

  module _ (input : ℕ) (found : position (is_named l.name) unit.variables ≡ Some input) where
    named : first_of_three true (is_listed before l.name) (list_all fits_32 l.values) ≡ listing_fault unit before (Some l)
    named = ap (λ b. first_of_three b (is_listed before l.name) (list_all fits_32 l.values)) (sym (found_any (is_named l.name) unit.variables input found))

    -- The input was listed before.
    pub fault_again : is_listed before l.name ≡ true → Some Again ≡ listing_fault unit before (Some l)
    fault_again again = ap (λ b. first_of_three true b (list_all fits_32 l.values)) (sym again) ∙ named

    -- It wasn't, and its values fit or not.
    pub fault_by_range : is_listed before l.name ≡ false → (fits : Bool) → list_all fits_32 l.values ≡ fits → (if not fits then Some Range else None) ≡ listing_fault unit before (Some l)
    fault_by_range new fits e = ap (first_of_three true false) (sym e) ∙ ap (λ b. first_of_three true b (list_all fits_32 l.values)) (sym new) ∙ named

-- A line that says something
module _ (unit : Whole) (before : List (List ℕ)) (line : List ℕ) (l : Listing) (some : is_skipped line ≡ false) (says : Some l ≡ listing_in (words_of line)) where
  pub line_fault : listing_fault unit (listings before) (Some l) ≡ inputs_judge unit before line
  line_fault = ap (listing_fault unit (listings before)) says ∙ ap (λ (b : Bool). if b then None else listing_fault unit (listings before) (listing_in (words_of line))) (sym some)

  pub line_says : listing_of line ≡ Some l
  line_says = ap (λ (b : Bool). if b then None else listing_in (words_of line)) some ∙ sym says

-- Values that aren't given don't fit.
pub fits_none : (fits : Bool) (values : List ℤ) → (if fits then Some values else None) ≡ None → fits ≡ false
fits_none true values e = absurd (none-some values (sym e))
fits_none false values e = refl

-- ---- lists without fault are inputs of the program

-- Its values are of 32 bits.
abbrev IsFit : Listing → Type 0
IsFit l = AllFit l.values

fits_signed : (value : ℤ) → fits_32 value ≡ true → FitsSigned w32 value
fits_signed value fits = grind (arith, ints)

-- What is said without fault is fit.
fit : (unit : Whole) (before : List Listing) (l : Listing) → listing_fault unit before (Some l) ≡ None → IsFit l
fit unit before l sound = All-weaker (λ value. fits_32 value ≡ true) (FitsSigned w32) fits_signed l.values (AllPass-from_list_all fits_32 l.values (by (is_input unit l.name) (is_listed before l.name) (list_all fits_32 l.values) sound))
  where
    by : (input again fits : Bool) → first_of_three input again fits ≡ None → fits ≡ true
    by input again true e = refl
    by true true false e = absurd cc
    by true false false e = absurd cc
    by false again false e = absurd cc

fit_more : (unit : Whole) (before : List (List ℕ)) (line : List ℕ) → All IsFit (listings before) → inputs_judge unit before line ≡ None → All IsFit (listings (before ++ line ∷ []))
fit_more unit before line all sound =
    subst (All IsFit) (sym (listings_more before line)) (All-append IsFit (listings before) (option_to_list (listing_of line)) all (by (is_skipped line) (listing_in (words_of line)) sound))
  where
    by : (skipped : Bool) (o : Option Listing) → (if skipped then None else listing_fault unit (listings before) o) ≡ None → All IsFit (option_to_list (if skipped then None else o))
    by true o e = All-nil IsFit
    by false None e = absurd cc
    by false (Some l) e = All-cons IsFit l [] (fit unit (listings before) l e) (All-nil IsFit)

values_fit : (name : List ℕ) (said : List Listing) → All IsFit said → AllFit (values_under name said)
values_fit name [] all = All-nil (FitsSigned w32)
values_fit name (l ∷ rest) all = cond_both (bytes_eq name l.name) l.values (values_under name rest) AllFit (λ _. All-head IsFit l rest all) (λ _. values_fit name rest (All-tail IsFit l rest all))

list_fits : (said : List Listing) → All IsFit said → (variables : List VarDecl) → All AllFit (map (list_of said) variables)
list_fits said all [] = All-nil AllFit
list_fits said all (v ∷ vs) =
    All-cons AllFit (list_of said v) (map (list_of said) vs) (cond_both (is_none v.owner) (values_under v.name said) [] AllFit (λ _. values_fit v.name said all) (λ _. All-nil (FitsSigned w32))) (list_fits said all vs)

-- The lists of a text without fault are inputs of the program.
pub inputs_of_lists : (unit : Whole) (text : List ℕ) (lists : List (List ℤ)) → AreListsOf unit text lists → AreInputs unit lists
inputs_of_lists unit text lists h =
    let said = listings (lines_of text) in
    let fit_said = kept_lines (inputs_judge unit) (λ before. All IsFit (listings before)) (fit_more unit) text (All-nil IsFit) h.lawful in
    record {
      count = ap length h.stated ∙ length-map unit.variables (list_of said);
      values = subst (All AllFit) (sym h.stated) (list_fits said fit_said unit.variables);
      owned = λ variable owner list owned at.
          (let v = slice_get_mapped (list_of said) unit.variables variable list (ap (λ ls. slice_get ls variable) (sym h.stated) ∙ at) in
          let w = slice_get_mapped (λ (x : VarDecl). x.owner) unit.variables variable (Some owner) owned in
          let one = same_Some v.0 w.0 (sym v.1 ∙ w.1) in
          let its : v.0.owner ≡ Some owner = ap (λ (x : VarDecl). x.owner) one ∙ same_Some w.0.owner (Some owner) w.2 in
          same_Some list (list_of said v.0) (sym v.2) ∙ ap (λ o. if is_none o then values_under v.0.name said else []) its);
    }
