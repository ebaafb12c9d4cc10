-- The inputs that a text states: by input, its list of values.
use Rattle.std.specs.Prelude.{◌≡◌, Bool, not, ◌&&◌, if◌then◌else◌, List, [], ◌∷◌, map, ℕ, Option, Some, None, is_none, option_map, option_to_list, bytes_eq, ℤ}
use Rattle.std.specs.List.{flat_map, list_all, list_any}
use Rattle.psy_tree.specs.declared.unit.Unit.{Unit as Whole}
use Rattle.psy_tree.specs.declared.unit.VarDecl.{VarDecl}
use Rattle.psy_script.specs.declared.fault.LineKind.{LineKind}
use Rattle.psy_script.specs.declared.fault.LineKind.TheVariants.{BadLine, NoSuchName, Again, Range}
use Rattle.psy_script.specs.Faults.{Judge, IsLawful}
use Rattle.psy_text.specs.Lines.{is_skipped}
use Rattle.psy_text.specs.Lines.{lines_of}
use Rattle.psy_text.specs.Words.{words_of, value_of}
use Rattle.psy_script.specs.Numbers.{all_some, fits_32}

-- What a line of inputs says: an input has this list of values.
pub record Listing : Type 0 where
  pub name : List ℕ
  pub values : List ℤ

-- `NAME VALUE VALUE ..`, with at least one value
abbrev pub listing_in : List (List ℕ) → Option Listing
listing_in (name ∷ word ∷ words) = option_map (λ values. record { name = name; values = values }) (all_some (map value_of (word ∷ words)))
listing_in _ = None

-- What a line says, where it says something
abbrev pub listing_of : List ℕ → Option Listing
listing_of line = if is_skipped line then None else listing_in (words_of line)

-- What lines say
abbrev pub listings : List (List ℕ) → List Listing
listings lines = flat_map (λ line. option_to_list (listing_of line)) lines

-- ---- faults

-- An input of the program has this name.
abbrev pub is_input : Whole → List ℕ → Bool
is_input unit name = list_any (λ (v : VarDecl). is_none v.owner && bytes_eq name v.name) unit.variables

-- The input with this name has a list.
abbrev pub is_listed : List Listing → List ℕ → Bool
is_listed before name = list_any (λ (l : Listing). bytes_eq name l.name) before

-- What is wrong with what a line says, behind what was said before: it has no listed form; no input has that name; the input stood in
-- an earlier line; a value isn't one of 32 bits. Of several the first.
abbrev pub listing_fault : Whole → List Listing → Option Listing → Option LineKind
listing_fault unit before None = Some BadLine
listing_fault unit before (Some l) =
    if not (is_input unit l.name) then Some NoSuchName
    else if is_listed before l.name then Some Again
    else if not (list_all fits_32 l.values) then Some Range
    else None

-- What is wrong with a line of inputs that stands behind these, if anything is
abbrev pub inputs_judge : Whole → Judge
inputs_judge unit before line = if is_skipped line then None else listing_fault unit (listings before) (listing_in (words_of line))

-- ---- lists

-- The values under a name; none where it isn't listed
abbrev pub values_under : List ℕ → List Listing → List ℤ
values_under name [] = []
values_under name (l ∷ rest) = if bytes_eq name l.name then l.values else values_under name rest

-- The list of a variable: an input's is the one that is stated, and a variable with an owner has none.
abbrev pub list_of : List Listing → VarDecl → List ℤ
list_of said v = if is_none v.owner then values_under v.name said else []

-- By variable, its list
abbrev pub lists_in : Whole → List (List ℕ) → List (List ℤ)
lists_in unit lines = map (list_of (listings lines)) unit.variables

-- By variable, the lists that the text of an inputs file states: it has no fault.
pub record AreListsOf (unit : Whole) (text : List ℕ) (lists : List (List ℤ)) : Type 0 where
  pub lawful : IsLawful (inputs_judge unit) text
  pub stated : lists ≡ lists_in unit (lines_of text)
