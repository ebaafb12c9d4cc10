-- Variables are found where the bytes spell them, with the first value behind those that were published.
use Rattle.std.proofs.Common.{◌≡◌, ◌∙◌, ℕ, ◌≤◌, false, List, [], ◌∷◌, ◌++◌, map, length, zero-add, Option, Some, Result, Ok, refl, sym, subst}
use Rattle.std.specs.Prelude.{ℤ, slice_get}
use Rattle.std.specs.Int.{w32}
use Rattle.std.specs.List.{flat_map, range_with_len}
use Rattle.std.proofs.lemmas.List.FromFn.{length-map-range_with_len}
use Rattle.psy_dates.specs.declared.opening.VarOpening.{VarOpening}
use Rattle.psy_snap.specs.declared.fault.ReadError.{ReadError}
use Rattle.psy_snap.specs.Bytes.{reach_bytes, value_bytes, variable_bytes}
use Rattle.psy_snap.specs.Cuts.{Ask, up_to}
use Rattle.psy_snap.specs.Forms.{VarForm, published_by}
use Rattle.psy_snap.specs.Ranges.{FitsVariable}
use Rattle.psy_snap.specs.Reading.{each_at, field_at, go_on, kept_ask, reach_at, ring_at, variable_at}
use Rattle.psy_snap.specs.Shapes.{HasVarForm}
use Rattle.psy_snap.proofs.Finds.{Both, Finds, Rights, finds_each, finds_then, finds_weaker}
use Rattle.psy_snap.proofs.PartsFound.{ReachRight, finds_all_signed, finds_reach, ring_right}
use Rattle.psy_snap.proofs.Spelled.{IsLong as HasWidth, Pairs, all_mapped}

pub record IsVariableRight (date : ℕ) (form : VarForm) (variable : VarOpening) : Type 0 where
  pub ring : (back : ℕ) (value : ℤ) → slice_get variable.values back ≡ Some value → published_by form date ≤ back → value ≡ form.init
  pub reach : ReachRight form.size variable.reach

module _ (date : ℕ) (form : VarForm) where
  abbrev asks : List Ask
  asks = map (kept_ask (published_by form date) form.init) (range_with_len 0 form.size)

  abbrev made : List VarOpening → List ℤ → Option ℕ → List VarOpening
  made variables values reach = variables ++ (record { values = values; reach = reach }) ∷ []

  abbrev with_reach : List VarOpening → List ℤ → List ℕ → Result (List VarOpening × List ℕ) ReadError
  with_reach variables values rest = go_on (field_at (up_to 1) rest) (λ flag more. go_on (reach_at form.size flag more) (λ reach last. Ok (made variables values reach, last)))

  finds_variable : (variables : List VarOpening) (values : List ℤ) (reach : Option ℕ) → FitsVariable (record { values = values; reach = reach }) → length values ≡ form.size
      → Finds (variable_at date form variables) (variable_bytes (record { values = values; reach = reach })) (made variables values reach)
      (λ rest. IsVariableRight date form (record { values = values; reach = reach }))
  unfolding variable_at
  finds_variable variables values reach fits same =
      let its = finds_all_signed w32 false refl asks values (same ∙ sym (length-map-range_with_len (kept_ask (published_by form date) form.init) 0 form.size))
      (all_mapped (HasWidth false) (kept_ask (published_by form date) form.init) (range_with_len 0 form.size) (λ back. refl)) fits.values in
      finds_weaker (variable_at date form variables) (variable_bytes (record { values = values; reach = reach })) (made variables values reach)
      (λ rest h. record {
        ring = λ back value there le. ring_right (published_by form date) form.init 0 form.size [] values same fits.values h.first back value there
            (subst (λ n. published_by form date ≤ n) (sym (zero-add back)) le);
        reach = h.second;
      })
      (finds_then (ring_at (published_by form date) form.init form.size) (with_reach variables) (flat_map value_bytes values) (reach_bytes reach) values (made variables values reach) its
      (finds_reach form.size (made variables values) reach fits.reach))

abbrev pub GoodVariable : VarForm → VarOpening → Type 0
GoodVariable form variable = Both (HasVarForm form variable) (FitsVariable variable)

pub finds_variables : (date : ℕ) (forms : List VarForm) (variables : List VarOpening) → Pairs GoodVariable forms variables
    → Finds (each_at (variable_at date) forms []) (flat_map variable_bytes variables) variables (λ rest. Rights (λ form before variable. IsVariableRight date form variable) forms [] variables)
finds_variables date forms variables good =
    finds_each variable_bytes (variable_at date) GoodVariable (λ form before variable. IsVariableRight date form variable)
    (λ form before variable its. finds_variable date form before variable.values variable.reach its.second its.first) forms [] variables good
