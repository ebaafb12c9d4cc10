-- Reading variables that are right goes well.
use Rattle.std.proofs.Common.{◌≡◌, ◌∙◌, ℕ, ◌≤◌, false, List, [], ◌∷◌, ◌++◌, map, length, zero-add, Option, Result, Ok, refl, sym, subst}
use Rattle.std.specs.Prelude.{ℤ}
use Rattle.std.specs.Int.{w32}
use Rattle.std.specs.List.{flat_map, range_with_len}
use Rattle.std.proofs.lemmas.List.FromFn.{length-map-range_with_len}
use Rattle.psy_dates.specs.declared.opening.VarOpening.{VarOpening}
use Rattle.psy_snap.specs.declared.fault.ReadError.{ReadError}
use Rattle.psy_snap.specs.Bytes.{reach_bytes, value_bytes, variable_bytes}
use Rattle.psy_snap.specs.Cuts.{Ask, up_to}
use Rattle.psy_snap.specs.Forms.{VarForm, published_by}
use Rattle.psy_snap.specs.Ranges.{FitsVariable}
use Rattle.psy_snap.specs.Reading.{each_at, field_at, go_on, kept_ask, reach_at, ring_at, variable_at}
use Rattle.psy_snap.proofs.Finds.{Rights}
use Rattle.psy_snap.proofs.Goes.{Goes, goes_each, goes_then, goes_where}
use Rattle.psy_snap.proofs.PartsGo.{goes_all_signed, goes_reach, ring_rights}
use Rattle.psy_snap.proofs.Spelled.{IsLong as HasWidth, Pairs, all_mapped}
use Rattle.psy_snap.proofs.VariablesFound.{GoodVariable, IsVariableRight}

module _ (date : ℕ) (form : VarForm) where
  abbrev asks : List Ask
  asks = map (kept_ask (published_by form date) form.init) (range_with_len 0 form.size)

  abbrev made : List VarOpening → List ℤ → Option ℕ → List VarOpening
  made variables values reach = variables ++ (record { values = values; reach = reach }) ∷ []

  abbrev with_reach : List VarOpening → List ℤ → List ℕ → Result (List VarOpening × List ℕ) ReadError
  with_reach variables values rest = go_on (field_at (up_to 1) rest) (λ flag more. go_on (reach_at form.size flag more) (λ reach last. Ok (made variables values reach, last)))

  goes_variable : (variables : List VarOpening) (values : List ℤ) (reach : Option ℕ) → FitsVariable (record { values = values; reach = reach }) → length values ≡ form.size
      → Goes (variable_at date form variables) (variable_bytes (record { values = values; reach = reach })) (made variables values reach)
      (λ rest. IsVariableRight date form (record { values = values; reach = reach }))
  unfolding variable_at
  goes_variable variables values reach fits same =
      let its = goes_all_signed w32 false refl asks values (same ∙ sym (length-map-range_with_len (kept_ask (published_by form date) form.init) 0 form.size))
      (all_mapped (HasWidth false) (kept_ask (published_by form date) form.init) (range_with_len 0 form.size) (λ back. refl)) fits.values in
      goes_where (variable_at date form variables) (variable_bytes (record { values = values; reach = reach })) (made variables values reach)
      (λ rest right. record {
        first = ring_rights (published_by form date) form.init 0 form.size [] values fits.values
            (λ back value there le. right.ring back value there (subst (λ n. published_by form date ≤ n) (zero-add back) le));
        second = right.reach;
      })
      (goes_then (ring_at (published_by form date) form.init form.size) (with_reach variables) (flat_map value_bytes values) (reach_bytes reach) values (made variables values reach) its
      (goes_reach form.size (made variables values) reach fits.reach))

pub goes_variables : (date : ℕ) (forms : List VarForm) (variables : List VarOpening) → Pairs GoodVariable forms variables
    → Goes (each_at (variable_at date) forms []) (flat_map variable_bytes variables) variables (λ rest. Rights (λ form before variable. IsVariableRight date form variable) forms [] variables)
goes_variables date forms variables good =
    goes_each variable_bytes (variable_at date) GoodVariable (λ form before variable. IsVariableRight date form variable)
    (λ form before variable its. goes_variable date form before variable.values variable.reach its.second its.first) forms [] variables good
