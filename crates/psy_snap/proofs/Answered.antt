-- What is answered holds of the bytes.
use Rattle.std.proofs.Common.{◌≡◌, ◌∙◌, ℕ, ◌-◌, List, [], length, Some, None, Result, Ok, Err, ap}
use Rattle.std.specs.Prelude.{IfErr, IfOk, OnOk}
use Rattle.psy_dates.specs.declared.opening.Opening.{Opening}
use Rattle.psy_snap.specs.declared.fault.ReadError.{ReadError}
use Rattle.psy_snap.specs.declared.fault.ReadError.TheVariants as errors
use Rattle.psy_snap.specs.declared.fault.StateFault.{StateFault}
use Rattle.psy_snap.specs.declared.fault.StateFault.TheVariants as faults
use Rattle.psy_snap.specs.Bytes.{spelling}
use Rattle.psy_snap.specs.Faults.{faults_of, least_fault}
use Rattle.psy_snap.specs.Forms.{Form}
use Rattle.psy_snap.specs.Ranges.{FitsState}
use Rattle.psy_snap.specs.Reading.{Gives, IsWithin, answer_of, state_at}
use Rattle.psy_snap.specs.Shapes.{HasForm}
use Rattle.psy_snap.proofs.Spelled.{AreBytes}
use Rattle.psy_snap.proofs.StatesRead.{read_fault, read_sound}
use Rattle.psy_snap.proofs.StatesSpelled.{state_spelled}

abbrev refused : StateFault → Result Opening StateFault
refused fault = Err fault

module _ (form : Form) (bytes : List ℕ) where
  -- What reading the bytes came to
  abbrev Given : Result Opening ReadError → Type 0
  Given r = Gives (λ it. (it, [])) r (state_at form bytes)

  abbrev answered : Result Opening ReadError → Result Opening StateFault
  answered r = answer_of (length bytes) r

  pub is_within : (r : Result Opening ReadError) → Given r → IfErr r (IsWithin (length bytes))
  is_within (Ok it) given = tt
  is_within (Err (errors.Bad number left)) given = (read_fault form bytes number left given).0
  is_within (Err errors.Memory) given = tt

  pub is_spelled : (r : Result Opening ReadError) → AreBytes bytes → Given r → IfOk (answered r) (λ opening. spelling opening ≡ bytes)
  is_spelled (Ok it) are given = (state_spelled form bytes it [] are given).0
  is_spelled (Err (errors.Bad number left)) are given = tt
  is_spelled (Err errors.Memory) are given = tt

  pub is_sound : (r : Result Opening ReadError) → Given r → OnOk (answered r) (least_fault (faults_of form bytes) ≡ None)
  is_sound (Ok it) given = read_sound form bytes it [] given
  is_sound (Err (errors.Bad number left)) given = tt
  is_sound (Err errors.Memory) given = tt

  pub has_form : (r : Result Opening ReadError) → AreBytes bytes → Given r → IfOk (answered r) (HasForm form)
  has_form (Ok it) are given = (state_spelled form bytes it [] are given).1.first
  has_form (Err (errors.Bad number left)) are given = tt
  has_form (Err errors.Memory) are given = tt

  pub in_ranges : (r : Result Opening ReadError) → AreBytes bytes → Given r → IfOk (answered r) FitsState
  in_ranges (Ok it) are given = (state_spelled form bytes it [] are given).1.second
  in_ranges (Err (errors.Bad number left)) are given = tt
  in_ranges (Err errors.Memory) are given = tt

  pub is_fault : (r : Result Opening ReadError) → Given r → (number place : ℕ) → answered r ≡ Err (faults.Fault number place)
      → least_fault (faults_of form bytes) ≡ Some (record { number = number; place = place })
  is_fault (Ok it) given number place e = absurd cc
  is_fault (Err (errors.Bad other left)) given number place e =
      let same : refused (faults.Fault other (length bytes - left)) ≡ refused (faults.Fault number place) = e in
      let number_is : other ≡ number = cc in
      let place_is : length bytes - left ≡ place = cc in
      (read_fault form bytes other left given).1 ∙ ap (λ n. Some (record { number = n; place = length bytes - left })) number_is
      ∙ ap (λ p. Some (record { number = number; place = p })) place_is
  is_fault (Err errors.Memory) given number place e = absurd (let same : refused faults.Memory ≡ refused (faults.Fault number place) = e in cc)
