-- Reading variables, and what is cut of them.
use Rattle.std.proofs.Common.{◌≡◌, ◌∙◌, ℕ, ◌-◌, ◌≤◌, List, [], ◌∷◌, ◌++◌, append_assoc, map, length, Option, Result, Ok, Err, refl, sym, ap, subst, arith}
use Rattle.std.specs.Prelude.{ℤ, ⊤}
use Rattle.std.specs.Int.{w32, cast_signed}
use Rattle.std.specs.List.{flat_map, range_with_len}
use Rattle.std.proofs.lemmas.List.Concat.{flat_map-cons}
use Rattle.psy_dates.specs.declared.opening.VarOpening.{VarOpening}
use Rattle.psy_snap.specs.declared.fault.ReadError.{ReadError}
use Rattle.psy_snap.specs.Cuts.{Ask, At, Cut, Field, behind, cut_at, cut_each, cut_fields, cut_variable, followed, last_number, one_of, or_zero, ring_ask, up_to, where_one}
use Rattle.psy_snap.specs.Faults.{faults_in}
use Rattle.psy_snap.specs.Forms.{VarForm, published_by}
use Rattle.psy_snap.specs.Reading.{field_at, go_on, reach_at, ring_at, variable_at}
use Rattle.psy_snap.proofs.FiguresRead.{alone, flagged_cuts, onward_followed}
use Rattle.psy_snap.proofs.Legs.{Follows, Leg, Shown, legs}
use Rattle.psy_snap.proofs.Parts.{Cuts, Fits, IsOnward, cuts_behind, field_cut, field_cuts, fields_cuts, fits_map, good_field, onward_at, onward_fields, seen}
use Rattle.psy_snap.proofs.Steps.{go_on_ok, go_on_same, go_on_then, said_ok}

-- ---- fields behind others

same_cut : (a b : Cut) → a.fields ≡ b.fields → a.on ≡ b.on → a ≡ b
same_cut a b fields on = ap (λ fs. record { fields = fs; on = a.on }) fields ∙ ap (λ at. record { fields = b.fields; on = at }) on

-- Fields are cut one behind the other.
pub cut_both : (asks more : List Ask) (at : At) → cut_fields (asks ++ more) at ≡ behind (cut_fields asks at) (cut_fields more)
unfolding cut_fields
cut_both [] more at = refl
cut_both (ask ∷ asks) more at =
    ap (λ (c : Cut). record { fields = (cut_at ask at).fields ++ c.fields; on = c.on }) (cut_both asks more (cut_at ask at).on)
    ∙ ap (λ fs. record { fields = fs; on = (cut_fields more (cut_fields asks (cut_at ask at).on).on).on })
    (sym (append_assoc (cut_at ask at).fields (cut_fields asks (cut_at ask at).on).fields (cut_fields more (cut_fields asks (cut_at ask at).on).on).fields))

pub last_behind : (fields : List Field) (f : Field) → last_number (fields ++ f ∷ []) ≡ or_zero f.value
last_behind [] f = refl
last_behind (g ∷ []) f = refl
last_behind (g ∷ h ∷ fields) f = last_behind (h ∷ fields) f

-- ---- a ring, and the flag behind it

module _ (date : ℕ) (form : VarForm) where
  abbrev asks : List Ask
  asks = map (ring_ask form date) (range_with_len 0 form.size)

  abbrev ring : List ℕ → Result (List ℤ × List ℕ) ReadError
  ring bytes = ring_at (published_by form date) form.init form.size bytes

  abbrev flagged : List ℕ → Result ((List ℤ × ℕ) × List ℕ) ReadError
  flagged bytes = go_on (ring bytes) (λ values rest. go_on (field_at (up_to 1) rest) (λ flag more. Ok ((values, flag), more)))

  abbrev flagged_cut : At → Cut
  flagged_cut at = cut_fields (asks ++ up_to 1 ∷ []) at

  flag_cut : (at : At) → flagged_cut at ≡ behind (cut_fields asks at) (cut_at (up_to 1))
  flag_cut at = cut_both asks (up_to 1 ∷ []) at ∙ ap (λ (c : Cut). record { fields = (cut_fields asks at).fields ++ c.fields; on = c.on }) (alone (up_to 1) (cut_fields asks at).on)

  ring_cuts : (total : ℕ) (bytes : List ℕ) → length bytes ≤ total → Cuts total bytes (ring bytes) (cut_fields asks (seen total bytes))
  ring_cuts total bytes le = fields_cuts total (cast_signed w32) asks [] bytes le

  flag_cuts : (total : ℕ) (bytes : List ℕ) → length bytes ≤ total → Cuts total bytes (flagged bytes) (flagged_cut (seen total bytes))
  flag_cuts total bytes le = subst (λ cut. Cuts total bytes (flagged bytes) cut) (sym (flag_cut (seen total bytes)))
      (cuts_behind total bytes (ring bytes) (λ values rest. go_on (field_at (up_to 1) rest) (λ flag more. Ok ((values, flag), more))) (cut_fields asks (seen total bytes)) (cut_at (up_to 1)) le
      (ring_cuts total bytes le) (onward_at (up_to 1) (cut_fields asks (seen total bytes)).on)
      (λ values rest is less. fits_map total (length rest) (field_at (up_to 1) rest) (λ flag. (values, flag)) _ _ (field_cuts total (up_to 1) rest less)))

  flag_last : (total : ℕ) (bytes : List ℕ) → length bytes ≤ total → (p : List ℤ × ℕ) (rest : List ℕ) → flagged bytes ≡ Ok (p, rest)
      → last_number (flagged_cut (seen total bytes)).fields ≡ p.1
  flag_last total bytes le p rest is =
      let (values, mid, first, second) = go_on_ok (ring bytes) (λ values rest. go_on (field_at (up_to 1) rest) (λ flag more. Ok ((values, flag), more))) p rest is in
      let (flag, read, said) = said_ok (field_at (up_to 1) mid) (λ flag. (values, flag)) p rest second in
      let cut = cut_fields asks (seen total bytes) in
      let fits = subst (λ r. Fits total (length bytes) r (faults_in cut.fields) cut.on) first (ring_cuts total bytes le) in
      ap (λ (c : Cut). last_number c.fields) (flag_cut (seen total bytes))
      ∙ ap (λ on. last_number (cut.fields ++ (cut_at (up_to 1) on).fields)) fits.1
      ∙ ap (λ (c : Cut). last_number (cut.fields ++ c.fields)) (field_cut total (up_to 1) mid (omega (arith, le, fits.2)) flag rest read)
      ∙ last_behind cut.fields (good_field (total - length mid) flag) ∙ ap (λ (q : List ℤ × ℕ). q.1) said

  -- ---- a variable

  abbrev told : List VarOpening → List ℤ × ℕ → Option ℕ → List VarOpening
  told variables p reach = variables ++ (record { values = p.0; reach = reach }) ∷ []

  grouped : (variables : List VarOpening) (bytes : List ℕ)
      → go_on (flagged bytes) (λ p more. go_on (reach_at form.size p.1 more) (λ reach last. Ok (told variables p reach, last))) ≡ variable_at date form variables bytes
  unfolding variable_at
  grouped variables bytes = go_on_then (ring bytes) _ _ ∙ go_on_same (ring bytes) _ _ (λ values rest. go_on_then (field_at (up_to 1) rest) _ _)

  variable_cuts : (total : ℕ) (variables : List VarOpening) (bytes : List ℕ) → length bytes ≤ total
      → Cuts total bytes (variable_at date form variables bytes) (cut_variable form date (seen total bytes))
  unfolding cut_variable
  variable_cuts total variables bytes le =
      subst (λ r. Cuts total bytes r (followed (flagged_cut (seen total bytes)) (where_one (one_of form.size)))) (grouped variables bytes)
      (flagged_cuts total bytes (flagged bytes) (flagged_cut (seen total bytes)) (one_of form.size) (told variables) le (flag_cuts total bytes le) (flag_last total bytes le))

  onward_variable : (at : At) → IsOnward at (cut_variable form date at)
  unfolding cut_variable
  onward_variable at = onward_followed at (flagged_cut at) (where_one (one_of form.size)) (onward_fields (asks ++ up_to 1 ∷ []) at)

-- ---- the variables

abbrev pub variable_leg : ℕ → VarForm → ⊤ → At → Leg ⊤
variable_leg date form told at = record { faults = faults_in (cut_variable form date at).fields; on = (cut_variable form date at).on; told = tt }

-- Nothing is told of them.
abbrev pub Untold : {S : Type 0} → S → ⊤ → Type 0
Untold s told = ⊤

pub nothing_shown : {S : Type 0} (r : Result (S × List ℕ) ReadError) → Shown Untold r tt
nothing_shown (Ok x) = tt
nothing_shown (Err error) = tt

pub variables_follow : (date : ℕ) → Follows Untold (variable_at date) (variable_leg date)
variables_follow date = record {
  onward = λ form told at. onward_variable date form at;
  leads = λ total form variables told bytes le shows.
      record { fits = variable_cuts date form total variables bytes le; shows = nothing_shown (variable_at date form variables bytes) };
}

-- Their faults, one variable after the other
pub variables_faults : (date : ℕ) (forms : List VarForm) (at : At)
    → flat_map (λ (c : Cut). faults_in c.fields) (cut_each (λ form. cut_variable form date) forms at) ≡ (legs (variable_leg date) forms tt at).faults
unfolding legs cut_each
variables_faults date [] at = refl
variables_faults date (form ∷ forms) at =
    flat_map-cons (λ (c : Cut). faults_in c.fields) (cut_variable form date at) (cut_each (λ form. cut_variable form date) forms (cut_variable form date at).on)
    ∙ ap (λ fs. faults_in (cut_variable form date at).fields ++ fs) (variables_faults date forms (cut_variable form date at).on)
