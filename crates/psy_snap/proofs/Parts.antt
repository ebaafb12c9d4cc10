-- What reading a part comes to, by what is cut of it: no fault and the place where it goes on, or the least fault.
use Rattle.std.proofs.Common.{◌≡◌, ◌∙◌, ℕ, suc, ◌+◌, ◌-◌, ◌≤◌, Bool, true, false, cond, ltb, List, [], ◌∷◌, ◌++◌, length, drop, Option, Some, None, Result, Ok, Err, refl, sym, ap, subst, arith}
use Rattle.std.proofs.lemmas.Bool.{ltb-false}
use Rattle.std.proofs.lemmas.Grind.{flat_map-append}
use Rattle.std.proofs.lemmas.List.{length-drop}
use Rattle.psy_snap.specs.declared.fault.ReadError.{ReadError}
use Rattle.psy_snap.specs.declared.fault.ReadError.TheVariants as errors
use Rattle.psy_snap.specs.Cuts.{Ask, At, Cut, Field, behind, cut_at, cut_field, cut_fields, cut_one, field_in, number_in, width_of}
use Rattle.psy_snap.specs.Faults.{Fault, faults_in, field_faults}
use Rattle.psy_snap.specs.Reading.{bad, each_at, field_at, go_on, said_at, where_good}
use Rattle.psy_snap.proofs.Steps.{ok_is}
use Rattle.psy_snap.proofs.Places.{Above, Onward, Decides, above_less, onward_then, decides_first, decides_then}

-- Where it goes on in so many bytes, where these are left
abbrev pub seen : ℕ → List ℕ → At
seen total bytes = Some (total - length bytes, bytes)

-- What reading at that many bytes before the end comes to: of memory it takes none
abbrev pub Fits : {A : Type 0} → ℕ → ℕ → Result (A × List ℕ) ReadError → List Fault → At → Type 0
Fits total len (Ok x) faults on = (faults ≡ []) × (on ≡ seen total x.1) × (length x.1 ≤ len)
Fits total len (Err errors.Memory) faults on = ⊥
Fits total len (Err (errors.Bad number left)) faults on = (left ≤ len) × Decides faults on (record { number = number; place = total - left })

-- ---- one part behind another

pub fits_longer : {A : Type 0} (total less len : ℕ) (r : Result (A × List ℕ) ReadError) (faults : List Fault) (on : At) → less ≤ len → Fits total less r faults on → Fits total len r faults on
fits_longer total less len (Ok x) faults on le fits = (fits.0, fits.1, omega (arith, le, fits.2))
fits_longer total less len (Err errors.Memory) faults on le fits = absurd fits
fits_longer total less len (Err (errors.Bad number left)) faults on le fits = (omega (arith, le, fits.0), fits.1)

pub fits_then : {A B : Type 0} (total len : ℕ) (r : Result (A × List ℕ) ReadError) (next : A → List ℕ → Result (B × List ℕ) ReadError)
    (faults more : List Fault) (mid on : At) → Fits total len r faults mid → Onward mid more on
    → ((a : A) (rest : List ℕ) → r ≡ Ok (a, rest) → mid ≡ seen total rest → length rest ≤ len → Fits total (length rest) (next a rest) more on)
    → Fits total len (go_on r next) (faults ++ more) on
fits_then total len (Ok x) next faults more mid on fits onward behind =
    let none : faults ++ more ≡ more = ap (λ fs. fs ++ more) fits.0 in
    subst (λ fs. Fits total len (next x.0 x.1) fs on) (sym none)
    (fits_longer total (length x.1) len (next x.0 x.1) more on fits.2 (behind x.0 x.1 refl fits.1 fits.2))
fits_then total len (Err errors.Memory) next faults more mid on fits onward behind = absurd fits
fits_then total len (Err (errors.Bad number left)) next faults more mid on fits onward behind =
    (fits.0, decides_then mid on faults more (record { number = number; place = total - left }) fits.1 onward)

-- What is said of a part doesn't matter.
pub fits_map : {A B : Type 0} (total len : ℕ) (r : Result (A × List ℕ) ReadError) (f : A → B) (faults : List Fault) (on : At) → Fits total len r faults on
    → Fits total len (go_on r (λ a rest. Ok (f a, rest))) faults on
fits_map total len (Ok x) f faults on fits = fits
fits_map total len (Err errors.Memory) f faults on fits = absurd fits
fits_map total len (Err (errors.Bad number left)) f faults on fits = fits

-- ---- fields that are cut

faults_both : (fields more : List Field) → faults_in (fields ++ more) ≡ faults_in fields ++ faults_in more
faults_both fields more = flat_map-append field_faults fields more

-- The faults of fields that are cut
abbrev pub IsOnward : At → Cut → Type 0
IsOnward at cut = Onward at (faults_in cut.fields) cut.on

pub onward_behind : (at : At) (cut : Cut) (next : At → Cut) → IsOnward at cut → IsOnward cut.on (next cut.on) → IsOnward at (behind cut next)
onward_behind at cut next first second =
    subst (λ fs. Onward at fs (next cut.on).on) (sym (faults_both cut.fields (next cut.on).fields)) (onward_then at cut.on (next cut.on).on _ _ first second)

-- The cut of one field, by whether it is cut off
abbrev pub cut_by : Bool → Ask → ℕ → List ℕ → Cut
cut_by short ask place bytes =
    cond short (record { fields = cut_field place ∷ []; on = None })
    (record { fields = field_in ask place bytes ∷ []; on = Some (place + width_of ask.long, drop (width_of ask.long) bytes) })

faults_by_test : (good : Bool) (place width : ℕ) (later : List Fault) (value : Option ℕ) → Above (place + width) later
    → Above place (faults_in ((record { place = place; value = value; good = good }) ∷ []) ++ later)
faults_by_test true place width later value above = above_less (place + width) place later (omega arith) above
faults_by_test false place width later value above = (omega arith, above_less (place + width) place later (omega arith) above)

onward_by : (short : Bool) (ask : Ask) (place : ℕ) (bytes : List ℕ) → IsOnward (Some (place, bytes)) (cut_by short ask place bytes)
onward_by true ask place bytes = λ later none. subst (λ fs. Above place (faults_in (cut_field place ∷ []) ++ fs)) (sym none) (omega arith, tt)
onward_by false ask place bytes = λ later above.
    faults_by_test (ask.range (number_in ask.long bytes)) place (width_of ask.long) later (Some (number_in ask.long bytes)) above

pub onward_at : (ask : Ask) (at : At) → IsOnward at (cut_at ask at)
unfolding cut_one
onward_at ask None = λ later behind. behind
onward_at ask (Some at) = onward_by (ltb (length at.1) (width_of ask.long)) ask at.0 at.1

pub onward_fields : (asks : List Ask) (at : At) → IsOnward at (cut_fields asks at)
unfolding cut_fields
onward_fields [] at = λ later behind. behind
onward_fields (ask ∷ asks) at = onward_behind at (cut_at ask at) (cut_fields asks) (onward_at ask at) (onward_fields asks (cut_at ask at).on)

-- ---- fields that are read

-- What reading comes to, by what is cut
abbrev pub Cuts : {A : Type 0} → ℕ → List ℕ → Result (A × List ℕ) ReadError → Cut → Type 0
Cuts total bytes r cut = Fits total (length bytes) r (faults_in cut.fields) cut.on

pub cuts_behind : {A B : Type 0} (total : ℕ) (bytes : List ℕ) (r : Result (A × List ℕ) ReadError) (next : A → List ℕ → Result (B × List ℕ) ReadError)
    (cut : Cut) (more : At → Cut) → length bytes ≤ total → Cuts total bytes r cut → IsOnward cut.on (more cut.on)
    → ((a : A) (rest : List ℕ) → r ≡ Ok (a, rest) → length rest ≤ total → Cuts total rest (next a rest) (more (seen total rest)))
    → Cuts total bytes (go_on r next) (behind cut more)
cuts_behind total bytes r next cut more le cuts onward then_cuts =
    subst (λ fs. Fits total (length bytes) (go_on r next) fs (more cut.on).on) (sym (faults_both cut.fields (more cut.on).fields))
    (fits_then total (length bytes) r next (faults_in cut.fields) (faults_in (more cut.on).fields) cut.on (more cut.on).on cuts onward
    (λ a rest is on less. subst (λ on. Fits total (length rest) (next a rest) (faults_in (more on).fields) (more on).on) (sym on)
    (then_cuts a rest is (omega (arith, le, less)))))

-- A field that is read
abbrev pub good_field : ℕ → ℕ → Field
good_field place n = record { place = place; value = Some n; good = true }

-- One field that is cut, and where it goes on
abbrev alone_at : Field → At → Cut
alone_at field on = record { fields = field ∷ []; on = on }

abbrev pub field_by : Bool → Ask → List ℕ → Result (ℕ × List ℕ) ReadError
field_by short ask bytes =
    go_on (cond short (bad (length bytes)) (Ok (number_in ask.long bytes, drop (width_of ask.long) bytes))) (λ n rest. where_good (ask.range n) (n, rest) (length bytes))

on_is : (total : ℕ) (bytes : List ℕ) (width : ℕ) → length bytes ≤ total → width ≤ length bytes
    → Some (total - length bytes + width, drop width bytes) ≡ seen total (drop width bytes)
on_is total bytes width le there =
    let is : total - length bytes + width ≡ total - length (drop width bytes) = omega (arith, le, there, length-drop width bytes) in
    ap (λ place. Some (place, drop width bytes)) is

good_by : (good : Bool) (total : ℕ) (ask : Ask) (bytes : List ℕ) → length bytes ≤ total → width_of ask.long ≤ length bytes → (n : ℕ) (rest : List ℕ)
    → where_good {A = ℕ × List ℕ} good (number_in ask.long bytes, drop (width_of ask.long) bytes) (length bytes) ≡ Ok (n, rest)
    → alone_at (record { place = total - length bytes; value = Some (number_in ask.long bytes); good = good })
    (Some (total - length bytes + width_of ask.long, drop (width_of ask.long) bytes))
    ≡ alone_at (good_field (total - length bytes) n) (seen total rest)
good_by true total ask bytes le there n rest e =
    let same : (number_in ask.long bytes, drop (width_of ask.long) bytes) ≡ (n, rest) = ok_is (number_in ask.long bytes, drop (width_of ask.long) bytes) (n, rest) e in
    let number : number_in ask.long bytes ≡ n = ap (λ x. x.0) same in
    let behind : drop (width_of ask.long) bytes ≡ rest = ap (λ x. x.1) same in
    ap (λ k. alone_at (good_field (total - length bytes) k) (Some (total - length bytes + width_of ask.long, drop (width_of ask.long) bytes))) number
    ∙ ap (λ on. alone_at (good_field (total - length bytes) n) on) (on_is total bytes (width_of ask.long) le there ∙ ap (λ bs. seen total bs) behind)
good_by false total ask bytes le there n rest e = absurd cc

read_by : (short : Bool) (total : ℕ) (ask : Ask) (bytes : List ℕ) → ltb (length bytes) (width_of ask.long) ≡ short → length bytes ≤ total → (n : ℕ) (rest : List ℕ)
    → field_by short ask bytes ≡ Ok (n, rest)
    → cut_by short ask (total - length bytes) bytes ≡ record { fields = good_field (total - length bytes) n ∷ []; on = seen total rest }
read_by true total ask bytes is le n rest e = absurd cc
read_by false total ask bytes is le n rest e = good_by (ask.range (number_in ask.long bytes)) total ask bytes le (ltb-false _ _ is) n rest e

-- A field that is read is cut so.
pub field_cut : (total : ℕ) (ask : Ask) (bytes : List ℕ) → length bytes ≤ total → (n : ℕ) (rest : List ℕ) → field_at ask bytes ≡ Ok (n, rest)
    → cut_at ask (seen total bytes) ≡ record { fields = good_field (total - length bytes) n ∷ []; on = seen total rest }
unfolding field_at cut_one
field_cut total ask bytes le n rest e = read_by (ltb (length bytes) (width_of ask.long)) total ask bytes refl le n rest e

fits_good : (good : Bool) (total : ℕ) (ask : Ask) (bytes : List ℕ) → length bytes ≤ total → width_of ask.long ≤ length bytes
    → Fits total (length bytes) (where_good {A = ℕ × List ℕ} good (number_in ask.long bytes, drop (width_of ask.long) bytes) (length bytes))
    (faults_in ((record { place = total - length bytes; value = Some (number_in ask.long bytes); good = good }) ∷ []))
    (Some (total - length bytes + width_of ask.long, drop (width_of ask.long) bytes))
fits_good true total ask bytes le there = (refl, on_is total bytes (width_of ask.long) le there, omega (arith, length-drop (width_of ask.long) bytes))
fits_good false total ask bytes le there = (
  omega arith,
  decides_first (record { number = 1; place = total - length bytes }) [] [] (Some (total - length bytes + width_of ask.long, drop (width_of ask.long) bytes))
      (λ later above. above_less _ (suc (total - length bytes)) later (some_width ask.long (total - length bytes)) above),
)
  where
    some_width : (long : Bool) (place : ℕ) → suc place ≤ place + width_of long
    some_width true place = omega arith
    some_width false place = omega arith

fits_by : (short : Bool) (total : ℕ) (ask : Ask) (bytes : List ℕ) → ltb (length bytes) (width_of ask.long) ≡ short → length bytes ≤ total
    → Cuts total bytes (field_by short ask bytes) (cut_by short ask (total - length bytes) bytes)
fits_by true total ask bytes is le = (omega arith, decides_first (record { number = 1; place = total - length bytes }) [] [] None (λ later none. subst (λ fs. Above (suc (total - length bytes)) fs) (sym none) tt))
fits_by false total ask bytes is le = fits_good (ask.range (number_in ask.long bytes)) total ask bytes le (ltb-false _ _ is)

-- Reading a field
pub field_cuts : (total : ℕ) (ask : Ask) (bytes : List ℕ) → length bytes ≤ total → Cuts total bytes (field_at ask bytes) (cut_at ask (seen total bytes))
unfolding field_at cut_one
field_cuts total ask bytes le = fits_by (ltb (length bytes) (width_of ask.long)) total ask bytes refl le

-- Reading some fields
pub fields_cuts : {X : Type 0} (total : ℕ) (say : ℕ → X) (asks : List Ask) (said : List X) (bytes : List ℕ) → length bytes ≤ total
    → Cuts total bytes (each_at (said_at say) asks said bytes) (cut_fields asks (seen total bytes))
unfolding each_at cut_fields
fields_cuts total say [] said bytes le = (refl, refl, omega arith)
fields_cuts total say (ask ∷ asks) said bytes le =
    cuts_behind total bytes (said_at say ask said bytes) (λ more rest. each_at (said_at say) asks more rest) (cut_at ask (seen total bytes)) (cut_fields asks) le
    (fits_map total (length bytes) (field_at ask bytes) (λ n. said ++ say n ∷ []) _ _ (field_cuts total ask bytes le))
    (onward_fields asks (cut_at ask (seen total bytes)).on)
    (λ more rest is less. fields_cuts total say asks more rest less)
