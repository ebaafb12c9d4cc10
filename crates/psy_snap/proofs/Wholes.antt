-- Parts that are at fault as a whole, at the place of their first field.
use Rattle.std.proofs.Common.{◌≡◌, ℕ, suc, ◌+◌, ◌-◌, ◌<◌, ◌≤◌, Bool, true, false, not, ltb, List, [], ◌∷◌, ◌++◌, length, drop, Some, None, Result, Ok, Err, refl, sym, ap, subst, arith}
use Rattle.std.specs.Prelude.{⊤}
use Rattle.std.proofs.lemmas.Bool.{ltb-false}
use Rattle.psy_snap.specs.declared.fault.ReadError.{ReadError}
use Rattle.psy_snap.specs.declared.fault.ReadError.TheVariants as errors
use Rattle.psy_snap.specs.Cuts.{Ask, At, Field, cut_at, cut_field, cut_one, field_in, number_in, width_of}
use Rattle.psy_snap.specs.Faults.{Fault, faults_in, part_faults, where_so}
use Rattle.psy_snap.specs.Reading.{bad, field_at, where_good}
use Rattle.psy_snap.proofs.Places.{Above, Behind, Onward, Decides, above_less, decides_field, decides_first}
use Rattle.psy_snap.proofs.Parts.{cut_by, field_by, good_field, seen}

-- ---- where a part begins

-- The fields are of a part that begins there: none, where nothing more is read.
abbrev pub Starts : At → List Field → Type 0
Starts None fields = fields ≡ []
Starts (Some at) [] = ⊤
Starts (Some at) (f ∷ fields) = f.place ≡ at.0

onward_so : (b : Bool) (number place : ℕ) (bytes : List ℕ) (faults : List Fault) (on : At) → Onward (Some (place, bytes)) faults on
    → Onward (Some (place, bytes)) (where_so b number place ++ faults) on
onward_so true number place bytes faults on onward = λ later behind. (omega arith, onward later behind)
onward_so false number place bytes faults on onward = onward

pub onward_part : (number : ℕ) (wrong : List Field → Bool) (fields : List Field) (at on : At) → Starts at fields → Onward at (faults_in fields) on
    → Onward at (part_faults number wrong fields) on
onward_part number wrong [] at on starts onward = onward
onward_part number wrong (f ∷ fields) None on starts onward = absurd cc
onward_part number wrong (f ∷ fields) (Some at) on starts onward =
    subst (λ place. Onward (Some (place, at.1)) (where_so (wrong (f ∷ fields)) number f.place ++ faults_in (f ∷ fields)) on) starts
    (onward_so (wrong (f ∷ fields)) number f.place at.1 (faults_in (f ∷ fields)) on
    (subst (λ place. Onward (Some (place, at.1)) (faults_in (f ∷ fields)) on) (sym starts) onward))

-- ---- what comes behind a field

above_by : (short : Bool) (ask : Ask) (place : ℕ) (bytes : List ℕ) (faults : List Fault) → Behind (cut_by short ask place bytes).on faults → Above (suc place) faults
above_by true ask place bytes faults none = subst (λ fs. Above (suc place) fs) (sym none) tt
above_by false ask place bytes faults above = above_less (place + width_of ask.long) (suc place) faults (some_width ask.long) above
  where
    some_width : (long : Bool) → suc place ≤ place + width_of long
    some_width true = omega arith
    some_width false = omega arith

pub above_field : (ask : Ask) (place : ℕ) (bytes : List ℕ) (faults : List Fault) → Behind (cut_one ask place bytes).on faults → Above (suc place) faults
unfolding cut_one
above_field ask place bytes faults behind = above_by (ltb (length bytes) (width_of ask.long)) ask place bytes faults behind

-- ---- a first field that can't be read

-- The field is at fault there.
pub record Refused (total : ℕ) (ask : Ask) (bytes : List ℕ) (error : ReadError) : Type 0 where
  pub error_is : error ≡ errors.Bad 1 (length bytes)
  pub field : Field
  pub place : field.place ≡ total - length bytes
  pub wrong : field.good ≡ false
  pub fields : (cut_at ask (seen total bytes)).fields ≡ field ∷ []

abbrev failed : ReadError → Result (ℕ × List ℕ) ReadError
failed error = Err error

error_same : (error other : ReadError) → failed error ≡ failed other → error ≡ other
error_same error other e = cc

good_refused : (good : Bool) (total : ℕ) (ask : Ask) (bytes : List ℕ) (error : ReadError) → ask.range (number_in ask.long bytes) ≡ good
    → where_good {A = ℕ × List ℕ} good (number_in ask.long bytes, drop (width_of ask.long) bytes) (length bytes) ≡ Err error
    → (error ≡ errors.Bad 1 (length bytes)) × ((field_in ask (total - length bytes) bytes).good ≡ false)
good_refused true total ask bytes error is e = absurd cc
good_refused false total ask bytes error is e = (sym (error_same _ _ e), is)

refused_by : (short : Bool) (total : ℕ) (ask : Ask) (bytes : List ℕ) (error : ReadError) → (cut_at ask (seen total bytes)).fields ≡ (cut_by short ask (total - length bytes) bytes).fields
    → field_by short ask bytes ≡ Err error → Refused total ask bytes error
refused_by true total ask bytes error fields e = record {
  error_is = sym (error_same _ _ e);
  field = cut_field (total - length bytes);
  place = refl;
  wrong = refl;
  fields = fields;
}
refused_by false total ask bytes error fields e =
    let (is, wrong) = good_refused (ask.range (number_in ask.long bytes)) total ask bytes error refl e in
    record { error_is = is; field = field_in ask (total - length bytes) bytes; place = refl; wrong = wrong; fields = fields }

pub refused : (total : ℕ) (ask : Ask) (bytes : List ℕ) (error : ReadError) → field_at ask bytes ≡ Err error → Refused total ask bytes error
unfolding field_at cut_one
refused total ask bytes error e = refused_by (ltb (length bytes) (width_of ask.long)) total ask bytes error refl e

-- A field that is read is in its range.
pub good_true : (good : Bool) (x y : ℕ × List ℕ) (left : ℕ) → where_good good x left ≡ Ok y → (good ≡ true) × (x ≡ y)
good_true true x y left e = (refl, cc)
good_true false x y left e = absurd cc

range_by : (short : Bool) (ask : Ask) (bytes : List ℕ) (n : ℕ) (rest : List ℕ) → field_by short ask bytes ≡ Ok (n, rest) → ask.range n ≡ true
range_by true ask bytes n rest e = absurd cc
range_by false ask bytes n rest e =
    let (good, is) = good_true (ask.range (number_in ask.long bytes)) _ _ (length bytes) e in
    subst (λ (p : ℕ × List ℕ). ask.range p.0 ≡ true) is good

pub in_range : (ask : Ask) (bytes : List ℕ) (n : ℕ) (rest : List ℕ) → field_at ask bytes ≡ Ok (n, rest) → ask.range n ≡ true
unfolding field_at
in_range ask bytes n rest e = range_by (ltb (length bytes) (width_of ask.long)) ask bytes n rest e

-- ---- the part's faults

wrong_so : (b : Bool) (number place : ℕ) (faults : List Fault) (on : At) → 1 < number → Onward (Some (suc place, [])) faults on
    → Decides (where_so b number place ++ ((record { number = 1; place = place }) ∷ faults)) on (record { number = 1; place = place })
wrong_so true number place faults on some onward = decides_field number place [] faults on some onward
wrong_so false number place faults on some onward = decides_first (record { number = 1; place = place }) [] faults on onward

-- Its first field is at fault.
pub field_decides : (number : ℕ) (wrong : List Field → Bool) (f : Field) (fields : List Field) (on : At) → 1 < number → f.good ≡ false → Onward (Some (suc f.place, [])) (faults_in fields) on
    → Decides (part_faults number wrong (f ∷ fields)) on (record { number = 1; place = f.place })
field_decides number wrong f fields on some bad onward =
    subst (λ good. Decides (where_so (wrong (f ∷ fields)) number f.place ++ (where_so (not good) 1 f.place ++ faults_in fields)) on (record { number = 1; place = f.place })) (sym bad)
    (wrong_so (wrong (f ∷ fields)) number f.place (faults_in fields) on some onward)

-- The part is, and not its first field.
pub part_decides : (number : ℕ) (wrong : List Field → Bool) (place n : ℕ) (fields : List Field) (on : At) → wrong (good_field place n ∷ fields) ≡ true → Onward (Some (suc place, [])) (faults_in fields) on
    → Decides (part_faults number wrong (good_field place n ∷ fields)) on (record { number = number; place = place })
part_decides number wrong place n fields on is onward =
    subst (λ b. Decides (where_so b number place ++ faults_in fields) on (record { number = number; place = place })) (sym is)
    (decides_first (record { number = number; place = place }) [] (faults_in fields) on onward)

-- Neither is.
pub part_right : (number : ℕ) (wrong : List Field → Bool) (place n : ℕ) (fields : List Field) → wrong (good_field place n ∷ fields) ≡ false
    → part_faults number wrong (good_field place n ∷ fields) ≡ faults_in fields
part_right number wrong place n fields is = ap (λ b. where_so b number place ++ faults_in fields) is

-- What stands behind a field that is read
rest_by : (short : Bool) (ask : Ask) (bytes : List ℕ) (n : ℕ) (rest : List ℕ) → ltb (length bytes) (width_of ask.long) ≡ short → field_by short ask bytes ≡ Ok (n, rest)
    → (rest ≡ drop (width_of ask.long) bytes) × (width_of ask.long ≤ length bytes)
rest_by true ask bytes n rest short e = absurd cc
rest_by false ask bytes n rest short e =
    let (good, is) = good_true (ask.range (number_in ask.long bytes)) _ _ (length bytes) e in
    (sym (ap (λ (p : ℕ × List ℕ). p.1) is), ltb-false _ _ short)

pub behind_field : (ask : Ask) (bytes : List ℕ) (n : ℕ) (rest : List ℕ) → field_at ask bytes ≡ Ok (n, rest) → (rest ≡ drop (width_of ask.long) bytes) × (width_of ask.long ≤ length bytes)
unfolding field_at
behind_field ask bytes n rest e = rest_by (ltb (length bytes) (width_of ask.long)) ask bytes n rest refl e
