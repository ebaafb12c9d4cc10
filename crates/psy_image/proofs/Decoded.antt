-- What is answered for bytes, by what reading them came to.
use Rattle.std.proofs.Common.{◌≡◌, ◌∙◌, ◌⊎◌, ℕ, ◌-◌, ◌≤◌, List, [], ◌∷◌, length, Result, Ok, Err, IfOk, refl, sym, ap, subst, inl, inr, arith}
use Rattle.std.specs.Prelude.{IfErr, ⊤}
use Rattle.psy_base.specs.declared.limits.TheConstants.{QUANTUM}
use Rattle.psy_image.specs.declared.fault.ReadError.{ReadError}
use Rattle.psy_image.specs.declared.fault.ReadError.TheVariants as errors
use Rattle.psy_image.specs.declared.fault.ImageFault.TheVariants as faults
use Rattle.psy_image.specs.declared.image.Image.{Image}
use Rattle.psy_image.specs.Answers.{GivesBad, GivesImage, IsBadAt, IsFault, IsWithin, KeepRanges, answer_of, emptied, image_of}
use Rattle.psy_image.specs.Fields.{AreBytes, Field, Value, Number, These, End}
use Rattle.psy_image.specs.Formats.{Format, Done, Then, IsBad, Spells, ◌>>=◌}
use Rattle.psy_image.specs.Images.{agents, clocks, functions, image, instrs, spells_image, streams, variables}
use Rattle.psy_image.specs.Reading.{Gives, field_at, read}
use Rattle.psy_image.proofs.Both.{Says, says, spelled, bad, one_bad, spelled_not_bad}
use Rattle.psy_image.proofs.Bounds.{Within, kept, kept_spelled}
use Rattle.psy_image.proofs.Exact.{read_then}
use Rattle.psy_image.proofs.FieldsRead.{go_on_ok, ok_is}
use Rattle.psy_image.proofs.Parts.{IsBareImage, keeps_image}

-- What a whole image reads as
abbrev whole : Image → Result (Image × List ℕ) ℕ
whole it = Ok (it, [])

abbrev refused : ℕ → Result (Image × List ℕ) ℕ
refused left = Err left

read_spells : (bytes : List ℕ) (it : Image) → AreBytes bytes → read image bytes ≡ whole it → Spells image bytes it []
read_spells bytes it fits e = (subst (λ r. Says r image bytes) e (says image bytes fits)).0

read_bad : (bytes : List ℕ) (left : ℕ) → AreBytes bytes → read image bytes ≡ refused left → IsBad image bytes left
read_bad bytes left fits e = subst (λ r. Says r image bytes) e (says image bytes fits)

few_left : (bytes : List ℕ) (left : ℕ) → AreBytes bytes → read image bytes ≡ refused left → left ≤ length bytes
few_left bytes left fits e = subst (Within (length bytes) IsBareImage) e (kept (length bytes) IsBareImage image bytes (keeps_image (length bytes)) (omega arith) fits)

abbrev Given : List ℕ → Result Image ReadError → Type 0
Given bytes r = Gives (λ it. (it, [])) r (read image bytes)

pub is_within : (bytes : List ℕ) (r : Result Image ReadError) → AreBytes bytes → Given bytes r → IfErr r (λ error. IsWithin (length bytes) error)
is_within bytes (Ok it) fits given = tt
is_within bytes (Err (errors.Bad left)) fits given = few_left bytes left fits given
is_within bytes (Err errors.Memory) fits given = tt

pub is_spelled : (bytes : List ℕ) (r : Result Image ReadError) → AreBytes bytes → Given bytes r → IfOk (answer_of (length bytes) r) (λ it. spells_image it bytes)
unfolding spells_image
is_spelled bytes (Ok it) fits given = read_spells bytes it fits given
is_spelled bytes (Err error) fits given = tt

pub is_fault : (bytes : List ℕ) (r : Result Image ReadError) → AreBytes bytes → Given bytes r → IfErr (answer_of (length bytes) r) (λ fault. IsFault bytes fault)
unfolding IsBadAt
is_fault bytes (Ok it) fits given = tt
is_fault bytes (Err (errors.Bad left)) fits given = (left, omega (arith, few_left bytes left fits given), read_bad bytes left fits given)
is_fault bytes (Err errors.Memory) fits given = tt

pub is_only : (bytes : List ℕ) (r : Result Image ReadError) → Given bytes r → (it : Image) → spells_image it bytes → GivesImage (answer_of (length bytes) r) it
unfolding spells_image
is_only bytes (Ok other) given it spells = let same : whole other ≡ whole it = sym given ∙ spelled image bytes it [] spells in ap (λ p. p.0) (ok_is (other, []) (it, []) same)
is_only bytes (Err (errors.Bad left)) given it spells = absurd (let no : refused left ≡ whole it = sym given ∙ spelled image bytes it [] spells in cc)
is_only bytes (Err errors.Memory) given it spells = refl

pub is_first : (bytes : List ℕ) (r : Result Image ReadError) → AreBytes bytes → Given bytes r → (place : ℕ) → IsBadAt bytes place → GivesBad (answer_of (length bytes) r) place
unfolding IsBadAt
is_first bytes (Ok it) fits given place (left, count, at) = absurd (let no : whole it ≡ refused left = sym given ∙ bad image bytes left fits at in cc)
is_first bytes (Err (errors.Bad other)) fits given place (left, count, at) =
    let same : refused other ≡ refused left = sym given ∙ bad image bytes left fits at in
    let is : other ≡ left = cc in
    let there : length bytes - other ≡ place = omega (arith, count, is) in
    inl (ap faults.Bad there)
is_first bytes (Err errors.Memory) fits given place h = inr refl

-- ---- the laws

pub one_image : (bytes : List ℕ) (it other : Image) → spells_image it bytes → spells_image other bytes → it ≡ other
unfolding spells_image
one_image bytes it other h g = let same : whole it ≡ whole other = sym (spelled image bytes it [] h) ∙ spelled image bytes other [] g in ap (λ p. p.0) (ok_is (it, []) (other, []) same)

pub one_place : (bytes : List ℕ) (place elsewhere : ℕ) → IsBadAt bytes place → IsBadAt bytes elsewhere → place ≡ elsewhere
unfolding IsBadAt
one_place bytes place elsewhere (left, count, h) (other, total, g) = let is = one_bad image bytes left other h g in omega (arith, count, total, is)

pub not_both : (bytes : List ℕ) (it : Image) (place : ℕ) → spells_image it bytes → IsBadAt bytes place → ⊥
unfolding spells_image IsBadAt
not_both bytes it place h (left, count, g) = spelled_not_bad image bytes it [] left h g

-- All that is read by the format ends where the bytes do.
record EndsAll {A : Type 0} (F : Format A) : Type 0 where
  ends : (bytes : List ℕ) (a : A) (rest : List ℕ) → read F bytes ≡ Ok (a, rest) → rest ≡ []

ends_then : {A B : Type 0} (F : Format A) (next : A → Format B) → ((a : A) → EndsAll (next a)) → EndsAll (F >>= next)
ends_then F next each = record {
  ends = λ bytes b rest e.
      let (x, at, is) = go_on_ok (read F bytes) (λ a more. read (next a) more) (b, rest) (sym (read_then F next bytes) ∙ e) in
      (each x.0).ends x.1 b rest is;
}

ends_field : {B : Type 0} (f : Field) (more : Value f → Format B) → ((v : Value f) → EndsAll (more v)) → EndsAll (Then f more)
ends_field f more each = record {
  ends = λ bytes b rest e.
      let (x, at, is) = go_on_ok (field_at f bytes) (λ v after. read (more v) after) (b, rest) e in
      (each x.0).ends x.1 b rest is;
}

at_end : {B : Type 0} (more : ⊤ → B) (bytes : List ℕ) (b : B) (rest : List ℕ) → read (Then End (λ v. Done (more v))) bytes ≡ Ok (b, rest) → rest ≡ []
at_end more [] b rest e = let same : [] ≡ rest = ap (λ x. x.1) (ok_is (more tt, []) (b, rest) e) in sym same
at_end more (c ∷ bytes) b rest e = absurd cc

ends_end : {B : Type 0} (more : ⊤ → B) → EndsAll (Then End (λ v. Done (more v)))
ends_end more = record { ends = at_end more }

all_end : EndsAll image
unfolding image
all_end = ends_field (These (80 ∷ 83 ∷ 89 ∷ 67 ∷ 1 ∷ [])) _ (λ magic. ends_field (Number 1 QUANTUM) _ (λ quantum. ends_then clocks _ (λ cs. ends_then (variables _ _) _ (λ vs. ends_then (streams _ _) _ (λ ss.
    ends_then functions _ (λ fs. ends_then (agents _ _ _) _ (λ crew. ends_then instrs _ (λ code. ends_end _))))))))

ended : (bytes : List ℕ) (it : Image) (rest : List ℕ) → read image bytes ≡ Ok (it, rest) → rest ≡ []
ended = all_end.ends

pub either : (bytes : List ℕ) → AreBytes bytes → ((it : Image) × spells_image it bytes) ⊎ ((place : ℕ) × IsBadAt bytes place)
unfolding spells_image IsBadAt
either bytes fits = by (read image bytes) refl
  where
    by : (r : Result (Image × List ℕ) ℕ) → read image bytes ≡ r → ((it : Image) × spells_image it bytes) ⊎ ((place : ℕ) × IsBadAt bytes place)
    by (Ok x) e = let same : read image bytes ≡ whole x.0 = e ∙ ap (λ rest. Ok (x.0, rest)) (ended bytes x.0 x.1 e) in inl (x.0, read_spells bytes x.0 fits same)
    by (Err left) e = inr (length bytes - left, (left, omega (arith, few_left bytes left fits e), read_bad bytes left fits e))

pub is_emptied : (bytes : List ℕ) (it : Image) → spells_image it bytes → it.unit ≡ emptied it.unit
unfolding spells_image
is_emptied bytes it h = kept_spelled (length bytes) IsBareImage image bytes it [] (keeps_image (length bytes)) (omega arith) h

same_image : (it : Image) → it.unit ≡ emptied it.unit → image_of it.unit it.code ≡ it
same_image it e = ap (λ u. record { unit = u; code = it.code }) (sym e)

pub image_again : (bytes : List ℕ) (it : Image) → spells_image it bytes → image_of it.unit it.code ≡ it
image_again bytes it h = same_image it (is_emptied bytes it h)

pub keeps_ranges : (bytes : List ℕ) (it : Image) → spells_image it bytes → KeepRanges it.unit it.code
unfolding KeepRanges
keeps_ranges bytes it h = (bytes, subst (λ other. spells_image other bytes) (sym (image_again bytes it h)) h)

pub within_bytes : (bytes : List ℕ) (place : ℕ) → IsBadAt bytes place → place ≤ length bytes
unfolding IsBadAt
within_bytes bytes place (left, count, h) = omega (arith, count)
