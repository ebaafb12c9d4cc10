-- The steps on images: each comes to one end at most.
use Rattle.std.proofs.Common.{◌≡◌, ◌∙◌, sym, ap, ℕ, ◌<◌, ◌≤◌, List, length, ◌⊎◌, inl, inr, refl, arith}
use Rattle.psy_base.specs.declared.limits.TheConstants.{FILE_BYTES}
use Rattle.psy_base.specs.declared.ways.Ways.{Ways as WayLists}
use Rattle.psy_code.specs.declared.code.Code.{Code as Coded}
use Rattle.psy_flow.specs.Verified.{IsFault, IsLeastFault, IsVerified}
use Rattle.psy_gen.specs.Emission.{code_of}
use Rattle.psy_image.specs.Answers.{IsBadAt, KeepRanges, image_of}
use Rattle.psy_image.specs.Images.{spells_image}
use Rattle.psy_image.specs.declared.image.Image.{Image as CodeImage}
use Rattle.psy_meaning.specs.CodeWays.{AreCodeWays}
use Rattle.psy_meaning.specs.ListedWays.{AreWaysFor}
use Rattle.psy_meaning.specs.Units.{IsBare}
use Rattle.psy_plan.proofs.lemmas.Decisions.{most_or_more}
use Rattle.psy_plan.specs.Courses.{IsOne as IsPlanOne}
use Rattle.psy_plan.specs.Programs.{IsProgram}
use Rattle.psy_plan.specs.Supplies as supplies
use Rattle.psy_tree.specs.declared.unit.Unit.{Unit as Whole}
use Rattle.psy_verify.specs.Fits.{IsChecked}
use Rattle.psy_run.specs.declared.refusal.Refusal.{Refusal}
use Rattle.psy_run.specs.declared.refusal.Refusal.TheVariants.{Code, Image, Large}
use Rattle.psy_run.specs.Answer.{supplying_by}
use Rattle.psy_run.specs.Steps.{IsUnspelled, IsUnverified, decoding, imaging, verifying}
use Rattle.psy_run.proofs.Courses.{IsDecided, IsOne, IsSome, one_planned}

-- What the laws say of images: bytes spell one, or are bad at one place; code has one least fault, or none and one list of ways; and a program has an
-- image of one text.
pub record ImagesDecide : Type 0 where
  pub image : (bytes : List ℕ) (it other : CodeImage) → spells_image it bytes → spells_image other bytes → it ≡ other
  pub place : (bytes : List ℕ) (place elsewhere : ℕ) → IsBadAt bytes place → IsBadAt bytes elsewhere → place ≡ elsewhere
  pub image_not_bad : (bytes : List ℕ) (it : CodeImage) (place : ℕ) → spells_image it bytes → IsBadAt bytes place → ⊥
  pub bare : (bytes : List ℕ) (it : CodeImage) → spells_image it bytes → IsBare it.unit
  pub fault : (unit : Whole) (code : Coded) (number place other there : ℕ) → IsLeastFault unit code number place → IsLeastFault unit code other there → (number ≡ other) × (place ≡ there)
  pub verified_not : (unit : Whole) (code : Coded) (number place : ℕ) → IsVerified unit code → IsFault unit code number place → ⊥
  pub ways : (unit : Whole) (code : Coded) (ways others : WayLists) → AreCodeWays unit code ways → AreCodeWays unit code others → ways ≡ others
  pub known : (unit : Whole) (code : Coded) (ways : WayLists) → IsBare unit → IsChecked unit code ways → AreWaysFor unit ways
  pub supply : (unit : Whole) (ways : WayLists) (until : ℕ) → IsBare unit → AreWaysFor unit ways → IsPlanOne (supplies.supplying_by unit ways until)
  pub text : (unit : Whole) (code : Coded) (bytes other : List ℕ) → spells_image (image_of unit code) bytes → spells_image (image_of unit code) other → bytes ≡ other
  pub ranges : (bytes : List ℕ) (unit : Whole) → length bytes ≤ FILE_BYTES → IsProgram bytes unit → KeepRanges unit (code_of unit)

-- What is no image is bad somewhere.
unspelled_is : (bytes : List ℕ) (refusal : Refusal) → IsUnspelled bytes refusal → (place : ℕ) × (refusal ≡ Image place) × IsBadAt bytes place
unspelled_is bytes (Image place) bad = (place, refl, bad)
unspelled_is bytes _ never = absurd never

-- What isn't verified has a least fault.
unverified_is : (it : CodeImage) (refusal : Refusal) → IsUnverified it refusal → (number : ℕ) × (place : ℕ) × (refusal ≡ Code number place) × IsLeastFault it.unit it.code number place
unverified_is it (Code number place) least = (number, place, refl, least)
unverified_is it _ never = absurd never

module _ (laws : ImagesDecide) where
  pub one_decoding : (bytes : List ℕ) → IsOne (decoding bytes)
  one_decoding bytes = record {
    gift = laws.image bytes;
    stop = λ r s p q.
        let (place, is, bad) = unspelled_is bytes r p in
        let (elsewhere, also, as_bad) = unspelled_is bytes s q in
        is ∙ ap Image (laws.place bytes place elsewhere bad as_bad) ∙ sym also;
    apart = λ it r p q. let (place, is, bad) = unspelled_is bytes r q in laws.image_not_bad bytes it place p bad;
  }

  pub one_verifying : (it : CodeImage) → IsOne (verifying it)
  one_verifying it = record {
    gift = λ ways others p q. laws.ways it.unit it.code ways others p.ways q.ways;
    stop = λ r s p q.
        let (number, place, is, least) = unverified_is it r p in
        let (other, there, also, lowest) = unverified_is it s q in
        let same = laws.fault it.unit it.code number place other there least lowest in
        is ∙ (λ i. Code (same.0 i) (same.1 i)) ∙ sym also;
    apart = λ ways r p q. let (number, place, is, least) = unverified_is it r q in laws.verified_not it.unit it.code number place p.verified least.present;
  }

  pub one_supplying_by : (bytes : List ℕ) (it : CodeImage) (ways : WayLists) (until : ℕ) → (decoding bytes).gives it → (verifying it).gives ways → IsOne (supplying_by it.unit ways until)
  one_supplying_by bytes it ways until spelled checked =
      let bare = laws.bare bytes it spelled in
      one_planned (supplies.supplying_by it.unit ways until) (laws.supply it.unit ways until bare (laws.known it.unit it.code ways bare checked))

  -- A text of an image is short enough, or it isn't.
  some_imaging : (unit : Whole) (out : List ℕ) → spells_image (image_of unit (code_of unit)) out → (length out ≤ FILE_BYTES) ⊎ (FILE_BYTES < length out) → IsSome (imaging unit)
  some_imaging unit out spelled (inl few) = inl (out, (spelled, few))
  some_imaging unit out spelled (inr many) = inr (Large, (refl, out, spelled, many))

  -- There is one.
  imaged : (bytes : List ℕ) (unit : Whole) → length bytes ≤ FILE_BYTES → IsProgram bytes unit → (out : List ℕ) × spells_image (image_of unit (code_of unit)) out
  unfolding KeepRanges
  imaged bytes unit short program = laws.ranges bytes unit short program

  pub decided_imaging : (bytes : List ℕ) (unit : Whole) → length bytes ≤ FILE_BYTES → IsProgram bytes unit → IsDecided (imaging unit)
  decided_imaging bytes unit short program = record {
    one = record {
      gift = λ x y p q. laws.text unit (code_of unit) x y p.0 q.0;
      stop = λ r s p q. p.0 ∙ sym q.0;
      apart = λ x r p q.
          (let (is, out, spelled, many) = q in
          let same : length x ≡ length out = ap length (laws.text unit (code_of unit) x out p.0 spelled) in
          let few = p.1 in
          omega (arith, same, few, many));
    };
    some = let (out, spelled) = imaged bytes unit short program in some_imaging unit out spelled (most_or_more (length out) FILE_BYTES);
  }
