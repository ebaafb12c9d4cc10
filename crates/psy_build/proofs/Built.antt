-- What is answered where the image is too large.
use Rattle.std.proofs.Common.{◌≡◌, ◌∙◌, ◌⊎◌, ℕ, ◌<◌, List, length, Result, Ok, Err, sym, subst, inl, inr}
use Rattle.std.specs.Prelude.{IfErr}
use Rattle.std.specs.Global.{Vec}
use Rattle.psy_base.specs.declared.limits.TheConstants.{FILE_BYTES}
use Rattle.psy_code.specs.declared.code.Code.{Code}
use Rattle.psy_gen.specs.Emission.{code_of}
use Rattle.psy_image.specs.declared.fault.ImageFault.{ImageFault}
use Rattle.psy_image.specs.declared.fault.ImageFault.TheVariants as fault
use Rattle.psy_image.specs.Answers.{GivesBytes, KeepRanges, image_of}
use Rattle.psy_image.specs.Images.{spells_image}
use Rattle.psy_tree.specs.declared.unit.Unit.{Unit as Whole}

-- The image of the unit and its code has more bytes than a file may have.
abbrev IsLong : Whole → Type 0
IsLong unit = (out : List ℕ) × spells_image (image_of unit (code_of unit)) out × (FILE_BYTES < length out)

by_answer : (unit : Whole) (bytes : List ℕ) (other : ImageFault) → spells_image (image_of unit (code_of unit)) bytes
    → ((other ≡ fault.Large) × (FILE_BYTES < length bytes)) ⊎ (other ≡ fault.Memory) → other ≡ fault.Large → IsLong unit
by_answer unit bytes other h (inl answer) is = (bytes, h, answer.1)
by_answer unit bytes other h (inr none) is = absurd (let apart : fault.Large ≡ fault.Memory = sym is ∙ none in cc)

pub is_large : (unit : Whole) (code : Code) (answer : Result (Vec ℕ) ImageFault) → code ≡ code_of unit → KeepRanges unit (code_of unit)
    → ((bytes : List ℕ) → spells_image (image_of unit code) bytes → GivesBytes answer bytes) → IfErr answer (λ other. other ≡ fault.Large → IsLong unit)
unfolding KeepRanges
is_large unit code (Ok out) same kept exact = tt
is_large unit code (Err other) same (bytes, h) exact = λ is. by_answer unit bytes other h (exact bytes (subst (λ its. spells_image (image_of unit its) bytes) (sym same) h)) is
