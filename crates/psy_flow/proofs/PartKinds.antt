-- Instructions by what they are to the ways on which they stand.
use Rattle.std.proofs.Common.{◌≡◌, ℕ, Bool, true, false, refl, ap, arith}
use Rattle.std.specs.Prelude.{◌≢◌, if◌then◌else◌}
use Rattle.std.proofs.lemmas.Bool.{false≢true}
use Rattle.psy_code.specs.declared.instr.Instr.{Instr}
use Rattle.psy_code.specs.declared.instr.Instr.TheVariants as instr
use Rattle.psy_meaning.specs.CodeWays.{GoesOn}
use Rattle.psy_flow.specs.declared.parts.Part.{Part}
use Rattle.psy_flow.specs.declared.parts.Part.TheVariants as part
use Rattle.psy_flow.specs.declared.quests.Quest.{Quest}
use Rattle.psy_flow.specs.Quests.{counted, counts, ends, part_of, quest_of}

-- The instructions that are this to their ways
abbrev pub IsPart : Instr → Part → Type 0
IsPart i (part.End point) = i ≡ instr.Advance point
IsPart i (part.Look variable) = (back : ℕ) × (i ≡ instr.Past variable back)
IsPart i (part.Sent stream after clock) = i ≡ instr.Send stream after clock
IsPart i part.Other = Unit {0}

pub part_is : (i : Instr) → IsPart i (part_of i)
part_is (instr.Advance point) = refl
part_is (instr.Past variable back) = (back, refl)
part_is (instr.Send stream after clock) = refl
part_is _ = tt

-- None of the three is any other.
pub no_part : (i : Instr) → ((point : ℕ) → i ≢ instr.Advance point) → ((variable back : ℕ) → i ≢ instr.Past variable back) → ((stream after clock : ℕ) → i ≢ instr.Send stream after clock) → part_of i ≡ part.Other
no_part (instr.Advance point) a b c = absurd (a point refl)
no_part (instr.Past variable back) a b c = absurd (b variable back refl)
no_part (instr.Send stream after clock) a b c = absurd (c stream after clock refl)
no_part _ a b c = refl

-- Behind an end no way goes on.
pub no_way_on : (i : Instr) (quest : Quest) (place next : ℕ) → ends (part_of i) quest ≡ true → GoesOn i place next → ⊥
no_way_on (instr.Advance point) quest place next end on = on
no_way_on _ quest place next end on = absurd (false≢true end)

-- What is an end for some point is that point's `Advance`.
pub end_is : (i : Instr) (to stream : ℕ) → ends (part_of i) (quest_of to stream) ≡ true → i ≡ instr.Advance to
end_is (instr.Advance point) to stream end = let same : point ≡ to = grind (arith, end) in ap instr.Advance same
end_is _ to stream end = absurd (false≢true end)

pub counts_one : (p : Part) (quest : Quest) → counts p quest ≡ true → counted p quest ≡ 1
counts_one p quest is = ap (λ (b : Bool). if b then 1 else 0) is

pub counts_none : (p : Part) (quest : Quest) → counts p quest ≡ false → counted p quest ≡ 0
counts_none p quest is = ap (λ (b : Bool). if b then 1 else 0) is
