-- What is looked for on ways through code: ends, and what is counted on the ways there.
use Rattle.std.specs.Prelude.{◌≡◌, ℕ, ◌+◌, nat_eq, Bool, true, false, if◌then◌else◌, List, Option, None, Some, slice_get}
use Rattle.psy_code.specs.declared.instr.Instr.{Instr}
use Rattle.psy_code.specs.declared.instr.Instr.TheVariants as instr
use Rattle.psy_meaning.specs.CodeWays.{GoesOn}
use Rattle.psy_flow.specs.declared.parts.Part.{Part}
use Rattle.psy_flow.specs.declared.parts.Part.TheVariants as part
use Rattle.psy_flow.specs.declared.quests.Quest.{Quest}

-- What an instruction is to the ways on which it stands
abbrev pub part_of : Instr → Part
part_of (instr.Advance point) = part.End point
part_of (instr.Past variable back) = part.Look variable
part_of (instr.Send stream after clock) = part.Sent stream after clock
part_of _ = part.Other

-- Ways that end at the point, and the sends to the stream on them
abbrev pub quest_of : ℕ → ℕ → Quest
quest_of to stream = record { to = to; stream = stream }

-- It is an end that is looked for.
abbrev pub ends : Part → Quest → Bool
ends (part.End point) quest = nat_eq point quest.to
ends _ quest = false

-- It is counted.
abbrev pub counts : Part → Quest → Bool
counts (part.Sent own after clock) quest = nat_eq own quest.stream
counts _ quest = false

-- How much it counts
abbrev pub counted : Part → Quest → ℕ
counted part quest = if counts part quest then 1 else 0

-- What is there is counted.
abbrev pub is_counted : Quest → Option Instr → Bool
is_counted quest None = false
is_counted quest (Some i) = counts (part_of i) quest

-- The instruction at the place is counted.
abbrev pub is_counted_at : List Instr → Quest → ℕ → Bool
is_counted_at instrs quest place = is_counted quest (slice_get instrs place)

-- A way from a place to an end that is looked for counts so many.
pub data HasCount (instrs : List Instr) (quest : Quest) : ℕ → ℕ → Type 0 where
  ends_here : (place n : ℕ) (i : Instr) → slice_get instrs place ≡ Some i → ends (part_of i) quest ≡ true → n ≡ 0 → HasCount instrs quest place n
  goes_on : (place next m n : ℕ) (i : Instr) → slice_get instrs place ≡ Some i → GoesOn i place next → HasCount instrs quest next n
      → m ≡ n + counted (part_of i) quest → HasCount instrs quest place m
