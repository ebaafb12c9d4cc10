-- Rows of cells by place of the code: 0 where no way to an end was found, and else one more than the most that is counted on one.
use Rattle.std.specs.Prelude.{◌≡◌, ℕ, zero, suc, ◌+◌, ◌-◌, ◌<◌, ◌≤◌, max, if◌then◌else◌, List, get_or, Option, None, Some, slice_get}
use Rattle.std.specs.List.{Contains, sum_by}
use Rattle.psy_code.specs.declared.instr.Instr.{Instr}
use Rattle.psy_flow.specs.declared.quests.Quest.{Quest}
use Rattle.psy_flow.specs.declared.settling.Course.{Course}
use Rattle.psy_flow.specs.declared.settling.Course.TheVariants as course
use Rattle.psy_flow.specs.declared.walks.Onward.{Onward}
use Rattle.psy_flow.specs.Quests.{HasCount, counted, ends, part_of}
use Rattle.psy_flow.specs.Walks.{onward_of}

-- ---- what a place is worth

-- The cell of a place, if there is one
abbrev pub cell_of : List ℕ → Option ℕ → ℕ
cell_of row None = 0
cell_of row (Some place) = get_or row place 0

-- The greater cell of the places where a way may go on
abbrev pub best_of : List ℕ → Onward → ℕ
best_of row to = max (cell_of row to.next) (cell_of row to.jump)

-- The same by the instruction of a place, if there is one
abbrev pub best_from : List ℕ → ℕ → Option Instr → ℕ
best_from row place None = 0
best_from row place (Some i) = best_of row (onward_of i place)

-- The same by the place alone
abbrev pub best_at : List Instr → List ℕ → ℕ → ℕ
best_at instrs row place = best_from row place (slice_get instrs place)

-- So much more than a cell, where it stands for a way
abbrev pub and_more : ℕ → ℕ → ℕ
and_more zero n = 0
and_more (suc m) n = suc m + n

-- What the cells where ways go on make of a place with this instruction
abbrev pub worth_of : Quest → List ℕ → ℕ → Option Instr → ℕ
worth_of quest row place None = 0
worth_of quest row place (Some i) = if ends (part_of i) quest then 1 else and_more (best_of row (onward_of i place)) (counted (part_of i) quest)

-- The same by the place alone
abbrev pub worth_at : Quest → List Instr → List ℕ → ℕ → ℕ
worth_at quest instrs row place = worth_of quest row place (slice_get instrs place)

-- ---- what cells stand for

-- Each cell of the places stands for a way.
pub record AreFound (instrs : List Instr) (quest : Quest) (places row : List ℕ) : Type 0 where
  pub each : (place n : ℕ) → Contains places place → get_or row place 0 ≡ suc n → HasCount instrs quest place n

-- The cell stands for the ways that count most, where there are any.
pub record IsTop (Has : ℕ → Type 0) (cell : ℕ) : Type 0 where
  pub one : (n : ℕ) → cell ≡ suc n → Has n
  pub most : (n : ℕ) → Has n → n < cell

-- So do the cells of all places.
pub record AreTops (instrs : List Instr) (quest : Quest) (places row : List ℕ) : Type 0 where
  pub each : (place : ℕ) → Contains places place → IsTop (HasCount instrs quest place) (get_or row place 0)

-- ---- passes over the cells

-- The cells are at most one more than this.
abbrev pub AreSmall : ℕ → List ℕ → List ℕ → Type 0
AreSmall most places row = (place : ℕ) → Contains places place → get_or row place 0 ≤ most + 1

-- No cell of the places would rise.
abbrev pub AreSettled : Quest → List Instr → List ℕ → List ℕ → Type 0
AreSettled quest instrs places row = (place : ℕ) → Contains places place → worth_at quest instrs row place ≤ get_or row place 0

-- How far cells may rise, all together
abbrev pub room_of : ℕ → List ℕ → ℕ
room_of most row = sum_by (λ cell. (most + 2) - cell) row

-- What comes of a pass: all are settled, or some rose and all are small, or one stands for a way on which more is counted than there is.
abbrev pub IsCourse : List Instr → Quest → List ℕ → ℕ → List ℕ → List ℕ → Course → Type 0
IsCourse instrs quest places most before after course.Settled = AreSettled quest instrs places after
IsCourse instrs quest places most before after course.Rose = (room_of most after < room_of most before) × AreSmall most places after
IsCourse instrs quest places most before after course.Beyond = (place n : ℕ) × Contains places place × HasCount instrs quest place n × (most < n)
