-- The greatest two heights of each place of code, as far as they are found.
use Rattle.std.specs.Prelude.{◌≡◌, ◌⊎◌, ◌↔◌, ℕ, ◌+◌, ◌-◌, ◌<◌, ◌≤◌, Bool, false, true, not, ◌||◌, if◌then◌else◌, nat_eq, nat_le, nat_lt}
use Rattle.std.specs.Prelude.{List, [], ◌∷◌, ◌++◌, get_or, length, Option, None, Some, slice_get, slice_set, ⊤}
use Rattle.std.specs.List.{Contains, sum_by}
use Rattle.psy_code.specs.declared.code.Code.{Code}
use Rattle.psy_code.specs.declared.instr.Instr.{Instr}
use Rattle.psy_meaning.specs.CodeWays.{IsUnbounded}
use Rattle.psy_flow.specs.Heights.{IsAmong, IsHeight, Shift, shifts}
use Rattle.psy_flow.specs.Owners.{Begins, Owner}
use Rattle.psy_judge.specs.declared.heights.Top.{Top}
use Rattle.psy_judge.specs.declared.heights.Top.TheVariants as top
use Rattle.psy_judge.specs.declared.steps.Step.{Step}
use Rattle.psy_judge.specs.declared.steps.Steps.{Steps}

-- ---- ways on

-- The way on, if there is one
abbrev pub shift_of : Option Step → List Shift
shift_of None = []
shift_of (Some step) = record { to = step.to; pops = step.pops; pushes = step.pushes } ∷ []

-- The ways on
abbrev pub shifts_of : Steps → List Shift
shifts_of steps = shift_of steps.next ++ shift_of steps.jump

-- ---- tops

-- The height is one that is kept, or lies below the lesser of two.
abbrev pub Covers : Top → ℕ → Type 0
Covers top.Nothing height = ⊥
Covers (top.One a) height = height ≡ a
Covers (top.Two a b) height = (height ≡ a) ⊎ (height ≤ b)
Covers top.Endless height = ⊤

-- The same, as it is computed
abbrev pub covers : Top → ℕ → Bool
covers top.Nothing height = false
covers (top.One a) height = nat_eq height a
covers (top.Two a b) height = nat_eq height a || nat_le height b
covers top.Endless height = true

-- With a height more, which it doesn't cover
abbrev pub and_height : Top → ℕ → Top
and_height top.Nothing height = top.One height
and_height (top.One a) height = if nat_lt a height then top.Two height a else top.Two a height
and_height (top.Two a b) height = if nat_lt a height then top.Two height a else top.Two a height
and_height top.Endless height = top.Endless

-- With a height more: where it passes the most there is no greatest one.
abbrev pub joined : ℕ → Top → ℕ → Top
joined most t height = if covers t height then t else (if nat_lt most height then top.Endless else and_height t height)

-- With the heights of another
abbrev pub joined_all : ℕ → Top → Top → Top
joined_all most t top.Nothing = t
joined_all most t (top.One a) = joined most t a
joined_all most t (top.Two a b) = joined most (joined most t a) b
joined_all most t top.Endless = top.Endless

-- There is no greatest one.
abbrev pub is_endless : Top → Bool
is_endless top.Endless = true
is_endless _ = false

-- Another has heights that aren't covered.
abbrev pub rises : Top → Top → Bool
rises t top.Nothing = false
rises t (top.One a) = not (covers t a)
rises t (top.Two a b) = not (covers t a) || not (covers t b)
rises t top.Endless = not (is_endless t)

-- Behind a way on
abbrev pub moved : Top → ℕ → ℕ → Top
moved top.Nothing pops pushes = top.Nothing
moved (top.One a) pops pushes = if nat_le pops a then top.One (a - pops + pushes) else top.Nothing
moved (top.Two a b) pops pushes =
    if nat_le pops b then top.Two (a - pops + pushes) (b - pops + pushes) else (if nat_le pops a then top.One (a - pops + pushes) else top.Nothing)
moved top.Endless pops pushes = top.Endless

-- Its heights are at most so many, and the first is the greater.
abbrev pub IsSmall : ℕ → Top → Type 0
IsSmall most top.Nothing = ⊤
IsSmall most (top.One a) = a ≤ most
IsSmall most (top.Two a b) = (b < a) × (a ≤ most)
IsSmall most top.Endless = ⊤

-- Each height that is kept is one of these; without a greatest one there is always one that is greater.
abbrev pub IsFound : (ℕ → Type 0) → Top → Type 0
IsFound Has top.Nothing = ⊤
IsFound Has (top.One a) = Has a
IsFound Has (top.Two a b) = Has a × Has b × (b < a)
IsFound Has top.Endless = IsUnbounded Has

-- How far it may rise
abbrev pub room_in : ℕ → Top → ℕ
room_in most top.Nothing = most + most + 2
room_in most (top.One a) = most + most + 1 - a
room_in most (top.Two a b) = most + most - (a + b)
room_in most top.Endless = 0

-- ---- rows of them by place

-- The top of a place
abbrev pub top_at : List Top → ℕ → Top
top_at row place = get_or row place top.Nothing

-- None passes the most.
abbrev pub AreSmall : ℕ → List Top → Type 0
AreSmall most row = (place : ℕ) → IsSmall most (top_at row place)

-- What is kept is found.
abbrev pub AreFound : Code → Owner → List Top → Type 0
AreFound code owner row = (place : ℕ) → IsFound (IsHeight code owner place) (top_at row place)

-- How far they may rise, all together
abbrev pub room_of : ℕ → List Top → ℕ
room_of most row = sum_by (room_in most) row

-- What is covered at the place is covered where ways go on from it.
abbrev pub IsClosedAt : Code → List Top → ℕ → Type 0
IsClosedAt code row place = (i : Instr) (shift : Shift) (height : ℕ) → slice_get code.instrs place ≡ Some i → IsAmong shift (shifts code place i)
    → Covers (top_at row place) height → shift.pops ≤ height → shift.to < length code.instrs → Covers (top_at row shift.to) (height - shift.pops + shift.pushes)

-- The row after a top was taken to a place
abbrev pub taken_to : List Top → ℕ → Top → List Top
taken_to row to t = if rises (top_at row to) t then slice_set row to (joined_all (length row) (top_at row to) t) else row

-- The row, and whether it rose, after a top was taken along a way on, unless that leaves the code
abbrev pub follows : List Top → Top → Step → Bool
follows row t step = if nat_lt step.to (length row) then rises (top_at row step.to) (moved t step.pops step.pushes) else false

abbrev pub followed : List Top → Top → Step → List Top
followed row t step = if nat_lt step.to (length row) then taken_to row step.to (moved t step.pops step.pushes) else row

abbrev pub follows_some : List Top → Top → Option Step → Bool
follows_some row t None = false
follows_some row t (Some step) = follows row t step

abbrev pub followed_some : List Top → Top → Option Step → List Top
followed_some row t None = row
followed_some row t (Some step) = followed row t step

-- What comes of taking heights on from some places: the row stays and is closed there, or it rises.
pub record IsCourse (code : Code) (owner : Owner) (Closed : List Top → Type 0) (before after : List Top) (rose : Bool) : Type 0 where
  pub found : AreFound code owner after
  pub kept : (place height : ℕ) → Covers (top_at before place) height → Covers (top_at after place) height
  pub same : rose ≡ false → after ≡ before
  pub room : rose ≡ true → room_of (length code.instrs) after < room_of (length code.instrs) before
  pub closed : rose ≡ false → Closed after

-- The tops of all places in the code: found, and all heights are covered.
pub record AreTops (code : Code) (owner : Owner) (row : List Top) : Type 0 where
  pub found : AreFound code owner row
  pub covered : (place height : ℕ) → place < length code.instrs → IsHeight code owner place height → Covers (top_at row place) height

-- These are the places where the owner begins.
abbrev pub AreStarts : Code → Owner → List ℕ → Type 0
AreStarts code owner starts = (place : ℕ) → Contains starts place ↔ Begins code owner place

-- The row with the height of a place where an owner begins
abbrev pub begun_at : List Top → ℕ → List Top
begun_at row start = if nat_lt start (length row) then slice_set row start (top.One 0) else row

-- The row has no height.
abbrev pub IsEmpty : ℕ → List Top → Type 0
IsEmpty count row = (length row ≡ count) × ((place : ℕ) → top_at row place ≡ top.Nothing)
