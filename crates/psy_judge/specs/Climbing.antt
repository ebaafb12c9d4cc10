-- Heights while they climb: what a way does from a height on, and where a way comes back higher.
use Rattle.std.specs.Prelude.{◌≡◌, ℕ, ◌+◌, ◌-◌, ◌<◌, ◌≤◌, Bool, false, ◌&&◌, if◌then◌else◌, nat_eq, nat_le, List, length, Option, None, Some, slice_get, ⊤}
use Rattle.std.specs.List.{Contains}
use Rattle.psy_code.specs.declared.code.Code.{Code}
use Rattle.psy_code.specs.declared.instr.Instr.{Instr}
use Rattle.psy_flow.specs.Heights.{Moves}
use Rattle.psy_flow.specs.Owners.{Owner}
use Rattle.psy_judge.specs.declared.circles.Stand.{Stand}
use Rattle.psy_judge.specs.declared.heights.Top.{Top}
use Rattle.psy_judge.specs.declared.heights.Top.TheVariants as top
use Rattle.psy_judge.specs.declared.steps.Step.{Step}
use Rattle.psy_judge.specs.Highest.{AreFound, Covers, IsClosedAt, room_of, top_at}

-- ---- ways from a height on

-- A way leads from a place and a height to another place and height.
pub data Leads (code : Code) (from low : ℕ) : ℕ → ℕ → Type 0 where
  here : Leads code from low from low
  on : (place next height after : ℕ) (i : Instr) → Leads code from low place height → slice_get code.instrs place ≡ Some i
      → Moves code place i height next after → Leads code from low next after

-- It does, if it leads anywhere.
abbrev pub LeadsTo : Code → ℕ → ℕ → Option Stand → Type 0
LeadsTo code from low None = ⊤
LeadsTo code from low (Some stand) = Leads code from low stand.place stand.height

-- From the height, if there is one, a way comes back to the place higher.
abbrev pub ComesHigher : Code → ℕ → Option ℕ → Type 0
ComesHigher code place None = ⊥
ComesHigher code place (Some height) = (more : ℕ) × (height < more) × Leads code place height place more

-- Behind a way on that goes there, if what it pops is there
abbrev pub stand_along : Option Step → ℕ → ℕ → Option Stand
stand_along None to height = None
stand_along (Some step) to height =
    if nat_eq step.to to && nat_le step.pops height then Some (record { place = step.to; height = height - step.pops + step.pushes }) else None

-- The first, if there is one
abbrev pub first_some : Option Stand → Option Stand → Option Stand
first_some None that = that
first_some (Some this) that = Some this

-- The greatest height that is kept
abbrev pub greatest_of : Top → Option ℕ
greatest_of top.Nothing = None
greatest_of (top.One a) = Some a
greatest_of (top.Two a b) = Some a
greatest_of top.Endless = None

-- ---- rows

-- More is covered, and all that is kept is found.
pub record IsLifted (code : Code) (owner : Owner) (before after : List Top) : Type 0 where
  pub found : AreFound code owner after
  pub kept : (place height : ℕ) → Covers (top_at before place) height → Covers (top_at after place) height
  pub room : room_of (length code.instrs) after ≤ room_of (length code.instrs) before

-- At each of these places, what is covered there is covered where ways go on.
abbrev pub AreClosed : Code → List ℕ → List Top → Type 0
AreClosed code places row = (place : ℕ) → Contains places place → IsClosedAt code row place

-- What comes of passes over these places: all of them are closed, or there may be more.
pub record IsWalked (code : Code) (owner : Owner) (places : List ℕ) (before after : List Top) (more : Bool) : Type 0 where
  pub found : AreFound code owner after
  pub kept : (place height : ℕ) → Covers (top_at before place) height → Covers (top_at after place) height
  pub closed : more ≡ false → AreClosed code places after
