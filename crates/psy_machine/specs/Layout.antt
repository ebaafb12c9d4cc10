-- How the frames of an agent and of its open calls lie one behind the other.
use Rattle.std.specs.Prelude.{◌≡◌, ℕ, ◌+◌, ◌≤◌, List, [], ◌∷◌, take, drop, length, reverse, ℤ, vec_capacity}
use Rattle.psy_base.specs.declared.limits.TheConstants.{OPEN_CALLS}
use Rattle.psy_code.specs.Execution.{Frame, OpenCall}
use Rattle.psy_machine.specs.declared.frames.Place.{Place}
use Rattle.psy_machine.specs.declared.frames.Header.{Header}
use Rattle.psy_machine.specs.declared.frames.Frames.TheInside.{Inside}
use Rattle.psy_machine.specs.Parts.{FrameStack}

-- The agent's own frame, below those of the calls, of which the innermost comes first and begins at a
-- place.
abbrev pub home_in : List Header → Place → List ℤ → List ℕ → Frame
home_in [] at cells counters = record { cells = cells; counters = counters }
home_in (h ∷ hs) at cells counters = home_in hs h.caller (take at.cells cells) (take at.counters counters)

-- The frames of the calls
abbrev pub calls_in : List Header → Place → List ℤ → List ℕ → List OpenCall
calls_in [] at cells counters = []
calls_in (h ∷ hs) at cells counters =
    record { frame = record { cells = drop at.cells cells; counters = drop at.counters counters }; back = h.back }
    ∷ calls_in hs h.caller (take at.cells cells) (take at.counters counters)

-- Each frame begins where the one below it ends, and the agent's own ends at a place.
abbrev pub IsCut : List Header → Place → ℕ → ℕ → Place → Type 0
IsCut [] at cells counters end = (at.cells ≡ 0) × (at.counters ≡ 0) × (cells ≡ end.cells) × (counters ≡ end.counters)
IsCut (h ∷ hs) at cells counters end = (at.cells ≤ cells) × (at.counters ≤ counters) × IsCut hs h.caller at.cells at.counters end

-- The frames as they are cut out of the cells and counters
abbrev pub frames_in : Inside → FrameStack
frames_in f = record {
  home = home_in (reverse f.headers.items) f.present f.cells.items f.counters.items;
  calls = calls_in (reverse f.headers.items) f.present f.cells.items f.counters.items;
  room = f.room;
}

-- The frames lie one behind the other, and there is room for what may still be called.
pub record IsLaidOut (f : Inside) : Type 0 where
  pub cut : IsCut (reverse f.headers.items) f.present (length f.cells.items) (length f.counters.items) f.home_end
  -- room is reserved behind the agent's own frame, and for all the calls that may be open
  pub cells : f.home_end.cells + f.room ≤ vec_capacity f.cells
  pub counters : f.home_end.counters + f.room ≤ vec_capacity f.counters
  pub calls : OPEN_CALLS ≤ vec_capacity f.headers
