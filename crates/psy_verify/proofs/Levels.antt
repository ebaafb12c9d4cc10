-- Where a machine stands: the owner of the place, its height, and what is left below.
use Rattle.std.proofs.Common.{◌≡◌, refl, sym, subst, arith}
use Rattle.std.specs.Prelude.{ℕ, ◌+◌, ◌<◌, ◌≤◌, List, [], ◌∷◌, length, Some, slice_get, ⊤}
use Rattle.psy_code.specs.declared.code.Code.{Code}
use Rattle.psy_code.specs.declared.instr.Instr.TheVariants as instr
use Rattle.psy_code.specs.Execution.{Frame, Machine, OpenCall, calls_with, cells_in_calls, home_with, innermost_frame}
use Rattle.psy_tree.specs.declared.unit.Unit.{Unit as Whole}
use Rattle.psy_meaning.specs.CodeWays.{GoesOn, IsPassed, agent_code_at, first, later}
use Rattle.psy_flow.specs.Owners.{Agent, Function, IsReached, Owner}
use Rattle.psy_flow.specs.Heights.{IsHeight, at_start, moved}
use Rattle.psy_flow.specs.Needs.{Calls, IsCounted, MayHold, MayUse, above_left, frame_size, own_frame, own_height, with_callee}
use Rattle.psy_flow.specs.Verified.{IsOrdered, IsVerified}
use Rattle.psy_verify.specs.Standing.{HasFrame, HasRoom, Stands}
use Rattle.psy_flow.proofs.lemmas.Shifted.{shift_goes}

-- ---- heights and ways

-- A place with a height is reached.
pub height_reached : (code : Code) (owner : Owner) (place height : ℕ) → IsHeight code owner place height → IsReached code owner place
height_reached code owner _ _ (at_start place begins) = (place, begins, first)
height_reached code owner _ _ (moved place next height after i reached at (s, among, to, pops, counts)) =
    let (start, begins, passed) = height_reached code owner place height reached in
    (start, begins, later place next i passed at (subst (GoesOn i place) (sym to) (shift_goes code place i s among)))

-- There is an instruction at a place that is reached.
pub reached_inside : (unit : Whole) (code : Code) → IsVerified unit code → (owner : Owner) (place : ℕ) → IsReached code owner place → place < length code.instrs
reached_inside unit code v owner place (start, begins, passed) = inside place passed
  where
    inside : (p : ℕ) → IsPassed code.instrs start p → p < length code.instrs
    inside _ first = (v.inside start).start owner begins
    inside _ (later before next i on at goes) = (v.inside before).next owner i next (start, begins, on) at goes

-- The owner is this agent, or a function.
abbrev pub IsOurs : ℕ → Owner → Type 0
IsOurs agent (Agent number) = number ≡ agent
IsOurs agent (Function number) = ⊤

-- An open call, or none
abbrev pub IsOutside : List OpenCall → Owner → Type 0
IsOutside [] (Agent number) = ⊤
IsOutside [] (Function number) = ⊥
IsOutside (call ∷ calls) (Agent number) = ⊥
IsOutside (call ∷ calls) (Function number) = ⊤

module _ (unit : Whole) (code : Code) (v : IsVerified unit code) (agent : ℕ) where
  -- What a machine that stands somewhere has there, whether a call is open or not.
  pub record IsLevel (place count : ℕ) (home : Frame) (calls : List OpenCall) : Type 0 where
    pub owner : Owner
    pub height : ℕ
    pub left : ℕ
    pub ours : IsOurs agent owner
    pub outside : IsOutside calls owner
    pub reached : IsHeight code owner place height
    pub counted : count ≡ height + left
    pub frame : HasFrame code owner (innermost_frame home calls)
    -- it may go on at any height of its owner, also with another frame of the same size,
    pub on : (next after : ℕ) → IsHeight code owner next after → Stands code agent next (after + left) calls
    pub framed : (frame : Frame) → HasFrame code owner frame → (next after : ℕ) → IsHeight code owner next after
        → Stands code agent next (after + left) (calls_with calls frame) × HasFrame code (Agent agent) (home_with home calls frame)
    -- and has room for what it calls
    pub holds : (callee below more : ℕ) → Calls code owner place callee below → IsOrdered owner (instr.Call callee) → IsCounted code callee
        → MayHold code callee more → below + left + more ≤ (agent_code_at code agent).stack
    pub uses : (callee more : ℕ) → slice_get code.instrs place ≡ Some (instr.Call callee) → IsOrdered owner (instr.Call callee) → IsCounted code callee
        → MayUse code callee more → cells_in_calls calls + more ≤ (agent_code_at code agent).frames
    pub deep : (callee : ℕ) → callee < length code.functions → IsOrdered owner (instr.Call callee) → callee + length calls + 1 ≤ length code.functions

  pub level_of : (place count : ℕ) (home : Frame) (calls : List OpenCall) → HasFrame code (Agent agent) home → Stands code agent place count calls → IsLevel place count home calls
  level_of place count home [] fits stands = record {
    owner = Agent agent;
    height = count;
    left = 0;
    ours = refl;
    outside = tt {0};
    reached = stands;
    counted = omega arith;
    frame = fits;
    on = λ next after reached. subst (λ n. IsHeight code (Agent agent) next n) (omega arith) reached;
    framed = λ frame is next after reached. (subst (λ n. IsHeight code (Agent agent) next n) (omega arith) reached, is);
    holds = λ callee below more calls ordered counted holds. (let room = (v.stack place agent).call callee below more calls counted holds in omega (arith, room));
    uses = λ callee more at ordered counted uses.
        (let room = v.frames place agent callee more (height_reached code (Agent agent) place count stands) at counted uses in omega (arith, room));
    deep = λ callee less ordered. omega (arith, less);
  }
  level_of place count home (call ∷ calls) fits (left, w, back) = record {
    owner = Function w.function;
    height = w.height;
    left = left;
    ours = tt {0};
    outside = tt {0};
    reached = w.reached;
    counted = w.counted;
    frame = w.frame;
    on = λ next after reached. (
      left,
      record {
        function = w.function;
        height = after;
        reached = reached;
        counted = refl;
        frame = w.frame;
        holds = w.holds;
        uses = w.uses;
        deep = w.deep;
      },
      back,
    );
    framed = λ frame is next after reached. (
      (
        left,
        record {
          function = w.function;
          height = after;
          reached = reached;
          counted = refl;
          frame = is;
          holds = w.holds;
          uses = w.uses;
          deep = w.deep;
        },
        back,
      ),
      fits,
    );
    holds = λ callee below more calls ordered counted holds. (let room = w.holds (below + more) (above_left w.function place callee below more calls ordered counted holds) in omega (arith, room));
    uses = λ callee more at ordered counted uses.
        (let room = w.uses (frame_size code w.function + more) (with_callee w.function place callee more (height_reached code (Function w.function) place w.height w.reached) at ordered counted uses) in
        omega (arith, room, w.frame.cells, w.frame.counters));
    deep = λ callee less ordered. omega (arith, w.deep, ordered);
  }

  -- A machine that stands somewhere has room for what it holds.
  pub room_there : (place : ℕ) (m : Machine) (calls : List OpenCall) (most : ℕ) → length code.functions ≤ most → m.calls ≡ calls → Stands code agent place (length m.operands) calls
      → HasRoom code agent m most
  room_there place m [] most few none stands = record {
    operands = (v.stack place agent).own (length m.operands) stands;
    frames = rw none (omega arith);
    calls = rw none (omega arith);
  }
  room_there place m (call ∷ calls) most few some (left, w, back) = record {
    operands = (let room = w.holds w.height (own_height w.function place w.height w.reached) in omega (arith, room, w.counted));
    frames = rw some (let room = w.uses (frame_size code w.function) (own_frame w.function) in omega (arith, room, w.frame.cells, w.frame.counters));
    calls = rw some (omega (arith, w.deep, few));
  }
