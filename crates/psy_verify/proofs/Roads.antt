-- The way of an agent outside of calls, as far as it has come, and what was sent and looked at on it.
use Rattle.std.proofs.Common.{◌≡◌, refl, sym, ap, subst, ◌∙◌, arith, append_assoc, append-nil}
use Rattle.std.specs.Prelude.{ℕ, ◌≤◌, List, [], ◌∷◌, ◌++◌, length, map, None, Some, slice_get, ℤ, ⊤}
use Rattle.std.specs.List.{Contains}
use Rattle.std.specs.Int.{w32, int_wrap}
use Rattle.std.proofs.lemmas.List.{map-append}
use Rattle.psy_lists.proofs.lemmas.Members.{contains_front}
use Rattle.psy_code.specs.declared.code.Code.{Code}
use Rattle.psy_code.specs.declared.instr.Instr.{Instr}
use Rattle.psy_code.specs.declared.instr.Instr.TheVariants as instr
use Rattle.psy_code.specs.declared.look.Sent.{Sent}
use Rattle.psy_code.specs.Execution.{call_by, deeds_then}
use Rattle.psy_code.specs.Views.{Deeds, Looked}
use Rattle.psy_meaning.specs.CodeWays.{GoesOn, IsCodeWay, IsPassed, ends, first, goes, later}
use Rattle.psy_meaning.specs.Ways.{sending_of}
use Rattle.psy_flow.specs.Owners.{Function}
use Rattle.psy_flow.specs.Heights.{Finds}
use Rattle.psy_flow.specs.Verified.{IsOrdered}
use Rattle.psy_verify.specs.Following.{glance_of, looks_along, looks_of, sends_along, sends_of}

-- ---- roads

-- The places that a way has passed, and where it is
pub data IsRoad (instrs : List Instr) (from : ℕ) : List ℕ → ℕ → Type 0 where
  at_first : IsRoad instrs from [] from
  further : (places : List ℕ) (place next : ℕ) (i : Instr) → IsRoad instrs from places place → slice_get instrs place ≡ Some i → GoesOn i place next → IsRoad instrs from (places ++ place ∷ []) next

pub road_passed : (instrs : List Instr) (from place : ℕ) (places : List ℕ) → IsRoad instrs from places place → IsPassed instrs from place
road_passed instrs from _ _ at_first = first
road_passed instrs from _ _ (further places place next i road at on) = later place next i (road_passed instrs from place places road) at on

-- A road with a way behind it is a way.
pub road_ends : (instrs : List Instr) (from place point : ℕ) (places more : List ℕ) → IsRoad instrs from places place → IsCodeWay instrs point place more → IsCodeWay instrs point from (places ++ more)
road_ends instrs from _ point _ more at_first way = way
road_ends instrs from _ point _ more (further places place next i road at on) way =
    subst (IsCodeWay instrs point from) (sym (append_assoc places (place ∷ []) more)) (road_ends instrs from place point places (place ∷ more) road (goes place next i more at on way))

-- A way begins with its first place.
pub way_starts : (instrs : List Instr) (point place : ℕ) (places : List ℕ) → IsCodeWay instrs point place places → Contains places place
way_starts instrs point _ _ (ends place at) = contains_front place []
way_starts instrs point _ _ (goes place next i places at on way) = contains_front place places

-- ---- along places

pub sends_append : (instrs : List Instr) (xs ys : List ℕ) → sends_along instrs (xs ++ ys) ≡ sends_along instrs xs ++ sends_along instrs ys
sends_append instrs [] ys = refl
sends_append instrs (x ∷ xs) ys =
    ap (λ rest. sends_of (slice_get instrs x) ++ rest) (sends_append instrs xs ys) ∙ sym (append_assoc (sends_of (slice_get instrs x)) (sends_along instrs xs) (sends_along instrs ys))

pub looks_append : (instrs : List Instr) (xs ys : List ℕ) → looks_along instrs (xs ++ ys) ≡ looks_along instrs xs ++ looks_along instrs ys
looks_append instrs [] ys = refl
looks_append instrs (x ∷ xs) ys =
    ap (λ rest. looks_of (slice_get instrs x) ++ rest) (looks_append instrs xs ys) ∙ sym (append_assoc (looks_of (slice_get instrs x)) (looks_along instrs xs) (looks_along instrs ys))

-- One place more
pub sends_one_more : (instrs : List Instr) (places : List ℕ) (place : ℕ) (i : Instr) → slice_get instrs place ≡ Some i → sends_along instrs (places ++ place ∷ []) ≡ sends_along instrs places ++ sends_of (Some i)
sends_one_more instrs places place i at =
    sends_append instrs places (place ∷ []) ∙ ap (λ rest. sends_along instrs places ++ rest) (append-nil (sends_of (slice_get instrs place)) ∙ ap sends_of at)

pub looks_one_more : (instrs : List Instr) (places : List ℕ) (place : ℕ) (i : Instr) → slice_get instrs place ≡ Some i → looks_along instrs (places ++ place ∷ []) ≡ looks_along instrs places ++ looks_of (Some i)
looks_one_more instrs places place i at =
    looks_append instrs places (place ∷ []) ∙ ap (λ rest. looks_along instrs places ++ rest) (append-nil (looks_of (slice_get instrs place)) ∙ ap looks_of at)

-- ---- what an instruction does

-- A send finds its value.
abbrev pub HasValue : Instr → List ℤ → Type 0
HasValue (instr.Send stream after clock) operands = 1 ≤ length operands
HasValue i operands = ⊤

pub value_there : (code : Code) (place height : ℕ) (i : Instr) (operands : List ℤ) → height ≤ length operands → Finds code place i height → HasValue i operands
value_there code place height (instr.Send stream after clock) operands most finds = (let pops : 1 ≤ height = finds.0 in omega (arith, pops, most))
value_there code place height i operands most finds = tt {0}

-- It adds to the sends what it sends.
pub did_send : (d : Deeds) (i : Instr) (operands : List ℤ) → HasValue i operands → map sending_of (deeds_then d (call_by i operands)).sends ≡ map sending_of d.sends ++ sends_of (Some i)
did_send d (instr.Send stream after clock) [] has = absurd (omega (arith, has))
did_send d (instr.Send stream after clock) (v ∷ below) has =
    let sent : Sent = record { stream = stream; value = int_wrap w32 v; after = after; clock = clock } in map-append sending_of d.sends (sent ∷ [])
did_send d i operands has = sym (append-nil (map sending_of d.sends))

-- It adds to the looks what it looks at.
pub did_look : (d : Deeds) (i : Instr) (operands : List ℤ) → map glance_of (deeds_then d (call_by i operands)).looks ≡ map glance_of d.looks ++ looks_of (Some i)
did_look d (instr.Past variable back) operands =
    let look : Looked = record { number = d.steps; variable = variable; back = back } in map-append glance_of d.looks (look ∷ [])
did_look d (instr.Send stream after clock) [] = sym (append-nil (map glance_of d.looks))
did_look d (instr.Send stream after clock) (v ∷ below) = sym (append-nil (map glance_of d.looks))
did_look d i operands = sym (append-nil (map glance_of d.looks))

-- In a function nothing is asked.
pub silent : (function : ℕ) (i : Instr) (operands : List ℤ) → IsOrdered (Function function) i → call_by i operands ≡ None
silent function (instr.Past variable back) operands h = absurd h
silent function (instr.Ready stream) operands h = absurd h
silent function (instr.Take stream) operands h = absurd h
silent function (instr.Send stream after clock) operands h = absurd h
silent function i operands h = refl
