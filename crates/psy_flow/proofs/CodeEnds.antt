-- The points where ways through code end: those of the `Advance` instructions that are passed.
use Rattle.std.proofs.Common.{◌≡◌, ℕ, ◌<◌, Bool, true, false, List, [], ◌∷◌, replicate, Option, None, Some, refl, ap, ◌∙◌, arith}
use Rattle.std.specs.Prelude.{◌≢◌, slice_get}
use Rattle.std.specs.List.{list_any}
use Rattle.std.proofs.lemmas.Bool.{false≢true}
use Rattle.std.proofs.lemmas.List.Folds.{Any-from_list_any, list_any_at}
use Rattle.psy_code.specs.declared.instr.Instr.{Instr}
use Rattle.psy_code.specs.declared.instr.Instr.TheVariants as instr
use Rattle.psy_meaning.specs.CodeWays.{AreCodeNexts, IsCodeWay, IsPassed, ends, first, goes, later}
use Rattle.psy_flow.specs.Reach.{marked, numbers_of}
use Rattle.psy_flow.specs.Walks.{ArePassed, ends_at, ends_there, end_of}
use Rattle.psy_flow.proofs.MarkedNumbers.{numbered, numbers, numbers_rise}

-- ---- ways and the places that they pass

pub way_from : (instrs : List Instr) (from place to : ℕ) (places : List ℕ) → IsPassed instrs from place → IsCodeWay instrs to place places → (all : List ℕ) × IsCodeWay instrs to from all
way_from instrs from place to places first way = (places, way)
way_from instrs from place to places (later before next i passed at on) way = way_from instrs from before to (before ∷ places) passed (goes before place i places at on way)

pub last_of : (instrs : List Instr) (from to place : ℕ) (places : List ℕ) → IsPassed instrs from place → IsCodeWay instrs to place places → (last : ℕ) × IsPassed instrs from last × (slice_get instrs last ≡ Some (instr.Advance to))
last_of instrs from to place places passed (ends here at) = (place, passed, at)
last_of instrs from to place places passed (goes here next i rest at on way) = last_of instrs from to next rest (later here next i passed at on) way

-- ---- ends

ends_is : (i : Instr) (point : ℕ) → ends_at i point ≡ true → i ≡ instr.Advance point
ends_is (instr.Advance own) point h = let same : own ≡ point = grind (arith, h) in ap instr.Advance same
ends_is (instr.Push number) point h = absurd (false≢true h)
ends_is (instr.Load cell) point h = absurd (false≢true h)
ends_is (instr.Store cell) point h = absurd (false≢true h)
ends_is (instr.LoadCell base cells) point h = absurd (false≢true h)
ends_is (instr.StoreCell base cells) point h = absurd (false≢true h)
ends_is (instr.LoadCopy variable) point h = absurd (false≢true h)
ends_is (instr.StoreCopy variable) point h = absurd (false≢true h)
ends_is (instr.Past variable back) point h = absurd (false≢true h)
ends_is (instr.Ready stream) point h = absurd (false≢true h)
ends_is (instr.Take stream) point h = absurd (false≢true h)
ends_is (instr.Send stream after clock) point h = absurd (false≢true h)
ends_is (instr.Jump to) point h = absurd (false≢true h)
ends_is (instr.JumpZero to) point h = absurd (false≢true h)
ends_is (instr.AndTest to) point h = absurd (false≢true h)
ends_is (instr.OrTest to) point h = absurd (false≢true h)
ends_is instr.Truth point h = absurd (false≢true h)
ends_is (instr.Zero counter) point h = absurd (false≢true h)
ends_is (instr.Guard counter bound) point h = absurd (false≢true h)
ends_is (instr.Call function) point h = absurd (false≢true h)
ends_is instr.Return point h = absurd (false≢true h)
ends_is (instr.Binary operator width) point h = absurd (false≢true h)
ends_is (instr.Unary operator width) point h = absurd (false≢true h)
ends_is (instr.Cast width) point h = absurd (false≢true h)

there_is : (o : Option Instr) (point : ℕ) → end_of o point ≡ true → o ≡ Some (instr.Advance point)
there_is None point h = absurd (false≢true h)
there_is (Some i) point h = ap Some (ends_is i point h)

-- None but an `Advance` does.
pub no_end : (i : Instr) → ((point : ℕ) → i ≢ instr.Advance point) → (point : ℕ) → ends_at i point ≡ false
no_end (instr.Advance own) not point = absurd (not own refl)
no_end (instr.Push number) not point = refl
no_end (instr.Load cell) not point = refl
no_end (instr.Store cell) not point = refl
no_end (instr.LoadCell base cells) not point = refl
no_end (instr.StoreCell base cells) not point = refl
no_end (instr.LoadCopy variable) not point = refl
no_end (instr.StoreCopy variable) not point = refl
no_end (instr.Past variable back) not point = refl
no_end (instr.Ready stream) not point = refl
no_end (instr.Take stream) not point = refl
no_end (instr.Send stream after clock) not point = refl
no_end (instr.Jump to) not point = refl
no_end (instr.JumpZero to) not point = refl
no_end (instr.AndTest to) not point = refl
no_end (instr.OrTest to) not point = refl
no_end instr.Truth not point = refl
no_end (instr.Zero counter) not point = refl
no_end (instr.Guard counter bound) not point = refl
no_end (instr.Call function) not point = refl
no_end instr.Return not point = refl
no_end (instr.Binary operator width) not point = refl
no_end (instr.Unary operator width) not point = refl
no_end (instr.Cast width) not point = refl

advance_ends : (point : ℕ) → ends_at (instr.Advance point) point ≡ true
advance_ends point = grind arith

-- Some of the places holds the `Advance` to the point.
abbrev pub some_ends : List Instr → List ℕ → ℕ → Bool
some_ends instrs places point = list_any (ends_there instrs point) places

module _ (instrs : List Instr) (from : ℕ) (places : List ℕ) (are : ArePassed instrs from places) where
  way_of : (point : ℕ) → some_ends instrs places point ≡ true → (all : List ℕ) × IsCodeWay instrs point from all
  way_of point h =
      let (k, place, less, is, holds) = Any-from_list_any (ends_there instrs point) places h in
      let passed : IsPassed instrs from place = (are.each place).0 (k, less, is) in
      way_from instrs from place point (place ∷ []) passed (ends place (there_is (slice_get instrs place) point holds))

  ends_of : (point : ℕ) (all : List ℕ) → IsCodeWay instrs point from all → some_ends instrs places point ≡ true
  ends_of point all way =
      let (last, passed, at) = last_of instrs from point from all first way in
      let (k, less, is) = (are.each last).1 passed in
      list_any_at (ends_there instrs point) places k last less (ap (ends_there instrs point) is ∙ ap (λ o. end_of o point) at ∙ advance_ends point)

  pub nexts_are : (points : ℕ) → ((place point : ℕ) → IsPassed instrs from place → slice_get instrs place ≡ Some (instr.Advance point) → point < points) → AreCodeNexts instrs from (numbers_of (marked (replicate points false) (some_ends instrs places)))
  nexts_are points named = record {
    rise = numbers_rise (marked (replicate points false) (some_ends instrs places));
    each = λ to. (
      (λ c. way_of to (numbered points to (some_ends instrs places) c)),
      (λ (all, way). let (last, passed, at) = last_of instrs from to from all first way in numbers points to (some_ends instrs places) (named last to passed at) (ends_of to all way)),
    );
  }
