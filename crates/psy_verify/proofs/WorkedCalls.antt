-- The small codes that call a function.
use Rattle.std.proofs.Common.{◌≡◌, refl, sym, ap, subst, inl, arith}
use Rattle.std.specs.Prelude.{ℕ, zero, suc, ◌+◌, ◌<◌, ◌≤◌, List, [], ◌∷◌, length, Option, None, Some, slice_get, ℤ, pos}
use Rattle.std.proofs.lemmas.Option.{none-some, same_Some}
use Rattle.psy_arith.specs.declared.operators.Op2.TheVariants as two
use Rattle.psy_arith.specs.declared.width.Width.TheVariants.{W32}
use Rattle.psy_code.specs.declared.code.Code.{Code}
use Rattle.psy_code.specs.declared.instr.Instr.{Instr}
use Rattle.psy_code.specs.declared.instr.Instr.TheVariants as instr
use Rattle.psy_code.specs.Views.{found_in}
use Rattle.psy_tree.specs.declared.unit.Unit.{Unit as Whole}
use Rattle.psy_meaning.specs.CodeWays.{GoesOn, ends, first, goes}
use Rattle.psy_flow.specs.Owners.{Agent, Begins, Function, Owner}
use Rattle.psy_flow.specs.Heights.{IsHeight, at_start, moved}
use Rattle.psy_flow.specs.Needs.{IsCounted, frame_size, own_frame, own_height}
use Rattle.psy_flow.specs.Verified.{Balanced, Framed, HasEnd, IsFault, IsVerified, Named, Ordered}
use Rattle.psy_flow.specs.Marks.{IsMarked, Mark, Marks}
use Rattle.psy_verify.specs.Worked.{HasOwn, calling, ended, just, pair, sum}
use Rattle.psy_flow.proofs.lemmas.Marked.{verified}
use Rattle.psy_verify.proofs.Tables.{IsClosed, by_table}

-- ---- a sum

module _ (stack frames : ℕ) (locals : List ℤ) (counters : ℕ) where
  abbrev code : Code
  code = calling sum stack frames locals counters

  abbrev mark : Owner → ℕ → Option Mark
  mark owner height = Some (record { owner = owner; height = height })

  abbrev all_marks : List (Option Mark)
  all_marks = mark (Agent 0) 0 ∷ mark (Agent 0) 1 ∷ mark (Agent 0) 0 ∷ mark (Agent 0) 0 ∷ mark (Function 0) 0 ∷ mark (Function 0) 1 ∷ mark (Function 0) 2 ∷ mark (Function 0) 1 ∷ []

  abbrev marks : Marks
  marks = record { at = λ place. found_in (slice_get all_marks place) (λ m. m); needs = λ function. 2; uses = λ function. frame_size code 0 }

  start : (owner : Owner) (place : ℕ) → Begins code owner place → marks.at place ≡ Some (record { owner = owner; height = 0 })
  start (Agent zero) place (zero, is) = subst (λ p. marks.at p ≡ mark (Agent 0) 0) (same_Some 0 place is) refl
  start (Agent zero) place (suc zero, is) = subst (λ p. marks.at p ≡ mark (Agent 0) 0) (same_Some 3 place is) refl
  start (Agent zero) place (suc (suc p), is) = absurd (none-some place is)
  start (Agent (suc n)) place (p, is) = absurd (none-some place is)
  start (Function zero) place (less, is) = subst (λ p. marks.at p ≡ mark (Function 0) 0) (sym is) refl
  start (Function (suc n)) place (less, is) = absurd (omega (arith, less))

  end_before : (place next : ℕ) (i : Instr) → slice_get code.instrs place ≡ Some i → GoesOn i place next → HasEnd code.instrs next → HasEnd code.instrs place
  end_before place next i here on (point, places, way) = (point, place ∷ places, goes place next i places here on way)

  end_2 : HasEnd code.instrs 2
  end_2 = (1, 2 ∷ [], ends 2 refl)

  end_1 : HasEnd code.instrs 1
  end_1 = end_before 1 2 (instr.Store 0) refl refl end_2

  end_0 : HasEnd code.instrs 0
  end_0 = end_before 0 1 (instr.Call 0) refl refl end_1

  end_3 : HasEnd code.instrs 3
  end_3 = end_before 3 0 (instr.Jump 0) refl refl end_0

  module _ (unit : Whole) (deep : 2 ≤ stack) (wide : length locals + counters ≤ frames) where
    abbrev Is : Owner → ℕ → ℕ → Type 0
    Is owner place height = IsMarked unit code marks place (record { owner = owner; height = height })

    mark_0 : Is (Agent 0) 0 0
    mark_0 = record { here = instr.Call 0; inside = refl; finds = (omega arith, tt {0}); goes = (refl, tt {0}); held = omega arith; called = (omega (arith, deep), omega (arith, wide)); framed = tt {0}; named = omega arith; ordered = tt {0}; led = tt {0}; ends = end_0 }

    mark_1 : Is (Agent 0) 1 1
    mark_1 = record { here = instr.Store 0; inside = refl; finds = (omega arith, tt {0}); goes = (refl, tt {0}); held = omega (arith, deep); called = tt {0}; framed = omega arith; named = tt {0}; ordered = tt {0}; led = tt {0}; ends = end_1 }

    mark_2 : Is (Agent 0) 2 0
    mark_2 = record { here = instr.Advance 1; inside = refl; finds = refl; goes = tt {0}; held = omega arith; called = tt {0}; framed = tt {0}; named = tt {0}; ordered = tt {0}; led = (omega arith, refl); ends = end_2 }

    mark_3 : Is (Agent 0) 3 0
    mark_3 = record { here = instr.Jump 0; inside = refl; finds = (omega arith, tt {0}); goes = (refl, tt {0}); held = omega arith; called = tt {0}; framed = tt {0}; named = tt {0}; ordered = tt {0}; led = tt {0}; ends = end_3 }

    mark_4 : Is (Function 0) 4 0
    mark_4 = record { here = instr.Push (pos 1); inside = refl; finds = (omega arith, tt {0}); goes = (refl, tt {0}); held = omega arith; called = tt {0}; framed = tt {0}; named = tt {0}; ordered = tt {0}; led = tt {0}; ends = tt {0} }

    mark_5 : Is (Function 0) 5 1
    mark_5 = record { here = instr.Push (pos 2); inside = refl; finds = (omega arith, tt {0}); goes = (refl, tt {0}); held = omega arith; called = tt {0}; framed = tt {0}; named = tt {0}; ordered = tt {0}; led = tt {0}; ends = tt {0} }

    mark_6 : Is (Function 0) 6 2
    mark_6 = record { here = instr.Binary two.Add W32; inside = refl; finds = (omega arith, tt {0}); goes = (refl, tt {0}); held = omega arith; called = tt {0}; framed = tt {0}; named = tt {0}; ordered = tt {0}; led = tt {0}; ends = tt {0} }

    mark_7 : Is (Function 0) 7 1
    mark_7 = record { here = instr.Return; inside = refl; finds = refl; goes = tt {0}; held = omega arith; called = tt {0}; framed = tt {0}; named = tt {0}; ordered = tt {0}; led = tt {0}; ends = tt {0} }

    -- A mark at a place is the one that stands there.
    stands : (owner : Owner) (place height : ℕ) (it : Mark) → mark owner height ≡ Some it → Is owner place height → IsMarked unit code marks place it
    stands owner place height it is good = subst (IsMarked unit code marks place) (same_Some (record { owner = owner; height = height }) it is) good

    each : (place : ℕ) (it : Mark) → marks.at place ≡ Some it → IsMarked unit code marks place it
    each zero it is = stands (Agent 0) 0 0 it is mark_0
    each (suc zero) it is = stands (Agent 0) 1 1 it is mark_1
    each (suc (suc zero)) it is = stands (Agent 0) 2 0 it is mark_2
    each (suc (suc (suc zero))) it is = stands (Agent 0) 3 0 it is mark_3
    each (suc (suc (suc (suc zero)))) it is = stands (Function 0) 4 0 it is mark_4
    each (suc (suc (suc (suc (suc zero))))) it is = stands (Function 0) 5 1 it is mark_5
    each (suc (suc (suc (suc (suc (suc zero)))))) it is = stands (Function 0) 6 2 it is mark_6
    each (suc (suc (suc (suc (suc (suc (suc zero))))))) it is = stands (Function 0) 7 1 it is mark_7
    each (suc (suc (suc (suc (suc (suc (suc (suc place)))))))) it is = absurd (none-some it is)

    own : (function : ℕ) → function < length code.functions → frame_size code function ≤ marks.uses function
    own zero less = omega arith
    own (suc n) less = absurd (omega (arith, less))

    pub adds : IsVerified unit code
    adds = verified unit code marks (record { start = start; each = each; own = own })

  -- ---- with too little room

  abbrev heights : List (Option ℕ)
  heights = None ∷ None ∷ None ∷ None ∷ Some 0 ∷ Some 1 ∷ Some 2 ∷ Some 1 ∷ []

  abbrev height_at : ℕ → Option ℕ
  height_at place = found_in (slice_get heights place) (λ h. h)

  own_start : (place : ℕ) → Begins code (Function 0) place → height_at place ≡ Some 0
  own_start place (less, is) = subst (λ p. height_at p ≡ Some 0) (sym is) refl

  closed : (place height : ℕ) → height_at place ≡ Some height → IsClosed code height_at place height
  closed zero height is = absurd (none-some height is)
  closed (suc zero) height is = absurd (none-some height is)
  closed (suc (suc zero)) height is = absurd (none-some height is)
  closed (suc (suc (suc zero))) height is = absurd (none-some height is)
  closed (suc (suc (suc (suc zero)))) height is =
      subst (IsClosed code height_at 4) (same_Some 0 height is) (record { here = instr.Push (pos 1); inside = refl; finds = (omega arith, tt {0}); goes = (refl, tt {0}) })
  closed (suc (suc (suc (suc (suc zero))))) height is =
      subst (IsClosed code height_at 5) (same_Some 1 height is) (record { here = instr.Push (pos 2); inside = refl; finds = (omega arith, tt {0}); goes = (refl, tt {0}) })
  closed (suc (suc (suc (suc (suc (suc zero)))))) height is =
      subst (IsClosed code height_at 6) (same_Some 2 height is) (record { here = instr.Binary two.Add W32; inside = refl; finds = (omega arith, tt {0}); goes = (refl, tt {0}) })
  closed (suc (suc (suc (suc (suc (suc (suc zero))))))) height is =
      subst (IsClosed code height_at 7) (same_Some 1 height is) (record { here = instr.Return; inside = refl; finds = refl; goes = tt {0} })
  closed (suc (suc (suc (suc (suc (suc (suc (suc place)))))))) height is = absurd (none-some height is)

  counted : IsCounted code 0
  counted = (omega arith, λ place _. by_table code (Function 0) height_at own_start closed place)

  height_5 : IsHeight code (Function 0) 5 1
  height_5 = moved 4 5 0 1 (instr.Push (pos 1)) (at_start 4 (omega arith, refl)) refl (_, inl refl, refl, omega arith, omega arith)

  height_6 : IsHeight code (Function 0) 6 2
  height_6 = moved 5 6 1 2 (instr.Push (pos 2)) height_5 refl (_, inl refl, refl, omega arith, omega arith)

  pub too_flat : (unit : Whole) → stack < 2 → IsFault unit code 3 0
  too_flat unit flat = (
    Balanced,
    refl,
    λ balanced.
        (let room = (balanced.1 0).call 0 0 2 (at_start 0 (0, refl), refl) counted (own_height 0 6 2 height_6) in omega (arith, room, flat)),
  )

  pub too_narrow : (unit : Whole) → frames < length locals + counters → IsFault unit code 4 0
  too_narrow unit narrow = (
    Framed,
    refl,
    λ framed.
        (let room = framed.1 0 0 (frame_size code 0) (0, (0, refl), first) refl counted (own_frame 0) in omega (arith, room, narrow)),
  )

-- ---- other functions

-- Two numbers at a `Return`
abbrev left : Code
left = calling pair 1 0 [] 0

left_5 : IsHeight left (Function 0) 5 1
left_5 = moved 4 5 0 1 (instr.Push (pos 1)) (at_start 4 (omega arith, refl)) refl (_, inl refl, refl, omega arith, omega arith)

left_6 : IsHeight left (Function 0) 6 2
left_6 = moved 5 6 1 2 (instr.Push (pos 2)) left_5 refl (_, inl refl, refl, omega arith, omega arith)

pub leaves_two : (unit : Whole) → IsFault unit left 3 6
leaves_two unit = (Balanced, refl, λ balanced. (let alone : 2 ≡ 1 = (balanced.0 (Function 0)).there 2 instr.Return left_6 refl in omega (arith, alone)))

-- It isn't counted, so its call finds no fault.
pub not_counted : IsCounted left 0 → ⊥
not_counted counted = (let alone : 2 ≡ 1 = (counted.1 6 (omega arith)).there 2 instr.Return left_6 refl in omega (arith, alone))

-- The function calls itself.
pub calls_itself : (unit : Whole) → IsFault unit (calling (just (instr.Call 0)) 2 0 [] 0) 6 4
calls_itself unit = (Ordered, refl, λ ordered. (let less : 0 < 0 = ordered (Function 0) (instr.Call 0) (4, (omega arith, refl), first) refl in omega (arith, less)))

-- It loads a copy that there is.
pub loads : (unit : Whole) → IsFault unit (calling (just (instr.LoadCopy 0)) 2 0 [] 0) 6 4
loads unit = (Ordered, refl, λ ordered. (let none : ⊥ = ordered (Function 0) (instr.LoadCopy 0) (4, (omega arith, refl), first) refl in none))

-- It loads a copy that there isn't.
pub loads_none : (unit : Whole) → HasOwn unit → IsFault unit (calling (just (instr.LoadCopy 1)) 2 0 [] 0) 5 4
loads_none unit own = (
  Named,
  refl,
  λ named.
      (let less : 1 < length unit.variables = named (Function 0) (instr.LoadCopy 1) (4, (omega arith, refl), first) refl in omega (arith, less, ap length own.1)),
)

-- It ends the action with a value left.
ended_5 : IsHeight (calling ended 2 0 [] 0) (Function 0) 5 1
ended_5 = moved 4 5 0 1 (instr.Push (pos 0)) (at_start 4 (omega arith, refl)) refl (_, inl refl, refl, omega arith, omega arith)

pub ends_heavy : (unit : Whole) → IsFault unit (calling ended 2 0 [] 0) 3 5
ends_heavy unit = (Balanced, refl, λ balanced. (let none : 1 ≡ 0 = (balanced.0 (Function 0)).there 1 (instr.Advance 9) ended_5 refl in omega (arith, none)))
