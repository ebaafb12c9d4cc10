-- The small codes, step by step.
use Rattle.std.proofs.Common.{◌≡◌, ◌∙◌, refl, sym, ap, subst, inl, inr, arith}
use Rattle.std.specs.Prelude.{ℕ, zero, suc, ◌+◌, ◌<◌, get_or, List, [], ◌∷◌, Option, Some, slice_get, pos}
use Rattle.std.proofs.lemmas.Option.{none-some, same_Some}
use Rattle.psy_arith.specs.declared.operators.Op1.TheVariants as one
use Rattle.psy_arith.specs.declared.operators.Op2.TheVariants as two
use Rattle.psy_arith.specs.declared.width.Width.TheVariants.{W32}
use Rattle.psy_code.specs.declared.instr.Instr.{Instr}
use Rattle.psy_code.specs.declared.instr.Instr.TheVariants as instr
use Rattle.psy_code.specs.Views.{found_in}
use Rattle.psy_tree.specs.declared.unit.Unit.{Unit as Whole}
use Rattle.psy_tree.specs.declared.unit.VarDecl.{VarDecl}
use Rattle.psy_meaning.specs.CodeWays.{GoesOn, IsCodeWay, IsPassed, ends, first, goes, later}
use Rattle.psy_flow.specs.Owners.{Agent, Begins, Function, Owner}
use Rattle.psy_flow.specs.Heights.{Finds, IsAmong, IsBalanced, IsHeight, at_start, moved}
use Rattle.psy_flow.specs.Needs.{FitsStack}
use Rattle.psy_flow.specs.Verified.{Apart, Balanced, Framed, HasEnd, Inside, IsFault, IsLed, IsVerified, Keeps, Led, Named, Reaches}
use Rattle.psy_flow.specs.Marks.{IsMarked, Mark, Marks}
use Rattle.psy_verify.specs.Worked.{HasOwn, beginning, counting, ending, growing, heavy, idle, leaving, returning, shared, uneven}
use Rattle.psy_verify.proofs.Levels.{height_reached}
use Rattle.psy_flow.proofs.lemmas.Marked.{verified}
use Rattle.psy_verify.proofs.Tables.{IsWithin, heights_within}

-- ---- counting is verified

-- A mark of the only agent
abbrev at : ℕ → Option Mark
at height = Some (record { owner = Agent 0; height = height })

abbrev heights : List (Option Mark)
heights = at 0 ∷ at 1 ∷ at 2 ∷ at 1 ∷ at 0 ∷ at 1 ∷ at 0 ∷ at 0 ∷ []

abbrev marks : Marks
marks = record { at = λ place. found_in (slice_get heights place) (λ mark. mark); needs = λ function. 0; uses = λ function. 0 }

start : (owner : Owner) (place : ℕ) → Begins counting owner place → marks.at place ≡ Some (record { owner = owner; height = 0 })
start (Agent zero) place (zero, is) = subst (λ p. marks.at p ≡ at 0) (same_Some 0 place is) refl
start (Agent zero) place (suc zero, is) = subst (λ p. marks.at p ≡ at 0) (same_Some 7 place is) refl
start (Agent zero) place (suc (suc p), is) = absurd (none-some place is)
start (Agent (suc n)) place (p, is) = absurd (none-some place is)
start (Function n) place (less, is) = absurd (omega (arith, less))

end_6 : HasEnd counting.instrs 6
end_6 = (1, 6 ∷ [], ends 6 refl)

end_before : (place next : ℕ) (i : Instr) → slice_get counting.instrs place ≡ Some i → GoesOn i place next → HasEnd counting.instrs next → HasEnd counting.instrs place
end_before place next i here on (point, places, way) = (point, place ∷ places, goes place next i places here on way)

end_5 : HasEnd counting.instrs 5
end_5 = end_before 5 6 (instr.StoreCopy 0) refl refl end_6

end_4 : HasEnd counting.instrs 4
end_4 = end_before 4 5 (instr.Load 0) refl refl end_5

end_3 : HasEnd counting.instrs 3
end_3 = end_before 3 4 (instr.Store 0) refl refl end_4

end_2 : HasEnd counting.instrs 2
end_2 = end_before 2 3 (instr.Binary two.Add W32) refl refl end_3

end_1 : HasEnd counting.instrs 1
end_1 = end_before 1 2 (instr.Push (pos 1)) refl refl end_2

end_0 : HasEnd counting.instrs 0
end_0 = end_before 0 1 (instr.Load 0) refl refl end_1

end_7 : HasEnd counting.instrs 7
end_7 = end_before 7 0 (instr.Jump 0) refl refl end_0

module _ (unit : Whole) (own : HasOwn unit) where
  abbrev Is : ℕ → ℕ → Type 0
  Is place height = IsMarked unit counting marks place (record { owner = Agent 0; height = height })

  mark_0 : Is 0 0
  mark_0 = record { here = instr.Load 0; inside = refl; finds = (omega arith, tt {0}); goes = (refl, tt {0}); held = omega arith; called = tt {0}; framed = omega arith; named = tt {0}; ordered = tt {0}; led = tt {0}; ends = end_0 }

  mark_1 : Is 1 1
  mark_1 = record { here = instr.Push (pos 1); inside = refl; finds = (omega arith, tt {0}); goes = (refl, tt {0}); held = omega arith; called = tt {0}; framed = tt {0}; named = tt {0}; ordered = tt {0}; led = tt {0}; ends = end_1 }

  mark_2 : Is 2 2
  mark_2 = record { here = instr.Binary two.Add W32; inside = refl; finds = (omega arith, tt {0}); goes = (refl, tt {0}); held = omega arith; called = tt {0}; framed = tt {0}; named = tt {0}; ordered = tt {0}; led = tt {0}; ends = end_2 }

  mark_3 : Is 3 1
  mark_3 = record { here = instr.Store 0; inside = refl; finds = (omega arith, tt {0}); goes = (refl, tt {0}); held = omega arith; called = tt {0}; framed = omega arith; named = tt {0}; ordered = tt {0}; led = tt {0}; ends = end_3 }

  mark_4 : Is 4 0
  mark_4 = record { here = instr.Load 0; inside = refl; finds = (omega arith, tt {0}); goes = (refl, tt {0}); held = omega arith; called = tt {0}; framed = omega arith; named = tt {0}; ordered = tt {0}; led = tt {0}; ends = end_4 }

  mark_5 : Is 5 1
  mark_5 = record { here = instr.StoreCopy 0; inside = refl; finds = (omega arith, tt {0}); goes = (refl, tt {0}); held = omega arith; called = tt {0}; framed = tt {0}; named = (own.0, ap (λ vs. slice_get vs 0) own.1, own.2); ordered = tt {0}; led = tt {0}; ends = end_5 }

  mark_6 : Is 6 0
  mark_6 = record { here = instr.Advance 1; inside = refl; finds = refl; goes = tt {0}; held = omega arith; called = tt {0}; framed = tt {0}; named = tt {0}; ordered = tt {0}; led = (omega arith, refl); ends = end_6 }

  mark_7 : Is 7 0
  mark_7 = record { here = instr.Jump 0; inside = refl; finds = (omega arith, tt {0}); goes = (refl, tt {0}); held = omega arith; called = tt {0}; framed = tt {0}; named = tt {0}; ordered = tt {0}; led = tt {0}; ends = end_7 }

  -- A mark at a place is the one that stands there.
  stands : (place height : ℕ) (mark : Mark) → at height ≡ Some mark → Is place height → IsMarked unit counting marks place mark
  stands place height mark is good = subst (IsMarked unit counting marks place) (same_Some (record { owner = Agent 0; height = height }) mark is) good

  each : (place : ℕ) (mark : Mark) → marks.at place ≡ Some mark → IsMarked unit counting marks place mark
  each zero mark is = stands 0 0 mark is mark_0
  each (suc zero) mark is = stands 1 1 mark is mark_1
  each (suc (suc zero)) mark is = stands 2 2 mark is mark_2
  each (suc (suc (suc zero))) mark is = stands 3 1 mark is mark_3
  each (suc (suc (suc (suc zero)))) mark is = stands 4 0 mark is mark_4
  each (suc (suc (suc (suc (suc zero))))) mark is = stands 5 1 mark is mark_5
  each (suc (suc (suc (suc (suc (suc zero)))))) mark is = stands 6 0 mark is mark_6
  each (suc (suc (suc (suc (suc (suc (suc zero))))))) mark is = stands 7 0 mark is mark_7
  each (suc (suc (suc (suc (suc (suc (suc (suc place)))))))) mark is = absurd (none-some mark is)

  pub counts : IsVerified unit counting
  counts = verified unit counting marks (record { start = start; each = each; own = λ function less. absurd (omega (arith, less)) })

-- ---- one instruction is another

-- The jump at place 7 leads out.
pub leaves : (unit : Whole) → IsFault unit leaving 1 7
leaves unit = (Inside, refl, λ inside. (let less : 8 < 8 = inside.next (Agent 0) (instr.Jump 8) 8 (7, (1, refl), first) refl refl in omega (arith, less)))

-- A point and a function begin at place 0.
pub shares : (unit : Whole) → IsFault unit shared 2 0
shares unit = (Apart, refl, λ apart. (let same : Agent 0 ≡ Function 0 = apart (Agent 0) (Function 0) (0, (0, refl), first) (0, (omega arith, refl), first) in cc))

-- One operand is left at the `Advance`.
heavy_1 : IsHeight heavy (Agent 0) 1 1
heavy_1 = moved 0 1 0 1 (instr.Load 0) (at_start 0 (0, refl)) refl (_, inl refl, refl, omega arith, omega arith)

heavy_2 : IsHeight heavy (Agent 0) 2 2
heavy_2 = moved 1 2 1 2 (instr.Push (pos 1)) heavy_1 refl (_, inl refl, refl, omega arith, omega arith)

heavy_3 : IsHeight heavy (Agent 0) 3 2
heavy_3 = moved 2 3 2 2 (instr.Unary one.Neg W32) heavy_2 refl (_, inl refl, refl, omega arith, omega arith)

heavy_4 : IsHeight heavy (Agent 0) 4 1
heavy_4 = moved 3 4 2 1 (instr.Store 0) heavy_3 refl (_, inl refl, refl, omega arith, omega arith)

heavy_5 : IsHeight heavy (Agent 0) 5 2
heavy_5 = moved 4 5 1 2 (instr.Load 0) heavy_4 refl (_, inl refl, refl, omega arith, omega arith)

heavy_6 : IsHeight heavy (Agent 0) 6 1
heavy_6 = moved 5 6 2 1 (instr.StoreCopy 0) heavy_5 refl (_, inl refl, refl, omega arith, omega arith)

pub weighs : (unit : Whole) → IsFault unit heavy 3 6
weighs unit = (Balanced, refl, λ balanced. (let none : 1 ≡ 0 = (balanced.0 (Agent 0)).there 1 (instr.Advance 1) heavy_6 refl in omega (arith, none)))

-- There is one cell.
pub beyond : (unit : Whole) → IsFault unit (beginning (instr.Load 1)) 4 0
beyond unit = (Framed, refl, λ framed. (let less : 1 < 1 = framed.0 (Agent 0) (instr.Load 1) (0, (0, refl), first) refl in omega (arith, less)))

-- A look goes as far back as the depth.
pub too_far : (unit : Whole) → HasOwn unit → IsFault unit (beginning (instr.Past 0 1)) 5 0
too_far unit own = (Named, refl, λ named. by (named (Agent 0) (instr.Past 0 1) (0, (0, refl), first) refl))
  where
    by : Reaches unit 0 1 → ⊥
    by (decl, is, less) =
        let same : own.0 ≡ decl = same_Some own.0 decl (sym (ap (λ vs. slice_get vs 0) own.1) ∙ is) in
        let depth : own.0.depth ≡ decl.depth = ap (λ (d : VarDecl). d.depth) same in
        omega (arith, less, own.3, depth)

-- Its end is reached.
passed_6 : (point : ℕ) → IsPassed (ending point).instrs 0 6
passed_6 point =
    later 5 6 (instr.StoreCopy 0) (later 4 5 (instr.Load 0) (later 3 4 (instr.Store 0) (later 2 3 (instr.Binary two.Add W32) (later 1 2 (instr.Push (pos 1)) (later 0 1 (instr.Load 0) first refl refl) refl refl) refl refl) refl refl) refl refl) refl refl

pub ends_wrong : (unit : Whole) (point : ℕ) → (IsLed (ending point) (Agent 0) 6 (instr.Advance point) → ⊥) → IsFault unit (ending point) 7 6
ends_wrong unit point wrong = (Led, refl, λ led. wrong (led.0 (Agent 0) (instr.Advance point) (0, (0, refl), passed_6 point) refl))

-- It goes on at the head.
pub ends_at_head : (unit : Whole) → IsFault unit (ending 0) 7 6
ends_at_head unit = ends_wrong unit 0 (λ led. omega (arith, led.0))

-- It goes on at no point.
pub ends_nowhere : (unit : Whole) → IsFault unit (ending 2) 7 6
ends_nowhere unit = ends_wrong unit 2 (λ led. none-some 7 led.1)

-- ---- an uneven one

-- Two ways come to the `Store`, with one operand and with none.
uneven_3 : IsHeight uneven (Agent 0) 3 1
uneven_3 = moved 2 3 0 1 (instr.Push (pos 0)) (at_start 2 (1, refl)) refl (_, inl refl, refl, omega arith, omega arith)

uneven_4 : IsHeight uneven (Agent 0) 4 0
uneven_4 = moved 3 4 1 0 (instr.JumpZero 5) uneven_3 refl (_, inl refl, refl, omega arith, omega arith)

uneven_none : IsHeight uneven (Agent 0) 5 0
uneven_none = moved 3 5 1 0 (instr.JumpZero 5) uneven_3 refl (_, inr (inl refl), refl, omega arith, omega arith)

uneven_one : IsHeight uneven (Agent 0) 5 1
uneven_one = moved 4 5 0 1 (instr.Push (pos 1)) uneven_4 refl (_, inl refl, refl, omega arith, omega arith)

pub differs : (unit : Whole) → IsFault unit uneven 3 5
differs unit = (Balanced, refl, λ balanced. (let same : 0 ≡ 1 = (balanced.0 (Agent 0)).same 0 1 uneven_none uneven_one in omega (arith, same)))

-- By place, the heights that there are
abbrev some_heights : List (List ℕ)
some_heights = (0 ∷ []) ∷ (0 ∷ []) ∷ (0 ∷ []) ∷ (1 ∷ []) ∷ (0 ∷ []) ∷ (0 ∷ 1 ∷ []) ∷ (0 ∷ []) ∷ []

abbrev Has : ℕ → ℕ → Type 0
Has place height = IsAmong height (get_or some_heights place [])

uneven_start : (place : ℕ) → Begins uneven (Agent 0) place → Has place 0
uneven_start place (zero, is) = subst (λ p. Has p 0) (same_Some 0 place is) (inl refl)
uneven_start place (suc zero, is) = subst (λ p. Has p 0) (same_Some 2 place is) (inl refl)
uneven_start place (suc (suc p), is) = absurd (none-some place is)

uneven_each : (place height : ℕ) → Has place height → IsWithin uneven Has place height
uneven_each zero height (inl e) = record { here = instr.Jump 2; inside = refl; goes = ((λ pops. inl (omega (arith, e))), tt {0}) }
uneven_each zero height (inr h) = absurd h
uneven_each (suc zero) height (inl e) = record { here = instr.Advance 1; inside = refl; goes = tt {0} }
uneven_each (suc zero) height (inr h) = absurd h
uneven_each (suc (suc zero)) height (inl e) = record { here = instr.Push (pos 0); inside = refl; goes = ((λ pops. inl (omega (arith, e))), tt {0}) }
uneven_each (suc (suc zero)) height (inr h) = absurd h
uneven_each (suc (suc (suc zero))) height (inl e) = record { here = instr.JumpZero 5; inside = refl; goes = ((λ pops. inl (omega (arith, e))), ((λ pops. inl (omega (arith, e))), tt {0})) }
uneven_each (suc (suc (suc zero))) height (inr h) = absurd h
uneven_each (suc (suc (suc (suc zero)))) height (inl e) = record { here = instr.Push (pos 1); inside = refl; goes = ((λ pops. inr (inl (omega (arith, e)))), tt {0}) }
uneven_each (suc (suc (suc (suc zero)))) height (inr h) = absurd h
uneven_each (suc (suc (suc (suc (suc zero))))) height (inl e) = record { here = instr.Store 0; inside = refl; goes = ((λ pops. absurd (omega (arith, pops, e))), tt {0}) }
uneven_each (suc (suc (suc (suc (suc zero))))) height (inr (inl e)) = record { here = instr.Store 0; inside = refl; goes = ((λ pops. inl (omega (arith, e))), tt {0}) }
uneven_each (suc (suc (suc (suc (suc zero))))) height (inr (inr h)) = absurd h
uneven_each (suc (suc (suc (suc (suc (suc zero)))))) height (inl e) = record { here = instr.Jump 1; inside = refl; goes = ((λ pops. inl (omega (arith, e))), tt {0}) }
uneven_each (suc (suc (suc (suc (suc (suc zero)))))) height (inr h) = absurd h
uneven_each (suc (suc (suc (suc (suc (suc (suc place))))))) height h = absurd h

-- The way that goes on behind the `Store` comes to place 1 with nothing.
at_1 : (height : ℕ) → IsHeight uneven (Agent 0) 1 height → height ≡ 0
at_1 height reached = by (heights_within uneven (Agent 0) Has uneven_start uneven_each 1 height reached)
  where
    by : Has 1 height → height ≡ 0
    by (inl e) = e
    by (inr h) = absurd h

advance_1 : (height : ℕ) (i : Instr) → height ≡ 0 → slice_get uneven.instrs 1 ≡ Some i → Finds uneven 1 i height
advance_1 height i none is = subst (λ j. Finds uneven 1 j height) (same_Some (instr.Advance 1) i is) none

no_others : (owner : Owner) (height : ℕ) → (owner ≡ Agent 0 → ⊥) → IsHeight uneven owner 1 height → ⊥
no_others owner height other reached = (let (start, begins, passed) = height_reached uneven owner 1 height reached in by owner other start begins)
  where
    by : (owner : Owner) → (owner ≡ Agent 0 → ⊥) → (place : ℕ) → Begins uneven owner place → ⊥
    by (Agent zero) other place begins = other refl
    by (Agent (suc n)) other place (p, is) = none-some place is
    by (Function n) other place (less, is) = omega (arith, less)

even_1 : (owner : Owner) → IsBalanced uneven owner 1
even_1 (Agent zero) = record { same = λ h k a b. at_1 h a ∙ sym (at_1 k b); there = λ h i a is. advance_1 h i (at_1 h a) is }
even_1 (Agent (suc n)) = record { same = λ h k a b. absurd (no_others (Agent (suc n)) h (λ e. cc) a); there = λ h i a is. absurd (no_others (Agent (suc n)) h (λ e. cc) a) }
even_1 (Function n) = record { same = λ h k a b. absurd (no_others (Function n) h (λ e. cc) a); there = λ h i a is. absurd (no_others (Function n) h (λ e. cc) a) }

pub agrees : (unit : Whole) → Keeps unit uneven 1 Balanced
agrees unit = (even_1, fits)
  where
    fits : (agent : ℕ) → FitsStack uneven agent 1
    fits zero = record { own = λ h a. omega (arith, at_1 h a); call = λ function left more calls counted holds. absurd (omega (arith, counted.0)) }
    fits (suc n) = record { own = λ h a. absurd (no_others (Agent (suc n)) h (λ e. cc) a); call = λ function left more calls counted holds. absurd (omega (arith, counted.0)) }

-- ---- going round

-- With one operand more each time
pub grows : (unit : Whole) → IsFault unit growing 3 0
grows unit = (
  Balanced,
  refl,
  λ balanced.
      let up : IsHeight growing (Agent 0) 1 1 = moved 0 1 0 1 (instr.Push (pos 1)) (at_start 0 (0, refl)) refl (_, inl refl, refl, omega arith, omega arith) in
      let again : IsHeight growing (Agent 0) 0 1 = moved 1 0 1 1 (instr.Jump 0) up refl (_, inl refl, refl, omega arith, omega arith) in
      let same : 0 ≡ 1 = (balanced.0 (Agent 0)).same 0 1 (at_start 0 (0, refl)) again in
      omega (arith, same),
)

-- No way ends.
no_way : (point place : ℕ) (places : List ℕ) → IsCodeWay idle.instrs point place places → place ≡ 0 → ⊥
no_way point _ _ (ends place is) zero_is =
    let same : instr.Jump 0 ≡ instr.Advance point = same_Some (instr.Jump 0) (instr.Advance point) (subst (λ p. slice_get idle.instrs p ≡ Some (instr.Advance point)) zero_is is) in cc
no_way point _ _ (goes place next i places is on way) zero_is =
    let same : instr.Jump 0 ≡ i = same_Some (instr.Jump 0) i (subst (λ p. slice_get idle.instrs p ≡ Some i) zero_is is) in
    no_way point next places way (subst (λ j. GoesOn j place next) (sym same) on)

pub idles : (unit : Whole) → IsFault unit idle 7 0
idles unit = (Led, refl, λ led. (let (point, places, way) = led.1 0 (0, (0, refl), first) in no_way point 0 places way refl))

-- All ways end at a `Return`.
at_return : (point place : ℕ) (places : List ℕ) → IsCodeWay returning.instrs point place places → place ≡ 1 → ⊥
at_return point _ _ (ends place is) one_is =
    let same : instr.Return ≡ instr.Advance point = same_Some instr.Return (instr.Advance point) (subst (λ p. slice_get returning.instrs p ≡ Some (instr.Advance point)) one_is is) in cc
at_return point _ _ (goes place next i places is on way) one_is =
    let same : instr.Return ≡ i = same_Some instr.Return i (subst (λ p. slice_get returning.instrs p ≡ Some i) one_is is) in
    subst (λ j. GoesOn j place next) (sym same) on

to_return : (point place : ℕ) (places : List ℕ) → IsCodeWay returning.instrs point place places → place ≡ 0 → ⊥
to_return point _ _ (ends place is) zero_is =
    let same : instr.Push (pos 0) ≡ instr.Advance point = same_Some (instr.Push (pos 0)) (instr.Advance point) (subst (λ p. slice_get returning.instrs p ≡ Some (instr.Advance point)) zero_is is) in cc
to_return point _ _ (goes place next i places is on way) zero_is =
    let same : instr.Push (pos 0) ≡ i = same_Some (instr.Push (pos 0)) i (subst (λ p. slice_get returning.instrs p ≡ Some i) zero_is is) in
    let on_is : next ≡ place + 1 = subst (λ j. GoesOn j place next) (sym same) on in
    at_return point next places way (omega (arith, on_is, zero_is))

pub returns : (unit : Whole) → IsFault unit returning 7 0
returns unit = (Led, refl, λ led. (let (point, places, way) = led.1 0 (0, (0, refl), first) in to_return point 0 places way refl))
