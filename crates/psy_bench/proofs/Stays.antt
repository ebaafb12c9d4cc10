-- Each instruction of the loop leaves the machine as it stands at the next place, and asks nothing.
use Rattle.std.proofs.Common.{◌≡◌, refl, arith}
use Rattle.std.specs.Prelude.{ℕ, zero, suc, ◌==◌, nat_lt, Bool, true, false, if◌then◌else◌, ℤ, pos, negsuc, None}
use Rattle.psy_code.specs.Execution.{Machine, Next, next_of, call_of, within}
use Rattle.psy_code.specs.Views.{View}
use Rattle.psy_bench.specs.Loop.{
  IsAtPlace,
  StaysInLoop,
  loop_code,
  agent_code,
  at_0,
  at_1,
  at_2,
  at_3,
  at_4,
  at_5,
  at_6,
  at_7,
  at_8,
  at_9,
  at_10,
  at_11,
  at_12,
  at_13,
  at_14,
  at_15,
  at_16,
  at_17,
  at_18,
  at_19,
  at_20,
  at_21,
  at_22,
  at_23,
  at_24,
  at_25,
  at_26,
  at_27,
  at_28,
  at_29,
  at_30,
  at_31,
  at_32,
}

either_way : (b : Bool) (x y : Next) → StaysInLoop (within agent_code x) → StaysInLoop (within agent_code y) → StaysInLoop (within agent_code (if b then x else y))
either_way true x y p q = p
either_way false x y p q = q

too_great : (n : ℕ) → nat_lt (suc (suc (suc (suc n)))) 4 ≡ false
too_great n = grind arith

pub stays : (view : View) (m : Machine) → IsAtPlace m → StaysInLoop (next_of loop_code agent_code view m)
stays view m at_0 = at_1
stays view m at_1 = at_2
stays view m at_2 = at_3
stays view m at_3 = at_4
stays view m (at_4 {x = pos zero}) = at_5
stays view m (at_4 {x = pos (suc n)} {s = s}) = either_way (s.turns == 8) _ _ _ at_5
stays view m (at_4 {x = negsuc n} {s = s}) = either_way (s.turns == 8) _ _ _ at_5
stays view m (at_5 {x = pos zero}) = at_21
stays view m (at_5 {x = pos (suc n)}) = at_6
stays view m (at_5 {x = negsuc n}) = at_6
stays view m at_6 = at_7
stays view m at_7 = at_8
stays view m at_8 = at_27
stays view m at_9 = at_10
stays view m at_10 = at_11
stays view m at_11 = at_12
stays view m at_12 = at_13
stays view m at_13 = at_14
stays view m at_14 = at_15
stays view m (at_15 {y = pos zero}) = at_16
stays view m (at_15 {y = pos (suc zero)}) = at_16
stays view m (at_15 {y = pos (suc (suc zero))}) = at_16
stays view m (at_15 {y = pos (suc (suc (suc zero)))}) = at_16
stays view m (at_15 {y = pos (suc (suc (suc (suc n))))}) = rw (too_great n) (tt {0})
stays view m (at_15 {y = negsuc n}) = tt {0}
stays view m at_16 = at_17
stays view m at_17 = at_18
stays view m at_18 = at_19
stays view m at_19 = at_20
stays view m at_20 = at_1
stays view m at_21 = at_22
stays view m at_22 = at_23
stays view m at_23 = at_24
stays view m at_24 = at_25
stays view m at_25 = at_26
stays view m at_26 = at_0
stays view m at_27 = at_28
stays view m at_28 = at_29
stays view m at_29 = at_30
stays view m at_30 = at_31
stays view m at_31 = at_32
stays view m at_32 = at_9

pub asks_nothing : (m : Machine) → IsAtPlace m → call_of loop_code m ≡ None
asks_nothing m at_0 = refl
asks_nothing m at_1 = refl
asks_nothing m at_2 = refl
asks_nothing m at_3 = refl
asks_nothing m at_4 = refl
asks_nothing m at_5 = refl
asks_nothing m at_6 = refl
asks_nothing m at_7 = refl
asks_nothing m at_8 = refl
asks_nothing m at_9 = refl
asks_nothing m at_10 = refl
asks_nothing m at_11 = refl
asks_nothing m at_12 = refl
asks_nothing m at_13 = refl
asks_nothing m at_14 = refl
asks_nothing m at_15 = refl
asks_nothing m at_16 = refl
asks_nothing m at_17 = refl
asks_nothing m at_18 = refl
asks_nothing m at_19 = refl
asks_nothing m at_20 = refl
asks_nothing m at_21 = refl
asks_nothing m at_22 = refl
asks_nothing m at_23 = refl
asks_nothing m at_24 = refl
asks_nothing m at_25 = refl
asks_nothing m at_26 = refl
asks_nothing m at_27 = refl
asks_nothing m at_28 = refl
asks_nothing m at_29 = refl
asks_nothing m at_30 = refl
asks_nothing m at_31 = refl
asks_nothing m at_32 = refl
