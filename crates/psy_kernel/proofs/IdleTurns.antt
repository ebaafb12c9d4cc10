-- Cycles at which nobody has an action go to nobody.
use Rattle.std.proofs.Common.{◌≡◌, ℕ, zero, suc, ◌+◌, ◌/◌, ◌<◌, List, [], ◌∷◌, ◌++◌, filter, Option, None, refl, ap, ◌∙◌, arith}
use Rattle.psy_history.specs.Actions.{History}
use Rattle.psy_history.specs.Schedule.{Turn, is_pending, pending, soonest, turn_of, turns, units}

no_pending : (order : List ℕ) (before : List (Option Turn)) (h : History) → ((agent : ℕ) → h agent ≡ []) → pending order before h ≡ []
no_pending [] before h none = refl
no_pending (agent ∷ order) before h none = ap (λ rs. filter (is_pending before) rs ++ pending order before h) (none agent) ∙ no_pending order before h none

pub idle_turns : (order : ℕ → List ℕ) (quantum : ℕ) (started : ℕ → History) (cycles : ℕ)
    → ((cycle : ℕ) → cycle < cycles → (agent : ℕ) → started (cycle / quantum + 1) agent ≡ []) → (agent number : ℕ)
    → units agent number (turns order quantum started cycles) ≡ 0
idle_turns order quantum started zero none agent number = refl
idle_turns order quantum started (suc cycle) none agent number =
    let before = turns order quantum started cycle in
    let nobody : turn_of (soonest (pending (order cycle) before (started (cycle / quantum + 1)))) ≡ None =
    ap (λ rs. turn_of (soonest rs)) (no_pending (order cycle) before (started (cycle / quantum + 1)) (none cycle (omega arith))) in
    ap (λ turn. units agent number (turn ∷ before)) nobody ∙ idle_turns order quantum started cycle (λ c less. none c (omega (arith, less))) agent number
