-- Lists for the two points of each agent.
use Rattle.std.proofs.Common.{◌≡◌, ℕ, zero, suc, ◌<◌, ◌≤◌, List, [], ◌∷◌, length, Some, refl, sym, subst, arith}
use Rattle.std.specs.Prelude.{slice_get}
use Rattle.std.proofs.lemmas.List.Elements.{All-cons, All-nil}
use Rattle.std.proofs.lemmas.Option.{none-some, same_Some}
use Rattle.psy_tree.specs.declared.unit.Unit.{Unit as Whole}
use Rattle.psy_meaning.specs.Flow.{Rises}
use Rattle.psy_meaning.specs.ListedWays.{AreByPoint, AreLooksFor, AreNextsFor, AreSendsFor, IsSendWayFor}
use Rattle.psy_byhand.specs.Laps.{agent_of}

-- ---- lists by agent and point

module _ {X : Type 0} (Are : ℕ → ℕ → X → Type 0) where
  at_two : (agent : ℕ) (x y : X) → Are agent 0 x → Are agent 1 y → (point : ℕ) (one : X) → slice_get (x ∷ y ∷ []) point ≡ Some one → Are agent point one
  at_two agent x y first second zero one e = subst (Are agent 0) (same_Some x one e) first
  at_two agent x y first second (suc zero) one e = subst (Are agent 1) (same_Some y one e) second
  at_two agent x y first second (suc (suc point)) one e = absurd (none-some one e)

  -- Of one agent
  pub by_one : (x y : X) → Are 0 0 x → Are 0 1 y → AreByPoint (2 ∷ []) Are ((x ∷ y ∷ []) ∷ [])
  by_one x y first second = record { counts = refl; each = each }
    where
      each : (agent point : ℕ) (list : List X) (one : X) → slice_get ((x ∷ y ∷ []) ∷ []) agent ≡ Some list → slice_get list point ≡ Some one → Are agent point one
      each zero point list one is found = at_two 0 x y first second point one (subst (λ xs. slice_get xs point ≡ Some one) (sym (same_Some (x ∷ y ∷ []) list is)) found)
      each (suc agent) point list one is found = absurd (none-some list is)

  -- Of two
  pub by_two : (x y v w : X) → Are 0 0 x → Are 0 1 y → Are 1 0 v → Are 1 1 w → AreByPoint (2 ∷ 2 ∷ []) Are ((x ∷ y ∷ []) ∷ (v ∷ w ∷ []) ∷ [])
  by_two x y v w first second third fourth = record { counts = refl; each = each }
    where
      each : (agent point : ℕ) (list : List X) (one : X) → slice_get ((x ∷ y ∷ []) ∷ (v ∷ w ∷ []) ∷ []) agent ≡ Some list → slice_get list point ≡ Some one → Are agent point one
      each zero point list one is found = at_two 0 x y first second point one (subst (λ xs. slice_get xs point ≡ Some one) (sym (same_Some (x ∷ y ∷ []) list is)) found)
      each (suc zero) point list one is found = at_two 1 v w third fourth point one (subst (λ xs. slice_get xs point ≡ Some one) (sym (same_Some (v ∷ w ∷ []) list is)) found)
      each (suc (suc agent)) point list one is found = absurd (none-some list is)

-- ---- from one point

rises_none : Rises []
rises_none i j m n less a b = absurd (none-some m a)

rises_one : (x : ℕ) → Rises (x ∷ [])
rises_one x i zero m n less a b = absurd (omega (arith, less))
rises_one x i (suc j) m n less a b = absurd (none-some n b)

pub next_for : (letter budget : ℕ) → AreNextsFor (agent_of letter budget) (1 ∷ [])
next_for letter budget = record {
  some = omega arith;
  rise = rises_one 1;
  known = All-cons (λ to. (1 ≤ to) × (to < 2)) 1 [] (omega arith, omega arith) (All-nil (λ to. (1 ≤ to) × (to < 2)));
}

pub no_look_for : (unit : Whole) → AreLooksFor unit []
no_look_for unit = record { rise = rises_none; known = All-nil (λ v. v < length unit.variables) }

pub look_for : (unit : Whole) → 0 < length unit.variables → AreLooksFor unit (0 ∷ [])
look_for unit some = record { rise = rises_one 0; known = All-cons (λ v. v < length unit.variables) 0 [] some (All-nil (λ v. v < length unit.variables)) }

pub no_send_for : (unit : Whole) (nexts : List ℕ) → AreSendsFor unit nexts []
no_send_for unit nexts = record { rise = λ i j d less within. absurd (omega (arith, within)); known = All-nil (IsSendWayFor unit nexts) }
