-- The lists of ways, by point of an agent and by agent, while they grow.
use Rattle.std.proofs.Common.{◌≡◌, ◌↔◌, ℕ, zero, suc, List, [], ◌∷◌, ◌++◌, map, length, Some, refl, sym, ap, subst, ◌∙◌, arith}
use Rattle.std.specs.Prelude.{slice_get}
use Rattle.std.specs.List.{Contains}
use Rattle.std.proofs.lemmas.Option.{slice_get-get_or, slice_get_within}
use Rattle.psy_base.specs.declared.ways.SendWay.{SendWay}
use Rattle.psy_lists.proofs.lemmas.Places.{each_pushed}
use Rattle.psy_tree.specs.declared.unit.AgentDecl.{AgentDecl}
use Rattle.psy_tree.specs.declared.unit.Unit.{Unit as Whole}
use Rattle.psy_tree.specs.Parts.{agent_at, no_agent}
use Rattle.psy_meaning.specs.Flow.{AreNexts, IsNext, Rises}
use Rattle.psy_meaning.specs.ListedWays.{AreByPoint, AreLooks, AreSends, points_of}
use Rattle.psy_flow.specs.Agents.{IsAgentOf}
use Rattle.psy_flow.specs.Listed.{AreOf}

-- ---- lists

-- The same for the list that came of it, where so many stood in it
pub each_after : {X : Type 0} (P : ℕ → X → Type 0) (xs ys : List X) (x : X) (n : ℕ) → ys ≡ xs ++ x ∷ [] → length xs ≡ n → ((i : ℕ) (y : X) → slice_get xs i ≡ Some y → P i y) → P n x → (i : ℕ) (y : X) → slice_get ys i ≡ Some y → P i y
each_after {X} P xs ys x n pushed count each last =
    subst (λ (zs : List X). (i : ℕ) (y : X) → slice_get zs i ≡ Some y → P i y) (sym pushed) (each_pushed P xs x each (subst (λ m. P m x) (sym count) last))

-- ---- by point of an agent

abbrev pub NextsAt : AgentDecl → ℕ → List ℕ → Type 0
NextsAt agent point list = (unit : Whole) (number : ℕ) → IsAgentOf unit number agent → Rises list × ((to : ℕ) → (Contains list to ↔ IsNext unit.functions agent point to))

-- ---- by agent

abbrev pub AllNextsAt : Whole → ℕ → List (List ℕ) → Type 0
AllNextsAt unit number lists = (agent : AgentDecl) → slice_get unit.agents number ≡ Some agent → AreNexts unit.functions agent lists

abbrev pub AllLooksAt : Whole → ℕ → List (List ℕ) → Type 0
AllLooksAt unit number lists = (agent : AgentDecl) → slice_get unit.agents number ≡ Some agent → AreOf agent (AreLooks unit.functions agent) lists

abbrev pub AllSendsAt : Whole → ℕ → List (List SendWay) → Type 0
AllSendsAt unit number lists = (agent : AgentDecl) → slice_get unit.agents number ≡ Some agent → AreOf agent (AreSends unit.functions agent) lists

-- ---- of all agents

pub counts_same : {X : Type 0} (lists : List (List X)) (agents : List AgentDecl) → length lists ≡ length agents → ((i : ℕ) (list : List X) (a : AgentDecl) → slice_get lists i ≡ Some list → slice_get agents i ≡ Some a → length list ≡ length a.points) →
    map length lists ≡ map (λ (a : AgentDecl). length a.points) agents
counts_same [] [] count each = refl
counts_same [] (a ∷ agents) count each = absurd (omega (arith, count))
counts_same (list ∷ lists) [] count each = absurd (omega (arith, count))
counts_same (list ∷ lists) (a ∷ agents) count each =
    let first : length list ≡ length a.points = each zero list a refl refl in
    ap (λ n. n ∷ map length lists) first ∙ ap (λ ns. length a.points ∷ ns) (counts_same lists agents (omega (arith, count)) (λ i. each (suc i)))

pub by_point : {X : Type 0} (unit : Whole) (Are : AgentDecl → ℕ → X → Type 0) (lists : List (List X)) → length lists ≡ length unit.agents →
    ((number : ℕ) (list : List X) → slice_get lists number ≡ Some list → (agent : AgentDecl) → slice_get unit.agents number ≡ Some agent → AreOf agent (Are agent) list) →
    AreByPoint (points_of unit) (λ number. Are (agent_at unit number)) lists
by_point unit Are lists count each = record {
  counts = counts_same lists unit.agents count (λ i list a at also. (each i list at a also).count);
  each = λ number point list one at also.
      let less = slice_get_within lists number list at in
      let here = slice_get-get_or unit.agents number no_agent (omega (arith, less, count)) in
      (each number list at (agent_at unit number) here).each point one also;
}
