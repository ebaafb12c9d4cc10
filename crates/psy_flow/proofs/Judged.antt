-- The greatest numbers of sends on ways through code: that there are some.
use Rattle.std.proofs.Common.{◌≡◌, ℕ, zero, suc, ◌+◌, ◌<◌, ◌≤◌, List, [], ◌∷◌, ◌++◌, map, length, get_or, take, Some, sym, ap, subst, inl, inr, arith}
use Rattle.std.specs.Prelude.{slice_get}
use Rattle.std.specs.List.{Contains}
use Rattle.std.proofs.lemmas.List.{length-map, take_more}
use Rattle.std.proofs.lemmas.List.Elements.{Contains-push_cases}
use Rattle.std.proofs.lemmas.Option.{same_Some, slice_get_within}
use Rattle.std.proofs.Math.Nat.{eq-or-lt_of_le}
use Rattle.psy_code.specs.declared.code.Code.{Code}
use Rattle.psy_code.specs.declared.instr.Instr.{Instr}
use Rattle.psy_tree.specs.declared.unit.AgentDecl.{AgentDecl}
use Rattle.psy_tree.specs.declared.unit.Unit.{Unit as Whole}
use Rattle.psy_tree.specs.Parts.{agent_at, no_agent}
use Rattle.psy_meaning.specs.CodeWays.{AreCodeNexts, HaveAllMosts, HaveMosts, IsMostCodeSends, budget_of, place_of}
use Rattle.psy_meaning.specs.ListedWays.{AreByPoint, points_of}
use Rattle.psy_flow.specs.CodeLists.{HaveMostsFrom, HaveMostsOf, HaveMostsTo}
use Rattle.psy_flow.proofs.FoundRows.{its_points}

-- For the first so many numbers, and for one more
pub one_more : (P : ℕ → Type 0) (n : ℕ) → ((i : ℕ) → i < n → P i) → P n → (i : ℕ) → i < n + 1 → P i
one_more P n before last i less =
    let below : i ≤ n = omega (arith, less) in elim (eq-or-lt_of_le below) [
      | inl same ↦ subst P (sym same) last
      | inr low ↦ before i low
    ]

module _ (instrs : List Instr) (from budget : ℕ) where
  -- For one stream more
  pub one_more_most : (streams to most : ℕ) → HaveMostsTo instrs from budget streams to → IsMostCodeSends instrs from to streams budget most
      → HaveMostsTo instrs from budget (streams + 1) to
  one_more_most streams to most before last =
      one_more (λ stream. (n : ℕ) × IsMostCodeSends instrs from to stream budget n) streams before (most, last)

  -- To one point more
  pub one_more_point : (streams : ℕ) (nexts : List ℕ) (i : ℕ) → i < length nexts → HaveMosts instrs from budget streams (take i nexts)
      → HaveMostsTo instrs from budget streams (get_or nexts i 0) → HaveMosts instrs from budget streams (take (i + 1) nexts)
  one_more_point streams nexts i less before last to stream among low =
      let more : take (i + 1) nexts ≡ take i nexts ++ get_or nexts i 0 ∷ [] = take_more nexts i 0 less in
      elim (Contains-push_cases (take i nexts) (get_or nexts i 0) to (subst (λ ns. Contains ns to) more among)) [
        | inl earlier ↦ before to stream earlier low
        | inr is ↦ subst (λ t. (n : ℕ) × IsMostCodeSends instrs from t stream budget n) is (last stream low)
      ]

  -- By the points where ways end, or by the ways
  pub by_ways : (streams : ℕ) (nexts : List ℕ) → AreCodeNexts instrs from nexts → HaveMosts instrs from budget streams nexts
      → HaveMostsFrom instrs from budget streams
  by_ways streams nexts are have to places way stream = have to stream ((are.each to).1 (places, way))

  pub by_nexts : (streams : ℕ) (nexts : List ℕ) → AreCodeNexts instrs from nexts → HaveMostsFrom instrs from budget streams
      → HaveMosts instrs from budget streams nexts
  by_nexts streams nexts are have to stream among =
      let (places, way) = (are.each to).0 among in
      have to places way stream

-- ---- of a program

-- A list by point is as long as the agent has points.
counted : {X : Type 0} (lists : List (List X)) (agents : List AgentDecl) (n : ℕ) (list : List X) → map length lists ≡ map its_points agents
    → slice_get lists n ≡ Some list → length list ≡ length (get_or agents n no_agent).points
counted [] agents n list counts at = absurd (omega (arith, slice_get_within [] n list at))
counted (x ∷ lists) [] n list counts at = absurd (omega (arith, ap length counts))
counted (x ∷ lists) (a ∷ agents) zero list counts at =
    let same : length x ≡ length list = ap length (same_Some x list at) in
    let head : length x ≡ length a.points = cc in
    omega (arith, same, head)
counted (x ∷ lists) (a ∷ agents) (suc n) list counts at =
    let rest : map length lists ≡ map its_points agents = cc in
    counted lists agents n list rest at

pub all_mosts : (unit : Whole) (code : Code) (nexts : List (List (List ℕ)))
    → AreByPoint (points_of unit) (λ agent point. AreCodeNexts code.instrs (place_of code agent point)) nexts
    → ((agent : ℕ) → agent < length unit.agents → HaveMostsOf unit code agent) → HaveAllMosts unit code nexts
all_mosts unit code nexts are have = record {
  counts = are.counts;
  each = λ agent point list one at also.
      let less : agent < length unit.agents = omega (
        arith,
        slice_get_within nexts agent list at,
        ap length are.counts,
        length-map nexts length,
        length-map unit.agents its_points,
      ) in
      let low : point < length (agent_at unit agent).points = omega (arith, slice_get_within list point one also, counted nexts unit.agents agent list are.counts at) in
      by_nexts code.instrs (place_of code agent point) (budget_of unit agent point) (length unit.streams) one (are.each agent point list one at also)
      (have agent less point low);
}
