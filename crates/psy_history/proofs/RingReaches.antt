-- No ring is reached for beyond its size.
use Rattle.std.proofs.Common.{◌≡◌, ℕ, ◌*◌, ◌/◌, ◌<◌, ◌≤◌, All, List, ◌++◌, Some, sym, subst, inl, inr, arith}
use Rattle.std.specs.List.{Contains}
use Rattle.std.proofs.lemmas.List.Elements.{All-contains, Contains-append_cases}
use Rattle.psy_budget.specs.Charges.{cycle_of}
use Rattle.psy_code.specs.declared.code.Code.{Code}
use Rattle.psy_history.specs.Actions.{System}
use Rattle.psy_history.specs.History.{history}
use Rattle.psy_history.specs.Summary.{numbers_in, reach}
use Rattle.psy_history.specs.Regular.{IsRegular, Runs}
use Rattle.psy_history.specs.Runs.{IsRun}
use Rattle.psy_history.specs.Scheduled.{IsSupplied, turns_by}
use Rattle.psy_meaning.specs.KnownWays.{Ways}
use Rattle.psy_meaning.specs.RingSizes.{IsRingSize}
use Rattle.psy_history.proofs.CyclesInTime.{unit_within}
use Rattle.psy_history.proofs.Greatest.{greatest_in}
use Rattle.psy_history.proofs.LookAges.{age_below}
use Rattle.psy_history.proofs.Reached.{all_ages, one_number, reached_in}
use Rattle.psy_history.proofs.RunLooks.{may_look}

module _ (s : System) (ways : Ways) (code : Code) (run : IsRun s ways code) where
  now_below : (order : ℕ → List ℕ) (until cycles variable size n : ℕ) → IsSupplied s order until → cycles ≤ until * s.unit.quantum → IsRingSize s.unit ways s.nexts variable size
      → ((dates agent : ℕ) → All (Runs s ways code) (history s dates agent)) → (dates : ℕ) → Contains (all_ages s (turns_by s order cycles) (history s dates) variable) n → n < size
  now_below order until cycles variable size n supplied early ring all dates there =
      let turns = turns_by s order cycles in
      let on = reached_in s turns (history s dates) variable n there in
      let r = on.r in
      let look = on.look in
      let its : IsRegular s on.agent r = All-contains (IsRegular s on.agent) (history s dates on.agent) r (supplied.lawful.actions dates on.agent).each on.there in
      let runs : Runs s ways code r = All-contains (Runs s ways code) (history s dates on.agent) r (all dates on.agent) on.there in
      let (decl, declared, low, may) = may_look s ways code run supplied.lawful dates on.agent r on.there runs look on.looked in
      let within = unit_within s order until supplied dates on.agent r on.there (cycle_of (s.stalls r.agent) r.number look.number) cycles on.cycle early on.executed in
      let below = age_below s ways supplied.graphs supplied.drawn r.agent look.variable decl declared r (subst (λ agent. IsRegular s agent r) (sym its.agent_is) its) look.back size (on.cycle / s.unit.quantum) may low
      (subst (λ v. IsRingSize s.unit ways s.nexts v size) (sym on.at) ring) within.1 in
      omega (arith, below, on.is)

  -- also with what was reached before
  pub reach_below : (order : ℕ → List ℕ) (until cycles variable size n : ℕ) → IsSupplied s order until → cycles ≤ until * s.unit.quantum → IsRingSize s.unit ways s.nexts variable size
      → ((dates agent : ℕ) → All (Runs s ways code) (history s dates agent)) → (dates : ℕ) → reach s (turns_by s order cycles) (history s dates) variable ≡ Some n → n < size
  reach_below order until cycles variable size n supplied early ring all dates e =
      let turns = turns_by s order cycles in
      let before = numbers_in (s.opening.reach variable) in
      let ages = all_ages s turns (history s dates) variable in
      elim (Contains-append_cases before ages n (greatest_in (before ++ ages) n e)) [
        | inl was ↦ run.opened.reaches variable size n ring (one_number (s.opening.reach variable) n was)
        | inr there ↦ now_below order until cycles variable size n supplied early ring all dates there
      ]
