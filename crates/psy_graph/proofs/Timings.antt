-- What is known of the timing of an agent of a program.
use Rattle.std.proofs.Common.{◌≡◌, ℕ, zero, suc, ◌<◌, ◌≤◌, List, [], ◌∷◌, All, length, get_or, Some, ap, subst, inl, inr, arith}
use Rattle.std.specs.Prelude.{slice_get}
use Rattle.std.proofs.lemmas.Bool.{cases_lt}
use Rattle.std.proofs.lemmas.Option.{slice_get_within, get_or_from_slice_get, slice_get-get_or}
use Rattle.std.proofs.lemmas.List.{get_or_past}
use Rattle.std.proofs.lemmas.List.Elements.{All-cons, All-contains, All-weaker, All-get_or}
use Rattle.psy_base.specs.declared.limits.TheConstants.{ADVANCE, BUDGET}
use Rattle.psy_tree.specs.declared.unit.AgentDecl.{AgentDecl}
use Rattle.psy_tree.specs.declared.unit.Point.{Point}
use Rattle.psy_tree.specs.declared.unit.Unit.{Unit}
use Rattle.psy_meaning.specs.Flow.{Rises}
use Rattle.psy_meaning.specs.Timing.{timing_of}
use Rattle.psy_meaning.specs.Units.{HasHead, IsBare, IsBareAgent, IsBarePoint}
use Rattle.psy_graph.specs.Graphs.{IsTimed}
use Rattle.psy_graph.specs.Places.{IsList}

points_named : (unit : Unit) (agent : AgentDecl) (points : List Point) → HasHead agent points (IsBarePoint unit) → agent.clock < length unit.clocks → All (λ p. p.clock < length unit.clocks) points
points_named unit agent [] h l = elim h [ ]
points_named unit agent (p ∷ points) h l = All-cons (λ q. q.clock < length unit.clocks) p points (omega (arith, ap (λ q. q.clock) h.0, l)) (All-weaker (IsBarePoint unit) (λ q. q.clock < length unit.clocks) (λ q b. b.clock) points h.1)

points_budget : (unit : Unit) (agent : AgentDecl) (points : List Point) → HasHead agent points (IsBarePoint unit) → agent.budget ≤ BUDGET → All (λ p. p.budget ≤ BUDGET) points
points_budget unit agent [] h l = elim h [ ]
points_budget unit agent (p ∷ points) h l = All-cons (λ q. q.budget ≤ BUDGET) p points (omega (arith, ap (λ q. q.budget) h.0, l)) (All-weaker (IsBarePoint unit) (λ q. q.budget ≤ BUDGET) (λ q b. b.budget.1) points h.1)

points_head : (unit : Unit) (agent : AgentDecl) (points : List Point) → HasHead agent points (IsBarePoint unit) → 1 ≤ length points
points_head unit agent [] h = elim h [ ]
points_head unit agent (p ∷ points) h = omega arith

points_count : (unit : Unit) (agent : AgentDecl) (points : List Point) (d : Point) → HasHead agent points (IsBarePoint unit) → (point : ℕ) → 1 ≤ point → point < length points → (1 ≤ (get_or points point d).count) × ((get_or points point d).count ≤ ADVANCE)
points_count unit agent [] d h point some l = elim h [ ]
points_count unit agent (p ∷ points) d h zero some l = absurd (omega (arith, some))
points_count unit agent (p ∷ points) d h (suc point) some l = (h.1 point d (omega (arith, l))).count

nothing_rises : (xs : List ℕ) → length xs ≡ 0 → Rises xs
nothing_rises xs none i j m n ij ei ej = absurd (omega (arith, none, slice_get_within xs i m ei))

-- How the actions of an agent of a program begin and end, where these points follow each of its points
pub timed_by : (unit : Unit) (number : ℕ) (agent : AgentDecl) (nexts : List (List ℕ)) → IsBare unit → slice_get unit.agents number ≡ Some agent → length nexts ≡ length agent.points
    → ((point : ℕ) (list : List ℕ) → slice_get nexts point ≡ Some list → Rises list) → All (IsList (length agent.points)) nexts → IsTimed (timing_of unit agent nexts)
timed_by unit number agent nexts bare at count rise lists =
    let l : number < length unit.agents = slice_get_within unit.agents number agent at in
    let here : IsBareAgent unit agent = subst (IsBareAgent unit) (get_or_from_slice_get unit.agents number agent agent at) (All-get_or (IsBareAgent unit) unit.agents number agent l bare.agents) in
    record {
      clocks = bare.clocks;
      named = points_named unit agent agent.points here.points here.clock;
      counts = points_count unit agent agent.points (record { count = 1; clock = 0; budget = 0 }) here.points;
      budgets = points_budget unit agent agent.points here.points here.budget.1;
      head = points_head unit agent agent.points here.points;
      few = here.limit;
      lists = count;
      some = λ point h. (lists point [] (omega (arith, h, count))).0;
      within = λ point to c. elim (cases_lt point (length nexts)) [
        | inl h ↦ All-contains (λ q. (1 ≤ q) × (q < length agent.points)) (get_or nexts point []) to (lists point [] h).1 c
        | inr h ↦ (let none : length (get_or nexts point []) ≡ 0 = ap length (get_or_past nexts point [] h) in absurd (omega (arith, none, c.1)))
      ];
      rise = λ point. elim (cases_lt point (length nexts)) [
        | inl h ↦ rise point (get_or nexts point []) (slice_get-get_or nexts point [] h)
        | inr h ↦ nothing_rises (get_or nexts point []) (ap length (get_or_past nexts point [] h))
      ];
    }
