-- The age of what a look finds before its action's deadline is below the size of the variable's ring.
use Rattle.std.proofs.Common.{◌≡◌, ℕ, ◌+◌, ◌-◌, ◌<◌, List, Some, sym, ap, ◌∙◌, arith}
use Rattle.std.specs.Prelude.{slice_get}
use Rattle.std.proofs.lemmas.Option.{get_or_from_slice_get, same_Some}
use Rattle.psy_base.specs.declared.edge.Edge.{Edge}
use Rattle.psy_clock.specs.declared.clock.Clock.{Clock}
use Rattle.psy_tree.specs.declared.unit.VarDecl.{VarDecl}
use Rattle.psy_history.specs.Actions.{Action, System, clock_of, publishing, timing}
use Rattle.psy_meaning.specs.RingSizes.{IsDueIn, IsRingSize, MayPass, agent_timing, dates_between}
use Rattle.psy_meaning.specs.Timing.{clock_at}
use Rattle.psy_history.specs.Compiled.{AreEdgesOf}
use Rattle.psy_history.specs.Regular.{IsRegular}
use Rattle.psy_history.specs.Rings.{age_at}
use Rattle.psy_meaning.specs.KnownWays.{Looks, Ways}
use Rattle.psy_history.proofs.ClockDates.{count_rises}
use Rattle.psy_history.proofs.Edges.{drawn_of}
use Rattle.psy_history.proofs.SamePhases.{due_alike, same_phase}

module _ (s : System) (ways : Ways) (graphs : List (List Edge)) (drawn : AreEdgesOf s graphs) (agent variable : ℕ) (decl : VarDecl) (declared : slice_get s.unit.variables variable ≡ Some decl) (r : Action) (its : IsRegular s agent r) where
  abbrev clock : Clock
  clock = publishing s variable

  -- The dates behind the action's start and before its deadline may pass while it runs.
  passes : Looks ways agent r.point variable → MayPass s.unit ways s.nexts variable (dates_between clock r.start (r.start + (r.deadline - r.start) - 1))
  passes looks =
      let its_graph = (drawn_of s graphs drawn agent its.known).graph in
      let times = timing s agent in
      let due = due_alike s agent r its in
      let same : clock ≡ clock_at (agent_timing s.unit s.nexts agent) decl.clock = ap (λ (v : VarDecl). clock_of s v.clock) (get_or_from_slice_get s.unit.variables variable decl _ declared) in
      let is_due : IsDueIn (agent_timing s.unit s.nexts agent) r.point r.start (r.deadline - r.start) =
      (its_graph.cycle, its.starts.met, its_graph.is_cycle, its.starts.may, same_phase times r.point r.start its.starts its_graph.cycle its_graph.is_cycle, omega (arith, due, its.due)) in
      (agent, r.point, r.start, r.deadline - r.start, decl, its.known, looks, is_due, declared, ap (λ c. dates_between c r.start (r.start + (r.deadline - r.start) - 1)) same)

  pub age_below : (back size date : ℕ) → Looks ways agent r.point variable → back < decl.depth → IsRingSize s.unit ways s.nexts variable size → date < r.deadline → age_at s variable back r.start date < size
  age_below back size date looks low ring early =
      let most = ring.all (dates_between clock r.start (r.start + (r.deadline - r.start) - 1)) (passes looks) in
      let fewer = count_rises clock date (r.start + (r.deadline - r.start) - 1) (omega (arith, early, its.due)) in
      let depth : decl.depth ≡ ring.decl.depth = ap (λ (v : VarDecl). v.depth) (same_Some decl ring.decl (sym declared ∙ ring.declared)) in
      omega (arith, most, fewer, low, depth, ring.sum)
