-- A bound on what an agent may still ask of the processor by a date, and how it is kept.
use Rattle.std.proofs.Common.{◌≡◌, ℕ, suc, ◌+◌, ◌-◌, ◌<◌, ◌≤◌, List, [], ◌∷◌, Option, Some, refl, sym, subst, arith}
use Rattle.std.specs.Prelude.{⊤}
use Rattle.psy_base.specs.declared.edge.Edge.{Edge}
use Rattle.psy_base.specs.Paths.{DueBy, FitsDueLast, IsGreatestWeight, IsPathFrom, weight_of}
use Rattle.psy_history.specs.Actions.{Action, Next, System, next_by, next_of}
use Rattle.psy_history.specs.Schedule.{work}
use Rattle.psy_history.specs.Asked.{Drawn, IsNode, IsStep}
use Rattle.psy_history.specs.Regular.{IsRegular}
use Rattle.psy_history.proofs.Edges.{step_some, step_done}
use Rattle.psy_history.proofs.Growth.{next_done}
use Rattle.psy_history.proofs.PathShifts.{due_front, due_moved}

-- The last of these actions is finished, where it has had so many cycles.
abbrev pub Rests : ℕ → List Action → Type 0
Rests had [] = ⊤
Rests had (r ∷ before) = work r ≤ had

-- So it is, if it is due by a date.
abbrev pub RestsBy : ℕ → ℕ → List Action → Type 0
RestsBy by had [] = ⊤
RestsBy by had (r ∷ before) = r.deadline ≤ by → work r ≤ had

module _ (s : System) (graphs : List (List Edge)) (agent : ℕ) (g : Drawn s graphs agent) (by : ℕ) where
  -- What the last action, pending and due by the date, may still ask, and those behind it
  abbrev Left : ℕ → List Action → ℕ → Type 0
  Left had [] bound = ⊤
  Left had (r ∷ before) bound = had < work r → r.deadline ≤ by → (to : ℕ) (e : Edge) (path : List Edge) → IsStep s graphs agent g r.point r.start to e → IsPathFrom g.edges e.to path → DueBy by (r.start + e.len) path → r.budget + weight_of path ≤ bound + had

  -- What the next action may ask, and those behind it
  abbrev Ahead : Option Next → ℕ → Type 0
  Ahead next bound = (n : Next) (node : ℕ) (path : List Edge) → next ≡ Some n → IsNode s graphs agent g n.point n.start node → IsPathFrom g.edges node path → DueBy by n.start path → weight_of path ≤ bound

  -- The bound covers what actions may ask that are due by the date, where the last of these has had so many cycles.
  pub record Covered (had : ℕ) (actions : List Action) (bound : ℕ) : Type 0 where
    pub now : Left had actions bound
    pub next : Rests had actions → Ahead (next_of s agent actions) bound

  still_due : (had : ℕ) (actions : List Action) (bound : ℕ) → RestsBy by had actions → Left had actions bound
  still_due had [] bound rests = tt {0}
  still_due had (r ∷ before) bound rests = λ pending due to e path step from fits. absurd (omega (arith, pending, rests due))

  -- At a date by which all is finished that is due by the later one
  pub covered_quiet : (date length had : ℕ) (actions : List Action) (bound : ℕ) → date + length ≡ by → RestsBy by had actions
      → ((n : Next) → next_of s agent actions ≡ Some n → date ≤ n.start) → IsGreatestWeight g.edges (FitsDueLast length) bound → Covered had actions bound
  covered_quiet date length had actions bound far rests late greatest = record {
    now = still_due had actions bound rests;
    next = λ finished n node path is at from due. greatest.most path (node, from) (due_moved path by n.start length 0 (omega (arith, far, late n is)) due);
  }

  -- What the next action may ask, by what may follow this one
  ahead_of : (r : Action) (bound rest : ℕ) → IsRegular s agent r → bound ≤ r.budget + rest
      → ((to : ℕ) (e f : Edge) (path : List Edge) → IsStep s graphs agent g r.point r.start to e → IsPathFrom g.edges e.to (f ∷ path) → DueBy by (r.start + e.len) (f ∷ path) → r.budget + weight_of (f ∷ path) ≤ bound)
      → Ahead (next_by r.number r.after r.verdict) rest
  ahead_of r bound rest regular fits behind n node [] is at from due = omega arith
  ahead_of r bound rest regular fits behind n node (f ∷ path) is at from due =
      let (e, step, to, ends) = step_done s graphs agent g r regular n.point n.start node (next_done r.number r.after r.verdict n is).0 at in
      let there : IsPathFrom g.edges e.to (f ∷ path) = subst (λ k. IsPathFrom g.edges k (f ∷ path)) (sym to) from in
      let weigh : r.budget + weight_of (f ∷ path) ≤ bound = behind n.point e f path step there (subst (λ t. DueBy by t (f ∷ path)) (sym ends) due) in
      omega (arith, fits, weigh)

  -- Where the next action starts
  pub covered_start : (had first : ℕ) (actions : List Action) (r : Action) (n : Next) (bound : ℕ) → IsRegular s agent r → next_of s agent actions ≡ Some n → r.point ≡ n.point → r.start ≡ n.start → Rests had actions → Covered had actions bound → Covered first (r ∷ actions) bound
  covered_start had first actions r n bound regular is point start rests covered = record {
    now = λ pending due to e path step from fits.
        let weigh : e.weight + weight_of path ≤ bound = in_front to e path step from (due_front path e by r.start (omega (arith, step.due, regular.deadline, due)) fits) in
        omega (arith, weigh, step.weight, regular.budget);
    next = λ finished. ahead_of r bound bound regular (omega arith) (λ to e f path step from fits.
        let weigh : e.weight + weight_of (f ∷ path) ≤ bound = in_front to e (f ∷ path) step from fits in
        omega (arith, weigh, step.weight, regular.budget));
  }
    where
      in_front : (to : ℕ) (e : Edge) (path : List Edge) → IsStep s graphs agent g r.point r.start to e → IsPathFrom g.edges e.to path → DueBy by r.start (e ∷ path) → e.weight + weight_of path ≤ bound
      in_front to e path step from fits =
          let at : IsNode s graphs agent g n.point n.start e.from = subst (λ p. IsNode s graphs agent g p n.start e.from) point (subst (λ t. IsNode s graphs agent g r.point t e.from) start step.from) in
          covered.next rests n e.from (e ∷ path) is at (step.there, refl, from) (subst (λ t. DueBy by t (e ∷ path)) start fits)

  -- Pending and due by the date, the last action still asks something.
  pub covered_some : (had : ℕ) (before : List Action) (r : Action) (bound : ℕ) → IsRegular s agent r → had < work r → r.deadline ≤ by → Covered had (r ∷ before) bound → 1 ≤ bound
  covered_some had before r bound regular pending due covered =
      let (to, e, step) = step_some s graphs agent g r regular in
      let weigh : r.budget + weight_of [] ≤ bound + had = covered.now pending due to e [] step (tt {0}) (tt {0}) in
      omega (arith, weigh, pending)

  -- It gets a cycle.
  pub covered_unit : (had : ℕ) (before : List Action) (r : Action) (bound : ℕ) → IsRegular s agent r → had < work r → r.deadline ≤ by → Covered had (r ∷ before) bound → Covered (suc had) (r ∷ before) (bound - 1)
  covered_unit had before r bound regular pending due covered =
      let some = covered_some had before r bound regular pending due covered in
      record {
        now = λ still due' to e path step from fits.
            let weigh : r.budget + weight_of path ≤ bound + had = covered.now pending due to e path step from fits in
            omega (arith, weigh, some);
        next = λ finished. ahead_of r (bound + had) (bound - 1) regular (omega (arith, some, pending)) (λ to e f path step from fits. covered.now pending due to e (f ∷ path) step from fits);
      }
