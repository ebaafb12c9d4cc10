-- What a cycle leaves of the demand that is due by a date.
use Rattle.std.proofs.Common.{◌≡◌, ◌⊎◌, ℕ, suc, ◌+◌, ◌-◌, ◌*◌, ◌<◌, ◌≤◌, List, [], ◌∷◌, drop, length, Option, Some, None, refl, sym, ap, ◌∙◌, subst, inl, inr, arith}
use Rattle.std.specs.Prelude.{◌==◌, if◌then◌else◌}
use Rattle.std.specs.List.{All, Contains}
use Rattle.std.proofs.lemmas.Bool.{cases_eq, cases_lt, eq-eqb, ne_eqb}
use Rattle.std.proofs.lemmas.List.Elements.{All-contains, All-head}
use Rattle.psy_base.specs.declared.edge.Edge.{Edge}
use Rattle.psy_history.proofs.lemmas.MoreUnits.{units_more}
use Rattle.psy_lists.proofs.lemmas.Members.{contains_none, front_or_behind}
use Rattle.psy_history.specs.Actions.{Action, History, System}
use Rattle.psy_history.specs.Schedule.{Turn, pending, soonest, turn_of, units, work}
use Rattle.psy_history.specs.Asked.{Drawn}
use Rattle.psy_history.specs.Processors.{processor_at}
use Rattle.psy_history.specs.Regular.{IsRegular}
use Rattle.psy_history.proofs.Edges.{drawn_within}
use Rattle.psy_history.proofs.Bounds.{Covered, covered_some, covered_unit}
use Rattle.psy_history.proofs.Totals.{total, total_less}
use Rattle.psy_history.proofs.Soonest.{IsSoonest, pending_from, pending_in, soonest_is, units_other, units_own}

-- The cycles that the last of these actions has had
abbrev pub had_of : List (Option Turn) → List Action → ℕ
had_of turns [] = 0
had_of turns (r ∷ before) = units r.agent r.number turns

-- All is finished of the agents of a processor that is due by a date.
abbrev pub Quiet : System → ℕ → ℕ → List (Option Turn) → History → Type 0
Quiet s processor by turns h = (agent : ℕ) (r : Action) → processor_at s.unit agent ≡ processor → Contains (h agent) r → r.deadline ≤ by → work r ≤ units r.agent r.number turns

-- All is finished but the last action of each agent of a processor.
abbrev pub Older : System → ℕ → List (Option Turn) → History → Type 0
Older s processor turns h = (agent : ℕ) (x : Action) → processor_at s.unit agent ≡ processor → Contains (drop 1 (h agent)) x → work x ≤ units x.agent x.number turns

-- The bound covers what an agent's actions may ask by a date.
abbrev pub Covers : (s : System) (graphs : List (List Edge)) → ℕ → List (Option Turn) → (agent : ℕ) → Drawn s graphs agent → List Action → ℕ → Type 0
Covers s graphs by turns agent g actions bound = Covered s graphs agent g by (had_of turns actions) actions bound

-- What the agents of a processor may still ask by a date is at most what is left of the cycles until then.
pub record Bounded (s : System) (graphs : List (List Edge)) (processor by cycle : ℕ) (turns : List (Option Turn)) (h : History) : Type 0 where
  pub bound : ℕ → ℕ
  pub enough : total bound (length graphs) + cycle ≤ s.unit.quantum * by
  pub covers : (agent : ℕ) → processor_at s.unit agent ≡ processor → (g : Drawn s graphs agent) → Covers s graphs by turns agent g (h agent) (bound agent)

-- Of the agents of a processor all is finished that is due by a date, or what they may still ask until then is bounded.
abbrev pub IsCovered : System → List (List Edge) → ℕ → ℕ → ℕ → List (Option Turn) → History → Type 0
IsCovered s graphs processor by cycle turns h = Quiet s processor by turns h ⊎ Bounded s graphs processor by cycle turns h

quiet_more : (s : System) (processor by : ℕ) (turn : Option Turn) (turns : List (Option Turn)) (h : History) → Quiet s processor by turns h → Quiet s processor by (turn ∷ turns) h
quiet_more s processor by turn turns h quiet agent r of c due = omega (arith, quiet agent r of c due, units_more r.agent r.number turn turns)

-- What is pending is the last action.
pub last_of : (turns : List (Option Turn)) (actions : List Action) (r : Action) → ((x : Action) → Contains (drop 1 actions) x → work x ≤ units x.agent x.number turns)
    → Contains actions r → units r.agent r.number turns < work r → (before : List Action) × (actions ≡ r ∷ before)
last_of turns [] r older c less = absurd (contains_none r c)
last_of turns (q ∷ before) r older c less = elim (front_or_behind q before r c) [
  | inl e ↦ (before, ap (λ x. x ∷ before) e)
  | inr rest ↦ absurd (omega (arith, older r rest, less))
]

-- One less for this agent
abbrev one_less : (ℕ → ℕ) → ℕ → ℕ → ℕ
one_less bound agent k = if agent == k then bound k - 1 else bound k

one_most : (bound : ℕ → ℕ) (agent k : ℕ) → one_less bound agent k ≤ bound k
one_most bound agent k = elim (cases_eq agent k) [
  | inl same ↦ rw (eq-eqb agent k same) (omega arith)
  | inr other ↦ rw (ne_eqb agent k other) (omega arith)
]

module _ (s : System) (graphs : List (List Edge)) (processor : ℕ) (h : History) (regular : (agent : ℕ) → All (IsRegular s agent) (h agent)) (turns : List (Option Turn)) (by : ℕ) where
  had_other : (r : Action) (agent : ℕ) (actions : List Action) → All (IsRegular s agent) actions → (r.agent ≡ agent → ⊥) → had_of turns actions ≡ had_of (turn_of (Some r) ∷ turns) actions
  had_other r agent [] all other = refl
  had_other r agent (q ∷ before) all other = sym (units_other r q.agent q.number turns (λ e. other (e ∙ (All-head (IsRegular s agent) q before all).agent_is)))

  own_unit : (r : Action) (agent : ℕ) (g : Drawn s graphs agent) (actions before : List Action) (bound : ℕ) → actions ≡ r ∷ before → IsRegular s agent r → units r.agent r.number turns < work r → r.deadline ≤ by
      → Covers s graphs by turns agent g actions bound → Covers s graphs by (turn_of (Some r) ∷ turns) agent g actions (bound - 1)
  own_unit r agent g actions before bound e its less due =
      subst (λ xs. Covers s graphs by turns agent g xs bound → Covers s graphs by (turn_of (Some r) ∷ turns) agent g xs (bound - 1)) (sym e)
      (λ covered. subst (λ n. Covered s graphs agent g by n (r ∷ before) (bound - 1)) (sym (units_own r turns)) (covered_unit s graphs agent g by (units r.agent r.number turns) before r bound its less due covered))

  -- A cycle of an action that is due by the date
  bounded_unit : (cycle agent : ℕ) (r : Action) (before : List Action) → processor_at s.unit agent ≡ processor → h agent ≡ r ∷ before → IsRegular s agent r → units r.agent r.number turns < work r → r.deadline ≤ by → Drawn s graphs agent
      → Bounded s graphs processor by cycle turns h → Bounded s graphs processor by (suc cycle) (turn_of (Some r) ∷ turns) h
  bounded_unit cycle agent r before of e its less due g bounded =
      let bound = bounded.bound in
      let new = one_less bound agent in
      let covered = subst (λ xs. Covers s graphs by turns agent g xs (bound agent)) e (bounded.covers agent of g) in
      let some : 1 ≤ bound agent = covered_some s graphs agent g by (units r.agent r.number turns) before r (bound agent) its less due covered in
      let here : new agent ≡ bound agent - 1 = rw (eq-eqb agent agent refl) refl in
      let fewer : total new (length graphs) < total bound (length graphs) = total_less new bound (length graphs) agent (drawn_within s graphs agent g) (omega (arith, here, some)) (one_most bound agent) in
      record {
        bound = new;
        enough = omega (arith, fewer, bounded.enough);
        covers = λ k on f. elim (cases_eq agent k) [
          | inl same ↦ (
              let there : new k ≡ bound k - 1 = rw (eq-eqb agent k same) refl in
              let mine = own_unit r k f (h k) before (bound k) (ap h (sym same) ∙ e) (subst (λ n. IsRegular s n r) same its) less due (bounded.covers k on f) in
              subst (Covers s graphs by (turn_of (Some r) ∷ turns) k f (h k)) (sym there) mine)
          | inr other ↦ (
              let there : new k ≡ bound k = rw (ne_eqb agent k other) refl in
              let not_its : r.agent ≡ k → ⊥ = λ same. other (sym its.agent_is ∙ same) in
              let kept = subst (λ n. Covered s graphs k f by n (h k) (bound k)) (had_other r k (h k) (regular k) not_its) (bounded.covers k on f) in
              subst (Covers s graphs by (turn_of (Some r) ∷ turns) k f (h k)) (sym there) kept)
        ];
      }

  module _ (order : List ℕ) (all : (agent : ℕ) → agent < length s.unit.agents → processor_at s.unit agent ≡ processor → Contains order agent) (its_own : (agent : ℕ) → Contains order agent → processor_at s.unit agent ≡ processor)
      (drawn : (agent : ℕ) → agent < length s.unit.agents → Drawn s graphs agent) (older : Older s processor turns h) where
    its_regular : (agent : ℕ) (r : Action) → Contains (h agent) r → IsRegular s agent r
    its_regular agent r c = All-contains (IsRegular s agent) (h agent) r (regular agent) c

    -- Where what is pending is due later, all is finished.
    quiet_where : ((x : Action) → Contains (pending order turns h) x → by < x.deadline) → Quiet s processor by turns h
    quiet_where late agent r of c due = elim (cases_lt (units r.agent r.number turns) (work r)) [
      | inl less ↦ absurd (omega (arith, due, late r (pending_in order turns h agent r (all agent (its_regular agent r c).known of) c less)))
      | inr done ↦ done
    ]

    kept_by : (cycle : ℕ) (o : Option Action) → IsSoonest (pending order turns h) o → Bounded s graphs processor by cycle turns h → IsCovered s graphs processor by (suc cycle) (turn_of o ∷ turns) h
    kept_by cycle None none bounded = inl (quiet_more s processor by None turns h (quiet_where (λ x c. absurd (none x c))))
    kept_by cycle (Some r) (there, first) bounded = elim (cases_lt by r.deadline) [
      | inl late ↦ inl (quiet_more s processor by (turn_of (Some r)) turns h (quiet_where (λ x c. let least = first x c in omega (arith, least, late))))
      | inr due ↦ (
          let (agent, known, within, less) = pending_from order turns h r there in
          let of = its_own agent known in
          let its = its_regular agent r within in
          let (before, e) = last_of turns (h agent) r (λ x c. older agent x of c) within less in
          inr (bounded_unit cycle agent r before of e its less due (drawn agent its.known) bounded))
    ]

    pub kept_cycle : (cycle : ℕ) → IsCovered s graphs processor by cycle turns h → IsCovered s graphs processor by (suc cycle) (turn_of (soonest (pending order turns h)) ∷ turns) h
    kept_cycle cycle (inl quiet) = inl (quiet_more s processor by (turn_of (soonest (pending order turns h))) turns h quiet)
    kept_cycle cycle (inr bounded) = kept_by cycle (soonest (pending order turns h)) (soonest_is (pending order turns h)) bounded
