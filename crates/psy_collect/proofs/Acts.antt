-- What is kept of an agent's actions: with one more cycle of one of them, and with those that start at a date.
use Rattle.std.proofs.Common.{◌≡◌, ◌≢◌, ◌∙◌, refl, sym, ap, subst, ℕ, ◌<◌, List, [], ◌∷◌, Option, Some, None, get_or, inl, inr, length-set, arith}
use Rattle.std.specs.Prelude.{slice_set}
use Rattle.std.proofs.lemmas.Bool.{cases_eq}
use Rattle.std.proofs.lemmas.List.{get_or-set_other, get_or-set_same}
use Rattle.psy_audit.specs.declared.said.Act.{Act}
use Rattle.psy_collect.specs.Collected.{AreActs, act_so_far, doing_of}
use Rattle.psy_collect.specs.Keeping.{one_more}
use Rattle.psy_history.specs.Actions.{Action, History}
use Rattle.psy_history.specs.Schedule.{Turn, turn_of}
use Rattle.psy_collect.proofs.Turns.{units_other, units_own}

-- The last action of an agent has as many cycles as before where a cycle goes to another's.
pub doing_other : (turn : Turn) (turns : List (Option Turn)) (agent : ℕ) (actions : List Action) → ((r : Action) (before : List Action) → actions ≡ r ∷ before → turn.agent ≡ r.agent → ⊥)
    → doing_of (Some turn ∷ turns) actions ≡ doing_of turns actions
doing_other turn turns agent [] other = refl
doing_other turn turns agent (r ∷ before) other = ap (λ n. Some (record (act_so_far turns r) { work = n })) (units_other r.agent r.number turn turns (λ e _. other r before refl e))

module _ (agents : ℕ) (all turns later : ℕ → List (Option Turn)) (h : History) (acts : List Act) (doing : List (Option Act)) (are : AreActs agents all turns h acts doing) where
  -- Where no last action has a cycle more, all is as it was.
  pub unserved : ((agent : ℕ) → agent < agents → doing_of (later agent) (h agent) ≡ doing_of (turns agent) (h agent)) → AreActs agents all later h acts doing
  unserved same = record {
    over = are.over;
    last = λ agent less. are.last agent less ∙ sym (same agent less);
    count = are.count;
    known = are.known;
  }

  -- What is kept of the action that gets a cycle
  pub kept_of : (r : Action) (before : List Action) → h r.agent ≡ r ∷ before → r.agent < agents → get_or doing r.agent None ≡ Some (act_so_far (turns r.agent) r)
  kept_of r before is less = are.last r.agent less ∙ ap (doing_of (turns r.agent)) is

  -- The last action of an agent gets a cycle.
  pub served_act : (r : Action) (before : List Action) → h r.agent ≡ r ∷ before → r.agent < agents → later r.agent ≡ turn_of (Some r) ∷ turns r.agent
      → ((agent : ℕ) → agent < agents → agent ≢ r.agent → doing_of (later agent) (h agent) ≡ doing_of (turns agent) (h agent))
      → AreActs agents all later h acts (slice_set doing r.agent (Some (one_more (act_so_far (turns r.agent) r))))
  served_act r before is less more others = record {
    over = are.over;
    last = λ agent within. elim (cases_eq agent r.agent) [
      | inl here ↦
          subst (λ a. get_or (slice_set doing r.agent (Some next)) a None ≡ doing_of (later a) (h a)) (sym here)
          (get_or-set_same doing r.agent (Some next) None (omega (arith, less, are.count))
          ∙ ap (λ n. Some (record (act_so_far (turns r.agent) r) { work = n })) (sym (units_own r (turns r.agent)))
          ∙ sym (ap (λ ts. doing_of ts (r ∷ before)) more) ∙ ap (doing_of (later r.agent)) (sym is))
      | inr other ↦ get_or-set_other doing r.agent agent (Some next) None other ∙ are.last agent within ∙ sym (others agent within other)
    ];
    count = length-set doing r.agent (Some next) ∙ are.count;
    known = are.known;
  }
    where
      next : Act
      next = one_more (act_so_far (turns r.agent) r)
