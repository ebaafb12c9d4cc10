-- What the actions of an agent looked at, with one more cycle of its processor.
use Rattle.std.proofs.Common.{◌≡◌, ◌≢◌, ◌∙◌, refl, sym, ap, ℕ, suc, ◌+◌, ◌<◌, ◌==◌, ◌&&◌, List, [], ◌∷◌, ◌++◌, Option, Some, length, reverse, arith}
use Rattle.std.specs.Prelude.{if◌then◌else◌}
use Rattle.std.specs.List.{All, flat_map}
use Rattle.std.proofs.lemmas.List.Elements.{All-cons, All-head, All-nil, All-tail, All-weaker}
use Rattle.psy_audit.specs.Traced.{look_in, looks_of}
use Rattle.psy_base.specs.declared.sizes.Sizes.{Sizes}
use Rattle.psy_budget.specs.Charges.{cycle_of}
use Rattle.psy_code.specs.Views.{Looked as Sight}
use Rattle.psy_collect.proofs.Longer.{flat_reverse}
use Rattle.psy_collect.proofs.Turns.{not_of}
use Rattle.psy_history.specs.Actions.{Action, System}
use Rattle.psy_history.specs.History.{history}
use Rattle.psy_history.specs.Regular.{IsLawful, IsRegular, WereStarted, first_number}
use Rattle.psy_history.specs.Schedule.{Turn, cycle_of_unit, units}

-- A cycle that goes to another action changes nothing of what one looked at.
pub looks_other : (s : System) (sizes : Sizes) (turn : Turn) (turns : List (Option Turn)) (r : Action) → (turn.agent ≡ r.agent → turn.number ≡ r.number → ⊥) → looks_of s sizes (Some turn ∷ turns) r ≡ looks_of s sizes turns r
looks_other s sizes turn turns r other = by r.deeds.looks
  where
    by : (looks : List Sight) → flat_map (λ (look : Sight). look_in s sizes r look (cycle_of_unit r.agent r.number (cycle_of (s.stalls r.agent) r.number look.number) (Some turn ∷ turns))) looks
        ≡ flat_map (λ (look : Sight). look_in s sizes r look (cycle_of_unit r.agent r.number (cycle_of (s.stalls r.agent) r.number look.number) turns)) looks
    by [] = refl
    by (look ∷ looks) =
        let unit = cycle_of (s.stalls r.agent) r.number look.number in
        ap (λ b. look_in s sizes r look (if b && units r.agent r.number turns == unit then Some (length turns) else cycle_of_unit r.agent r.number unit turns)
        ++ flat_map (λ (l : Sight). look_in s sizes r l (cycle_of_unit r.agent r.number (cycle_of (s.stalls r.agent) r.number l.number) (Some turn ∷ turns))) looks) (not_of r.agent r.number turn other)
        ∙ ap (λ xs. look_in s sizes r look (cycle_of_unit r.agent r.number unit turns) ++ xs) (by looks)

module _ (s : System) (sizes : Sizes) (turn : Turn) (turns : List (Option Turn)) where
  -- The same of several actions
  pub looks_others : (actions : List Action) → All (λ (r : Action). turn.agent ≡ r.agent → turn.number ≡ r.number → ⊥) actions
      → flat_map (looks_of s sizes (Some turn ∷ turns)) (reverse actions) ≡ flat_map (looks_of s sizes turns) (reverse actions)
  looks_others [] all = refl
  looks_others (r ∷ actions) all =
      let others = All-tail (λ (x : Action). turn.agent ≡ x.agent → turn.number ≡ x.number → ⊥) r actions all in
      flat_reverse (looks_of s sizes (Some turn ∷ turns)) r actions
      ∙ ap (λ xs. xs ++ looks_of s sizes (Some turn ∷ turns) r) (looks_others actions others)
      ∙ ap (λ xs. flat_map (looks_of s sizes turns) (reverse actions) ++ xs) (looks_other s sizes turn turns r (All-head (λ (x : Action). turn.agent ≡ x.agent → turn.number ≡ x.number → ⊥) r actions all))
      ∙ sym (flat_reverse (looks_of s sizes turns) r actions)

-- The actions before one have lower numbers.
lower : (s : System) (dates agent : ℕ) (before : List Action) → WereStarted s dates agent before → All (λ (r : Action). r.number < first_number s agent + length before) before
lower s dates agent [] were = All-nil (λ (r : Action). r.number < first_number s agent + 0)
lower s dates agent (r ∷ before) were =
    All-cons (λ (x : Action). x.number < first_number s agent + suc (length before)) r before (omega (arith, were.0.number))
    (All-weaker (λ (x : Action). x.number < first_number s agent + length before) (λ (x : Action). x.number < first_number s agent + suc (length before)) (λ x less. omega (arith, less)) before (lower s dates agent before were.1))

pub none_of_before : (s : System) (dates agent : ℕ) (r : Action) (before : List Action) → WereStarted s dates agent (r ∷ before)
    → All (λ (x : Action). r.agent ≡ x.agent → r.number ≡ x.number → ⊥) before
none_of_before s dates agent r before were =
    All-weaker (λ (x : Action). x.number < first_number s agent + length before) (λ (x : Action). r.agent ≡ x.agent → r.number ≡ x.number → ⊥) (λ x less _ e. omega (arith, less, e, were.0.number)) before (lower s dates agent before were.1)

pub none_of_others : (s : System) (dates agent : ℕ) (turn : Turn) → IsLawful s → agent ≢ turn.agent → All (λ (x : Action). turn.agent ≡ x.agent → turn.number ≡ x.number → ⊥) (history s dates agent)
none_of_others s dates agent turn lawful other =
    All-weaker (IsRegular s agent) (λ (x : Action). turn.agent ≡ x.agent → turn.number ≡ x.number → ⊥) (λ x regular e _. other (sym regular.agent_is ∙ sym e)) (history s dates agent) (lawful.actions dates agent).each
