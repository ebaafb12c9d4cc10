-- Histories that are alike reach as far back: what an action looked at beyond its budget, no cycle executed.
use Rattle.std.proofs.Common.{◌≡◌, ℕ, ◌≤◌, inl, inr, Bool, false, List, [], ◌∷◌, ◌++◌, length, Option, Some, None, refl, sym, ap, ap₂, ◌∙◌, arith}
use Rattle.std.proofs.lemmas.Bool.{cases_Bool, ltb-false}
use Rattle.std.specs.List.{filter, flat_map, range_with_len}
use Rattle.std.specs.Prelude.{ℤ, ◌==◌, nat_lt}
use Rattle.psy_budget.specs.declared.charge.Stall.{Stall}
use Rattle.psy_budget.specs.Charges.{cycle_of}
use Rattle.psy_code.specs.declared.code.Code.{Code}
use Rattle.psy_code.specs.Views.{Looked}
use Rattle.psy_tree.specs.declared.unit.Unit.{Unit as Whole}
use Rattle.psy_history.specs.Actions.{Action, History, Opening, System}
use Rattle.psy_history.specs.History.{history}
use Rattle.psy_history.specs.Schedule.{Turn, cycle_of_unit, units, work}
use Rattle.psy_history.specs.Summary.{age_in, ages_of, numbers_in, reach}
use Rattle.psy_base.specs.Extremes.{greatest_of}
use Rattle.psy_history.specs.Compiled.{coded_behind, stated_behind}
use Rattle.psy_history.specs.Likeness.{AreLike, IsLike, looks_within}
use Rattle.psy_history.specs.Processors.{processor_at}
use Rattle.psy_history.specs.Scheduled.{turns_by}
use Rattle.psy_history.proofs.Given.{given_within}
use Rattle.psy_history.proofs.LikeActions.{flat_map_like, flat_map_same}
use Rattle.psy_history.proofs.Turns.{serving}
use Rattle.psy_history.proofs.UnitCycles.{no_unit}

-- ---- lists

-- What gives nothing may be left out.
left_out : {X Y : Type 0} (f : X → List Y) (p q : X → Bool) → ((x : X) → q x ≡ false → f x ≡ []) → (xs : List X) → flat_map f (filter p xs) ≡ flat_map f (filter p (filter q xs))
left_out f p q none [] = refl
left_out f p q none (x ∷ xs) =
    let rest = left_out f p q none xs in
    elim (cases_Bool (p x)) [
      | inl passes ↦ elim (cases_Bool (q x)) [
        | inl t ↦ rw (t, passes) (ap (λ ys. f x ++ ys) rest)
        | inr t ↦ rw (t, passes) (ap₂ (λ ys zs. ys ++ zs) (none x t) rest)
      ]
      | inr fails ↦ elim (cases_Bool (q x)) [
        | inl t ↦ rw (t, fails) rest
        | inr t ↦ rw (t, fails) rest
      ]
    ]

-- ---- ages

module _ (s : System) (done : ℕ → List (Option Turn)) (variable : ℕ) where
  abbrev ages_at : Action → Looked → List ℕ
  ages_at r look = age_in s r look (cycle_of_unit r.agent r.number (cycle_of (s.stalls r.agent) r.number look.number) (done r.agent))

  late_age : (r : Action) → units r.agent r.number (done r.agent) ≤ work r → (look : Looked) → nat_lt look.number r.budget ≡ false → ages_at r look ≡ []
  late_age r h look e =
      let late = ltb-false look.number r.budget e in
      ap (age_in s r look) (no_unit r.agent r.number (cycle_of (s.stalls r.agent) r.number look.number) (done r.agent) (omega (arith, h, late)))

  -- only the looks within the budget have an age
  ages_within : (r : Action) → units r.agent r.number (done r.agent) ≤ work r → ages_of s done variable r ≡ flat_map (ages_at r) (filter (λ (look : Looked). look.variable == variable) (looks_within r))
  ages_within r h = left_out (ages_at r) (λ (look : Looked). look.variable == variable) (λ (look : Looked). nat_lt look.number r.budget) (late_age r h) r.deeds.looks

-- ---- the two histories

module _ (unit : Whole) (code : Code) (nexts : List (List (List ℕ))) (stalls : ℕ → List Stall) (inputs : List (List ℤ)) (opening : Opening) where
  abbrev of_code : System
  of_code = coded_behind unit code nexts stalls inputs opening

  abbrev of_stmts : System
  of_stmts = stated_behind unit nexts stalls inputs opening

  age_same : (r q : Action) (look : Looked) (cycle : Option ℕ) → r.start ≡ q.start → age_in of_code r look cycle ≡ age_in of_stmts q look cycle
  age_same r q look None e = refl
  age_same r q look (Some cycle) e = rw e refl

  ages_at_same : (done : ℕ → List (Option Turn)) (variable : ℕ) (r q : Action) → IsLike r q → (look : Looked) → ages_at of_code done variable r look ≡ ages_at of_stmts done variable q look
  ages_at_same done variable r q h look =
      ap₂ (λ agent number. age_in of_code r look (cycle_of_unit agent number (cycle_of (stalls agent) number look.number) (done agent))) h.agent h.number
      ∙ age_same r q look (cycle_of_unit q.agent q.number (cycle_of (stalls q.agent) q.number look.number) (done q.agent)) h.start

  ages_same : (done : ℕ → List (Option Turn)) (variable : ℕ) (r q : Action) → units q.agent q.number (done q.agent) ≤ work q → IsLike r q → ages_of of_code done variable r ≡ ages_of of_stmts done variable q
  ages_same done variable r q few h =
      let few_too : units r.agent r.number (done r.agent) ≤ work r = rw (h.agent, h.number, h.work) few in
      let test = λ (look : Looked). look.variable == variable in
      ages_within of_code done variable r few_too
      ∙ flat_map_same (ages_at of_code done variable r) (ages_at of_stmts done variable q) (ages_at_same done variable r q h) (filter test (looks_within r))
      ∙ ap (λ looks. flat_map (ages_at of_stmts done variable q) (filter test looks)) h.looks
      ∙ sym (ages_within of_stmts done variable q few)

  pub reach_same : (h : History) (order : ℕ → List ℕ) (cycles dates variable : ℕ) → ((agent : ℕ) → AreLike (h agent) (history of_stmts dates agent)) → reach of_code (turns_by of_stmts order cycles) h variable ≡ reach of_stmts (turns_by of_stmts order cycles) (history of_stmts dates) variable
  reach_same h order cycles dates variable like =
      let done = turns_by of_stmts order cycles in
      ap (λ ages. greatest_of (numbers_in (opening.reach variable) ++ ages)) (flat_map_same (λ agent. flat_map (ages_of of_code done variable) (h agent)) (λ agent. flat_map (ages_of of_stmts done variable) (history of_stmts dates agent))
      (λ agent. flat_map_like (ages_of of_code done variable) (ages_of of_stmts done variable) (h agent) (history of_stmts dates agent)
      (λ r q there l. ages_same done variable r q (given_within of_stmts (serving of_stmts order (processor_at unit q.agent)) dates cycles agent q there) l) (like agent))
      (range_with_len 0 (length unit.agents)))
