-- The copy that an agent begins with of a variable that it owns is the variable's first value.
use Rattle.std.proofs.Common.{◌≡◌, ◌∙◌, ℕ, zero, suc, ◌+◌, ◌<◌, inl, inr, cond, List, [], ◌∷◌, ◌++◌, length, Option, Some, None, refl, sym, ap, subst, arith}
use Rattle.std.specs.Prelude.{slice_get}
use Rattle.std.proofs.lemmas.Bool.{cases_eq, cases_lt, eq-eqb, ne_eqb}
use Rattle.std.proofs.lemmas.List.{get_or_past}
use Rattle.std.proofs.lemmas.Option.{none-some, same_Some, slice_get-get_or}
use Rattle.psy_code.specs.Execution.{Copy, copy_of}
use Rattle.psy_code.specs.Views.{found_in}
use Rattle.psy_history.specs.Actions.{Next, first_action, plain}
use Rattle.psy_history.specs.Executors.{Executor, by_statements, copy_in}
use Rattle.psy_meaning.specs.Alike.{first_copies, owned_copy, owned_from}
use Rattle.psy_meaning.specs.States.{value_or_zero}
use Rattle.psy_meaning.specs.Units.{IsBare, OwnedWithin}
use Rattle.psy_tree.specs.declared.unit.AgentDecl.{AgentDecl}
use Rattle.psy_tree.specs.declared.unit.Unit.{Unit as Whole}
use Rattle.psy_tree.specs.declared.unit.VarDecl.{VarDecl}
use Rattle.psy_tree.specs.Parts.{no_agent, no_variable, variable_at}

abbrev one_copy : ℕ → VarDecl → List Copy
one_copy number v = record { variable = number; value = v.init } ∷ []

-- The variable itself stands first,
copy_here : (agent first : ℕ) (v : VarDecl) (rest : List Copy) → v.owner ≡ Some agent → copy_of first (owned_copy agent first v v.owner ++ rest) ≡ Some v.init
copy_here agent first v rest owned =
    let own : owned_copy agent first v v.owner ≡ one_copy first v = ap (owned_copy agent first v) owned ∙ ap (λ b. cond b (one_copy first v) []) (eq-eqb agent agent refl) in
    ap (λ copies. copy_of first (copies ++ rest)) own ∙ ap (λ b. cond b (Some v.init) (copy_of first rest)) (eq-eqb first first refl)

-- or behind another one.
copy_behind : (agent first variable : ℕ) (v : VarDecl) (owner : Option ℕ) (rest : List Copy) → first < variable → copy_of variable (owned_copy agent first v owner ++ rest) ≡ copy_of variable rest
copy_behind agent first variable v None rest less = refl
copy_behind agent first variable v (Some owner) rest less = elim (cases_eq owner agent) [
  | inl own ↦ ap (λ b. copy_of variable (cond b (one_copy first v) [] ++ rest)) (eq-eqb owner agent own)
      ∙ ap (λ b. cond b (Some v.init) (copy_of variable rest)) (ne_eqb first variable (λ same. absurd (omega (arith, same, less))))
  | inr other ↦ ap (λ b. copy_of variable (cond b (one_copy first v) [] ++ rest)) (ne_eqb owner agent other)
]

copy_from : (agent first : ℕ) (variables : List VarDecl) (n : ℕ) (v : VarDecl) → slice_get variables n ≡ Some v → v.owner ≡ Some agent
    → (variable : ℕ) → first + n ≡ variable → copy_of variable (owned_from agent first variables) ≡ Some v.init
copy_from agent first [] n v at owned variable is = absurd cc
copy_from agent first (w ∷ rest) zero v at owned variable is =
    let same : w ≡ v = same_Some w v at in
    let here : first ≡ variable = omega (arith, is) in
    subst (λ k. copy_of k (owned_from agent first (w ∷ rest)) ≡ Some v.init) here
    (copy_here agent first w (owned_from agent (first + 1) rest) (ap (λ (x : VarDecl). x.owner) same ∙ owned) ∙ ap (λ (x : VarDecl). Some x.init) same)
copy_from agent first (w ∷ rest) (suc n) v at owned variable is =
    copy_behind agent first variable w w.owner (owned_from agent (first + 1) rest) (omega (arith, is)) ∙ copy_from agent (first + 1) rest n v at owned variable (omega (arith, is))

module _ (unit : Whole) (variable agent : ℕ) (owned : (variable_at unit variable).owner ≡ Some agent) where
  -- There is such a variable,
  pub variable_known : variable < length unit.variables
  variable_known = elim (cases_lt variable (length unit.variables)) [
    | inl less ↦ less
    | inr past ↦ absurd (none-some agent (sym (ap (λ (v : VarDecl). v.owner) (get_or_past unit.variables variable no_variable past)) ∙ owned))
  ]

  -- and such an agent.
  pub owner_known : IsBare unit → agent < length unit.agents
  owner_known bare = subst (OwnedWithin (length unit.agents)) owned (bare.variables variable no_variable variable_known).owner

  pub first_copy : copy_of variable (first_copies unit agent) ≡ Some (variable_at unit variable).init
  first_copy = copy_from agent 0 unit.variables variable (variable_at unit variable) (slice_get-get_or unit.variables variable no_variable variable_known) owned variable (omega arith)

  -- By the statements an agent begins with it.
  pub stated_first : copy_in ((by_statements unit).first agent) variable ≡ (variable_at unit variable).init
  stated_first = ap value_or_zero first_copy

-- What starts in the plain opening tells what an agent begins with.
starts_in : (unit : Whole) (nexts : List (List (List ℕ))) (executor : Executor) (agent : ℕ) → agent < length unit.agents
    → (plain unit nexts executor).starts agent ≡ Some (first_action unit nexts executor agent)
starts_in unit nexts executor agent less =
    ap (λ o. found_in o (λ (a : AgentDecl). Some (first_action unit nexts executor agent))) (slice_get-get_or unit.agents agent no_agent less)

pub same_first : (unit : Whole) (nexts : List (List (List ℕ))) (one other : Executor) (agent : ℕ) → agent < length unit.agents → plain unit nexts one ≡ plain unit nexts other
    → one.first agent ≡ other.first agent
same_first unit nexts one other agent less same =
    ap (λ (n : Next). n.carried)
    (same_Some (first_action unit nexts one agent) (first_action unit nexts other agent)
    (sym (starts_in unit nexts one agent less) ∙ ap (λ o. o.starts agent) same ∙ starts_in unit nexts other agent less))
