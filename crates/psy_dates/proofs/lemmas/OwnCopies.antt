-- The working copies of an agent's code are those of the variables that it owns.
use Rattle.std.proofs.Common.{◌≡◌, refl, sym, ap, subst, ◌∙◌, inl, inr, arith, map}
use Rattle.std.specs.Prelude.{◌⊎◌, ℕ, zero, suc, ◌+◌, ◌<◌, if◌then◌else◌, List, [], ◌∷◌, ◌++◌, length, get_or, Option, Some, None, slice_get}
use Rattle.std.proofs.lemmas.Bool.{cases_eq, eq-eqb, ne_eqb}
use Rattle.std.proofs.lemmas.Option.{get_or_from_slice_get, slice_get_read}
use Rattle.psy_tree.proofs.lemmas.Lists.{slice_get-behind}
use Rattle.psy_code.specs.declared.code.AgentCode.{AgentCode}
use Rattle.psy_code.specs.declared.code.Code.{Code}
use Rattle.psy_code.specs.declared.code.CopyInit.{CopyInit}
use Rattle.psy_code.specs.Execution.{Copy}
use Rattle.psy_meaning.specs.Alike.{owned_copy, owned_from}
use Rattle.psy_meaning.specs.CodeWays.{agent_code_at}
use Rattle.psy_history.specs.Fitting.{IsCodeFor}
use Rattle.psy_tree.specs.declared.unit.Unit.{Unit as Whole}
use Rattle.psy_tree.specs.declared.unit.VarDecl.{VarDecl}

-- ---- what is listed

-- The variable of this number is one of these, counted from a number on, and the agent owns it.
abbrev IsOwned : ℕ → ℕ → List VarDecl → ℕ → Type 0
IsOwned agent first variables number = (n : ℕ) × (v : VarDecl) × (number ≡ first + n) × (slice_get variables n ≡ Some v) × (v.owner ≡ Some agent)

abbrev IsListed : List Copy → ℕ → Type 0
IsListed copies number = (place : ℕ) × (c : Copy) × (slice_get copies place ≡ Some c) × (c.variable ≡ number)

one_listed : (agent first : ℕ) (v : VarDecl) (rest : List Copy) → v.owner ≡ Some agent → IsListed (owned_copy agent first v v.owner ++ rest) first
one_listed agent first v rest owned =
    let same : owned_copy agent first v v.owner ≡ record { variable = first; value = v.init } ∷ [] =
    ap (owned_copy agent first v) owned ∙ ap (λ b. if b then record { variable = first; value = v.init } ∷ [] else []) (eq-eqb agent agent refl) in
    subst (λ copies. IsListed (copies ++ rest) first) (sym same) (0, record { variable = first; value = v.init }, refl, refl)

later_listed : (here rest : List Copy) (number : ℕ) → IsListed rest number → IsListed (here ++ rest) number
later_listed here rest number l = (length here + l.0, l.1, slice_get-behind here rest l.0 ∙ l.2, l.3)

-- Each variable that the agent owns is listed.
listed_from : (agent first : ℕ) (variables : List VarDecl) (n : ℕ) (v : VarDecl) → slice_get variables n ≡ Some v → v.owner ≡ Some agent → IsListed (owned_from agent first variables) (first + n)
listed_from agent first [] n v at owned = cc
listed_from agent first (w ∷ rest) zero v at owned =
    let same : w ≡ v = cc in
    subst (IsListed (owned_from agent first (w ∷ rest))) (omega arith) (one_listed agent first w (owned_from agent (first + 1) rest) (ap (λ (x : VarDecl). x.owner) same ∙ owned))
listed_from agent first (w ∷ rest) (suc n) v at owned =
    subst (IsListed (owned_from agent first (w ∷ rest))) (omega arith)
    (later_listed (owned_copy agent first w w.owner) (owned_from agent (first + 1) rest) (first + 1 + n) (listed_from agent (first + 1) rest n v at owned))

owned_here : (agent first : ℕ) (v : VarDecl) (owner : Option ℕ) (place : ℕ) (c : Copy) → slice_get (owned_copy agent first v owner) place ≡ Some c → (owner ≡ Some agent) × (c.variable ≡ first)
owned_here agent first v None place c at = cc
owned_here agent first v (Some owner) place c at = elim (cases_eq owner agent) [
  | inl same ↦
      let one : owned_copy agent first v (Some owner) ≡ record { variable = first; value = v.init } ∷ [] = ap (λ b. if b then record { variable = first; value = v.init } ∷ [] else []) (eq-eqb owner agent same) in
      (ap Some same, only place (ap (λ xs. slice_get xs place) (sym one) ∙ at))
  | inr other ↦
      let none : owned_copy agent first v (Some owner) ≡ [] = ap (λ b. if b then record { variable = first; value = v.init } ∷ [] else []) (ne_eqb owner agent other) in
      let wrong : slice_get {X = Copy} [] place ≡ Some c = ap (λ xs. slice_get xs place) (sym none) ∙ at in cc
]
  where
    only : (n : ℕ) → slice_get (record { variable = first; value = v.init } ∷ []) n ≡ Some c → c.variable ≡ first
    only zero e = cc
    only (suc n) e = cc

in_either : {X : Type 0} (xs ys : List X) (place : ℕ) (x : X) → slice_get (xs ++ ys) place ≡ Some x → (slice_get xs place ≡ Some x) ⊎ ((n : ℕ) × (slice_get ys n ≡ Some x))
in_either [] ys place x e = inr (place, e)
in_either (y ∷ xs) ys zero x e = inl e
in_either (y ∷ xs) ys (suc place) x e = in_either xs ys place x e

-- Each variable that is listed is one that the agent owns.
owned_each : (agent first : ℕ) (variables : List VarDecl) (place : ℕ) (c : Copy) → slice_get (owned_from agent first variables) place ≡ Some c → IsOwned agent first variables c.variable
owned_each agent first [] place c at = cc
owned_each agent first (v ∷ rest) place c at = elim (in_either (owned_copy agent first v v.owner) (owned_from agent (first + 1) rest) place c at) [
  | inl here ↦ (let found = owned_here agent first v v.owner place c here in (0, v, found.1 ∙ omega arith, refl, found.0))
  | inr later ↦ (let found = owned_each agent (first + 1) rest later.0 c later.1 in (suc found.0, found.1, found.2 ∙ omega arith, found.3, found.4))
]

-- ---- of code

-- Where a list shows the same numbers as another one, it has an item at each place of that one.
shown_at : {A B : Type 0} (f : A → ℕ) (g : B → ℕ) (xs : List A) (ys : List B) → map f xs ≡ map g ys → (place : ℕ) (x : A) → slice_get xs place ≡ Some x → (y : B) × (slice_get ys place ≡ Some y) × (g y ≡ f x)
shown_at f g [] ys same place x e = cc
shown_at f g (a ∷ xs) [] same place x e = cc
shown_at f g (a ∷ xs) (b ∷ ys) same zero x e = (let first : f a ≡ g b = cc in let found : a ≡ x = cc in (b, refl, sym first ∙ ap f found))
shown_at f g (a ∷ xs) (b ∷ ys) same (suc place) x e = (let rest : map f xs ≡ map g ys = cc in shown_at f g xs ys rest place x e)

module _ (agent : ℕ) (variables : List VarDecl) (own : List CopyInit) (is : map (λ c. c.variable) own ≡ map (λ c. c.variable) (owned_from agent 0 variables)) where
  pub own_owned : (place : ℕ) (c : CopyInit) → slice_get own place ≡ Some c → (v : VarDecl) × (slice_get variables c.variable ≡ Some v) × (v.owner ≡ Some agent)
  own_owned place c at =
      let (copy, there, same) = shown_at (λ (x : CopyInit). x.variable) (λ (x : Copy). x.variable) own (owned_from agent 0 variables) is place c at in
      let found = owned_each agent 0 variables place copy there in
      (found.1, ap (slice_get variables) (sym same ∙ found.2 ∙ omega arith) ∙ found.3, found.4)

  pub owned_own : (variable : ℕ) (v : VarDecl) → slice_get variables variable ≡ Some v → v.owner ≡ Some agent → (place : ℕ) × (c : CopyInit) × (slice_get own place ≡ Some c) × (c.variable ≡ variable)
  owned_own variable v at owned =
      let listed = listed_from agent 0 variables variable v at owned in
      let back = shown_at (λ (x : Copy). x.variable) (λ (x : CopyInit). x.variable) (owned_from agent 0 variables) own (sym is) listed.0 listed.1 listed.2 in
      (listed.0, back.0, back.1, back.2 ∙ listed.3 ∙ omega arith)

-- The copies of an agent's code are those of the variables that it owns.
pub copies_of : (unit : Whole) (code : Code) → IsCodeFor unit code → (agent : ℕ) → agent < length unit.agents → (agents : List AgentCode) → agents ≡ code.agents → (its : AgentCode) → its ≡ get_or agents agent its
    → (own : List CopyInit) → own ≡ its.copies → map (λ c. c.variable) own ≡ map (λ c. c.variable) (owned_from agent 0 unit.variables)
copies_of unit code fits agent known agents same its is own of =
    let within : agent < length code.agents = omega (arith, known, fits.agents) in
    let at : slice_get code.agents agent ≡ Some its = slice_get_read code.agents (length code.agents) agent its refl within (is ∙ ap (λ xs. get_or xs agent its) same) in
    let there : agent_code_at code agent ≡ its = get_or_from_slice_get code.agents agent its _ at in
    ap (map (λ (c : CopyInit). c.variable)) of ∙ ap (λ (a : AgentCode). map (λ (c : CopyInit). c.variable) a.copies) (sym there) ∙ (fits.each agent known).copies
