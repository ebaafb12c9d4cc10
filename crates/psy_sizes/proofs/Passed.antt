-- The greatest of some numbers of dates: of one more, and in other words.
use Rattle.std.proofs.Common.{◌≡◌, ◌⊎◌, ℕ, ◌+◌, ◌<◌, ◌↔◌, List, [], ◌∷◌, ◌++◌, take, max, length, get_or, refl, sym, subst, inl, inr, arith}
use Rattle.std.specs.List.{Contains}
use Rattle.std.proofs.lemmas.Bool.{cases_lt}
use Rattle.std.proofs.lemmas.List.{take_more}
use Rattle.std.proofs.lemmas.List.Elements.{Contains-append_left, Contains-push, Contains-push_cases}
use Rattle.psy_clock.specs.declared.clock.Clock.{Clock}
use Rattle.psy_tree.specs.declared.unit.Unit.{Unit as Whole}
use Rattle.psy_meaning.specs.KnownWays.{Looks, Ways}
use Rattle.psy_base.specs.Extremes.{IsGreatest, IsMost}
use Rattle.psy_graph.specs.declared.graph.Node.{Node}
use Rattle.psy_sizes.specs.Passing.{HasDatesAt, HasDatesOf, HasDatesBefore}
use Rattle.psy_sizes.specs.Windows.{HasDates}

pub most_none : (Has : ℕ → Type 0) → ((n : ℕ) → Has n → ⊥) → IsMost Has 0
most_none Has none = record { one = inl refl; all = λ n h. absurd (none n h) }

pub most_alike : (Has Other : ℕ → Type 0) (n : ℕ) → ((m : ℕ) → Has m ↔ Other m) → IsMost Has n → IsMost Other n
most_alike Has Other n same h = record {
  one = elim h.one [ inl e ↦ inl e | inr has ↦ inr ((same n).0 has) ];
  all = λ m other. h.all m ((same m).1 other);
}

-- The greater of the most of both is the most of all.
pub most_max : (Has Other All : ℕ → Type 0) (n m k : ℕ) → k ≡ max n m → IsMost Has n → IsMost Other m → ((i : ℕ) → All i ↔ (Has i ⊎ Other i)) → IsMost All k
most_max Has Other All n m k is h o both = record {
  one = elim (cases_lt n m) [
    | inl l ↦ (let same : m ≡ k = omega (arith, is, l) in subst (λ i. (i ≡ 0) ⊎ All i) same (elim o.one [ inl e ↦ inl e | inr has ↦ inr ((both m).1 (inr has)) ]))
    | inr l ↦ (let same : n ≡ k = omega (arith, is, l) in subst (λ i. (i ≡ 0) ⊎ All i) same (elim h.one [ inl e ↦ inl e | inr has ↦ inr ((both n).1 (inl has)) ]))
  ];
  all = λ i has. elim ((both i).0 has) [ inl a ↦ omega (arith, is, h.all i a) | inr b ↦ omega (arith, is, o.all i b) ];
}

-- ---- nodes

module _ (ways : Ways) (agent variable : ℕ) (clock : Clock) (cycle : ℕ) where
  -- So many dates stand between the start and the deadline of an action of this node that may look.
  abbrev pub HasDatesBy : Node → ℕ → Type 0
  HasDatesBy node dates = Looks ways agent node.point variable × HasDates clock cycle node.phase node.due dates

  pub looking_by : (node : Node) (n : ℕ) → Looks ways agent node.point variable → IsGreatest (HasDates clock cycle node.phase node.due) n → IsMost (HasDatesBy node) n
  looking_by node n looks h = record { one = inr (looks, h.one); all = λ m (also, has). h.most m has }

  pub blind_by : (node : Node) → (Looks ways agent node.point variable → ⊥) → IsMost (HasDatesBy node) 0
  blind_by node blind = most_none (HasDatesBy node) (λ n (looks, has). blind looks)

  pub no_node : IsMost (HasDatesAt ways agent variable clock cycle []) 0
  no_node = most_none (HasDatesAt ways agent variable clock cycle []) (λ n (node, (k, less, is), looks, has). omega (arith, less))

  pub node_more : (nodes : List Node) (i : ℕ) (d : Node) → i < length nodes → (n : ℕ) →
      HasDatesAt ways agent variable clock cycle (take (i + 1) nodes) n ↔ (HasDatesAt ways agent variable clock cycle (take i nodes) n ⊎ HasDatesBy (get_or nodes i d) n)
  node_more nodes i d l n =
      let node = get_or nodes i d in
      let more : take (i + 1) nodes ≡ take i nodes ++ node ∷ [] = take_more nodes i d l in (
        λ (x, c, looks, has). elim (Contains-push_cases (take i nodes) node x (subst (λ xs. Contains xs x) more c)) [
          | inl before ↦ inl (x, before, looks, has)
          | inr is ↦ inr (subst (λ y. HasDatesBy y n) (sym is) (looks, has))
        ],
        λ h. elim h [
          | inl (x, c, looks, has) ↦ (x, subst (λ xs. Contains xs x) (sym more) (Contains-append_left (take i nodes) (node ∷ []) x c), looks, has)
          | inr (looks, has) ↦ (node, subst (λ xs. Contains xs node) (sym more) (Contains-push (take i nodes) node), looks, has)
        ],
      )

-- ---- agents

pub no_agent : (unit : Whole) (ways : Ways) (nexts : List (List (List ℕ))) (variable : ℕ) (clock : Clock) → IsMost (HasDatesBefore unit ways nexts variable clock 0) 0
no_agent unit ways nexts variable clock = most_none (HasDatesBefore unit ways nexts variable clock 0) (λ n (number, less, rest). omega (arith, less))

pub agent_more : (unit : Whole) (ways : Ways) (nexts : List (List (List ℕ))) (variable : ℕ) (clock : Clock) (k n : ℕ) → HasDatesBefore unit ways nexts variable clock (k + 1) n ↔ (HasDatesBefore unit ways nexts variable clock k n ⊎ HasDatesOf unit ways nexts variable clock k n)
agent_more unit ways nexts variable clock k n = (
  λ (number, less, has). elim (cases_lt number k) [
    | inl l ↦ inl (number, l, has)
    | inr l ↦ (let is : number ≡ k = omega (arith, less, l) in inr (subst (λ m. HasDatesOf unit ways nexts variable clock m n) is has))
  ],
  λ h. elim h [
    | inl (number, less, has) ↦ (number, omega (arith, less), has)
    | inr has ↦ (k, omega arith, has)
  ],
)
