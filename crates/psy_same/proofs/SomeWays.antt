-- The ways of the statements of a text can be listed: of each agent and point, at what they look and what they send.
use Rattle.std.proofs.Common.{◌≡◌, ◌↔◌, ◌⊎◌, ◌∙◌, refl, sym, subst, inl, inr, ℕ, zero, suc, ◌<◌, ◌≤◌, List, [], ◌∷◌, ◌++◌, map, length, get_or, Some, arith}
use Rattle.std.specs.Prelude.{slice_get}
use Rattle.std.specs.List.{AllPairs, Contains}
use Rattle.std.proofs.lemmas.Bool.{cases_lt}
use Rattle.std.proofs.lemmas.List.{length-map}
use Rattle.std.proofs.lemmas.List.Elements.{Contains-append_cases, Contains-append_left, Contains-append_right}
use Rattle.std.proofs.lemmas.Option.{get_or_from_slice_get, slice_get-get_or, slice_get_within}
use Rattle.psy_base.specs.declared.ways.SendWay.{SendWay}
use Rattle.psy_base.specs.declared.ways.Ways.{Ways as WayLists}
use Rattle.psy_flow.specs.Agents.{IsAgentOf}
use Rattle.psy_lists.proofs.lemmas.Members.{contains_front, contains_none, front_or_behind}
use Rattle.psy_lists.proofs.lemmas.Ordered.{pairs_append}
use Rattle.psy_lists.proofs.lemmas.Places.{listed, mapped_from, same_lists}
use Rattle.psy_meaning.specs.Flow.{AreAllNexts, IsMostSends, IsNext, MayLook, Rises}
use Rattle.psy_meaning.specs.ListedWays.{AreByPoint, AreLooks, AreSends, AreWaysOf, IsSendWay, IsWayBefore, points_of}
use Rattle.psy_meaning.specs.Sendings.{longest_delay}
use Rattle.psy_meaning.specs.Units.{IsOfText}
use Rattle.psy_tree.specs.declared.unit.AgentDecl.{AgentDecl}
use Rattle.psy_tree.specs.declared.unit.Unit.{Unit as Whole}
use Rattle.psy_tree.specs.Parts.{agent_at, no_agent}

-- ---- lists in an order

module _ {X : Type 0} (Before : X → X → Type 0) where
  -- There is a list of all that are such, in order.
  abbrev CanBeListed : (X → Type 0) → Type 0
  CanBeListed Is = (xs : List X) × AllPairs Before xs × ((x : X) → Contains xs x ↔ Is x)

  -- Of nothing
  nothing : (Is : X → Type 0) → ((x : X) → Is x → ⊥) → CanBeListed Is
  nothing Is none = ([], (λ i j d less inside. absurd (omega (arith, inside))), λ x. ((λ c. absurd (contains_none x c)), (λ is. absurd (none x is))))

  -- Of one alone
  alone : (Is : X → Type 0) (x : X) → Is x → ((y : X) → Is y → x ≡ y) → CanBeListed Is
  alone Is x is same = (
    x ∷ [],
    (λ i j d less inside. absurd (omega (arith, less, inside))),
    λ y. (
      (λ c. elim (front_or_behind x [] y c) [
        | inl here ↦ subst Is here is
        | inr behind ↦ absurd (contains_none y behind)
      ]),
      (λ its. subst (Contains (x ∷ [])) (same y its) (contains_front x [])),
    ),
  )

  -- Of those of each number below a bound, where those of a lesser number come before those of a greater one
  joined : (Of : ℕ → X → Type 0) → ((i j : ℕ) (x y : X) → i < j → Of i x → Of j y → Before x y) → ((k : ℕ) → CanBeListed (Of k)) → (n : ℕ)
      → CanBeListed (λ x. (k : ℕ) × (k < n) × Of k x)
  joined Of apart each zero = nothing (λ x. (k : ℕ) × (k < zero) × Of k x) (λ x (k, less, of). absurd (omega (arith, less)))
  joined Of apart each (suc n) =
      let (xs, rise, are) = joined Of apart each n in
      let (ys, up, those) = each n in (
        xs ++ ys,
        pairs_append Before xs ys rise up (λ x y c d. (let (k, less, of) = (are x).0 c in apart k n x y less of ((those y).0 d))),
        λ x. (
          (λ c. elim (Contains-append_cases xs ys x c) [
            | inl before ↦ (let (k, less, of) = (are x).0 before in (k, omega (arith, less), of))
            | inr last ↦ (n, omega arith, (those x).0 last)
          ]),
          (λ (k, less, of). elim (cases_lt k n) [
            | inl below ↦ Contains-append_left xs ys x ((are x).1 (k, below, of))
            | inr not ↦ (let same : k ≡ n = omega (arith, less, not) in Contains-append_right xs ys x ((those x).1 (subst (λ m. Of m x) same of)))
          ]),
        ),
      )

rises_of_pairs : (xs : List ℕ) → AllPairs (λ (a b : ℕ). a < b) xs → Rises xs
rises_of_pairs xs pairs i j m n less at also =
    let inside = slice_get_within xs j n also in
    let first = get_or_from_slice_get xs i m 0 at in
    let second = get_or_from_slice_get xs j n 0 also in
    omega (arith, pairs i j 0 less inside, first, second)

-- ---- by agent and point

-- Where there is something of each agent and point, there are lists of it.
lists_by_point : {X : Type 0} (points : List ℕ) (Are : ℕ → ℕ → X → Type 0)
    → ((agent point : ℕ) → agent < length points → (x : X) × Are agent point x) → (lists : List (List X)) × AreByPoint points Are lists
lists_by_point {X} points Are each =
    let Has : ℕ → List X → Type 0 =
    λ agent list. (length list ≡ get_or points agent 0) × ((point : ℕ) (x : X) → slice_get list point ≡ Some x → Are agent point x) in
    let (lists, many, are) = listed Has (length points)
    (λ agent less. (let (list, count, its) = listed (Are agent) (get_or points agent 0) (λ point inside. each agent point less) in (list, (count, its)))) in (
      lists,
      record {
        counts = same_lists (map length lists) points (length-map lists (λ (l : List X). length l) ∙ many)
            (λ agent x y at also. (
            let (list, there, long) = mapped_from (λ (l : List X). length l) lists agent x at in
            sym long ∙ (are agent list there).0 ∙ get_or_from_slice_get points agent y 0 also));
        each = λ agent point list one at also. (are agent list at).1 point one also;
      },
    )

-- ---- what the laws say of a text's agents

pub record AreTold : Type 0 where
  pub looking : (unit : Whole) (number : ℕ) (agent : AgentDecl) (point variable : ℕ) → IsAgentOf unit number agent
      → MayLook unit.functions agent point variable ⊎ (MayLook unit.functions agent point variable → ⊥)
  pub looks : (unit : Whole) (number : ℕ) (agent : AgentDecl) (point variable : ℕ) → IsAgentOf unit number agent
      → MayLook unit.functions agent point variable → variable < length unit.variables
  pub some : (unit : Whole) (number : ℕ) (agent : AgentDecl) (from to stream : ℕ) → IsAgentOf unit number agent
      → (n : ℕ) × IsMostSends unit.functions agent from to stream n
  pub one : (unit : Whole) (number : ℕ) (agent : AgentDecl) (from to stream n m : ℕ) → IsAgentOf unit number agent
      → IsMostSends unit.functions agent from to stream n → IsMostSends unit.functions agent from to stream m → n ≡ m
  pub sends : (unit : Whole) (number : ℕ) (agent : AgentDecl) (point : ℕ) (way : SendWay) → IsAgentOf unit number agent
      → IsSendWay unit.functions agent point way
      → (way.stream < length unit.streams) × IsNext unit.functions agent point way.to
  pub within : (unit : Whole) (number : ℕ) (agent : AgentDecl) → IsAgentOf unit number agent → (point to : ℕ)
      → IsNext unit.functions agent point to → (1 ≤ to) × (to < length agent.points)

module _ (told : AreTold) (unit : Whole) (number : ℕ) (agent : AgentDecl) (is : IsAgentOf unit number agent) (point : ℕ) where
  -- ---- looks

  -- A way from the point looks at the variable, which is this one.
  abbrev LooksAt : ℕ → ℕ → Type 0
  LooksAt this variable = (variable ≡ this) × MayLook unit.functions agent point variable

  looks_at : (this : ℕ) → CanBeListed (λ (a b : ℕ). a < b) (LooksAt this)
  looks_at this = elim (told.looking unit number agent point this is) [
    | inl may ↦ alone (λ (a b : ℕ). a < b) (LooksAt this) this (refl, may) (λ variable its. sym its.0)
    | inr not ↦ nothing (λ (a b : ℕ). a < b) (LooksAt this) (λ variable its. not (subst (MayLook unit.functions agent point) its.0 its.1))
  ]

  all_looks : (variables : List ℕ) × AreLooks unit.functions agent point variables
  all_looks =
      let apart : (i j x y : ℕ) → i < j → LooksAt i x → LooksAt j y → x < y = λ i j x y less a b. omega (arith, less, a.0, b.0) in
      let (variables, rise, are) = joined (λ (a b : ℕ). a < b) LooksAt apart looks_at (length unit.variables) in (
        variables,
        record {
          rise = rises_of_pairs variables rise;
          each = λ variable. (
            (λ c. (let (k, less, its) = (are variable).0 c in its.1)),
            (λ may. (are variable).1 (variable, told.looks unit number agent point variable is may, (refl, may))),
          );
        },
      )

  -- ---- sends

  -- A way from the point to another sends to the stream, where these are this point and this stream.
  abbrev SendsTo : ℕ → ℕ → SendWay → Type 0
  SendsTo to stream way = (way.to ≡ to) × (way.stream ≡ stream) × IsSendWay unit.functions agent point way

  -- One that ends at this point sends to some stream.
  abbrev SendsOn : ℕ → SendWay → Type 0
  SendsOn to way = (stream : ℕ) × (stream < length unit.streams) × SendsTo to stream way

  sends_to : (to stream : ℕ) → CanBeListed IsWayBefore (SendsTo to stream)
  sends_to to stream =
      let (n, most) = told.some unit number agent point to stream is in
      let same : (way : SendWay) → SendsTo to stream way → n ≡ way.most =
      λ way (its, of, (more, some)).
      told.one unit number agent point to stream n way.most is most
      (subst (λ s. IsMostSends unit.functions agent point to s way.most) of
      (subst (λ t. IsMostSends unit.functions agent point t way.stream way.most) its more)) in
      elim (cases_lt 0 n) [
        | inl some ↦ alone IsWayBefore (SendsTo to stream) (record { to = to; stream = stream; most = n }) (refl, refl, (most, omega (arith, some)))
            (λ way its. (λ i. record { to = sym its.0 i; stream = sym its.1 i; most = same way its i }))
        | inr none ↦ nothing IsWayBefore (SendsTo to stream) (λ way its. (let e = same way its in omega (arith, none, e, its.2.1)))
      ]

  sends_on : (to : ℕ) → CanBeListed IsWayBefore (SendsOn to)
  sends_on to =
      joined IsWayBefore (SendsTo to) (λ i j x y less a b. inr (a.0 ∙ sym b.0, omega (arith, less, a.1, b.1))) (sends_to to) (length unit.streams)

  all_sends : (sends : List SendWay) × AreSends unit.functions agent point sends
  all_sends =
      let apart : (i j : ℕ) (x y : SendWay) → i < j → SendsOn i x → SendsOn j y → IsWayBefore x y =
      λ i j x y less (k, inside, a) (l, within, b). inl (omega (arith, less, a.0, b.0)) in
      let (sends, rise, are) = joined IsWayBefore SendsOn apart sends_on (length agent.points) in (
        sends,
        record {
          rise = rise;
          each = λ way. (
            (λ c. (let (to, less, (stream, inside, its)) = (are way).0 c in its.2)),
            (λ its. (
                let (there, next) = told.sends unit number agent point way is its in
                (are way).1 (way.to, (told.within unit number agent is point way.to next).1, (way.stream, there, (refl, refl, its))))),
          );
        },
      )

-- The ways of the statements of a text, whose points are followed by these, can be listed.
pub some_ways : AreTold → (unit : Whole) (nexts : List (List (List ℕ))) → IsOfText unit → AreAllNexts unit nexts
    → (ways : WayLists) × AreWaysOf unit ways
some_ways told unit nexts text followed =
    let is : (number : ℕ) → number < length (points_of unit) → IsAgentOf unit number (agent_at unit number) =
    λ number less.
    let many = length-map unit.agents (λ (a : AgentDecl). length a.points) in
    (text, slice_get-get_or unit.agents number no_agent (omega (arith, less, many))) in
    let looks = lists_by_point (points_of unit) (λ agent. AreLooks unit.functions (agent_at unit agent))
    (λ agent point less. all_looks told unit agent (agent_at unit agent) (is agent less) point) in
    let sends = lists_by_point (points_of unit) (λ agent. AreSends unit.functions (agent_at unit agent))
    (λ agent point less. all_sends told unit agent (agent_at unit agent) (is agent less) point) in
    let (delays, count, each) = listed (λ stream delay. delay ≡ longest_delay unit stream) (length unit.streams)
    (λ stream less. (longest_delay unit stream, refl)) in (
      record { nexts = nexts; looks = looks.0; sends = sends.0; delays = delays },
      record { nexts = followed; looks = looks.1; sends = sends.1; delays = record { count = count; each = each } },
    )
