-- How long an agent's actions last, by the edges of its graph.
use Rattle.std.proofs.Common.{◌≡◌, ℕ, ◌+◌, ◌-◌, ◌*◌, ◌<◌, ◌≤◌, ◌%◌, List, [], ◌∷◌, ◌++◌, take, max, map, length, get_or, refl, sym, ap, subst, ◌∙◌, inl, inr, arith}
use Rattle.std.specs.List.{Contains}
use Rattle.std.proofs.lemmas.Bool.{cases_lt}
use Rattle.std.proofs.lemmas.List.{take_more}
use Rattle.std.proofs.lemmas.List.Elements.{All-get_or, Contains-append_left, Contains-get_or, Contains-push, Contains-push_cases}
use Rattle.std.proofs.lemmas.Nat.{mul-le}
use Rattle.std.proofs.lemmas.Option.{slice_get_read}
use Rattle.psy_base.specs.declared.edge.Edge.{Edge}
use Rattle.psy_base.specs.declared.limits.TheConstants.{ADVANCE}
use Rattle.psy_lists.proofs.lemmas.Members.{map_contains}
use Rattle.psy_clock.specs.declared.clock.TheConstants.{PERIOD}
use Rattle.psy_clock.specs.declared.clock.Clock.{Clock}
use Rattle.psy_clock.specs.Dates.{IsClock, after_date}
use Rattle.psy_tree.specs.declared.unit.AgentDecl.{AgentDecl}
use Rattle.psy_tree.specs.declared.unit.Point.{Point}
use Rattle.psy_tree.specs.declared.unit.Unit.{Unit as Whole}
use Rattle.psy_base.specs.Extremes.{IsGreatest}
use Rattle.psy_meaning.specs.Graph.{Spot, spot_at}
use Rattle.psy_meaning.specs.QueueSizes.{MayLast}
use Rattle.psy_meaning.specs.Timing.{Timing, MayStart, budget_at, clock_at, deadline, end_date, first, first_date, following, later, point_at, timing_of}
use Rattle.psy_meaning.specs.Units.{HasHead, IsBareAgent, IsBarePoint}
use Rattle.psy_graph.specs.declared.graph.Graph.{Graph}
use Rattle.psy_graph.specs.Graphs.{IsGraphOf, IsTimed, spot_of}
use Rattle.psy_sizes.specs.Queues.{HasLength}
use Rattle.psy_sizes.proofs.Sharing.{no_clock}

-- ---- the greatest length of one edge more

pub length_more : (ticks : ℕ) (edges : List Edge) (i : ℕ) (d : Edge) (m n : ℕ) → i < length edges → IsGreatest (HasLength ticks (take i edges)) m → n ≡ max m (get_or edges i d).len → IsGreatest (HasLength ticks (take (i + 1) edges)) n
length_more ticks edges i d m n less h is =
    let e = get_or edges i d in
    let more : take (i + 1) edges ≡ take i edges ++ e ∷ [] = take_more edges i d less in
    record {
      one = elim (cases_lt m e.len) [
        | inl l ↦ inr (e, subst (λ xs. Contains xs e) (sym more) (Contains-push (take i edges) e), omega (arith, is, l))
        | inr l ↦ (let same : m ≡ n = omega (arith, is, l) in subst (HasLength ticks (take (i + 1) edges)) same (elim h.one [
          | inl is_first ↦ inl is_first
          | inr (x, c, its) ↦ inr (x, subst (λ xs. Contains xs x) (sym more) (Contains-append_left (take i edges) (e ∷ []) x c), its)
        ]))
      ];
      most = λ k has. elim has [
        | inl is_first ↦ (let before = h.most k (inl is_first) in omega (arith, is, before))
        | inr (x, c, its) ↦ elim (Contains-push_cases (take i edges) e x (subst (λ xs. Contains xs x) more c)) [
          | inl there ↦ (let before = h.most k (inr (x, there, its)) in omega (arith, is, before))
          | inr same ↦ (let lens : e.len ≡ x.len = ap (λ (z : Edge). z.len) same in omega (arith, is, its, lens))
        ]
      ];
    }

-- ---- actions and edges

module _ (timing : Timing) (graph : Graph) (its : IsGraphOf timing graph) where
  abbrev cycle : ℕ
  cycle = its.drawn.cycle

  abbrev spots : List Spot
  spots = map spot_of graph.nodes

  -- Each action that may end has an edge.
  edge_there : (point start to ticks : ℕ) → MayStart timing point start → Contains (following timing point) to → start + ticks ≡ end_date timing start to → (e : Edge) × Contains graph.edges e × (e.len ≡ ticks)
  edge_there point start to ticks may follows sum =
      let here = spot_at cycle point start in
      let ends = end_date timing start to in
      let there = spot_at cycle to ends in
      let in_here = (its.drawn.nodes.all here).1 (start, may, refl) in
      let (k, less, is) = in_here in
      let (m, within, at) = (its.drawn.nodes.all there).1 (ends, later point start to may follows, refl) in
      let (node, known, same) = map_contains spot_of graph.nodes here in_here in
      let points : node.point ≡ point = ap (λ (s : Spot). s.point) same in
      let phases : node.phase ≡ start % cycle = ap (λ (s : Spot). s.phase) same in
      let due = its.dues cycle its.drawn.is_cycle node start known (subst (λ p. MayStart timing p start) (sym points) may) (sym phases) in
      let e : Edge = record { from = k; to = m; len = ticks; due = node.due; weight = budget_at timing point } in (
        e,
        (its.drawn.links.all e).1 (
          point,
          start,
          to,
          record {
            starts = may;
            follows = follows;
            from = slice_get_read spots (length spots) k here refl less (sym is);
            into = slice_get_read spots (length spots) m there refl within (sym at);
            len = sum;
            due = due ∙ ap (λ p. deadline timing p start) points;
            weight = refl;
          },
        ),
        refl,
      )

  pub last_is : (ticks n : ℕ) → ticks ≡ first_date timing → IsGreatest (HasLength ticks graph.edges) n → IsGreatest (MayLast timing) n
  last_is ticks n begins h = record {
    one = elim h.one [
      | inl is ↦ inl (is ∙ begins)
      | inr (e, c, is) ↦ (let (point, start, to, edge) = (its.drawn.links.all e).0 c in inr (point, start, to, edge.starts, edge.follows, subst (λ l. start + l ≡ end_date timing start to) is edge.len))
    ];
    most = λ k has. elim has [
      | inl is ↦ h.most k (inl (is ∙ sym begins))
      | inr (point, start, to, may, follows, sum) ↦ h.most k (inr (edge_there point start to k may follows sum))
    ];
  }

-- ---- bounds

head_clock : (unit : Whole) (agent : AgentDecl) (points : List Point) (d : Point) → HasHead agent points (IsBarePoint unit) → (get_or points 0 d).clock ≡ agent.clock
head_clock unit agent [] d h = absurd h
head_clock unit agent (point ∷ points) d h = ap (λ (p : Point). p.clock) h.0

-- An agent begins by the clock of its head.
pub begins : (unit : Whole) (agent : AgentDecl) (nexts : List (List ℕ)) → IsBareAgent unit agent → first_date (timing_of unit agent nexts) ≡ (get_or unit.clocks agent.clock no_clock).first
begins unit agent nexts bare = ap (λ c. (get_or unit.clocks c no_clock).first) (head_clock unit agent agent.points _ bare.points)

-- The dates of a clock lie behind a time, the k-th no farther than so many periods.
abbrev pub AreDistant : Type 0
AreDistant = ((c : Clock) (t k : ℕ) → IsClock c → 1 ≤ k → t < after_date c t k) × ((c : Clock) (t k : ℕ) → IsClock c → 1 ≤ k → after_date c t k ≤ t + k * c.period)

module _ (timing : Timing) (timed : IsTimed timing) (distant : AreDistant) where
  ends_behind : (point start to : ℕ) → Contains (following timing point) to → (start < end_date timing start to) × (end_date timing start to ≤ start + ADVANCE * PERIOD)
  ends_behind point start to follows =
      let (some, less) = timed.within point to follows in
      let p = point_at timing to in
      let (one, few) = timed.counts to some less in
      let clock = clock_at timing p.clock in
      let lawful : IsClock clock = All-get_or IsClock timing.clocks p.clock _ (timed.named to _ less) timed.clocks in
      let most = mul-le p.count clock.period ADVANCE PERIOD few lawful.period in
      let near = distant.1 clock start p.count lawful one in
      (distant.0 clock start p.count lawful one, omega (arith, most, near))

  pub last_small : (n : ℕ) → IsGreatest (MayLast timing) n → n ≤ ADVANCE * PERIOD
  last_small n h = elim h.one [
    | inl is ↦ (let lawful : IsClock (clock_at timing (point_at timing 0).clock) = All-get_or IsClock timing.clocks (point_at timing 0).clock _ (timed.named 0 _ timed.head) timed.clocks in
        omega (arith, is, lawful.first, lawful.period))
    | inr (point, start, to, may, follows, sum) ↦ (let (behind, near) = ends_behind point start to follows in omega (arith, sum, near))
  ]

  pub last_some : (n : ℕ) → IsGreatest (MayLast timing) n → 1 ≤ n
  last_some n h =
      let to = get_or (following timing 0) 0 0 in
      let follows = Contains-get_or (following timing 0) 0 0 (omega (arith, timed.some 0 (omega (arith, timed.head)))) in
      let start = first_date timing in
      let (behind, near) = ends_behind 0 start to follows in
      let ends = end_date timing start to in
      let least = h.most (ends - start) (inr (0, start, to, first, follows, omega (arith, behind))) in
      omega (arith, behind, least)
