-- Paths of chosen edges. Since one edge is chosen at a node at most, of two from one node the shorter is the front of the other; so all loops to
-- which they lead go round one round.
use Rattle.std.proofs.Common.{◌≡◌, ◌∙◌, ◌⊎◌, ℕ, zero, suc, ◌+◌, ◌*◌, ◌<◌, ◌≤◌, List, [], ◌∷◌, ◌++◌, Option, None, MatchOption, false, length, length-append, take, drop, take-append-drop, refl, sym, ap, ap₂, subst, inl, inr, All, mul-add, arith}
use Rattle.std.specs.List.{AllByRecursion, IsDistinct}
use Rattle.std.proofs.Math.Dec.{eqb}
use Rattle.std.proofs.lemmas.Bool.{cases_eq, cases_lt, ne_eqb}
use Rattle.std.proofs.lemmas.List.{length-map, length-take}
use Rattle.std.proofs.lemmas.Map.Steps.{length-le_from_distinct_below}
use Rattle.std.proofs.lemmas.Option.{get_or_from_slice_get, slice_get_within}
use Rattle.psy_base.specs.declared.edge.Edge.{Edge}
use Rattle.psy_base.specs.Paths.{IsPathFrom, weight_of, length_of}
use Rattle.psy_rate.specs.Followed.{IsChosen, IsFollowed, IsLoop, IsRound, IsSteeper}
use Rattle.psy_rate.specs.Lines.{end_of}
use Rattle.psy_rate.specs.declared.line.TheConstants.{SCALE}
use Rattle.psy_rate.proofs.Cuts.{starts, starts_below}
use Rattle.psy_window.specs.Windows.{IsEdge}

-- What holds where nothing is answered
pub at_none : {X : Type 0} (result : Option X) (A : Type 0) (B : X → Type 0) → result ≡ None → A → MatchOption result A B
at_none result A B is holds = subst (λ r. MatchOption r A B) (sym is) holds

-- ---- paths in two parts

pub end_both : (node : ℕ) (path rest : List Edge) → end_of node (path ++ rest) ≡ end_of (end_of node path) rest
end_both node [] rest = refl
end_both node (e ∷ path) rest = end_both e.to path rest

pub weight_both : (path rest : List Edge) → weight_of (path ++ rest) ≡ weight_of path + weight_of rest
weight_both [] rest = omega arith
weight_both (e ∷ path) rest = let l : weight_of (path ++ rest) ≡ weight_of path + weight_of rest = weight_both path rest in omega arith

pub length_both : (path rest : List Edge) → length_of (path ++ rest) ≡ length_of path + length_of rest
length_both [] rest = omega arith
length_both (e ∷ path) rest = let l : length_of (path ++ rest) ≡ length_of path + length_of rest = length_both path rest in omega arith

module _ (graph : List Edge) (chosen : List ℕ) where
  abbrev Follows : ℕ → List Edge → Type 0
  Follows = IsFollowed graph chosen

  pub both : (node : ℕ) (path rest : List Edge) → Follows node path → Follows (end_of node path) rest → Follows node (path ++ rest)
  both node [] rest is its = its
  both node (e ∷ path) rest is its = (is.0, both e.to path rest is.1 its)

  parts : (node : ℕ) (path rest : List Edge) → Follows node (path ++ rest) → Follows node path × Follows (end_of node path) rest
  parts node [] rest is = (tt, is)
  parts node (e ∷ path) rest is = let more = parts e.to path rest is.1 in ((is.0, more.0), more.1)

  -- ---- one path from a node

  chosen_one : (node : ℕ) (e f : Edge) → IsChosen graph chosen node e → IsChosen graph chosen node f → e ≡ f
  chosen_one node e f (number, is, its, from) (other, is', its', from') = cc

  -- The shorter is the front of the longer.
  pub front : (node : ℕ) (path longer : List Edge) → Follows node path → Follows node longer → length path ≤ length longer → (rest : List Edge) × (longer ≡ path ++ rest)
  front node [] longer is its less = (longer, refl)
  front node (e ∷ path) [] is its less = absurd (omega (arith, less))
  front node (e ∷ path) (f ∷ longer) is its less =
      let one : f ≡ e = chosen_one node f e its.0 is.0 in
      let more = front e.to path longer is.1 (subst (λ g. Follows g.to longer) one its.1) (omega (arith, less)) in
      (more.0, ap₂ (λ g rest. g ∷ rest) one more.1)

  -- Those of one length are one.
  pub same_path : (node : ℕ) (path other : List Edge) → Follows node path → Follows node other → length path ≡ length other → other ≡ path
  same_path node [] [] is its same = refl
  same_path node [] (f ∷ other) is its same = absurd (omega (arith, same))
  same_path node (e ∷ path) [] is its same = absurd (omega (arith, same))
  same_path node (e ∷ path) (f ∷ other) is its same =
      let one : f ≡ e = chosen_one node f e its.0 is.0 in
      ap₂ (λ g rest. g ∷ rest) one (same_path e.to path other is.1 (subst (λ g. Follows g.to other) one its.1) (omega (arith, same)))

  -- Where none is chosen at its end, none is longer.
  pub stops : (node at : ℕ) (path longer : List Edge) → Follows node path → end_of node path ≡ at → ((e : Edge) → IsChosen graph chosen at e → ⊥) → Follows node longer → length path < length longer → ⊥
  stops node at path longer is there none its less =
      let (rest, same) = front node path longer is its (omega (arith, less)) in
      by rest (omega (arith, less, ap length same, length-append path rest)) (subst (λ n. Follows n rest) there (parts node path rest (subst (Follows node) same its)).1)
    where
      by : (rest : List Edge) → 1 ≤ length rest → Follows at rest → ⊥
      by [] some follows = absurd (omega (arith, some))
      by (e ∷ rest) some follows = none e follows.0

  -- ---- loops

  -- Begun an edge later
  turned : (node : ℕ) (e : Edge) (path : List Edge) → IsLoop graph chosen node (e ∷ path) → IsLoop graph chosen e.to (path ++ e ∷ [])
  turned node e path loop = record {
    followed = both e.to path (e ∷ []) loop.followed.1 (subst (λ n. IsChosen graph chosen n e) (sym loop.back) loop.followed.0, tt);
    some = omega (arith, length-append path (e ∷ []));
    back = end_both e.to path (e ∷ []);
  }

  -- The same loop from a node to which chosen edges lead
  record IsTurned (at : ℕ) (path : List Edge) : Type 0 where
    other : List Edge
    loop : IsLoop graph chosen at other
    count : length other ≡ length path
    weighs : weight_of other ≡ weight_of path
    lasts : length_of other ≡ length_of path

  turn : (node at : ℕ) (path way : List Edge) → IsLoop graph chosen node path → Follows node way → end_of node way ≡ at → IsTurned at path
  turn node at path [] loop leads there = record { other = path; loop = subst (λ n. IsLoop graph chosen n path) there loop; count = refl; weighs = refl; lasts = refl }
  turn node at [] (e ∷ way) loop leads there = absurd (omega (arith, loop.some))
  turn node at (f ∷ path) (e ∷ way) loop leads there =
      let one : f ≡ e = chosen_one node f e loop.followed.0 leads.0 in
      let on = turn e.to at (path ++ f ∷ []) way (subst (λ g. IsLoop graph chosen g.to (path ++ f ∷ [])) one (turned node f path loop)) leads.1 there in
      record {
        other = on.other;
        loop = on.loop;
        count = omega (arith, on.count, length-append path (f ∷ []));
        weighs = omega (arith, on.weighs, weight_both path (f ∷ []));
        lasts = omega (arith, on.lasts, length_both path (f ∷ []));
      }

  -- From wherever chosen edges lead on a loop, they lead back.
  home : (node : ℕ) (path way : List Edge) → IsLoop graph chosen node path → Follows node way → (on : List Edge) × Follows (end_of node way) on × (end_of (end_of node way) on ≡ node)
  home node path [] loop leads = ([], tt, refl)
  home node [] (e ∷ way) loop leads = absurd (omega (arith, loop.some))
  home node (f ∷ path) (e ∷ way) loop leads =
      let one : f ≡ e = chosen_one node f e loop.followed.0 leads.0 in
      let (on, follows, there) = home e.to (path ++ f ∷ []) way (subst (λ g. IsLoop graph chosen g.to (path ++ f ∷ [])) one (turned node f path loop)) leads.1 in
      let rest : Follows e.to path = subst (λ g. Follows g.to path) one loop.followed.1 in
      let ends : end_of e.to path ≡ node = subst (λ g. end_of g.to path ≡ node) one loop.back in
      (on ++ path, both (end_of e.to way) on path follows (subst (λ n. Follows n path) (sym there) rest), end_both (end_of e.to way) on path ∙ ap (λ n. end_of n path) there ∙ ends)

  -- Where a round isn't steeper than a rate, no loop from its node is.
  level : (node rate : ℕ) (round : List Edge) → IsRound graph chosen node round → SCALE * weight_of round ≤ rate * length_of round → (most : ℕ) (path : List Edge) → length path ≤ most → Follows node path → end_of node path ≡ node
      → SCALE * weight_of path ≤ rate * length_of path
  level node rate round is flat most [] less follows back = omega arith
  level node rate round is flat zero (e ∷ path) less follows back = absurd (omega (arith, less))
  level node rate round is flat (suc most) (e ∷ path) less follows back =
      let loop : IsLoop graph chosen node (e ∷ path) = record { followed = follows; some = omega arith; back = back } in
      let (rest, same) = front node round (e ∷ path) is.loop.followed follows (is.first (e ∷ path) loop) in
      let its : Follows node rest = subst (λ n. Follows n rest) is.loop.back (parts node round rest (subst (Follows node) same follows)).1 in
      let ends : end_of node rest ≡ node = sym (ap (λ n. end_of n rest) is.loop.back) ∙ sym (end_both node round rest) ∙ sym (ap (end_of node) same) ∙ back in
      let shorter : length rest ≤ most = omega (arith, less, is.loop.some, ap length same, length-append round rest) in
      let behind : SCALE * weight_of rest ≤ rate * length_of rest = level node rate round is flat most rest shorter its ends in
      let weighs : weight_of (e ∷ path) ≡ weight_of round + weight_of rest = ap weight_of same ∙ weight_both round rest in
      let lasts : rate * length_of (e ∷ path) ≡ rate * length_of round + rate * length_of rest = ap (λ n. rate * n) (ap length_of same ∙ length_both round rest) ∙ mul-add rate (length_of round) (length_of rest) in
      omega (arith, flat, behind, weighs, lasts)

  -- ---- how far chosen edges lead

  -- A loop can be gone round as often as one likes.
  on_and_on : (node : ℕ) (path : List Edge) → IsLoop graph chosen node path → (count : ℕ) → (long : List Edge) × Follows node long × (count ≤ length long)
  on_and_on node path loop zero = ([], tt, omega arith)
  on_and_on node path loop (suc count) =
      let (long, follows, many) = on_and_on node path loop count in
      (path ++ long, both node path long loop.followed (subst (λ n. Follows n long) (sym loop.back) follows), omega (arith, many, loop.some, length-append path long))

  -- So from a node from which they lead to a loop, they lead on for any number of edges.
  pub goes_on : (from : ℕ) (before path : List Edge) → Follows from before → IsLoop graph chosen (end_of from before) path → (count : ℕ) → (way : List Edge) × Follows from way × (length way ≡ count)
  goes_on from before path leads loop count =
      let (long, follows, many) = on_and_on (end_of from before) path loop count in
      let all : Follows from (before ++ long) = both from before long leads follows in
      let split : take count (before ++ long) ++ drop count (before ++ long) ≡ before ++ long = take-append-drop count (before ++ long) in (
        take count (before ++ long),
        (parts from (take count (before ++ long)) (drop count (before ++ long)) (subst (Follows from) (sym split) all)).0,
        omega (arith, many, length-append before long, length-take count (before ++ long)),
      )

  -- ---- where they must come back

  pub is_path : (node : ℕ) (path : List Edge) → Follows node path → IsPathFrom graph node path
  is_path node [] is = tt
  is_path node (e ∷ path) ((number, has, at, from), is) = ((number, slice_get_within graph number e at, get_or_from_slice_get graph number e e at), from, is_path e.to path is)

  -- A path comes to a node, or no edge of it begins there.
  record ComesTo (at node : ℕ) (path : List Edge) : Type 0 where
    before : List Edge
    after : List Edge
    parts : path ≡ before ++ after
    there : end_of node before ≡ at
    some : 1 ≤ length after

  comes_to : (at node : ℕ) (path : List Edge) → Follows node path → ComesTo at node path ⊎ AllByRecursion (λ start. eqb at start ≡ false) (starts path)
  comes_to at node [] is = inr tt
  comes_to at node (e ∷ path) is = elim (cases_eq at e.from) [
    | inl here ↦ inl (record { before = []; after = e ∷ path; parts = refl; there = sym is.0.3 ∙ sym here; some = omega arith })
    | inr other ↦ elim (comes_to at e.to path is.1) [
      | inl later ↦ inl (record { before = e ∷ later.before; after = later.after; parts = ap (λ rest. e ∷ rest) later.parts; there = later.there; some = later.some })
      | inr none ↦ inr (ne_eqb at e.from other, none)
    ]
  ]

  -- A path that goes round a loop, and on
  pub record GoesRound (node : ℕ) (path : List Edge) : Type 0 where
    pub before : List Edge
    pub loop : List Edge
    pub after : List Edge
    pub parts : path ≡ before ++ (loop ++ after)
    pub back : end_of (end_of node before) loop ≡ end_of node before
    pub some : 1 ≤ length loop
    pub more : 1 ≤ length after

  goes_round : (node : ℕ) (path : List Edge) → Follows node path → GoesRound node path ⊎ IsDistinct eqb (starts path)
  unfolding IsDistinct
  goes_round node [] is = inr tt
  goes_round node (e ∷ path) is = elim (goes_round e.to path is.1) [
    | inl round ↦ inl (record {
      before = e ∷ round.before;
      loop = round.loop;
      after = round.after;
      parts = ap (λ rest. e ∷ rest) round.parts;
      back = round.back;
      some = round.some;
      more = round.more;
    })
    | inr distinct ↦ elim (comes_to e.from e.to path is.1) [
      | inl again ↦ inl (record {
        before = [];
        loop = e ∷ again.before;
        after = again.after;
        parts = ap (λ rest. e ∷ rest) again.parts;
        back = again.there ∙ is.0.3;
        some = omega arith;
        more = again.some;
      })
      | inr none ↦ inr (none, distinct)
    ]
  ]

  -- One of more edges than there are nodes does.
  must_go_round : (nodes node : ℕ) (path : List Edge) → All (IsEdge nodes) graph → Follows node path → nodes < length path → GoesRound node path
  must_go_round nodes node path edges is long = elim (goes_round node path is) [
    | inl found ↦ found
    | inr distinct ↦ (
        let few : length (starts path) ≤ nodes = length-le_from_distinct_below (starts path) nodes distinct (starts_below graph nodes node path edges (is_path node path is)) in
        absurd (omega (arith, few, long, length-map path (λ e. e.from))))
  ]

  module _ (nodes from start rate : ℕ) (way path : List Edge) (leads : Follows from way) (many : length way ≡ nodes) (there : end_of from way ≡ start)
      (steeper : IsSteeper graph chosen from rate path) where
    -- After as many chosen edges as there are nodes one is on a loop of no more edges.
    pub loop_near : All (IsEdge nodes) graph → (loop : List Edge) × IsLoop graph chosen start loop × (length loop ≤ nodes)
    loop_near edges =
        let (longer, follows, count) = goes_on from steeper.before path steeper.leads steeper.loop (nodes + 1) in
        let round = must_go_round nodes from longer edges follows (omega (arith, count)) in
        let whole = parts from round.before (round.loop ++ round.after) (subst (Follows from) round.parts follows) in
        let rest = parts (end_of from round.before) round.loop round.after whole.1 in
        let loop : IsLoop graph chosen (end_of from round.before) round.loop = record { followed = rest.0; some = round.some; back = round.back } in
        let lengths : length longer ≡ length round.before + (length round.loop + length round.after) =
        ap length round.parts ∙ length-append round.before (round.loop ++ round.after) ∙ ap (λ n. length round.before + n) (length-append round.loop round.after) in
        let (on, same) = front from round.before way whole.0 leads (omega (arith, lengths, count, many, round.some, round.more)) in
        let ends : end_of (end_of from round.before) on ≡ start = sym (end_both from round.before on) ∙ sym (ap (end_of from) same) ∙ there in
        let its = turn (end_of from round.before) start round.loop on loop (parts from round.before on (subst (Follows from) same leads)).1 ends in
        (its.other, its.loop, omega (arith, its.count, lengths, count, round.more))

    -- The loop to which they lead from there is the steeper one, turned; so the round isn't level.
    pub not_level : (round : List Edge) → IsRound graph chosen start round → SCALE * weight_of round ≤ rate * length_of round → ⊥
    not_level round is flat =
        let (on, follows, ends) = way_on in
        let its = turn (end_of from steeper.before) start path on steeper.loop follows ends in
        let below : SCALE * weight_of its.other ≤ rate * length_of its.other = level start rate round is flat (length its.other) its.other (omega arith) its.loop.followed its.loop.back in
        let lasts : rate * length_of its.other ≡ rate * length_of path = ap (λ n. rate * n) its.lasts in
        absurd (omega (arith, below, steeper.passes, its.weighs, lasts))
      where
        way_on : (on : List Edge) × Follows (end_of from steeper.before) on × (end_of (end_of from steeper.before) on ≡ start)
        way_on = elim (cases_lt (length way) (length steeper.before)) [
          | inr near ↦ (
              let (on, same) = front from steeper.before way steeper.leads leads (omega (arith, near)) in
              (on, (parts from steeper.before on (subst (Follows from) same leads)).1, sym (end_both from steeper.before on) ∙ sym (ap (end_of from) same) ∙ there))
          | inl far ↦ (
              let (on, same) = front from way steeper.before leads steeper.leads (omega (arith, far)) in
              let follows : Follows start on = subst (λ n. Follows n on) there (parts from way on (subst (Follows from) same steeper.leads)).1 in
              let ends : end_of start on ≡ end_of from steeper.before = sym (ap (λ n. end_of n on) there) ∙ sym (end_both from way on) ∙ sym (ap (end_of from) same) in
              let (back, leads_back, is_start) = home start round on is.loop follows in
              (back, subst (λ n. Follows n back) ends leads_back, subst (λ n. end_of n back ≡ start) ends is_start))
        ]
