-- What is known of the lists of a program's ways: how many there are, and that they name what there is.
use Rattle.std.proofs.Common.{◌≡◌, ℕ, ◌<◌, ◌≤◌, ◌==◌, Bool, true, List, [], length, get_or, refl, sym, subst, ◌∙◌, inl, inr, arith}
use Rattle.std.specs.List.{All, Contains, list_any}
use Rattle.std.proofs.lemmas.Bool.{cases_lt, eqb-true}
use Rattle.std.proofs.lemmas.List.{get_or_default, get_or_past}
use Rattle.std.proofs.lemmas.List.Elements.{All-contains, All-nil, All-weaker}
use Rattle.std.proofs.lemmas.List.Folds.{Any-from_list_any}
use Rattle.std.proofs.lemmas.Option.{slice_get_read}
use Rattle.psy_base.specs.declared.limits.TheConstants.{SENDS}
use Rattle.psy_base.specs.declared.ways.SendWay.{SendWay}
use Rattle.psy_base.specs.declared.ways.Ways.{Ways as WayLists}
use Rattle.psy_tree.specs.declared.unit.Unit.{Unit as Whole}
use Rattle.psy_tree.specs.Parts.{agent_at}
use Rattle.psy_meaning.specs.KnownWays.{Listed, sends_to}
use Rattle.psy_meaning.specs.ListedWays.{AreLooksFor, AreNextsFor, AreSendsFor, AreWaysFor, IsSendWayFor}
use Rattle.psy_meaning.specs.QueueSizes.{PassesTable}
use Rattle.psy_meaning.proofs.lemmas.ByPoint.{agents_count, at_point, points_count}
use Rattle.psy_graph.specs.declared.graph.Graph.{Graph}
use Rattle.psy_graph.specs.Graphs.{AreGraphsBy, HasGraphBy}
use Rattle.psy_sizes.specs.Sending.{AreCut}

module _ (unit : Whole) (ways : WayLists) (are : AreWaysFor unit ways) (agent : ℕ) (less : agent < length unit.agents) where
  abbrev Nexts : ℕ → ℕ → List ℕ → Type 0
  Nexts a point = AreNextsFor (agent_at unit a)

  abbrev Looks : ℕ → ℕ → List ℕ → Type 0
  Looks a point = AreLooksFor unit

  abbrev Sends : ℕ → ℕ → List SendWay → Type 0
  Sends a point = AreSendsFor unit (get_or (get_or ways.nexts a []) point [])

  pub nexts_agent : agent < length ways.nexts
  nexts_agent = omega (arith, less, agents_count unit Nexts ways.nexts are.nexts)

  pub nexts_points : length (get_or ways.nexts agent []) ≡ length (agent_at unit agent).points
  nexts_points = points_count unit Nexts ways.nexts are.nexts agent less

  pub looks_agent : agent < length ways.looks
  looks_agent = omega (arith, less, agents_count unit Looks ways.looks are.looks)

  pub looks_points : length (get_or ways.looks agent []) ≡ length (agent_at unit agent).points
  looks_points = points_count unit Looks ways.looks are.looks agent less

  pub sends_agent : agent < length ways.sends
  sends_agent = omega (arith, less, agents_count unit Sends ways.sends are.sends)

  pub sends_points : length (get_or ways.sends agent []) ≡ length (agent_at unit agent).points
  sends_points = points_count unit Sends ways.sends are.sends agent less

  abbrev own : ℕ → List SendWay
  own point = get_or (get_or ways.sends agent []) point []

  sends_are : (point : ℕ) → point < length (agent_at unit agent).points → All (IsSendWayFor unit (get_or (get_or ways.nexts agent []) point [])) (own point)
  sends_are point inside = (at_point unit Sends ways.sends are.sends agent point less inside).known

  pub cut : AreCut ways agent
  cut point = elim (cases_lt point (length (agent_at unit agent).points)) [
    | inl inside ↦ All-weaker (IsSendWayFor unit (get_or (get_or ways.nexts agent []) point [])) (λ w. w.most ≤ SENDS) (λ w is. is.cut) (own point) (sends_are point inside)
    | inr past ↦ subst (All (λ w. w.most ≤ SENDS)) (sym (get_or_past (get_or ways.sends agent []) point [] (omega (arith, past, sends_points)))) (All-nil (λ w. w.most ≤ SENDS))
  ]

  -- A stream to which the agent sends is there.
  pub stream_there : (stream : ℕ) → sends_to (Listed ways) agent stream ≡ true → stream < length unit.streams
  stream_there stream sent =
      let test : SendWay → Bool = λ way. way.stream == stream in
      let (from, list, within, at, passes) = Any-from_list_any (list_any test) (get_or ways.sends agent []) sent in
      let (k, way, inside, is, same) = Any-from_list_any test list passes in
      let here : list ≡ own from = sym at ∙ get_or_default (get_or ways.sends agent []) from list [] within in
      let c : Contains (own from) way = subst (λ ws. Contains ws way) here (k, inside, is) in
      let known = (All-contains (IsSendWayFor unit (get_or (get_or ways.nexts agent []) from [])) (own from) way (sends_are from (omega (arith, within, sends_points))) c).stream in
      let number : way.stream ≡ stream = eqb-true way.stream stream same in
      omega (arith, known, number)

-- So a stream with a table is there.
pub known_stream : (unit : Whole) (ways : WayLists) (nexts : List (List (List ℕ))) → AreWaysFor unit ways → (stream : ℕ) → PassesTable unit (Listed ways) nexts stream → stream < length unit.streams
known_stream unit ways nexts are stream (agent, window, spots, edges, less, sends, is, its, passes) = stream_there unit ways are agent less stream sends

-- A graph that is read by its number is that of the agent of this number.
pub graph_read : (unit : Whole) (nexts : List (List (List ℕ))) (graphs : List Graph) (number : ℕ) (graph : Graph) → AreGraphsBy unit nexts graphs → number < length graphs → graph ≡ get_or graphs number graph → HasGraphBy unit nexts number graph
graph_read unit nexts graphs number graph are less is = are.each number graph (slice_get_read graphs (length graphs) number graph refl less is)
