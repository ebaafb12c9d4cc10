-- What is left of the proof of `spreads::spread`.
use Rattle.std.proofs.Common.{◌≡◌, ◌+◌, ◌*◌, ◌<◌, ◌≤◌, length, sym, ap, subst, inl, inr}
use Rattle.std.specs.List.{All}
use Rattle.std.proofs.lemmas.Result.{IfOk-weaker, IfErr-weaker}
use Rattle.psy_base.specs.declared.limits.TheConstants.{WINDOW_CELLS}
use Rattle.psy_base.specs.Paths.{FitsFirstFree, IsGreatestWeight}
use Rattle.psy_lists.proofs.lemmas.Results.{if_both}
use Rattle.psy_meaning.specs.KnownWays.{Listed}
use Rattle.psy_meaning.specs.RingSizes.{agent_timing}
use Rattle.psy_sizes.proofs.Actions.{nodes_within}
use Rattle.psy_sizes.proofs.ReadLists.{cut, sends_agent, sends_points}
use Rattle.psy_sizes.proofs.SpreadOf.{spread_is}
use Rattle.psy_sizes.proofs.Tables.{some_node}
use Rattle.psy_sizes.proofs.WindowOf.{table_fits, table_passes}
use Rattle.psy_sizes.proofs.spreads.spread.Goals as goal
use Rattle.psy_sizes.proofs.spreads.spread.Goals.{After-greatest}

pub send_edges-requires-clause-agent : goal.send_edges-requires-clause-agent
send_edges-requires-clause-agent c = sends_agent c.args.unit.now c.args.ways.now c.requires.ways c.args.number c.requires.number

pub send_edges-requires-clause-points : goal.send_edges-requires-clause-points
send_edges-requires-clause-points c =
    let unit = c.args.unit.now in
    let ways = c.args.ways.now in
    let number = c.args.number in
    subst (λ n. All (λ node. node.point < n) c.args.graph.now.nodes) (sym (sends_points unit ways c.requires.ways number c.requires.number))
    (nodes_within (agent_timing unit ways.nexts number) c.args.graph.now c.requires.graph.0 (c.one_graph.ensures.timed unit ways number c.requires.bare c.requires.ways c.requires.number))

pub send_edges-requires-clause-cut : goal.send_edges-requires-clause-cut
send_edges-requires-clause-cut c = cut c.args.unit.now c.args.ways.now c.requires.ways c.args.number c.requires.number

-- The table has a row for each date up to the last, and a cell in it for each node.
cells : (c : After-greatest) → c.len.result * (c.args.top + 1) ≡ length c.args.graph.now.nodes * (c.args.top + 1)
cells c = ap (λ n. n * (c.args.top + 1)) c.len.ensures

pub returns-clause-spread : goal.returns-clause-spread
returns-clause-spread c =
    let unit = c.args.unit.now in
    let ways = c.args.ways.now in
    IfOk-weaker c.greatest.result _ _ (λ n (most, fits) window is.
    spread_is unit (Listed ways) ways.nexts c.args.stream c.args.number c.args.graph.now c.requires.graph.0 c.in_ok-sent.sent window c.args.top n c.in_ok-sent.ensures.sent is c.requires.top
    (subst (λ m. m ≤ WINDOW_CELLS) (cells (goal.at.returns-clause-spread c).After-greatest) fits) (subst (λ es. IsGreatestWeight es (FitsFirstFree c.args.top) n) c.as_slice.ensures most))
    (if_both c.greatest.result _ _ c.greatest.ensures.greatest c.greatest.ensures.counted)

pub returns-clause-counted : goal.returns-clause-counted
returns-clause-counted c =
    let unit = c.args.unit.now in
    let ways = c.args.ways.now in
    let graph = c.args.graph.now in
    IfOk-weaker c.greatest.result _ _ (λ n fits window is.
    table_fits unit (Listed ways) ways.nexts c.args.stream window c.args.top (length graph.nodes) is (some_node _ graph c.requires.graph.0) c.requires.top
    (subst (λ m. m ≤ WINDOW_CELLS) (cells (goal.at.returns-clause-counted c).After-greatest) fits))
    c.greatest.ensures.counted

pub returns-clause-cause : goal.returns-clause-cause
returns-clause-cause c =
    let unit = c.args.unit.now in
    let ways = c.args.ways.now in
    let graph = c.args.graph.now in
    IfErr-weaker c.greatest.result _ _ (λ fault h. elim h [
      | inl memory ↦ inl memory
      | inr (is_cells, passes) ↦ inr (
        is_cells,
        λ window is. table_passes unit (Listed ways) ways.nexts c.args.stream window c.args.top (length graph.nodes) is (some_node _ graph c.requires.graph.0) c.requires.top
            (subst (λ m. WINDOW_CELLS < m) (cells (goal.at.returns-clause-cause c).After-greatest) passes),
      )
    ])
    c.greatest.ensures.cause
