-- What is left of the proof of `laws::one_graph`.
use Rattle.std.proofs.Common.{refl, sym, subst, slice_index_or}
use Rattle.std.proofs.lemmas.Option.{slice_get-get_or}
use Rattle.psy_lists.proofs.lemmas.Places.{there}
use Rattle.psy_meaning.specs.Timing.{timing_of}
use Rattle.psy_graph.proofs.ByNexts.{by_nexts, cause_of, of_text}
use Rattle.psy_graph.proofs.Causes.{same_graphs, graphs_apart, same_cause, graphs_or_cause}
use Rattle.psy_graph.specs.Graphs.{IsTimed}
use Rattle.psy_graph.proofs.EdgesKept.{edges_kept}
use Rattle.psy_graph.proofs.NearGraphs.{graph_near}
use Rattle.psy_graph.proofs.Timed.{timed, timed_for}
use Rattle.psy_graph.proofs.lemmas.Unique.{drawn_spots, drawn_edges, same_timing}
use Rattle.psy_graph.proofs.laws.one_graph.Goals as goal

pub returns-clause-same : goal.returns-clause-same
returns-clause-same c unit graphs others text = same_graphs unit graphs others

pub returns-clause-timing : goal.returns-clause-timing
returns-clause-timing c unit number timing other = same_timing unit number timing other

pub returns-clause-graph : goal.returns-clause-graph
returns-clause-graph c timing spots others edges more g h = (drawn_spots timing spots others edges more g h, drawn_edges timing spots others edges more g h)

pub returns-clause-apart : goal.returns-clause-apart
returns-clause-apart c unit graphs fault text = graphs_apart unit graphs fault

pub returns-clause-cause : goal.returns-clause-cause
returns-clause-cause c unit fault other text = same_cause unit fault other

pub returns-clause-some : goal.returns-clause-some
returns-clause-some c unit text = graphs_or_cause unit c.distances.ensures.again c.distances.ensures.late (λ number less.
    let (agent, got) = there unit.agents number less in
    let (nexts, are) = c.nexts.ensures.some unit number agent (text, got) in
    (timing_of unit agent nexts, (agent, nexts, got, are, refl), timed unit number agent nexts (text, got) are (c.known.ensures unit number agent (text, got)) (c.nexts.ensures.within unit number agent (text, got))))

pub returns-clause-edges : goal.returns-clause-edges
returns-clause-edges c unit graphs text are number d less =
    let (timing, (agent, nexts, got, follow, is), drawn, small) = are.each number (slice_index_or graphs number d) (slice_get-get_or graphs number d less) in
    let its = timed unit number agent nexts (text, got) follow (c.known.ensures unit number agent (text, got)) (c.nexts.ensures.within unit number agent (text, got)) in
    edges_kept c.distances.ensures.late timing (slice_index_or graphs number d) (subst IsTimed (sym is) its) drawn

pub returns-clause-near : goal.returns-clause-near
returns-clause-near c unit graphs text are number d less =
    let (timing, (agent, nexts, got, follow, is), drawn, small) = are.each number (slice_index_or graphs number d) (slice_get-get_or graphs number d less) in
    let its = timed unit number agent nexts (text, got) follow (c.known.ensures unit number agent (text, got)) (c.nexts.ensures.within unit number agent (text, got)) in
    graph_near c.distances.ensures.again c.distances.ensures.late c.distances.ensures.near timing (subst IsTimed (sym is) its) (slice_index_or graphs number d) drawn small

pub returns-clause-timed : goal.returns-clause-timed
returns-clause-timed c unit ways number bare are less = timed_for unit ways bare are number less

pub returns-clause-of_text : goal.returns-clause-of_text
returns-clause-of_text c unit number timing text (agent, nexts, got, follow, is) =
    subst IsTimed (sym is) (timed unit number agent nexts (text, got) follow (c.known.ensures unit number agent (text, got)) (c.nexts.ensures.within unit number agent (text, got)))

pub returns-clause-fit : goal.returns-clause-fit
returns-clause-fit c timing graph its drawn = edges_kept c.distances.ensures.late timing graph its drawn

pub returns-clause-by_nexts : goal.returns-clause-by_nexts
returns-clause-by_nexts c unit nexts graphs are = (by_nexts unit nexts are graphs, of_text unit nexts are graphs)

pub returns-clause-causes_by_nexts : goal.returns-clause-causes_by_nexts
returns-clause-causes_by_nexts c unit nexts fault are = cause_of unit nexts are fault
