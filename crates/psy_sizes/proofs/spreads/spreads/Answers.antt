-- What is left of the proof of `spreads::spreads`.
use Rattle.std.proofs.Common.{◌≡◌, ◌⊎◌, ◌+◌, ◌<◌, Err, IfErr, length, refl, sym, subst, inl, inr, add-one, arith, rules}
use Rattle.psy_meaning.specs.KnownWays.{Listed}
use Rattle.psy_meaning.specs.QueueSizes.{IsSpreadBelow, PassesTable}
use Rattle.psy_meaning.specs.RingSizes.{agent_timing}
use Rattle.psy_sizes.specs.declared.fault.SizeFault.{SizeFault}
use Rattle.psy_sizes.specs.declared.fault.SizeFault.TheVariants.{Cells, Memory}
use Rattle.psy_sizes.proofs.ReadLists.{graph_read}
use Rattle.psy_sizes.proofs.SpreadOf.{none_more, none_passed, one_passed}
use Rattle.psy_sizes.proofs.spreads.spreads.Goals as goal

pub spread_by-requires-clause-graph : goal.spread_by-requires-clause-graph
spread_by-requires-clause-graph c = graph_read c.args.unit.now c.args.ways.now.nexts c.args.graphs.now c.agents.number c.index-graphs-number.result c.requires.graphs c.agents-test.true c.index-graphs-number.is

pub spread_by-requires-clause-edges : goal.spread_by-requires-clause-edges
spread_by-requires-clause-edges c =
    let unit = c.args.unit.now in
    let ways = c.args.ways.now in
    let number = c.agents.number in
    let graph = c.index-graphs-number.result in
    let less : number < length unit.agents = omega (arith, c.agents-test.true, c.agents.auto.number-end, c.requires.graphs.count) in
    let its = graph_read unit ways.nexts c.args.graphs.now number graph c.requires.graphs c.agents-test.true c.index-graphs-number.is in
    c.one_graph.ensures.fit (agent_timing unit ways.nexts number) graph (c.one_graph.ensures.timed unit ways number c.requires.bare c.requires.ways less) its.0

pub returns-in_err-sum-clause-cause : goal.returns-in_err-sum-clause-cause
returns-in_err-sum-clause-cause c =
    let unit = c.args.unit.now in
    let stream = c.args.stream in
    let ways = c.args.ways.now in
    let fault = c.in_err-sum.field-0.0 in
    let number = c.agents.number in
    let Q : SizeFault → Type 0 = λ f. (f ≡ Memory) ⊎ ((f ≡ Cells stream) × PassesTable unit (Listed ways) ways.nexts stream) in
    let less : number < length unit.agents = omega (arith, c.agents-test.true, c.agents.auto.number-end, c.requires.graphs.count) in
    let is : Q fault = elim c.in_err-sum.ensures.cause [
      | inl memory ↦ inl memory
      | inr (is_cells, passes) ↦ inr (is_cells, one_passed unit (Listed ways) ways.nexts stream number less passes)
    ] in
    let e : c.from_residual.result ≡ Err fault = search rules in
    subst (λ r. IfErr r Q) (sym e) is

pub agents-preserved : goal.agents-preserved
agents-preserved c =
    let unit = c.args.unit.now in
    let stream = c.args.stream in
    let k = c.agents.number in
    let sum = c.agents.sum in
    let more = c.in_ok-sum.field-0 in
    let kept = c.agents.invariant in
    let ways = c.args.ways.now in
    record {
      spreads = λ window is. subst (λ m. IsSpreadBelow unit (Listed ways) ways.nexts stream window m (sum + more)) (sym (add-one k)) (sum, more, kept.spreads window is, c.in_ok-sum.ensures.spread window is, refl);
      small = omega (arith, kept.small, c.in_ok-sum.ensures.small);
      counted = none_more unit (Listed ways) ways.nexts stream k kept.counted c.in_ok-sum.ensures.counted;
    }

pub returns-clause-spreads : goal.returns-clause-spreads
returns-clause-spreads c window is =
    let unit = c.args.unit.now in
    let all : c.agents.number ≡ length unit.agents = omega (arith, c.agents-test.false, c.agents.auto.number-end, c.requires.graphs.count) in
    subst (λ k. IsSpreadBelow unit (Listed c.args.ways.now) c.args.ways.now.nexts c.args.stream window k c.agents.sum) all (c.agents.invariant.spreads window is)

pub returns-clause-counted : goal.returns-clause-counted
returns-clause-counted c =
    let unit = c.args.unit.now in
    none_passed unit (Listed c.args.ways.now) c.args.ways.now.nexts c.args.stream
    (λ agent less. c.agents.invariant.counted agent (omega (arith, less, c.agents-test.false, c.agents.auto.number-end, c.requires.graphs.count)))
