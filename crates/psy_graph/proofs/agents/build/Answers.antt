-- What is left of the proof of `agents::build`.
use Rattle.std.proofs.Common.{◌≡◌, ◌⊎◌, inl, inr}
use Rattle.std.proofs.lemmas.Result.{IfErr-weaker, IfOk-weaker}
use Rattle.psy_graph.specs.declared.fault.GraphFault.{GraphFault}
use Rattle.psy_graph.specs.declared.fault.GraphFault.TheVariants.{Memory}
use Rattle.psy_graph.specs.Graphs.{AreGraphs, AreGraphsBy, IsCause, IsCauseBy}
use Rattle.psy_graph.proofs.ByNexts.{cause_of, of_text}
use Rattle.psy_graph.proofs.agents.build.Goals as goal

pub build_by-requires-clause-ways : goal.build_by-requires-clause-ways
build_by-requires-clause-ways c = c.listed.ensures.known c.args.unit.now c.in_ok-ways.ways c.requires.text c.in_ok-ways.ensures

pub returns-clause-graphs : goal.returns-clause-graphs
returns-clause-graphs c =
    let unit = c.args.unit.now in
    let ways = c.in_ok-ways.ways in
    IfOk-weaker c.build_by.result (AreGraphsBy unit ways.nexts) (AreGraphs unit) (λ graphs by. of_text unit ways.nexts c.in_ok-ways.ensures.nexts graphs by) c.build_by.ensures.graphs

pub returns-clause-cause : goal.returns-clause-cause
returns-clause-cause c =
    let unit = c.args.unit.now in
    let ways = c.in_ok-ways.ways in
    let P : GraphFault → Type 0 = λ fault. (fault ≡ Memory) ⊎ IsCauseBy unit ways.nexts fault in
    let Q : GraphFault → Type 0 = λ fault. (fault ≡ Memory) ⊎ IsCause unit fault in
    IfErr-weaker c.build_by.result P Q (λ fault h. elim h [ inl memory ↦ inl memory | inr cause ↦ inr (cause_of unit ways.nexts c.in_ok-ways.ensures.nexts fault cause) ]) c.build_by.ensures.cause
