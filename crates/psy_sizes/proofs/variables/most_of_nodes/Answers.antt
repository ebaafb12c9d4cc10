-- What is left of the proof of `variables::most_of_nodes`.
use Rattle.std.proofs.Common.{◌≡◌, ℕ, ◌+◌, ◌<◌, ◌↔◌, true, [], take, length, get_or, sym, subst, ◌∙◌, arith}
use Rattle.std.proofs.lemmas.Bool.{false≢true}
use Rattle.std.proofs.lemmas.List.{take_all}
use Rattle.psy_base.specs.Extremes.{IsMost}
use Rattle.psy_meaning.specs.KnownWays.{Listed, Looks, Ways}
use Rattle.psy_graph.specs.declared.graph.Node.{Node}
use Rattle.psy_sizes.specs.Passing.{HasDatesAt}
use Rattle.psy_sizes.proofs.Passed.{HasDatesBy, blind_by, looking_by, most_max, node_more}
use Rattle.psy_sizes.proofs.variables.most_of_nodes.Goals as goal
use Rattle.psy_sizes.proofs.variables.most_of_nodes.Goals.{then-node-point, else-node-point, then-looking, else-looking}

pub nodes-preserved : goal.nodes-preserved
nodes-preserved c =
    let ways : Ways = Listed c.args.ways.now in
    let agent = c.args.agent in
    let nodes = c.args.nodes.now in
    let i = c.nodes.node-index in
    let none : Node = record { point = 0; phase = 0; due = 0; budget = 0 } in
    let node = get_or nodes i none in
    let point : c.if-node-point.point ≡ node.point = elim c.if-node-point.branch [ then-node-point w ↦ w.point-is | else-node-point w ↦ omega (arith, w.point-is, w.if-node-point.false) ] in
    let looking : (c.if-node-point.looking ≡ true) ↔ Looks ways agent node.point c.args.variable = elim c.if-node-point.branch [
      | then-node-point w ↦ subst (λ b. (b ≡ true) ↔ Looks ways agent node.point c.args.variable) (sym w.looking-is) w.looks-looking-then-node-point.ensures
      | else-node-point w ↦ (
          let same : c.nodes.point ≡ node.point = omega (arith, w.if-node-point.false) in
          subst (λ b. (b ≡ true) ↔ Looks ways agent node.point c.args.variable) (sym w.looking-is)
          (subst (λ p. (c.nodes.looking ≡ true) ↔ Looks ways agent p c.args.variable) same c.nodes.invariant.looking)
          )
    ] in
    let inside : node.point < length (get_or c.args.ways.now.looks agent []) = c.requires.points i none c.nodes-test.true in
    record {
      point = omega (arith, point, inside);
      looking = subst (λ p. (c.if-node-point.looking ≡ true) ↔ Looks ways agent p c.args.variable) (sym point) looking;
      most = λ cycle h phases. (
          let Before : ℕ → Type 0 = HasDatesAt ways agent c.args.variable c.args.clock cycle (take i nodes) in
          let By : ℕ → Type 0 = HasDatesBy ways agent c.args.variable c.args.clock cycle node in
          let After : ℕ → Type 0 = HasDatesAt ways agent c.args.variable c.args.clock cycle (take (i + 1) nodes) in
          let old = c.nodes.invariant.most cycle h phases in
          let both = node_more ways agent c.args.variable c.args.clock cycle nodes i none c.nodes-test.true in
          elim c.if-looking.branch [
            | then-looking w ↦ most_max Before By After c.nodes.most w.most_between.result c.if-looking.most (w.most-is ∙ w.max-most.ensures) old
                (looking_by ways agent c.args.variable c.args.clock cycle node w.most_between.result (looking.0 w.if-looking.true) (w.most_between.ensures cycle h (phases i none c.nodes-test.true))) both
            | else-looking w ↦ most_max Before By After c.nodes.most 0 c.if-looking.most (w.most-is ∙ omega arith) old
                (blind_by ways agent c.args.variable c.args.clock cycle node (λ looks. false≢true (sym w.if-looking.false ∙ looking.1 looks))) both
          ]
          );
    }

pub returns : goal.returns
returns c cycle h phases =
    subst (λ nodes. IsMost (HasDatesAt (Listed c.args.ways.now) c.args.agent c.args.variable c.args.clock cycle nodes) c.nodes.most) (take_all c.nodes.node-index c.args.nodes.now c.nodes-test.false) (c.nodes.invariant.most cycle h phases)
