-- What is left of the proof of `flow::most_sends`.
use Rattle.std.proofs.Common.{Some, [], sym, ap, subst, ◌∙◌, arith}
use Rattle.psy_meaning.specs.Rest.{rest}
use Rattle.psy_flow.specs.declared.gauge.Gauge.TheVariants as gauge
use Rattle.psy_meaning.specs.Flow.{IsMostSends}
use Rattle.psy_flow.specs.Tops.{called, capped_tops, pieces_tops}
use Rattle.psy_flow.proofs.NextPoints.{points_of}
use Rattle.psy_flow.proofs.Silent.{most_of_tops}
use Rattle.psy_flow.proofs.flow.most_sends.Goals as goal

pub tops_from-tops-requires : goal.tops_from-tops-requires
tops_from-tops-requires c =
    let (unit, number, its) = c.requires.text in
    rw c.as_slice.ensures (omega (arith, points_of unit number c.args.agent.now its (c.known.ensures unit number c.args.agent.now its), c.requires.point))

pub returns : goal.returns
returns c unit number its =
    let g = gauge.Sends c.args.stream in
    subst (IsMostSends unit.functions c.args.agent.now c.args.point c.args.to c.args.stream) (sym c.unwrap_or.ensures)
    (most_of_tops unit number c.args.agent.now (c.known.ensures unit number c.args.agent.now its) c.args.point c.args.to c.args.stream c.tops_from-tops.result
    (c.tops_from-tops.ensures ∙ ap (λ stmts. capped_tops g (pieces_tops g (Some c.args.to) (called []) (rest stmts c.args.point))) c.as_slice.ensures))
