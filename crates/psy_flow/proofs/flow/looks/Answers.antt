-- What is left of the proof of `flow::looks`.
use Rattle.std.proofs.Common.{◌≡◌, true, None, [], sym, ap, subst, ◌∙◌, arith}
use Rattle.std.specs.Prelude.{◌↔◌, nat_lt}
use Rattle.psy_meaning.specs.Rest.{rest}
use Rattle.psy_flow.specs.declared.gauge.Gauge.TheVariants as gauge
use Rattle.psy_meaning.specs.Flow.{MayLook}
use Rattle.psy_flow.specs.Tops.{called, capped_tops, pieces_tops}
use Rattle.psy_flow.proofs.NextPoints.{points_of}
use Rattle.psy_flow.proofs.Silent.{looks_of_tops}
use Rattle.psy_flow.proofs.flow.looks.Goals as goal

pub tops_from-tops-requires : goal.tops_from-tops-requires
tops_from-tops-requires c =
    let (unit, number, its) = c.requires.text in
    rw c.as_slice.ensures (omega (arith, points_of unit number c.args.agent.now its (c.known.ensures unit number c.args.agent.now its), c.requires.point))

pub returns : goal.returns
returns c unit number its =
    let g = gauge.Looks c.args.variable in
    subst (λ n. (nat_lt 0 n ≡ true) ↔ MayLook unit.functions c.args.agent.now c.args.point c.args.variable) (sym c.unwrap_or.ensures)
    (looks_of_tops unit number c.args.agent.now (c.known.ensures unit number c.args.agent.now its) c.args.point c.args.variable c.tops_from-tops.result
    (c.tops_from-tops.ensures ∙ ap (λ stmts. capped_tops g (pieces_tops g None (called []) (rest stmts c.args.point))) c.as_slice.ensures))
