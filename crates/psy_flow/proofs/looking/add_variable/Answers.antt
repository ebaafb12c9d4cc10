-- What is left of the proof of `looking::add_variable`.
use Rattle.std.proofs.Common.{◌+◌, ℕ, List, None, [], get_or, sym, subst, arith}
use Rattle.std.specs.Prelude.{nat_lt}
use Rattle.psy_meaning.specs.Flow.{MayLook}
use Rattle.psy_flow.specs.declared.gauge.Gauge.TheVariants as gauge
use Rattle.psy_flow.specs.Costs.{AreCounts}
use Rattle.psy_flow.specs.Listed.{AreLooksBelow, if_so}
use Rattle.psy_flow.specs.Tops.{called}
use Rattle.psy_flow.proofs.Longer.{longer_are, same_are}
use Rattle.psy_flow.proofs.NextPoints.{points_of}
use Rattle.psy_flow.proofs.NumbersBelow.{one_more, without}
use Rattle.psy_flow.proofs.WaysCounted.{told_looks}
use Rattle.psy_flow.proofs.looking.add_variable.Goals as goal

pub returns-then-not-looked-clause-looks : goal.returns-then-not-looked-clause-looks
returns-then-not-looked-clause-looks c unit number its before =
    let agent = c.args.agent.now in
    let variable = c.args.variable in
    same_are agent (λ point. AreLooksBelow unit.functions agent point variable) (λ point. AreLooksBelow unit.functions agent point (variable + 1)) c.args.lists.now
    (λ point list less was. without (MayLook unit.functions agent point) variable list was (c.requires.looked c.if-not-looked.true unit number point its)) before

pub add_where-requires : goal.add_where-requires
add_where-requires c =
    let (unit, number, its) = c.requires.text in
    let agent = c.args.agent.now in
    let known = c.known.ensures unit number agent its in
    let are = subst (λ stmts. AreCounts (gauge.Looks c.args.variable) None (called []) stmts c.in_ok-counts.counts) c.as_slice.ensures c.in_ok-counts.ensures in
    rw c.as_slice-2.ensures (omega (arith, c.requires.count, are.count, points_of unit number agent its known))

pub returns-clause-looks : goal.returns-clause-looks
returns-clause-looks c unit number its before =
    let agent = c.args.agent.now in
    let variable = c.args.variable in
    let known = c.known.ensures unit number agent its in
    let read : List ℕ = c.as_slice-2.result.now in
    let own = subst (λ stmts. AreCounts (gauge.Looks variable) None (called []) stmts c.in_ok-counts.counts) c.as_slice.ensures c.in_ok-counts.ensures in
    let are : AreCounts (gauge.Looks variable) None (called []) agent.stmts read = subst (AreCounts (gauge.Looks variable) None (called []) agent.stmts) (sym c.as_slice-2.ensures) own in
    longer_are agent (λ point. if_so (nat_lt 0 (get_or read point 0)) variable) (λ point. AreLooksBelow unit.functions agent point variable)
    (λ point. AreLooksBelow unit.functions agent point (variable + 1)) c.args.lists.now c.add_where.new.lists c.in_ok-add_where.ensures.longer
    (λ point list less was. one_more (MayLook unit.functions agent point) variable list (nat_lt 0 (get_or read point 0)) was (told_looks unit number agent its known read point less variable are)) before
