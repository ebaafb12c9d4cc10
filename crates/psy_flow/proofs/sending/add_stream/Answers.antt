-- What is left of the proof of `sending::add_stream`.
use Rattle.std.proofs.Common.{◌≡◌, ◌+◌, ℕ, List, Some, [], get_or, inl, inr, refl, sym, subst, arith}
use Rattle.std.proofs.lemmas.Bool.{cases_lt}
use Rattle.psy_meaning.specs.Flow.{IsMostSends}
use Rattle.psy_flow.specs.declared.gauge.Gauge.TheVariants as gauge
use Rattle.psy_flow.specs.Costs.{AreCounts}
use Rattle.psy_flow.specs.Listed.{AreSendsUpTo, some_way}
use Rattle.psy_flow.specs.Tops.{called}
use Rattle.psy_flow.proofs.Cuts.{one_most}
use Rattle.psy_flow.proofs.Longer.{longer_are, same_are}
use Rattle.psy_flow.proofs.NextPoints.{points_of}
use Rattle.psy_flow.proofs.SendsUpTo.{sends_more, without}
use Rattle.psy_flow.proofs.WaysCounted.{told_sends}
use Rattle.psy_flow.proofs.sending.add_stream.Goals as goal

pub returns-then-not-sent-clause-sends : goal.returns-then-not-sent-clause-sends
returns-then-not-sent-clause-sends c unit number its before =
    let agent = c.args.agent.now in
    let to = c.args.to in
    let stream = c.args.stream in
    let none : (point n : ℕ) → IsMostSends unit.functions agent point to stream n → n ≡ 0 = λ point n has. elim (cases_lt 0 n) [
      | inl some ↦ absurd (c.requires.sent c.if-not-sent.true unit number point (record { to = to; stream = stream; most = n }) its (has, omega (arith, some)) refl)
      | inr not ↦ omega (arith, not)
    ] in
    same_are agent (λ point. AreSendsUpTo (IsMostSends unit.functions agent point) to stream) (λ point. AreSendsUpTo (IsMostSends unit.functions agent point) to (stream + 1)) c.args.lists.now
    (λ point list less was. without (IsMostSends unit.functions agent point) (one_most unit.functions agent point) to stream list was (none point)) before

pub add_where-requires : goal.add_where-requires
add_where-requires c =
    let (unit, number, its) = c.requires.text in
    let agent = c.args.agent.now in
    let known = c.known.ensures unit number agent its in
    let are = subst (λ stmts. AreCounts (gauge.Sends c.args.stream) (Some c.args.to) (called []) stmts c.in_ok-counts.counts) c.as_slice.ensures c.in_ok-counts.ensures in
    rw c.as_slice-2.ensures (omega (arith, c.requires.count, are.count, points_of unit number agent its known))

pub returns-clause-sends : goal.returns-clause-sends
returns-clause-sends c unit number its before =
    let agent = c.args.agent.now in
    let to = c.args.to in
    let stream = c.args.stream in
    let known = c.known.ensures unit number agent its in
    let read : List ℕ = c.as_slice-2.result.now in
    let own = subst (λ stmts. AreCounts (gauge.Sends stream) (Some to) (called []) stmts c.in_ok-counts.counts) c.as_slice.ensures c.in_ok-counts.ensures in
    let are : AreCounts (gauge.Sends stream) (Some to) (called []) agent.stmts read = subst (AreCounts (gauge.Sends stream) (Some to) (called []) agent.stmts) (sym c.as_slice-2.ensures) own in
    longer_are agent (λ point. some_way (record { to = to; stream = stream; most = get_or read point 0 })) (λ point. AreSendsUpTo (IsMostSends unit.functions agent point) to stream)
    (λ point. AreSendsUpTo (IsMostSends unit.functions agent point) to (stream + 1)) c.args.lists.now c.add_where.new.lists c.in_ok-add_where.ensures.longer
    (λ point list less was. sends_more (IsMostSends unit.functions agent point) (one_most unit.functions agent point) to stream (get_or read point 0) list was
    (told_sends unit number agent its known read point less to stream are)) before
