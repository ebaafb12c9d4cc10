-- What is left of the proof of `read::read_claims`.
use Rattle.std.proofs.Common.{◌≡◌, ◌+◌, Err, ap, arith}
use Rattle.psy_claims.specs.declared.fault.ClaimFault.TheVariants.{Line}
use Rattle.psy_text.specs.Lines.{lines_of}
use Rattle.psy_claims.proofs.LinesSaid.{said_on, said_all, wrong_on, wrong_here}
use Rattle.psy_claims.proofs.read.read_claims.Goals as goal

pub returns-in-Err-clause-wrong : goal.returns-in-Err-clause-wrong
returns-in-Err-clause-wrong c notes variables streams line slip e =
    let fault : c.in-Err.fault ≡ Line line slip = cc in
    let is = c.in-Err.ensures.wrong notes variables streams line slip (ap Err fault) in
    wrong_here notes (c.each.number + 1) line _ (lines_of c.in-Some.cut.rest.now) _ _ slip c.in-Some.ensures.0 (c.each.invariant.wrong notes variables streams) is.0 is.1

pub each-preserved : goal.each-preserved
each-preserved c = record {
  room = omega (arith, c.each.invariant.room, c.in-Some.ensures.1);
  say =
      λ notes variables streams.
      rw c.in_ok-add.ensures
      (said_on notes (c.each.number + 1) _ (lines_of c.in-Some.cut.rest.now) _ _ _ _ c.in-Some.ensures.0 (c.each.invariant.say notes variables streams) (c.in-Ok.ensures.says notes variables streams));
  wrong =
      λ notes variables streams.
      wrong_on notes (c.each.number + 1) _ (lines_of c.in-Some.cut.rest.now) _ _ _ c.in-Some.ensures.0 (c.each.invariant.wrong notes variables streams)
      (c.in-Ok.ensures.says notes variables streams);
}

pub returns-clause-say : goal.returns-clause-say
returns-clause-say c notes variables streams =
    said_all notes (c.each.number + 1) _ _ _ c.in_default.ensures (c.each.invariant.say notes variables streams)
