-- What is left of the proof of `laws::named`.
use Rattle.std.proofs.Common.{◌≡◌, ◌<◌, map, length, inl, inr, arith}
use Rattle.std.specs.Prelude.{◌==◌}
use Rattle.std.proofs.lemmas.List.{length-map}
use Rattle.std.proofs.lemmas.Option.{slice_get_within}
use Rattle.psy_meaning.specs.Flow.{IsMostSends, IsNext}
use Rattle.psy_meaning.specs.Ways.{Sending}
use Rattle.psy_flow.proofs.Silent.{counted}
use Rattle.psy_flow.proofs.laws.named.Goals as goal

pub returns-clause-looks : goal.returns-clause-looks
returns-clause-looks c unit number agent point variable its (to, met, way, look, has, is) =
    let known = c.known.ensures unit number agent its in
    let (depth, at, less) = c.named.ensures.looks unit number agent point to met look known.sound its.1 way has in
    let inside = slice_get_within (map (λ v. v.depth) unit.variables) look.variable depth at in
    omega (arith, inside, is, length-map unit.variables (λ v. v.depth))

pub returns-clause-sends : goal.returns-clause-sends
returns-clause-sends c unit number agent point way its (most, some) = by most
  where
    by : IsMostSends unit.functions agent point way.to way.stream way.most → (way.stream < length unit.streams) × IsNext unit.functions agent point way.to
    by (inl (none, zero_most)) = absurd (omega (arith, zero_most, some))
    by (inr (n, greatest, cut)) =
        let (met, goes, many) = greatest.one in
        let (send, has, is) = counted (λ (s : Sending). s.stream == way.stream) met.sends (omega (arith, many, cut, some)) in
        let known = c.known.ensures unit number agent its in
        let same : send.stream ≡ way.stream = grind (arith, is) in
        let found = c.named.ensures.sends unit number agent point way.to met send known.sound its.1 goes has in
        (omega (arith, found.0, same), (met, goes))
