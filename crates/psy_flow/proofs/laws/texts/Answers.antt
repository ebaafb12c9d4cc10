-- What is left of the proof of `laws::texts`.
use Rattle.std.proofs.Common.{◌≡◌, subst, inl, inr, arith}
use Rattle.std.specs.Prelude.{◌==◌}
use Rattle.std.specs.List.{Contains}
use Rattle.psy_lists.proofs.lemmas.Members.{contains_map}
use Rattle.psy_meaning.specs.Flow.{IsMostSends}
use Rattle.psy_meaning.specs.Ways.{Sending}
use Rattle.psy_meaning.specs.Sendings.{sendings_in}
use Rattle.psy_flow.specs.Texts.{looks_in, streams_in}
use Rattle.psy_flow.proofs.Silent.{counted, none_looked}
use Rattle.psy_flow.proofs.TextLooks.{idle_rest, there_or_not}
use Rattle.psy_flow.proofs.laws.texts.Goals as goal

pub returns-clause-looks : goal.returns-clause-looks
returns-clause-looks c unit number agent point variable its may = elim (there_or_not variable (looks_in agent.stmts)) [
  | inl there ↦ there
  | inr others ↦ absurd (none_looked unit number agent (c.known.ensures unit number agent its) point variable (idle_rest variable agent.stmts point others).to may)
]

pub returns-clause-sends : goal.returns-clause-sends
returns-clause-sends c unit number agent point way its (most, some) = by most
  where
    by : IsMostSends unit.functions agent point way.to way.stream way.most → Contains (streams_in agent.stmts) way.stream
    by (inl (none, zero_most)) = absurd (omega (arith, zero_most, some))
    by (inr (n, greatest, cut)) =
        let (met, goes, many) = greatest.one in
        let (send, has, is) = counted (λ (s : Sending). s.stream == way.stream) met.sends (omega (arith, many, cut, some)) in
        let known = c.known.ensures unit number agent its in
        let same : send.stream ≡ way.stream = grind (arith, is) in
        let there : Contains (sendings_in agent.stmts) send = c.sendings.ensures unit number agent point way.to met send known.sound its.1 goes has in
        subst (Contains (streams_in agent.stmts)) same (contains_map (λ (s : Sending). s.stream) (sendings_in agent.stmts) send there)
