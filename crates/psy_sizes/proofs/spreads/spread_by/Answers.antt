-- What is left of the proof of `spreads::spread_by`.
use Rattle.std.proofs.Common.{◌≡◌, true, false, sym, ◌∙◌, inl, inr, rules}
use Rattle.std.proofs.lemmas.Bool.{false≢true}
use Rattle.std.proofs.lemmas.Result.{IfOk-weaker, IfErr-weaker}
use Rattle.psy_meaning.specs.KnownWays.{Listed, sends_to}
use Rattle.psy_sizes.proofs.NoSends.{no_spread, unsent}
use Rattle.psy_sizes.proofs.SpreadOf.{not_passed, passed}
use Rattle.psy_sizes.proofs.spreads.spread_by.Goals as goal

pub returns-then-not-sends_to-clause-spread : goal.returns-then-not-sends_to-clause-spread
returns-then-not-sends_to-clause-spread c window is =
    let ways = c.args.ways.now in
    let number = c.args.number in
    let stream = c.args.stream in
    let silent : c.sends_to.result ≡ false = search rules in
    let none : sends_to (Listed ways) number stream ≡ false = sym c.sends_to.ensures ∙ silent in
    no_spread c.args.unit.now (Listed ways) ways.nexts number stream (λ from to. unsent ways number stream from to none) window c.args.graph.now c.requires.graph.0

pub returns-then-not-sends_to-clause-counted : goal.returns-then-not-sends_to-clause-counted
returns-then-not-sends_to-clause-counted c (window, spots, edges, sends, is, its, passes) =
    let silent : c.sends_to.result ≡ false = search rules in
    false≢true (sym silent ∙ c.sends_to.ensures ∙ sends)

pub returns-clause-counted : goal.returns-clause-counted
returns-clause-counted c =
    let ways = c.args.ways.now in
    IfOk-weaker c.spread.result _ _ (λ n fits. not_passed c.args.unit.now (Listed ways) ways.nexts c.args.stream c.args.number c.args.graph.now c.requires.graph.0 fits) c.spread.ensures.counted

pub returns-clause-cause : goal.returns-clause-cause
returns-clause-cause c =
    let ways = c.args.ways.now in
    let loud : c.sends_to.result ≡ true = search rules in
    let sends : sends_to (Listed ways) c.args.number c.args.stream ≡ true = sym c.sends_to.ensures ∙ loud in
    let (window, is, least, cut) = c.requires.top in
    IfErr-weaker c.spread.result _ _ (λ fault h. elim h [
      | inl memory ↦ inl memory
      | inr (is_cells, passes) ↦ inr (is_cells, passed c.args.unit.now (Listed ways) ways.nexts c.args.stream c.args.number c.args.graph.now c.requires.graph.0 window sends is (passes window is))
    ])
    c.spread.ensures.cause
