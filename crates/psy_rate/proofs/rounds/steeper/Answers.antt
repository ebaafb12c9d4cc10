-- What is left of the proof of `rounds::steeper`.
use Rattle.std.proofs.Common.{List, sym, subst, arith}
use Rattle.psy_base.specs.declared.edge.Edge.{Edge}
use Rattle.psy_rate.specs.Followed.{IsLoop, IsSteeper}
use Rattle.psy_rate.proofs.Followed.{at_none, goes_on, loop_near, not_level}
use Rattle.psy_rate.proofs.Walks.{level, passed, passes}
use Rattle.psy_rate.proofs.rounds.steeper.Goals as goal

pub returns-in_err-start-clause-steeper : goal.returns-in_err-start-clause-steeper
returns-in_err-start-clause-steeper c =
    let graph = c.args.edges.now in
    let chosen = c.args.chosen.now in
    at_none c.from_residual.result ((path : List Edge) → IsSteeper graph chosen c.args.from c.args.rate path → ⊥) _ c.from_residual.ensures
    (λ path is. let (way, follows, count) = goes_on graph chosen c.args.from is.before path is.leads is.loop _ in c.in_err-start.ensures way follows count)

pub returns-in_err-round-clause-steeper : goal.returns-in_err-round-clause-steeper
returns-in_err-round-clause-steeper c =
    let graph = c.args.edges.now in
    let chosen = c.args.chosen.now in
    let (way, follows, count, ends) = c.in_ok-start.ensures in
    at_none c.from_residual-in_err-round.result ((path : List Edge) → IsSteeper graph chosen c.args.from c.args.rate path → ⊥) _ c.from_residual-in_err-round.ensures
    (λ path is. let (loop, its, few) = loop_near graph chosen _ c.args.from c.in_ok-start.start c.args.rate way path follows count ends is c.requires.edges in c.in_err-round.ensures loop its few)

pub returns-then-next-rate-clause-passed : goal.returns-then-next-rate-clause-passed
returns-then-next-rate-clause-passed c =
    let round = c.in_ok-round.round in
    let (path, is) = c.in_ok-round.ensures in
    passed c.args.edges.now c.args.chosen.now c.in_ok-start.start round.weight round.len path is c.div_ceil-next.result c.div_ceil-next.ensures c.args.rate c.if-next-rate.true

pub returns-then-next-rate-clause-steeper : goal.returns-then-next-rate-clause-steeper
returns-then-next-rate-clause-steeper c =
    let graph = c.args.edges.now in
    let chosen = c.args.chosen.now in
    let round = c.in_ok-round.round in
    let (way, follows, count, ends) = c.in_ok-start.ensures in
    let (path, is) = c.in_ok-round.ensures in (
      path,
      record {
        before = way;
        leads = follows;
        loop = subst (λ n. IsLoop graph chosen n path) (sym ends) is.round.loop;
        passes = passes graph chosen c.in_ok-start.start round.weight round.len path is c.div_ceil-next.result c.div_ceil-next.ensures c.args.rate c.if-next-rate.true;
      },
    )

pub returns-else-next-rate-clause-steeper : goal.returns-else-next-rate-clause-steeper
returns-else-next-rate-clause-steeper c path steeper =
    let graph = c.args.edges.now in
    let chosen = c.args.chosen.now in
    let start = c.in_ok-start.start in
    let round = c.in_ok-round.round in
    let (way, follows, count, ends) = c.in_ok-start.ensures in
    let (its, is) = c.in_ok-round.ensures in
    let flat = level graph chosen start round.weight round.len its is c.div_ceil-next.result c.div_ceil-next.ensures c.args.rate (omega (arith, c.if-next-rate.false)) in
    not_level graph chosen _ c.args.from start c.args.rate way path follows count ends steeper its is.round flat
