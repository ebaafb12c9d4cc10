-- What is left of the proof of `rows::take_edge`.
use Rattle.std.proofs.Common.{◌+◌, Some, get_or, sym, subst, refl}
use Rattle.psy_rate.specs.Rows.{IsRow, HasGone, excess}
use Rattle.psy_rate.proofs.Steps.{next_of, next_stays, next_grows, stays_gone, grows_gone}
use Rattle.psy_rate.proofs.rows.take_edge.Goals as goal

pub returns-then-not-relax-clause-row : goal.returns-then-not-relax-clause-row
returns-then-not-relax-clause-row c count cells =
    subst (λ row. IsRow c.args.edges.now (c.args.seen + 1) c.args.rate count row) (sym c.if-not-relax.ensures.1)
    (next_stays c.args.edges.now c.args.seen c.args.rate c.args.row.now c.requires.seen c.requires.edges count c.if-not-relax.ensures.0 cells)

pub returns-then-not-relax-clause-gone : goal.returns-then-not-relax-clause-gone
returns-then-not-relax-clause-gone c before gone =
    subst (λ row. HasGone c.args.edges.now (c.args.seen + 1) c.args.rate before row c.args.last) (sym c.if-not-relax.ensures.1)
    (stays_gone c.args.edges.now c.args.seen c.args.rate c.args.row.now c.requires.seen c.requires.edges before c.args.last c.if-not-relax.ensures.0 gone)

pub returns-clause-row : goal.returns-clause-row
returns-clause-row c count cells =
    let e = next_of c.args.edges.now c.args.seen in
    let given = excess c.args.rate e (get_or c.args.row.now e.to 0) in
    subst (λ row. IsRow c.args.edges.now (c.args.seen + 1) c.args.rate count row) (sym c.if-not-relax.ensures.1)
    (next_grows c.args.edges.now c.args.seen c.args.rate c.args.row.now c.requires.seen c.requires.edges count given refl c.if-not-relax.ensures.0 cells)

pub returns-clause-gone : goal.returns-clause-gone
returns-clause-gone c before gone =
    let e = next_of c.args.edges.now c.args.seen in
    let given = excess c.args.rate e (get_or c.args.row.now e.to 0) in
    subst (λ row. HasGone c.args.edges.now (c.args.seen + 1) c.args.rate before row (Some e.from)) (sym c.if-not-relax.ensures.1)
    (grows_gone c.args.edges.now c.args.seen c.args.rate c.args.row.now c.requires.seen c.requires.edges before c.args.last given c.if-not-relax.ensures.0 gone)
