-- What is left of the proof of `spreads::greatest`.
use Rattle.std.proofs.Common.{sym, subst, arith}
use Rattle.std.specs.Prelude.{slice_index}
use Rattle.psy_base.specs.Paths.{FitsFirstFree, IsGreatestWeight}
use Rattle.psy_sizes.proofs.spreads.greatest.Goals as goal

pub returns-in-Ok-clause-greatest : goal.returns-in-Ok-clause-greatest
returns-in-Ok-clause-greatest c =
    let h = c.in-Ok.ensures.greatest c.args.top (omega arith) in
    subst (λ ws. IsGreatestWeight c.args.edges.now (FitsFirstFree c.args.top) (slice_index ws c.args.top)) (sym c.as_slice.ensures) (record { one = h.one; most = h.most })
