-- What is left of the proof of `apart::Waits::near`.
use Rattle.std.proofs.Common.{sym, subst}
use Rattle.psy_audit.specs.Apart.{AreApart}
use Rattle.psy_audit.proofs.apart.Waits.near.Goals as goal

pub near-requires : goal.near-requires
near-requires c = λ is. subst AreApart (sym c.as_slice.ensures) (c.self.invariant is)
