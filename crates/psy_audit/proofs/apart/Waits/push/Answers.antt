-- What is left of the proof of `apart::Waits::push`.
use Rattle.std.proofs.Common.{◌∙◌, [], ◌∷◌, ◌++◌, ap, sym, subst}
use Rattle.psy_audit.specs.Apart.{AreApart}
use Rattle.psy_audit.proofs.apart.Waits.push.Goals as goal

pub invariant_of-self-2 : goal.invariant_of-self-2
invariant_of-self-2 c = λ is.
    let more = c.stay_apart-apart.ensures (λ was. subst AreApart (sym c.as_slice.ensures) (c.self.invariant was)) is in
    subst AreApart (ap (λ xs. xs ++ c.args.wait ∷ []) c.as_slice.ensures ∙ sym c.in_ok-push.ensures.ok) more
