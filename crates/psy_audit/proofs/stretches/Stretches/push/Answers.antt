-- What is left of the proof of `stretches::Stretches::push`.
use Rattle.std.proofs.Common.{◌∙◌, [], ◌∷◌, ◌++◌, ap, sym, subst}
use Rattle.psy_audit.specs.Apart.{AreRising}
use Rattle.psy_audit.proofs.stretches.Stretches.push.Goals as goal

pub invariant_of-self-2 : goal.invariant_of-self-2
invariant_of-self-2 c = λ is.
    let more = c.stay_rising-rising.ensures (λ was. subst AreRising (sym c.as_slice.ensures) (c.self.invariant was)) is in
    subst AreRising (ap (λ xs. xs ++ c.args.segment ∷ []) c.as_slice.ensures ∙ sym c.in_ok-push.ensures.ok) more
