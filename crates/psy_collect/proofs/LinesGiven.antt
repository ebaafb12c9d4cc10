-- A run of which one line more was given.
use Rattle.std.proofs.Common.{◌≡◌, ◌∙◌, ap, sym, ℕ}
use Rattle.psy_kernel.specs.Progress.{Progress, after_line}

-- One line more was given of a run that is another's but for the lines given.
pub given-set : (p q r : Progress) → p ≡ after_line q → q ≡ record r { given = q.given } → p ≡ record r { given = p.given }
given-set p q r after same =
    let set : ℕ → Progress = λ n. record r { given = n } in
    let next : Progress → Progress = after_line in
    after ∙ ap next same ∙ ap set (sym (ap (λ k. k.given) after))
