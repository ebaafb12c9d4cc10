-- What is left of the proof of `numbers::two_dates`.
use Rattle.std.proofs.Common.{◌≡◌, ◌++◌, codes, decimal, refl, ◌∙◌, rules}
use Rattle.std.proofs.lemmas.List.{append_assoc}
use Rattle.psy_claims.proofs.numbers.two_dates.Goals as goal

pub returns-in_err-behind-clause-none : goal.returns-in_err-behind-clause-none
returns-in_err-behind-clause-none c none from to first second is =
    let one = c.one_number.ensures c.args.word.now c.in_ok-from.from from c.in_ok-from.rest.now (codes ".." ++ decimal to) (search rules) first c.in_ok-from.ensures.some (is ∙ append_assoc (decimal from) (codes "..") (decimal to), refl) in
    c.in_err-behind.ensures (decimal to) one.1

pub returns-in_err-to-clause-none : goal.returns-in_err-to-clause-none
returns-in_err-to-clause-none c none from to first second is =
    let one = c.one_number.ensures c.args.word.now c.in_ok-from.from from c.in_ok-from.rest.now (codes ".." ++ decimal to) (search rules) first c.in_ok-from.ensures.some (is ∙ append_assoc (decimal from) (codes "..") (decimal to), refl) in
    let same : c.in_ok-behind.behind.now ≡ decimal to = cc (one.1, c.in_ok-behind.ensures) in
    c.in_err-to.ensures.none refl to second same
