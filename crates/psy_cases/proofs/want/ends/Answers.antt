-- What is left of the proof of `want::ends`.
use Rattle.std.proofs.Common.{◌-◌, take, length}
use Rattle.std.proofs.lemmas.Bool.Decides.{Decides-eqb}
use Rattle.std.proofs.lemmas.Slice.Eq.{ends_is}
use Rattle.psy_cases.proofs.want.ends.Goals as goal

pub returns : goal.returns
returns c =
    let text = c.args.text.now in
    let end = c.args.end.now in
    let is = ends_is Decides-eqb text end c.ends_with.result c.ends_with.ensures.value in
    ((λ yes. (take (length text - length end) text, is.0 yes)), (λ ends. is.1 ends.0 ends.1))
