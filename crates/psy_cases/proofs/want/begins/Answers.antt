-- What is left of the proof of `want::begins`.
use Rattle.std.proofs.Common.{drop, length}
use Rattle.std.proofs.lemmas.Bool.Decides.{Decides-eqb}
use Rattle.std.proofs.lemmas.Slice.Eq.{starts_is}
use Rattle.psy_cases.proofs.want.begins.Goals as goal

pub returns : goal.returns
returns c =
    let text = c.args.text.now in
    let front = c.args.front.now in
    let is = starts_is Decides-eqb text front c.starts_with.result c.starts_with.ensures.value in
    ((λ yes. (drop (length front) text, is.0 yes)), (λ begins. is.1 begins.0 begins.1))
