-- What is left of the proof of `stretches::near`.
use Rattle.std.proofs.Common.{◌∙◌, ◌==◌, List, ap, filter, take}
use Rattle.std.specs.List.{prefix_len}
use Rattle.psy_audit.specs.declared.said.Segment.{Segment}
use Rattle.psy_audit.proofs.Numbered.{its_stand}
use Rattle.psy_audit.proofs.stretches.near.Goals as goal

pub returns-then-rising : goal.returns-then-rising
returns-then-rising c =
    let number = c.args.number in
    let test = λ (s : Segment). s.number == number in
    let by = c.place_of.ensures in
    ap (λ (xs : List Segment). filter test xs) (c.front_of.ensures ∙ ap (λ (rest : List Segment). take (prefix_len test rest) rest) c.split_at.ensures.back)
    ∙ its_stand number c.place_of.result c.args.list.now (c.requires c.if-rising.true) by.within by.before by.behind
