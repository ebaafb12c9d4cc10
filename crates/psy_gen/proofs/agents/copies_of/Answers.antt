-- What is left of the proof of `agents::copies_of`.
use Rattle.std.proofs.Common.{◌+◌, ◌++◌, drop, map, sym, ap, ◌∙◌}
use Rattle.psy_lists.proofs.lemmas.Places.{drop_read}
use Rattle.psy_meaning.specs.Alike.{owned_from}
use Rattle.psy_gen.specs.Emission.{copy_init}
use Rattle.psy_gen.proofs.Wholes.{copies_more}
use Rattle.psy_gen.proofs.agents.copies_of.Goals as goal

pub loop-number-preserved : goal.loop-number-preserved
loop-number-preserved c =
    let number = c.loop-number.number in
    let v = c.index-variables-number.result in
    let here = drop_read c.args.variables.now number v c.loop-number-test.true c.index-variables-number.is in
    copies_more c.args.agent number v (drop (number + 1) c.args.variables.now) _ _ c.in_ok-add_copy.ensures
    ∙ ap (λ vs. c.loop-number.copies ++ map copy_init (owned_from c.args.agent number vs)) (sym here)
    ∙ c.loop-number.invariant
