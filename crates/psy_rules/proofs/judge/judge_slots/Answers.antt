-- What is left of the proof of `judge::judge_slots`.
use Rattle.std.proofs.Common.{sym, ap, ◌∙◌, ◌∷◌, [], take, map}
use Rattle.psy_tree.specs.Places.{NamesSlot}
use Rattle.psy_rules.specs.Sites.{site_of}
use Rattle.psy_rules.specs.Heads.{name_places}
use Rattle.psy_rules.specs.Judged.{judged, judged_all}
use Rattle.psy_rules.proofs.Judging.{judged_all_append}
use Rattle.psy_rules.proofs.Twice.{names_more}
use Rattle.psy_rules.proofs.judge.judge_slots.Goals as goal

pub loop-k-preserved : goal.loop-k-preserved
loop-k-preserved c =
    c.judge_slot.ensures ∙ ap (judged (site_of c.args.scope.now) (NamesSlot c.loop-k.k c.index-names-k.result.now)) c.loop-k.invariant
    ∙ sym (judged_all_append (site_of c.args.scope.now) (name_places 0 (map (λ n. n.now) (take c.loop-k.k c.args.names.now))) (NamesSlot c.loop-k.k c.index-names-k.result.now ∷ []) c.args.least.now.fault)
    ∙ sym (ap (λ ps. judged_all (site_of c.args.scope.now) ps c.args.least.now.fault) (names_more (λ n. n.now) c.args.names.now c.loop-k.k c.index-names-k.result c.loop-k-test.true (sym c.index-names-k.is)))
