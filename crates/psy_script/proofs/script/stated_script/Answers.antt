-- What is left of the proof of `script::stated_script`.
use Rattle.std.proofs.Common.{◌≡◌, ◌+◌, ◌∙◌, [], ◌∷◌, ◌++◌, None, length, length-append, sym, ap, subst}
use Rattle.psy_text.specs.Lines.{lines_of}
use Rattle.psy_script.specs.Script.{script_in, script_judge}
use Rattle.psy_script.proofs.FirstFaults.{AreRead, read_all, read_more}
use Rattle.psy_script.proofs.SoundScripts.{Rises, script_is}
use Rattle.psy_script.proofs.script.stated_script.Goals as goal

pub loop-cut-preserved : goal.loop-cut-preserved
loop-cut-preserved c =
    let judge = script_judge c.args.unit.now in
    let before = c.loop-cut.invariant.0 in
    let line = c.in-Some.cut.front.now in
    let placed = c.loop-cut.invariant.3 in
    let read = subst (AreRead judge c.args.text.now before) c.in-Some.ensures.0 c.loop-cut.invariant.2 in
    let sound : judge before line ≡ None = sym (c.in_ok-kind.ensures.fault before placed) ∙ c.in_default-2.is in
    let counted : length (before ++ line ∷ []) ≡ c.loop-cut.line + 1 = length-append before (line ∷ []) ∙ ap (λ n. n + 1) c.loop-cut.invariant.1 in
    (before ++ line ∷ [], counted, read_more judge c.args.text.now before _ line read sound, c.in_ok-kind.ensures.placed before placed c.in_default-2.is)

pub returns-clause-script : goal.returns-clause-script
returns-clause-script c =
    let judge = script_judge c.args.unit.now in
    let before = c.loop-cut.invariant.0 in
    let all = read_all judge c.args.text.now before (subst (AreRead judge c.args.text.now before) c.in_default.ensures c.loop-cut.invariant.2) in
    let lines = c.in_ok-into_script.ensures.all ∙ c.loop-cut.invariant.3 ∙ ap (script_in c.args.unit.now) all.1 in
    let rises : Rises c.in_ok-into_script.field-0 = record {
      stalls = c.in_ok-into_script.ensures.stalls_rise;
      orders = c.in_ok-into_script.ensures.orders_rise;
      rounds = c.in_ok-into_script.ensures.rounds_rise;
    } in
    script_is c.args.unit.now (lines_of c.args.text.now) c.in_ok-into_script.field-0 all.0.sound lines rises
