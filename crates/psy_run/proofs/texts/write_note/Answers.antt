-- What is left of the proof of `texts::write_note`.
use Rattle.std.proofs.Common.{◌∙◌, ◌∷◌, [], subst}
use Rattle.psy_run.specs.Cuts.{Wrote}
use Rattle.psy_run.proofs.CutLemmas.{wrote_line}
use Rattle.psy_run.proofs.texts.write_note.Goals as goal

pub returns-clause-wrote : goal.returns-clause-wrote
returns-clause-wrote g c =
    let its = c.write_all_of.ensures in
    subst (λ line. Wrote (g.S.Sink.held c.args.out.now) (g.S.Sink.held c.write_all_of.new.out) c.write_all_of.result (line ∷ [])) (c.bytes.ensures ∙ c.set.ensures)
    (wrote_line _ _ c.write_all_of.result c.bytes.result.now its.written its.front its.short)
