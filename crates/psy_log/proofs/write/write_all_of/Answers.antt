-- What is left of the proof of `write::write_all_of`.
use Rattle.std.proofs.Common.{◌∙◌, refl, arith}
use Rattle.std.proofs.Math.Seq.{take-add}
use Rattle.psy_log.specs.Writing.{handed_nothing}
use Rattle.psy_log.proofs.GrowthLemmas.{Grew-nothing, Grew-trans}
use Rattle.psy_log.proofs.HandedLemmas.{handed-all, handed-next, handed-to}
use Rattle.psy_log.proofs.write.write_all_of.Goals as goal

pub writing-init : goal.writing-init
writing-init g c = record { within = omega arith; unfailed = refl; grew = Grew-nothing _; handed = handed_nothing }

pub writing-preserved : goal.writing-preserved
writing-preserved g c =
    let rest = c.split_at.ensures.back in
    let added = rw rest at c.in-Ok.ensures.added in
    record {
      within = omega (arith, c.in-Ok.ensures.most, c.split_at.ensures.back_len);
      unfailed = c.in-Ok.ensures.unfailed ∙ c.writing.invariant.unfailed;
      grew = rw (take-add c.writing.taken c.in-Ok.n c.args.piece.now) (Grew-trans _ _ _ _ _ c.writing.invariant.grew added);
      handed = handed-next _ _ _ _ c.args.piece.now c.writing.taken c.in-Ok.n c.writing-test.true c.writing.invariant.handed (rw rest at c.in-Ok.ensures.called);
    }

pub returns-in-Err-clause-calls : goal.returns-in-Err-clause-calls
returns-in-Err-clause-calls g c =
    handed-to _ _ _ _ _ c.args.piece.now c.writing.taken c.writing-test.true c.writing.invariant.handed (rw c.split_at.ensures.back at c.in-Err.ensures.called)

pub returns-clause-calls : goal.returns-clause-calls
returns-clause-calls g c = handed-all _ _ _ c.args.piece.now c.writing.taken (omega (arith, c.writing-test.false)) c.writing.invariant.handed
