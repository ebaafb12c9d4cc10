-- What is left of the proof of `texts::write_queues`.
use Rattle.std.proofs.Common.{◌∙◌, arith}
use Rattle.psy_log.specs.Forms.{stream_size_line}
use Rattle.psy_tree.specs.declared.unit.StreamDecl.{StreamDecl}
use Rattle.psy_run.specs.Texts.{queue_lines}
use Rattle.psy_run.proofs.CutLemmas.{cut_line, grew_line, grew_lines}
use Rattle.psy_run.proofs.TextLemmas.{named_at, paired_length}
use Rattle.psy_run.proofs.texts.write_queues.Goals as goal

pub returns-in-Err-clause-wrote : goal.returns-in-Err-clause-wrote
returns-in-Err-clause-wrote g c =
    let at = named_at (λ (d : StreamDecl). d.name) stream_size_line c.args.streams.now c.args.queues.now c.streams.number _ 0 _ (omega (arith, c.streams-test.true, c.min-count.ensures)) c.bytes.ensures c.index-streams-number.is in
    cut_line (queue_lines c.args.streams.now c.args.queues.now) _ _ _ c.streams.number _ at c.streams.invariant.grew _ c.in-Err.ensures.wrote

pub streams-preserved : goal.streams-preserved
streams-preserved g c =
    let at = named_at (λ (d : StreamDecl). d.name) stream_size_line c.args.streams.now c.args.queues.now c.streams.number _ 0 _ (omega (arith, c.streams-test.true, c.min-count.ensures)) c.bytes.ensures c.index-streams-number.is in
    record {
      unfailed = c.in_default.ensures.unfailed ∙ c.streams.invariant.unfailed;
      grew = grew_line (queue_lines c.args.streams.now c.args.queues.now) _ _ _ c.streams.number _ at c.streams.invariant.grew c.in_default.ensures.wrote;
    }

pub returns-clause-wrote : goal.returns-clause-wrote
returns-clause-wrote g c =
    grew_lines (queue_lines c.args.streams.now c.args.queues.now) _ _ c.streams.number
    (omega (arith, c.streams-test.false, c.streams.auto.number-end, c.min-count.ensures, paired_length (λ (d : StreamDecl). stream_size_line d.name) c.args.streams.now c.args.queues.now)) c.streams.invariant.grew
