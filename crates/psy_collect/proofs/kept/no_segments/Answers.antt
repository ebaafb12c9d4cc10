-- What is left of the proof of `kept::no_segments`.
use Rattle.std.proofs.Common.{◌∙◌, ℕ, ◌∷◌, [], ◌++◌, Option, None, ap, sym, map, arith}
use Rattle.std.specs.List.{range_with_len}
use Rattle.std.proofs.lemmas.List.FromFn.{map-range_with_len_more}
use Rattle.psy_audit.specs.declared.said.Segment.{Segment}
use Rattle.psy_collect.proofs.kept.no_segments.Goals as goal

pub processors-preserved : goal.processors-preserved
processors-preserved c =
    let f : ℕ → Option Segment = λ n. None in
    c.in_ok-push.ensures.ok ∙ ap (λ xs. xs ++ c.no_segment.result ∷ []) c.processors.invariant
    ∙ ap (λ x. map f (range_with_len 0 c.processors.processor) ++ x ∷ []) c.no_segment.ensures ∙ sym (map-range_with_len_more f 0 c.processors.processor c.processors.processor (omega arith))
