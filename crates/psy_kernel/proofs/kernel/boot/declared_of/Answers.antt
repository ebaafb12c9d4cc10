-- What is left of the proof of `kernel::boot::declared_of`.
use Rattle.std.proofs.Common.{◌≡◌, [], ◌∷◌, ◌++◌, sym, ap, ◌∙◌, arith}
use Rattle.psy_kernel.proofs.Booted.{range_more}
use Rattle.psy_kernel.proofs.kernel.boot.declared_of.Goals as goal

pub loop-processor-preserved : goal.loop-processor-preserved
loop-processor-preserved c =
    let processor = c.loop-processor.processor in
    let pushed : c.push.new.self.items ≡ c.loop-processor.declared.items ++ processor ∷ [] = c.in_ok-push.ensures.items in
    pushed ∙ ap (λ processors. processors ++ processor ∷ []) c.loop-processor.invariant ∙ sym (range_more 0 processor processor (omega arith))
