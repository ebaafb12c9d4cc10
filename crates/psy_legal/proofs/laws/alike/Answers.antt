-- What is left of the proof of `laws::alike`.
use Rattle.psy_history.specs.Compiled.{coded}
use Rattle.psy_meaning.specs.KnownWays.{OfText}
use Rattle.psy_legal.proofs.LikeTraces.{text_same}
use Rattle.psy_legal.proofs.laws.alike.Goals as goal

pub returns : goal.returns
returns c unit code nexts stalls inputs is are =
    let run = c.compiled.ensures.run unit code nexts stalls inputs is are in
    let s = coded unit code nexts stalls inputs in
    let lawful = c.regular.ensures.lawful s (OfText unit) code run in
    text_same unit code nexts stalls inputs (c.alike.ensures.actions unit code nexts stalls inputs is are) (c.alike.ensures.schedule unit code nexts stalls inputs is are)
    (λ order dates cycles agent r. c.given.ensures.within s order dates cycles agent r lawful run.bare.quantum.0)
