-- What is left of the proof of `laws::calls`.
use Rattle.psy_meaning.specs.Sound.{IsSoundUnit}
use Rattle.psy_flow.specs.declared.gauge.Gauge.TheVariants as gauge
use Rattle.psy_flow.proofs.Greatest.{row_of}
use Rattle.psy_flow.proofs.Still.{still_calls}
use Rattle.psy_flow.proofs.laws.calls.Goals as goal

pub returns-clause-some : goal.returns-clause-some
returns-clause-some c unit function before text =
    let sound : IsSoundUnit unit = c.sound.ensures.unit text.text.0 unit text.text.1 in
    let (now, way, more) = (row_of gauge.Steps unit.functions (c.sound.ensures.functions unit sound)).one function before in
    (now, way)

pub returns-clause-still : goal.returns-clause-still
returns-clause-still c unit function before now text way =
    let sound : IsSoundUnit unit = c.sound.ensures.unit text.text.0 unit text.text.1 in
    still_calls unit.functions sound.functions function before now way
