-- What is left of the proof of `laws::known`.
use Rattle.psy_meaning.specs.Sound.{IsSoundUnit}
use Rattle.psy_flow.proofs.laws.known.Goals as goal

pub returns : goal.returns
returns c unit number agent (text, got) =
    let sound : IsSoundUnit unit = c.sound.ensures.unit text.text.0 unit text.text.1 in
    record {
      sound = sound;
      none = c.sound.ensures.functions unit sound;
      goes_on = λ point. c.follows.ensures.some unit number agent point sound got;
      inner = λ point to. c.follows.ensures.inner unit number agent point to sound got;
    }
