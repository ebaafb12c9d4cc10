-- What is left of the proof of `laws::same_ways`.
use Rattle.std.proofs.Common.{◌≡◌, ℕ, Some}
use Rattle.std.specs.Prelude.{slice_get}
use Rattle.psy_tree.specs.declared.unit.AgentDecl.{AgentDecl}
use Rattle.psy_meaning.specs.Sound.{IsSoundUnit}
use Rattle.psy_gen.proofs.ways.Delays.{longest}
use Rattle.psy_gen.proofs.ways.Points.{AreCalls, IsAgent, points_same}
use Rattle.psy_gen.proofs.laws.same_ways.Goals as goal

pub returns : goal.returns
returns c unit text =
    let sound : IsSoundUnit unit = c.sound.ensures.unit text.text.0 unit text.text.1 in
    let calls : AreCalls unit = record {
      some = λ f before. c.calls.ensures.some unit f before text;
      still = λ f before now. c.calls.ensures.still unit f before now text;
    } in
    let known : (number : ℕ) (agent : AgentDecl) → slice_get unit.agents number ≡ Some agent → IsAgent unit number agent = λ number agent got. record {
      at = got;
      calls = calls;
      sound = sound.agents number agent got;
    } in
    record {
      from = λ number point agent got less. points_same unit number agent (known number agent got) point less;
      delays = longest unit known (λ number agent got. (c.known.ensures unit number agent (text, got)).goes_on 0)
          (λ number agent point to met send got. c.sendings.ensures unit number agent point to met send sound got);
    }
