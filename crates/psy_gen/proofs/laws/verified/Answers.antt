-- What is left of the proof of `laws::verified`.
use Rattle.std.proofs.Common.{◌≡◌, ℕ, Some}
use Rattle.std.specs.Prelude.{slice_get}
use Rattle.psy_tree.specs.declared.unit.AgentDecl.{AgentDecl}
use Rattle.psy_meaning.specs.Sound.{IsSoundUnit}
use Rattle.psy_gen.specs.Emission.{code_of}
use Rattle.psy_gen.proofs.ways.Points.{AreCalls, IsAgent}
use Rattle.psy_gen.proofs.verified.Ends.{all_end}
use Rattle.psy_gen.proofs.verified.Marked.{are_marks}
use Rattle.psy_gen.proofs.verified.Marking.{marks_of}
use Rattle.psy_gen.proofs.laws.verified.Goals as goal

pub returns : goal.returns
returns c unit text =
    let sound : IsSoundUnit unit = c.sound.ensures.unit text.text.0 unit text.text.1 in
    let calls : AreCalls unit = record {
      some = λ f before. c.calls.ensures.some unit f before text;
      still = λ f before now. c.calls.ensures.still unit f before now text;
    } in
    let known : (number : ℕ) (agent : AgentDecl) → slice_get unit.agents number ≡ Some agent → IsAgent unit number agent = λ number agent got. record {
      at = got;
      calls = calls;
      sound = sound.agents number agent got;
    } in
    let ends = all_end unit sound known (λ number agent got. (c.known.ensures unit number agent (text, got)).goes_on 0) in
    c.marked.ensures unit (code_of unit) (marks_of unit) (are_marks unit sound ends)
