-- What is left of the proof of `fed::input_notes`.
use Rattle.std.proofs.Common.{[]}
use Rattle.psy_match.specs.Feeding.{input_values}
use Rattle.psy_match.proofs.Numbered.{numbered}
use Rattle.psy_match.proofs.fed.input_notes.Goals as goal

pub variables-preserved : goal.variables-preserved
variables-preserved c =
    record {
      values = numbered (input_values c.args.unit.now c.args.inputs.now.lists c.args.last) c.variables.number [] _ _ c.variables.invariant.values
          c.in_ok-add_input.ensures.values;
      alone = c.in_ok-add_input.ensures.alone c.variables.invariant.alone;
    }
