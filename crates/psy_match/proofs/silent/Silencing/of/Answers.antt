-- What is left of the proof of `silent::Silencing::of`.
use Rattle.std.proofs.Common.{◌∙◌, ap, arith, length, sym}
use Rattle.std.specs.List.{flat_map}
use Rattle.std.proofs.lemmas.List.{take_all}
use Rattle.psy_match.specs.Silences.{owning_of}
use Rattle.psy_match.proofs.Stopping.{none_stopped}
use Rattle.psy_match.proofs.silent.Silencing.of.Goals as goal

pub returns : goal.returns
returns c =
    c.loop-variable.invariant
    ∙ ap (flat_map (owning_of c.args.unit.now)) (take_all c.loop-variable.variable-index c.args.unit.now.variables (omega (arith, c.loop-variable-test.false, ap length c.as_slice-variable-items.ensures)))
    ∙ sym (none_stopped c.args.unit.now c.args.unit.now.variables)
