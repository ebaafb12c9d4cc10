-- What each loop of `inputs::values_in` keeps.
use Rattle.std.proofs.Common.{◌≡◌, ◌++◌, map, length}
use Rattle.std.specs.Prelude.{option_map}
use Rattle.psy_text.specs.Words.{words_of, value_of}
use Rattle.psy_script.specs.Numbers.{all_some}
use Rattle.psy_script.proofs.inputs.values_in.Given as goal

abbrev pub invariant-loop-word : goal.invariant-loop-word
invariant-loop-word l = all_some (map value_of (words_of l.words)) ≡ option_map (λ more. l.values ++ more) (all_some (map value_of (words_of l.rest)))

abbrev pub decreases-loop-word : goal.decreases-loop-word
decreases-loop-word l = length l.rest
