-- What each loop of `fed::input_notes` keeps.
use Rattle.std.proofs.Common.{◌≡◌, true}
use Rattle.std.specs.List.{flat_map, list_all, range_with_len}
use Rattle.psy_match.specs.Feeding.{input_values, is_value_of, published_by, variable_names}
use Rattle.psy_match.proofs.fed.input_notes.Given as goal

-- What the variables so far publish
abbrev pub invariant-variables : goal.invariant-variables
invariant-variables l = record {
  values : flat_map published_by l.notes.items ≡ flat_map (input_values l.unit l.inputs.lists l.last) (range_with_len 0 l.number);
  alone : list_all (is_value_of (variable_names l.unit)) l.notes.items ≡ true;
}
