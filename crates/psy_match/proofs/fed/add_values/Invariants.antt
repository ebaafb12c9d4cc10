-- What each loop of `fed::add_values` keeps.
use Rattle.std.proofs.Common.{◌≡◌, ◌++◌, ℕ, List, true, bytes_eq}
use Rattle.std.specs.List.{flat_map, list_all, list_any, range_with_len}
use Rattle.psy_match.specs.Feeding.{is_value_of, published_at, published_by}
use Rattle.psy_match.proofs.fed.add_values.Given as goal

-- The values so far
abbrev pub invariant-values : goal.invariant-values
invariant-values l = record {
  values : flat_map published_by l.notes.items
      ≡ flat_map published_by l.fn.notes.items ++ flat_map (published_at l.name l.clock l.last l.values) (range_with_len 0 l.number);
  alone : (names : List (List ℕ)) → list_any (bytes_eq l.name) names ≡ true → list_all (is_value_of names) l.fn.notes.items ≡ true
      → list_all (is_value_of names) l.notes.items ≡ true;
}
