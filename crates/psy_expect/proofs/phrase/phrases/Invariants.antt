-- What each loop of `phrase::phrases` keeps.
use Rattle.std.proofs.Common.{◌≡◌, take}
use Rattle.std.specs.Prelude.{option_to_list}
use Rattle.std.specs.List.{flat_map}
use Rattle.psy_expect.specs.Phrases.{group_of, phrase_in}
use Rattle.psy_expect.proofs.phrase.phrases.Given as goal

abbrev pub invariant-each : goal.invariant-each
invariant-each l = l.found.items ≡ flat_map (λ t. option_to_list (phrase_in (group_of l.told t) t)) (take l.terminal-index l.told)
