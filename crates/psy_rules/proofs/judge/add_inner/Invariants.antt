-- What each loop of `judge::add_inner` keeps.
use Rattle.std.proofs.Common.{◌≡◌, ◌||◌, List, ℕ, take}
use Rattle.std.specs.Prelude.{is_some}
use Rattle.std.specs.Str.{bytes_eq}
use Rattle.std.specs.List.{list_any}
use Rattle.psy_tree.specs.Scope.{first_named}
use Rattle.psy_rules.proofs.judge.add_inner.Given as goal

abbrev pub invariant-loop-name : goal.invariant-loop-name
invariant-loop-name l = (text : List ℕ) → is_some (first_named text l.inner) ≡ (is_some (first_named text l.fn.inner) || list_any (λ n. bytes_eq text n.now.text) (take l.name-index l.names))
