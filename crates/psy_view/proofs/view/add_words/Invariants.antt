-- What each loop of `view::add_words` keeps.
use Rattle.std.proofs.Common.{◌≡◌, ◌++◌, codes, string_bytes, take}
use Rattle.std.specs.List.{flat_map}
use Rattle.psy_view.proofs.view.add_words.Given as goal

-- The words so far
abbrev pub invariant-loop-word : goal.invariant-loop-word
invariant-loop-word l = l.line.items ≡ l.initial.line.items ++ flat_map (λ word. codes " " ++ string_bytes word) (take l.word-index l.words)
