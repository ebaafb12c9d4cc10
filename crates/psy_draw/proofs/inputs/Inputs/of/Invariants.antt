-- What each loop of `inputs::Inputs::of` keeps.
use Rattle.std.proofs.Common.{◌≡◌, ◌++◌, drop, map}
use Rattle.psy_draw.specs.Inputs.{behind_names, last_of, names_text, no_line}
use Rattle.psy_draw.proofs.inputs.Inputs.of.Given as goal

-- The names so far go on to all of them.
abbrev pub invariant-names : goal.invariant-names
invariant-names l = record {
  text : l.text ++ names_text (last_of l.line) (map (λ n. n.now) (drop l.name-index l.names)) ≡ names_text no_line (map (λ n. n.now) l.names);
  last : behind_names (last_of l.line) (map (λ n. n.now) (drop l.name-index l.names)) ≡ behind_names no_line (map (λ n. n.now) l.names);
}
