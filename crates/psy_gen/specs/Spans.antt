-- Where slots stand.
use Rattle.std.specs.Prelude.{◌≡◌, ℕ, ◌+◌, List, [], ◌∷◌}
use Rattle.psy_gen.specs.declared.layout.Span.{Span}

-- Spans stand one after the other, from one place to another.
abbrev pub StandFrom : ℕ → List Span → ℕ → Type 0
StandFrom base [] end = base ≡ end
StandFrom base (s ∷ rest) end = (s.base ≡ base) × StandFrom (base + s.cells) rest end
