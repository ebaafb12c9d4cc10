-- The strokes of a picture.
use Rattle.std.specs.Prelude.{◌==◌, ℕ, List, [], ◌∷◌, cond, decimal, nat_le}
use Rattle.psy_draw.specs.declared.curve.TheConstants.{UPRIGHT}
use Rattle.psy_page.specs.Templates.{fill}

-- From one height to another
abbrev pub upright : ℕ → ℕ → List ℕ
upright from to = cond (from == to) [] (fill UPRIGHT.now (decimal to ∷ []))

-- A stroke from a place to the end of the plot, where it isn't there already
abbrev pub dashes : ℕ → List ℕ → List (List ℕ) → List ℕ
dashes from template holes = cond (nat_le 960 from) [] (fill template holes)
