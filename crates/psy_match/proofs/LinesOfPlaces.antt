-- The line of a place.
use Rattle.std.proofs.Common.{◌≡◌, ◌∙◌, ℕ, ◌+◌, ◌==◌, List, ◌++◌, codes, count_by, decimal, drop, length, min, take, ap}
use Rattle.std.proofs.lemmas.List.{drop_min, take_min}
use Rattle.psy_match.specs.declared.point.TheConstants.{LINE_COLUMNS}
use Rattle.psy_match.specs.Points.{point_line}
use Rattle.psy_show.specs.Lines.{shown_in}
use Rattle.psy_text.specs.Lines.{without_return}
use Rattle.psy_spot.specs.Spots.{line_front}

-- The line, by what stands before a place and from there on
abbrev line_by : List ℕ → List ℕ → List ℕ
line_by before behind = decimal (count_by (λ b. b == 10) before + 1) ++ codes ": " ++ shown_in LINE_COLUMNS (without_return (line_front behind))

-- A place past the end is as the end.
pub point_line_within : (text : List ℕ) (place within : ℕ) → within ≡ min place (length text) → point_line text within ≡ point_line text place
point_line_within text place within e =
    ap (point_line text) e ∙ ap (λ before. line_by before (drop (min place (length text)) text)) (take_min place text) ∙ ap (line_by (take place text)) (drop_min place text)
