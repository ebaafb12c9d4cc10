-- The listing of a program's code.
use Rattle.std.specs.Prelude.{ℕ, List, [], ◌∷◌, ◌++◌, Option, None, Some, codes, decimal, flat_map, get_or, length, slice_get}
use Rattle.std.specs.List.{range_with_len}
use Rattle.psy_code.specs.declared.code.Code.{Code}
use Rattle.psy_code.specs.declared.instr.Instr.{Instr}
use Rattle.psy_meaning.specs.CodeWays.{agent_code_at, place_of}
use Rattle.psy_page.specs.Templates.{fill}
use Rattle.psy_tree.specs.declared.unit.Unit.{Unit as Whole}
use Rattle.psy_tree.specs.Parts.{agent_at}
use Rattle.psy_listing.specs.declared.text.TheConstants.{POINT, STEP}
use Rattle.psy_listing.specs.Instructions.{instr_text}
use Rattle.psy_listing.specs.Straight.{straight_way}

-- The line of a point, of lines that are told agent by agent
abbrev pub line_of : List (List (List ℕ)) → ℕ → ℕ → List ℕ
line_of lines agent point = get_or (get_or lines agent []) point []

-- The instruction at a place, where there is one
abbrev pub at_text : Whole → Option Instr → List ℕ
at_text unit None = []
at_text unit (Some i) = instr_text unit i

-- The line of an instruction of a way: its number, its place, and what it is
abbrev pub step_line : Whole → List Instr → ℕ → ℕ → List ℕ
step_line unit instrs number place =
    fill STEP.now (decimal number ∷ decimal place ∷ []) ++ at_text unit (slice_get instrs place) ++ codes "\n"

abbrev pub step_text : Whole → List Instr → List ℕ → ℕ → List ℕ
step_text unit instrs places number = step_line unit instrs number (get_or places number 0)

-- A point of an agent at a place: its head line, and the straight way from there, numbered from 0
abbrev pub point_lines : Whole → Code → List (List (List ℕ)) → ℕ → ℕ → ℕ → List ℕ
point_lines unit code lines agent point place =
    let places = straight_way code.instrs place in
    fill POINT.now ((agent_at unit agent).name ∷ decimal point ∷ decimal place ∷ line_of lines agent point ∷ [])
    ++ flat_map (step_text unit code.instrs places) (range_with_len 0 (length places))

abbrev pub point_text : Whole → Code → List (List (List ℕ)) → ℕ → ℕ → List ℕ
point_text unit code lines agent point = point_lines unit code lines agent point (place_of code agent point)

-- The points of an agent
abbrev pub agent_text : Whole → Code → List (List (List ℕ)) → ℕ → List ℕ
agent_text unit code lines agent = flat_map (point_text unit code lines agent) (range_with_len 0 (length (agent_code_at code agent).points))

-- The points of all agents, with their lines in the program's text
abbrev pub listing_of : Whole → Code → List (List (List ℕ)) → List ℕ
listing_of unit code lines = flat_map (agent_text unit code lines) (range_with_len 0 (length unit.agents))
