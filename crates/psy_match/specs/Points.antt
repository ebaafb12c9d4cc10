-- The lines of a program's text in which actions begin.
use Rattle.std.specs.Prelude.{ℕ, Bool, true, false, List, [], ◌∷◌, ◌++◌, codes, cond, decimal, map}
use Rattle.psy_match.specs.declared.point.TheConstants.{LINE_COLUMNS}
use Rattle.psy_show.specs.Lines.{shown_in}
use Rattle.psy_text.specs.Lines.{without_return}
use Rattle.psy_tree.specs.declared.token.Kind.{Kind}
use Rattle.psy_tree.specs.declared.token.Kind.TheVariants as kind
use Rattle.psy_tree.specs.declared.token.Token.{Token}
use Rattle.psy_tree.specs.declared.token.Word.TheVariants as words
use Rattle.psy_spot.specs.Spots.{behind_at, line_at}

-- The token begins an agent.
abbrev pub is_agent : Kind → Bool
is_agent (kind.Word words.Agent) = true
is_agent _ = false

-- It begins an `advance`.
abbrev pub is_advance : Kind → Bool
is_advance (kind.Word words.Advance) = true
is_advance _ = false

-- Where the points of an agent stand behind its head, of the tokens behind its first: each `advance` up to the next agent
abbrev pub advances : List Token → List ℕ
advances [] = []
advances (token ∷ tokens) = cond (is_agent token.kind) [] (cond (is_advance token.kind) (token.place ∷ advances tokens) (advances tokens))

-- Where the points stand, agent by agent: point 0 where the agent begins, the others at its advances
abbrev pub point_places : List Token → List (List ℕ)
point_places [] = []
point_places (token ∷ tokens) = cond (is_agent token.kind) ((token.place ∷ advances tokens) ∷ point_places tokens) (point_places tokens)

-- The line of a place: its number, and what stands in it from there on, in at most 40 columns
abbrev pub point_line : List ℕ → ℕ → List ℕ
point_line text place = decimal (line_at text place) ++ codes ": " ++ shown_in LINE_COLUMNS (without_return (behind_at text place))

-- The lines of the points, agent by agent
abbrev pub point_lines : List ℕ → List Token → List (List (List ℕ))
point_lines text tokens = map (map (point_line text)) (point_places tokens)
