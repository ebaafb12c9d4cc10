-- The tables of the summary.
use Rattle.std.specs.Prelude.{◌⊎◌, ◌<◌, ◌+◌, ◌*◌, ◌++◌, ◌==◌, ℕ, List, [], ◌∷◌, codes, cond, decimal, length, max}
use Rattle.std.specs.List.{flat_map, fold}
use Rattle.psy_log.specs.Forms.{number_or_dash}
use Rattle.psy_draw.specs.declared.layout.TheConstants.{TABLE_LETTER}
use Rattle.psy_draw.specs.declared.room.TheConstants.{MOST_ROWS}
use Rattle.psy_draw.specs.declared.table.Heads.{Heads}
use Rattle.psy_draw.specs.declared.markup.TheConstants.{GROUP_END}
use Rattle.psy_draw.specs.declared.table.TheConstants.{HEADS, ROW_HEIGHT, TABLE}
use Rattle.psy_draw.specs.Places.{width_of}
use Rattle.psy_draw.specs.Rows.{Entry}
use Rattle.psy_draw.specs.Showing.{rows_text}
use Rattle.psy_page.specs.Spelling.{escaped}
use Rattle.psy_page.specs.Templates.{fill}

-- What stands over the three columns of a table: over the names, over the first numbers, and over the second
pub record Titles : Type 0 where
  pub name : List ℕ
  pub first : List ℕ
  pub second : List ℕ

-- What heads say
abbrev pub titles_of : Heads → Titles
titles_of heads = record { name = heads.name.now; first = heads.first.now; second = heads.second.now }

abbrev pub agent_titles : Titles
agent_titles = record { name = codes "agent"; first = codes "actions"; second = codes "least slack" }

abbrev pub variable_titles : Titles
variable_titles = record { name = codes "variable"; first = codes "size"; second = codes "reach" }

abbrev pub stream_titles : Titles
stream_titles = record { name = codes "stream"; first = codes "size"; second = codes "most held" }

-- The most letters in the column of names
abbrev pub name_letters : Titles → List Entry → ℕ
name_letters titles rows = fold (λ most row. max most (length row.name)) (length titles.name) rows

-- In that of the first numbers
abbrev pub first_letters : Titles → List Entry → ℕ
first_letters titles rows = fold (λ most row. max most (length (decimal row.first))) (length titles.first) rows

-- And in that of the second
abbrev pub second_letters : Titles → List Entry → ℕ
second_letters titles rows = fold (λ most row. max most (length (number_or_dash row.second))) (length titles.second) rows

-- Where the first numbers end, 22 pixels between them and the names
abbrev pub first_end : Titles → List Entry → ℕ
first_end titles rows = width_of (name_letters titles rows) TABLE_LETTER + width_of (first_letters titles rows) TABLE_LETTER + 22

-- Where the second numbers end
abbrev pub second_end : Titles → List Entry → ℕ
second_end titles rows = first_end titles rows + width_of (second_letters titles rows) TABLE_LETTER + 22

-- A table at a place, with the right ends of its numbers: its heads, and its rows below them
abbrev pub full_table : ℕ → ℕ → Titles → ℕ → ℕ → List Entry → List ℕ
full_table left top titles first second rows =
    fill TABLE.now (decimal left ∷ decimal top ∷ decimal second ∷ flat_map escaped titles.name ∷ decimal first ∷ flat_map escaped titles.first
    ∷ decimal second ∷ flat_map escaped titles.second ∷ []) ++ (rows_text HEADS first second rows ++ GROUP_END.now)

-- That table, or nothing where it has no rows
abbrev pub table_text : ℕ → ℕ → Titles → List Entry → List ℕ
table_text left top titles rows = cond (length rows == 0) [] (full_table left top titles (first_end titles rows) (second_end titles rows) rows)

-- Its width and its height, 0 where it has no rows
abbrev pub table_width : Titles → List Entry → ℕ
table_width titles rows = cond (length rows == 0) 0 (second_end titles rows)

abbrev pub table_height : List Entry → ℕ
table_height rows = cond (length rows == 0) 0 ((length rows + 1) * ROW_HEIGHT)

-- One of these tables has more rows than there is room for.
abbrev pub HasManyRows : List Entry → List Entry → List Entry → Type 0
HasManyRows agents variables streams = (MOST_ROWS < length agents) ⊎ ((MOST_ROWS < length variables) ⊎ (MOST_ROWS < length streams))

-- Where the next table begins behind one that begins here: 48 pixels from it
abbrev pub behind_table : ℕ → ℕ → ℕ
behind_table left width = cond (width == 0) left (left + width + 48)

-- The tables of agents, variables and streams side by side, at a height
abbrev pub tables_text : ℕ → List Entry → List Entry → List Entry → List ℕ
tables_text top agents variables streams =
    table_text 12 top agent_titles agents
    ++ (table_text (behind_table 12 (table_width agent_titles agents)) top variable_titles variables
    ++ table_text (behind_table (behind_table 12 (table_width agent_titles agents)) (table_width variable_titles variables)) top stream_titles streams)

-- Their width side by side, and the height of the highest
abbrev pub tables_width : List Entry → List Entry → List Entry → ℕ
tables_width agents variables streams =
    table_width agent_titles agents + table_width variable_titles variables + table_width stream_titles streams + 120

abbrev pub tables_height : List Entry → List Entry → List Entry → ℕ
tables_height agents variables streams = max (max (table_height agents) (table_height variables)) (table_height streams)
