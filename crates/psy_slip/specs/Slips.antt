-- What is wrong with a line of inputs or of a script: the word at fault, and what is missing.
use Rattle.std.specs.Prelude.{ℕ, Bool, false, ◌==◌, ◌||◌, if◌then◌else◌, List, [], ◌∷◌, decimal, length}
use Rattle.std.specs.Prelude.{Option, None, Some, is_some, option_and_then, option_map}
use Rattle.std.specs.List.{list_any}
use Rattle.psy_page.specs.Templates.{fill}
use Rattle.psy_page.specs.Told.{about, first_some, hint}
use Rattle.psy_show.specs.Lines.{shown}
use Rattle.psy_slip.specs.declared.sentences.TheConstants as words
use Rattle.psy_slip.specs.declared.slip.File.{File}
use Rattle.psy_slip.specs.declared.slip.File.TheVariants.{Program, Inputs, Script}
use Rattle.psy_slip.specs.declared.sought.Sought.TheVariants.{Comment, Comma, Equal, NoLetter, NoNumber, NoValue}
use Rattle.psy_slip.specs.declared.statement.Statement.{Statement}
use Rattle.psy_slip.specs.declared.statement.Statement.TheVariants.{Stall, Order, Round}
use Rattle.psy_slip.specs.Agents.{strangers}
use Rattle.psy_slip.specs.Earlier.{first_like}
use Rattle.psy_slip.specs.Listings.{listed}
use Rattle.psy_slip.specs.Ranges.{listing_range, statement_range}
use Rattle.psy_slip.specs.Searches.{first_of, has}
use Rattle.psy_slip.specs.Statements.{first_twice, statement_of}
use Rattle.psy_text.specs.Words.{is_number}

-- What is told of a line that isn't skipped and in which a comment or a comma stands
abbrev pub sign_told : List (List ℕ) → Option (List ℕ)
sign_told line = if has Comment line then Some words.COMMENT.now else if has Comma line then Some words.COMMA.now else None

-- ---- a line of inputs

-- A date stands before the name, or behind it with a `@` (64) between.
abbrev pub has_date : List (List ℕ) → Bool
has_date [] = false
has_date (word ∷ more) = is_number word || list_any (λ b. b == 64) word

-- What is told of a line in which a date stands, or a sign between the name and its values
abbrev pub listing_told : List (List ℕ) → Option (List ℕ)
listing_told line = if has_date line then Some words.DATE.now else if has Equal line then Some words.EQUAL.now else None

-- What is wrong with the values behind a name, where a word of the line begins with no letter; else these are the names of columns.
abbrev pub values_slip : Bool → List ℕ → List (List ℕ) → Option (List ℕ)
values_slip listing name [] = Some (about words.VALUE_MISSING.now name)
values_slip listing name (word ∷ more) =
    if listing then option_map (λ w. about words.NO_VALUE.now w) (first_of NoValue (word ∷ more)) else Some words.HEAD.now

-- What is wrong with its form
abbrev pub listing_slip : List (List ℕ) → Option (List ℕ)
listing_slip [] = None
listing_slip (name ∷ values) = values_slip (has NoLetter (name ∷ values)) name values

-- A name is no input of the program; in one with a point (46 is `.`) an agent may be named before it, and one with which a line of a script begins may stand
-- in the wrong file.
abbrev pub no_input : List ℕ → List ℕ
no_input name =
    if list_any (λ b. b == 46) name then words.POINTED.now
    else if is_some (statement_of name) then words.OF_SCRIPT.now
    else words.NO_INPUT.now

-- The same of the first word of a line
abbrev pub input_slip : List (List ℕ) → Option (List ℕ)
input_slip [] = None
input_slip (name ∷ values) = Some (about (no_input name) name)

-- The input of a line has its values from another: from the line of this number, where it is known
abbrev pub listed_slip : List (List ℕ) → Option ℕ → Option (List ℕ)
listed_slip [] line = None
listed_slip (name ∷ values) None = Some (about words.LISTED.now name)
listed_slip (name ∷ values) (Some line) = Some (fill words.LISTED_AT.now (shown name ∷ decimal line ∷ []))

-- ---- a line of a script

-- What is wrong with the form of a stall, by the words behind `stall`: its agent, and three numbers
unfoldable pub stall_slip : List (List ℕ) → Option (List ℕ)
stall_slip [] = Some (fill words.STALL_WORDS.now (decimal 0 ∷ []))
stall_slip (agent ∷ numbers) =
    if length numbers == 3 then option_map (λ w. about words.NO_NUMBER.now w) (first_of NoNumber numbers)
    else Some (fill words.STALL_WORDS.now (decimal (length (agent ∷ numbers)) ∷ []))

-- The same of an order: its cycle, and names
unfoldable pub order_slip : List (List ℕ) → List ℕ
order_slip [] = words.ORDER_WORDS.now
order_slip (cycle ∷ names) =
    if is_number cycle then fill words.ORDER_NAMES.now (decimal (length names) ∷ []) else about words.NO_NUMBER.now cycle

-- The same of a round, by the first word that is no number, where one is; else how many stand behind its cycle
abbrev pub numbers_slip : ℕ → Option (List ℕ) → List ℕ
numbers_slip count None = fill words.ROUND_NUMBERS.now (decimal count ∷ [])
numbers_slip count (Some word) = about words.NO_NUMBER.now word

unfoldable pub round_slip : List (List ℕ) → List ℕ
round_slip [] = words.ROUND_WORDS.now
round_slip (cycle ∷ numbers) = numbers_slip (length numbers) (first_of NoNumber (cycle ∷ numbers))

-- The same of a line, by the statement with which it begins, that word, and those behind it
abbrev pub form_slip : Option Statement → List ℕ → List (List ℕ) → Option (List ℕ)
form_slip (Some Stall) word behind = stall_slip behind
form_slip (Some Order) word behind = Some (order_slip behind)
form_slip (Some Round) word behind = Some (round_slip behind)
form_slip None word behind = Some (about words.NO_STATEMENT.now word)

abbrev pub statement_slip : List (List ℕ) → Option (List ℕ)
statement_slip [] = None
statement_slip (word ∷ behind) = form_slip (statement_of word) word behind

-- The words behind the second
abbrev pub names_behind : List (List ℕ) → List (List ℕ)
names_behind (word ∷ one ∷ names) = names
names_behind _ = []

-- One of these names, with this list of them, is no agent.
abbrev pub strangers_told : List (List ℕ) → List ℕ → List ℕ
strangers_told [] list = words.SOME_STRANGER.now
strangers_told (name ∷ more) list = fill words.STRANGERS.now (list ∷ [])

-- The agent of a stall that isn't one; of an order, what is told of its names
abbrev pub agent_of : Option Statement → List ℕ → List ℕ → List ℕ
agent_of (Some Stall) agent strangers = about words.NO_AGENT.now agent
agent_of _ agent strangers = strangers

abbrev pub agent_slip : List (List ℕ) → List ℕ → Option (List ℕ)
agent_slip (word ∷ agent ∷ more) strangers = Some (agent_of (statement_of word) agent strangers)
agent_slip _ strangers = None

-- Behind the cycle of an order a name stands again behind itself, or behind that of a round a number.
abbrev pub twice_slip : Statement → List (List ℕ) → Option (List ℕ)
twice_slip Stall names = None
twice_slip statement names = option_map (λ w. about words.TWICE.now w) (first_twice statement names)

abbrev pub names_slip : List (List ℕ) → Option (List ℕ)
names_slip (word ∷ cycle ∷ names) = option_and_then (λ statement. twice_slip statement names) (statement_of word)
names_slip _ = None

-- What a line says is said by the line of this number, where it is known; else a name or a number stands there twice.
abbrev pub said_slip : List (List ℕ) → Option ℕ → Option (List ℕ)
said_slip line None = names_slip line
said_slip line (Some number) = Some (fill words.SAID_AT.now (decimal number ∷ []))

-- ---- what is told

-- What is wrong with a line of inputs, by the number of its fault: its form, its name, that it is said again, or a value
abbrev pub inputs_slip : ℕ → List ℕ → List (List ℕ) → Option (List ℕ)
inputs_slip number earlier line =
    if number == 1 then first_some (sign_told line ∷ listing_told line ∷ listing_slip line ∷ [])
    else if number == 2 then first_some (sign_told line ∷ listing_told line ∷ input_slip line ∷ [])
    else if number == 3 then listed_slip line (first_like Inputs line earlier)
    else if number == 4 then listing_range line
    else None

-- The same of a line of a script; of an order, the names among which one is no agent, given the bytes of earlier lines
abbrev pub script_slip : ℕ → List ℕ → List (List ℕ) → Option (List ℕ)
script_slip number earlier line =
    if number == 1 then first_some (sign_told line ∷ statement_slip line ∷ [])
    else if number == 2 then first_some (sign_told line ∷ agent_slip line
    (strangers_told (strangers earlier (names_behind line)) (listed words.OR.now (strangers earlier (names_behind line)))) ∷ [])
    else if number == 3 then said_slip line (first_like Script line earlier)
    else if number == 4 then statement_range line
    else None

-- What is wrong with a line, by its words, behind the bytes of earlier lines. Of a program's line nothing is told.
abbrev pub slip : File → ℕ → List ℕ → List (List ℕ) → Option (List ℕ)
slip Program number earlier line = None
slip Inputs number earlier line = inputs_slip number earlier line
slip Script number earlier line = script_slip number earlier line

-- The line in which it is told, where something is
abbrev pub slip_line : Option (List ℕ) → List ℕ
slip_line told = hint told
