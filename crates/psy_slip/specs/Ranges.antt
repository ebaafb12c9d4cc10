-- Which number of a line is out of its range, and what its range is.
use Rattle.std.specs.Prelude.{ℕ, ◌||◌, if◌then◌else◌, List, [], ◌∷◌, Option, None, Some, option_map}
use Rattle.psy_base.specs.declared.limits.TheConstants.{RUN, STALL}
use Rattle.psy_page.specs.Told.{about, first_some}
use Rattle.psy_slip.specs.declared.sentences.TheConstants as words
use Rattle.psy_slip.specs.declared.sought.Sought.TheVariants.{Beyond}
use Rattle.psy_slip.specs.declared.statement.Statement.{Statement}
use Rattle.psy_slip.specs.declared.statement.Statement.TheVariants.{Stall, Order, Round}
use Rattle.psy_slip.specs.Numbers.{greatest, is_above, is_nothing}
use Rattle.psy_slip.specs.Searches.{first_of}
use Rattle.psy_slip.specs.Statements.{statement_of}

-- The first value of a line of inputs, by its words, that has more than 32 bits
abbrev pub listing_range : List (List ℕ) → Option (List ℕ)
listing_range [] = None
listing_range (name ∷ values) = option_map (λ w. about words.VALUE_RANGE.now w) (first_of Beyond values)

-- The numbers of a stall: its action, its instruction, and its cycles
abbrev pub numbers_range : List ℕ → List ℕ → List ℕ → Option (List ℕ)
numbers_range action instr cycles =
    if is_above STALL action then Some (about words.ACTION_RANGE.now action)
    else if is_above STALL instr then Some (about words.INSTRUCTION_RANGE.now instr)
    else if is_nothing cycles || is_above STALL cycles then Some (about words.CYCLES_RANGE.now cycles)
    else None

-- The same by the words behind `stall`
unfoldable pub stall_range : List (List ℕ) → Option (List ℕ)
stall_range (agent ∷ action ∷ instr ∷ cycles ∷ []) = numbers_range action instr cycles
stall_range _ = None

-- The cycle from which an order or a round holds, by the words behind `order` or `round`
unfoldable pub from_range : List ℕ → List (List ℕ) → Option (List ℕ)
from_range told [] = None
from_range told (cycle ∷ names) = if is_above RUN cycle then Some (about told cycle) else None

-- The greatest number of a round, by the words behind `round`: where one of them is no processor's, that one isn't.
unfoldable pub processors_range : List (List ℕ) → Option (List ℕ)
processors_range (cycle ∷ word ∷ more) = Some (about words.NO_PROCESSOR.now (greatest word more))
processors_range _ = None

-- The number of a line of a script that is, by its statement and the words behind that
abbrev pub range_of : List (List ℕ) → Option Statement → Option (List ℕ)
range_of behind (Some Stall) = stall_range behind
range_of behind (Some Order) = from_range words.ORDER_RANGE.now behind
range_of behind (Some Round) = first_some (from_range words.ROUND_RANGE.now behind ∷ processors_range behind ∷ [])
range_of behind None = None

abbrev pub statement_range : List (List ℕ) → Option (List ℕ)
statement_range [] = None
statement_range (word ∷ behind) = range_of behind (statement_of word)
