-- What a program tells of a line of inputs or of a script: what else a name is, which name may be meant, and which names there are.
use Rattle.std.specs.Prelude.{ℕ, ◌==◌, nat_le, if◌then◌else◌, List, [], ◌∷◌, ◌++◌, find, length, take, Option, None, Some, is_none, is_some, option_map}
use Rattle.psy_page.specs.Templates.{fill}
use Rattle.psy_page.specs.Told.{about, hint}
use Rattle.psy_slip.specs.declared.beside.TheConstants.{OTHERS}
use Rattle.psy_slip.specs.declared.declared.How.TheVariants.{Same, Near}
use Rattle.psy_slip.specs.declared.sentences.TheConstants as told
use Rattle.psy_slip.specs.declared.slip.File.{File}
use Rattle.psy_slip.specs.declared.slip.File.TheVariants.{Program, Inputs, Script}
use Rattle.psy_slip.specs.declared.statement.Statement.{Statement}
use Rattle.psy_slip.specs.declared.statement.Statement.TheVariants.{Order, Stall}
use Rattle.psy_slip.specs.Declarations.{declared, first_declared, inputs_of}
use Rattle.psy_slip.specs.Listings.{listed}
use Rattle.psy_slip.specs.Statements.{is_among, statement_of}
use Rattle.psy_text.specs.Words.{is_number}
use Rattle.psy_tree.specs.declared.token.Token.{Token}
use Rattle.psy_tree.specs.declared.token.Word.{Word}
use Rattle.psy_tree.specs.declared.token.Word.TheVariants.{Agent, Clock, Input, Stream, Temporal}

-- ---- a name that is no input

-- The first word with which the program declares a name as something else
abbrev pub other_word : List ℕ → List Token → Option Word
other_word name tokens = find (λ word. is_some (first_declared Same word name tokens)) OTHERS

-- What a name is that this word declares
abbrev pub kind_told : Word → List ℕ
kind_told Temporal = told.IS_TEMPORAL.now
kind_told Stream = told.IS_STREAM.now
kind_told Agent = told.IS_AGENT.now
kind_told Clock = told.IS_CLOCK.now
kind_told _ = told.IS_INSIDE.now

-- What is told of a name that is declared with this word, where it is
abbrev pub other_told : List ℕ → Option Word → Option (List ℕ)
other_told name word = option_map (λ w. about (kind_told w) name) word

-- Which inputs the program has, with this list of the first of them
abbrev pub inputs_told : List (List ℕ) → List ℕ → List ℕ
inputs_told [] list = told.NO_INPUTS.now
inputs_told (name ∷ []) list = fill told.ONLY_INPUT.now (list ∷ [])
inputs_told (name ∷ other ∷ more) list =
    if nat_le (length (name ∷ other ∷ more)) 8 then fill told.ALL_INPUTS.now (list ∷ []) else fill told.FIRST_INPUTS.now (list ∷ [])

-- The same by its tokens: eight at most are listed.
abbrev pub inputs_listed : List Token → List ℕ
inputs_listed tokens = hint (Some (inputs_told (inputs_of tokens) (listed told.AND.now (take 8 (inputs_of tokens)))))

-- The input that may be meant, or else which inputs there are
abbrev pub meant_or_all : Option (List ℕ) → List Token → List ℕ
meant_or_all None tokens = inputs_listed tokens
meant_or_all (Some name) tokens = hint (Some (about told.INPUT_MEANT.now name))

-- What is told of a name that is no input: what else it is; and the input that may be meant by it, or else which inputs there are
abbrev pub input_meant : List ℕ → List Token → List ℕ
input_meant name tokens = hint (other_told name (other_word name tokens)) ++ meant_or_all (first_declared Near Input name tokens) tokens

-- The same of a line of inputs
abbrev pub inputs_beside : List (List ℕ) → List Token → List ℕ
inputs_beside [] tokens = []
inputs_beside (name ∷ values) tokens = input_meant name tokens

-- ---- names that are no agents, or are left out

-- An agent that isn't among the names of an order
abbrev pub left_out_here : List (List ℕ) → Option (List ℕ) → Option (List ℕ)
left_out_here names None = None
left_out_here names (Some agent) = if is_among Order names agent then None else Some (about told.LEFT_OUT.now agent)

-- Each agent that the program declares and that isn't among them
abbrev pub left_out : List (List ℕ) → List Token → List ℕ
left_out names [] = []
left_out names (token ∷ more) = hint (left_out_here names (declared Agent (token ∷ more))) ++ left_out names more

-- What is told of a line that may be an order which leaves agents out
abbrev pub order_left_out : Option Statement → List ℕ → List (List ℕ) → List Token → List ℕ
order_left_out (Some Order) cycle names tokens = if is_number cycle then left_out names tokens else []
order_left_out _ cycle names tokens = []

abbrev pub order_beside : List (List ℕ) → List Token → List ℕ
order_beside (word ∷ cycle ∷ names) tokens = order_left_out (statement_of word) cycle names tokens
order_beside _ tokens = []

-- The agent that may be meant by a name
abbrev pub agent_meant : List ℕ → List Token → Option (List ℕ)
agent_meant name tokens = option_map (λ near. about told.AGENT_MEANT.now near) (first_declared Near Agent name tokens)

-- The first of some names that is no agent
abbrev pub first_unknown : List (List ℕ) → List Token → Option (List ℕ)
first_unknown names tokens = find (λ name. is_none (first_declared Same Agent name tokens)) names

-- What is told of it: that, and the agent that may be meant by it
abbrev pub first_stranger : Option (List ℕ) → List Token → List ℕ
first_stranger None tokens = []
first_stranger (Some name) tokens = hint (Some (about told.NO_SUCH_AGENT.now name)) ++ hint (agent_meant name tokens)

-- What is told of a stall of nobody, or of an order that names somebody else
abbrev pub names_told : Option Statement → List ℕ → List (List ℕ) → List Token → List ℕ
names_told (Some Stall) agent names tokens = hint (agent_meant agent tokens)
names_told _ agent names tokens = first_stranger (first_unknown names tokens) tokens

abbrev pub names_beside : List (List ℕ) → List Token → List ℕ
names_beside (word ∷ agent ∷ names) tokens = names_told (statement_of word) agent names tokens
names_beside _ tokens = []

-- ---- a line

-- What is told of a line of a script, by the number of its fault
abbrev pub script_beside : ℕ → List (List ℕ) → List Token → List ℕ
script_beside number line tokens = if number == 1 then order_beside line tokens else if number == 2 then names_beside line tokens else []

-- What a program's tokens tell of a line, by its words, in which this fault of inputs or of a script was found
abbrev pub beside_hint : File → ℕ → List (List ℕ) → List Token → List ℕ
beside_hint Program number line tokens = []
beside_hint Inputs number line tokens = if number == 2 then inputs_beside line tokens else []
beside_hint Script number line tokens = script_beside number line tokens
