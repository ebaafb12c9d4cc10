-- The bytes of each part of an image.
use Rattle.std.specs.Prelude.{ℕ, ℤ, ◌+◌, List, [], ◌∷◌, ◌++◌, length, Option, Some, None}
use Rattle.std.specs.Int.{w32, cast_unsigned, to_le_bytes}
use Rattle.std.specs.List.{flat_map}
use Rattle.psy_clock.specs.declared.clock.Clock.{Clock}
use Rattle.psy_code.specs.declared.code.AgentCode.{AgentCode}
use Rattle.psy_code.specs.declared.code.Code.{Code}
use Rattle.psy_code.specs.declared.code.CopyInit.{CopyInit}
use Rattle.psy_code.specs.declared.code.FunctionCode.{FunctionCode}
use Rattle.psy_code.specs.declared.instr.Instr.{Instr}
use Rattle.psy_code.specs.declared.instr.Instr.TheVariants as instr
use Rattle.psy_code.specs.Rows.{byte_of}
use Rattle.psy_tree.specs.declared.unit.AgentDecl.{AgentDecl}
use Rattle.psy_tree.specs.declared.unit.Point.{Point}
use Rattle.psy_tree.specs.declared.unit.StreamDecl.{StreamDecl}
use Rattle.psy_tree.specs.declared.unit.Unit.{Unit as Whole}
use Rattle.psy_tree.specs.declared.unit.VarDecl.{VarDecl}

-- Four bytes, the lowest first
abbrev pub number_bytes : ℕ → List ℕ
number_bytes n = to_le_bytes w32 n

-- The same of a number with its sign
abbrev pub value_bytes : ℤ → List ℕ
value_bytes z = to_le_bytes w32 (cast_unsigned w32 z)

-- How many bytes a name has, and these
abbrev pub name_bytes : List ℕ → List ℕ
name_bytes name = number_bytes (length name) ++ name

-- A count, and the members
abbrev pub list_bytes : {X : Type 0} → (X → List ℕ) → List X → List ℕ
list_bytes bytes xs = number_bytes (length xs) ++ flat_map bytes xs

-- The members of two lists side by side, as far as the second goes
abbrev pub paired_bytes : {X Y : Type 0} → (X → Y → List ℕ) → List X → List Y → List ℕ
paired_bytes bytes xs [] = []
paired_bytes bytes [] (y ∷ ys) = []
paired_bytes bytes (x ∷ xs) (y ∷ ys) = bytes x y ++ paired_bytes bytes xs ys

-- A clock
abbrev pub clock_bytes : List ℕ → Clock → List ℕ
clock_bytes name c = name_bytes name ++ (number_bytes c.period ++ number_bytes c.first)

-- The number of an owner plus 1, or 0 for none
abbrev pub owner_number : Option ℕ → ℕ
owner_number None = 0
owner_number (Some owner) = owner + 1

-- A variable
abbrev pub variable_bytes : VarDecl → List ℕ
variable_bytes v = name_bytes v.name ++ (number_bytes (owner_number v.owner) ++ (number_bytes v.clock ++ (value_bytes v.init ++ number_bytes v.depth)))

-- A stream
abbrev pub stream_bytes : StreamDecl → List ℕ
stream_bytes s = name_bytes s.name ++ (number_bytes s.receiver ++ (number_bytes s.keep ++ number_bytes s.clock))

-- A function
abbrev pub function_bytes : FunctionCode → List ℕ
function_bytes f = number_bytes f.entry ++ (number_bytes f.params ++ (list_bytes value_bytes f.locals ++ number_bytes f.counters))

-- A point, with its place
abbrev pub point_bytes : ℕ → Point → List ℕ
point_bytes place p = number_bytes p.count ++ (number_bytes p.clock ++ (number_bytes p.budget ++ number_bytes place))

-- A copy
abbrev pub copy_bytes : CopyInit → List ℕ
copy_bytes c = number_bytes c.variable ++ value_bytes c.init

-- What an agent declares, with the places of its points
abbrev pub declaration_bytes : AgentDecl → List ℕ → List ℕ
declaration_bytes a places = name_bytes a.name ++ (number_bytes a.clock ++ (number_bytes a.budget ++ (number_bytes a.processor
    ++ (number_bytes (length a.points) ++ paired_bytes point_bytes places a.points))))

-- What an agent's machine is made from, but for the places of its points
abbrev pub machine_bytes : AgentCode → List ℕ
machine_bytes c =
    list_bytes value_bytes c.cells ++ (number_bytes c.counters ++ (list_bytes copy_bytes c.copies ++ (number_bytes c.stack ++ number_bytes c.frames)))

-- An agent
abbrev pub agent_bytes : AgentDecl → AgentCode → List ℕ
agent_bytes a c = declaration_bytes a c.points ++ machine_bytes c

-- The operands of an instruction
abbrev pub operand_bytes : Instr → List ℕ
operand_bytes (instr.Push number) = value_bytes number
operand_bytes (instr.Load cell) = number_bytes cell
operand_bytes (instr.Store cell) = number_bytes cell
operand_bytes (instr.LoadCell base cells) = number_bytes base ++ number_bytes cells
operand_bytes (instr.StoreCell base cells) = number_bytes base ++ number_bytes cells
operand_bytes (instr.LoadCopy variable) = number_bytes variable
operand_bytes (instr.StoreCopy variable) = number_bytes variable
operand_bytes (instr.Past variable back) = number_bytes variable ++ number_bytes back
operand_bytes (instr.Ready stream) = number_bytes stream
operand_bytes (instr.Take stream) = number_bytes stream
operand_bytes (instr.Send stream after clock) = number_bytes stream ++ (number_bytes after ++ number_bytes clock)
operand_bytes (instr.Jump to) = number_bytes to
operand_bytes (instr.JumpZero to) = number_bytes to
operand_bytes (instr.AndTest to) = number_bytes to
operand_bytes (instr.OrTest to) = number_bytes to
operand_bytes instr.Truth = []
operand_bytes (instr.Zero counter) = number_bytes counter
operand_bytes (instr.Guard counter bound) = number_bytes counter ++ number_bytes bound
operand_bytes (instr.Call function) = number_bytes function
operand_bytes instr.Return = []
operand_bytes (instr.Advance point) = number_bytes point
operand_bytes (instr.Binary operator width) = []
operand_bytes (instr.Unary operator width) = []
operand_bytes (instr.Cast width) = []

-- An instruction
abbrev pub instr_bytes : Instr → List ℕ
instr_bytes i = byte_of i ∷ operand_bytes i

-- The clocks, with their names
unfoldable pub clocks_bytes : List (List ℕ) → List Clock → List ℕ
clocks_bytes names clocks = number_bytes (length clocks) ++ paired_bytes clock_bytes names clocks

-- The agents
unfoldable pub agents_bytes : List AgentDecl → List AgentCode → List ℕ
agents_bytes agents codes = number_bytes (length codes) ++ paired_bytes agent_bytes agents codes

-- All of it
unfoldable pub image_bytes : Whole → Code → List ℕ
image_bytes unit code = (80 ∷ 83 ∷ 89 ∷ 67 ∷ 1 ∷ []) ++ (number_bytes unit.quantum ++ (clocks_bytes unit.clock_names unit.clocks
    ++ (list_bytes variable_bytes unit.variables ++ (list_bytes stream_bytes unit.streams ++ (list_bytes function_bytes code.functions
    ++ (agents_bytes unit.agents code.agents ++ list_bytes instr_bytes code.instrs))))))
