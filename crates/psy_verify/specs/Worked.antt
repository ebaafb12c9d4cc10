-- Small codes that were worked out by hand.
use Rattle.std.specs.Prelude.{◌≡◌, ℕ, List, [], ◌∷◌, Some, ℤ, pos}
use Rattle.psy_arith.specs.declared.operators.Op1.TheVariants as one
use Rattle.psy_arith.specs.declared.operators.Op2.TheVariants as two
use Rattle.psy_arith.specs.declared.width.Width.TheVariants.{W32}
use Rattle.psy_code.specs.declared.code.Code.{Code}
use Rattle.psy_code.specs.declared.code.FunctionCode.{FunctionCode}
use Rattle.psy_code.specs.declared.instr.Instr.{Instr}
use Rattle.psy_code.specs.declared.instr.Instr.TheVariants as instr
use Rattle.psy_tree.specs.declared.unit.Unit.{Unit as Whole}
use Rattle.psy_tree.specs.declared.unit.VarDecl.{VarDecl}

-- The unit has one variable, which the first agent owns and of which the last date alone can be looked at.
abbrev pub HasOwn : Whole → Type 0
HasOwn unit = (v : VarDecl) × (unit.variables ≡ v ∷ []) × (v.owner ≡ Some 0) × (v.depth ≡ 1)

-- The code of one agent, with a cell, a copy of that variable, and its points at these places
abbrev pub of_one : List Instr → List ℕ → ℕ → ℕ → List FunctionCode → Code
of_one instrs points stack frames functions = record {
  instrs = instrs;
  agents = record {
    points = points;
    cells = pos 0 ∷ [];
    counters = 0;
    copies = record { variable = 0; init = pos 0 } ∷ [];
    stack = stack;
    frames = frames;
  } ∷ [];
  functions = functions;
}

-- ---- without functions

-- `x = x + 1; v = x; advance`, again and again; but for its first instruction, its operator, its end and its last jump
abbrev pub adding : Instr → Instr → Instr → Instr → List FunctionCode → Code
adding load operator end last functions = of_one
    (load ∷ instr.Push (pos 1) ∷ operator ∷ instr.Store 0 ∷ instr.Load 0 ∷ instr.StoreCopy 0 ∷ end ∷ last ∷ [])
    (0 ∷ 7 ∷ []) 2 0 functions

-- It adds 1 to its cell and publishes it, date by date.
abbrev pub counting : Code
counting = adding (instr.Load 0) (instr.Binary two.Add W32) (instr.Advance 1) (instr.Jump 0) []

-- Its jump leaves the code.
abbrev pub leaving : Code
leaving = adding (instr.Load 0) (instr.Binary two.Add W32) (instr.Advance 1) (instr.Jump 8) []

-- Its first place is that of a function too.
abbrev pub shared : Code
shared = adding (instr.Load 0) (instr.Binary two.Add W32) (instr.Advance 1) (instr.Jump 0) (record { entry = 0; params = 0; locals = []; counters = 0 } ∷ [])

-- It leaves an operand over.
abbrev pub heavy : Code
heavy = adding (instr.Load 0) (instr.Unary one.Neg W32) (instr.Advance 1) (instr.Jump 0) []

-- It begins with another instruction.
abbrev pub beginning : Instr → Code
beginning load = adding load (instr.Binary two.Add W32) (instr.Advance 1) (instr.Jump 0) []

-- It ends at another point.
abbrev pub ending : ℕ → Code
ending point = adding (instr.Load 0) (instr.Binary two.Add W32) (instr.Advance point) (instr.Jump 0) []

-- A `Store` finds its value on one way alone, and that way goes on.
abbrev pub uneven : Code
uneven = of_one (instr.Jump 2 ∷ instr.Advance 1 ∷ instr.Push (pos 0) ∷ instr.JumpZero 5 ∷ instr.Push (pos 1) ∷ instr.Store 0 ∷ instr.Jump 1 ∷ [])
    (0 ∷ 2 ∷ []) 9 0 []

-- It goes round for ever: with one operand more each time, without, and not at all.
abbrev pub growing : Code
growing = of_one (instr.Push (pos 1) ∷ instr.Jump 0 ∷ []) (0 ∷ []) 2 0 []

abbrev pub idle : Code
idle = of_one (instr.Jump 0 ∷ []) (0 ∷ []) 2 0 []

abbrev pub returning : Code
returning = of_one (instr.Push (pos 0) ∷ instr.Return ∷ []) (0 ∷ []) 2 0 []

-- ---- with a function

-- It calls a function, at place 4 with these instructions and locals and so many counters, and keeps its value.
abbrev pub calling : List Instr → ℕ → ℕ → List ℤ → ℕ → Code
calling body stack frames locals counters = of_one (instr.Call 0 ∷ instr.Store 0 ∷ instr.Advance 1 ∷ instr.Jump 0 ∷ body) (0 ∷ 3 ∷ []) stack frames
    (record { entry = 4; params = 0; locals = locals; counters = counters } ∷ [])

-- Two numbers are added.
abbrev pub sum : List Instr
sum = instr.Push (pos 1) ∷ instr.Push (pos 2) ∷ instr.Binary two.Add W32 ∷ instr.Return ∷ []

-- Two numbers are left.
abbrev pub pair : List Instr
pair = instr.Push (pos 1) ∷ instr.Push (pos 2) ∷ instr.Return ∷ []

-- One instruction, and back
abbrev pub just : Instr → List Instr
just i = i ∷ instr.Return ∷ []

-- The action is ended in the function.
abbrev pub ended : List Instr
ended = instr.Push (pos 0) ∷ instr.Advance 9 ∷ []
