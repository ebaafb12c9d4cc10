-- The text of each instruction: its name, and what it names. Places and cells go by their numbers; variables, streams, clocks and functions by their names.
use Rattle.std.specs.Prelude.{ℕ, List, [], ◌∷◌, ◌++◌, Option, None, Some, codes, decimal, get_or, slice_get}
use Rattle.std.specs.Fmt.{signed_decimal}
use mir.Val.{bits}
use Rattle.psy_arith.specs.declared.operators.Op1.{Op1}
use Rattle.psy_arith.specs.declared.operators.Op1.TheVariants as one
use Rattle.psy_arith.specs.declared.operators.Op2.{Op2}
use Rattle.psy_arith.specs.declared.operators.Op2.TheVariants as op
use Rattle.psy_arith.specs.declared.width.Width.{Width}
use Rattle.psy_arith.specs.declared.width.Width.TheVariants as width
use Rattle.psy_arith.specs.Widths.{of_type}
use Rattle.psy_code.specs.declared.instr.Instr.{Instr}
use Rattle.psy_code.specs.declared.instr.Instr.TheVariants as instr
use Rattle.psy_page.specs.Templates.{fill}
use Rattle.psy_tree.specs.declared.unit.FunctionDecl.{FunctionDecl}
use Rattle.psy_tree.specs.declared.unit.Unit.{Unit as Whole}
use Rattle.psy_tree.specs.Parts.{stream_at, variable_at}

abbrev pub binary_name : Op2 → List ℕ
binary_name op.Mul = codes "mul"
binary_name op.Div = codes "div"
binary_name op.Rem = codes "rem"
binary_name op.Add = codes "add"
binary_name op.Sub = codes "sub"
binary_name op.Shl = codes "shl"
binary_name op.Shr = codes "shr"
binary_name op.Lt = codes "lt"
binary_name op.Le = codes "le"
binary_name op.Gt = codes "gt"
binary_name op.Ge = codes "ge"
binary_name op.Eq = codes "eq"
binary_name op.Ne = codes "ne"
binary_name op.And = codes "and"
binary_name op.Xor = codes "xor"
binary_name op.Or = codes "or"
binary_name op.AndAnd = codes "and-and"
binary_name op.OrOr = codes "or-or"

abbrev pub unary_name : Op1 → List ℕ
unary_name one.Neg = codes "neg"
unary_name one.Flip = codes "flip"
unary_name one.Not = codes "not"

-- Behind the name of an operator stands its width, where that isn't 32.
abbrev pub width_text : Width → List ℕ
width_text width.W32 = []
width_text at = fill (codes " $") (decimal (bits (of_type at)) ∷ [])

-- `not` is one instruction for all widths.
abbrev pub unary_text : Op1 → Width → List ℕ
unary_text one.Not at = unary_name one.Not
unary_text operator at = unary_name operator ++ width_text at

-- The name of a clock, and of a function, by number
abbrev pub clock_name : Whole → ℕ → List ℕ
clock_name unit clock = get_or unit.clock_names clock []

abbrev pub name_in : Option FunctionDecl → List ℕ
name_in None = []
name_in (Some function) = function.name

abbrev pub function_name : Whole → ℕ → List ℕ
function_name unit function = name_in (slice_get unit.functions function)

abbrev pub instr_text : Whole → Instr → List ℕ
instr_text unit (instr.Push number) = fill (codes "push $") (signed_decimal number ∷ [])
instr_text unit (instr.Load cell) = fill (codes "load $") (decimal cell ∷ [])
instr_text unit (instr.Store cell) = fill (codes "store $") (decimal cell ∷ [])
instr_text unit (instr.LoadCell base cells) = fill (codes "load-cell $ $") (decimal base ∷ decimal cells ∷ [])
instr_text unit (instr.StoreCell base cells) = fill (codes "store-cell $ $") (decimal base ∷ decimal cells ∷ [])
instr_text unit (instr.LoadCopy variable) = fill (codes "load-copy $") ((variable_at unit variable).name ∷ [])
instr_text unit (instr.StoreCopy variable) = fill (codes "store-copy $") ((variable_at unit variable).name ∷ [])
instr_text unit (instr.Past variable back) = fill (codes "past $ $") ((variable_at unit variable).name ∷ decimal back ∷ [])
instr_text unit (instr.Ready stream) = fill (codes "ready $") ((stream_at unit stream).name ∷ [])
instr_text unit (instr.Take stream) = fill (codes "take $") ((stream_at unit stream).name ∷ [])
instr_text unit (instr.Send stream after clock) =
    fill (codes "send $ after $ on $") ((stream_at unit stream).name ∷ decimal after ∷ clock_name unit clock ∷ [])
instr_text unit (instr.Jump to) = fill (codes "jump $") (decimal to ∷ [])
instr_text unit (instr.JumpZero to) = fill (codes "jump-zero $") (decimal to ∷ [])
instr_text unit (instr.AndTest to) = fill (codes "and-test $") (decimal to ∷ [])
instr_text unit (instr.OrTest to) = fill (codes "or-test $") (decimal to ∷ [])
instr_text unit instr.Truth = codes "truth"
instr_text unit (instr.Zero counter) = fill (codes "zero $") (decimal counter ∷ [])
instr_text unit (instr.Guard counter bound) = fill (codes "guard $ $") (decimal counter ∷ decimal bound ∷ [])
instr_text unit (instr.Call function) = fill (codes "call $") (function_name unit function ∷ [])
instr_text unit instr.Return = codes "return"
instr_text unit (instr.Advance point) = fill (codes "advance $") (decimal point ∷ [])
instr_text unit (instr.Binary operator at) = binary_name operator ++ width_text at
instr_text unit (instr.Unary operator at) = unary_text operator at
instr_text unit (instr.Cast at) = fill (codes "cast $") (decimal (bits (of_type at)) ∷ [])
