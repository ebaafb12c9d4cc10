-- Depths as they are counted, in 64 bits.
use Rattle.std.specs.Prelude.{◌-◌, ◌^◌, min, List, [], ◌∷◌, ◌++◌}
use Rattle.psy_tree.specs.declared.unit.FunctionDecl.{FunctionDecl}
use Rattle.psy_meaning.specs.Depths.{Depth, call_depth}
use Rattle.psy_flow.specs.declared.depths.Depths.{Depths}

-- What the two numbers stand for
abbrev pub held : Depths → Depth
held d = record { operands = d.operands; cells = d.cells }

-- A depth as far as it can be counted
abbrev pub capped_depth : Depth → Depth
capped_depth d = record { operands = min d.operands (2 ^ 64 - 1); cells = min d.cells (2 ^ 64 - 1) }

-- The depths of the functions' calls, in order, each as far as it can be counted
abbrev pub counted_calls_from : List Depth → List FunctionDecl → List Depth
counted_calls_from above [] = above
counted_calls_from above (f ∷ rest) = counted_calls_from (above ++ capped_depth (call_depth above f) ∷ []) rest

-- Those of all functions of a unit
abbrev pub counted_calls : List FunctionDecl → List Depth
counted_calls functions = counted_calls_from [] functions
