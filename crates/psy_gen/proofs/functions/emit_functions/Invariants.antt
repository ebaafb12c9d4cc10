-- What each loop of `functions::emit_functions` keeps.
use Rattle.std.proofs.Common.{◌≡◌, ◌++◌, drop, length}
use Rattle.psy_gen.specs.Emission.{codes_from, function_code, function_size, function_entries}
use Rattle.psy_gen.proofs.functions.emit_functions.Given as goal

abbrev pub invariant-loop-function : goal.invariant-loop-function
invariant-loop-function l = record {
  code : l.code ++ codes_from function_code function_size (drop l.function-index l.functions) (length l.code) ≡ l.fn.code ++ codes_from function_code function_size l.functions (length l.fn.code);
  entries : l.entries ++ function_entries (drop l.function-index l.functions) (length l.code) ≡ function_entries l.functions (length l.fn.code);
}
