-- What is left of the proof of `functions::emit_functions`.
use Rattle.std.proofs.Common.{◌+◌, List, ◌++◌, drop, map, length, sym, ap, subst, ◌∙◌, arith}
use Rattle.std.proofs.lemmas.List.Elements.{All-get_or}
use Rattle.psy_lists.proofs.lemmas.Places.{drop_read}
use Rattle.psy_tree.specs.declared.unit.FunctionDecl.{FunctionDecl}
use Rattle.psy_tree.specs.Paths.{total}
use Rattle.psy_meaning.specs.Units.{IsBareFunction}
use Rattle.psy_gen.specs.Emission.{codes_from, function_code, function_size, function_entries}
use Rattle.psy_gen.proofs.Small.{codes_left}
use Rattle.psy_gen.proofs.Wholes.{function_length, functions_more, function_entries_more}
use Rattle.psy_gen.proofs.functions.emit_functions.Goals as goal

pub loop-function-preserved : goal.loop-function-preserved
loop-function-preserved c =
    let f = c.function-item.result in
    let rest = drop (c.loop-function.function-index + 1) c.args.functions.now in
    let here = drop_read c.args.functions.now c.loop-function.function-index f c.loop-function-test.true c.function-item.is in
    let at = length c.loop-function.code in
    record {
      code = functions_more f rest _ _ c.in_ok-emit_function.ensures.code ∙ ap (λ fs. c.loop-function.code ++ codes_from function_code function_size fs at) (sym here) ∙ c.loop-function.invariant.code;
      entries = function_entries_more f rest _ _ _ _ _ c.in_ok-emit_function.ensures.code c.in_ok-emit_function.ensures.entry c.in_ok-push.ensures.ok ∙ ap (λ fs. c.loop-function.entries ++ function_entries fs at) (sym here) ∙ c.loop-function.invariant.entries;
    }

pub emit_function-requires-clause-function : goal.emit_function-requires-clause-function
emit_function-requires-clause-function c =
    subst IsBareFunction (sym c.function-item.is) (All-get_or IsBareFunction c.args.functions.now c.loop-function.function-index c.function-item.result c.loop-function-test.true c.requires.functions)

pub emit_function-requires-clause-room : goal.emit_function-requires-clause-room
emit_function-requires-clause-room c =
    let fs = c.args.functions.now in
    let i = c.loop-function.function-index in
    let here = ap (λ (gs : List FunctionDecl). total (map function_size gs)) (drop_read fs i c.function-item.result c.loop-function-test.true c.function-item.is) in
    omega (arith, c.requires.room, here, codes_left function_code function_size function_length (drop i fs) fs c.args.code.now c.loop-function.code c.loop-function.invariant.code)
