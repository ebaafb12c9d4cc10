-- What is left of the proof of `paths::found_lists`.
use Rattle.std.proofs.Common.{List, ℕ, subst}
use Rattle.std.proofs.lemmas.Result.{IfOk-weaker}
use Rattle.psy_code.specs.declared.instr.Instr.{Instr}
use Rattle.psy_flow.specs.Bits.{AreRows}
use Rattle.psy_flow.specs.CodeLists.{AreAllNumbers, AreFoundLists}
use Rattle.psy_flow.proofs.FoundRows.{lists_found}
use Rattle.psy_flow.proofs.paths.found_lists.Goals as goal

pub returns : goal.returns
returns c =
    let code = c.args.code.now in
    let rows = c.in_ok-rows.rows in
    let are : AreRows code.instrs c.args.sought c.args.count rows = subst (λ (is : List Instr). AreRows is c.args.sought c.args.count rows) c.as_slice.ensures c.in_ok-rows.ensures in
    IfOk-weaker c.all_numbers.result _ (AreFoundLists code c.args.sought c.args.count)
    (λ lists all. lists_found code c.args.sought c.args.count rows are lists (subst (λ (read : List (List ℕ)). AreAllNumbers read code lists) c.as_slice-2.ensures all)) c.all_numbers.ensures
