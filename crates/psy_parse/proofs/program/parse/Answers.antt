-- What is left of the proof of `program::parse`.
use Rattle.std.proofs.Common.{◌≡◌, ◌-◌, length, subst}
use Rattle.psy_parse.specs.Fault.{AtFault}
use Rattle.psy_parse.proofs.FaultAt.{spells_from_reading, fault_at, left_within}
use Rattle.psy_parse.proofs.AgainItems.{only_tree, no_tree}
use Rattle.psy_parse.proofs.program.parse.Goals as goal

pub returns-in-Ok-clause-tree : goal.returns-in-Ok-clause-tree
returns-in-Ok-clause-tree c = spells_from_reading _ _ c.in-Ok.ensures

pub returns-in-Ok-clause-only : goal.returns-in-Ok-clause-only
returns-in-Ok-clause-only c = λ other s. only_tree _ _ other c.in-Ok.ensures s

pub returns-in-Ok-clause-no_tree : goal.returns-in-Ok-clause-no_tree
returns-in-Ok-clause-no_tree c = λ shallow none. absurd (none _ (spells_from_reading _ _ c.in-Ok.ensures))

pub overflow_sub-result : goal.overflow_sub-result
overflow_sub-result c = left_within _ _ (rw c.in-Err-Stuck.field-0-is at c.in-Err-Stuck.ensures)

pub returns-in-Err-Stuck-clause-syntax : goal.returns-in-Err-Stuck-clause-syntax
returns-in-Err-Stuck-clause-syntax c = λ n e. (c.in_default.ensures, no_tree _ _ (rw c.in-Err-Stuck.field-0-is at c.in-Err-Stuck.ensures))

pub returns-in-Err-Stuck-clause-at_fault : goal.returns-in-Err-Stuck-clause-at_fault
returns-in-Err-Stuck-clause-at_fault c n e =
    let same : length c.args.tokens.now - c.in-Err-Stuck.left ≡ n = cc in
    subst (λ m. AtFault c.args.tokens.now m) same (fault_at _ _ (rw c.in-Err-Stuck.field-0-is at c.in-Err-Stuck.ensures))
