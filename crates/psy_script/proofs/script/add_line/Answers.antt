-- What is left of the proof of `script::add_line`.
use Rattle.std.proofs.Common.{◌∙◌, None, Some, ap, sym}
use Rattle.psy_script.specs.Entries.{said}
use Rattle.psy_script.specs.Script.{is_in_range}
use Rattle.psy_script.proofs.ScriptFaults.{entry_found, names_none, narrow_entry, out_of_range, placed_more, says_so, stands_twice, without_fault}
use Rattle.psy_script.proofs.script.add_line.Goals as goal

pub returns-in_default-2-clause-fault : goal.returns-in_default-2-clause-fault
returns-in_default-2-clause-fault c = λ before is.
    let st = said c.in-Some.statement in
    let says = says_so c.args.unit.now c.args.line.now st c.len.result c.processors_of-processors.result c.if-is_skipped.ensures c.in-Some.ensures c.len.ensures c.processors_of-processors.ensures.exact in
    sym (names_none c.args.unit.now c.args.line.now st says before (entry_found c.args.unit.now c.args.agents.now st c.in_ok-entry.field-0 None c.requires.agents c.in_ok-entry.ensures c.in_default-2.is))

pub returns-then-clashes-clause-fault : goal.returns-then-clashes-clause-fault
returns-then-clashes-clause-fault c = λ before is.
    let st = said c.in-Some.statement in
    let says = says_so c.args.unit.now c.args.line.now st c.len.result c.processors_of-processors.result c.if-is_skipped.ensures c.in-Some.ensures c.len.ensures c.processors_of-processors.ensures.exact in
    let found = entry_found c.args.unit.now c.args.agents.now st c.in_ok-entry.field-0 (Some c.in-Some-2.entry) c.requires.agents c.in_ok-entry.ensures c.in-Some-2.is in
    sym (stands_twice c.args.unit.now c.args.line.now st says before c.in-Some-2.entry found c.args.placed.now is (sym c.if-clashes.ensures))

pub returns-then-not-is_in_range-clause-fault : goal.returns-then-not-is_in_range-clause-fault
returns-then-not-is_in_range-clause-fault c = λ before is.
    let st = said c.in-Some.statement in
    let says = says_so c.args.unit.now c.args.line.now st c.len.result c.processors_of-processors.result c.if-is_skipped.ensures c.in-Some.ensures c.len.ensures c.processors_of-processors.ensures.exact in
    let found = entry_found c.args.unit.now c.args.agents.now st c.in_ok-entry.field-0 (Some c.in-Some-2.entry) c.requires.agents c.in_ok-entry.ensures c.in-Some-2.is in
    sym (out_of_range c.args.unit.now c.args.line.now st says before c.in-Some-2.entry found c.args.placed.now is (sym c.if-clashes.ensures) (ap (λ n. is_in_range n st) (sym c.processors_of-processors.ensures.exact) ∙ sym c.if-not-is_in_range.ensures))

pub put-requires-clause-narrow : goal.put-requires-clause-narrow
put-requires-clause-narrow c =
    let st = said c.in-Some.statement in
    let found = entry_found c.args.unit.now c.args.agents.now st c.in_ok-entry.field-0 (Some c.in-Some-2.entry) c.requires.agents c.in_ok-entry.ensures c.in-Some-2.is in
    narrow_entry c.args.unit.now st c.in-Some-2.entry c.processors_of-processors.result found c.processors_of-processors.ensures.few (sym c.if-not-is_in_range.ensures)

pub returns-clause-fault : goal.returns-clause-fault
returns-clause-fault c = λ before is.
    let st = said c.in-Some.statement in
    let says = says_so c.args.unit.now c.args.line.now st c.len.result c.processors_of-processors.result c.if-is_skipped.ensures c.in-Some.ensures c.len.ensures c.processors_of-processors.ensures.exact in
    let found = entry_found c.args.unit.now c.args.agents.now st c.in_ok-entry.field-0 (Some c.in-Some-2.entry) c.requires.agents c.in_ok-entry.ensures c.in-Some-2.is in
    sym (without_fault c.args.unit.now c.args.line.now st says before c.in-Some-2.entry found c.args.placed.now is (sym c.if-clashes.ensures) (ap (λ n. is_in_range n st) (sym c.processors_of-processors.ensures.exact) ∙ sym c.if-not-is_in_range.ensures))

pub returns-clause-placed : goal.returns-clause-placed
returns-clause-placed c = λ before is sound.
    let st = said c.in-Some.statement in
    let says = says_so c.args.unit.now c.args.line.now st c.len.result c.processors_of-processors.result c.if-is_skipped.ensures c.in-Some.ensures c.len.ensures c.processors_of-processors.ensures.exact in
    let found = entry_found c.args.unit.now c.args.agents.now st c.in_ok-entry.field-0 (Some c.in-Some-2.entry) c.requires.agents c.in_ok-entry.ensures c.in-Some-2.is in
    c.in_ok-put.ensures ∙ placed_more c.args.unit.now c.args.line.now st says before c.in-Some-2.entry found c.args.placed.now is
