-- What is left of the proof of `faults::said_fault`.
use Rattle.std.proofs.Common.{◌≡◌, ◌∙◌, Bool, false, cond, not, Some, None, ap, sym}
use Rattle.std.specs.List.{list_any}
use Rattle.psy_audit.specs.Faults.{fault_in, has_names}
use Rattle.psy_audit.specs.Tables.{judge}
use Rattle.psy_audit.specs.Traces.{is_end}
use Rattle.psy_audit.proofs.Faulty.{head_none, head_some}
use Rattle.psy_audit.proofs.faults.said_fault.Goals as goal

pub returns-in-Some : goal.returns-in-Some
returns-in-Some c = λ lines stands at.
    let t = c.args.table.now in
    let j = judge t in
    let said = c.args.said.now in
    let rest = fault_in j t.lines.now lines said in
    let head = λ (e n b : Bool). cond e (Some 1) (cond (not n) (Some 2) (cond (not b) (Some 3) rest)) in
    head_some c.args.before.now.ended c.has_names-named.result c.comes_behind-behind.result rest c.in-Some.number c.in-Some.ensures
    ∙ ap (λ e. head e c.has_names-named.result c.comes_behind-behind.result) stands.ended
    ∙ ap (λ n. head (list_any is_end lines) n c.comes_behind-behind.result) c.has_names-named.ensures
    ∙ ap (head (list_any is_end lines) (has_names j said)) (c.comes_behind-behind.ensures ∙ stands.last said)

pub fault_in-requires-clause-names : goal.fault_in-requires-clause-names
fault_in-requires-clause-names c =
    let none = head_none c.args.before.now.ended c.has_names-named.result c.comes_behind-behind.result None c.in-None.ensures in
    sym c.has_names-named.ensures ∙ none.1

pub returns-in_ok-fault-in-None : goal.returns-in_ok-fault-in-None
returns-in_ok-fault-in-None c = λ lines stands at.
    let t = c.args.table.now in
    let j = judge t in
    let said = c.args.said.now in
    let rest = fault_in j t.lines.now lines said in
    let none = head_none c.args.before.now.ended c.has_names-named.result c.comes_behind-behind.result rest c.in-None.ensures in
    let before : list_any is_end lines ≡ false = sym stands.ended ∙ none.0 in
    let head = λ (e n b : Bool). cond e (Some 1) (cond (not n) (Some 2) (cond (not b) (Some 3) rest)) in
    c.in_ok-fault-in-None.ensures lines stands (λ e. at e before) ∙ sym none.2
    ∙ ap (λ e. head e c.has_names-named.result c.comes_behind-behind.result) stands.ended
    ∙ ap (λ n. head (list_any is_end lines) n c.comes_behind-behind.result) c.has_names-named.ensures
    ∙ ap (head (list_any is_end lines) (has_names j said)) (c.comes_behind-behind.ensures ∙ stands.last said)
