-- What is left of the proof of `verdict::first_wrong`.
use Rattle.std.proofs.Common.{◌≡◌, ◌∙◌, ◌<◌, ◌≤◌, ◌+◌, ◌^◌, length, take, get_or, cond, Some, None, sym, ap, arith}
use Rattle.std.specs.List.{list_any}
use Rattle.std.proofs.lemmas.List.{length-take, take_all}
use Rattle.std.proofs.lemmas.Option.{get_or_from_slice_get}
use Rattle.psy_audit.specs.Answers.{fault_at}
use Rattle.psy_audit.specs.Faults.{Fault, fault_of}
use Rattle.psy_audit.specs.Tables.{judge}
use Rattle.psy_audit.specs.Traces.{is_end}
use Rattle.psy_audit.proofs.Judged.{counted_before, judged_all, judged_fault, judged_more, not_ended, stands_more}
use Rattle.psy_audit.proofs.verdict.first_wrong.Goals as goal

pub lines-preserved : goal.lines-preserved
lines-preserved c =
    let t = c.args.table.now in
    let all = t.lines.now in
    let j = judge t in
    let i = c.lines.place in
    let line = c.line_at-said.result.now in
    let unit = t.plan.now.unit in
    let inv = c.lines.invariant in
    let l : i < length all = omega (arith, c.lines-test.true) in
    let is : line ≡ get_or all i line = sym (get_or_from_slice_get all i line line c.line_at-said.ensures) in
    let sound : fault_of j all (take i all) line ≡ None =
    sym (c.in_ok-fault.ensures (take i all) inv.stands (counted_before j all i line l is inv.judged)) ∙ c.in-None.is in
    let few : length (take i all) < 2 ^ 63 = omega (arith, length-take i all, c.requires.few) in
    let more = c.in_ok-pass-in-None.ensures unit (take i all) inv.stands (inv.stands.ended ∙ not_ended j all (take i all) line sound) few in
    record {
      within = omega (arith, l);
      stands = stands_more j all i line l is inv.judged more;
      judged = judged_more j all i line l is inv.judged sound;
    }

pub returns-in-Some : goal.returns-in-Some
returns-in-Some c =
    let t = c.args.table.now in
    let all = t.lines.now in
    let j = judge t in
    let i = c.lines.place in
    let line = c.line_at-said.result.now in
    let inv = c.lines.invariant in
    let l : i < length all = omega (arith, c.lines-test.true) in
    let is : line ≡ get_or all i line = sym (get_or_from_slice_get all i line line c.line_at-said.ensures) in
    let wrong : fault_of j all (take i all) line ≡ Some c.in-Some.number =
    sym (c.in_ok-fault.ensures (take i all) inv.stands (counted_before j all i line l is inv.judged)) ∙ c.in-Some.is in
    ap (λ (f : Fault). Some f) c.wrong_at.ensures ∙ sym (judged_fault j all i line l is inv.judged c.in-Some.number wrong)

pub returns : goal.returns
returns c =
    let t = c.args.table.now in
    let all = t.lines.now in
    let j = judge t in
    let i = c.lines.place in
    let inv = c.lines.invariant in
    let most : length all ≤ i = omega (arith, c.lines-test.false) in
    let last : i ≡ length all = omega (arith, most, inv.within) in
    let ended = inv.stands.ended ∙ ap (list_any is_end) (take_all i all most) in
    c.missing_end.ensures ∙ ap (λ n. cond c.lines.before.ended None (Some (fault_at 1 (n + 1)))) last
    ∙ ap (λ b. cond b None (Some (fault_at 1 (length all + 1)))) ended ∙ sym (judged_all j all i most inv.judged)
