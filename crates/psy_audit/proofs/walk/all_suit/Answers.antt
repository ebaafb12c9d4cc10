-- What is left of the proof of `walk::all_suit`.
use Rattle.std.proofs.Common.{◌≡◌, ◌∙◌, ℕ, true, false, ap, sym, arith}
use Rattle.psy_audit.specs.Rows.{suits}
use Rattle.psy_audit.specs.Tables.{judge}
use Rattle.psy_audit.specs.Turns.{first_at}
use Rattle.psy_audit.proofs.Walks.{all_behind, fails_first, none_left}
use Rattle.psy_audit.proofs.walk.all_suit.Goals as goal

pub changes-preserved : goal.changes-preserved
changes-preserved c =
    let t = c.args.table.now in
    let p = λ (cycle : ℕ). suits c.args.own (first_at (judge t) t.lines.now c.args.processor cycle) in
    let cycle = c.changes.cycle in
    let begun : p cycle ≡ true = ap (suits c.args.own) (sym c.first_at.ensures) ∙ sym c.if-not-suits.ensures in
    c.changes.invariant ∙ all_behind p cycle c.change_behind-cycle.result c.args.to c.change_behind-cycle.ensures.behind c.change_behind-cycle.ensures.within begun
    (λ k low high. ap (suits c.args.own) (c.change_behind-cycle.ensures.same k low high))

pub returns-then-not-suits : goal.returns-then-not-suits
returns-then-not-suits c =
    let t = c.args.table.now in
    let p = λ (cycle : ℕ). suits c.args.own (first_at (judge t) t.lines.now c.args.processor cycle) in
    let cycle = c.changes.cycle in
    let failed : p cycle ≡ false = ap (suits c.args.own) (sym c.first_at.ensures) ∙ sym c.if-not-suits.ensures in
    sym (c.changes.invariant ∙ fails_first p cycle c.args.to c.changes-test.true failed)

pub returns : goal.returns
returns c =
    let t = c.args.table.now in
    let p = λ (cycle : ℕ). suits c.args.own (first_at (judge t) t.lines.now c.args.processor cycle) in
    sym (c.changes.invariant ∙ none_left p c.changes.cycle c.args.to (omega (arith, c.changes-test.false)))
