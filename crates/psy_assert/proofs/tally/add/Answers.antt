-- What is left of the proof of `tally::add`.
use Rattle.std.proofs.Common.{◌≡◌, ◌∙◌, sym, Some, w32, arith, rules}
use mir.Val.{SFits}
use Rattle.psy_assert.specs.Cuts.{note_cut}
use Rattle.psy_assert.proofs.Added.{added, behind_all, no_cut, not_added}
use Rattle.psy_assert.proofs.ByClaim.{clean}
use Rattle.psy_assert.proofs.tally.add.Goals as goal

pub returns-then-at-cuts : goal.returns-then-at-cuts
returns-then-at-cuts c notes place is =
    let of : note_cut c.args.by_value c.args.note.now ≡ Some c.in-Some.cut = sym c.note_cut.ensures ∙ c.in-Some.is in
    let fits : SFits w32 c.value_of-value.result = search rules in
    added c.args.by_value c.args.cuts.now notes c.args.note.now c.in-Some.cut c.args.sums.now c.rank-at.result c.with_note.result _ of c.rank-at.ensures c.if-at-cuts.true _ _
    c.with_note.ensures.extent (rw c.is_beside-own.ensures at c.with_note.ensures.newest) place (clean c.value_of-value.result fits ∙ c.value_of-value.ensures) is

pub returns-else-at-cuts : goal.returns-else-at-cuts
returns-else-at-cuts c notes place is =
    let of : note_cut c.args.by_value c.args.note.now ≡ Some c.in-Some.cut = sym c.note_cut.ensures ∙ c.in-Some.is in
    not_added c.args.by_value c.args.cuts.now notes c.args.note.now c.args.sums.now
    (behind_all c.args.by_value c.args.cuts.now c.args.note.now c.in-Some.cut of c.rank-at.result c.rank-at.ensures (omega (arith, c.if-at-cuts.false))) is

pub returns-in_default : goal.returns-in_default
returns-in_default c notes place is =
    not_added c.args.by_value c.args.cuts.now notes c.args.note.now c.args.sums.now (λ at within. no_cut c.args.by_value c.args.cuts.now c.args.note.now (sym c.note_cut.ensures ∙ c.in_default.is) at) is
