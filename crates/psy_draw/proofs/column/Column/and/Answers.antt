-- What is left of the proof of `column::Column::and`.
use Rattle.std.proofs.Common.{rules, w32, refl, ◌∙◌}
use Rattle.std.specs.Int.{int_min, int_max}
use mir.Val.{SFits}
use Rattle.psy_draw.proofs.Clean.{clean, clean_two}
use Rattle.psy_draw.proofs.Standing.{stands_at_more, stands_more}
use Rattle.psy_draw.proofs.column.Column.and.Goals as goal

pub returns-clause-stands : goal.returns-clause-stands
returns-clause-stands c = λ values h.
    let first : SFits w32 c.args.self.first = search rules in
    let least : SFits w32 c.args.self.least = search rules in
    let greatest : SFits w32 c.args.self.greatest = search rules in
    let value : SFits w32 c.args.value = search rules in
    let min : SFits w32 c.min.result = search rules in
    let max : SFits w32 c.max.result = search rules in
    stands_more values c.args.value c.args.self _ h (clean c.args.self.first first)
    (clean c.min.result min ∙ c.min.ensures.value ∙ clean_two int_min c.args.self.least c.args.value least value)
    (clean c.max.result max ∙ c.max.ensures.value ∙ clean_two int_max c.args.self.greatest c.args.value greatest value)
    (clean c.args.value value) c.saturating_add.ensures

pub returns-clause-place : goal.returns-clause-place
returns-clause-place c = λ place values v h.
    let first : SFits w32 c.args.self.first = search rules in
    stands_at_more place values v c.args.self _ h refl refl (clean c.args.self.first first)
