-- What is left of the proof of `dates::publication_at`.
use Rattle.std.proofs.Common.{◌≡◌, ◌-◌, ◌%◌, ◌∙◌, ◌∷◌, [], ap, sym, get_or, true, w32, to_z, of_z, arith}
use Rattle.std.proofs.lemmas.Int.{ints, to_z-of_z}
use Rattle.psy_audit.specs.declared.said.Publication.{Publication}
use Rattle.psy_clock.specs.Dates.{count}
use Rattle.psy_history.specs.Lines.{is_date}
use Rattle.psy_tree.specs.Parts.{clock_in, variable_at}
use Rattle.psy_collect.proofs.Published.{one_published, some_places, some_ring, told}
use Rattle.psy_collect.proofs.dates.publication_at.Goals as goal

pub slot_at-slot-requires-clause-some : goal.slot_at-slot-requires-clause-some
slot_at-slot-requires-clause-some c =
    let is = ap (λ xs. get_or xs c.args.variable 0) c.as_slice.ensures in
    omega (arith, is, some_places c.args.plan.now c.requires.plan c.args.variable c.requires.known)

pub look-value-requires : goal.look-value-requires
look-value-requires c = some_ring c.args.plan.now c.args.shared.now c.args.date c.args.variable c.requires.plan c.requires.shows c.requires.known c.index.result.now c.index.ensures

pub returns : goal.returns
returns c =
    let plan = c.args.plan.now in
    let v = c.look-value.result in
    let same : to_z w32 (of_z w32 v) ≡ v = grind (arith, ints, to_z-of_z) in
    let clock_is : c.clock_of-clock.result ≡ clock_in plan.unit (variable_at plan.unit c.args.variable).clock = c.clock_of-clock.ensures.value ∙ ap (clock_in plan.unit) c.clock_at.ensures in
    let at : is_date (clock_in plan.unit (variable_at plan.unit c.args.variable).clock) c.args.date ≡ true =
    sym (ap (λ k. is_date k c.args.date) clock_is) ∙ sym c.has_date.ensures ∙ c.if-not-has_date.false in
    let slot_is : c.slot_at-slot.result ≡ (count (clock_in plan.unit (variable_at plan.unit c.args.variable).clock) c.args.date - 1) % get_or plan.sizes.rings c.args.variable 0 =
    c.slot_at-slot.ensures ∙ ap (λ k. (count k c.args.date - 1) % get_or c.as_slice.result.now c.args.variable 0) clock_is
    ∙ ap (λ xs. (count (clock_in plan.unit (variable_at plan.unit c.args.variable).clock) c.args.date - 1) % get_or xs c.args.variable 0) c.as_slice.ensures in
    ap (λ (x : Publication). x ∷ []) c.published.ensures ∙ ap (λ z. one_published c.args.variable c.args.date c.slot_at-slot.result z) same
    ∙ told plan c.args.shared.now c.args.date c.args.variable c.requires.plan c.requires.shows c.requires.known c.slot_at-slot.result c.index.result.now v at slot_is c.index.ensures c.look-value.ensures
