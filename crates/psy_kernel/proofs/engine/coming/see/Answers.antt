-- What is left of the proof of `engine::coming::see`.
use Rattle.std.proofs.Common.{◌≡◌, ◌+◌, ◌≤◌, [], get_or, sym, subst, arith}
use Rattle.std.specs.Prelude.{nat_le}
use Rattle.std.proofs.lemmas.List.FromFn.{length-map-range_with_len}
use Rattle.std.proofs.lemmas.List.Sums.{count_by-le-length}
use Rattle.std.proofs.lemmas.Option.{get_or_from_slice_get}
use Rattle.psy_clock.specs.Dates.{date, dates}
use Rattle.psy_dates.specs.Plans.{system_of}
use Rattle.psy_dates.proofs.lemmas.Fits.{ring_size}
use Rattle.psy_history.specs.Actions.{publishing}
use Rattle.psy_tree.specs.declared.unit.VarDecl.{VarDecl}
use Rattle.psy_kernel.proofs.engine.coming.see.Goals as goal

pub slot_of-requires-clause-some : goal.slot_of-requires-clause-some
slot_of-requires-clause-some c =
    let plan = c.args.plan.now in
    let variable = c.args.variable in
    let its = ring_size plan c.requires.plan variable c.requires.known in
    let bare = c.requires.plan.fits.bare.variables variable its.decl c.requires.known in
    let same : get_or plan.unit.variables variable its.decl ≡ its.decl = get_or_from_slice_get plan.unit.variables variable its.decl its.decl its.declared in
    let some : 1 ≤ its.decl.depth = subst (λ (v : VarDecl). 1 ≤ v.depth) same bare.depth.0 in
    subst (λ sizes. 1 ≤ get_or sizes variable 0) (sym c.as_slice.ensures) (omega (arith, its.sum, some))

pub slot_of-requires-clause-early : goal.slot_of-requires-clause-early
slot_of-requires-clause-early c =
    let clock = publishing (system_of c.args.plan.now [] (λ agent. [])) c.args.variable in
    let few = count_by-le-length (λ d. nat_le d c.args.start) (dates clock (c.args.start + 1)) in
    let all = length-map-range_with_len (date clock) 0 (c.args.start + 1) in
    omega (arith, c.dates_of-dates.ensures, few, all, c.requires.early)
