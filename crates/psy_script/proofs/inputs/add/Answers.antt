-- What is left of the proof of `inputs::add`.
use Rattle.std.proofs.Common.{◌≡◌, true, false, [], Some, None, sym, ap, ◌∙◌}
use Rattle.std.specs.Prelude.{ℤ, List, if◌then◌else◌, slice_set}
use Rattle.std.specs.List.{list_all, position}
use Rattle.std.proofs.lemmas.Option.{cond_some, slice_get_within}
use Rattle.psy_script.specs.Inputs.{Listing, listings}
use Rattle.psy_script.specs.Numbers.{fits_32}
use Rattle.psy_script.proofs.InputFaults.{fault_no_name, fault_again, fault_by_range, fits_none}
use Rattle.psy_script.proofs.InputNumbers.{is_named}
use Rattle.psy_script.proofs.ListsKept.{is_again, is_first, lists_more}
use Rattle.psy_script.proofs.inputs.add.Goals as goal
use Rattle.psy_script.proofs.inputs.add.Goals.{In-Some, In_ok-values}

-- The place of the input that the line names
found : (c : In-Some) → position (is_named c.args.said.now.name) c.args.unit.now.variables ≡ Some c.in-Some.input
found c = sym (c.in_ok-input.ensures ∙ ap (λ (l : Listing). position (is_named l.name) c.args.unit.now.variables) c.said.view_is) ∙ c.in-Some.is

-- Its values, where they fit
narrow : (c : In_ok-values) → (if list_all fits_32 c.args.said.now.values then Some c.args.said.now.values else None) ≡ c.in_ok-values.field-0
narrow c = sym (c.in_ok-values.ensures ∙ ap (λ (vs : List ℤ). if list_all fits_32 vs then Some vs else None) (c.as_slice.ensures ∙ ap (λ (l : Listing). l.values) c.said.view_is))

pub returns-in_default-clause-fault : goal.returns-in_default-clause-fault
returns-in_default-clause-fault c before old =
    fault_no_name c.args.unit.now (listings before) c.args.said.now
    (sym (c.in_ok-input.ensures ∙ ap (λ (l : Listing). position (is_named l.name) c.args.unit.now.variables) c.said.view_is) ∙ c.in_default.is)

pub returns-then-has_values-clause-fault : goal.returns-then-has_values-clause-fault
returns-then-has_values-clause-fault c before old =
    let here = found (goal.at.returns-then-has_values-clause-fault c).In-Some in
    fault_again c.args.unit.now (listings before) c.args.said.now c.in-Some.input here
    (is_again c.args.unit.now before c.args.lists.now old c.args.said.now c.in-Some.input here c.if-has_values.ensures)

pub returns-in_default-2-clause-fault : goal.returns-in_default-2-clause-fault
returns-in_default-2-clause-fault c before old =
    let here = found (goal.at.returns-in_default-2-clause-fault c).In-Some in
    let first = is_first c.args.unit.now before c.args.lists.now old c.args.said.now c.in-Some.input here c.if-has_values.ensures in
    fault_by_range c.args.unit.now (listings before) c.args.said.now c.in-Some.input here first false
    (fits_none _ _ (narrow (goal.at.returns-in_default-2-clause-fault c).In_ok-values ∙ c.in_default-2.is))

pub set-requires : goal.set-requires
set-requires c = slice_get_within c.args.lists.now c.in-Some.input [] c.if-has_values.ensures

pub returns-clause-fault : goal.returns-clause-fault
returns-clause-fault c before old =
    let here = found (goal.at.returns-clause-fault c).In-Some in
    let first = is_first c.args.unit.now before c.args.lists.now old c.args.said.now c.in-Some.input here c.if-has_values.ensures in
    fault_by_range c.args.unit.now (listings before) c.args.said.now c.in-Some.input here first true
    (cond_some _ _ c.in-Some-2.values (narrow (goal.at.returns-clause-fault c).In_ok-values ∙ c.in-Some-2.is)).0

pub returns-clause-added : goal.returns-clause-added
returns-clause-added c _ before line old says =
    let fit = cond_some (list_all fits_32 c.args.said.now.values) c.args.said.now.values c.in-Some-2.values (narrow (goal.at.returns-clause-added c).In_ok-values ∙ c.in-Some-2.is) in
    c.set.ensures ∙ ap (slice_set c.args.lists.now c.in-Some.input) (sym fit.1) ∙
    lists_more c.args.unit.now before c.args.lists.now old c.args.said.now c.in-Some.input (found (goal.at.returns-clause-added c).In-Some) c.requires.bare c.if-has_values.ensures line says
