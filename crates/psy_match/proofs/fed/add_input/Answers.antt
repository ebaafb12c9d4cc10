-- What is left of the proof of `fed::add_input`.
use Rattle.std.proofs.Common.{◌≡◌, ◌∙◌, Some, ap, bytes_eq, get_or, sym}
use Rattle.std.specs.Prelude.{slice_get}
use Rattle.std.specs.List.{list_any}
use Rattle.std.proofs.lemmas.Option.{slice_get-get_or}
use Rattle.psy_match.specs.Feeding.{variable_names}
use Rattle.psy_match.proofs.FedNotes.{name_among}
use Rattle.psy_match.proofs.fed.add_input.Goals as goal

pub returns-clause-alone : goal.returns-clause-alone
returns-clause-alone c =
    let variable = c.index-as_slice-number.result in
    let unit = c.args.unit.now in
    let at : slice_get unit.variables c.args.number ≡ Some variable =
    slice_get-get_or unit.variables c.args.number variable c.requires ∙ ap Some (sym (c.index-as_slice-number.is ∙ ap (λ variables. get_or variables c.args.number variable) c.as_slice.ensures)) in
    let among = name_among unit.variables c.args.number variable at in
    c.in_ok-add_values.ensures.alone (variable_names unit) (ap (λ name. list_any (bytes_eq name) (variable_names unit)) c.bytes.ensures ∙ among)
