-- What is left of the proof of `engine::freeze::variables_left`.
use Rattle.std.proofs.Common.{◌≡◌, ap, sym, ◌∙◌, get_or, length, [], None}
use Rattle.psy_dates.specs.declared.opening.VarOpening.{VarOpening}
use Rattle.psy_kernel.specs.Freezing.{variable_left}
use Rattle.psy_kernel.proofs.Pushed.{made_next, read_any}
use Rattle.psy_kernel.proofs.engine.freeze.variables_left.Goals as goal

pub values_left-requires : goal.values_left-requires
values_left-requires c =
    let n = c.variables.variable in
    ap length (sym (read_any c.args.rings.now n c.index-rings-variable.result [] c.variables-test.true c.index-rings-variable.is)) ∙ c.requires.sizes n c.variables-test.true

pub variables-preserved : goal.variables-preserved
variables-preserved c =
    let n = c.variables.variable in
    let rings = c.args.rings.now in
    let reach = get_or c.args.reaches.now n None in
    let item : VarOpening = record { values = c.in_ok-values_left.field-0; reach = reach } in
    let ring = read_any rings n c.index-rings-variable.result [] c.variables-test.true c.index-rings-variable.is in
    let is : item ≡ variable_left rings c.args.reaches.now n = ap (λ values. record { values = values; reach = reach }) (c.in_ok-values_left.ensures ∙ sym ring) in
    made_next (variable_left rings c.args.reaches.now) c.variables.variables c.push.new.self n item c.in_ok-push.ensures.ok c.variables.invariant is
