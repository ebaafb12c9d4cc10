-- What is left of the proof of `inputs::input`.
use Rattle.std.proofs.Common.{◌≡◌, get_or, true, false, sym, ap, ◌∙◌, subst}
use Rattle.std.specs.Prelude.{bytes_eq, is_some}
use Rattle.std.specs.List.{position}
use Rattle.psy_script.proofs.InputNumbers.{no_variable, an_input, no_input}
use Rattle.psy_script.proofs.inputs.input.Goals as goal

pub returns-in_default : goal.returns-in_default
returns-in_default c =
    no_variable c.args.unit.now c.requires.bare c.args.name.now
    (ap (position (bytes_eq c.args.name.now)) (sym c.requires.names) ∙ (sym c.in_ok-place.ensures ∙ c.in_default.is))

pub returns-then-is_some : goal.returns-then-is_some
returns-then-is_some c =
    let d = c.index-as_slice-place.result in
    let found = ap (position (bytes_eq c.args.name.now)) (sym c.requires.names) ∙ (sym c.in_ok-place.ensures ∙ c.in-Some.is) in
    no_input c.args.unit.now c.requires.bare c.args.name.now c.in-Some.place d found
    (subst (λ vs. is_some (get_or vs c.in-Some.place d).owner ≡ true) c.as_slice.ensures (sym c.is_some.ensures ∙ c.if-is_some.true))

pub returns : goal.returns
returns c =
    let d = c.index-as_slice-place.result in
    let found = ap (position (bytes_eq c.args.name.now)) (sym c.requires.names) ∙ (sym c.in_ok-place.ensures ∙ c.in-Some.is) in
    an_input c.args.unit.now c.requires.bare c.args.name.now c.in-Some.place d found
    (subst (λ vs. is_some (get_or vs c.in-Some.place d).owner ≡ false) c.as_slice.ensures (sym c.is_some.ensures ∙ c.if-is_some.false))
