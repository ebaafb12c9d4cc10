-- What is left of the proof of `resume::value_of_owner`.
use Rattle.std.proofs.Common.{◌≡◌, ◌+◌, List, length, get_or, take, w32, to_z, of_z, sym, ap, ◌∙◌, arith}
use Rattle.std.specs.Prelude.{ℤ, pos}
use Rattle.std.proofs.lemmas.Int.{to_z-of_z}
use Rattle.std.proofs.lemmas.Option.{slice_get-get_or}
use Rattle.psy_code.specs.Execution.{copy_of}
use Rattle.psy_meaning.specs.Alike.{owned_from}
use Rattle.psy_meaning.specs.States.{value_or_zero}
use Rattle.psy_tree.specs.declared.unit.VarDecl.{VarDecl}
use Rattle.psy_tree.specs.Parts.{no_variable}
use Rattle.psy_dates.specs.Beginnings.{committed_by, with_values}
use Rattle.psy_dates.proofs.OwnValues.{own_value}
use Rattle.psy_dates.proofs.resume.value_of_owner.Goals as goal

pub returns-in-Some : goal.returns-in-Some
returns-in-Some c =
    let vs = c.args.plan.now.unit.variables in
    let owner = c.args.owner in
    let variable = c.args.variable in
    let copies = c.in-Some.begun.copies in
    let found : List VarDecl → List ℤ → ℤ = λ of values. get_or values (length (owned_from owner 0 (take variable of))) (pos 0) in
    let read = own_value owner 0 vs variable (get_or vs variable no_variable) copies (slice_get-get_or vs variable no_variable c.requires.variable) c.requires.owner in
    let number : 0 + variable ≡ variable = omega arith in
    let value : to_z w32 (of_z w32 c.own_value.result) ≡ c.own_value.result = grind (arith, to_z-of_z) in
    value
    ∙ c.own_value.ensures
    ∙ ap (λ of. found of c.as_slice-in-Some.result.now) c.as_slice.ensures
    ∙ ap (found vs) c.as_slice-in-Some.ensures
    ∙ sym read
    ∙ ap (λ n. value_or_zero (copy_of n (with_values (owned_from owner 0 vs) copies))) number
    ∙ ap (committed_by c.args.plan.now owner variable) (sym c.in-Some.is)
