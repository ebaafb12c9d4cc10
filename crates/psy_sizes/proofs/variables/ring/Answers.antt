-- What is left of the proof of `variables::ring`.
use Rattle.std.proofs.Common.{◌≡◌, ◌+◌, Some, length, get_or, refl, ap, subst, ◌∙◌, arith}
use Rattle.std.specs.List.{slice_get}
use Rattle.std.proofs.lemmas.List.{get_or_default}
use Rattle.std.proofs.lemmas.Option.{slice_get_read, get_or_from_slice_get}
use Rattle.psy_clock.specs.declared.clock.Clock.{Clock}
use Rattle.psy_meaning.specs.KnownWays.{Listed}
use Rattle.psy_meaning.specs.RingSizes.{IsRingSize}
use Rattle.psy_meaning.specs.Units.{IsBareVariable}
use Rattle.psy_sizes.proofs.RingsOf.{ring_size}
use Rattle.psy_sizes.proofs.Sharing.{no_clock}
use Rattle.psy_sizes.proofs.variables.ring.Goals as goal
use Rattle.psy_sizes.proofs.variables.ring.Goals.{After-from}

size_is : (c : After-from) → IsRingSize c.args.unit.now (Listed c.args.ways.now) c.args.ways.now.nexts c.args.variable (c.index-as_slice-variable.result.depth + c.most_of_all-most.result)
size_is c =
    let unit = c.args.unit.now in
    let variable = c.args.variable in
    let decl = c.index-as_slice-variable.result in
    let here : slice_get c.as_slice.result.now variable ≡ Some decl =
    slice_get_read c.as_slice.result.now (length c.as_slice.result.now) variable decl refl (omega (arith, c.requires.variable, ap length c.as_slice.ensures)) c.index-as_slice-variable.is in
    let declared : slice_get unit.variables variable ≡ Some decl = subst (λ xs. slice_get xs variable ≡ Some decl) c.as_slice.ensures here in
    let bare : IsBareVariable unit decl =
    subst (IsBareVariable unit) (get_or_from_slice_get unit.variables variable decl decl declared) (c.requires.bare.variables variable decl c.requires.variable) in
    let nothing : Clock = record { period = 0; first = 0 } in
    let clock = get_or c.as_slice-2.result.now decl.clock nothing in
    let clock_is : clock ≡ get_or unit.clocks decl.clock no_clock = ap (λ xs. get_or xs decl.clock nothing) c.as_slice-2.ensures ∙ get_or_default unit.clocks decl.clock nothing no_clock bare.clock in
    ring_size unit (Listed c.args.ways.now) c.args.ways.now.nexts variable decl declared clock clock_is c.most_of_all-most.result c.most_of_all-most.ensures

pub returns-then-most-from-clause-large : goal.returns-then-most-from-clause-large
returns-then-most-from-clause-large c =
    (c.index-as_slice-variable.result.depth + c.most_of_all-most.result, size_is (goal.at.returns-then-most-from-clause-large c).After-from, omega (arith, c.if-most-from.true, c.from.ensures))

pub returns-clause-size : goal.returns-clause-size
returns-clause-size c = size_is (goal.at.returns-clause-size c).After-from
