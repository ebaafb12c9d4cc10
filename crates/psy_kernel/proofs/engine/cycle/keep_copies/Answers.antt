-- What is left of the proof of `engine::cycle::keep_copies`.
use Rattle.std.proofs.Common.{◌≡◌, ◌<◌, length, map, slice_get, Some, sym, ap, subst, ◌∙◌, arith}
use Rattle.std.proofs.lemmas.Option.{slice_get_within}
use Rattle.psy_code.specs.Execution.{copy_of}
use Rattle.psy_meaning.specs.Alike.{owned_from}
use Rattle.psy_tree.specs.declared.unit.VarDecl.{VarDecl}
use Rattle.psy_dates.proofs.lemmas.OwnCopies.{copies_of, own_owned, owned_own}
use Rattle.psy_kernel.proofs.engine.cycle.keep_copies.Goals as goal

pub keep_listed-requires-clause-known : goal.keep_listed-requires-clause-known
keep_listed-requires-clause-known c = λ place copy at.
    let unit = c.args.plan.now.unit in
    let is : map (λ c. c.variable) c.as_slice-2.result.now ≡ map (λ c. c.variable) (owned_from c.args.agent 0 unit.variables) =
    copies_of unit c.args.plan.now.code c.requires.plan.fits.parts c.args.agent c.requires.known c.as_slice.result.now c.as_slice.ensures c.index-as_slice-agent.result c.index-as_slice-agent.is c.as_slice-2.result.now c.as_slice-2.ensures in
    let found = own_owned c.args.agent unit.variables c.as_slice-2.result.now is place copy at in
    let within : copy.variable < length unit.variables = slice_get_within unit.variables copy.variable found.0 found.1 in
    omega (arith, within, c.requires.valued)

pub keep_listed-requires-clause-copies : goal.keep_listed-requires-clause-copies
keep_listed-requires-clause-copies c = λ place copy at.
    let unit = c.args.plan.now.unit in
    let is : map (λ c. c.variable) c.as_slice-2.result.now ≡ map (λ c. c.variable) (owned_from c.args.agent 0 unit.variables) =
    copies_of unit c.args.plan.now.code c.requires.plan.fits.parts c.args.agent c.requires.known c.as_slice.result.now c.as_slice.ensures c.index-as_slice-agent.result c.index-as_slice-agent.is c.as_slice-2.result.now c.as_slice-2.ensures in
    let found = own_owned c.args.agent unit.variables c.as_slice-2.result.now is place copy at in
    c.requires.copies copy.variable found.0 found.1 found.2

pub returns-clause-own : goal.returns-clause-own
returns-clause-own c = λ variable v value at owned.
    let unit = c.args.plan.now.unit in
    let is : map (λ c. c.variable) c.as_slice-2.result.now ≡ map (λ c. c.variable) (owned_from c.args.agent 0 unit.variables) =
    copies_of unit c.args.plan.now.code c.requires.plan.fits.parts c.args.agent c.requires.known c.as_slice.result.now c.as_slice.ensures c.index-as_slice-agent.result c.index-as_slice-agent.is c.as_slice-2.result.now c.as_slice-2.ensures in
    let listed = owned_own c.args.agent unit.variables c.as_slice-2.result.now is variable v at owned in
    subst (λ n. slice_get c.keep_listed.new.ended.items n ≡ Some value → copy_of n c.args.machine.now.machine.copies ≡ Some value) listed.3 (c.keep_listed.ensures.own listed.0 listed.1 value listed.2)

pub returns-clause-others : goal.returns-clause-others
returns-clause-others c = λ variable v at other.
    let unit = c.args.plan.now.unit in
    let is : map (λ c. c.variable) c.as_slice-2.result.now ≡ map (λ c. c.variable) (owned_from c.args.agent 0 unit.variables) =
    copies_of unit c.args.plan.now.code c.requires.plan.fits.parts c.args.agent c.requires.known c.as_slice.result.now c.as_slice.ensures c.index-as_slice-agent.result c.index-as_slice-agent.is c.as_slice-2.result.now c.as_slice-2.ensures in
    c.keep_listed.ensures.others variable (λ place copy here same.
    let found = own_owned c.args.agent unit.variables c.as_slice-2.result.now is place copy here in
    let both : Some found.0 ≡ Some v = sym found.1 ∙ ap (slice_get unit.variables) same ∙ at in
    let one : found.0 ≡ v = cc in
    other (sym (ap (λ (x : VarDecl). x.owner) one) ∙ found.2))
