-- What is left of the proof of `commits::commit_own`.
use Rattle.std.proofs.Common.{◌≡◌, ◌<◌, length, map, get_or, sym, ap, subst, ◌∙◌, arith}
use Rattle.std.specs.Prelude.{pos}
use Rattle.std.proofs.lemmas.Option.{get_or_from_slice_get, slice_get_within}
use Rattle.psy_meaning.specs.Alike.{owned_from}
use Rattle.psy_tree.specs.Parts.{no_variable}
use Rattle.psy_tree.specs.declared.unit.VarDecl.{VarDecl}
use Rattle.psy_dates.specs.Moves.{owner_of}
use Rattle.psy_dates.proofs.Committing.{owned_there}
use Rattle.psy_dates.proofs.lemmas.OwnCopies.{copies_of, own_owned, owned_own}
use Rattle.psy_dates.proofs.commits.commit_own.Goals as goal

pub commit_listed-requires-clause-known : goal.commit_listed-requires-clause-known
commit_listed-requires-clause-known c = λ place copy at.
    let unit = c.args.plan.now.unit in
    let is : map (λ c. c.variable) c.as_slice-2.result.now ≡ map (λ c. c.variable) (owned_from c.args.agent 0 unit.variables) =
    copies_of unit c.args.plan.now.code c.requires.plan.fits.parts c.args.agent c.requires.known c.as_slice.result.now c.as_slice.ensures c.index-as_slice-agent.result c.index-as_slice-agent.is c.as_slice-2.result.now c.as_slice-2.ensures in
    let found = own_owned c.args.agent unit.variables c.as_slice-2.result.now is place copy at in
    let within : copy.variable < length unit.variables = slice_get_within unit.variables copy.variable found.0 found.1 in
    omega (arith, within, c.requires.valued)

pub returns-clause-own : goal.returns-clause-own
returns-clause-own c = λ variable owned.
    let unit = c.args.plan.now.unit in
    let is : map (λ c. c.variable) c.as_slice-2.result.now ≡ map (λ c. c.variable) (owned_from c.args.agent 0 unit.variables) =
    copies_of unit c.args.plan.now.code c.requires.plan.fits.parts c.args.agent c.requires.known c.as_slice.result.now c.as_slice.ensures c.index-as_slice-agent.result c.index-as_slice-agent.is c.as_slice-2.result.now c.as_slice-2.ensures in
    let there = owned_there unit.variables variable c.args.agent owned in
    let listed = owned_own c.args.agent unit.variables c.as_slice-2.result.now is variable there.0 there.1 there.2 in
    subst (λ n. get_or c.commit_listed.new.committed n (pos 0) ≡ get_or c.args.ended.now n (pos 0)) listed.3 (c.commit_listed.ensures.own listed.0 listed.1 listed.2)

pub returns-clause-others : goal.returns-clause-others
returns-clause-others c = λ variable other.
    let unit = c.args.plan.now.unit in
    let is : map (λ c. c.variable) c.as_slice-2.result.now ≡ map (λ c. c.variable) (owned_from c.args.agent 0 unit.variables) =
    copies_of unit c.args.plan.now.code c.requires.plan.fits.parts c.args.agent c.requires.known c.as_slice.result.now c.as_slice.ensures c.index-as_slice-agent.result c.index-as_slice-agent.is c.as_slice-2.result.now c.as_slice-2.ensures in
    c.commit_listed.ensures.others variable (λ place copy here same.
    let found = own_owned c.args.agent unit.variables c.as_slice-2.result.now is place copy here in
    let at : get_or unit.variables copy.variable no_variable ≡ found.0 = get_or_from_slice_get unit.variables copy.variable found.0 no_variable found.1 in
    other (ap (owner_of unit.variables) (sym same) ∙ ap (λ (v : VarDecl). v.owner) at ∙ found.2))
