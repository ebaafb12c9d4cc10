-- What is left of the proof of `commits::commit_all`.
use Rattle.std.proofs.Common.{◌≡◌, ℕ, ◌<◌, length, Option, Some, None, subst}
use Rattle.psy_meaning.specs.Units.{OwnedWithin}
use Rattle.psy_tree.specs.Parts.{no_variable}
use Rattle.psy_dates.specs.Moves.{owner_of}
use Rattle.psy_dates.proofs.Committing.{all_committed, none_committed, one_committed}
use Rattle.psy_dates.proofs.commits.commit_all.Goals as goal

pub movers-init : goal.movers-init
movers-init c = none_committed c.args.plan.now.unit.variables c.args.date c.args.seats.now c.args.ended.now c.args.committed.now (length c.args.plan.now.unit.agents) c.args.movers.now c.requires.movers

pub movers-preserved : goal.movers-preserved
movers-preserved c =
    one_committed c.args.plan.now.unit.variables c.args.date c.args.seats.now c.args.ended.now c.args.committed.now (length c.args.plan.now.unit.agents) c.args.movers.now c.movers.place c.movers.committed c.commit_where.new.committed c.movers.invariant c.movers-test.true
    c.ends_there-ends.result c.ends_there-ends.ensures c.commit_where.ensures.own c.commit_where.ensures.others

owned_within : (agents : ℕ) (owner : Option ℕ) → OwnedWithin agents owner → (agent : ℕ) → owner ≡ Some agent → agent < agents
owned_within agents None h agent e = cc
owned_within agents (Some owner) h agent e = (let same : owner ≡ agent = cc in subst (λ n. n < agents) same h)

pub returns : goal.returns
returns c variable within =
    let unit = c.args.plan.now.unit in
    all_committed unit.variables c.args.date c.args.seats.now c.args.ended.now c.args.committed.now (length unit.agents) c.args.movers.now c.movers.place c.movers.committed c.movers-test.false c.movers.invariant variable
    (owned_within (length unit.agents) (owner_of unit.variables variable) (c.requires.plan.fits.bare.variables variable no_variable within).owner)
