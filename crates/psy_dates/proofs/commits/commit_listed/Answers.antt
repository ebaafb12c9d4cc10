-- What is left of the proof of `commits::commit_listed`.
use Rattle.std.proofs.Common.{◌≡◌, ◌+◌, ◌<◌, length, get_or, slice_set, ℤ, w32, to_z, of_z, sym, subst, ◌∙◌, arith}
use Rattle.std.specs.Prelude.{pos, slice_get, Some}
use Rattle.std.proofs.lemmas.Int.{ints, to_z-of_z}
use Rattle.std.proofs.lemmas.Option.{slice_get-get_or, slice_get_within}
use Rattle.psy_code.specs.declared.code.CopyInit.{CopyInit}
use Rattle.psy_dates.proofs.Committing.{CopiedTo, none_copied, one_copied}
use Rattle.psy_dates.proofs.commits.commit_listed.Goals as goal

-- What an index gives where there is none
abbrev no_copy : CopyInit
no_copy = record { variable = 0; init = pos 0 }

pub copies-init : goal.copies-init
copies-init c = none_copied c.args.own.now c.args.ended.now c.args.committed.now

pub copies-preserved : goal.copies-preserved
copies-preserved c =
    let own = c.args.own.now in
    let ended = c.args.ended.now in
    let copy : CopyInit = get_or own c.copies.place no_copy in
    let here : slice_get own c.copies.place ≡ Some copy = slice_get-get_or own c.copies.place no_copy c.copies-test.true in
    let within : copy.variable < length c.copies.committed = omega (arith, c.requires.known c.copies.place copy here, c.copies.invariant.all) in
    let same : to_z w32 (of_z w32 c.value_at.result) ≡ c.value_at.result = grind (arith, ints, to_z-of_z) in
    subst (λ (z : ℤ). CopiedTo own ended c.args.committed.now (slice_set c.copies.committed copy.variable z) (c.copies.place + 1)) (sym (same ∙ c.value_at.ensures))
    (one_copied own ended c.args.committed.now c.copies.committed c.copies.place copy here within c.copies.invariant)

pub returns-clause-own : goal.returns-clause-own
returns-clause-own c = λ place copy at. c.copies.invariant.listed place copy (omega (arith, slice_get_within c.args.own.now place copy at, c.copies-test.false)) at
