-- What is left of the proof of `engine::cycle::keep_listed`.
use Rattle.std.proofs.Common.{◌≡◌, ◌+◌, ◌<◌, length, slice_set, IsSome, ℤ, w32, to_z, of_z, sym, ap, subst, ◌∙◌, arith}
use Rattle.std.proofs.lemmas.Int.{ints, to_z-of_z}
use Rattle.std.proofs.lemmas.List.{length-set}
use Rattle.std.proofs.lemmas.Option.{slice_get_within}
use Rattle.psy_code.specs.Execution.{copy_of}
use Rattle.psy_kernel.proofs.KeptCopies.{AreKept, copy_there, one_kept}
use Rattle.psy_kernel.proofs.engine.cycle.keep_listed.Goals as goal

pub copy-requires : goal.copy-requires
copy-requires c =
    let found = copy_there c.args.own.now c.copies.place c.copies-test.true in
    subst (λ n. IsSome (copy_of n c.args.machine.now.machine.copies)) (c.variable_in-variable.ensures found.0 found.1) (c.requires.copies c.copies.place found.0 found.1)

pub index_mut-requires : goal.index_mut-requires
index_mut-requires c =
    let found = copy_there c.args.own.now c.copies.place c.copies-test.true in
    let known : found.0.variable < length c.args.ended.now.items = c.requires.known c.copies.place found.0 found.1 in
    omega (arith, known, c.variable_in-variable.ensures found.0 found.1, c.copies.invariant.all, c.copies.ended.ok)

pub copies-preserved : goal.copies-preserved
copies-preserved c =
    let found = copy_there c.args.own.now c.copies.place c.copies-test.true in
    let same : to_z w32 (of_z w32 c.copy.result) ≡ c.copy.result = grind (arith, ints, to_z-of_z) in
    let is : found.0.variable ≡ c.variable_in-variable.result = c.variable_in-variable.ensures found.0 found.1 in
    let items = c.copies.ended.items in
    subst (λ n. AreKept c.args.own.now c.args.machine.now.machine.copies c.args.ended.now.items (slice_set items n (to_z w32 (of_z w32 c.copy.result))) (c.copies.place + 1)) is
    (subst (λ (z : ℤ). AreKept c.args.own.now c.args.machine.now.machine.copies c.args.ended.now.items (slice_set items found.0.variable z) (c.copies.place + 1)) (sym same)
    (one_kept c.args.own.now c.args.machine.now.machine.copies c.args.ended.now.items items c.copies.place found.0 c.copy.result found.1
    (ap (λ n. copy_of n c.args.machine.now.machine.copies) is ∙ c.copy.ensures) (length-set items found.0.variable c.copy.result) c.copies.invariant))

pub returns-clause-own : goal.returns-clause-own
returns-clause-own c = λ place copy value at found.
    let within : place < length c.args.own.now = slice_get_within c.args.own.now place copy at in
    c.copies.invariant.own place copy value (omega (arith, within, c.copies-test.false)) at found
