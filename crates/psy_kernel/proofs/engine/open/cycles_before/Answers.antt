-- What is left of the proof of `engine::open::cycles_before`.
use Rattle.std.proofs.Common.{◌≤◌, arith}
use Rattle.std.proofs.lemmas.Nat.{mul-le}
use Rattle.psy_kernel.proofs.engine.open.cycles_before.Goals as goal

pub overflow_mul-result : goal.overflow_mul-result
overflow_mul-result c =
    let few : c.args.opening.now.date ≤ 4294967295 = omega (arith, c.requires.near) in
    let quantum : c.from-2.result ≤ 1000000 = omega (arith, c.from-2.ensures, c.requires.bare.quantum.1) in
    omega (arith, mul-le c.args.opening.now.date c.from-2.result 4294967295 1000000 few quantum)
