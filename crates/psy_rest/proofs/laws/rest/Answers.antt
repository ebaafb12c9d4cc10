-- What is left of the proof of `laws::rest`.
use Rattle.std.proofs.Common.{◌+◌, ◌*◌, ◌≤◌, arith}
use Rattle.std.proofs.lemmas.Nat.{mul-le}
use Rattle.psy_rest.proofs.RestTexts.{text_parts}
use Rattle.psy_rest.proofs.laws.rest.Goals as goal

pub returns : goal.returns
returns c s ways code order sizes date until may late =
    let law = c.resume.ensures in
    let later : date ≤ until + 1 = omega (arith, late) in
    let cycles : date * s.unit.quantum ≤ until * s.unit.quantum = mul-le date s.unit.quantum until s.unit.quantum late (omega arith) in
    text_parts s sizes order date until may.behind late (law.lines s ways code sizes.rings order date may) (record {
      counts = λ agent. law.counts s ways code sizes.rings order date may (until + 1) until agent later late;
      slacks = λ agent. law.slacks s ways code sizes.rings order date may (until + 1) until (until * s.unit.quantum) agent later late cycles;
      reaches = λ variable. law.reaches s ways code sizes.rings order date may (until + 1) (until * s.unit.quantum) variable later cycles;
      helds = λ stream. law.helds s ways code sizes.rings order date may until stream late;
    })
