-- What is left of the proof of `gather::gather_at`.
use Rattle.std.proofs.Common.{◌≡◌, ℕ, ◌<◌, ◌^◌, List, length, get_or, ap, ◌∙◌, inl, inr, arith}
use Rattle.std.specs.Prelude.{slice_set}
use Rattle.std.proofs.lemmas.Bool.{cases_lt}
use Rattle.psy_flow.specs.Bits.{gathered_at}
use Rattle.psy_flow.proofs.Gathered.{gathered_none, gathered_step, no_less, spare_less}
use Rattle.psy_flow.proofs.gather.gather_at.Goals as goal

pub returns-then-all-as_slice-clause-gathered : goal.returns-then-all-as_slice-clause-gathered
returns-then-all-as_slice-clause-gathered c = gathered_none c.args.instrs.now c.args.row.now

pub returns-clause-gathered : goal.returns-clause-gathered
returns-clause-gathered c =
    let instrs = c.args.instrs.now in
    let row = c.args.row.now in
    let place = c.args.place in
    let told : c.gathered-all.result ≡ gathered_at instrs row place = c.gathered-all.ensures ∙ ap (λ r. gathered_at instrs r place) c.as_slice.ensures in
    gathered_step instrs row c.set.new.self place (omega (arith, c.requires.place, c.requires.count)) (c.set.ensures ∙ ap (λ all. slice_set row place all) told)

pub returns-clause-more : goal.returns-clause-more
returns-clause-more c e =
    let instrs = c.args.instrs.now in
    let row = c.args.row.now in
    let place = c.args.place in
    let told : c.gathered-all.result ≡ gathered_at instrs row place = c.gathered-all.ensures ∙ ap (λ r. gathered_at instrs r place) c.as_slice.ensures in
    let inside : place < length row = omega (arith, c.requires.place, c.requires.count) in
    let grown : get_or row place 0 < c.gathered-all.result = elim (cases_lt (get_or row place 0) c.gathered-all.result) [
      | inl less ↦ less
      | inr not ↦ absurd (c.if-all-as_slice.false (omega (arith, not, told, no_less instrs row place, ap (λ (r : List ℕ). get_or r place 0) c.as_slice-2.ensures)))
    ] in
    spare_less instrs row c.set.new.self place c.gathered-all.result (2 ^ 64) inside c.set.ensures grown c.gathered-all.type_inv
