-- What is left of the proof of `line::digits_of`.
use Rattle.std.proofs.Common.{◌≡◌, ◌++◌, ◌+◌, ◌-◌, ◌/◌, ◌%◌, drop, length, refl, set, sym, ap, ◌∙◌, append-nil, arith}
use Rattle.std.proofs.lemmas.List.{length-set}
use Rattle.psy_wave.specs.Codes.{binary, word}
use Rattle.psy_wave.proofs.Digits.{digits_end, digits_more}
use Rattle.psy_wave.proofs.line.digits_of.Goals as goal
use Rattle.psy_wave.proofs.line.digits_of.Goals.{then-left-eq0, else-left-eq0}

pub loop-turn-init : goal.loop-turn-init
unfolding word
loop-turn-init c = record { size = refl; found = sym (append-nil (binary 32 c.args.number)) }

pub loop-turn-preserved : goal.loop-turn-preserved
loop-turn-preserved c =
    let turn = c.loop-turn.turn in
    let left = c.loop-turn.left in
    let digits = c.loop-turn.digits in
    let digit = c.if-left-eq0.digits in
    let size : length digits ≡ 32 = c.loop-turn.invariant.size in
    let is : digit ≡ 48 + left % 2 =
    elim c.if-left-eq0.branch [
      | then-left-eq0 w ↦ omega (arith, w.digits-is, w.if-left-eq0.true)
      | else-left-eq0 w ↦ omega (arith, w.digits-is, w.if-left-eq0.false)
    ] in
    let next : 31 - turn ≡ 32 - (turn + 1) = omega arith in
    record {
      size = length-set digits (31 - turn) digit ∙ size;
      found =
          c.loop-turn.invariant.found
          ∙ digits_more (31 - turn) (32 - turn) left digit digits (omega (arith, c.loop-turn-test.true)) (omega (arith, size, c.loop-turn-test.true)) is
          ∙ ap (λ n. binary n (left / 2) ++ drop n (set digits (31 - turn) digit)) next;
    }

pub returns : goal.returns
returns c =
    let done : 32 - c.loop-turn.turn ≡ 0 = omega (arith, c.loop-turn-test.false) in
    sym (c.loop-turn.invariant.found ∙ ap (λ n. binary n c.loop-turn.left ++ drop n c.loop-turn.digits) done ∙ digits_end c.loop-turn.left c.loop-turn.digits)
