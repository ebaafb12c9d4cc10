-- What is left of the proof of `encoding::encode`.
use Rattle.std.proofs.Common.{◌∙◌, length, refl, sym, ap, inl, arith}
use Rattle.psy_image.proofs.Encoded.{is_bytes, written_spells}
use Rattle.psy_image.proofs.encoding.encode.Goals as goal

pub returns-then-len-gt-FILE_BYTES-clause-exact : goal.returns-then-len-gt-FILE_BYTES-clause-exact
returns-then-len-gt-FILE_BYTES-clause-exact c = λ bytes h. inl (refl, omega (arith, c.if-len-gt-FILE_BYTES.true, c.len.ensures, ap length (is_bytes c.args.unit.now c.args.code.now bytes h ∙ sym c.in_ok-out.ensures)))

pub returns-clause-spelled : goal.returns-clause-spelled
returns-clause-spelled c = written_spells c.args.unit.now c.args.code.now c.in_ok-out.out.items c.requires c.in_ok-out.ensures

pub returns-clause-exact : goal.returns-clause-exact
returns-clause-exact c = λ bytes h. c.in_ok-out.ensures ∙ sym (is_bytes c.args.unit.now c.args.code.now bytes h)
