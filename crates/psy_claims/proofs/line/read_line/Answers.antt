-- What is left of the proof of `line::read_line`.
use Rattle.std.proofs.Common.{◌≡◌, refl, sym, subst, arith}
use Rattle.psy_claims.specs.declared.fault.Slip.TheVariants.{Form, Dates, Name}
use Rattle.psy_claims.specs.Claims.{IsWrong, nothing, claims, no_form, falling, unnamed}
use Rattle.psy_claims.proofs.line.read_line.Goals as goal

pub returns-then-is_skipped-clause-says : goal.returns-then-is_skipped-clause-says
returns-then-is_skipped-clause-says c notes variables streams = nothing (sym c.if-is_skipped.ensures)

pub returns-in_default-clause-wrong : goal.returns-in_default-clause-wrong
returns-in_default-clause-wrong c notes variables streams at slip e =
    let same : at ≡ c.args.number = cc in
    let kind : slip ≡ Form = cc in
    let none = rw (c.as_slice.ensures.value, c.in_ok-words.ensures) at c.in_default.ensures in
    (same, subst (IsWrong notes c.args.line.now) (sym kind) (no_form (sym c.if-is_skipped.ensures) none))

pub returns-then-last-first-clause-wrong : goal.returns-then-last-first-clause-wrong
returns-then-last-first-clause-wrong c notes variables streams at slip e =
    let same : at ≡ c.args.number = cc in
    let kind : slip ≡ Dates = cc in
    let spells = rw (c.as_slice.ensures.value, c.in_ok-words.ensures) at c.in-Some.ensures in
    (same, subst (IsWrong notes c.args.line.now) (sym kind) (falling _ (sym c.if-is_skipped.ensures) spells (omega (arith, c.if-last-first.true, c.last.ensures, c.first.ensures))))

pub returns-then-has_name-clause-says : goal.returns-then-has_name-clause-says
returns-then-has_name-clause-says c notes variables streams =
    let spells = rw (c.as_slice.ensures.value, c.in_ok-words.ensures) at c.in-Some.ensures in
    claims _ refl refl (sym c.if-is_skipped.ensures) spells (omega (arith, c.if-last-first.false, c.last.ensures, c.first.ensures))
    (sym (c.if-has_name.ensures notes variables streams))

pub returns-clause-wrong : goal.returns-clause-wrong
returns-clause-wrong c notes variables streams at slip e =
    let same : at ≡ c.args.number = cc in
    let kind : slip ≡ Name = cc in
    let spells = rw (c.as_slice.ensures.value, c.in_ok-words.ensures) at c.in-Some.ensures in (
      same,
      subst (IsWrong notes c.args.line.now) (sym kind)
          (unnamed _ (sym c.if-is_skipped.ensures) spells (omega (arith, c.if-last-first.false, c.last.ensures, c.first.ensures)) (sym (c.if-has_name.ensures notes variables streams))),
    )
