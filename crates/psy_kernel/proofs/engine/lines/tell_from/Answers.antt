-- What is left of the proof of `engine::lines::tell_from`.
use Rattle.std.proofs.Common.{◌≡◌, ℕ, ◌+◌, ◌<◌, List, Some, length, refl, sym, ap, subst, ◌∙◌, arith}
use Rattle.psy_dates.specs.Plans.{opened_of}
use Rattle.psy_kernel.specs.Standing.{told_from}
use Rattle.psy_kernel.specs.Telling.{IsNextTold}
use Rattle.psy_kernel.proofs.PlacesTold.{told_as}
use Rattle.psy_kernel.proofs.ToldStreams.{end_of}
use Rattle.psy_kernel.proofs.engine.lines.tell_from.Goals as goal

pub returns-in-Some : goal.returns-in-Some
returns-in-Some c =
    let unit = c.args.plan.now.unit in
    let within : c.args.place < length unit.agents + length unit.variables = omega (arith, c.if-place-places.false, c.len.ensures, c.len-2.ensures) in
    let none : c.args.shown ≡ 0 = c.requires.unshown within in
    record {
      told = λ opening stalls turns stands.
          (let s = opened_of c.args.plan.now opening c.args.shared.now.inputs.lists stalls in
          let told = c.in-Some.ensures.told opening stalls turns stands in
          subst (λ n. IsNextTold s c.args.date (end_of s c.args.date) c.args.place n (Some c.in-Some.mark) c.args.line.now c.tell_next.new.line) (sym none) (omega (arith, told.0), told.1, told.2, told.3, told.4));
    }

pub returns-in-None : goal.returns-in-None
returns-in-None c =
    let unit = c.args.plan.now.unit in
    let places : c.len.result + c.len-2.result ≡ length unit.agents + length unit.variables = omega (arith, c.len.ensures, c.len-2.ensures) in
    let within : c.args.place < length unit.agents + length unit.variables = omega (arith, c.if-place-places.false, c.len.ensures, c.len-2.ensures) in
    let none : c.args.shown ≡ 0 = c.requires.unshown within in
    record {
      told = λ opening stalls turns stands.
          (let s = opened_of c.args.plan.now opening c.args.shared.now.inputs.lists stalls in
          let first = c.len.result + c.len-2.result in
          let same : told_from s c.args.date first 0 ≡ told_from s c.args.date c.args.place c.args.shown =
          ap (λ place. told_from s c.args.date place 0) places ∙ (c.in-None.ensures.told opening stalls turns stands).0 ∙ ap (told_from s c.args.date c.args.place) (sym none) in
          subst (λ (line : List ℕ). IsNextTold s c.args.date (end_of s c.args.date) c.args.place c.args.shown c.tell_shown-in-None.result line c.tell_shown-in-None.new.line) (c.in-None.ensures.kept refl)
          (told_as s c.args.date (end_of s c.args.date) first 0 c.args.place c.args.shown c.tell_shown-in-None.result c.tell_next.new.line c.tell_shown-in-None.new.line same (c.tell_shown-in-None.ensures.told opening stalls turns stands)));
    }
