-- What is left of the proof of `eyes::Scene::past`.
use Rattle.std.proofs.Common.{◌≡◌, arith, ap, of_z, to_z, sym, Some, ◌∙◌}
use Rattle.std.specs.Int.{w32}
use Rattle.std.proofs.lemmas.Int.{to_z-of_z}
use Rattle.psy_kernel.proofs.SeenValues.{read_in, seen_in}
use Rattle.psy_kernel.proofs.eyes.Scene.past.Goals as goal

pub bounds-self-inside-number : goal.bounds-self-inside-number
bounds-self-inside-number c = (seen_in _ _ _ _ _ c.self.invariant _ _ _ _ c.self.view_is c.args.variable c.args.back c.requires).known

pub bounds-self-inside-number-2 : goal.bounds-self-inside-number-2
bounds-self-inside-number-2 c = (seen_in _ _ _ _ _ c.self.invariant _ _ _ _ c.self.view_is c.args.variable c.args.back c.requires).ringed

pub overflow_cast-passed : goal.overflow_cast-passed
overflow_cast-passed c =
    let read = read_in _ _ _ _ _ c.self.invariant _ _ _ _ c.self.view_is c.args.variable c.args.back c.requires _ _ _ c.clock_in-clock.ensures.clock c.dates_between-passed.ensures in
    omega (arith, read.few)

pub overflow_add-back : goal.overflow_add-back
overflow_add-back c =
    let read = read_in _ _ _ _ _ c.self.invariant _ _ _ _ c.self.view_is c.args.variable c.args.back c.requires _ _ _ c.clock_in-clock.ensures.clock c.dates_between-passed.ensures in
    omega (arith, read.few)

pub look-requires : goal.look-requires
look-requires c = (read_in _ _ _ _ _ c.self.invariant _ _ _ _ c.self.view_is c.args.variable c.args.back c.requires _ _ _ c.clock_in-clock.ensures.clock c.dates_between-passed.ensures).inside _

pub returns : goal.returns
returns c =
    let bits : to_z w32 (of_z w32 c.look.result) ≡ c.look.result = grind (arith, to_z-of_z) in
    (read_in _ _ _ _ _ c.self.invariant _ _ _ _ c.self.view_is c.args.variable c.args.back c.requires _ _ _ c.clock_in-clock.ensures.clock c.dates_between-passed.ensures).value _ _
    (c.look.ensures ∙ ap Some (sym bits))
