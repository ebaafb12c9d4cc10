-- What is left of the proof of `engine::Engine::open`.
use Rattle.std.proofs.Common.{◌≡◌, ℕ, ◌+◌, List, length, replicate, Option, ap, sym, subst, ◌∙◌}
use Rattle.std.specs.List.{range_with_len}
use Rattle.psy_dates.specs.Beginnings.{behind}
use Rattle.psy_dates.specs.Plans.{IsSoundFor, opened_of}
use Rattle.psy_dates.specs.Standing.{SharedStands}
use Rattle.psy_history.specs.Compiled.{AreInputs}
use Rattle.psy_history.specs.Processors.{processors}
use Rattle.psy_history.specs.Schedule.{Turn, units}
use Rattle.psy_history.specs.Scripts.{stalls_of}
use Rattle.psy_kernel.specs.Engines.{begun_behind}
use Rattle.psy_kernel.specs.Resuming.{server_behind}
use Rattle.psy_kernel.specs.Standing.{AreInForce}
use Rattle.psy_kernel.proofs.DatesDue.{AreRunLaws}
use Rattle.psy_kernel.proofs.OpenedParts.{can_begin}
use Rattle.psy_kernel.proofs.engine.Engine.open.Goals as goal

pub runners_of-requires-clause-places : goal.runners_of-requires-clause-places
runners_of-requires-clause-places c =
    let laws : AreRunLaws = record { well = c.fitting.ensures; opened = c.openings.ensures.run; lawful = c.regular.ensures.lawful; none = c.openings.ensures.none; silent = c.openings.ensures.silent; waits = c.openings.ensures.waits } in
    can_begin c.args.plan c.args.opening c.args.inputs.lists c.args.script c.requires.plan c.requires.inputs c.requires.sound laws c.requires.shape

pub behind-requires-clause-sound : goal.behind-requires-clause-sound
behind-requires-clause-sound c = (stalls_of c.args.script, c.requires.sound)

pub opened-requires-clause-inputs : goal.opened-requires-clause-inputs
opened-requires-clause-inputs c = subst (AreInputs c.args.plan.unit) (ap (λ i. i.lists) (sym c.in_ok-shared.ensures.inputs)) c.requires.inputs

pub opened-requires-clause-sound : goal.opened-requires-clause-sound
opened-requires-clause-sound c =
    subst (λ i. IsSoundFor c.args.plan (behind c.args.plan c.args.opening) i (stalls_of c.args.script)) (ap (λ i. i.lists) (sym c.in_ok-shared.ensures.inputs)) c.requires.sound

pub opened-requires-clause-stands : goal.opened-requires-clause-stands
opened-requires-clause-stands c =
    let plan = c.args.plan in
    let opening = c.args.opening in
    let shared = c.in_ok-shared.shared in
    subst (λ i. (turns : ℕ → List (Option Turn)) → ((agent number : ℕ) → units agent number (turns agent) ≡ 0) → SharedStands (opened_of plan (behind plan opening) i (stalls_of c.args.script)) plan.sizes turns (opening.date + 1) shared)
    (ap (λ i. i.lists) (sym c.in_ok-shared.ensures.inputs)) (λ turns none. c.in_ok-shared.ensures.stands (stalls_of c.args.script) turns c.requires.sound none)

pub opened-requires-clause-servers : goal.opened-requires-clause-servers
opened-requires-clause-servers c =
    let unit = c.args.plan.unit in
    let servers = c.in_ok-servers.servers.items in
    subst (λ n. (passed : ℕ) × AreInForce c.args.script.orders passed n × (servers ≡ replicate (processors unit) (server_behind (length unit.agents) passed n))) c.cycles_before-cycles.ensures c.in_ok-servers.ensures

pub opened-requires-clause-declared : goal.opened-requires-clause-declared
opened-requires-clause-declared c = c.in_ok-parts.ensures.declared ∙ ap (range_with_len 0) c.len.ensures

pub returns : goal.returns
returns c = c.opened.ensures ∙ ap (λ i. begun_behind c.args.plan i c.args.script c.args.opening) (ap (λ i. i.lists) c.in_ok-shared.ensures.inputs)
