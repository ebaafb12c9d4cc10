-- What is left of the proof of `engine::lines::may_tell`.
use Rattle.std.proofs.Common.{◌≡◌, ℕ, ◌+◌, ◌<◌, ◌≤◌, false, [], All, length, get_or, slice_get, Some, refl, sym, ap, subst, ◌∙◌, arith}
use Rattle.std.proofs.lemmas.Option.{slice_get-get_or}
use Rattle.psy_dates.specs.Messages.{nowhere}
use Rattle.psy_dates.specs.Movers.{NamesAll, falls_by, falls_in, of_seat}
use Rattle.psy_dates.specs.Plans.{opened_of}
use Rattle.psy_dates.proofs.lemmas.Fits.{goes_well_from}
use Rattle.psy_dates.proofs.lemmas.Moving.{fell_not}
use Rattle.psy_dates.proofs.lemmas.Names.{names_within}
use Rattle.psy_meaning.specs.KnownWays.{Listed}
use Rattle.psy_tree.specs.Parts.{agent_at}
use Rattle.psy_kernel.specs.Telling.{IsToldBy, told_by}
use Rattle.psy_kernel.proofs.PlacesTold.{agent_told}
use Rattle.psy_kernel.proofs.Skipped.{passed_to}
use Rattle.psy_kernel.proofs.engine.lines.may_tell.Goals as goal

pub next_mover-requires-clause-known : goal.next_mover-requires-clause-known
next_mover-requires-clause-known c =
    let shared = c.args.shared.now in
    let unit = c.args.plan.now.unit in
    let all : All (λ k. k < length unit.agents) shared.movers.moved.agents = names_within (falls_in (c.args.date + 1) shared.seats.items) (length unit.agents) 0 shared.movers.moved.agents c.requires.movers in
    subst (λ n. All (λ k. k < n) c.agents.result.now) (sym c.len-agents.ensures) (subst (All (λ k. k < length unit.agents)) (sym c.agents.ensures) all)

pub returns-clause-told : goal.returns-clause-told
returns-clause-told c opening stalls turns stands =
    let plan = c.args.plan.now in
    let shared = c.args.shared.now in
    let date = c.args.date in
    let seats = shared.seats.items in
    let s = opened_of plan opening shared.inputs.lists stalls in
    let run = goes_well_from plan c.requires.plan c.fitting.ensures c.openings.ensures.run opening shared.inputs.lists stalls c.requires.inputs stands.sound in
    let ends = c.next_mover.ensures.within in
    let named : NamesAll (falls_in (date + 1) seats) c.len-agents.result 0 c.agents.result.now =
    subst (λ n. NamesAll (falls_in (date + 1) seats) n 0 c.agents.result.now) (sym c.len-agents.ensures) (subst (NamesAll (falls_in (date + 1) seats) (length plan.unit.agents) 0) (sym c.agents.ensures) c.requires.movers) in
    let tells : (k : ℕ) → c.args.place ≤ k → k < c.next_mover.result → IsToldBy s date (told_by s date k) false [] [] = λ k low high.
    (let among : k < length plan.unit.agents = omega (arith, high, ends.1, c.len-agents.ensures) in
    let here : slice_get seats k ≡ Some (get_or seats k nowhere) = slice_get-get_or seats k nowhere (omega (arith, among, c.requires.seated)) in
    let not : falls_in (date + 1) seats k ≡ false = c.next_mover.ensures.between (falls_in (date + 1) seats) named k low high in
    let quiet : falls_by (date + 1) (get_or seats k nowhere) (get_or seats k nowhere).phase ≡ false = sym (ap (of_seat (λ seat. falls_by (date + 1) seat seat.phase)) here) ∙ not in
    agent_told s plan.sizes turns date shared stands.stands k false [] [] stands.later (c.openings.ensures.silent s (Listed c.requires.plan.ways) plan.code run (date + 1) k) (get_or seats k nowhere) (agent_at plan.unit k).name
    ((c.regular.ensures.lawful s (Listed c.requires.plan.ways) plan.code run).actions (date + 1) k) among here refl (fell_not date (get_or seats k nowhere) quiet, refl)) in
    passed_to s date c.args.place c.next_mover.result ends.0 (omega (arith, ends.1, c.len-agents.ensures)) tells
