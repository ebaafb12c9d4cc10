-- What is left of the proof of `engine::Engine::next_line`.
use Rattle.std.proofs.Common.{◌≡◌, ◌+◌, ◌*◌, ◌≤◌, ℕ, length, get_or, slice_get, Some, refl, ap, subst, arith}
use Rattle.psy_dates.proofs.lemmas.Fits.{goes_well_from, queue_size, small_queue}
use Rattle.psy_meaning.specs.KnownWays.{Listed}
use Rattle.psy_kernel.specs.Engines.{EngineState, lines_on_date}
use Rattle.psy_history.specs.Scripts.{stalls_of}
use Rattle.psy_kernel.specs.Standing.{EngineStands, state_of}
use Rattle.psy_kernel.proofs.Engines.{opening_in, run_in, turns_in}
use Rattle.psy_kernel.proofs.GivenLines.{all_given, date_later, date_within, given_all, given_few, given_more, given_same, next_given, not_before, stands_at, stands_now}
use Rattle.psy_kernel.proofs.StreamsTold.{shown_few}
use Rattle.psy_kernel.proofs.engine.Engine.next_line.Goals as goal

pub returns-then-self-end-clause-none : goal.returns-then-self-end-clause-none
returns-then-self-end-clause-none c =
    let k = c.self.inside in
    let w = c.self.invariant in
    let date = c.in-Some.date in
    let all : k.given ≡ length (lines_on_date (state_of k)) = given_all k w date c.in-Some.is (omega (arith, c.if-self-end.true, c.len.ensures, c.len-2.ensures, c.len-3.ensures)) in
    λ _. (subst (λ (e : EngineState). e.given ≡ length (lines_on_date e)) c.self.view_is all, refl, refl)

pub prove-unreachable-requires : goal.prove-unreachable-requires
prove-unreachable-requires c =
    let some : 1 ≤ length c.self.inside.servers.items = (let one = c.one_of_them.ensures.one c.self.inside.plan.unit 0 in omega (arith, one, c.self.invariant.served)) in
    let within : c.in-Some.date ≤ c.self.inside.plan.until = date_within c.self.inside c.self.invariant c.in-Some.date c.in-Some.is some in
    omega (arith, within)

pub tell_from-requires-clause-early : goal.tell_from-requires-clause-early
tell_from-requires-clause-early c = omega arith

pub tell_from-requires-clause-calendar : goal.tell_from-requires-clause-calendar
tell_from-requires-clause-calendar c =
    let k = c.self.inside in
    let w = c.self.invariant in
    let date = c.in-Some.date in
    let later : (opening_in k).dates ≤ date = date_later k w date c.in-Some.is (λ e. c.if-self-end.false (omega (arith, e, c.len.ensures, c.len-2.ensures, c.len-3.ensures))) in
    (stands_now k w date c.in-Some.is later).stands.calendar

pub overflow_add-self : goal.overflow_add-self
overflow_add-self c =
    let k = c.self.inside in
    let w = c.self.invariant in
    let date = c.in-Some.date in
    let later : (opening_in k).dates ≤ date = date_later k w date c.in-Some.is (λ e. c.if-self-end.false (omega (arith, e, c.len.ensures, c.len-2.ensures, c.len-3.ensures))) in
    let s = run_in k in
    let ways = Listed w.plan.ways in
    let lists = k.shared.inputs.lists in
    let run = goes_well_from k.plan w.plan c.fitting.ensures c.openings.ensures.run (opening_in k) lists (stalls_of k.script) w.inputs w.sound in
    let few : k.given ≤ k.place + k.place + k.place * 131072 + 131072 =
    given_few k w date c.in-Some.is later (c.regular.ensures.lawful s ways k.plan.code run)
    (λ stream within. shown_few s k.plan.sizes (turns_in k) date k.shared (stands_now k w date c.in-Some.is later).stands stream
    (c.queues.ensures.shows s ways k.plan.code run date stream within)
    (c.queue_sizes.ensures.held s ways k.plan.code run (date + 1) stream (get_or k.plan.sizes.queues stream 0) within (queue_size k.plan w.plan stream within) (small_queue k.plan w.plan stream within))
    (small_queue k.plan w.plan stream within) ((w.sound w.plan).messages stream).few within) in
    let bare = w.plan.fits.bare in
    omega (arith, few, w.place, bare.agent_limit, bare.variable_limit, bare.stream_limit)

pub invariant_of-self : goal.invariant_of-self
invariant_of-self c =
    let k = c.self.inside in
    let w = c.self.invariant in
    let date = c.in-Some.date in
    let later : (opening_in k).dates ≤ date = date_later k w date c.in-Some.is (λ e. c.if-self-end.false (omega (arith, e, c.len.ensures, c.len-2.ensures, c.len-3.ensures))) in
    let s = run_in k in
    let turns = turns_in k in
    let mark = c.in-Some-tell_from.mark in
    let told = c.in-Some-tell_from.ensures.told (opening_in k) (stalls_of k.script) turns (stands_now k w date c.in-Some.is later) in
    stands_at k mark.place mark.shown (k.given + 1) w told.0 told.1 (given_more k w date c.in-Some.is later mark c.args.line.now c.tell_from.new.line told) (not_before k w date c.in-Some.is later mark.place)

pub invariant_of-self-in-None : goal.invariant_of-self-in-None
invariant_of-self-in-None c =
    let k = c.self.inside in
    let w = c.self.invariant in
    let date = c.in-Some.date in
    let later : (opening_in k).dates ≤ date = date_later k w date c.in-Some.is (λ e. c.if-self-end.false (omega (arith, e, c.len.ensures, c.len-2.ensures, c.len-3.ensures))) in
    let s = run_in k in
    let turns = turns_in k in
    let unit = k.plan.unit in
    let end : ℕ = length unit.agents + length unit.variables + length unit.streams in
    let told = c.in-None.ensures.told (opening_in k) (stalls_of k.script) turns (stands_now k w date c.in-Some.is later) in
    let places : end ≡ c.len.result + c.len-2.result + c.len-3.result = omega (arith, c.len.ensures, c.len-2.ensures, c.len-3.ensures) in
    subst (λ (n : ℕ). EngineStands (record k { place = n; shown = 0 })) places
    (stands_at k end 0 k.given w (omega arith) (λ _. refl) (given_same k w date c.in-Some.is later c.args.line.now c.tell_from.new.line told) (not_before k w date c.in-Some.is later end))

pub returns-in-Some-tell_from-clause-some : goal.returns-in-Some-tell_from-clause-some
returns-in-Some-tell_from-clause-some c =
    let k = c.self.inside in
    let w = c.self.invariant in
    let date = c.in-Some.date in
    let later : (opening_in k).dates ≤ date = date_later k w date c.in-Some.is (λ e. c.if-self-end.false (omega (arith, e, c.len.ensures, c.len-2.ensures, c.len-3.ensures))) in
    let s = run_in k in
    let turns = turns_in k in
    let told = c.in-Some-tell_from.ensures.told (opening_in k) (stalls_of k.script) turns (stands_now k w date c.in-Some.is later) in
    let next : slice_get (lines_on_date (state_of k)) k.given ≡ Some c.tell_from.new.line = next_given k w date c.in-Some.is later c.in-Some-tell_from.mark c.args.line.now c.tell_from.new.line told in
    λ _. (subst (λ (e : EngineState). slice_get (lines_on_date e) e.given ≡ Some c.tell_from.new.line) c.self.view_is next, ap (λ (e : EngineState). record e { given = e.given + 1 }) c.self.view_is)

pub returns-in-None-clause-none : goal.returns-in-None-clause-none
returns-in-None-clause-none c =
    let k = c.self.inside in
    let w = c.self.invariant in
    let date = c.in-Some.date in
    let later : (opening_in k).dates ≤ date = date_later k w date c.in-Some.is (λ e. c.if-self-end.false (omega (arith, e, c.len.ensures, c.len-2.ensures, c.len-3.ensures))) in
    let s = run_in k in
    let turns = turns_in k in
    let told = c.in-None.ensures.told (opening_in k) (stalls_of k.script) turns (stands_now k w date c.in-Some.is later) in
    let all : k.given ≡ length (lines_on_date (state_of k)) = all_given k w date c.in-Some.is later c.args.line.now c.tell_from.new.line told in
    λ _. (subst (λ (e : EngineState). e.given ≡ length (lines_on_date e)) c.self.view_is all, c.self.view_is, told.1)
