-- What is left of the proof of `engine::lines::tell_place`.
use Rattle.std.proofs.Common.{◌≡◌, ◌+◌, ◌-◌, ◌<◌, ◌≤◌, ℕ, length, get_or, slice_get, Some, ℤ, w32, to_z, of_z, sym, ap, subst, ◌∙◌, arith}
use Rattle.std.proofs.lemmas.Int.{to_z-of_z}
use Rattle.std.proofs.lemmas.Option.{slice_get_read}
use Rattle.psy_clock.specs.declared.clock.Clock.{Clock}
use Rattle.psy_tree.specs.declared.unit.AgentDecl.{AgentDecl}
use Rattle.psy_tree.specs.declared.unit.VarDecl.{VarDecl}
use Rattle.psy_tree.specs.Parts.{agent_at, variable_at}
use Rattle.psy_dates.specs.Plans.{opened_of}
use Rattle.psy_dates.proofs.lemmas.Fits.{goes_well_from}
use Rattle.psy_meaning.specs.KnownWays.{Listed}
use Rattle.psy_kernel.specs.Telling.{TellsValue}
use Rattle.psy_kernel.proofs.Named.{agent_found, variable_found}
use Rattle.psy_kernel.proofs.PlacesTold.{agent_told, variable_told}
use Rattle.psy_kernel.proofs.engine.lines.tell_place.Goals as goal

abbrev every_tick : Clock
every_tick = record { period = 1; first = 0 }

pub returns-then-place-agents-clause-told : goal.returns-then-place-agents-clause-told
returns-then-place-agents-clause-told c =
    let plan = c.args.plan.now in
    let shared = c.args.shared.now in
    let within : c.args.place < length c.as_slice-agents.result.now = c.if-place-agents.true in
    let among : c.args.place < length plan.unit.agents = subst (λ xs. c.args.place < length xs) c.as_slice-agents.ensures within in
    let at : slice_get shared.seats.items c.args.place ≡ Some c.index.result.now =
    slice_get_read shared.seats.items (length plan.unit.agents) c.args.place c.index.result.now (sym c.requires.seated) among c.index.ensures in
    let named : c.bytes.result.now ≡ (agent_at plan.unit c.args.place).name =
    c.bytes.ensures ∙ ap (λ (a : AgentDecl). a.name) (agent_found plan.unit c.args.place c.as_slice-agents.result.now c.index-agents-place.result c.as_slice-agents.ensures within) in
    λ opening stalls turns stands.
    let s = opened_of plan opening shared.inputs.lists stalls in
    let run = goes_well_from plan c.requires.plan c.fitting.ensures c.openings.ensures.run opening shared.inputs.lists stalls c.requires.inputs stands.sound in
    agent_told s plan.sizes turns c.args.date shared stands.stands c.args.place c.tell_stop.result c.args.line.now c.tell_stop.new.line stands.later (c.openings.ensures.silent s (Listed c.requires.plan.ways) plan.code run (c.args.date + 1) c.args.place) c.index.result.now c.bytes.result.now
    ((c.regular.ensures.lawful s (Listed c.requires.plan.ways) plan.code run).actions (c.args.date + 1) c.args.place)
    among at named c.tell_stop.ensures.told

pub returns-clause-told : goal.returns-clause-told
returns-clause-told c =
    let plan = c.args.plan.now in
    let shared = c.args.shared.now in
    let counted : ℕ = c.args.place - length c.as_slice-agents.result.now in
    let variable : ℕ = c.args.place - length plan.unit.agents in
    let behind : length plan.unit.agents ≤ c.args.place = subst (λ xs. length xs ≤ c.args.place) c.as_slice-agents.ensures c.if-place-agents.false in
    let within : variable < length plan.unit.variables = omega (arith, behind, c.requires.within) in
    let same : counted ≡ variable = ap (λ xs. c.args.place - length xs) c.as_slice-agents.ensures in
    let among : counted < length c.as_slice.result.now = subst (λ n. n < length c.as_slice.result.now) (sym same) (subst (λ xs. variable < length xs) (sym c.as_slice.ensures) within) in
    let v = c.index-as_slice-at.result in
    let value = c.index-2.result.now in
    let named : v ≡ variable_at plan.unit variable = c.index-as_slice-at.is ∙ variable_found plan.unit variable c.as_slice.result.now counted v c.as_slice.ensures same among in
    let timed : get_or c.as_slice-2.result.now v.clock every_tick ≡ get_or plan.unit.clocks (variable_at plan.unit variable).clock every_tick =
    ap (λ xs. get_or xs v.clock every_tick) c.as_slice-2.ensures ∙ ap (λ (w : VarDecl). get_or plan.unit.clocks w.clock every_tick) named in
    let at : slice_get shared.committed.items variable ≡ Some value =
    slice_get_read shared.committed.items (length plan.unit.variables) variable value (sym c.requires.valued) within (c.index-2.ensures ∙ ap (λ n. get_or shared.committed.items n value) same) in
    let bits : to_z w32 (of_z w32 value) ≡ value = grind (arith, to_z-of_z) in
    let told = subst (λ (z : ℤ). TellsValue v (get_or c.as_slice-2.result.now v.clock every_tick) z c.args.date c.tell_value.result c.args.line.now c.tell_value.new.line) bits c.tell_value.ensures.told in
    λ opening stalls turns stands.
    variable_told (opened_of plan opening shared.inputs.lists stalls) plan.sizes turns c.args.date shared stands.stands c.args.place c.tell_value.result c.args.line.now c.tell_value.new.line
    stands.later v (get_or c.as_slice-2.result.now v.clock every_tick) value behind named timed at told
