-- What is left of the proof of `engine::lines::tell_stream`.
use Rattle.std.proofs.Common.{◌≡◌, ◌<◌, ℕ, length, slice_get, Some, refl, sym, ap, subst, ◌∙◌}
use Rattle.std.proofs.lemmas.Option.{slice_get_read}
use Rattle.psy_tree.specs.declared.unit.StreamDecl.{StreamDecl}
use Rattle.psy_tree.specs.Parts.{stream_at}
use Rattle.psy_dates.specs.Plans.{opened_of}
use Rattle.psy_dates.proofs.lemmas.Fits.{goes_well_from}
use Rattle.psy_meaning.specs.KnownWays.{Listed}
use Rattle.psy_kernel.proofs.Named.{stream_found}
use Rattle.psy_kernel.proofs.StreamsTold.{stream_told}
use Rattle.psy_kernel.proofs.engine.lines.tell_stream.Goals as goal

pub returns-clause-told : goal.returns-clause-told
returns-clause-told c =
    let plan = c.args.plan.now in
    let shared = c.args.shared.now in
    let stream : ℕ = c.args.stream in
    let among : stream < length c.as_slice.result.now = subst (λ xs. stream < length xs) (sym c.as_slice.ensures) c.requires.within in
    let at : slice_get shared.queues.items stream ≡ Some c.index.result.now =
    slice_get_read shared.queues.items (length plan.unit.streams) stream c.index.result.now (sym c.requires.queued) c.requires.within c.index.ensures in
    let named : c.bytes.result.now ≡ (stream_at plan.unit stream).name =
    c.bytes.ensures ∙ ap (λ (d : StreamDecl). d.name) (stream_found plan.unit stream c.as_slice.result.now stream c.index-as_slice-stream.result c.as_slice.ensures refl among) in
    λ opening stalls turns stands.
    let s = opened_of plan opening shared.inputs.lists stalls in
    let run = goes_well_from plan c.requires.plan c.fitting.ensures c.openings.ensures.run opening shared.inputs.lists stalls c.requires.inputs stands.sound in
    stream_told s plan.sizes turns c.args.date shared stands.stands stream (c.queues.ensures.shows s (Listed c.requires.plan.ways) plan.code run c.args.date stream c.requires.within)
    c.args.shown c.args.line.now c.tell_message.new.line c.tell_message.result c.index.result.now c.bytes.result.now at named c.tell_message.ensures.told
