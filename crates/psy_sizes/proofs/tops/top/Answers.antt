-- What is left of the proof of `tops::top`.
use Rattle.std.proofs.Common.{◌≡◌, ◌+◌, ◌-◌, ◌*◌, ◌^◌, ◌≤◌, min, Some, length, get_or, refl, sym, ap, subst, ◌∙◌, arith}
use Rattle.std.specs.List.{slice_get}
use Rattle.std.proofs.lemmas.List.{get_or_default}
use Rattle.std.proofs.lemmas.List.Elements.{All-get_or}
use Rattle.std.proofs.lemmas.Nat.{mul-le}
use Rattle.std.proofs.lemmas.Option.{get_or_from_slice_get, slice_get_read}
use Rattle.psy_clock.specs.declared.clock.Clock.{Clock}
use Rattle.psy_clock.specs.Dates.{IsClock}
use Rattle.psy_tree.specs.declared.unit.StreamDecl.{StreamDecl}
use Rattle.psy_base.specs.Extremes.{IsGreatest}
use Rattle.psy_meaning.specs.KnownWays.{Listed, delay_by}
use Rattle.psy_meaning.specs.QueueSizes.{MayLast, lasting_of}
use Rattle.psy_meaning.specs.Sendings.{period_of}
use Rattle.psy_tree.specs.Parts.{stream_at}
use Rattle.psy_meaning.specs.RingSizes.{agent_timing}
use Rattle.psy_meaning.specs.Units.{IsBareStream}
use Rattle.psy_sizes.proofs.ReadLists.{graph_read}
use Rattle.psy_sizes.proofs.Sharing.{no_clock}
use Rattle.psy_sizes.proofs.WindowOf.{cut_is}
use Rattle.psy_sizes.proofs.tops.top.Goals as goal
use Rattle.psy_sizes.proofs.tops.top.Goals.{After-index-as_slice-stream}

-- The stream as it is declared
declared_is : (c : After-index-as_slice-stream) → slice_get c.args.unit.now.streams c.args.stream ≡ Some c.index-as_slice-stream.result
declared_is c =
    let here : slice_get c.as_slice.result.now c.args.stream ≡ Some c.index-as_slice-stream.result =
    slice_get_read c.as_slice.result.now (length c.as_slice.result.now) c.args.stream c.index-as_slice-stream.result refl (omega (arith, c.requires.stream, ap length c.as_slice.ensures)) c.index-as_slice-stream.is in
    subst (λ xs. slice_get xs c.args.stream ≡ Some c.index-as_slice-stream.result) c.as_slice.ensures here

bare_is : (c : After-index-as_slice-stream) → IsBareStream c.args.unit.now c.index-as_slice-stream.result
bare_is c =
    let unit = c.args.unit.now in
    let decl = c.index-as_slice-stream.result in
    subst (IsBareStream unit) (get_or_from_slice_get unit.streams c.args.stream decl decl (declared_is c)) (c.requires.bare.streams c.args.stream decl c.requires.stream)

pub longest_of_agent-longest-requires-clause-graph : goal.longest_of_agent-longest-requires-clause-graph
longest_of_agent-longest-requires-clause-graph c =
    let graphs = c.args.graphs.now in
    let receiver = c.index-as_slice-stream.result.receiver in
    let known = (bare_is (goal.at.longest_of_agent-longest-requires-clause-graph c).After-index-as_slice-stream).receiver in
    graph_read c.args.unit.now c.args.ways.now.nexts graphs receiver c.index-graphs-receiver.result c.requires.graphs (omega (arith, known, c.requires.graphs.count)) c.index-graphs-receiver.is

pub returns : goal.returns
returns c =
    let unit = c.args.unit.now in
    let nexts = c.args.ways.now.nexts in
    let delay = delay_by (Listed c.args.ways.now) c.args.stream in
    let stream = c.args.stream in
    let decl = c.index-as_slice-stream.result in
    let at = (goal.at.returns c).After-index-as_slice-stream in
    let declared : slice_get unit.streams stream ≡ Some decl = declared_is at in
    let is : stream_at unit stream ≡ decl = get_or_from_slice_get unit.streams stream decl _ declared in
    let bare : IsBareStream unit decl = bare_is at in
    let nothing : Clock = record { period = 0; first = 0 } in
    let clock = get_or unit.clocks decl.clock no_clock in
    let lawful : IsClock clock = All-get_or IsClock unit.clocks decl.clock no_clock bare.clock c.requires.bare.clocks in
    let read : get_or c.as_slice-2.result.now decl.clock nothing ≡ clock = ap (λ xs. get_or xs decl.clock nothing) c.as_slice-2.ensures ∙ get_or_default unit.clocks decl.clock nothing no_clock bare.clock in
    let lasting : lasting_of unit stream ≡ decl.keep * clock.period = ap (λ (s : StreamDecl). s.keep * period_of unit s.clock) is in
    let found : decl.keep * (get_or c.as_slice-2.result.now decl.clock nothing).period ≡ decl.keep * clock.period = ap (λ (k : Clock). decl.keep * k.period) read in
    let some : 1 * 1 ≤ decl.keep * clock.period = mul-le 1 1 decl.keep clock.period bare.keep.0 (omega (arith, lawful.first)) in
    let longest = c.longest_of_agent-longest.result in
    let greatest : IsGreatest (MayLast (agent_timing unit nexts (stream_at unit stream).receiver)) longest =
    subst (λ (s : StreamDecl). IsGreatest (MayLast (agent_timing unit nexts s.receiver)) longest) (sym is) c.longest_of_agent-longest.ensures.longest in
    let least = c.longest_of_agent-longest.ensures.some in
    let read_period = (get_or c.as_slice-2.result.now decl.clock nothing).period in
    let kept = c.from.result * c.from-2.result in
    let product : kept ≡ decl.keep * read_period = ap (λ n. n * c.from-2.result) c.from.ensures ∙ ap (λ n. decl.keep * n) c.from-2.ensures in
    let whole : kept ≡ lasting_of unit stream = product ∙ found ∙ sym lasting in
    let some_lasting : 1 ≤ lasting_of unit stream = omega (arith, lasting, some) in
    let read_sum : c.saturating_add-window.result ≡ min (c.delay-delay.result + (kept + longest - 1)) (2 ^ 64 - 1) = c.saturating_add-window.ensures in
    let sum : c.saturating_add-window.result ≡ min (delay + (lasting_of unit stream + longest - 1)) (2 ^ 64 - 1) =
    read_sum ∙ ap (λ n. min (n + (kept + longest - 1)) (2 ^ 64 - 1)) c.delay-delay.ensures ∙ ap (λ n. min (delay + (n + longest - 1)) (2 ^ 64 - 1)) whole in
    let window = delay + lasting_of unit stream + longest - 1 in (
      window,
      (longest, greatest, refl),
      omega (arith, some_lasting, least),
      cut_is (delay) (lasting_of unit stream) longest c.saturating_add-window.result c.min.result some_lasting least sum c.min.ensures,
    )
