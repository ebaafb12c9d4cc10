-- What is left of the proof of `buffers::sizes`.
use Rattle.std.proofs.Common.{◌≡◌, ◌⊎◌, subst, inl, inr}
use Rattle.std.proofs.lemmas.Result.{IfErr-weaker, IfOk-weaker}
use Rattle.psy_meaning.specs.BufferSizes.{AreSizes}
use Rattle.psy_meaning.specs.KnownWays.{Listed, OfText}
use Rattle.psy_sizes.specs.declared.fault.SizeFault.{SizeFault}
use Rattle.psy_sizes.specs.declared.fault.SizeFault.TheVariants.{Memory}
use Rattle.psy_sizes.specs.Faults.{CanCount, IsCause, IsFaultBy}
use Rattle.psy_sizes.proofs.buffers.sizes.Goals as goal

pub sizes_by-requires-clause-ways : goal.sizes_by-requires-clause-ways
sizes_by-requires-clause-ways c = c.listed.ensures.known c.args.unit.now c.in_ok-ways.ways c.requires.text c.in_ok-ways.ensures

pub sizes_by-requires-clause-graphs : goal.sizes_by-requires-clause-graphs
sizes_by-requires-clause-graphs c = (c.one_graph.ensures.by_nexts c.args.unit.now c.in_ok-ways.ways.nexts c.args.graphs.now c.in_ok-ways.ensures.nexts).0 c.requires.graphs

pub returns-clause-sizes : goal.returns-clause-sizes
returns-clause-sizes c =
    let unit = c.args.unit.now in
    let ways = c.in_ok-ways.ways in
    let are = c.in_ok-ways.ensures in
    IfOk-weaker c.sizes_by.result (AreSizes unit (Listed ways) ways.nexts) _ (λ sizes by nexts follow.
    subst (λ ns. AreSizes unit (OfText unit) ns sizes) (c.one_list.ensures.nexts unit ways.nexts nexts are.nexts follow) ((c.listed_sizes.ensures.sizes unit ways sizes c.requires.text are).0 by)) c.sizes_by.ensures.sizes

pub returns-clause-counted : goal.returns-clause-counted
returns-clause-counted c =
    let unit = c.args.unit.now in
    let ways = c.in_ok-ways.ways in
    let are = c.in_ok-ways.ensures in
    IfOk-weaker c.sizes_by.result (λ _. CanCount unit (Listed ways) ways.nexts) _ (λ sizes can nexts follow.
    subst (λ ns. CanCount unit (OfText unit) ns) (c.one_list.ensures.nexts unit ways.nexts nexts are.nexts follow) (c.listed_sizes.ensures.counted unit ways c.requires.text are can)) c.sizes_by.ensures.counted

pub returns-clause-cause : goal.returns-clause-cause
returns-clause-cause c =
    let unit = c.args.unit.now in
    let ways = c.in_ok-ways.ways in
    let are = c.in_ok-ways.ensures in
    let P : SizeFault → Type 0 = λ fault. (fault ≡ Memory) ⊎ IsFaultBy unit (Listed ways) ways.nexts fault in
    let Q : SizeFault → Type 0 = λ fault. (fault ≡ Memory) ⊎ IsCause unit fault in
    IfErr-weaker c.sizes_by.result P Q (λ fault h. elim h [
      | inl memory ↦ inl memory
      | inr by ↦ inr (λ nexts follow.
          subst (λ ns. IsFaultBy unit (OfText unit) ns fault) (c.one_list.ensures.nexts unit ways.nexts nexts are.nexts follow) (c.listed_sizes.ensures.faults unit ways fault c.requires.text are by))
    ]) c.sizes_by.ensures.cause
