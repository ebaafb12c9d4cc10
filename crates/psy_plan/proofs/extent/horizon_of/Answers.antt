-- What is left of the proof of `extent::horizon_of`.
use Rattle.std.proofs.Common.{◌≡◌, sym, subst, ℕ, ◌+◌, ◌++◌, [], ◌∷◌, List, map, max, arith}
use Rattle.std.specs.List.{range_with_len}
use Rattle.std.specs.Prelude.{MatchOption}
use Rattle.std.proofs.lemmas.List.FromFn.{map-range_with_len_more}
use Rattle.psy_base.specs.declared.limits.TheConstants.{PROCESSORS}
use Rattle.psy_rate.specs.declared.line.Rate.{Rate}
use Rattle.psy_rate.specs.Horizons.{Covers, IsHorizon, IsHorizonOf}
use Rattle.psy_rate.specs.Lines.{lines_by, lines_on}
use Rattle.psy_plan.proofs.ExtentLemmas.{horizon_lacks, horizon_more, horizon_none}
use Rattle.psy_plan.proofs.ProcessorDemands.{there_by}
use Rattle.psy_plan.proofs.extent.horizon_of.Goals as goal

pub processors-init : goal.processors-init
processors-init c = record { horizon = horizon_none c.args.quantum }

pub processors-preserved : goal.processors-preserved
processors-preserved c =
    let on : ℕ → List Rate = λ processor. lines_on c.args.homes.now processor c.args.lines.now in
    let quantum = c.args.quantum in
    let processor = c.processors.processor in
    let length = c.in-Some.length in
    let greatest = c.processors.greatest in
    let its : IsHorizonOf quantum (on processor) length =
    subst (λ found. MatchOption found ((least : ℕ) → Covers quantum (on processor) least → ⊥) (IsHorizonOf quantum (on processor))) c.in-Some.is c.in_ok-horizon_on.ensures in
    let more : IsHorizon quantum (map on (range_with_len 0 processor) ++ on processor ∷ []) (max length greatest) =
    horizon_more quantum (map on (range_with_len 0 processor)) (on processor) length greatest its c.processors.invariant.horizon in
    record {
      horizon = subst (IsHorizon quantum (map on (range_with_len 0 (processor + 1)))) (sym c.max-greatest.ensures)
          (subst (λ groups. IsHorizon quantum groups (max length greatest)) (sym (map-range_with_len_more on 0 processor processor (omega arith))) more);
    }

pub returns-in-None : goal.returns-in-None
returns-in-None c =
    let on : ℕ → List Rate = λ processor. lines_on c.args.homes.now processor c.args.lines.now in
    let quantum = c.args.quantum in
    let processor = c.processors.processor in
    let none : (least : ℕ) → Covers quantum (on processor) least → ⊥ =
    subst (λ found. MatchOption found ((least : ℕ) → Covers quantum (on processor) least → ⊥) (IsHorizonOf quantum (on processor))) c.in-None.is c.in_ok-horizon_on.ensures in
    horizon_lacks quantum (lines_by c.args.homes.now c.args.lines.now) (on processor) (there_by on PROCESSORS processor c.processors-test.true) none

pub returns : goal.returns
returns c =
    let on : ℕ → List Rate = λ processor. lines_on c.args.homes.now processor c.args.lines.now in
    let all : c.processors.processor ≡ PROCESSORS = omega (arith, c.processors-test.false, c.processors.auto.processor-end) in
    subst (λ count. IsHorizon c.args.quantum (map on (range_with_len 0 count)) c.processors.greatest) all c.processors.invariant.horizon
