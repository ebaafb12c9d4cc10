-- A run from date 0 on: its history is lawful, and its processors supply what its agents ask for.
use Rattle.std.proofs.Common.{◌≡◌, refl, sym, subst, ℕ, false, length, None}
use Rattle.std.specs.List.{range_with_len}
use Rattle.psy_dates.specs.Beginnings.{beginning_of}
use Rattle.psy_dates.specs.Plans.{IsPlan, opened_of}
use Rattle.psy_dates.proofs.lemmas.Fits.{GoWell, goes_well}
use Rattle.psy_code.specs.declared.code.Code.{Code}
use Rattle.psy_history.specs.Actions.{System}
use Rattle.psy_history.specs.Compiled.{AreInputs}
use Rattle.psy_history.specs.Regular.{IsLawful}
use Rattle.psy_history.specs.Runs.{IsRun}
use Rattle.psy_history.specs.Scheduled.{IsSupplied}
use Rattle.psy_history.specs.Scripts.{IsScript, stalls_of}
use Rattle.psy_kernel.proofs.lemmas.OrdersInForce.{declared_each, in_force_each}
use Rattle.psy_kernel.specs.Progress.{Progress, order, system}
use Rattle.psy_meaning.specs.KnownWays.{Listed, Ways}

-- A run's history is lawful.
abbrev pub Lawful : Type 0
Lawful = (s : System) (ways : Ways) (code : Code) → IsRun s ways code → IsLawful s

module _ (p : Progress) (whole : p.opening ≡ None) (fits : IsPlan p.plan) (inputs : AreInputs p.plan.unit p.inputs) (script : IsScript p.plan.unit p.script) (well : GoWell) where
  pub runs : IsRun (system p) (Listed fits.ways) p.plan.code
  runs =
      subst (λ o. IsRun (opened_of p.plan (beginning_of p.plan o) p.inputs (stalls_of p.script)) (Listed fits.ways) p.plan.code) (sym whole)
      (goes_well p.plan fits well p.inputs (stalls_of p.script) inputs)

  -- No agent is silent from the beginning.
  pub unsilent : (agent : ℕ) → (system p).opening.silent agent ≡ false
  unsilent agent = subst (λ o. (beginning_of p.plan o).silent agent ≡ false) (sym whole) refl

  -- No date was done before.
  pub undone : (system p).opening.dates ≡ 0
  undone = subst (λ o. (beginning_of p.plan o).dates ≡ 0) (sym whole) refl

  module _ (law : Lawful) where
    pub lawful : IsLawful (system p)
    lawful = law (system p) (Listed fits.ways) p.plan.code runs

    pub supplied : IsSupplied (system p) (order p) p.plan.until
    supplied = record {
      lawful = lawful;
      quantum = fits.fits.bare.quantum.0;
      orders = λ cycle. in_force_each p.plan.unit (range_with_len 0 (length p.plan.unit.agents)) p.script.orders cycle (declared_each (length p.plan.unit.agents)) script.orders;
      graphs = fits.supplied.graphs;
      drawn = record { count = fits.supplied.drawn.count; each = fits.supplied.drawn.each };
      feasible = fits.supplied.feasible;
    }
