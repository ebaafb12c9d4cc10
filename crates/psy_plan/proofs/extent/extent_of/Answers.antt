-- What is left of the proof of `extent::extent_of`.
use Rattle.std.proofs.Common.{ℕ, subst}
use Rattle.std.specs.Prelude.{MatchOption}
use Rattle.psy_rate.specs.Horizons.{IsHorizon}
use Rattle.psy_rate.specs.Lines.{lines_by}
use Rattle.psy_plan.proofs.ExtentLemmas.{no_horizon, nearer_is}
use Rattle.psy_plan.proofs.extent.extent_of.Goals as goal

pub returns-in-None : goal.returns-in-None
returns-in-None c =
    let groups = lines_by c.args.homes.now c.args.lines.now in
    no_horizon c.args.quantum c.args.until c.args.homes.now c.args.lines.now
    (subst (λ found. MatchOption found ((length : ℕ) → IsHorizon c.args.quantum groups length → ⊥) (IsHorizon c.args.quantum groups)) c.in-None.is c.in_ok-horizon_of.ensures)

pub returns-in-Some : goal.returns-in-Some
returns-in-Some c =
    let groups = lines_by c.args.homes.now c.args.lines.now in
    let is = subst (λ found. MatchOption found ((length : ℕ) → IsHorizon c.args.quantum groups length → ⊥) (IsHorizon c.args.quantum groups)) c.in-Some.is c.in_ok-horizon_of.ensures in
    nearer_is c.horizons.ensures.only c.args.quantum c.args.until c.in-Some.length c.args.homes.now c.args.lines.now c.within.result is c.within.ensures
