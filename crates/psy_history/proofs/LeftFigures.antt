-- The figures that a whole run leaves are what they may be.
use Rattle.std.proofs.Common.{◌≡◌, ℕ, suc, ◌*◌, ◌<◌, ◌≤◌, ◌^◌, List, [], ◌∷◌, length, map, Option, Some, None, refl, arith}
use Rattle.std.specs.Prelude.{nat_le}
use Rattle.std.specs.List.{Contains}
use Rattle.std.proofs.lemmas.Bool.{leb-true}
use Rattle.std.proofs.lemmas.Nat.{mul-le}
use Rattle.psy_base.specs.Extremes.{least_of, lesser}
use Rattle.psy_base.specs.declared.limits.TheConstants.{UNTIL}
use Rattle.psy_lists.proofs.lemmas.Members.{contains_front, filter_from}
use Rattle.psy_lists.proofs.lemmas.Searches.{filter_less}
use Rattle.psy_history.specs.Actions.{Action, System}
use Rattle.psy_history.specs.History.{history}
use Rattle.psy_history.specs.Openings.{HasFigure}
use Rattle.psy_history.specs.Schedule.{Turn}
use Rattle.psy_history.specs.Summary.{due_by, due_count, least_slack, slack_of}
use Rattle.psy_history.proofs.Numbers.{few}
use Rattle.psy_history.proofs.ResumedFigures.{added_is}

module _ (s : System) (date agent : ℕ) (near : date ≤ UNTIL) (cycles : date * s.unit.quantum < 2 ^ 50) (count : s.opening.count agent ≡ 0)
    (slack : s.opening.slack agent ≡ None) where
  abbrev due : List Action
  due = due_by date (history s date agent)

  -- No more actions are due than there are dates.
  pub left_count : due_count s agent due < 2 ^ 50
  left_count =
      let long = filter_less (λ (r : Action). nat_le r.deadline date) (history s date agent) in
      omega (arith, added_is (s.opening.count agent) (length due), count, long, few s date agent, near)

  least_below : (first : ℕ) (o : Option ℕ) (n : ℕ) → first < 2 ^ 50 → 1 ≤ n → HasFigure n (lesser first o)
  least_below first None n low some = (some, low)
  least_below first (Some least) n low some = (some, omega (arith, low))

  figure_of : (turns : List (Option Turn)) (actions : List Action) → ((r : Action) → Contains actions r → r.deadline ≤ date)
      → HasFigure (length actions) (least_of (map (slack_of s.unit.quantum turns) actions))
  figure_of turns [] early = refl
  figure_of turns (r ∷ actions) early =
      let by : r.deadline * s.unit.quantum ≤ date * s.unit.quantum =
      mul-le r.deadline s.unit.quantum date s.unit.quantum (early r (contains_front r actions)) (omega arith) in
      least_below (slack_of s.unit.quantum turns r) (least_of (map (slack_of s.unit.quantum turns) actions)) (suc (length actions)) (omega (arith, by, cycles)) (omega arith)

  -- A slack is no more than the cycles until the date.
  pub left_slack : (turns : List (Option Turn)) → HasFigure (due_count s agent due) (least_slack s turns agent due)
  left_slack turns =
      let slacks : List ℕ = map (slack_of s.unit.quantum turns) due in
      let its : HasFigure (length due) (least_of slacks) =
      figure_of turns due (λ r c. leb-true r.deadline date (filter_from (λ (x : Action). nat_le x.deadline date) (history s date agent) r c).1) in
      rw (count, slack) its
