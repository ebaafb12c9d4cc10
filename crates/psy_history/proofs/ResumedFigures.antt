-- The figures of a run that is taken up again at a quiet date are those of the whole run.
use Rattle.std.proofs.Common.{◌≡◌, ◌⊎◌, ℕ, zero, suc, ◌+◌, ◌*◌, ◌≤◌, min, max, All, Bool, List, [], ◌∷◌, ◌++◌, length, map, Option, Some, None, append-nil, refl, sym, ap, ap₂, ◌∙◌, subst, inl, inr, arith}
use Rattle.std.specs.Prelude.{◌-◌, nat_le}
use Rattle.std.specs.List.{Contains}
use Rattle.std.proofs.lemmas.Bool.{le-leb}
use Rattle.std.proofs.lemmas.List.{length-append, map-append}
use Rattle.std.proofs.lemmas.List.Elements.{All-contains, Contains-append_cases, Contains-append_left, Contains-append_right, filter-append}
use Rattle.psy_base.specs.Extremes.{greater, greatest_of, least_of, lesser}
use Rattle.psy_budget.specs.Charges.{cycle_of}
use Rattle.psy_lists.proofs.lemmas.Members.{filter_from}
use Rattle.psy_history.specs.Actions.{Action, System}
use Rattle.psy_history.specs.History.{history}
use Rattle.psy_history.specs.Regular.{IsLawful}
use Rattle.psy_history.specs.Resuming.{resumed_at}
use Rattle.psy_history.specs.Schedule.{Turn}
use Rattle.psy_history.specs.Scheduled.{IsFinished, turns_by}
use Rattle.psy_history.specs.Summary.{added_to, due_by, due_count, least_slack, numbers_in, reach, slack_of}
use Rattle.psy_history.proofs.Greatest.{greatest_same}
use Rattle.psy_history.proofs.Growth.{stays_started}
use Rattle.psy_history.proofs.Numbers.{agent_of}
use Rattle.psy_history.proofs.Reached.{IsReached, all_ages, in_reached, reached_in}
use Rattle.psy_history.proofs.ResumedTurns.{new_told, old_told}
use Rattle.psy_history.proofs.SameElements.{filter_all, map_each}

-- ---- figures of two lists

-- What was counted before is counted too.
pub added_is : (before n : ℕ) → added_to before n ≡ n + before
added_is zero n = omega arith
added_is (suc before) n = refl

-- The figure of a list stands for it.
least_front : (xs ys : List ℕ) → least_of (numbers_in (least_of xs) ++ ys) ≡ least_of (xs ++ ys)
least_front [] ys = refl
least_front (x ∷ xs) ys = with_least (least_of xs) (least_of ys) ∙ ap (lesser x) (least_front xs ys)
  where
    lesser_both : (x least : ℕ) (o : Option ℕ) → lesser (min x least) o ≡ lesser x (lesser least o)
    lesser_both x least None = refl
    lesser_both x least (Some other) = ap Some (omega arith)

    with_least : (o p : Option ℕ) → least_of (numbers_in (lesser x o) ++ ys) ≡ lesser x (least_of (numbers_in o ++ ys))
    with_least None p = refl
    with_least (Some least) p = lesser_both x least (least_of ys)

greatest_front : (xs ys : List ℕ) → greatest_of (numbers_in (greatest_of xs) ++ ys) ≡ greatest_of (xs ++ ys)
greatest_front [] ys = refl
greatest_front (x ∷ xs) ys = with_greatest (greatest_of xs) ∙ ap (greater x) (greatest_front xs ys)
  where
    greater_both : (x greatest : ℕ) (o : Option ℕ) → greater (max x greatest) o ≡ greater x (greater greatest o)
    greater_both x greatest None = refl
    greater_both x greatest (Some other) = ap Some (omega arith)

    with_greatest : (o : Option ℕ) → greatest_of (numbers_in (greater x o) ++ ys) ≡ greater x (greatest_of (numbers_in o ++ ys))
    with_greatest None = refl
    with_greatest (Some greatest) = greater_both x greatest (greatest_of ys)

-- The least number doesn't depend on the order of two lists, behind a third.
lesser_turned : (x y : ℕ) (o : Option ℕ) → lesser x (lesser y o) ≡ lesser y (lesser x o)
lesser_turned x y None = ap Some (omega arith)
lesser_turned x y (Some least) = ap Some (omega arith)

least_behind : (xs : List ℕ) (y : ℕ) (ys : List ℕ) → least_of (xs ++ y ∷ ys) ≡ lesser y (least_of (xs ++ ys))
least_behind [] y ys = refl
least_behind (x ∷ xs) y ys = ap (lesser x) (least_behind xs y ys) ∙ lesser_turned x y (least_of (xs ++ ys))

least_turned : (xs ys zs : List ℕ) → least_of (xs ++ (ys ++ zs)) ≡ least_of ((xs ++ zs) ++ ys)
least_turned (x ∷ xs) ys zs = ap (lesser x) (least_turned xs ys zs)
least_turned [] [] zs = sym (ap least_of (append-nil zs))
least_turned [] (y ∷ ys) zs = ap (lesser y) (least_turned [] ys zs) ∙ sym (least_behind zs y ys)

-- ---- the two runs

module _ (s : System) (lawful : IsLawful s) (sizes : List ℕ) (order : ℕ → List ℕ) (date : ℕ) (some : 1 ≤ s.unit.quantum)
    (finished : (agent : ℕ) → All (IsFinished s order (date * s.unit.quantum)) (history s date agent))
    (due : (agent : ℕ) → All (λ r. r.deadline ≤ date) (history s date agent))
    (on : (later agent : ℕ) → date ≤ later → history s later agent ≡ history (resumed_at s sizes order date) later agent ++ history s date agent)
    (none : (agent : ℕ) → history (resumed_at s sizes order date) date agent ≡ []) where
  abbrev t : System
  t = resumed_at s sizes order date

  abbrev first : ℕ
  first = date * s.unit.quantum

  -- ---- actions that are due

  all_due : (until agent : ℕ) → date ≤ until → due_by until (history s date agent) ≡ history s date agent
  all_due until agent late = filter_all (λ (r : Action). nat_le r.deadline until) (history s date agent) (λ r c.
      let early = All-contains (λ (r : Action). r.deadline ≤ date) (history s date agent) r (due agent) c in
      le-leb r.deadline until (omega (arith, early, late)))

  -- those of the later run, and all that started before the date
  due_on : (later until agent : ℕ) → date ≤ later → date ≤ until
      → due_by until (history s later agent) ≡ due_by until (history t later agent) ++ due_by date (history s date agent)
  due_on later until agent since late =
      ap (due_by until) (on later agent since)
      ∙ filter-append (λ (r : Action). nat_le r.deadline until) (history t later agent) (history s date agent)
      ∙ ap (λ old. due_by until (history t later agent) ++ old) (all_due until agent late ∙ sym (all_due date agent (omega arith)))

  pub counts_on : (later until agent : ℕ) → date ≤ later → date ≤ until
      → due_count s agent (due_by until (history s later agent)) ≡ due_count t agent (due_by until (history t later agent))
  counts_on later until agent since late =
      let new : List Action = due_by until (history t later agent) in
      let old : List Action = due_by date (history s date agent) in
      let before : ℕ = s.opening.count agent in
      let long : length (due_by until (history s later agent)) ≡ length new + length old = ap length (due_on later until agent since late) ∙ length-append new old in
      let whole = added_is before (length (due_by until (history s later agent))) in
      let part = added_is (added_to before (length old)) (length new) in
      omega (arith, long, whole, part, added_is before (length old))

  module _ (cycles : ℕ) (far : first ≤ cycles) where
    abbrev these : ℕ → List (Option Turn)
    these = turns_by s order cycles

    abbrev those : ℕ → List (Option Turn)
    those = turns_by t order cycles

    -- ---- slack

    abbrev slack_in : List (Option Turn) → Action → ℕ
    slack_in turns = slack_of s.unit.quantum turns

    old_slack : (agent : ℕ) (r : Action) → Contains (history s date agent) r → slack_in (these agent) r ≡ slack_in (turns_by s order first agent) r
    old_slack agent r c =
        let told = (old_told s lawful sizes order date some finished on none agent cycles r far c).1 in
        subst (λ a. slack_in (these a) r ≡ slack_in (turns_by s order first a) r) (agent_of s date agent r c)
        (ap (λ n. r.deadline * s.unit.quantum - n) told)

    new_slack : (later agent : ℕ) (r : Action) → Contains (history t later agent) r → slack_in (these agent) r ≡ slack_in (those agent) r
    new_slack later agent r c =
        let told = (new_told s lawful sizes order date some finished on none later cycles agent r far c).ended in
        subst (λ a. slack_in (these a) r ≡ slack_in (those a) r) (agent_of t later agent r c) (ap (λ n. r.deadline * s.unit.quantum - n) told)

    pub slacks_on : (later until agent : ℕ) → date ≤ later → date ≤ until
        → least_slack s (these agent) agent (due_by until (history s later agent)) ≡ least_slack t (those agent) agent (due_by until (history t later agent))
    slacks_on later until agent since late =
        let new : List Action = due_by until (history t later agent) in
        let old : List Action = due_by date (history s date agent) in
        let before : List ℕ = numbers_in (s.opening.slack agent) in
        let is_due : ℕ → Action → Bool = λ by r. nat_le r.deadline by in
        let new_same : map (slack_in (these agent)) new ≡ map (slack_in (those agent)) new =
        map_each (slack_in (these agent)) (slack_in (those agent)) new (λ r c. new_slack later agent r (filter_from (is_due until) (history t later agent) r c).0) in
        let old_same : map (slack_in (these agent)) old ≡ map (slack_in (turns_by s order first agent)) old =
        map_each (slack_in (these agent)) (slack_in (turns_by s order first agent)) old (λ r c. old_slack agent r (filter_from (is_due date) (history s date agent) r c).0) in
        let slacks : List ℕ = map (slack_in (those agent)) new in
        let slacks_before : List ℕ = map (slack_in (turns_by s order first agent)) old in
        ap (λ actions. least_of (before ++ map (slack_in (these agent)) actions)) (due_on later until agent since late)
        ∙ ap (λ slacks. least_of (before ++ slacks)) (map-append (slack_in (these agent)) new old ∙ ap₂ (λ ns ms. ns ++ ms) new_same old_same)
        ∙ least_turned before slacks slacks_before
        ∙ sym (least_front (before ++ slacks_before) slacks)

    -- ---- rings

    module _ (later variable : ℕ) (since : date ≤ later) where
      abbrev then_reached : ℕ → Type 0
      then_reached n = IsReached s (turns_by s order first) (history s date) variable n

      -- A look of the whole run is of an action that started before the date, or of one of the later run.
      parted : (n : ℕ) → IsReached s these (history s later) variable n → then_reached n ⊎ IsReached t those (history t later) variable n
      parted n it =
          let unit = cycle_of (s.stalls it.r.agent) it.r.number it.look.number in
          elim (Contains-append_cases (history t later it.agent) (history s date it.agent) it.r (subst (λ xs. Contains xs it.r) (on later it.agent since) it.there)) [
            | inl new ↦ inr (record {
              agent = it.agent;
              known = it.known;
              r = it.r;
              there = new;
              look = it.look;
              looked = it.looked;
              at = it.at;
              cycle = it.cycle;
              is = it.is;
              executed = sym ((new_told s lawful sizes order date some finished on none later cycles it.agent it.r far new).paid unit) ∙ it.executed;
            })
            | inr old ↦ inl (record {
              agent = it.agent;
              known = it.known;
              r = it.r;
              there = old;
              look = it.look;
              looked = it.looked;
              at = it.at;
              cycle = it.cycle;
              is = it.is;
              executed = sym ((old_told s lawful sizes order date some finished on none it.agent cycles it.r far old).2 unit) ∙ it.executed;
            })
          ]

      old_there : (n : ℕ) → then_reached n → IsReached s these (history s later) variable n
      old_there n it =
          let unit = cycle_of (s.stalls it.r.agent) it.r.number it.look.number in
          record {
            agent = it.agent;
            known = it.known;
            r = it.r;
            look = it.look;
            looked = it.looked;
            at = it.at;
            cycle = it.cycle;
            is = it.is;
            there = stays_started s date later it.agent it.r since it.there;
            executed = (old_told s lawful sizes order date some finished on none it.agent cycles it.r far it.there).2 unit ∙ it.executed;
          }

      new_there : (n : ℕ) → IsReached t those (history t later) variable n → IsReached s these (history s later) variable n
      new_there n it =
          let unit = cycle_of (s.stalls it.r.agent) it.r.number it.look.number in
          let within = Contains-append_left (history t later it.agent) (history s date it.agent) it.r it.there in
          record {
            agent = it.agent;
            known = it.known;
            r = it.r;
            look = it.look;
            looked = it.looked;
            at = it.at;
            cycle = it.cycle;
            is = it.is;
            there = subst (λ xs. Contains xs it.r) (sym (on later it.agent since)) within;
            executed = (new_told s lawful sizes order date some finished on none later cycles it.agent it.r far it.there).paid unit ∙ it.executed;
          }

      pub reaches_on : reach s these (history s later) variable ≡ reach t those (history t later) variable
      reaches_on =
          let before : List ℕ = numbers_in (s.opening.reach variable) in
          let old : List ℕ = all_ages s (turns_by s order first) (history s date) variable in
          let new : List ℕ = all_ages t those (history t later) variable in
          let whole : List ℕ = all_ages s these (history s later) variable in
          greatest_same (before ++ whole) ((before ++ old) ++ new) (
            λ n c. elim (Contains-append_cases before whole n c) [
              | inl was ↦ Contains-append_left (before ++ old) new n (Contains-append_left before old n was)
              | inr there ↦ elim (parted n (reached_in s these (history s later) variable n there)) [
                | inl it ↦ Contains-append_left (before ++ old) new n (Contains-append_right before old n (in_reached s (turns_by s order first) (history s date) variable n it))
                | inr it ↦ Contains-append_right (before ++ old) new n (in_reached t those (history t later) variable n it)
              ]
            ],
            λ n c. elim (Contains-append_cases (before ++ old) new n c) [
              | inl earlier ↦ elim (Contains-append_cases before old n earlier) [
                | inl was ↦ Contains-append_left before whole n was
                | inr it ↦ Contains-append_right before whole n (in_reached s these (history s later) variable n
                    (old_there n (reached_in s (turns_by s order first) (history s date) variable n it)))
              ]
              | inr it ↦ Contains-append_right before whole n (in_reached s these (history s later) variable n (new_there n (reached_in t those (history t later) variable n it)))
            ],
          )
          ∙ sym (greatest_front (before ++ old) new)
