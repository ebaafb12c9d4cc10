-- When the last date is done, all actions that are due are finished or stopped.
use Rattle.std.proofs.Common.{◌≡◌, ℕ, suc, ◌+◌, ◌*◌, ◌<◌, ◌≤◌, Bool, true, false, if◌then◌else◌, nat_le, ◌==◌, List, [], ◌∷◌, All, Option, Some, None, refl, ap, subst, arith}
use Rattle.std.specs.List.{Contains}
use Rattle.std.proofs.lemmas.Bool.{eqb-true, leb-true}
use Rattle.std.proofs.lemmas.List.Elements.{All-cons, All-contains, All-contains_itself, All-head, All-tail, All-weaker}
use Rattle.psy_history.specs.Actions.{Action, History, Next, System, next_of}
use Rattle.psy_history.specs.History.{action_of, history, with_start}
use Rattle.psy_history.specs.Schedule.{Turn, is_pending}
use Rattle.psy_history.specs.Summary.{due_by}
use Rattle.psy_history.specs.Regular.{IsLawful, IsRegular}
use Rattle.psy_history.specs.Scheduled.{IsFinished, turns_by}
use Rattle.psy_kernel.specs.Standing.{settled}

-- An action that is due by a date is finished.
abbrev pub IsSettled : List (Option Turn) → ℕ → Action → Type 0
IsSettled turns until r = r.deadline ≤ until → is_pending turns r ≡ false

pub settled_all : (turns : List (Option Turn)) (until : ℕ) (actions : List Action) → All (IsSettled turns until) actions → settled turns until actions ≡ due_by until actions
settled_all turns until [] all = refl
settled_all turns until (r ∷ before) all =
    let rest : settled turns until before ≡ due_by until before = settled_all turns until before (All-tail (IsSettled turns until) r before all) in
    by (nat_le r.deadline until) refl (is_pending turns r) refl (All-head (IsSettled turns until) r before all) rest
  where
    by : (due : Bool) → nat_le r.deadline until ≡ due → (pending : Bool) → is_pending turns r ≡ pending → IsSettled turns until r → settled turns until before ≡ due_by until before
        → settled turns until (r ∷ before) ≡ due_by until (r ∷ before)
    by false e pending p all rest = simp e rest
    by true e false p all rest = simp (e, p) (ap (λ rs. r ∷ rs) rest)
    by true e true p all rest = absurd (cc (all (leb-true r.deadline until e), p))

-- What starts at a date isn't due then.
started_settled : (s : System) (h : History) (turns : List (Option Turn)) (date agent : ℕ) (actions : List Action) (next : Option Next)
    → All (IsRegular s agent) (with_start s h date agent actions next) → All (IsSettled turns date) actions → All (IsSettled turns date) (with_start s h date agent actions next)
started_settled s h turns date agent actions None each all = all
started_settled s h turns date agent actions (Some n) each all = by (n.start == date) refl each
  where
    by : (b : Bool) → (n.start == date) ≡ b → All (IsRegular s agent) (if b then action_of s h agent n ∷ actions else actions) → All (IsSettled turns date) (if b then action_of s h agent n ∷ actions else actions)
    by false e each = all
    by true e each =
        let due : n.start < (action_of s h agent n).deadline = (All-head (IsRegular s agent) (action_of s h agent n) actions each).due in
        let is : n.start ≡ date = eqb-true n.start date e in
        All-cons (IsSettled turns date) (action_of s h agent n) actions (λ le. absurd (omega (arith, due, is, le))) all

-- All that is due by a date is finished when the cycles before it are done.
pub date_settled : (s : System) (order : ℕ → List ℕ) (until agent : ℕ) → IsLawful s
    → ((r : Action) → Contains (history s until agent) r → r.deadline ≤ until → IsFinished s order (until * s.unit.quantum) r)
    → All (IsSettled (turns_by s order (until * s.unit.quantum) agent) until) (history s (until + 1) agent)
date_settled s order until agent lawful finished =
    let turns = turns_by s order (until * s.unit.quantum) agent in
    let is : suc until ≡ until + 1 = omega arith in
    let before : All (IsSettled turns until) (history s until agent) =
    All-weaker (Contains (history s until agent)) (IsSettled turns until)
    (λ r c due. subst (λ a. is_pending (turns_by s order (until * s.unit.quantum) a) r ≡ false) (IsRegular.agent_is (All-contains (IsRegular s agent) (history s until agent) r (lawful.actions until agent).each c)) (finished r c due))
    (history s until agent) (All-contains_itself (history s until agent)) in
    let each : All (IsRegular s agent) (history s (suc until) agent) = (lawful.actions (suc until) agent).each in
    subst (λ n. All (IsSettled turns until) (history s n agent)) is
    (started_settled s (history s until) turns until agent (history s until agent) (next_of s agent (history s until agent)) each before)
