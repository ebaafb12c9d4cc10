-- Histories that are alike have the same schedule: of each action it depends on the agent, the number, the deadline and the work.
use Rattle.std.proofs.Common.{◌≡◌, ℕ, zero, suc, ◌+◌, ◌-◌, ◌*◌, ◌/◌, Bool, true, false, List, [], ◌∷◌, map, Option, Some, None, refl, ap, ap₂, ◌∙◌}
use Rattle.std.specs.List.{filter}
use Rattle.std.specs.Prelude.{if◌then◌else◌, nat_le, nat_lt, ⊤}
use Rattle.psy_history.specs.Actions.{Action, History}
use Rattle.psy_history.specs.Schedule.{Turn, finish, is_pending, pending, sooner, soonest, turn_of, turns, units, work}
use Rattle.psy_history.specs.Summary.{due_by, slack, slack_of}
use Rattle.psy_base.specs.Extremes.{least_of}
use Rattle.psy_history.specs.Likeness.{AreLike, IsLike}
use Rattle.psy_history.proofs.LikeActions.{append_like, by_pairs, filter_like, map_like}

pending_same : (done : List (Option Turn)) (r q : Action) → IsLike r q → is_pending done r ≡ is_pending done q
pending_same done r q h = ap₂ (λ agent number. nat_lt (units agent number done) (work r)) h.agent h.number ∙ ap (nat_lt (units q.agent q.number done)) h.work

pending_like : (order : List ℕ) (done : List (Option Turn)) (h k : History) → ((agent : ℕ) → AreLike (h agent) (k agent)) → AreLike (pending order done h) (pending order done k)
pending_like [] done h k like = tt
pending_like (agent ∷ order) done h k like =
    append_like (filter (is_pending done) (h agent)) (filter (is_pending done) (k agent)) (pending order done h) (pending order done k)
    (filter_like (is_pending done) (is_pending done) (pending_same done) (h agent) (k agent) (like agent)) (pending_like order done h k like)

-- Two actions that are alike, or none
abbrev BothLike : Option Action → Option Action → Type 0
BothLike None None = ⊤
BothLike (Some r) (Some q) = IsLike r q
BothLike _ _ = ⊥

one_like : (b : Bool) (r q r' q' : Action) → IsLike r q → IsLike r' q' → BothLike (if b then Some r else Some r') (if b then Some q else Some q')
one_like true r q r' q' h k = h
one_like false r q r' q' h k = k

sooner_like : (r q : Action) (o p : Option Action) → IsLike r q → BothLike o p → BothLike (sooner r o) (sooner q p)
sooner_like r q None None h k = h
sooner_like r q None (Some q') h k = absurd k
sooner_like r q (Some r') None h k = absurd k
sooner_like r q (Some r') (Some q') h k = rw (ap₂ nat_le h.deadline k.deadline) (one_like (nat_le q.deadline q'.deadline) r q r' q' h k)

soonest_like : (rs qs : List Action) → AreLike rs qs → BothLike (soonest rs) (soonest qs)
soonest_like = by_pairs (λ rs qs. BothLike (soonest rs) (soonest qs)) tt (λ r q rs qs one others rest. sooner_like r q (soonest rs) (soonest qs) one rest)

turn_same : (o p : Option Action) → BothLike o p → turn_of o ≡ turn_of p
turn_same None None h = refl
turn_same None (Some q) h = absurd h
turn_same (Some r) None h = absurd h
turn_same (Some r) (Some q) h = ap₂ (λ agent number. Some (record { agent = agent; number = number })) h.agent h.number

pub turns_same : (order : ℕ → List ℕ) (quantum : ℕ) (h k : ℕ → History) → ((dates agent : ℕ) → AreLike (h dates agent) (k dates agent)) → (cycles : ℕ) → turns order quantum h cycles ≡ turns order quantum k cycles
turns_same order quantum h k like zero = refl
turns_same order quantum h k like (suc cycle) =
    let dates = cycle / quantum + 1 in
    let done = turns order quantum k cycle in
    let same = turns_same order quantum h k like cycle in
    ap₂ (λ turn rest. turn ∷ rest)
    (ap (λ rest. turn_of (soonest (pending (order cycle) rest (h dates)))) same
    ∙ turn_same (soonest (pending (order cycle) done (h dates))) (soonest (pending (order cycle) done (k dates))) (soonest_like (pending (order cycle) done (h dates)) (pending (order cycle) done (k dates)) (pending_like (order cycle) done (h dates) (k dates) (like dates))))
    same

-- ---- actions that are due

pub due_like : (until : ℕ) (rs qs : List Action) → AreLike rs qs → AreLike (due_by until rs) (due_by until qs)
due_like until rs qs like = filter_like (λ (r : Action). nat_le r.deadline until) (λ (r : Action). nat_le r.deadline until) (λ r q h. ap (λ deadline. nat_le deadline until) h.deadline) rs qs like

slack_of_same : (quantum : ℕ) (done : List (Option Turn)) (r q : Action) → IsLike r q → slack_of quantum done r ≡ slack_of quantum done q
slack_of_same quantum done r q h = ap (λ deadline. deadline * quantum - finish r.agent r.number done) h.deadline ∙ ap₂ (λ agent number. q.deadline * quantum - finish agent number done) h.agent h.number

pub slacks_same : (quantum : ℕ) (done : List (Option Turn)) (rs qs : List Action) → AreLike rs qs → map (slack_of quantum done) rs ≡ map (slack_of quantum done) qs
slacks_same quantum done rs qs like = map_like (slack_of quantum done) (slack_of quantum done) (slack_of_same quantum done) rs qs like

pub slack_same : (quantum : ℕ) (done : List (Option Turn)) (rs qs : List Action) → AreLike rs qs → slack quantum done rs ≡ slack quantum done qs
slack_same quantum done rs qs like = ap least_of (slacks_same quantum done rs qs like)
