-- The action that comes first of some, piece by piece; and what is pending where actions wait.
use Rattle.std.proofs.Common.{◌≡◌, ◌∙◌, refl, sym, ap, ℕ, ◌+◌, ◌<◌, ◌≤◌, ◌==◌, Bool, true, false, cond, ◌&&◌, ◌||◌, List, [], ◌∷◌, ◌++◌, map, length, get_or, take, filter, max, Option, Some, None, inl, inr, nat_le, nat_lt, append-nil, arith}
use Rattle.std.specs.List.{Contains, flat_map, list_any}
use Rattle.std.proofs.lemmas.Bool.{cases_Bool, cases_lt, eqb-true, le-leb, le-ltb, lt-leb, lt-ltb}
use Rattle.std.proofs.lemmas.List.{map-append, take_more}
use Rattle.std.proofs.lemmas.List.Concat.{flat_map-append}
use Rattle.std.proofs.lemmas.List.Elements.{filter-append}
use Rattle.psy_history.specs.Processors.{processor_at, served}
use Rattle.psy_lists.proofs.lemmas.Members.{contains_behind, contains_front}
use Rattle.psy_tree.specs.declared.unit.Unit.{Unit as Whole}
use Rattle.psy_audit.specs.declared.said.Act.{Act}
use Rattle.psy_audit.specs.declared.said.Segment.{Segment}
use Rattle.psy_audit.specs.declared.waits.Wait.{Wait}
use Rattle.psy_audit.specs.Courses.{is_filled}
use Rattle.psy_audit.specs.Rows.{sooner_or}
use Rattle.psy_audit.specs.Turns.{soonest_of, sooner_of}
use Rattle.psy_audit.specs.Waits.{end_in, is_waiting, past_in, pending_in}

-- ---- piece by piece

both_later : (x a b : Act) → sooner_of x (cond (nat_le a.due b.due) (Some a) (Some b)) ≡ sooner_or (cond (nat_le x.due a.due) (Some x) (Some a)) (Some b)
both_later x a b = elim (cases_lt a.due x.due) [
  | inl less ↦ elim (cases_lt b.due a.due) [
    | inl least ↦ (let far : b.due < x.due = omega (arith, less, least) in
        ap (λ t. sooner_of x (cond t (Some a) (Some b))) (lt-leb a.due b.due least) ∙ ap (λ t. cond t (Some x) (Some b)) (lt-leb x.due b.due far)
        ∙ sym (ap (λ t. sooner_or (cond t (Some x) (Some a)) (Some b)) (lt-leb x.due a.due less) ∙ ap (λ t. cond t (Some a) (Some b)) (lt-leb a.due b.due least)))
    | inr most ↦
        ap (λ t. sooner_of x (cond t (Some a) (Some b))) (le-leb a.due b.due most) ∙ ap (λ t. cond t (Some x) (Some a)) (lt-leb x.due a.due less)
        ∙ sym (ap (λ t. sooner_or (cond t (Some x) (Some a)) (Some b)) (lt-leb x.due a.due less) ∙ ap (λ t. cond t (Some a) (Some b)) (le-leb a.due b.due most))
  ]
  | inr first ↦ elim (cases_lt b.due a.due) [
    | inl least ↦
        ap (λ t. sooner_of x (cond t (Some a) (Some b))) (lt-leb a.due b.due least)
        ∙ sym (ap (λ t. sooner_or (cond t (Some x) (Some a)) (Some b)) (le-leb x.due a.due first))
    | inr most ↦ (let far : x.due ≤ b.due = omega (arith, first, most) in
        ap (λ t. sooner_of x (cond t (Some a) (Some b))) (le-leb a.due b.due most) ∙ ap (λ t. cond t (Some x) (Some a)) (le-leb x.due a.due first)
        ∙ sym (ap (λ t. sooner_or (cond t (Some x) (Some a)) (Some b)) (le-leb x.due a.due first) ∙ ap (λ t. cond t (Some x) (Some b)) (le-leb x.due b.due far)))
  ]
]

one_later : (b : Bool) (x a : Act) → cond b (Some x) (Some a) ≡ sooner_or (cond b (Some x) (Some a)) None
one_later true x a = refl
one_later false x a = refl

sooner_later : (x : Act) (o p : Option Act) → sooner_of x (sooner_or o p) ≡ sooner_or (sooner_of x o) p
sooner_later x None p = refl
sooner_later x (Some a) None = one_later (nat_le x.due a.due) x a
sooner_later x (Some a) (Some b) = both_later x a b

pub soonest_append : (xs ys : List Act) → soonest_of (xs ++ ys) ≡ sooner_or (soonest_of xs) (soonest_of ys)
soonest_append [] ys = refl
soonest_append (x ∷ xs) ys = ap (sooner_of x) (soonest_append xs ys) ∙ sooner_later x (soonest_of xs) (soonest_of ys)

-- ---- one more action that waits

one_pending : (b : Bool) (w : Wait) → soonest_of (map (λ (v : Wait). v.act) (cond b (w ∷ []) [])) ≡ cond b (Some w.act) None
one_pending true w = refl
one_pending false w = refl

pub pending_more : (cycle : ℕ) (ws : List Wait) (i : ℕ) (d : Wait) → i < length ws
    → soonest_of (pending_in cycle (take (i + 1) ws)) ≡ sooner_or (soonest_of (pending_in cycle (take i ws))) (cond (is_waiting cycle (get_or ws i d)) (Some (get_or ws i d).act) None)
pending_more cycle ws i d l =
    let w = get_or ws i d in
    let act = λ (v : Wait). v.act in
    let last = cond (is_waiting cycle w) (w ∷ []) [] in
    let more : take (i + 1) ws ≡ take i ws ++ w ∷ [] = take_more ws i d l in
    let split : pending_in cycle (take (i + 1) ws) ≡ pending_in cycle (take i ws) ++ map act last =
    ap (pending_in cycle) more ∙ ap (map act) (filter-append (is_waiting cycle) (take i ws) (w ∷ [])) ∙ map-append act (filter (is_waiting cycle) (take i ws)) last in
    ap soonest_of split ∙ soonest_append (pending_in cycle (take i ws)) (map act last)
    ∙ ap (sooner_or (soonest_of (pending_in cycle (take i ws)))) (one_pending (is_waiting cycle w) w)

-- ---- one more agent

module _ (unit : Whole) (processor : ℕ) where
  module _ (f : ℕ → List Act) where
    one_agent : (b : Bool) (agent : ℕ) → soonest_of (flat_map f (cond b (agent ∷ []) [])) ≡ cond b (soonest_of (f agent)) None
    one_agent true agent = ap soonest_of (append-nil (f agent))
    one_agent false agent = refl

    pub agents_more : (order : List ℕ) (i d : ℕ) → i < length order
        → soonest_of (flat_map f (served unit processor (take (i + 1) order)))
        ≡ sooner_or (soonest_of (flat_map f (served unit processor (take i order)))) (cond (processor_at unit (get_or order i d) == processor) (soonest_of (f (get_or order i d))) None)
    agents_more order i d l =
        let agent = get_or order i d in
        let test = λ (a : ℕ). processor_at unit a == processor in
        let front = filter test (take i order) in
        let last = cond (test agent) (agent ∷ []) [] in
        let more : take (i + 1) order ≡ take i order ++ agent ∷ [] = take_more order i d l in
        ap (λ xs. soonest_of (flat_map f (filter test xs))) more
        ∙ ap (λ xs. soonest_of (flat_map f xs)) (filter-append test (take i order) (agent ∷ []))
        ∙ ap soonest_of (flat_map-append f front last)
        ∙ soonest_append (flat_map f front) (flat_map f last)
        ∙ ap (sooner_or (soonest_of (flat_map f front))) (one_agent (test agent) agent)

  -- What the agents of the processor have in common with others is the same for all of them.
  pub agents_same : (f g : ℕ → List Act) (order : List ℕ) → ((agent : ℕ) → Contains order agent → processor_at unit agent ≡ processor → f agent ≡ g agent)
      → flat_map f (served unit processor order) ≡ flat_map g (served unit processor order)
  agents_same f g [] same = refl
  agents_same f g (agent ∷ order) same =
      let test = λ (a : ℕ). processor_at unit a == processor in
      let rest = agents_same f g order (λ a c is. same a (contains_behind agent order a c) is) in
      elim (cases_Bool (test agent)) [
        | inl passed ↦ (let this = same agent (contains_front agent order) (eqb-true (processor_at unit agent) processor passed) in
            ap (λ b. flat_map f (cond b (agent ∷ filter test order) (filter test order))) passed
            ∙ ap (λ xs. xs ++ flat_map f (filter test order)) this ∙ ap (λ xs. g agent ++ xs) rest
            ∙ sym (ap (λ b. flat_map g (cond b (agent ∷ filter test order) (filter test order))) passed))
        | inr failed ↦
            ap (λ b. flat_map f (cond b (agent ∷ filter test order) (filter test order))) failed ∙ rest
            ∙ sym (ap (λ b. flat_map g (cond b (agent ∷ filter test order) (filter test order))) failed)
      ]

-- ---- how long an action waits

lt_max : (c m n : ℕ) → nat_lt c (max m n) ≡ (nat_lt c m || nat_lt c n)
lt_max c m n = elim (cases_lt c m) [
  | inl less ↦ (let far : c < max m n = omega (arith, less) in lt-ltb c (max m n) far ∙ sym (ap (λ b. b || nat_lt c n) (lt-ltb c m less)))
  | inr most ↦ elim (cases_lt c n) [
    | inl less ↦ (let far : c < max m n = omega (arith, less) in lt-ltb c (max m n) far ∙ sym (ap (λ b. b || nat_lt c n) (le-ltb c m most) ∙ lt-ltb c n less))
    | inr more ↦ (let near : max m n ≤ c = omega (arith, most, more) in le-ltb c (max m n) near ∙ sym (ap (λ b. b || nat_lt c n) (le-ltb c m most) ∙ le-ltb c n more))
  ]
]

filled : (b : Bool) (c p : ℕ) → (b && nat_lt c p) ≡ nat_lt c (cond b p 0)
filled true c p = refl
filled false c p = let none : 0 ≤ c = omega arith in sym (le-ltb c 0 none)

-- Some stretch goes on behind a cycle just where the last of them does.
pub past_is : (c : ℕ) (its : List Segment) → list_any (λ (s : Segment). is_filled s && nat_lt c s.past) its ≡ nat_lt c (past_in its)
past_is c [] = let none : 0 ≤ c = omega arith in sym (le-ltb c 0 none)
past_is c (s ∷ its) =
    ap (λ b. b || list_any (λ (t : Segment). is_filled t && nat_lt c t.past) its) (filled (is_filled s) c s.past)
    ∙ ap (λ b. nat_lt c (end_in s) || b) (past_is c its) ∙ sym (lt_max c (end_in s) (past_in its))
