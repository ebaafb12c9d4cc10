-- Actions that are alike: what doesn't tell one from the other, of one action and of a list of them.
use Rattle.std.proofs.Common.{◌≡◌, ℕ, List, [], ◌∷◌, ◌++◌, map, reverse, refl, sym, ap, ap₂, ◌∙◌}
use Rattle.std.specs.Prelude.{nat_lt, if◌then◌else◌, Option}
use Rattle.std.specs.List.{Contains, flat_map}
use Rattle.psy_lists.proofs.lemmas.Members.{contains_front, contains_behind}
use Rattle.psy_history.specs.Actions.{Action, Verdict, Done, Trapped, Overran}
use Rattle.psy_history.specs.Likeness.{AreLike, IsLike}
use Rattle.psy_history.specs.Schedule.{Turn, is_pending, units, work}
use Rattle.psy_audit.specs.declared.said.Act.{Act}
use Rattle.psy_audit.specs.declared.said.Ending.{Ending}
use Rattle.psy_audit.specs.declared.said.Ending.TheVariants.{Unfinished}
use Rattle.psy_audit.specs.Traced.{act_of, ending_by}
use Rattle.psy_legal.proofs.Lists.{reverse_of_map}

-- ---- one action

-- What is the same of two overruns is the same of two actions that are alike.
pub same_by : {X : Type 0} (f : Action → X) → (r q : Action) → IsLike r q → (r.verdict ≡ Overran → q.verdict ≡ Overran → f r ≡ f q) → f r ≡ f q
same_by {X} f r q like over = from r.verdict refl
  where
    from : (v : Verdict) → r.verdict ≡ v → f r ≡ f q
    from (Done point end) e = ap f (like.finished (λ o. cc))
    from (Trapped kind) e = ap f (like.finished (λ o. cc))
    from Overran e = over e (sym like.verdict ∙ e)

pending_same : (turns : List (Option Turn)) (r q : Action) → IsLike r q → is_pending turns r ≡ is_pending turns q
pending_same turns r q h = ap₂ (λ agent number. nat_lt (units agent number turns) (work r)) h.agent h.number ∙ ap (nat_lt (units q.agent q.number turns)) h.work

-- What a trace tells of an action, from what it depends on
abbrev told : List (Option Turn) → ℕ → ℕ → ℕ → ℕ → ℕ → Ending → Act
told turns agent number point start due ending = record {
  agent = agent;
  number = number;
  point = point;
  start = start;
  due = due;
  work = units agent number turns;
  ending = ending;
}

-- So a trace tells the same of them.
pub act_same : (turns : List (Option Turn)) (r q : Action) → IsLike r q → act_of turns r ≡ act_of turns q
act_same turns r q h =
    let ended : Ending = if is_pending turns r then Unfinished else ending_by r.verdict in
    ap₂ (λ agent number. told turns agent number r.point r.start r.deadline ended) h.agent h.number
    ∙ ap₂ (λ point start. told turns q.agent q.number point start r.deadline ended) h.point h.start
    ∙ ap₂ (λ due ending. told turns q.agent q.number q.point q.start due ending) h.deadline
    (ap₂ (λ pending verdict. if pending then Unfinished else ending_by verdict) (pending_same turns r q h) h.verdict)

-- ---- lists of them

-- What holds of no actions, and is kept by two that are alike, holds of actions that are alike.
pub by_pairs : (P : List Action → List Action → Type 0) → P [] [] → ((r q : Action) (rs qs : List Action) → IsLike r q → AreLike rs qs → P rs qs → P (r ∷ rs) (q ∷ qs)) → (rs qs : List Action) → AreLike rs qs → P rs qs
by_pairs P none more [] [] h = none
by_pairs P none more [] (q ∷ qs) h = absurd h
by_pairs P none more (r ∷ rs) [] h = absurd h
by_pairs P none more (r ∷ rs) (q ∷ qs) h = more r q rs qs h.0 h.1 (by_pairs P none more rs qs h.1)

-- Only actions of the lists need give the same.
pub map_like : {X : Type 0} (f g : Action → X) (rs qs : List Action) → ((r q : Action) → Contains rs r → Contains qs q → IsLike r q → f r ≡ g q) → AreLike rs qs → map f rs ≡ map g qs
map_like f g [] [] same h = refl
map_like f g [] (q ∷ qs) same h = absurd h
map_like f g (r ∷ rs) [] same h = absurd h
map_like f g (r ∷ rs) (q ∷ qs) same h =
    ap₂ (λ x xs. x ∷ xs) (same r q (contains_front r rs) (contains_front q qs) h.0)
    (map_like f g rs qs (λ x y there here. same x y (contains_behind r rs x there) (contains_behind q qs y here)) h.1)

-- ---- from the last one back

flat_of_map : {X Y : Type 0} (f : X → List Y) (xs : List X) → flat_map f xs ≡ flat_map (λ (ys : List Y). ys) (map f xs)
flat_of_map f [] = refl
flat_of_map f (x ∷ xs) = ap (λ ys. f x ++ ys) (flat_of_map f xs)

module _ {X Y : Type 0} (f g : X → Y) (xs ys : List X) (same : map f xs ≡ map g ys) where
  pub map_back : map f (reverse xs) ≡ map g (reverse ys)
  map_back = sym (reverse_of_map f xs) ∙ ap reverse same ∙ reverse_of_map g ys

pub flat_map_back : {X Y : Type 0} (f g : X → List Y) (xs ys : List X) → map f xs ≡ map g ys → flat_map f (reverse xs) ≡ flat_map g (reverse ys)
flat_map_back {X} {Y} f g xs ys same =
    flat_of_map f (reverse xs) ∙ ap (flat_map (λ (zs : List Y). zs)) (map_back f g xs ys same) ∙ sym (flat_of_map g (reverse ys))
