-- Actions that are alike: what doesn't tell one from the other, of one action and of a list of them.
use Rattle.std.proofs.Common.{◌≡◌, suc, Bool, true, false, cond, ◌&&◌, List, [], ◌∷◌, ◌++◌, map, length, refl, sym, ap, ap₂, ◌∙◌, subst}
use Rattle.std.proofs.Math.Path.{fun_ext}
use Rattle.std.specs.List.{Contains, filter, flat_map, list_all}
use Rattle.psy_lists.proofs.lemmas.Members.{contains_front, contains_behind}
use Rattle.psy_history.specs.Actions.{Action, Verdict, Done, Trapped, Overran}
use Rattle.psy_history.specs.Likeness.{AreLike, IsLike}

-- ---- one action

like_itself : (r : Action) → IsLike r r
like_itself r = record {
  agent = refl;
  number = refl;
  point = refl;
  start = refl;
  budget = refl;
  deadline = refl;
  verdict = refl;
  finished = λ h. refl;
  work = refl;
  looks = refl;
}

pub like_same : (r q : Action) → r ≡ q → IsLike r q
like_same r q e = subst (IsLike r) e (like_itself r)

-- What is the same of two overruns is the same of two actions that are alike.
pub same_by : {X : Type 0} (f : Action → X) → (r q : Action) → IsLike r q → (r.verdict ≡ Overran → q.verdict ≡ Overran → f r ≡ f q) → f r ≡ f q
same_by {X} f r q like over = from r.verdict refl
  where
    from : (v : Verdict) → r.verdict ≡ v → f r ≡ f q
    from (Done point end) e = ap f (like.finished (λ o. cc))
    from (Trapped kind) e = ap f (like.finished (λ o. cc))
    from Overran e = over e (sym like.verdict ∙ e)

-- ---- lists of them

-- What holds of no actions, and is kept by two that are alike, holds of actions that are alike.
pub by_pairs : (P : List Action → List Action → Type 0) → P [] [] → ((r q : Action) (rs qs : List Action) → IsLike r q → AreLike rs qs → P rs qs → P (r ∷ rs) (q ∷ qs)) → (rs qs : List Action) → AreLike rs qs → P rs qs
by_pairs P none more [] [] h = none
by_pairs P none more [] (q ∷ qs) h = absurd h
by_pairs P none more (r ∷ rs) [] h = absurd h
by_pairs P none more (r ∷ rs) (q ∷ qs) h = more r q rs qs h.0 h.1 (by_pairs P none more rs qs h.1)

pub length_like : (rs qs : List Action) → AreLike rs qs → length rs ≡ length qs
length_like = by_pairs (λ rs qs. length rs ≡ length qs) refl (λ r q rs qs one others same. ap suc same)

pub append_like : (rs qs rs' qs' : List Action) → AreLike rs qs → AreLike rs' qs' → AreLike (rs ++ rs') (qs ++ qs')
append_like rs qs rs' qs' h k = by_pairs (λ rs qs. AreLike (rs ++ rs') (qs ++ qs')) k (λ r q rs qs one others rest. (one, rest)) rs qs h

module _ {X : Type 0} (f g : Action → X) (same : (r q : Action) → IsLike r q → f r ≡ g q) where
  pub map_like : (rs qs : List Action) → AreLike rs qs → map f rs ≡ map g qs
  map_like = by_pairs (λ rs qs. map f rs ≡ map g qs) refl (λ r q rs qs one others rest. ap₂ (λ x xs. x ∷ xs) (same r q one) rest)

kept_like : (b : Bool) (r q : Action) (rs qs : List Action) → IsLike r q → AreLike rs qs → AreLike (cond b (r ∷ rs) rs) (cond b (q ∷ qs) qs)
kept_like true r q rs qs one rest = (one, rest)
kept_like false r q rs qs one rest = rest

module _ (f g : Action → Bool) (same : (r q : Action) → IsLike r q → f r ≡ g q) where
  pub list_all_like : (rs qs : List Action) → AreLike rs qs → list_all f rs ≡ list_all g qs
  list_all_like = by_pairs (λ rs qs. list_all f rs ≡ list_all g qs) refl (λ r q rs qs one others rest. ap₂ (λ x y. x && y) (same r q one) rest)

  pub filter_like : (rs qs : List Action) → AreLike rs qs → AreLike (filter f rs) (filter g qs)
  filter_like = by_pairs (λ rs qs. AreLike (filter f rs) (filter g qs)) tt (λ r q rs qs one others rest. rw (same r q one) (kept_like (g q) r q (filter f rs) (filter g qs) one rest))

-- Only actions of the list need give the same
pub flat_map_like : {X : Type 0} (f g : Action → List X) (rs qs : List Action) → ((r q : Action) → Contains qs q → IsLike r q → f r ≡ g q) → AreLike rs qs → flat_map f rs ≡ flat_map g qs
flat_map_like f g [] [] same h = refl
flat_map_like f g [] (q ∷ qs) same h = absurd h
flat_map_like f g (r ∷ rs) [] same h = absurd h
flat_map_like f g (r ∷ rs) (q ∷ qs) same h =
    ap₂ (λ xs ys. xs ++ ys) (same r q (contains_front q qs) h.0) (flat_map_like f g rs qs (λ x y there. same x y (contains_behind q qs y there)) h.1)

-- ---- functions that agree

pub flat_map_same : {X Y : Type 0} (f g : X → List Y) → ((x : X) → f x ≡ g x) → (xs : List X) → flat_map f xs ≡ flat_map g xs
flat_map_same {X} {Y} f g same xs = ap (λ (h : X → List Y). flat_map h xs) (fun_ext same)

pub map_same : {X Y : Type 0} (f g : X → Y) → ((x : X) → f x ≡ g x) → (xs : List X) → map f xs ≡ map g xs
map_same {X} {Y} f g same xs = ap (λ (h : X → Y). map h xs) (fun_ext same)
