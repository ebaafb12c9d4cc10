-- The most sends of one action: one sum for each way, the greatest over the next points of a point, and over the points.
use Rattle.std.proofs.Common.{◌≡◌, ◌⊎◌, ℕ, zero, suc, ◌+◌, ◌<◌, ◌↔◌, List, [], ◌∷◌, ◌++◌, take, length, get_or, refl, sym, subst, ◌∙◌, inl, inr, add-one, arith}
use Rattle.std.specs.List.{Contains}
use Rattle.std.proofs.lemmas.Bool.{cases_lt}
use Rattle.std.proofs.lemmas.List.{take_more}
use Rattle.std.proofs.lemmas.List.Elements.{Contains-append_left, Contains-push, Contains-push_cases}
use Rattle.psy_meaning.specs.KnownWays.{HasMost, Ways}
use Rattle.psy_base.specs.Extremes.{IsGreatest, IsMost}
use Rattle.psy_meaning.specs.QueueSizes.{AreSendsBelow}
use Rattle.psy_sizes.specs.Sending.{HasSendsAmong, HasSendsBefore}
use Rattle.psy_sizes.proofs.Passed.{most_none}

-- The greatest of some numbers, of which there is one
pub most_is : (Has : ℕ → Type 0) (n m : ℕ) → Has m → IsMost Has n → IsGreatest Has n
most_is Has n m has is = record {
  one = elim is.one [
    | inl none ↦ (let same : m ≡ n = omega (arith, none, is.all m has) in subst Has same has)
    | inr one ↦ one
  ];
  most = is.all;
}

module _ (ways : Ways) (agent : ℕ) where
  -- Between two points each stream has at most one greatest number of sends.
  abbrev pub HaveOneMost : Type 0
  HaveOneMost = (from to stream n m : ℕ) → HasMost ways agent from to stream n → HasMost ways agent from to stream m → n ≡ m

  -- One stream more
  pub sends_more : (from to stream others one n : ℕ) → AreSendsBelow ways agent from to stream others → HasMost ways agent from to stream one → n ≡ others + one → AreSendsBelow ways agent from to (stream + 1) n
  sends_more from to stream others one n below is sum = subst (λ k. AreSendsBelow ways agent from to k n) (sym (add-one stream)) (others, one, below, is, sum)

  -- Between two points the sends to the first so many streams have one sum.
  pub same_sends : HaveOneMost → (from to streams n m : ℕ) → AreSendsBelow ways agent from to streams n → AreSendsBelow ways agent from to streams m → n ≡ m
  same_sends one_most from to zero n m a b = a ∙ sym b
  same_sends one_most from to (suc stream) n m (others, one, below, is, sum) (others_also, one_also, below_also, is_also, sum_also) =
      omega (arith, sum, sum_also, same_sends one_most from to stream others others_also below below_also, one_most from to stream one one_also is is_also)

  -- And some sum, where each stream has a greatest number.
  pub sends_some : (from to : ℕ) → ((stream : ℕ) → (n : ℕ) × HasMost ways agent from to stream n) → (streams : ℕ) → (n : ℕ) × AreSendsBelow ways agent from to streams n
  sends_some from to each zero = (0, refl)
  sends_some from to each (suc stream) =
      let (others, below) = sends_some from to each stream in
      let (one, is) = each stream in
      (others + one, (others, one, below, is, refl))

  -- A sum is the most of the sums between its two points.
  pub sends_most : HaveOneMost → (from to streams n : ℕ) → AreSendsBelow ways agent from to streams n → IsMost (AreSendsBelow ways agent from to streams) n
  sends_most one_most from to streams n are = record { one = inr are; all = λ m also. (let same = same_sends one_most from to streams m n also are in omega (arith, same)) }

  -- ---- the next points of a point

  -- Nothing is sent on no way.
  pub no_next : (streams from : ℕ) → IsMost (HasSendsAmong ways agent streams from []) 0
  no_next streams from = most_none (HasSendsAmong ways agent streams from []) (λ n (to, (k, less, is), are). omega (arith, less))

  -- One next point more
  pub next_more : (streams from : ℕ) (nexts : List ℕ) (i d : ℕ) → i < length nexts → (n : ℕ) →
      HasSendsAmong ways agent streams from (take (i + 1) nexts) n ↔ (HasSendsAmong ways agent streams from (take i nexts) n ⊎ AreSendsBelow ways agent from (get_or nexts i d) streams n)
  next_more streams from nexts i d l n =
      let next = get_or nexts i d in
      let more : take (i + 1) nexts ≡ take i nexts ++ next ∷ [] = take_more nexts i d l in (
        λ (to, c, are). elim (Contains-push_cases (take i nexts) next to (subst (λ xs. Contains xs to) more c)) [
          | inl before ↦ inl (to, before, are)
          | inr is ↦ inr (subst (λ p. AreSendsBelow ways agent from p streams n) (sym is) are)
        ],
        λ h. elim h [
          | inl (to, c, are) ↦ (to, subst (λ xs. Contains xs to) (sym more) (Contains-append_left (take i nexts) (next ∷ []) to c), are)
          | inr are ↦ (next, subst (λ xs. Contains xs next) (sym more) (Contains-push (take i nexts) next), are)
        ],
      )

  -- ---- the points

  module _ (streams : ℕ) (nexts : List (List ℕ)) where
    -- Nothing is sent from no point.
    pub no_point : IsMost (HasSendsBefore ways agent streams nexts 0) 0
    no_point = most_none (HasSendsBefore ways agent streams nexts 0) (λ n (from, to, less, c, are). omega (arith, less))

    -- One point more
    pub point_more : (point n : ℕ) → HasSendsBefore ways agent streams nexts (point + 1) n ↔ (HasSendsBefore ways agent streams nexts point n ⊎ HasSendsAmong ways agent streams point (get_or nexts point []) n)
    point_more point n = (
      λ (from, to, less, c, are). elim (cases_lt from point) [
        | inl l ↦ inl (from, to, l, c, are)
        | inr l ↦ (let is : from ≡ point = omega (arith, less, l) in
            inr (to, subst (λ p. Contains (get_or nexts p []) to) is c, subst (λ p. AreSendsBelow ways agent p to streams n) is are))
      ],
      λ h. elim h [
        | inl (from, to, less, c, are) ↦ (from, to, omega (arith, less), c, are)
        | inr (to, c, are) ↦ (point, to, omega arith, c, are)
      ],
    )
