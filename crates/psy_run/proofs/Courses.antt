-- Courses step by step: how they are left, that they come to one end, that they come to some, and that they do both.
use Rattle.std.proofs.Common.{◌≡◌, ◌∙◌, sym, subst, ap, refl, ℕ, List, ◌⊎◌, inl, inr, Result, Ok, Err, IfOk, IfErr}
use Rattle.std.specs.Result.{IsErrAnd}
use Rattle.psy_plan.specs.declared.refusal.Refusal.{Refusal as Cause}
use Rattle.psy_plan.specs.declared.refusal.Stop.{Stop as PlanStop}
use Rattle.psy_plan.specs.declared.refusal.Stop.TheVariants as at_plan
use Rattle.psy_plan.specs.Courses.{Course as Plan, Stops, IsDecided as IsPlanDecided, IsOne as IsPlanOne}
use Rattle.psy_run.specs.declared.refusal.Refusal.{Refusal}
use Rattle.psy_run.specs.declared.refusal.Refusal.TheVariants.{Unplanned}
use Rattle.psy_run.specs.declared.refusal.Stop.{Stop}
use Rattle.psy_run.specs.declared.refusal.Stop.TheVariants.{Memory}
use Rattle.psy_run.specs.Courses.{Course, step, planned, pure, unless, in_row}
use Rattle.psy_run.specs.Outcome.{Halts, halts_refused, halts_unread, halts_memory}
use Rattle.psy_run.specs.Refusals.{stop_of}

-- ---- in a row

pub gives_then : {X Y : Type 0} (c : Course X) (f : X → Course Y) (x : X) (y : Y) → c.gives x → (f x).gives y → (in_row c f).gives y
unfolding in_row
gives_then c f x y first later = (x, first, later)

pub halts_first : {X Y : Type 0} (c : Course X) (f : X → Course Y) (failed : List ℕ) (before after : ℕ) (stop : Stop) → Halts c failed before after stop → Halts (in_row c f) failed before after stop
unfolding in_row
halts_first c f failed before after _ (halts_refused refusal stops) = halts_refused refusal (inl stops)
halts_first c f failed before after _ (halts_unread file reads rose) = halts_unread file (inl reads) rose
halts_first c f failed before after _ halts_memory = halts_memory

pub halts_later : {X Y : Type 0} (c : Course X) (f : X → Course Y) (failed : List ℕ) (before after : ℕ) (x : X) (stop : Stop) → c.gives x → Halts (f x) failed before after stop → Halts (in_row c f) failed before after stop
unfolding in_row
halts_later c f failed before after x _ gives (halts_refused refusal stops) = halts_refused refusal (inr (x, gives, stops))
halts_later c f failed before after x _ gives (halts_unread file reads rose) = halts_unread file (inr (x, gives, reads)) rose
halts_later c f failed before after x _ gives halts_memory = halts_memory

-- Where two in a row halt, the first does, or the second with what the first gives.
pub halts_apart : {X Y : Type 0} (c : Course X) (f : X → Course Y) (failed : List ℕ) (before after : ℕ) (stop : Stop) → Halts (in_row c f) failed before after stop
    → Halts c failed before after stop ⊎ ((x : X) × c.gives x × Halts (f x) failed before after stop)
unfolding in_row
halts_apart c f failed before after _ (halts_refused refusal (inl stops)) = inl (halts_refused refusal stops)
halts_apart c f failed before after _ (halts_refused refusal (inr (x, gives, stops))) = inr (x, gives, halts_refused refusal stops)
halts_apart c f failed before after _ (halts_unread file (inl reads) rose) = inl (halts_unread file reads rose)
halts_apart c f failed before after _ (halts_unread file (inr (x, gives, reads)) rose) = inr (x, gives, halts_unread file reads rose)
halts_apart c f failed before after _ halts_memory = inl halts_memory

-- Want of memory, wherever it comes
pub halts_for_memory : {X : Type 0} (c : Course X) (failed : List ℕ) (before after : ℕ) (stop : Stop) → stop ≡ Memory → Halts c failed before after stop
halts_for_memory c failed before after stop is = subst (Halts c failed before after) (sym is) halts_memory

-- What `?` hands on, where it hands on the stop itself
pub halts_exit : {X Y : Type 0} (c : Course X) (failed : List ℕ) (before after : ℕ) (stop : Stop) (result : Result Y Stop) → IsErrAnd result (λ handed. handed ≡ stop) → Halts c failed before after stop → IfErr result (Halts c failed before after)
halts_exit c failed before after stop (Ok y) is halts = absurd is
halts_exit c failed before after stop (Err handed) is halts = subst (Halts c failed before after) (sym is) halts

-- The last of the steps in a row
pub halts_last : {X Y Z : Type 0} (c : Course X) (f : X → Course Y) (failed : List ℕ) (before after : ℕ) (x : X) (result : Result Z Stop) → c.gives x → IfErr result (Halts (f x) failed before after) → IfErr result (Halts (in_row c f) failed before after)
halts_last c f failed before after x (Ok z) gives halts = tt
halts_last c f failed before after x (Err stop) gives halts = halts_later c f failed before after x stop gives halts

pub gives_last : {X Y Z : Type 0} {E : Type 0} (c : Course X) (f : X → Course Y) (x : X) (h : Z → Y) (result : Result Z E) → c.gives x → IfOk result (λ z. (f x).gives (h z)) → IfOk result (λ z. (in_row c f).gives (h z))
gives_last c f x h (Ok z) first later = gives_then c f x (h z) first later
gives_last c f x h (Err e) first later = tt

-- ---- one end

-- It gives one thing at most, and stops with one refusal at most, and not both.
pub record IsOne {X : Type 0} (c : Course X) : Type 0 where
  pub gift : (x y : X) → c.gives x → c.gives y → x ≡ y
  pub stop : (r s : Refusal) → c.stops r → c.stops s → r ≡ s
  pub apart : (x : X) (r : Refusal) → c.gives x → c.stops r → ⊥

-- No step any more
pub one_pure : {X : Type 0} (x : X) → IsOne (pure x)
one_pure x = record {
  gift = λ y z p q. p ∙ sym q;
  stop = λ r s p q. absurd p;
  apart = λ y r p q. q;
}

-- A test, where what passes it doesn't fail it
pub one_unless : (Holds Fails : Type 0) (refusal : Refusal) → (Holds → Fails → ⊥) → IsOne (unless Holds Fails refusal)
one_unless Holds Fails refusal never = record {
  gift = λ x y p q. refl;
  stop = λ r s p q. p.0 ∙ sym q.0;
  apart = λ x r p q. never p q.1;
}

-- One course, and with what it gives another
pub one_then : {X Y : Type 0} (c : Course X) (f : X → Course Y) → IsOne c → ((x : X) → c.gives x → IsOne (f x)) → IsOne (in_row c f)
unfolding in_row
one_then c f one later = record {
  gift = λ x y p q. (later q.0 q.1).gift x y (subst (λ z. (f z).gives x) (one.gift p.0 q.0 p.1 q.1) p.2) q.2;
  stop = λ r s p q. elim p [
    | inl u ↦ elim q [
      | inl v ↦ one.stop r s u v
      | inr v ↦ absurd (one.apart v.0 r v.1 u)
    ]
    | inr u ↦ elim q [
      | inl v ↦ absurd (one.apart u.0 s u.1 v)
      | inr v ↦ (later v.0 v.1).stop r s (subst (λ z. (f z).stops r) (one.gift u.0 v.0 u.1 v.1) u.2) v.2
    ]
  ];
  apart = λ y r p q. elim q [
    | inl u ↦ one.apart p.0 r p.1 u
    | inr u ↦ (later u.0 u.1).apart y r (subst (λ z. (f z).gives y) (one.gift p.0 u.0 p.1 u.1) p.2) u.2
  ];
}

-- ---- some end

-- It gives something, or stops with a refusal.
abbrev pub IsSome : {X : Type 0} → Course X → Type 0
IsSome {X = X} c = ((x : X) × c.gives x) ⊎ ((refusal : Refusal) × c.stops refusal)

-- No step any more
pub some_pure : {X : Type 0} (x : X) → IsSome (pure x)
some_pure x = inl (x, refl)

-- A test, which passes or fails
pub some_unless : (Holds Fails : Type 0) (refusal : Refusal) → Holds ⊎ Fails → IsSome (unless Holds Fails refusal)
some_unless Holds Fails refusal (inl holds) = inl (tt, holds)
some_unless Holds Fails refusal (inr fails) = inr (refusal, (refl, fails))

-- One course, and with what it gives another
pub some_then : {X Y : Type 0} (c : Course X) (f : X → Course Y) → IsSome c → ((x : X) → c.gives x → IsSome (f x)) → IsSome (in_row c f)
unfolding in_row
some_then c f (inr stop) later = inr (stop.0, inl stop.1)
some_then c f (inl gift) later = elim (later gift.0 gift.1) [
  | inl next ↦ inl (next.0, (gift.0, gift.1, next.1))
  | inr stop ↦ inr (stop.0, inr (gift.0, gift.1, stop.1))
]

-- ---- some end, and no other

-- It comes to some end, and to one at most.
pub record IsDecided {X : Type 0} (c : Course X) : Type 0 where
  pub one : IsOne c
  pub some : IsSome c

-- No step any more
pub decided_pure : {X : Type 0} (x : X) → IsDecided (pure x)
decided_pure x = record { one = one_pure x; some = some_pure x }

-- One step that never stops, where it gives something, and nothing else
pub decided_given : {X : Type 0} (Gives : X → Type 0) → ((x y : X) → Gives x → Gives y → x ≡ y) → (x : X) × Gives x → IsDecided (step Gives (λ refusal. ⊥))
decided_given Gives same some = record { one = record { gift = same; stop = λ r s p q. absurd p; apart = λ x r p q. q }; some = inl some }

-- A test, which passes or fails, and not both
pub decided_unless : (Holds Fails : Type 0) (refusal : Refusal) → (Holds → Fails → ⊥) → Holds ⊎ Fails → IsDecided (unless Holds Fails refusal)
decided_unless Holds Fails refusal never either = record { one = one_unless Holds Fails refusal never; some = some_unless Holds Fails refusal either }

-- One course, and with what it gives another
pub decided_then : {X Y : Type 0} (c : Course X) (f : X → Course Y) → IsDecided c → ((x : X) → c.gives x → IsDecided (f x)) → IsDecided (in_row c f)
decided_then c f first later = record { one = one_then c f first.one (λ x gives. (later x gives).one); some = some_then c f first.some (λ x gives. (later x gives).some) }

-- ---- the plan's steps

-- Where they stop, a command does.
pub halts_planned : {X : Type 0} (c : Plan X) (failed : List ℕ) (before after : ℕ) (stop : PlanStop) → Stops c.stops stop → Halts (planned c) failed before after (stop_of stop)
halts_planned c failed before after (at_plan.Refused cause) stops = halts_refused (Unplanned cause) stops
halts_planned c failed before after at_plan.Memory stops = halts_memory

-- A refusal of them is one of the plan's.
planned_is : {X : Type 0} (c : Plan X) (refusal : Refusal) → (planned c).stops refusal → (cause : Cause) × (refusal ≡ Unplanned cause) × c.stops cause
planned_is c (Unplanned cause) stops = (cause, refl, stops)
planned_is c _ never = absurd never

-- They come to one end at most, where the plan does.
pub one_planned : {X : Type 0} (c : Plan X) → IsPlanOne c → IsOne (planned c)
one_planned c one = record {
  gift = one.gift;
  stop = λ r s p q.
      let (cause, is, stops) = planned_is c r p in
      let (other, is', stops') = planned_is c s q in
      is ∙ ap Unplanned (one.stop cause other stops stops') ∙ sym is';
  apart = λ x r p q. let (cause, is, stops) = planned_is c r q in one.apart x cause p stops;
}

-- And to some, where it does.
pub decided_planned : {X : Type 0} (c : Plan X) → IsPlanDecided c → IsDecided (planned c)
decided_planned c decided = record {
  one = one_planned c decided.one;
  some = elim decided.some [
    | inl gift ↦ inl gift
    | inr stop ↦ inr (Unplanned stop.0, stop.1)
  ];
}
