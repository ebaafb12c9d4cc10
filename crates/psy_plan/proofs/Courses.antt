-- Courses step by step: how they are left, and that they come to one end and to some.
use Rattle.std.proofs.Common.{◌≡◌, ◌∙◌, sym, subst, refl, ◌⊎◌, inl, inr, Result, Ok, Err, IfErr}
use Rattle.std.specs.Result.{IsErrAnd}
use Rattle.psy_plan.specs.declared.refusal.Refusal.{Refusal}
use Rattle.psy_plan.specs.declared.refusal.Stop.{Stop}
use Rattle.psy_plan.specs.declared.refusal.Stop.TheVariants as stop
use Rattle.psy_plan.specs.Courses.{Course, step, pure, unless, in_row, Stops, IsOne, IsSome, IsDecided}

-- ---- in a row

pub gives_then : {X Y : Type 0} (c : Course X) (f : X → Course Y) (x : X) (y : Y) → c.gives x → (f x).gives y → (in_row c f).gives y
unfolding in_row
gives_then c f x y first later = (x, first, later)

pub stops_first : {X Y : Type 0} (c : Course X) (f : X → Course Y) (refusal : Refusal) → c.stops refusal → (in_row c f).stops refusal
unfolding in_row
stops_first c f refusal stops = inl stops

pub stops_later : {X Y : Type 0} (c : Course X) (f : X → Course Y) (x : X) → c.gives x → (refusal : Refusal) → (f x).stops refusal → (in_row c f).stops refusal
unfolding in_row
stops_later c f x gives refusal stops = inr (x, gives, stops)

-- What `?` hands on where memory is wanting
pub exit_memory : {X : Type 0} (Is : Refusal → Type 0) (result : Result X Stop) → IsErrAnd result (λ handed. handed ≡ stop.Memory) → IfErr result (Stops Is)
exit_memory Is (Ok x) is = absurd is
exit_memory Is (Err handed) is = subst (Stops Is) (sym is) tt

-- ---- one end

-- No step any more
pub one_pure : {X : Type 0} (x : X) → IsOne (pure x)
one_pure x = record {
  gift = λ y z p q. p ∙ sym q;
  stop = λ r s p q. absurd p;
  apart = λ y r p q. q;
}

-- A test, where what passes it doesn't fail it
pub one_unless : (Holds Fails : Type 0) (refusal : Refusal) → (Holds → Fails → ⊥) → IsOne (unless Holds Fails refusal)
one_unless Holds Fails refusal never = record {
  gift = λ x y p q. refl;
  stop = λ r s p q. p.0 ∙ sym q.0;
  apart = λ x r p q. never p q.1;
}

-- One course, and with what it gives another
pub one_then : {X Y : Type 0} (c : Course X) (f : X → Course Y) → IsOne c → ((x : X) → c.gives x → IsOne (f x)) → IsOne (in_row c f)
unfolding in_row
one_then c f one later = record {
  gift = λ x y p q. (later q.0 q.1).gift x y (subst (λ z. (f z).gives x) (one.gift p.0 q.0 p.1 q.1) p.2) q.2;
  stop = λ r s p q. elim p [
    | inl u ↦ elim q [
      | inl v ↦ one.stop r s u v
      | inr v ↦ absurd (one.apart v.0 r v.1 u)
    ]
    | inr u ↦ elim q [
      | inl v ↦ absurd (one.apart u.0 s u.1 v)
      | inr v ↦ (later v.0 v.1).stop r s (subst (λ z. (f z).stops r) (one.gift u.0 v.0 u.1 v.1) u.2) v.2
    ]
  ];
  apart = λ y r p q. elim q [
    | inl u ↦ one.apart p.0 r p.1 u
    | inr u ↦ (later u.0 u.1).apart y r (subst (λ z. (f z).gives y) (one.gift p.0 u.0 p.1 u.1) p.2) u.2
  ];
}

-- ---- some end

-- A test, which passes or fails
some_unless : (Holds Fails : Type 0) (refusal : Refusal) → Holds ⊎ Fails → IsSome (unless Holds Fails refusal)
some_unless Holds Fails refusal (inl holds) = inl (tt, holds)
some_unless Holds Fails refusal (inr fails) = inr (refusal, (refl, fails))

-- One course, and with what it gives another
some_then : {X Y : Type 0} (c : Course X) (f : X → Course Y) → IsSome c → ((x : X) → c.gives x → IsSome (f x)) → IsSome (in_row c f)
unfolding in_row
some_then c f (inr stop) later = inr (stop.0, inl stop.1)
some_then c f (inl gift) later = elim (later gift.0 gift.1) [
  | inl next ↦ inl (next.0, (gift.0, gift.1, next.1))
  | inr stop ↦ inr (stop.0, inr (gift.0, gift.1, stop.1))
]

-- ---- some end, and no other

-- No step any more
pub decided_pure : {X : Type 0} (x : X) → IsDecided (pure x)
decided_pure x = record { one = one_pure x; some = inl (x, refl) }

-- One step that never stops, where it gives something, and nothing else
pub decided_given : {X : Type 0} (Gives : X → Type 0) → ((x y : X) → Gives x → Gives y → x ≡ y) → (x : X) × Gives x → IsDecided (step Gives (λ refusal. ⊥))
decided_given Gives same some = record { one = record { gift = same; stop = λ r s p q. absurd p; apart = λ x r p q. q }; some = inl some }

-- A test, which passes or fails, and not both
pub decided_unless : (Holds Fails : Type 0) (refusal : Refusal) → (Holds → Fails → ⊥) → Holds ⊎ Fails → IsDecided (unless Holds Fails refusal)
decided_unless Holds Fails refusal never either = record { one = one_unless Holds Fails refusal never; some = some_unless Holds Fails refusal either }

-- One course, and with what it gives another
pub decided_then : {X Y : Type 0} (c : Course X) (f : X → Course Y) → IsDecided c → ((x : X) → c.gives x → IsDecided (f x)) → IsDecided (in_row c f)
decided_then c f first later = record { one = one_then c f first.one (λ x gives. (later x gives).one); some = some_then c f first.some (λ x gives. (later x gives).some) }
