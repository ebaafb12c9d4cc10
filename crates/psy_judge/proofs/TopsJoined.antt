-- The greatest two heights with others, and behind a way on.
use Rattle.std.proofs.Common.{◌≡◌, ◌⊎◌, ℕ, ◌+◌, ◌-◌, ◌<◌, ◌≤◌, Bool, true, false, not, ◌||◌, if◌then◌else◌, refl, sym, ap, subst, inl, inr, arith}
use Rattle.std.specs.Prelude.{nat_eq, nat_le, nat_lt, ⊤}
use Rattle.std.proofs.lemmas.Bool.{false≢true}
use Rattle.psy_lists.proofs.lemmas.Tests.{or_right}
use Rattle.psy_meaning.specs.CodeWays.{IsUnbounded}
use Rattle.psy_judge.specs.declared.heights.Top.{Top}
use Rattle.psy_judge.specs.declared.heights.Top.TheVariants as top
use Rattle.psy_judge.specs.Judged.{Judges}
use Rattle.psy_judge.specs.Highest.{Covers, IsFound, IsSmall, and_height, covers, is_endless, joined, joined_all, moved, rises, room_in}
use Rattle.psy_judge.proofs.JudgedBools.{fails, holds, judge_eq, judge_le, judge_lt, judge_or, not_false, not_true, or_left}

pub covers_tells : (t : Top) (h : ℕ) → Judges (covers t h) (Covers t h)
covers_tells top.Nothing h = λ (x : ⊥). x
covers_tells (top.One a) h = judge_eq h a
covers_tells (top.Two a b) h = judge_or _ _ (nat_eq h a) (nat_le h b) (judge_eq h a) (judge_le h b)
covers_tells top.Endless h = tt {0}

-- The greater height stands first.
abbrev pub IsInOrder : Top → Type 0
IsInOrder (top.Two a b) = b < a
IsInOrder _ = ⊤

pub small_order : (most : ℕ) (t : Top) → IsSmall most t → IsInOrder t
small_order most top.Nothing s = tt {0}
small_order most (top.One a) s = tt {0}
small_order most (top.Two a b) s = s.0
small_order most top.Endless s = tt {0}

-- ---- one height more

module _ (most : ℕ) where
  two_small : (a h : ℕ) → (h ≡ a → ⊥) → a ≤ most → h ≤ most → (b : Bool) → nat_lt a h ≡ b → IsSmall most (if b then top.Two h a else top.Two a h)
  two_small a h other low few true e = (holds (nat_lt a h) (judge_lt a h) e, few)
  two_small a h other low few false e = (let not = fails (nat_lt a h) (judge_lt a h) e in grind (arith, other, not), low)

  and_small : (t : Top) (h : ℕ) → IsSmall most t → (Covers t h → ⊥) → h ≤ most → IsSmall most (and_height t h)
  and_small top.Nothing h s new few = few
  and_small (top.One a) h s new few = two_small a h new s few (nat_lt a h) refl
  and_small (top.Two a b) h s new few = two_small a h (λ e. new (inl e)) s.1 few (nat_lt a h) refl
  and_small top.Endless h s new few = tt {0}

  pub joined_small : (t : Top) (h : ℕ) → IsSmall most t → IsSmall most (joined most t h)
  joined_small t h s = by (covers t h) refl (nat_lt most h) refl
    where
      by : (b : Bool) → covers t h ≡ b → (c : Bool) → nat_lt most h ≡ c → IsSmall most (if b then t else (if c then top.Endless else and_height t h))
      by true e c f = s
      by false e true f = tt {0}
      by false e false f = and_small t h s (fails (covers t h) (covers_tells t h) e) (let not = fails (nat_lt most h) (judge_lt most h) f in grind (arith, not))

  two_room : (a b h : ℕ) → b < a → a ≤ most → (h ≡ a → ⊥) → (h ≤ b → ⊥) → h ≤ most → (c : Bool) → nat_lt a h ≡ c
      → room_in most (if c then top.Two h a else top.Two a h) < most + most - (a + b)
  two_room a b h order low other above few true e = (let more = holds (nat_lt a h) (judge_lt a h) e in omega (arith, order, low, more, few))
  two_room a b h order low other above few false e =
      (let not = fails (nat_lt a h) (judge_lt a h) e in let less : h < a = grind (arith, other, not) in let more : b < h = grind (arith, above) in omega (arith, order, low, less, more))

  one_room : (a h : ℕ) → a ≤ most → h ≤ most → (c : Bool) → room_in most (if c then top.Two h a else top.Two a h) < most + most + 1 - a
  one_room a h low few true = omega (arith, low, few)
  one_room a h low few false = omega (arith, low, few)

  and_room : (t : Top) (h : ℕ) → IsSmall most t → (Covers t h → ⊥) → h ≤ most → room_in most (and_height t h) < room_in most t
  and_room top.Nothing h s new few = omega (arith, few)
  and_room (top.One a) h s new few = one_room a h s few (nat_lt a h)
  and_room (top.Two a b) h s new few = two_room a b h s.0 s.1 (λ e. new (inl e)) (λ l. new (inr l)) few (nat_lt a h) refl
  and_room top.Endless h s new few = absurd (new (tt {0}))

  endless_room : (t : Top) (h : ℕ) → IsSmall most t → (Covers t h → ⊥) → 0 < room_in most t
  endless_room top.Nothing h s new = omega arith
  endless_room (top.One a) h s new = omega (arith, s)
  endless_room (top.Two a b) h s new = omega (arith, s.0, s.1)
  endless_room top.Endless h s new = absurd (new (tt {0}))

  joined_less : (t : Top) (h : ℕ) → IsSmall most t → covers t h ≡ false → room_in most (joined most t h) < room_in most t
  joined_less t h s new = by (covers t h) new (nat_lt most h) refl
    where
      by : (b : Bool) → b ≡ false → (c : Bool) → nat_lt most h ≡ c → room_in most (if b then t else (if c then top.Endless else and_height t h)) < room_in most t
      by true e c f = absurd (false≢true (sym e))
      by false e true f = endless_room t h s (fails (covers t h) (covers_tells t h) new)
      by false e false f = and_room t h s (fails (covers t h) (covers_tells t h) new) (let not = fails (nat_lt most h) (judge_lt most h) f in grind (arith, not))

  joined_same : (t : Top) (h : ℕ) → covers t h ≡ true → joined most t h ≡ t
  joined_same t h e = ap (λ (b : Bool). if b then t else (if nat_lt most h then top.Endless else and_height t h)) e

  joined_most : (t : Top) (h : ℕ) → IsSmall most t → room_in most (joined most t h) ≤ room_in most t
  joined_most t h s = by (covers t h) refl
    where
      by : (b : Bool) → covers t h ≡ b → room_in most (joined most t h) ≤ room_in most t
      by true e = omega (arith, ap (room_in most) (joined_same t h e))
      by false e = omega (arith, joined_less t h s e)

  -- ---- all of another

  pub all_small : (t more : Top) → IsSmall most t → IsSmall most (joined_all most t more)
  all_small t top.Nothing s = s
  all_small t (top.One a) s = joined_small t a s
  all_small t (top.Two a b) s = joined_small (joined most t a) b (joined_small t a s)
  all_small t top.Endless s = tt {0}

  two_less : (t : Top) (a b : ℕ) → IsSmall most t → (c : Bool) → covers t a ≡ c → (d : Bool) → covers t b ≡ d → (not c || not d) ≡ true
      → room_in most (joined most (joined most t a) b) < room_in most t
  two_less t a b s false e d f h = omega (arith, joined_less t a s e, joined_most (joined most t a) b (joined_small t a s))
  two_less t a b s true e false f h =
      subst (λ (u : Top). room_in most (joined most u b) < room_in most t) (sym (joined_same t a e)) (joined_less t b s f)
  two_less t a b s true e true f h = absurd (false≢true h)

  not_endless : (t : Top) → IsSmall most t → not (is_endless t) ≡ true → 0 < room_in most t
  not_endless top.Nothing s e = omega arith
  not_endless (top.One a) s e = omega (arith, s)
  not_endless (top.Two a b) s e = omega (arith, s.0, s.1)
  not_endless top.Endless s e = absurd (false≢true e)

  pub all_less : (t more : Top) → IsSmall most t → rises t more ≡ true → room_in most (joined_all most t more) < room_in most t
  all_less t top.Nothing s e = absurd (false≢true e)
  all_less t (top.One a) s e = joined_less t a s (not_true (covers t a) e)
  all_less t (top.Two a b) s e = two_less t a b s (covers t a) refl (covers t b) refl e
  all_less t top.Endless s e = not_endless t s e

  -- ---- what is found

  module _ (Has : ℕ → Type 0) (pumped : (h : ℕ) → Has h → most < h → IsUnbounded Has) where
    two_found : (a h : ℕ) → (h ≡ a → ⊥) → Has a → Has h → (b : Bool) → nat_lt a h ≡ b → IsFound Has (if b then top.Two h a else top.Two a h)
    two_found a h other has also true e = (also, has, holds (nat_lt a h) (judge_lt a h) e)
    two_found a h other has also false e = (has, also, let not = fails (nat_lt a h) (judge_lt a h) e in grind (arith, other, not))

    and_found : (t : Top) (h : ℕ) → IsFound Has t → (Covers t h → ⊥) → Has h → IsFound Has (and_height t h)
    and_found top.Nothing h f new has = has
    and_found (top.One a) h f new has = two_found a h new f has (nat_lt a h) refl
    and_found (top.Two a b) h f new has = two_found a h (λ e. new (inl e)) f.0 has (nat_lt a h) refl
    and_found top.Endless h f new has = f

    joined_found : (t : Top) (h : ℕ) → IsFound Has t → Has h → IsFound Has (joined most t h)
    joined_found t h found has = by (covers t h) refl (nat_lt most h) refl
      where
        by : (b : Bool) → covers t h ≡ b → (c : Bool) → nat_lt most h ≡ c → IsFound Has (if b then t else (if c then top.Endless else and_height t h))
        by true e c f = found
        by false e true f = pumped h has (holds (nat_lt most h) (judge_lt most h) f)
        by false e false f = and_found t h found (fails (covers t h) (covers_tells t h) e) has

    pub all_found : (t more : Top) → IsFound Has t → IsFound Has more → IsFound Has (joined_all most t more)
    all_found t top.Nothing found has = found
    all_found t (top.One a) found has = joined_found t a found has
    all_found t (top.Two a b) found has = joined_found (joined most t a) b (joined_found t a found has.0) has.1
    all_found t top.Endless found has = has

-- ---- what stays covered

two_keeps : (a b x h : ℕ) → b < a → (x ≤ b → ⊥) → (h ≡ a) ⊎ (h ≤ b) → (c : Bool) → Covers (if c then top.Two x a else top.Two a x) h
two_keeps a b x h order above (inl same) true = inr (omega (arith, same))
two_keeps a b x h order above (inr low) true = inr (omega (arith, low, order))
two_keeps a b x h order above (inl same) false = inl same
two_keeps a b x h order above (inr low) false = (let more : b ≤ x = grind (arith, above) in inr (omega (arith, low, more)))

one_keeps : (a x h : ℕ) → h ≡ a → (c : Bool) → Covers (if c then top.Two x a else top.Two a x) h
one_keeps a x h same true = inr (omega (arith, same))
one_keeps a x h same false = inl same

and_keeps : (t : Top) (x h : ℕ) → IsInOrder t → (Covers t x → ⊥) → Covers t h → Covers (and_height t x) h
and_keeps top.Nothing x h order new has = absurd has
and_keeps (top.One a) x h order new has = one_keeps a x h has (nat_lt a x)
and_keeps (top.Two a b) x h order new has = two_keeps a b x h order (λ low. new (inr low)) has (nat_lt a x)
and_keeps top.Endless x h order new has = tt {0}

joined_keeps : (most : ℕ) (t : Top) (x h : ℕ) → IsInOrder t → Covers t h → Covers (joined most t x) h
joined_keeps most t x h order has = by (covers t x) refl (nat_lt most x)
  where
    by : (b : Bool) → covers t x ≡ b → (c : Bool) → Covers (if b then t else (if c then top.Endless else and_height t x)) h
    by true e c = has
    by false e true = tt {0}
    by false e false = and_keeps t x h order (fails (covers t x) (covers_tells t x) e) has

pub all_keeps : (most : ℕ) (t more : Top) (h : ℕ) → IsSmall most t → Covers t h → Covers (joined_all most t more) h
all_keeps most t top.Nothing h s has = has
all_keeps most t (top.One a) h s has = joined_keeps most t a h (small_order most t s) has
all_keeps most t (top.Two a b) h s has =
    joined_keeps most (joined most t a) b h (small_order most (joined most t a) (joined_small most t a s)) (joined_keeps most t a h (small_order most t s) has)
all_keeps most t top.Endless h s has = tt {0}

-- ---- what is covered

is_covered : (t : Top) (h : ℕ) → covers t h ≡ true → Covers t h
is_covered t h e = holds (covers t h) (covers_tells t h) e

two_covered : (t : Top) (a b h : ℕ) → IsInOrder t → b < a → Covers t a → Covers t b → h ≤ b → Covers t h
two_covered top.Nothing a b h order less at_a at_b low = absurd at_a
two_covered (top.One c) a b h order less at_a at_b low = absurd (omega (arith, less, at_a, at_b))
two_covered (top.Two c d) a b h order less (inl p) (inl q) low = absurd (omega (arith, less, p, q))
two_covered (top.Two c d) a b h order less (inr p) (inl q) low = absurd (omega (arith, less, p, q, order))
two_covered (top.Two c d) a b h order less at_a (inr q) low = inr (omega (arith, q, low))
two_covered top.Endless a b h order less at_a at_b low = tt {0}

endless_covers : (t : Top) (h : ℕ) → is_endless t ≡ true → Covers t h
endless_covers top.Nothing h e = absurd (false≢true e)
endless_covers (top.One a) h e = absurd (false≢true e)
endless_covers (top.Two a b) h e = absurd (false≢true e)
endless_covers top.Endless h e = tt {0}

-- Where another has nothing new, what it covers is covered.
pub covered_all : (t more : Top) → IsInOrder t → IsInOrder more → rises t more ≡ false → (h : ℕ) → Covers more h → Covers t h
covered_all t top.Nothing order also e h has = absurd has
covered_all t (top.One a) order also e h has = subst (Covers t) (sym has) (is_covered t a (not_false (covers t a) e))
covered_all t (top.Two a b) order also e h (inl same) = subst (Covers t) (sym same) (is_covered t a (not_false (covers t a) (or_left (not (covers t a)) (not (covers t b)) e)))
covered_all t (top.Two a b) order also e h (inr low) =
    two_covered t a b h order also (is_covered t a (not_false (covers t a) (or_left (not (covers t a)) (not (covers t b)) e)))
    (is_covered t b (not_false (covers t b) (or_right (not (covers t a)) (not (covers t b)) e))) low
covered_all t top.Endless order also e h has = endless_covers t h (not_false (is_endless t) e)

-- ---- behind a way on

module _ (pops pushes : ℕ) where
  pub moved_order : (t : Top) → IsInOrder t → IsInOrder (moved t pops pushes)
  moved_order top.Nothing order = tt {0}
  moved_order (top.One a) order = by (nat_le pops a)
    where
      by : (c : Bool) → IsInOrder (if c then top.One (a - pops + pushes) else top.Nothing)
      by true = tt {0}
      by false = tt {0}
  moved_order (top.Two a b) order = by (nat_le pops b) refl (nat_le pops a)
    where
      by : (c : Bool) → nat_le pops b ≡ c → (d : Bool)
          → IsInOrder (if c then top.Two (a - pops + pushes) (b - pops + pushes) else (if d then top.One (a - pops + pushes) else top.Nothing))
      by true e d = (let low = holds (nat_le pops b) (judge_le pops b) e in omega (arith, low, order))
      by false e true = tt {0}
      by false e false = tt {0}
  moved_order top.Endless order = tt {0}

  pub moved_found : (Has After : ℕ → Type 0) → ((h : ℕ) → Has h → pops ≤ h → After (h - pops + pushes)) → (t : Top) → IsFound Has t → IsFound After (moved t pops pushes)
  moved_found Has After on top.Nothing found = tt {0}
  moved_found Has After on (top.One a) found = by (nat_le pops a) refl
    where
      by : (c : Bool) → nat_le pops a ≡ c → IsFound After (if c then top.One (a - pops + pushes) else top.Nothing)
      by true e = on a found (holds (nat_le pops a) (judge_le pops a) e)
      by false e = tt {0}
  moved_found Has After on (top.Two a b) (at_a, at_b, less) = by (nat_le pops b) refl (nat_le pops a) refl
    where
      by : (c : Bool) → nat_le pops b ≡ c → (d : Bool) → nat_le pops a ≡ d
          → IsFound After (if c then top.Two (a - pops + pushes) (b - pops + pushes) else (if d then top.One (a - pops + pushes) else top.Nothing))
      by true e d f =
          (let low = holds (nat_le pops b) (judge_le pops b) e in
          let high : pops ≤ a = omega (arith, low, less) in
          let order : b - pops + pushes < a - pops + pushes = omega (arith, low, less) in
          (on a at_a high, on b at_b low, order))
      by false e true f = on a at_a (holds (nat_le pops a) (judge_le pops a) f)
      by false e false f = tt {0}
  moved_found Has After on top.Endless found = λ m. (
      let (n, has, more) = found (m + pops) in
      let low : pops ≤ n = omega (arith, more) in
      let further : m < n - pops + pushes = omega (arith, more) in
      (n - pops + pushes, on n has low, further))

  pub moved_covers : (t : Top) (h : ℕ) → IsInOrder t → Covers t h → pops ≤ h → Covers (moved t pops pushes) (h - pops + pushes)
  moved_covers top.Nothing h order has low = absurd has
  moved_covers (top.One a) h order has low = by (nat_le pops a) refl
    where
      by : (c : Bool) → nat_le pops a ≡ c → Covers (if c then top.One (a - pops + pushes) else top.Nothing) (h - pops + pushes)
      by true e = omega (arith, has)
      by false e = (let not = fails (nat_le pops a) (judge_le pops a) e in absurd (not (omega (arith, has, low))))
  moved_covers (top.Two a b) h order has low = by (nat_le pops b) refl (nat_le pops a) refl has
    where
      by : (c : Bool) → nat_le pops b ≡ c → (d : Bool) → nat_le pops a ≡ d → (h ≡ a) ⊎ (h ≤ b)
          → Covers (if c then top.Two (a - pops + pushes) (b - pops + pushes) else (if d then top.One (a - pops + pushes) else top.Nothing)) (h - pops + pushes)
      by true e d f (inl same) = inl (omega (arith, same))
      by true e d f (inr less) = inr (omega (arith, less, low))
      by false e d f (inr less) = (let not = fails (nat_le pops b) (judge_le pops b) e in absurd (not (omega (arith, less, low))))
      by false e true f (inl same) = omega (arith, same)
      by false e false f (inl same) = (let not = fails (nat_le pops a) (judge_le pops a) f in absurd (not (omega (arith, same, low))))
  moved_covers top.Endless h order has low = tt {0}

pub small_more : (n m : ℕ) (t : Top) → n ≤ m → IsSmall n t → IsSmall m t
small_more n m top.Nothing low s = tt {0}
small_more n m (top.One a) low s = omega (arith, low, s)
small_more n m (top.Two a b) low s = (s.0, omega (arith, low, s.1))
small_more n m top.Endless low s = tt {0}
