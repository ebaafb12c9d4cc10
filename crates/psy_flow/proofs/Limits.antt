-- Counts and tops as far as is counted.
use Rattle.std.proofs.Common.{◌≡◌, ℕ, zero, suc, ◌+◌, ◌*◌, min, max, Option, Some, None, refl, sym, ap, ◌∙◌, arith}
use Rattle.psy_flow.specs.declared.gauge.Gauge.{Gauge}
use Rattle.psy_flow.specs.declared.gauge.Gauge.TheVariants as gauge
use Rattle.psy_flow.specs.declared.tops.Tops.{Tops}
use Rattle.psy_flow.specs.Tops.{limit_of, in_step, falling, plus, greater, behind, or_else, leaving, on_from, and_on, capped_count, capped_tops}

-- Tops by their counts
abbrev pub tops : Option ℕ → Option ℕ → Option ℕ → Tops
tops f b t = record { fell = f; back = b; to = t }

-- Tops with the same counts
pub same_tops : (a b : Tops) → a.fell ≡ b.fell → a.back ≡ b.back → a.to ≡ b.to → a ≡ b
same_tops a b p q r = ap (λ f. tops f a.back a.to) p ∙ ap (λ c. tops b.fell c a.to) q ∙ ap (tops b.fell b.back) r

-- ---- numbers

min-max : (a b m : ℕ) → min (max a b) m ≡ max (min a m) (min b m)
min-max a b m = omega arith

min-min : (a m : ℕ) → min (min a m) m ≡ min a m
min-min a m = omega arith

min-add-min : (a b m : ℕ) → min (min a m + min b m) m ≡ min (a + b) m
min-add-min a b m = omega arith

pub min-mul-min : (n a m : ℕ) → min (n * min a m) m ≡ min (n * a) m
min-mul-min zero a m = omega arith
min-mul-min (suc n) a m = omega (arith, min-mul-min n a m)

-- ---- counts

pub count-count : (g : Gauge) (a : Option ℕ) → capped_count g (capped_count g a) ≡ capped_count g a
count-count g None = refl
count-count g (Some a) = ap Some (min-min a (limit_of g))

pub count-greater : (g : Gauge) (a b : Option ℕ) → capped_count g (greater a b) ≡ greater (capped_count g a) (capped_count g b)
count-greater g None b = refl
count-greater g (Some a) None = refl
count-greater g (Some a) (Some b) = ap Some (min-max a b (limit_of g))

pub count-plus : (g : Gauge) (n : ℕ) (a : Option ℕ) → capped_count g (plus (min n (limit_of g)) (capped_count g a)) ≡ capped_count g (plus n a)
count-plus g n None = refl
count-plus g n (Some a) = ap Some (min-add-min n a (limit_of g))

-- ---- tops

pub capped-capped : (g : Gauge) (t : Tops) → capped_tops g (capped_tops g t) ≡ capped_tops g t
capped-capped g t = same_tops (capped_tops g (capped_tops g t)) (capped_tops g t) (count-count g t.fell) (count-count g t.back) (count-count g t.to)

pub capped-or_else : (g : Gauge) (a b : Tops) → capped_tops g (or_else a b) ≡ or_else (capped_tops g a) (capped_tops g b)
capped-or_else g a b = same_tops (capped_tops g (or_else a b)) (or_else (capped_tops g a) (capped_tops g b)) (count-greater g a.fell b.fell) (count-greater g a.back b.back) (count-greater g a.to b.to)

pub capped-behind : (g : Gauge) (n : ℕ) (t : Tops) → capped_tops g (behind (min n (limit_of g)) (capped_tops g t)) ≡ capped_tops g (behind n t)
capped-behind g n t = same_tops (capped_tops g (behind (min n (limit_of g)) (capped_tops g t))) (capped_tops g (behind n t)) (count-plus g n t.fell) (count-plus g n t.back) (count-plus g n t.to)

pub capped-on_from : (g : Gauge) (f : Option ℕ) (t : Tops) → capped_tops g (on_from (capped_count g f) (capped_tops g t)) ≡ capped_tops g (on_from f t)
capped-on_from g None t = refl
capped-on_from g (Some n) t = capped-behind g n t

pub capped-and_on : (g : Gauge) (a b : Tops) → or_else (capped_tops g (on_from (capped_count g a.fell) (capped_tops g b))) (leaving (capped_tops g a)) ≡ capped_tops g (and_on a b)
capped-and_on g a b = ap (λ t. or_else t (leaving (capped_tops g a))) (capped-on_from g a.fell b) ∙ sym (capped-or_else g (on_from a.fell b) (leaving a))

-- ---- tops that are the same as far as is counted

pub or_else_like : (g : Gauge) (a b c d : Tops) → capped_tops g a ≡ capped_tops g c → capped_tops g b ≡ capped_tops g d → capped_tops g (or_else a b) ≡ capped_tops g (or_else c d)
or_else_like g a b c d h k = capped-or_else g a b ∙ ap (λ t. or_else t (capped_tops g b)) h ∙ ap (or_else (capped_tops g c)) k ∙ sym (capped-or_else g c d)

pub behind_like : (g : Gauge) (n m : ℕ) (a b : Tops) → min n (limit_of g) ≡ min m (limit_of g) → capped_tops g a ≡ capped_tops g b → capped_tops g (behind n a) ≡ capped_tops g (behind m b)
behind_like g n m a b h k =
    sym (capped-behind g n a) ∙ ap (λ x. capped_tops g (behind x (capped_tops g a))) h ∙ ap (λ t. capped_tops g (behind (min m (limit_of g)) t)) k ∙ capped-behind g m b

pub and_on_like : (g : Gauge) (a b c d : Tops) → capped_tops g a ≡ capped_tops g c → capped_tops g b ≡ capped_tops g d → capped_tops g (and_on a b) ≡ capped_tops g (and_on c d)
and_on_like g a b c d h k =
    sym (capped-and_on g a b) ∙ ap (λ t. or_else (capped_tops g (on_from t.fell (capped_tops g b))) (leaving t)) h
    ∙ ap (λ t. or_else (capped_tops g (on_from (capped_count g c.fell) t)) (leaving (capped_tops g c))) k ∙ capped-and_on g c d

-- ---- what the calls give for counts and tops that are as far as is counted

pub step_is : (g : Gauge) → in_step g ≡ min (in_step g) (limit_of g)
step_is gauge.Steps = refl
step_is (gauge.Sends stream) = refl
step_is (gauge.Looks variable) = refl

pub falling_step_is : (g : Gauge) (r : Tops) (n : ℕ) → r ≡ falling n → n ≡ in_step g → r ≡ capped_tops g (falling (in_step g))
falling_step_is g r n e h = e ∙ ap falling (h ∙ step_is g)

pub sum_is : (r a b p q m : ℕ) → r ≡ min (a + b) m → a ≡ min p m → b ≡ min q m → r ≡ min (p + q) m
sum_is r a b p q m e h k = omega (arith, e, h, k)

-- An instruction more
pub sum_step_is : (g : Gauge) (r a s p : ℕ) → r ≡ min (a + s) (limit_of g) → a ≡ min p (limit_of g) → s ≡ in_step g → r ≡ min (p + in_step g) (limit_of g)
sum_step_is g r a s p e h k = omega (arith, e, h, k)

-- Two instructions more
pub sum_steps_is : (g : Gauge) (r a s two : ℕ) → r ≡ min (a + two) (limit_of g) → two ≡ min (s + s) (limit_of g) → s ≡ in_step g → r ≡ min (a + (in_step g + in_step g)) (limit_of g)
sum_steps_is g r a s two e h k = omega (arith, e, h, k)

pub or_else_is : (g : Gauge) (r a b c d : Tops) → r ≡ or_else a b → a ≡ capped_tops g c → b ≡ capped_tops g d → r ≡ capped_tops g (or_else c d)
or_else_is g r a b c d e h k = e ∙ ap (λ t. or_else t b) h ∙ ap (or_else (capped_tops g c)) k ∙ sym (capped-or_else g c d)

pub behind_is : (g : Gauge) (r : Tops) (n m : ℕ) (a b : Tops) → r ≡ capped_tops g (behind n a) → n ≡ min m (limit_of g) → a ≡ capped_tops g b → r ≡ capped_tops g (behind m b)
behind_is g r n m a b e h k = e ∙ ap (λ x. capped_tops g (behind x a)) h ∙ ap (λ t. capped_tops g (behind (min m (limit_of g)) t)) k ∙ capped-behind g m b

pub and_on_is : (g : Gauge) (r a b c d : Tops) → r ≡ or_else (capped_tops g (on_from a.fell b)) (leaving a) → a ≡ capped_tops g c → b ≡ capped_tops g d → r ≡ capped_tops g (and_on c d)
and_on_is g r a b c d e h k =
    e ∙ ap (λ t. or_else (capped_tops g (on_from t.fell b)) (leaving t)) h
    ∙ ap (λ t. or_else (capped_tops g (on_from (capped_count g c.fell) t)) (leaving (capped_tops g c))) k ∙ capped-and_on g c d
