-- A bounded loop in closed form: what falls through has made all turns, what leaves has done so in the last.
use Rattle.std.proofs.Common.{◌≡◌, ℕ, zero, suc, ◌+◌, ◌-◌, ◌*◌, min, Option, Some, None, refl, sym, ap, ◌∙◌, arith}
use Rattle.psy_flow.specs.declared.gauge.Gauge.{Gauge}
use Rattle.psy_flow.specs.declared.tops.Tops.{Tops}
use Rattle.psy_flow.specs.Tops.{limit_of, in_step, falling, plus, greater, behind, or_else, leaving, and_on, turning, capped_count, capped_tops}
use Rattle.psy_flow.proofs.Limits.{tops, same_tops, count-plus, capped-capped, capped-or_else, capped-behind, or_else_like, behind_like, and_on_like}

-- After `more` turns and one more, each of `turn`, where a test counts `tested`
abbrev pub all_turns : (more turn tested : ℕ) → Tops → Tops
all_turns more turn tested body = tops (Some (suc more * turn + tested)) (plus (more * turn + tested) body.back) (plus (more * turn + tested) body.to)

first_turn : (tested turn : ℕ) (a : Option ℕ) → greater None (plus tested (greater None a)) ≡ plus (0 * turn + tested) a
first_turn tested turn None = refl
first_turn tested turn (Some a) = ap Some (omega arith)

one_more_turn : (more tested f s : ℕ) (a : Option ℕ) → greater None (plus tested (greater (plus f (plus s (plus (more * (tested + (f + s)) + tested) a))) a)) ≡ plus (suc more * (tested + (f + s)) + tested) a
one_more_turn more tested f s None = refl
one_more_turn more tested f s (Some a) = ap Some (omega arith)

turning_of : (g : Gauge) (more test f : ℕ) (b t : Option ℕ) →
    turning g (suc more) test (tops (Some f) b t) ≡ all_turns more (test + (in_step g + in_step g) + (f + in_step g)) (test + (in_step g + in_step g)) (tops (Some f) b t)
turning_of g zero test f b t =
    let tested = test + (in_step g + in_step g) in
    let turn = tested + (f + in_step g) in
    same_tops (turning g 1 test (tops (Some f) b t)) (all_turns 0 turn tested (tops (Some f) b t))
    (ap Some (omega arith)) (first_turn tested turn b) (first_turn tested turn t)
turning_of g (suc more) test f b t =
    let tested = test + (in_step g + in_step g) in
    let turn = tested + (f + in_step g) in
    let body = tops (Some f) b t in
    ap (λ rest. or_else (falling tested) (behind tested (and_on body (behind (in_step g) rest)))) (turning_of g more test f b t)
    ∙ same_tops (or_else (falling tested) (behind tested (and_on body (behind (in_step g) (all_turns more turn tested body))))) (all_turns (suc more) turn tested body)
    (ap Some (omega arith)) (one_more_turn more tested f (in_step g) b) (one_more_turn more tested f (in_step g) t)

-- A body that doesn't fall through turns once.
pub turning_once : (g : Gauge) (more test : ℕ) (body : Tops) → body.fell ≡ None → turning g (suc more) test body ≡ or_else (falling (test + (in_step g + in_step g))) (behind (test + (in_step g + in_step g)) (leaving body))
turning_once g more test body e =
    let tested = test + (in_step g + in_step g) in
    let on = behind (in_step g) (turning g more test body) in
    ap (λ f. or_else (falling tested) (behind tested (and_on (tops f body.back body.to) on))) e

pub turning_on : (g : Gauge) (more test f : ℕ) (body : Tops) → body.fell ≡ Some f →
    turning g (suc more) test body ≡ all_turns more (test + (in_step g + in_step g) + (f + in_step g)) (test + (in_step g + in_step g)) body
turning_on g more test f body e =
    ap (λ o. turning g (suc more) test (tops o body.back body.to)) e ∙ turning_of g more test f body.back body.to

-- ---- as far as is counted

pub capped_once : (g : Gauge) (most test n : ℕ) (body : Tops) → (most ≡ 0 → ⊥) → body.fell ≡ None → body ≡ capped_tops g body → n ≡ min (test + (in_step g + in_step g)) (limit_of g) →
    or_else (falling n) (capped_tops g (behind n body)) ≡ capped_tops g (turning g most test body)
capped_once g zero test n body some e h k = absurd (some refl)
capped_once g (suc more) test n body some e h k =
    let tested = test + (in_step g + in_step g) in
    ap (λ m. or_else (falling m) (capped_tops g (behind m body))) k
    ∙ ap (λ t. or_else (capped_tops g (falling tested)) (capped_tops g (behind (min tested (limit_of g)) t))) h
    ∙ ap (or_else (capped_tops g (falling tested))) (capped-behind g tested body)
    ∙ sym (capped-or_else g (falling tested) (behind tested body))
    ∙ ap (λ f. capped_tops g (or_else (falling tested) (behind tested (tops f body.back body.to)))) e
    ∙ ap (capped_tops g) (sym (turning_once g more test body e))

-- A count behind another, where it is as far as is counted
plus_is : (g : Gauge) (n m : ℕ) (a : Option ℕ) → a ≡ capped_count g a → n ≡ min m (limit_of g) → capped_count g (plus n a) ≡ capped_count g (plus m a)
plus_is g n m a h k = ap (λ x. capped_count g (plus x a)) k ∙ ap (λ x. capped_count g (plus (min m (limit_of g)) x)) h ∙ count-plus g m a

pub capped_on : (g : Gauge) (most test f whole before : ℕ) (body : Tops) → (most ≡ 0 → ⊥) → body.fell ≡ Some f → body ≡ capped_tops g body →
    whole ≡ min (most * (test + (in_step g + in_step g) + (f + in_step g)) + (test + (in_step g + in_step g))) (limit_of g) →
    before ≡ min ((most - 1) * (test + (in_step g + in_step g) + (f + in_step g)) + (test + (in_step g + in_step g))) (limit_of g) →
    or_else (falling whole) (capped_tops g (behind before (leaving body))) ≡ capped_tops g (turning g most test body)
capped_on g zero test f whole before body some e h k l = absurd (some refl)
capped_on g (suc more) test f whole before body some e h k l =
    let tested = test + (in_step g + in_step g) in
    let turn = tested + (f + in_step g) in
    let one_less : suc more - 1 ≡ more = omega arith in
    let last : before ≡ min (more * turn + tested) (limit_of g) = l ∙ ap (λ n. min (n * turn + tested) (limit_of g)) one_less in
    same_tops (or_else (falling whole) (capped_tops g (behind before (leaving body)))) (capped_tops g (all_turns more turn tested body))
    (ap Some k)
    (plus_is g before (more * turn + tested) body.back (ap (λ t. t.back) h) last)
    (plus_is g before (more * turn + tested) body.to (ap (λ t. t.to) h) last)
    ∙ ap (capped_tops g) (sym (turning_on g more test f body e))

-- The turns of a body that is the same as far as is counted
pub turning_like : (g : Gauge) (most n test : ℕ) (a body : Tops) → n ≡ min test (limit_of g) → a ≡ capped_tops g body → capped_tops g (turning g most n a) ≡ capped_tops g (turning g most test body)
turning_like g zero n test a body h k = ap (λ m. tops (Some m) None None) (omega (arith, h))
turning_like g (suc more) n test a body h k =
    let s = in_step g in
    let rest = behind_like g s s (turning g more n a) (turning g more test body) refl (turning_like g more n test a body h k) in
    let on = and_on_like g a (behind s (turning g more n a)) body (behind s (turning g more test body)) (ap (capped_tops g) k ∙ capped-capped g body) rest in
    let tested : min (n + (s + s)) (limit_of g) ≡ min (test + (s + s)) (limit_of g) = omega (arith, h) in
    or_else_like g (falling (n + (s + s))) (behind (n + (s + s)) (and_on a (behind s (turning g more n a)))) (falling (test + (s + s))) (behind (test + (s + s)) (and_on body (behind s (turning g more test body))))
    (ap (λ m. tops (Some m) None None) tested)
    (behind_like g (n + (s + s)) (test + (s + s)) (and_on a (behind s (turning g more n a))) (and_on body (behind s (turning g more test body))) tested on)
