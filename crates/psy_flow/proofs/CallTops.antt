-- The row of the greatest counts of the functions' calls.
use Rattle.std.proofs.Common.{◌≡◌, ◌≢◌, refl, sym, ap, subst, ◌∙◌, inl, inr, arith}
use Rattle.std.proofs.lemmas.List.{length-append}
use Rattle.std.specs.Prelude.{ℕ, zero, suc, ◌+◌, Bool, true, false, ◌==◌, List, [], ◌∷◌, ◌++◌, length, Option, Some, None}
use Rattle.psy_tree.specs.declared.unit.FunctionDecl.{FunctionDecl}
use Rattle.psy_meaning.specs.Paths.{holds_advance, NoneAdvances}
use Rattle.psy_meaning.specs.Ways.{Way, Course, Fell, Back, here, one, both, courses_through, course_by, back_way, callee_way, with_way, callee_ways_from, callee_ways}
use Rattle.psy_flow.specs.declared.gauge.Gauge.{Gauge}
use Rattle.psy_flow.specs.declared.tops.Tops.{Tops}
use Rattle.psy_flow.specs.Tops.{in_step, plus, greater, stmts_tops, count_or_zero, call_most, called, calls_from, calls_most}
use Rattle.psy_flow.proofs.MostWays.{IsMost, most_here, most_one, most_both}
use Rattle.psy_flow.proofs.TopsOf.{IsTop, AreTops, top_same, top_either, fits_stmts}
use Rattle.psy_flow.proofs.Homes.{IsThere, IsHome, there_left, there_right, there_plus, home_stmts}

-- ---- one call

most_there : (g : Gauge) (way : Way) (o : Option ℕ) → IsTop g way o → IsThere o → IsMost g way (count_or_zero o)
most_there g way None p (n, e) = absurd (cc)
most_there g way (Some n) p q = p

there_back : (g : Gauge) (t : Tops) → IsHome t → IsThere (greater t.back (plus (in_step g + in_step g) t.fell))
there_back g t (inl p) = there_right t.back (plus (in_step g + in_step g) t.fell) (there_plus (in_step g + in_step g) t.fell p)
there_back g t (inr p) = there_left t.back (plus (in_step g + in_step g) t.fell) p

-- Out of the statements, with two instructions behind
top_fallen : (g : Gauge) (way : Way) (o : Option ℕ) → IsTop g way o → IsTop g (both way (both one one)) (plus (in_step g + in_step g) o)
top_fallen g way None p = λ m n w. p m w.0 w.1
top_fallen g way (Some k) p =
    let two : ℕ = in_step g + in_step g in
    let swapped : k + two ≡ two + k = omega arith in
    subst (IsMost g (both way (both one one))) swapped (most_both g way (both one one) k two p (most_both g one one (in_step g) (in_step g) (most_one g) (most_one g)))

most_callee : (g : Gauge) (ways : ℕ → Way) (calls : ℕ → ℕ) → ((f : ℕ) → IsMost g (ways f) (calls f)) → (f : FunctionDecl) → holds_advance f.stmts ≡ false → IsMost g (callee_way ways f) (call_most g (stmts_tops g None calls f.stmts))
most_callee g ways calls all f h =
    let course : Course = courses_through (course_by ways) f.stmts in
    let t : Tops = stmts_tops g None calls f.stmts in
    let p : AreTops g None course t = fits_stmts g None ways calls all f.stmts in
    most_there g (back_way course) (greater t.back (plus (in_step g + in_step g) t.fell))
    (top_either g (course Back) (both (course Fell) (both one one)) t.back (plus (in_step g + in_step g) t.fell) p.back (top_fallen g (course Fell) t.fell p.fell))
    (there_back g t (home_stmts g None calls f.stmts h))

-- ---- one call more in the row

called-last : (above : List ℕ) (n f : ℕ) → f ≡ length above → called (above ++ n ∷ []) f ≡ n
called-last [] n zero e = refl
called-last [] n (suc f) e = absurd (omega (arith, e))
called-last (m ∷ above) n zero e = absurd (omega (arith, e))
called-last (m ∷ above) n (suc f) e = called-last above n f (omega (arith, e))

called-other : (above : List ℕ) (n f : ℕ) → f ≢ length above → called (above ++ n ∷ []) f ≡ called above f
called-other [] n zero e = absurd (e refl)
called-other [] n (suc f) e = refl
called-other (m ∷ above) n zero e = refl
called-other (m ∷ above) n (suc f) e = called-other above n f (λ same. e (omega (arith, same)))

most_with : (g : Gauge) (above : List ℕ) (ways : ℕ → Way) (last : Way) (n : ℕ) → ((f : ℕ) → IsMost g (ways f) (called above f)) → IsMost g last n → (f : ℕ) → IsMost g (with_way (length above) last ways f) (called (above ++ n ∷ []) f)
most_with g above ways last n all p f = by (f == length above) refl
  where
    by : (t : Bool) → (f == length above) ≡ t → IsMost g (with_way (length above) last ways f) (called (above ++ n ∷ []) f)
    by true e =
        let is : f ≡ length above = grind (arith, e) in
        subst (IsMost g (with_way (length above) last ways f)) (sym (called-last above n f is))
        (top_same g last (with_way (length above) last ways f) (Some n) (λ m k w. inl (is, w)) (λ m k w. elim w [ inl v ↦ v.1 | inr v ↦ absurd (v.0 is) ]) p)
    by false e =
        let not : f ≢ length above = (λ same. grind (arith, e, same)) in
        subst (IsMost g (with_way (length above) last ways f)) (sym (called-other above n f not))
        (top_same g (ways f) (with_way (length above) last ways f) (Some (called above f)) (λ m k w. inr (not, w)) (λ m k w. elim w [ inl v ↦ absurd (not v.0) | inr v ↦ v.1 ]) (all f))

most_from : (g : Gauge) (number : ℕ) (above : List ℕ) (ways : ℕ → Way) (fs : List FunctionDecl) → length above ≡ number → ((f : ℕ) → IsMost g (ways f) (called above f)) → NoneAdvances fs → (f : ℕ) → IsMost g (callee_ways_from number ways fs f) (called (calls_from g above fs) f)
most_from g number above ways [] e all h = all
most_from g number above ways (x ∷ fs) e all h =
    let n : ℕ = call_most g (stmts_tops g None (called above) x.stmts) in
    let its : Way = callee_way ways x in
    let last : IsMost g its n = most_callee g ways (called above) all x (h 0 x (omega arith)) in
    most_from g (number + 1) (above ++ n ∷ []) (with_way number its ways) fs (length-append above (n ∷ []) ∙ ap (λ k. k + 1) e)
    (subst (λ k. (f : ℕ) → IsMost g (with_way k its ways f) (called (above ++ n ∷ []) f)) e (most_with g above ways its n all last)) (λ k d less. h (suc k) d (omega (arith, less)))

pub most_callees : (g : Gauge) (functions : List FunctionDecl) → NoneAdvances functions → (f : ℕ) → IsMost g (callee_ways functions f) (called (calls_most g functions) f)
most_callees g functions h = most_from g 0 [] (λ function. here) functions refl (λ f. most_here g) h
