-- Marks by number.
use Rattle.std.proofs.Common.{◌≡◌, ℕ, zero, suc, ◌+◌, ◌≤◌, Bool, true, false, ◌||◌, nat_eq, List, [], ◌∷◌, length, set, eq-eqb, refl, ap, ◌∙◌, arith}
use Rattle.std.proofs.Math.Bool.{or-false, or-true, or_assoc}
use Rattle.psy_flow.specs.Reach.{marked_from, marked}

marked_from_same : (n : ℕ) (marks : List Bool) (a b : ℕ → Bool) → ((q : ℕ) → n ≤ q → a q ≡ b q) → marked_from n marks a ≡ marked_from n marks b
marked_from_same n [] a b e = refl
marked_from_same n (m ∷ marks) a b e =
    ap (λ x. (m || x) ∷ marked_from (n + 1) marks a) (e n (omega arith))
    ∙ ap (λ ms. (m || b n) ∷ ms) (marked_from_same (n + 1) marks a b (λ q h. e q (omega (arith, h))))

marked_from_none : (n : ℕ) (marks : List Bool) → marked_from n marks (λ q. false) ≡ marks
marked_from_none n [] = refl
marked_from_none n (m ∷ marks) = ap (λ x. x ∷ marked_from (n + 1) marks (λ q. false)) (or-false m) ∙ ap (λ ms. m ∷ ms) (marked_from_none (n + 1) marks)

marked_from_both : (n : ℕ) (marks : List Bool) (a b : ℕ → Bool) → marked_from n (marked_from n marks a) b ≡ marked_from n marks (λ q. a q || b q)
marked_from_both n [] a b = refl
marked_from_both n (m ∷ marks) a b =
    ap (λ x. x ∷ marked_from (n + 1) (marked_from (n + 1) marks a) b) (or_assoc m (a n) (b n))
    ∙ ap (λ ms. (m || (a n || b n)) ∷ ms) (marked_from_both (n + 1) marks a b)

differ : (p q : ℕ) → (p ≡ q → ⊥) → nat_eq p q ≡ false
differ p q h = grind (arith, h)

marked_from_one : (n k p : ℕ) (marks : List Bool) → p ≡ n + k → marked_from n marks (λ q. nat_eq p q) ≡ set marks k true
marked_from_one n k p [] e = refl
marked_from_one n zero p (m ∷ marks) e =
    ap (λ x. (m || x) ∷ marked_from (n + 1) marks (λ q. nat_eq p q)) (eq-eqb p n (omega (arith, e)))
    ∙ ap (λ x. x ∷ marked_from (n + 1) marks (λ q. nat_eq p q)) (or-true m)
    ∙ ap (λ ms. true ∷ ms) (marked_from_same (n + 1) marks (λ q. nat_eq p q) (λ q. false) (λ q h. differ p q (λ is. omega (arith, h, e, is))) ∙ marked_from_none (n + 1) marks)
marked_from_one n (suc k) p (m ∷ marks) e =
    ap (λ x. (m || x) ∷ marked_from (n + 1) marks (λ q. nat_eq p q)) (differ p n (λ is. omega (arith, e, is)))
    ∙ ap (λ x. x ∷ marked_from (n + 1) marks (λ q. nat_eq p q)) (or-false m)
    ∙ ap (λ ms. m ∷ ms) (marked_from_one (n + 1) k p marks (omega (arith, e)))

-- Past the end nothing is set.
set_outside : (marks : List Bool) (k : ℕ) → length marks ≤ k → set marks k true ≡ marks
set_outside [] k h = refl
set_outside (m ∷ marks) zero h = absurd (omega (arith, h))
set_outside (m ∷ marks) (suc k) h = ap (λ ms. m ∷ ms) (set_outside marks k (omega (arith, h)))

-- ---- as contracts have it

pub marked_same : (marks : List Bool) (a b : ℕ → Bool) → ((q : ℕ) → a q ≡ b q) → marked marks a ≡ marked marks b
marked_same marks a b e = marked_from_same 0 marks a b (λ q h. e q)

pub marked_none : (marks : List Bool) (a : ℕ → Bool) → ((q : ℕ) → a q ≡ false) → marked marks a ≡ marks
marked_none marks a e = marked_same marks a (λ q. false) e ∙ marked_from_none 0 marks

pub marked_both : (marks : List Bool) (a b : ℕ → Bool) → marked (marked marks a) b ≡ marked marks (λ q. a q || b q)
marked_both marks a b = marked_from_both 0 marks a b

pub marked_one : (marks : List Bool) (point : ℕ) → marked marks (λ q. nat_eq point q) ≡ set marks point true
marked_one marks point = marked_from_one 0 point point marks (omega arith)

pub marked_outside : (marks : List Bool) (point : ℕ) → length marks ≤ point → marked marks (λ q. nat_eq point q) ≡ marks
marked_outside marks point h = marked_one marks point ∙ set_outside marks point h
