-- Least common multiples, by Euclid's algorithm.
use Rattle.std.proofs.Common.{◌≡◌, ℕ, zero, suc, ◌+◌, ◌*◌, ◌/◌, ◌%◌, ◌<◌, ◌≤◌, List, [], ◌∷◌, ◌++◌, All, length, length-append, refl, sym, ap, subst, ◌∙◌, arith}
use Rattle.std.specs.Int.{IsGcd, ◌∣◌}
use Rattle.std.proofs.Math.Nat.{mul_comm, mul_assoc, mul-zero, mul-add, mod-lt, mod-eq_of_lt, div-add-mod', mul-add-mod_self_right, div-mul_cancel, dvd-mul_left, dvd-mul_right, dvd_of_mul-dvd-mul_right, mul-dvd-mul_left, mul-dvd-mul_right, pos_of_dvd_of_pos, one-dvd, mul-lt-mul_of_pos_left, mul-pos, zero-lt-suc}
use Rattle.std.proofs.lemmas.Nat.Gcd.{IsGcd-from_zero, IsGcd-from_mod, same_from_IsGcd, dvd_trans, dvd-zero, dvd_antisymm}
use Rattle.std.proofs.lemmas.List.Elements.{All-nil, All-cons, All-head, All-tail, All-push}
use Rattle.std.proofs.lemmas.List.{get_or_append_left, get_or_push}
use Rattle.psy_meaning.specs.Graph.{IsLeastCommonMultiple}
use Rattle.psy_graph.specs.Steps.{divisor, joined, multiple_of}

-- In as many steps as the second number Euclid's algorithm ends.
pub divisor_is : (n a b : ℕ) → b ≤ n → IsGcd a b (divisor n a b)
unfolding divisor
divisor_is zero a b h = IsGcd-from_zero a b (omega (arith, h))
divisor_is (suc n) a zero h = IsGcd-from_zero a zero refl
divisor_is (suc n) a (suc b) h =
    let l : a % suc b < suc b = mod-lt a (omega arith) in
    IsGcd-from_mod a (suc b) (divisor n (suc b) (a % suc b)) (divisor_is n (suc b) (a % suc b) (omega (arith, l, h)))

divisor_step : (n a b : ℕ) → 0 < b → divisor (suc n) a b ≡ divisor n b (a % b)
unfolding divisor
divisor_step n a zero h = absurd (omega (arith, h))
divisor_step n a (suc b) h = refl

-- A common factor stays through a remainder.
mod_scaled : (m a b : ℕ) → 0 < m → 0 < b → m * a % (m * b) ≡ m * (a % b)
mod_scaled m a b some h =
    let q = a / b in let r = a % b in
    let parts : q * b + r ≡ a = div-add-mod' a b in
    let whole : m * a ≡ q * (m * b) + m * r =
    ap (λ x. m * x) (sym parts) ∙ mul-add m (q * b) r ∙ ap (λ x. x + m * r) (sym (mul_assoc m q b) ∙ ap (λ x. x * b) (mul_comm m q) ∙ mul_assoc q m b) in
    let l : r < b = mod-lt a h in
    ap (λ x. x % (m * b)) whole ∙ mul-add-mod_self_right q (m * b) (m * r) ∙ mod-eq_of_lt (mul-lt-mul_of_pos_left l some)

divisor_scaled : (n m a b : ℕ) → 0 < m → divisor n (m * a) (m * b) ≡ m * divisor n a b
unfolding divisor
divisor_scaled zero m a b some = refl
divisor_scaled (suc n) m a zero some = ap (divisor (suc n) (m * a)) (mul-zero m)
divisor_scaled (suc n) m a (suc b) some =
    let l : 0 < m * suc b = mul-pos some (zero-lt-suc b) in
    divisor_step n (m * a) (m * suc b) l ∙ ap (divisor n (m * suc b)) (mod_scaled m a (suc b) some (omega arith)) ∙ divisor_scaled n m (suc b) (a % suc b) some

pub gcd_scaled : (m a b g : ℕ) → 0 < m → IsGcd a b g → IsGcd (m * a) (m * b) (m * g)
gcd_scaled m a b g some h =
    let n = b + m * b in
    let is : g ≡ divisor n a b = same_from_IsGcd a b g (divisor n a b) h (divisor_is n a b (omega arith)) in
    subst (λ x. IsGcd (m * a) (m * b) x) (divisor_scaled n m a b some ∙ ap (λ x. m * x) (sym is)) (divisor_is n (m * a) (m * b) (omega arith))

-- The least common multiple of two numbers
pub record IsJoined (a b n : ℕ) : Type 0 where
  pub left : a ∣ n
  pub right : b ∣ n
  pub least : (m : ℕ) → a ∣ m → b ∣ m → n ∣ m
  pub some : 1 ≤ n

crossed : (q r g a b : ℕ) → q * g ≡ a → r * g ≡ b → a * r ≡ q * b
crossed q r g a b qa rb = ap (λ x. x * r) (sym qa) ∙ mul_assoc q g r ∙ ap (λ x. q * x) (mul_comm g r ∙ rb)

turned : (q g a b : ℕ) → q * g ≡ a → a * b ≡ q * b * g
turned q g a b qa = ap (λ x. x * b) (sym qa) ∙ mul_assoc q g b ∙ ap (λ x. q * x) (mul_comm g b) ∙ sym (mul_assoc q b g)

joined_least : (a b g q m : ℕ) → 0 < g → q * g ≡ a → IsGcd a b g → a ∣ m → b ∣ m → q * b ∣ m
joined_least a b g q zero some qa h l r = dvd-zero (q * b)
joined_least a b g q (suc m) some qa h l r =
    let n = suc m in
    let s : IsGcd (n * a) (n * b) (n * g) = gcd_scaled n a b g (omega arith) h in
    let ab = a * b in
    let one : ab ∣ n * a = subst (λ x. ab ∣ x) (mul_comm a n) (mul-dvd-mul_left b a r) in
    let two : ab ∣ n * b = mul-dvd-mul_right a l b in
    let both : ab ∣ n * g = s.2 ab one two in
    dvd_of_mul-dvd-mul_right (q * b) some (subst (λ x. x ∣ n * g) (turned q g a b qa) both)

pub joined_is : (a b : ℕ) → 1 ≤ a → 1 ≤ b → IsJoined a b (joined a b)
unfolding joined
joined_is a b la lb =
    let g = divisor b a b in
    let h : IsGcd a b g = divisor_is b a b (omega arith) in
    let some : 0 < g = pos_of_dvd_of_pos h.0 (omega (arith, la)) in
    let positive : 0 < a * b = mul-pos la lb in
    let qa : a / g * g ≡ a = div-mul_cancel g h.0 in
    let rb : b / g * g ≡ b = div-mul_cancel g h.1 in
    let q = a / g in
    let whole : a * b ≡ q * b * g = turned q g a b qa in
    let least : (m : ℕ) → a ∣ m → b ∣ m → q * b ∣ m = λ m l r. joined_least a b g q m some qa h l r in
    record {
      left = subst (λ x. a ∣ x) (crossed q (b / g) g a b qa rb) (dvd-mul_right a (b / g));
      right = dvd-mul_left b q;
      least = least;
      some = pos_of_dvd_of_pos (least (a * b) (dvd-mul_right a b) (dvd-mul_left b a)) positive;
    }

-- What Euclid's algorithm gives makes the least common multiple.
pub joined_by : (a b g : ℕ) → IsGcd a b g → a / g * b ≡ joined a b
unfolding joined
joined_by a b g h = ap (λ x. a / x * b) (same_from_IsGcd a b g (divisor b a b) h (divisor_is b a b (omega arith)))

pub least_nil : IsLeastCommonMultiple [] 1
least_nil = record { common = All-nil (λ number. number ∣ 1); least = λ m h. one-dvd m }

least_cons : (n m j : ℕ) (numbers : List ℕ) → IsLeastCommonMultiple numbers m → IsJoined m n j → IsLeastCommonMultiple (n ∷ numbers) j
least_cons n m j numbers h join = record {
  common = All-cons (λ number. number ∣ j) n numbers join.right (λ k d l. dvd_trans _ (h.common k d l) join.left);
  least = λ k all. join.least k (h.least k (All-tail (λ number. number ∣ k) n numbers all)) (All-head (λ number. number ∣ k) n numbers all);
}

front_of : (k : ℕ) (numbers : List ℕ) (n : ℕ) → All (λ number. number ∣ k) (numbers ++ n ∷ []) → All (λ number. number ∣ k) numbers
front_of k numbers n all i d l =
    subst (λ x. x ∣ k) (get_or_append_left numbers (n ∷ []) d i l) (all i d (omega (arith, l, length-append numbers (n ∷ []))))

last_of : (k : ℕ) (numbers : List ℕ) (n : ℕ) → All (λ number. number ∣ k) (numbers ++ n ∷ []) → n ∣ k
last_of k numbers n all =
    subst (λ x. x ∣ k) (get_or_push numbers n 0 (length numbers) refl) (all (length numbers) 0 (omega (arith, length-append numbers (n ∷ []))))

pub least_push : (n m j : ℕ) (numbers : List ℕ) → IsLeastCommonMultiple numbers m → IsJoined m n j → IsLeastCommonMultiple (numbers ++ n ∷ []) j
least_push n m j numbers h join = record {
  common = All-push (λ number. number ∣ j) numbers n (λ k d l. dvd_trans _ (h.common k d l) join.left) join.right;
  least = λ k all. join.least k (h.least k (front_of k numbers n all)) (last_of k numbers n all);
}

pub multiple_is : (numbers : List ℕ) → All (λ n. 1 ≤ n) numbers → IsLeastCommonMultiple numbers (multiple_of numbers) × (1 ≤ multiple_of numbers)
unfolding multiple_of
multiple_is [] all = (least_nil, omega arith)
multiple_is (n ∷ numbers) all =
    let rest = multiple_is numbers (All-tail (λ m. 1 ≤ m) n numbers all) in
    let join : IsJoined (multiple_of numbers) n (joined (multiple_of numbers) n) = joined_is (multiple_of numbers) n rest.1 (All-head (λ m. 1 ≤ m) n numbers all) in
    (least_cons n (multiple_of numbers) (joined (multiple_of numbers) n) numbers rest.0 join, join.some)

pub least_same : (numbers : List ℕ) (m n : ℕ) → IsLeastCommonMultiple numbers m → IsLeastCommonMultiple numbers n → m ≡ n
least_same numbers m n hm hn = dvd_antisymm (hm.least n hn.common) (hn.least m hm.common)
