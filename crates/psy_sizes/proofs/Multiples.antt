-- What a number shares with a least common multiple: how greatest common divisors and least common multiples change places.
use Rattle.std.proofs.Common.{◌≡◌, ℕ, zero, suc, ◌+◌, ◌-◌, ◌*◌, ◌/◌, ◌%◌, ◌<◌, ◌≤◌, sym, ap, subst, ◌∙◌, inl, inr, arith}
use Rattle.std.specs.Int.{IsGcd, ◌∣◌}
use Rattle.std.proofs.Math.Nat.{mul_comm, mod-lt, eq-zero-or-pos, div-add-mod', div-mul_cancel, dvd-mul_left, dvd-mul_right, dvd-mul_left_of_dvd, dvd-mul_right_of_dvd, dvd-add_iff_right, dvd_of_mul-dvd-mul_right, mul-dvd-mul_left, mul-dvd-mul_right, pos_of_dvd_of_pos, one-dvd, mul-pos}
use Rattle.std.proofs.lemmas.Nat.Gcd.{IsGcd-from_zero, IsGcd-from_mod, same_from_IsGcd, dvd_trans, dvd_of_mod-eq-zero}
use Rattle.psy_graph.specs.Steps.{divisor}
use Rattle.psy_graph.proofs.lemmas.Cycles.{IsJoined, divisor_is, gcd_scaled, joined_by, joined_is as joined_whole}

quotient_some : (a g : ℕ) → 1 ≤ a → g ∣ a → 1 ≤ a / g
quotient_some a g la h = elim (eq-zero-or-pos (a / g)) [
  | inl none ↦ (let no : a / g * g ≡ 0 * g = ap (λ x. x * g) none in let whole : a / g * g ≡ a = div-mul_cancel g h in omega arith)
  | inr l ↦ l
]

-- Some multiple of the first number lies behind a multiple of the second by their greatest common divisor.
abbrev pub Reaches : ℕ → ℕ → ℕ → Type 0
Reaches a b g = (u v : ℕ) × (u * a ≡ v * b + g)

turned_by : (a b k g u v : ℕ) → (k + 1) * g ≡ a → u * a ≡ v * (b + 1) + g → (k * v + a) * (b + 1) ≡ (k * u + b) * a + g
turned_by a b k g u v e f = let many : k * (u * a) ≡ k * (v * (b + 1) + g) = ap (λ x. k * x) f in omega arith

turned : (a b g : ℕ) → 1 ≤ a → 1 ≤ b → g ∣ a → Reaches a b g → Reaches b a g
turned a b g la lb h (u, v, e) =
    let q = a / g in
    let whole : q * g ≡ a = div-mul_cancel g h in
    let some : 1 ≤ q = quotient_some a g la h in
    let parts : (q - 1 + 1) * g ≡ a = ap (λ x. x * g) (omega (arith, some)) ∙ whole in
    let before : u * a ≡ v * (b - 1 + 1) + g = e ∙ ap (λ x. v * x + g) (omega (arith, lb)) in
    let after : ((q - 1) * v + a) * (b - 1 + 1) ≡ ((q - 1) * u + (b - 1)) * a + g = turned_by a (b - 1) (q - 1) g u v parts before in
    ((q - 1) * v + a, (q - 1) * u + (b - 1), ap (λ x. ((q - 1) * v + a) * x) (omega (arith, lb)) ∙ after)

stepped : (a b q r g u v : ℕ) → q * b + r ≡ a → u * r ≡ v * b + g → u * a ≡ (u * q + v) * b + g
stepped a b q r g u v e f = let whole : u * (q * b + r) ≡ u * a = ap (λ x. u * x) e in omega arith

euclid : (n a b : ℕ) → b ≤ n → 1 ≤ a → 1 ≤ b → (g : ℕ) × IsGcd a b g × Reaches a b g
euclid zero a b h la lb = absurd (omega (arith, h, lb))
euclid (suc n) a b h la lb =
    let q = a / b in let r = a % b in
    let parts : q * b + r ≡ a = div-add-mod' a b in
    let less : r < b = mod-lt a (omega (arith, lb)) in
    elim (eq-zero-or-pos r) [
      | inl e ↦ (
          let some : 1 ≤ q = quotient_some a b la (dvd_of_mod-eq-zero b e) in
          let more : q ≡ q - 1 + 1 = omega (arith, some) in
          let one : q * b ≡ (q - 1 + 1) * b = ap (λ x. x * b) more in
          (b, IsGcd-from_mod a b b (IsGcd-from_zero b r e), (1, q - 1, omega arith))
          )
      | inr l ↦ (
          let (g, is, reach) = euclid n b r (omega (arith, less, h)) lb l in
          let (u, v, back) = turned b r g lb l is.0 reach in
          (g, IsGcd-from_mod a b g is, (u, u * q + v, stepped a b q r g u v parts back))
          )
    ]

pub reaches : (a b g : ℕ) → 1 ≤ a → 1 ≤ b → IsGcd a b g → Reaches a b g
reaches a b g la lb h = let (k, is, reach) = euclid b a b (omega arith) la lb in subst (Reaches a b) (same_from_IsGcd a b k g is h) reach

pub gcd_exists : (a b : ℕ) → (g : ℕ) × IsGcd a b g
gcd_exists a b = (divisor b a b, divisor_is b a b (omega arith))

pub gcd_some : (a b g : ℕ) → 1 ≤ a → IsGcd a b g → 1 ≤ g
gcd_some a b g la h = pos_of_dvd_of_pos h.0 la

-- The least common multiple of two numbers
pub joined_is : (a b g : ℕ) → 1 ≤ a → 1 ≤ b → IsGcd a b g → IsJoined a b (a / g * b)
joined_is a b g la lb h = subst (IsJoined a b) (sym (joined_by a b g h)) (joined_whole a b la lb)

-- What is left of a number and of another one, past a common factor that holds all that the two share, shares nothing.
apart : (a c g m p x : ℕ) → 1 ≤ g → IsGcd a p g → x * g ≡ a → c * m ≡ p → g ∣ m → IsGcd x c 1
apart a c g m p x some h xa cp gm = (
  one-dvd x,
  one-dvd c,
  λ d dx dc. (
      let in_a : d * g ∣ a = subst (λ y. d * g ∣ y) xa (mul-dvd-mul_right d dx g) in
      let in_c : d * g ∣ c * g = mul-dvd-mul_right d dc g in
      let in_p : d * g ∣ p = subst (λ y. d * g ∣ y) cp (dvd_trans (d * g) in_c (mul-dvd-mul_left g c gm)) in
      let in_g : d * g ∣ g = h.2 (d * g) in_a in_p in
      dvd_of_mul-dvd-mul_right d some (subst (λ y. d * g ∣ y) (omega arith) in_g)
      ),
)

-- What shares nothing with two numbers shares nothing with their product.
both_apart : (x y c : ℕ) → 1 ≤ y → IsGcd x c 1 → IsGcd y c 1 → IsGcd (x * y) c 1
both_apart x y c ly hx hy = (
  one-dvd (x * y),
  one-dvd c,
  λ d dxy dc. (
      let scaled : IsGcd (y * x) (y * c) (y * 1) = gcd_scaled y x c 1 ly hx in
      let in_y : d ∣ y * 1 = scaled.2 d (subst (λ z. d ∣ z) (mul_comm x y) dxy) (dvd-mul_left_of_dvd d dc y) in
      hy.2 d (subst (λ z. d ∣ z) (omega arith) in_y) dc
      ),
)

-- What a number shares with the least common multiple of two others is the least common multiple of what it shares with each.
pub shared_joined : (a b p g k j m : ℕ) → 1 ≤ a → 1 ≤ b → 1 ≤ p → IsGcd a p g → IsGcd b p k → IsJoined a b j → IsJoined g k m → IsGcd j p m
shared_joined a b p g k j m la lb lp ga gb join small =
    let in_p : m ∣ p = small.least p ga.1 gb.1 in
    let x = a / g in let y = b / k in let c = p / m in
    let xa : x * g ≡ a = div-mul_cancel g ga.0 in
    let yb : y * k ≡ b = div-mul_cancel k gb.0 in
    let cp : c * m ≡ p = div-mul_cancel m in_p in
    let ly : 1 ≤ y = quotient_some b k lb gb.0 in
    let none : IsGcd (x * y) c 1 = both_apart x y c ly (apart a c g m p x (gcd_some a p g la ga) ga xa cp small.left) (apart b c k m p y (gcd_some b p k lb gb) gb yb cp small.right) in
    let has_a : a ∣ m * (x * y) = (
    let one : x * g ∣ x * m = mul-dvd-mul_left g x small.left in
    let two : x * g ∣ x * m * y = dvd-mul_right_of_dvd (x * g) one y in
    subst (λ z. z ∣ m * (x * y)) xa (subst (λ z. x * g ∣ z) (omega arith) two)
    ) in
    let has_b : b ∣ m * (x * y) = (
    let one : y * k ∣ y * m = mul-dvd-mul_left k y small.right in
    let two : y * k ∣ y * m * x = dvd-mul_right_of_dvd (y * k) one x in
    subst (λ z. z ∣ m * (x * y)) yb (subst (λ z. y * k ∣ z) (omega arith) two)
    ) in
    let has_j : j ∣ m * (x * y) = join.least (m * (x * y)) has_a has_b in (
      small.least j (dvd_trans g ga.0 join.left) (dvd_trans k gb.0 join.right),
      in_p,
      λ d dj dp. (
          let scaled : IsGcd (m * (x * y)) (m * c) (m * 1) = gcd_scaled m (x * y) c 1 small.some none in
          let in_c : d ∣ m * c = subst (λ z. d ∣ z) (sym cp ∙ mul_comm c m) dp in
          subst (λ z. d ∣ z) (omega arith) (scaled.2 d (dvd_trans d dj has_j) in_c)
          ),
    )
