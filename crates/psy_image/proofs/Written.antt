-- What is written, byte by byte.
use Rattle.std.proofs.Common.{◌≡◌, ◌∙◌, ℕ, ◌+◌, ◌<◌, ◌≤◌, ◌%◌, ◌^◌, List, [], ◌∷◌, ◌++◌, append-nil, append_assoc, length, drop, take, get_or, min, refl, sym, ap, inl, inr, arith}
use Rattle.std.proofs.lemmas.Bool.{cases_lt}
use Rattle.std.specs.List.{flat_map}
use Rattle.std.proofs.lemmas.Grind.{flat_map-append}
use Rattle.std.proofs.lemmas.List.{take_more}
use Rattle.std.proofs.lemmas.List.Concat.{flat_map-cons}
use Rattle.std.proofs.Math.ListN.{drop_of_length-le}
use Rattle.psy_image.specs.Bytes.{number_bytes, paired_bytes}

same_four : (a b c d e f g h : ℕ) → a ≡ e → b ≡ f → c ≡ g → d ≡ h → (a ∷ b ∷ c ∷ d ∷ []) ≡ (e ∷ f ∷ g ∷ h ∷ [])
same_four a b c d e f g h p q r s = cc

-- Four bytes have a number modulo 2 ^ 32.
pub low_bytes : (n : ℕ) → number_bytes (n % 2 ^ 32) ≡ number_bytes n
low_bytes n = same_four _ _ _ _ _ _ _ _ (omega arith) (omega arith) (omega arith) (omega arith)

-- ---- two lists side by side

-- Both go on by one.
pub paired_goes : {X Y : Type 0} (bytes : X → Y → List ℕ) (xs : List X) (ys : List Y) (i : ℕ) (x : X) (y : Y) (out now all : List ℕ)
    → drop i xs ≡ x ∷ drop (i + 1) xs → drop i ys ≡ y ∷ drop (i + 1) ys → now ≡ out ++ bytes x y
    → out ++ paired_bytes bytes (drop i xs) (drop i ys) ≡ all → now ++ paired_bytes bytes (drop (i + 1) xs) (drop (i + 1) ys) ≡ all
paired_goes bytes xs ys i x y out now all first second is so_far =
    ap (λ t. t ++ paired_bytes bytes (drop (i + 1) xs) (drop (i + 1) ys)) is
    ∙ append_assoc out (bytes x y) (paired_bytes bytes (drop (i + 1) xs) (drop (i + 1) ys))
    ∙ ap (λ zs. out ++ zs) (sym (ap (λ zs. paired_bytes bytes zs (drop i ys)) first ∙ ap (paired_bytes bytes (x ∷ drop (i + 1) xs)) second))
    ∙ so_far

no_first : {X Y : Type 0} (bytes : X → Y → List ℕ) (ys : List Y) → paired_bytes bytes [] ys ≡ []
no_first bytes [] = refl
no_first bytes (y ∷ ys) = refl

no_second : {X Y : Type 0} (bytes : X → Y → List ℕ) (xs : List X) → paired_bytes bytes xs [] ≡ []
no_second bytes [] = refl
no_second bytes (x ∷ xs) = refl

-- One of them is at its end.
pub paired_done : {X Y : Type 0} (bytes : X → Y → List ℕ) (xs : List X) (ys : List Y) (i : ℕ) (out all : List ℕ) → min (length xs) (length ys) ≤ i
    → out ++ paired_bytes bytes (drop i xs) (drop i ys) ≡ all → out ≡ all
paired_done bytes xs ys i out all over so_far = elim (cases_lt i (length xs)) [
  | inl later ↦ sym (append-nil out) ∙ ap (λ zs. out ++ zs) (sym (ap (λ zs. paired_bytes bytes (drop i xs) zs) (drop_of_length-le ys (omega (arith, over, later))) ∙ no_second bytes (drop i xs))) ∙ so_far
  | inr first ↦ sym (append-nil out) ∙ ap (λ zs. out ++ zs) (sym (ap (λ zs. paired_bytes bytes zs (drop i ys)) (drop_of_length-le xs first) ∙ no_first bytes (drop i ys))) ∙ so_far
]

-- ---- one behind the other

pub adds_3 : (o a b d p q r : List ℕ) → a ≡ o ++ p → b ≡ a ++ q → d ≡ b ++ r → d ≡ o ++ (p ++ (q ++ r))
adds_3 o a b d p q r is next last =
    last ∙ ap (λ t. t ++ r) (next ∙ ap (λ t. t ++ q) is) ∙ append_assoc (o ++ p) q r ∙ append_assoc o p (q ++ r)

pub adds_4 : (o a b d e p q r s : List ℕ) → a ≡ o ++ p → b ≡ a ++ q → d ≡ b ++ r → e ≡ d ++ s → e ≡ o ++ (p ++ (q ++ (r ++ s)))
adds_4 o a b d e p q r s is next more last = last ∙ ap (λ t. t ++ s) (adds_3 o a b d p q r is next more) ∙ append_assoc o (p ++ (q ++ r)) s
    ∙ ap (λ t. o ++ t) (append_assoc p (q ++ r) s ∙ ap (λ t. p ++ t) (append_assoc q r s))

pub adds_5 : (o a b d e f p q r s t : List ℕ) → a ≡ o ++ p → b ≡ a ++ q → d ≡ b ++ r → e ≡ d ++ s → f ≡ e ++ t → f ≡ o ++ (p ++ (q ++ (r ++ (s ++ t))))
adds_5 o a b d e f p q r s t h1 h2 h3 h4 h5 = adds_4 o a b d f p q r (s ++ t) h1 h2 h3 (h5 ∙ ap (λ x. x ++ t) h4 ∙ append_assoc d s t)

pub adds_6 : (o a b d e f g p q r s t u : List ℕ) → a ≡ o ++ p → b ≡ a ++ q → d ≡ b ++ r → e ≡ d ++ s → f ≡ e ++ t → g ≡ f ++ u → g ≡ o ++ (p ++ (q ++ (r ++ (s ++ (t ++ u)))))
adds_6 o a b d e f g p q r s t u h1 h2 h3 h4 h5 h6 = adds_5 o a b d e g p q r s (t ++ u) h1 h2 h3 h4 (h6 ∙ ap (λ x. x ++ u) h5 ∙ append_assoc e t u)

-- ---- a list

-- One more of a list
pub flat_more : {X : Type 0} (bytes : X → List ℕ) (xs : List X) (i : ℕ) (x : X) (start out now : List ℕ) → i < length xs → x ≡ get_or xs i x → now ≡ out ++ bytes x
    → out ≡ start ++ flat_map bytes (take i xs) → now ≡ start ++ flat_map bytes (take (i + 1) xs)
flat_more bytes xs i x start out now less is next so_far =
    let one : take (i + 1) xs ≡ take i xs ++ x ∷ [] = take_more xs i x less ∙ ap (λ y. take i xs ++ y ∷ []) (sym is) in
    next ∙ ap (λ t. t ++ bytes x) so_far ∙ append_assoc start (flat_map bytes (take i xs)) (bytes x)
    ∙ ap (λ t. start ++ t) (sym (ap (flat_map bytes) one ∙ flat_map-append bytes (take i xs) (x ∷ []) ∙ ap (λ t. flat_map bytes (take i xs) ++ t) (flat_map-cons bytes x [] ∙ append-nil (bytes x))))

-- ---- the same thing by another name

pub same_end : {X : Type 0} (bytes : X → List ℕ) (out now : List ℕ) (x y : X) → x ≡ y → now ≡ out ++ bytes x → now ≡ out ++ bytes y
same_end bytes out now x y same is = is ∙ ap (λ z. out ++ bytes z) same
