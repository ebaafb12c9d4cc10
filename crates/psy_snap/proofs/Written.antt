-- What is written, byte by byte.
use Rattle.std.proofs.Common.{◌≡◌, ◌∙◌, ℕ, zero, suc, ◌+◌, ◌<◌, ◌≤◌, ◌%◌, ◌^◌, List, [], ◌∷◌, ◌++◌, append-nil, append_assoc, length, drop, take, get_or, refl, sym, ap, arith}
use Rattle.std.specs.List.{flat_map}
use Rattle.std.proofs.lemmas.Grind.{flat_map-append}
use Rattle.std.proofs.lemmas.List.{take_more, length-append, take-append-drop}
use Rattle.std.proofs.lemmas.List.Concat.{flat_map-cons}
use Rattle.psy_snap.specs.Bytes.{number_bytes}

same_four : (a b c d e f g h : ℕ) → a ≡ e → b ≡ f → c ≡ g → d ≡ h → (a ∷ b ∷ c ∷ d ∷ []) ≡ (e ∷ f ∷ g ∷ h ∷ [])
same_four a b c d e f g h p q r s = cc

-- Four bytes have a number modulo 2 ^ 32.
pub low_bytes : (n : ℕ) → number_bytes (n % 2 ^ 32) ≡ number_bytes n
unfolding number_bytes
low_bytes n = same_four _ _ _ _ _ _ _ _ (omega arith) (omega arith) (omega arith) (omega arith)

-- The bytes of one more of a list
all_but : {X : Type 0} (bytes : X → List ℕ) (xs : List X) (i : ℕ) (x : X) → i < length xs → x ≡ get_or xs i x
    → flat_map bytes (take (i + 1) xs) ≡ flat_map bytes (take i xs) ++ bytes x
all_but bytes xs i x less is =
    let one : take (i + 1) xs ≡ take i xs ++ x ∷ [] = take_more xs i x less ∙ ap (λ y. take i xs ++ y ∷ []) (sym is) in
    ap (flat_map bytes) one ∙ flat_map-append bytes (take i xs) (x ∷ []) ∙ ap (λ t. flat_map bytes (take i xs) ++ t) (flat_map-cons bytes x [] ∙ append-nil (bytes x))

-- One more of a list is written.
pub flat_more : {X : Type 0} (bytes : X → List ℕ) (xs : List X) (i : ℕ) (x : X) (start out now : List ℕ) → i < length xs → x ≡ get_or xs i x → now ≡ out ++ bytes x
    → out ≡ start ++ flat_map bytes (take i xs) → now ≡ start ++ flat_map bytes (take (i + 1) xs)
flat_more bytes xs i x start out now less is next so_far =
    next ∙ ap (λ t. t ++ bytes x) so_far ∙ append_assoc start (flat_map bytes (take i xs)) (bytes x)
    ∙ ap (λ t. start ++ t) (sym (all_but bytes xs i x less is))

front_at_most : {X : Type 0} (bytes : X → List ℕ) (xs : List X) (n : ℕ) → length (flat_map bytes (take n xs)) ≤ length (flat_map bytes xs)
front_at_most bytes xs n =
    let parts : flat_map bytes xs ≡ flat_map bytes (take n xs) ++ flat_map bytes (drop n xs) =
    sym (ap (flat_map bytes) (take-append-drop n xs)) ∙ flat_map-append bytes (take n xs) (drop n xs) in
    omega (arith, ap length parts, length-append (flat_map bytes (take n xs)) (flat_map bytes (drop n xs)))

-- Where one more of a list passes a limit, so does the list.
pub flat_passes : {X : Type 0} (bytes : X → List ℕ) (xs : List X) (i : ℕ) (x : X) (start out : List ℕ) (limit : ℕ) → i < length xs → x ≡ get_or xs i x
    → out ≡ start ++ flat_map bytes (take i xs) → limit < length (out ++ bytes x) → limit < length (start ++ flat_map bytes xs)
flat_passes bytes xs i x start out limit less is so_far passes =
    let now = flat_more bytes xs i x start out (out ++ bytes x) less is refl so_far in
    omega (arith, passes, ap length now, length-append start (flat_map bytes (take (i + 1) xs)), length-append start (flat_map bytes xs), front_at_most bytes xs (i + 1))

get_or_same : {X : Type 0} (xs : List X) (i : ℕ) (d e : X) → i < length xs → get_or xs i d ≡ get_or xs i e
get_or_same [] i d e less = absurd (omega (arith, less))
get_or_same (x ∷ xs) zero d e less = refl
get_or_same (x ∷ xs) (suc i) d e less = get_or_same xs i d e (omega (arith, less))

-- The same of the member at a place
pub flat_passes_at : {X : Type 0} (bytes : X → List ℕ) (xs : List X) (i : ℕ) (d : X) (start out : List ℕ) (limit : ℕ) → i < length xs
    → out ≡ start ++ flat_map bytes (take i xs) → limit < length (out ++ bytes (get_or xs i d)) → limit < length (start ++ flat_map bytes xs)
flat_passes_at bytes xs i d start out limit less so_far passes =
    flat_passes bytes xs i (get_or xs i d) start out limit less (get_or_same xs i d (get_or xs i d) less) so_far passes
