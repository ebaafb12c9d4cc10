-- The bytes of what a format says: where they are known for what it can say, they are those that spell it.
use Rattle.std.proofs.Common.{◌≡◌, ◌∙◌, ℕ, zero, suc, ◌+◌, List, [], ◌∷◌, ◌++◌, length, append-nil, append_assoc, length-append, refl, sym, ap, subst, arith}
use Rattle.std.specs.Prelude.{⊤}
use Rattle.std.specs.List.{flat_map}
use Rattle.std.proofs.lemmas.Grind.{flat_map-append}
use Rattle.std.proofs.lemmas.List.Concat.{flat_map-cons}
use Rattle.psy_image.specs.Bytes.{list_bytes, number_bytes, paired_bytes}
use Rattle.psy_image.specs.Fields.{Field, Number, Signed, Name, Opcode, These, End, Fits, Value, spelling, Takes}
use Rattle.psy_image.specs.Formats.{Format, Done, Then, Here, Refuse, Spells, ◌>>=◌, times}
use Rattle.psy_image.specs.Formats.Spells.{done, then_, here}
use Rattle.psy_image.specs.Images.{counted}

-- Behind these bytes, P holds of all that the format can say with the bytes that spell it.
abbrev pub Prints : {A : Type 0} → (A → List ℕ → Type 0) → Format A → List ℕ → Type 0
Prints P (Done a) text = P a text
Prints P (Then f more) text = (v : Value f) → Fits f v → Prints P (more v) (text ++ spelling f v)
Prints P (Here more) text = (left : ℕ) → Prints P (more left) text
Prints P (Refuse left) text = ⊤

pub prints_then : {A B : Type 0} (P : A → List ℕ → Type 0) (Q : B → List ℕ → Type 0) (F : Format A) (next : A → Format B) (text : List ℕ) → Prints P F text → ((a : A) (now : List ℕ) → P a now → Prints Q (next a) now) → Prints Q (F >>= next) text
prints_then P Q (Done a) next text h g = g a text h
prints_then P Q (Then f more) next text h g = λ v fits. prints_then P Q (more v) next (text ++ spelling f v) (h v fits) g
prints_then P Q (Here more) next text h g = λ left. prints_then P Q (more left) next text (h left) g
prints_then P Q (Refuse left) next text h g = tt

pub weaker : {A : Type 0} (P Q : A → List ℕ → Type 0) (F : Format A) (text : List ℕ) → Prints P F text → ((a : A) (now : List ℕ) → P a now → Q a now) → Prints Q F text
weaker P Q (Done a) text h g = g a text h
weaker P Q (Then f more) text h g = λ v fits. weaker P Q (more v) (text ++ spelling f v) (h v fits) g
weaker P Q (Here more) text h g = λ left. weaker P Q (more left) text (h left) g
weaker P Q (Refuse left) text h g = tt

-- ---- what is spelled has these bytes

takes_spelling : (f : Field) (v : Value f) (bytes rest : List ℕ) → Takes f v bytes rest → (bytes ≡ spelling f v ++ rest) × Fits f v
takes_spelling (Number least most) v bytes rest t = t
takes_spelling Signed v bytes rest t = t
takes_spelling (Name earlier) v bytes rest t = t
takes_spelling Opcode v bytes rest t = t
takes_spelling (These expected) v bytes rest t = t
takes_spelling End v bytes rest t = (t.0 ∙ sym t.1, tt)

pub printed : {A : Type 0} (P : A → List ℕ → Type 0) (F : Format A) (text bytes : List ℕ) (a : A) (rest : List ℕ) → Prints P F text → Spells F bytes a rest
    → (more : List ℕ) × (bytes ≡ more ++ rest) × P a (text ++ more)
printed P F text bytes a rest h (done _ _) = ([], refl, subst (P a) (sym (append-nil text)) h)
printed P F text bytes a rest h (then_ f more v _ middle _ _ takes inner) =
    let (whole, fits) = takes_spelling f v bytes middle takes in
    let (others, is, holds) = printed P (more v) (text ++ spelling f v) middle a rest (h v fits) inner in
    (spelling f v ++ others, whole ∙ ap (λ xs. spelling f v ++ xs) is ∙ sym (append_assoc (spelling f v) others rest), subst (P a) (append_assoc text (spelling f v) others) holds)
printed P F text bytes a rest h (here more _ _ _ inner) = printed P (more (length bytes)) text bytes a rest (h (length bytes)) inner

-- ---- steps

pub prints_times : {S : Type 0} (I : ℕ → S → List ℕ → Type 0) (step : S → Format S) (k i : ℕ) (s : S) (text : List ℕ) → I i s text
    → ((j : ℕ) (t : S) (now : List ℕ) → I j t now → Prints (I (suc j)) (step t) now) → Prints (I (k + i)) (times k step s) text
unfolding times
prints_times I step zero i s text h more = let same : i ≡ 0 + i = omega arith in subst (λ n. I n s text) same h
prints_times I step (suc k) i s text h more =
    let same : k + suc i ≡ suc k + i = omega arith in
    subst (λ n. Prints (I n) (step s >>= times k step) text) same
    (prints_then (I (suc i)) (I (k + suc i)) (step s) (times k step) text (more i s text h) (λ t now g. prints_times I step k (suc i) t now g more))

-- A step adds one to a list, and the bytes of that one.
abbrev pub AddsOne : {S X : Type 0} → (S → List X) → (X → List ℕ) → S → List ℕ → S → List ℕ → Type 0
AddsOne {S} {X} list bytes s text t now = (x : X) × (list t ≡ list s ++ x ∷ []) × (now ≡ text ++ bytes x)

abbrev Listed : {S X : Type 0} → (S → List X) → (X → List ℕ) → List ℕ → ℕ → S → List ℕ → Type 0
Listed list bytes text i s now = (now ≡ text ++ flat_map bytes (list s)) × (length (list s) ≡ i)

listed_more : {S X : Type 0} (list : S → List X) (bytes : X → List ℕ) (text : List ℕ) (i : ℕ) (s t : S) (now after : List ℕ) → Listed list bytes text i s now → AddsOne list bytes s now t after → Listed list bytes text (suc i) t after
listed_more list bytes text i s t now after (is, count) (x, more, next) = (
  next ∙ ap (λ xs. xs ++ bytes x) is ∙ append_assoc text (flat_map bytes (list s)) (bytes x)
      ∙ ap (λ xs. text ++ xs) (sym (flat_map-append bytes (list s) (x ∷ []) ∙ ap (λ xs. flat_map bytes (list s) ++ xs) (flat_map-cons bytes x [] ∙ append-nil (bytes x))) ∙ ap (flat_map bytes) (sym more)),
  ap length more ∙ length-append (list s) (x ∷ []) ∙ omega (arith, count),
)

-- A list that grows by one a step
pub prints_counted : {S X : Type 0} (list : S → List X) (bytes : X → List ℕ) (most : ℕ) (step : S → Format S) (s : S) (text : List ℕ) → list s ≡ []
    → ((t : S) (now : List ℕ) → Prints (AddsOne list bytes t now) (step t) now) → Prints (λ t now. now ≡ text ++ list_bytes bytes (list t)) (counted most step s) text
prints_counted list bytes most step s text none more = λ count fits.
    weaker (Listed list bytes (text ++ number_bytes count) (count + 0)) (λ t now. now ≡ text ++ list_bytes bytes (list t)) (times count step s) (text ++ number_bytes count)
    (prints_times (Listed list bytes (text ++ number_bytes count)) step count 0 s (text ++ number_bytes count)
    (sym (ap (λ xs. (text ++ number_bytes count) ++ flat_map bytes xs) none ∙ append-nil (text ++ number_bytes count)), ap length none)
    (λ j t now h. weaker (AddsOne list bytes t now) (Listed list bytes (text ++ number_bytes count) (suc j)) (step t) now (more t now)
    (λ u after g. listed_more list bytes (text ++ number_bytes count) j t u now after h g)))
    (λ t now h. whole count t now h)
  where
    whole : (count : ℕ) (t : _) (now : List ℕ) → Listed list bytes (text ++ number_bytes count) (count + 0) t now → now ≡ text ++ list_bytes bytes (list t)
    whole count t now (is, many) =
        let same : count ≡ length (list t) = omega (arith, many) in
        is ∙ append_assoc text (number_bytes count) (flat_map bytes (list t)) ∙ ap (λ n. text ++ (number_bytes n ++ flat_map bytes (list t))) same

-- ---- two lists that grow side by side

-- A step adds one to each of two lists, and the bytes of both.
abbrev pub AddsPair : {S X Y : Type 0} → (S → List X) → (S → List Y) → (X → Y → List ℕ) → S → List ℕ → S → List ℕ → Type 0
AddsPair {S} {X} {Y} firsts seconds bytes s text t now =
    (x : X) × (y : Y) × (firsts t ≡ firsts s ++ x ∷ []) × (seconds t ≡ seconds s ++ y ∷ []) × (now ≡ text ++ bytes x y)

abbrev pub Paired : {S X Y : Type 0} → (S → List X) → (S → List Y) → (X → Y → List ℕ) → List ℕ → ℕ → S → List ℕ → Type 0
Paired firsts seconds bytes text i s now = (now ≡ text ++ paired_bytes bytes (firsts s) (seconds s)) × (length (firsts s) ≡ i) × (length (seconds s) ≡ i)

paired_push : {X Y : Type 0} (bytes : X → Y → List ℕ) (xs : List X) (ys : List Y) (x : X) (y : Y) → length xs ≡ length ys → paired_bytes bytes (xs ++ x ∷ []) (ys ++ y ∷ []) ≡ paired_bytes bytes xs ys ++ bytes x y
paired_push bytes [] [] x y e = append-nil (bytes x y)
paired_push bytes [] (b ∷ ys) x y e = absurd (omega (arith, e))
paired_push bytes (a ∷ xs) [] x y e = absurd (omega (arith, e))
paired_push bytes (a ∷ xs) (b ∷ ys) x y e = ap (λ t. bytes a b ++ t) (paired_push bytes xs ys x y (omega (arith, e))) ∙ sym (append_assoc (bytes a b) (paired_bytes bytes xs ys) (bytes x y))

paired_more : {S X Y : Type 0} (firsts : S → List X) (seconds : S → List Y) (bytes : X → Y → List ℕ) (text : List ℕ) (i : ℕ) (s t : S) (now after : List ℕ)
    → Paired firsts seconds bytes text i s now → AddsPair firsts seconds bytes s now t after → Paired firsts seconds bytes text (suc i) t after
paired_more firsts seconds bytes text i s t now after (is, many, as_many) (x, y, first, second, next) = (
  next ∙ ap (λ xs. xs ++ bytes x y) is ∙ append_assoc text (paired_bytes bytes (firsts s) (seconds s)) (bytes x y)
      ∙ ap (λ xs. text ++ xs) (sym (paired_push bytes (firsts s) (seconds s) x y (many ∙ sym as_many)))
      ∙ ap (λ xs. text ++ paired_bytes bytes xs (seconds s ++ y ∷ [])) (sym first) ∙ ap (λ ys. text ++ paired_bytes bytes (firsts t) ys) (sym second),
  ap length first ∙ length-append (firsts s) (x ∷ []) ∙ omega (arith, many),
  ap length second ∙ length-append (seconds s) (y ∷ []) ∙ omega (arith, as_many),
)

-- Steps that add to both
pub prints_paired : {S X Y : Type 0} (firsts : S → List X) (seconds : S → List Y) (bytes : X → Y → List ℕ) (step : S → Format S) (k i : ℕ) (s : S) (text now : List ℕ)
    → Paired firsts seconds bytes text i s now → ((t : S) (before : List ℕ) → Prints (AddsPair firsts seconds bytes t before) (step t) before)
    → Prints (Paired firsts seconds bytes text (k + i)) (times k step s) now
prints_paired firsts seconds bytes step k i s text now h more =
    prints_times (Paired firsts seconds bytes text) step k i s now h (λ j t before g.
    weaker (AddsPair firsts seconds bytes t before) (Paired firsts seconds bytes text (suc j)) (step t) before (more t before)
    (λ u after a. paired_more firsts seconds bytes text j t u before after g a))
