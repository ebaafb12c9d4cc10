-- Bytes that begin with what a format says: part by part, with the bytes behind it.
use Rattle.std.proofs.Common.{◌≡◌, ◌∙◌, ℕ, ℤ, ◌^◌, ◌<◌, ◌≤◌, List, [], ◌∷◌, ◌++◌, length, append-nil, append_assoc, refl, sym, ap, subst, arith}
use Rattle.std.specs.Prelude.{FitsSigned, is_some, true, false, bytes_eq, ⊤}
use Rattle.std.specs.Int.{w32}
use Rattle.std.specs.List.{flat_map, list_any}
use Rattle.psy_arith.specs.Tables.{row_of}
use Rattle.psy_code.specs.Rows.{rows}
use Rattle.psy_image.specs.Bytes.{list_bytes, name_bytes, number_bytes, value_bytes}
use Rattle.psy_image.specs.Fields.{Number, Signed, Name, Opcode, These, End}
use Rattle.psy_image.specs.Formats.{Format, Done, Then, Here, Spells, ◌>>=◌, times}
use Rattle.psy_image.specs.Formats.Spells.{done, then_, here}
use Rattle.psy_image.specs.Images.{counted}
use Rattle.psy_image.specs.Names.{is_name}

-- The bytes begin with what the format says of something; P holds of it and of the bytes behind it.
abbrev pub Gets : {A : Type 0} → (A → List ℕ → Type 0) → Format A → List ℕ → Type 0
Gets {A} P F bytes = (a : A) × (rest : List ℕ) × Spells F bytes a rest × P a rest

-- This is what is said, and these are the bytes behind it.
abbrev pub Says : {A : Type 0} → A → List ℕ → A → List ℕ → Type 0
Says a rest b after = (b ≡ a) × (after ≡ rest)

-- ---- one part behind another

spells_then : {A B : Type 0} (F : Format A) (next : A → Format B) (bytes : List ℕ) (a : A) (middle : List ℕ) (b : B) (rest : List ℕ) → Spells F bytes a middle → Spells (next a) middle b rest → Spells (F >>= next) bytes b rest
spells_then F next bytes a middle b rest (done _ _) behind = behind
spells_then F next bytes a middle b rest (then_ f more v _ between _ _ takes inner) behind =
    then_ f (λ w. more w >>= next) v bytes between b rest takes (spells_then (more v) next between a middle b rest inner behind)
spells_then F next bytes a middle b rest (here more _ _ _ inner) behind =
    here (λ left. more left >>= next) bytes b rest (spells_then (more (length bytes)) next bytes a middle b rest inner behind)

pub gets_then : {A B : Type 0} (P : A → List ℕ → Type 0) (Q : B → List ℕ → Type 0) (F : Format A) (next : A → Format B) (bytes : List ℕ) → Gets P F bytes
    → ((a : A) (rest : List ℕ) → P a rest → Gets Q (next a) rest) → Gets Q (F >>= next) bytes
gets_then P Q F next bytes (a, middle, spells, holds) each =
    let (b, rest, behind, is) = each a middle holds in
    (b, rest, spells_then F next bytes a middle b rest spells behind, is)

pub gets_done : {A : Type 0} (P : A → List ℕ → Type 0) (a : A) (bytes : List ℕ) → P a bytes → Gets P (Done a) bytes
gets_done P a bytes h = (a, bytes, done a bytes, h)

pub gets_here : {A : Type 0} (P : A → List ℕ → Type 0) (more : ℕ → Format A) (bytes : List ℕ) → Gets P (more (length bytes)) bytes → Gets P (Here more) bytes
gets_here P more bytes (a, rest, spells, h) = (a, rest, here more bytes a rest spells, h)

pub gets_weaker : {A : Type 0} (P Q : A → List ℕ → Type 0) (F : Format A) (bytes : List ℕ) → Gets P F bytes → ((a : A) (rest : List ℕ) → P a rest → Q a rest) → Gets Q F bytes
gets_weaker P Q F bytes (a, rest, spells, h) weaker = (a, rest, spells, weaker a rest h)

-- The same bytes, in other words
pub gets_by : {A : Type 0} (P : A → List ℕ → Type 0) (F : Format A) (bytes others : List ℕ) → bytes ≡ others → Gets P F others → Gets P F bytes
gets_by P F bytes others is h = subst (Gets P F) (sym is) h

-- ---- fields

pub gets_number : {A : Type 0} (P : A → List ℕ → Type 0) (least most n : ℕ) (more : ℕ → Format A) (rest : List ℕ) → least ≤ n → n ≤ most → n < 2 ^ 32 → Gets P (more n) rest → Gets P (Then (Number least most) more) (number_bytes n ++ rest)
gets_number P least most n more rest low high small (a, behind, spells, h) =
    (a, behind, then_ (Number least most) more n (number_bytes n ++ rest) rest a behind (refl, (low, high, small)) spells, h)

pub gets_value : {A : Type 0} (P : A → List ℕ → Type 0) (z : ℤ) (more : ℤ → Format A) (rest : List ℕ) → FitsSigned w32 z → Gets P (more z) rest → Gets P (Then Signed more) (value_bytes z ++ rest)
gets_value P z more rest fits (a, behind, spells, h) = (a, behind, then_ Signed more z (value_bytes z ++ rest) rest a behind (refl, fits) spells, h)

pub gets_name : {A : Type 0} (P : A → List ℕ → Type 0) (earlier : List (List ℕ)) (name : List ℕ) (more : List ℕ → Format A) (rest : List ℕ) → is_name name ≡ true → list_any (bytes_eq name) earlier ≡ false
    → Gets P (more name) rest → Gets P (Then (Name earlier) more) (name_bytes name ++ rest)
gets_name P earlier name more rest good new (a, behind, spells, h) =
    (a, behind, then_ (Name earlier) more name (name_bytes name ++ rest) rest a behind (refl, (good, new)) spells, h)

pub gets_opcode : {A : Type 0} (P : A → List ℕ → Type 0) (byte : ℕ) (more : ℕ → Format A) (rest : List ℕ) → is_some (row_of byte rows) ≡ true → Gets P (more byte) rest → Gets P (Then Opcode more) (byte ∷ rest)
gets_opcode P byte more rest good (a, behind, spells, h) = (a, behind, then_ Opcode more byte (byte ∷ rest) rest a behind (refl, good) spells, h)

pub gets_these : {A : Type 0} (P : A → List ℕ → Type 0) (bytes : List ℕ) (more : ⊤ → Format A) (rest : List ℕ) → Gets P (more tt) rest → Gets P (Then (These bytes) more) (bytes ++ rest)
gets_these P bytes more rest (a, behind, spells, h) = (a, behind, then_ (These bytes) more tt (bytes ++ rest) rest a behind (refl, tt {0}) spells, h)

pub gets_end : {A : Type 0} (P : A → List ℕ → Type 0) (more : ⊤ → Format A) → Gets P (more tt) [] → Gets P (Then End more) []
gets_end P more (a, behind, spells, h) = (a, behind, then_ End more tt [] [] a behind (refl, refl) spells, h)

-- ---- a list

-- The bytes of a list's members, each a step that adds one to what was read
pub gets_times : {S X : Type 0} (I : List X → S → Type 0) (bytes : X → List ℕ) (step : S → Format S) (whole before behind : List X) (s : S) (rest : List ℕ) → whole ≡ before ++ behind → I before s
    → ((so_far : List X) (x : X) (later : List X) (t : S) (after : List ℕ) → whole ≡ so_far ++ x ∷ later → I so_far t → Gets (λ u now. I (so_far ++ x ∷ []) u × (now ≡ after)) (step t) (bytes x ++ after))
    → Gets (λ u now. I whole u × (now ≡ rest)) (times (length behind) step s) (flat_map bytes behind ++ rest)
unfolding times
gets_times I bytes step whole before [] s rest is holds each = gets_done (λ u now. I whole u × (now ≡ rest)) s rest (subst (λ xs. I xs s) (sym (is ∙ append-nil before)) holds, refl)
gets_times I bytes step whole before (x ∷ behind) s rest is holds each =
    let after : List ℕ = flat_map bytes behind ++ rest in
    gets_by (λ u now. I whole u × (now ≡ rest)) (step s >>= times (length behind) step) (flat_map bytes (x ∷ behind) ++ rest) (bytes x ++ after) (append_assoc (bytes x) (flat_map bytes behind) rest)
    (gets_then (λ u now. I (before ++ x ∷ []) u × (now ≡ after)) (λ u now. I whole u × (now ≡ rest)) (step s) (times (length behind) step) (bytes x ++ after) (each before x behind s after is holds)
    (λ t now h. gets_by (λ u now. I whole u × (now ≡ rest)) (times (length behind) step t) now after h.1
    (gets_times I bytes step whole (before ++ x ∷ []) behind t rest (is ∙ sym (append_assoc before (x ∷ []) behind)) h.0 each)))

-- A count, and so many members
pub gets_counted : {S X : Type 0} (I : List X → S → Type 0) (bytes : X → List ℕ) (most : ℕ) (step : S → Format S) (xs : List X) (s : S) (rest : List ℕ) → length xs ≤ most → length xs < 2 ^ 32 → I [] s
    → ((so_far : List X) (x : X) (later : List X) (t : S) (after : List ℕ) → xs ≡ so_far ++ x ∷ later → I so_far t → Gets (λ u now. I (so_far ++ x ∷ []) u × (now ≡ after)) (step t) (bytes x ++ after))
    → Gets (λ u now. I xs u × (now ≡ rest)) (counted most step s) (list_bytes bytes xs ++ rest)
gets_counted I bytes most step xs s rest few small holds each =
    gets_by (λ u now. I xs u × (now ≡ rest)) (counted most step s) (list_bytes bytes xs ++ rest) (number_bytes (length xs) ++ (flat_map bytes xs ++ rest)) (append_assoc (number_bytes (length xs)) (flat_map bytes xs) rest)
    (gets_number (λ u now. I xs u × (now ≡ rest)) 0 most (length xs) _ (flat_map bytes xs ++ rest) (omega arith) few small (gets_times I bytes step xs [] xs s rest refl holds each))

-- ---- where the pieces stand

pub two : (a b r : List ℕ) → (a ++ b) ++ r ≡ a ++ (b ++ r)
two a b r = append_assoc a b r

pub three : (a b c r : List ℕ) → (a ++ (b ++ c)) ++ r ≡ a ++ (b ++ (c ++ r))
three a b c r = append_assoc a (b ++ c) r ∙ ap (λ xs. a ++ xs) (two b c r)

pub four : (a b c d r : List ℕ) → (a ++ (b ++ (c ++ d))) ++ r ≡ a ++ (b ++ (c ++ (d ++ r)))
four a b c d r = append_assoc a (b ++ (c ++ d)) r ∙ ap (λ xs. a ++ xs) (three b c d r)

pub five : (a b c d e r : List ℕ) → (a ++ (b ++ (c ++ (d ++ e)))) ++ r ≡ a ++ (b ++ (c ++ (d ++ (e ++ r))))
five a b c d e r = append_assoc a (b ++ (c ++ (d ++ e))) r ∙ ap (λ xs. a ++ xs) (four b c d e r)
