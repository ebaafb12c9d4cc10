-- What is read is spelled by its bytes, and has the shape that its form asks for.
use Rattle.std.proofs.Common.{◌≡◌, ◌∙◌, ℕ, zero, suc, ◌+◌, ◌^◌, ◌<◌, ◌≤◌, inl, inr, Bool, true, false, ltb, List, [], ◌∷◌, ◌++◌, append-nil, append_assoc, get_or, map, replicate, length, take, drop, Option, Some, None, Result, Ok, refl, sym, ap, subst, arith}
use Rattle.std.specs.Prelude.{⊤, ℤ, FitsSigned, slice_get}
use Rattle.std.specs.Int.{w32, w64, cast_signed, from_le_bytes}
use Rattle.std.specs.List.{All, flat_map}
use Rattle.std.proofs.lemmas.Bool.{cases_lt, ltb-false}
use Rattle.std.proofs.lemmas.Int.{of_z-to_z}
use Rattle.std.proofs.lemmas.List.{get_or-drop, get_or-take, get_or_past, length-take, take-append-drop}
use Rattle.std.proofs.lemmas.List.Concat.{flat_map-cons}
use Rattle.std.proofs.lemmas.List.Elements.{All-cons, All-nil}
use Rattle.std.proofs.lemmas.Nat.{le_bytes_4, le_bytes_8}
use mir.ValLaws.{to_z-Fits}
use Rattle.psy_snap.specs.declared.fault.ReadError.{ReadError}
use Rattle.psy_snap.specs.Bytes.{cell_bytes, long_bytes, number_bytes, value_bytes}
use Rattle.psy_snap.specs.Cuts.{Ask, number_in, width_of}
use Rattle.psy_snap.specs.Ranges.{IfThere}
use Rattle.psy_snap.specs.Reading.{each_at, field_at, said_at}
use Rattle.psy_snap.specs.Shapes.{AreOf}
use Rattle.psy_snap.proofs.FiguresRead.{optional}
use Rattle.psy_snap.proofs.Parts.{field_by}
use Rattle.psy_snap.proofs.Steps.{go_on_ok, ok_is, said_ok}
use Rattle.psy_snap.proofs.Wholes.{good_true}

-- ---- bytes

-- Each is a byte.
abbrev pub AreBytes : List ℕ → Type 0
AreBytes bytes = (i : ℕ) → get_or bytes i 0 < 256

pub bytes_drop : (n : ℕ) (bytes : List ℕ) → AreBytes bytes → AreBytes (drop n bytes)
bytes_drop n bytes h i = rw get_or-drop (h (n + i))

bytes_take : (n : ℕ) (bytes : List ℕ) → AreBytes bytes → AreBytes (take n bytes)
bytes_take n bytes h i =
    elim (cases_lt i n) [
      | inl lt ↦ rw (get_or-take n bytes i 0 lt) (h i)
      | inr le ↦ rw (get_or_past (take n bytes) i 0 (omega (arith, length-take n bytes))) (omega arith)
    ]

-- The bytes begin with these, and go on with the rest.
abbrev pub Reads : List ℕ → List ℕ → List ℕ → Type 0
Reads bytes front rest = (bytes ≡ front ++ rest) × AreBytes rest

pub reads_none : (bytes : List ℕ) → AreBytes bytes → Reads bytes [] bytes
reads_none bytes are = (refl, are)

pub reads_then : (bytes mid rest front more : List ℕ) → Reads bytes front mid → Reads mid more rest → Reads bytes (front ++ more) rest
reads_then bytes mid rest front more first second =
    (first.0 ∙ ap (λ bs. front ++ bs) second.0 ∙ sym (append_assoc front more rest), second.1)

-- ---- fields

-- A number's bytes by what is asked
abbrev pub bytes_as : Bool → ℕ → List ℕ
bytes_as true n = long_bytes n
bytes_as false n = number_bytes n

abbrev pub most_as : Bool → ℕ
most_as true = 2 ^ 64
most_as false = 2 ^ 32

number_read : (long : Bool) (bytes : List ℕ) → AreBytes bytes → width_of long ≤ length bytes → (bytes_as long (number_in long bytes) ≡ take (width_of long) bytes) × (number_in long bytes < most_as long)
unfolding number_bytes long_bytes
number_read true bytes are there =
    (le_bytes_8 (take 8 bytes) (from_le_bytes w64 (take 8 bytes)) (omega (arith, there, length-take 8 bytes)) (bytes_take 8 bytes are) refl, small (take 8 bytes) (bytes_take 8 bytes are))
  where
    small : (xs : List ℕ) → AreBytes xs → from_le_bytes w64 xs < 2 ^ 64
    small xs fits = omega (arith, fits 0, fits 1, fits 2, fits 3, fits 4, fits 5, fits 6, fits 7)
number_read false bytes are there =
    (le_bytes_4 (take 4 bytes) (from_le_bytes w32 (take 4 bytes)) (omega (arith, there, length-take 4 bytes)) (bytes_take 4 bytes are) refl, small (take 4 bytes) (bytes_take 4 bytes are))
  where
    small : (xs : List ℕ) → AreBytes xs → from_le_bytes w32 xs < 2 ^ 32
    small xs fits = omega (arith, fits 0, fits 1, fits 2, fits 3)

reads_by : (short : Bool) (ask : Ask) (bytes : List ℕ) (n : ℕ) (rest : List ℕ) → ltb (length bytes) (width_of ask.long) ≡ short → AreBytes bytes → field_by short ask bytes ≡ Ok (n, rest)
    → Reads bytes (bytes_as ask.long n) rest × (n < most_as ask.long)
reads_by true ask bytes n rest short are e = absurd cc
reads_by false ask bytes n rest short are e =
    let (good, is) = good_true (ask.range (number_in ask.long bytes)) _ _ (length bytes) e in
    let (front, small) = number_read ask.long bytes are (ltb-false _ _ short) in
    subst (λ (p : ℕ × List ℕ). Reads bytes (bytes_as ask.long p.0) p.1 × (p.0 < most_as ask.long)) is
    ((sym (take-append-drop (width_of ask.long) bytes) ∙ ap (λ bs. bs ++ drop (width_of ask.long) bytes) (sym front), bytes_drop (width_of ask.long) bytes are), small)

pub field_reads : (ask : Ask) (bytes : List ℕ) (n : ℕ) (rest : List ℕ) → AreBytes bytes → field_at ask bytes ≡ Ok (n, rest) → Reads bytes (bytes_as ask.long n) rest × (n < most_as ask.long)
unfolding field_at
field_reads ask bytes n rest are e = reads_by (ltb (length bytes) (width_of ask.long)) ask bytes n rest refl are e

-- ---- lists of parts

-- Each of the one list has what belongs to it in the other, and both have as many.
abbrev pub Pairs : {F X : Type 0} → (F → X → Type 0) → List F → List X → Type 0
Pairs Has [] [] = ⊤
Pairs Has [] (x ∷ xs) = ⊥
Pairs Has (form ∷ forms) [] = ⊥
Pairs Has (form ∷ forms) (x ∷ xs) = Has form x × Pairs Has forms xs

pub pairs_count : {F X : Type 0} (Has : F → X → Type 0) (forms : List F) (xs : List X) → Pairs Has forms xs → length xs ≡ length forms
pairs_count Has [] [] are = refl
pairs_count Has [] (x ∷ xs) are = absurd are
pairs_count Has (form ∷ forms) [] are = absurd are
pairs_count Has (form ∷ forms) (x ∷ xs) are = ap suc (pairs_count Has forms xs are.1)

some_is : {A : Type 0} (x y : A) → Some x ≡ Some y → x ≡ y
some_is x y e = cc

pairs_each : {F X : Type 0} (Has : F → X → Type 0) (forms : List F) (xs : List X) → Pairs Has forms xs → (i : ℕ) (form : F) (x : X) → slice_get forms i ≡ Some form
    → slice_get xs i ≡ Some x → Has form x
pairs_each Has [] xs are i form x first second = absurd cc
pairs_each Has (f ∷ forms) [] are i form x first second = absurd are
pairs_each Has (f ∷ forms) (y ∷ xs) are zero form x first second = subst (λ g. Has g x) (some_is f form first) (subst (λ z. Has f z) (some_is y x second) are.0)
pairs_each Has (f ∷ forms) (y ∷ xs) are (suc i) form x first second = pairs_each Has forms xs are.1 i form x first second

pub are_of : {F X : Type 0} (Has : F → X → Type 0) (forms : List F) (xs : List X) → Pairs Has forms xs → AreOf Has forms xs
are_of Has forms xs are = record { count = pairs_count Has forms xs are; each = pairs_each Has forms xs are }

abbrev pub AllAre : {F : Type 0} → (F → Type 0) → List F → Type 0
AllAre Good [] = ⊤
AllAre Good (form ∷ forms) = Good form × AllAre Good forms

-- A part that is read, behind others
pub record Adds {F X : Type 0} (Has : F → X → Type 0) (spell : X → List ℕ) (form : F) (xs ys : List X) (bytes rest : List ℕ) : Type 0 where
  pub part : X
  pub behind : ys ≡ xs ++ part ∷ []
  pub has : Has form part
  pub reads : Reads bytes (spell part) rest

-- Some parts that are read, behind others
pub record AddsAll {F X : Type 0} (Has : F → X → Type 0) (spell : X → List ℕ) (forms : List F) (xs ys : List X) (bytes rest : List ℕ) : Type 0 where
  pub parts : List X
  pub behind : ys ≡ xs ++ parts
  pub have : Pairs Has forms parts
  pub reads : Reads bytes (flat_map spell parts) rest

pub each_reads : {F X : Type 0} (Has : F → X → Type 0) (spell : X → List ℕ) (Good : F → Type 0) (step : F → List X → List ℕ → Result (List X × List ℕ) ReadError)
    → ((form : F) (xs ys : List X) (bytes rest : List ℕ) → Good form → AreBytes bytes → step form xs bytes ≡ Ok (ys, rest) → Adds Has spell form xs ys bytes rest)
    → (forms : List F) (xs ys : List X) (bytes rest : List ℕ) → AllAre Good forms → AreBytes bytes → each_at step forms xs bytes ≡ Ok (ys, rest) → AddsAll Has spell forms xs ys bytes rest
unfolding each_at
each_reads Has spell Good step one [] xs ys bytes rest good are e =
    let same : (xs, bytes) ≡ (ys, rest) = ok_is (xs, bytes) (ys, rest) e in
    let rest_is : bytes ≡ rest = ap (λ p. p.1) same in
    record { parts = []; behind = sym (ap (λ p. p.0) same) ∙ sym (append-nil xs); have = tt; reads = (rest_is, subst AreBytes rest_is are) }
each_reads Has spell Good step one (form ∷ forms) xs ys bytes rest good are e =
    let (zs, mid, first, second) = go_on_ok (step form xs bytes) (λ t more. each_at step forms t more) ys rest e in
    let it = one form xs zs bytes mid good.0 are first in
    let them = each_reads Has spell Good step one forms zs ys mid rest good.1 it.reads.1 second in
    record {
      parts = it.part ∷ them.parts;
      behind = them.behind ∙ ap (λ ts. ts ++ them.parts) it.behind ∙ append_assoc xs (it.part ∷ []) them.parts;
      have = (it.has, them.have);
      reads = subst (λ bs. Reads bytes bs rest) (sym (flat_map-cons spell it.part them.parts)) (reads_then bytes mid rest (spell it.part) (flat_map spell them.parts) it.reads them.reads);
    }

-- ---- values and cells

-- What holds of each that was read holds of all of them.
pub pairs_all : {F X : Type 0} (P : X → Type 0) (forms : List F) (xs : List X) → Pairs (λ form x. P x) forms xs → All P xs
pairs_all P [] [] are = All-nil P
pairs_all P [] (x ∷ xs) are = absurd are
pairs_all P (form ∷ forms) [] are = absurd are
pairs_all P (form ∷ forms) (x ∷ xs) are = All-cons P x xs are.0 (pairs_all P forms xs are.1)

abbrev pub IsLong : Bool → Ask → Type 0
IsLong long ask = ask.long ≡ long

said_adds : {X : Type 0} (spell : X → List ℕ) (P : X → Type 0) (say : ℕ → X) (long : Bool) → ((n : ℕ) → n < most_as long → spell (say n) ≡ bytes_as long n)
    → ((n : ℕ) → n < most_as long → P (say n)) → (ask : Ask) (xs ys : List X) (bytes rest : List ℕ) → IsLong long ask → AreBytes bytes → said_at say ask xs bytes ≡ Ok (ys, rest)
    → Adds (λ ask x. P x) spell ask xs ys bytes rest
said_adds spell P say long spells fits ask xs ys bytes rest wide are e =
    let (n, read, said) = said_ok (field_at ask bytes) (λ n. xs ++ say n ∷ []) ys rest e in
    let (reads, small) = field_reads ask bytes n rest are read in
    let below : n < most_as long = subst (λ b. n < most_as b) wide small in
    let front : bytes_as ask.long n ≡ spell (say n) = ap (λ b. bytes_as b n) wide ∙ sym (spells n below) in
    record { part = say n; behind = sym said; has = fits n below; reads = subst (λ bs. Reads bytes bs rest) front reads }

value_spelled : (n : ℕ) → n < most_as false → value_bytes (cast_signed w32 n) ≡ bytes_as false n
value_spelled n small = ap number_bytes (of_z-to_z w32 n small)

cell_spelled : (n : ℕ) → n < most_as true → cell_bytes (cast_signed w64 n) ≡ bytes_as true n
cell_spelled n small = ap long_bytes (of_z-to_z w64 n small)

-- A number with its sign is in its range.
value_fits : (n : ℕ) → n < most_as false → FitsSigned w32 (cast_signed w32 n)
value_fits n small = to_z-Fits w32 n (record { fits = small })

cell_fits : (n : ℕ) → n < most_as true → FitsSigned w64 (cast_signed w64 n)
cell_fits n small = to_z-Fits w64 n (record { fits = small })

-- As many as were asked for, of which each is so, spelled by their bytes
pub record Spells {X : Type 0} (spell : X → List ℕ) (P : X → Type 0) (count : ℕ) (xs : List X) (bytes rest : List ℕ) : Type 0 where
  pub count_is : length xs ≡ count
  pub all : All P xs
  pub reads : Reads bytes (flat_map spell xs) rest

spells_all : {X : Type 0} (spell : X → List ℕ) (P : X → Type 0) (asks : List Ask) (xs : List X) (bytes rest : List ℕ) → AddsAll (λ ask x. P x) spell asks [] xs bytes rest
    → Spells spell P (length asks) xs bytes rest
spells_all spell P asks xs bytes rest all = record {
  count_is = ap length all.behind ∙ pairs_count (λ ask x. P x) asks all.parts all.have;
  all = subst (All P) (sym all.behind) (pairs_all P asks all.parts all.have);
  reads = subst (λ ys. Reads bytes (flat_map spell ys) rest) (sym all.behind) all.reads;
}

pub values_spelled : (asks : List Ask) (values : List ℤ) (bytes rest : List ℕ) → AllAre (IsLong false) asks → AreBytes bytes → each_at (said_at (cast_signed w32)) asks [] bytes ≡ Ok (values, rest)
    → Spells value_bytes (FitsSigned w32) (length asks) values bytes rest
values_spelled asks values bytes rest good are e =
    spells_all value_bytes (FitsSigned w32) asks values bytes rest
    (each_reads (λ ask z. FitsSigned w32 z) value_bytes (IsLong false) (said_at (cast_signed w32)) (said_adds value_bytes (FitsSigned w32) (cast_signed w32) false value_spelled value_fits)
    asks [] values bytes rest good are e)

pub cells_spelled : (asks : List Ask) (cells : List ℤ) (bytes rest : List ℕ) → AllAre (IsLong true) asks → AreBytes bytes → each_at (said_at (cast_signed w64)) asks [] bytes ≡ Ok (cells, rest)
    → Spells cell_bytes (FitsSigned w64) (length asks) cells bytes rest
cells_spelled asks cells bytes rest good are e =
    spells_all cell_bytes (FitsSigned w64) asks cells bytes rest
    (each_reads (λ ask z. FitsSigned w64 z) cell_bytes (IsLong true) (said_at (cast_signed w64)) (said_adds cell_bytes (FitsSigned w64) (cast_signed w64) true cell_spelled cell_fits)
    asks [] cells bytes rest good are e)

pub all_mapped : {Y F : Type 0} (Good : F → Type 0) (f : Y → F) (ys : List Y) → ((y : Y) → Good (f y)) → AllAre Good (map f ys)
all_mapped Good f [] good = tt
all_mapped Good f (y ∷ ys) good = (good y, all_mapped Good f ys good)

pub all_replicated : {F : Type 0} (Good : F → Type 0) (form : F) (count : ℕ) → Good form → AllAre Good (replicate count form)
all_replicated Good form zero good = tt
all_replicated Good form (suc count) good = (good, all_replicated Good form count good)

pub all_forms : {F : Type 0} (Good : F → Type 0) (forms : List F) → ((form : F) → Good form) → AllAre Good forms
all_forms Good [] good = tt
all_forms Good (form ∷ forms) good = (good form, all_forms Good forms good)

-- ---- a number behind a flag of 1

-- A 0, or a 1 and the number that there is
abbrev pub flagged_bytes : Bool → Option ℕ → List ℕ
flagged_bytes long None = number_bytes 0
flagged_bytes long (Some n) = number_bytes 1 ++ bytes_as long n

pub flagged_reads : (ask : Ask) (flag : ℕ) (bytes mid rest : List ℕ) (told : Option ℕ) → flag ≤ 1 → Reads bytes (number_bytes flag) mid → optional ask flag mid ≡ Ok (told, rest)
    → Reads bytes (flagged_bytes ask.long told) rest × IfThere (λ n. n < most_as ask.long) told
flagged_reads ask zero bytes mid rest told few reads e =
    let same : (None, mid) ≡ (told, rest) = ok_is (None, mid) (told, rest) e in
    subst (λ (p : Option ℕ × List ℕ). Reads bytes (flagged_bytes ask.long p.0) p.1 × IfThere (λ n. n < most_as ask.long) p.0) same (reads, tt)
flagged_reads ask (suc zero) bytes mid rest told few reads e =
    let (n, read, said) = said_ok (field_at ask mid) (λ n. Some n) told rest e in
    let (behind, small) = field_reads ask mid n rest reads.1 read in
    subst (λ o. Reads bytes (flagged_bytes ask.long o) rest × IfThere (λ n. n < most_as ask.long) o) said
    (reads_then bytes mid rest (number_bytes 1) (bytes_as ask.long n) reads behind, small)
flagged_reads ask (suc (suc flag)) bytes mid rest told few reads e = absurd (omega (arith, few))
