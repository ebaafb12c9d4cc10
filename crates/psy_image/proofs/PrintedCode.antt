-- The bytes of instructions are those that spell them.
use Rattle.std.proofs.Common.{◌≡◌, ◌∙◌, ◌&&◌, ◌||◌, ℕ, zero, suc, ◌+◌, ◌-◌, ◌^◌, ◌<◌, Bool, true, false, cond, eqb, ltb, leb, List, [], ◌∷◌, ◌++◌, append_assoc, Option, Some, None, refl, sym, ap, subst, arith}
use Rattle.std.specs.Prelude.{IfSome, is_some}
use Rattle.std.specs.List.{find, list_all}
use Rattle.std.specs.Option.{option_or}
use Rattle.std.proofs.lemmas.Bool.{eqb-true, leb-true, ltb-true}
use Rattle.psy_lists.proofs.lemmas.Tests.{each_of_both}
use Rattle.psy_arith.specs.declared.table.Row.{Row}
use Rattle.psy_arith.specs.declared.width.Width.TheVariants as widths
use Rattle.psy_arith.specs.Tables.{row_of}
use Rattle.psy_code.specs.declared.instr.Instr.{Instr}
use Rattle.psy_code.specs.declared.instr.Instr.TheVariants as kinds
use Rattle.psy_code.specs.Rows.{byte_of, number_of_operator, rows}
use Rattle.psy_image.specs.Bytes.{instr_bytes, list_bytes, number_bytes, operand_bytes, value_bytes}
use Rattle.psy_image.specs.Formats.{Format}
use Rattle.psy_image.specs.Images.{instr, instrs}
use Rattle.psy_image.specs.Instructions.{binary_of, instruction, operands, operator_of, or_more, pushed, unary_of, with_none, with_one, with_two}
use Rattle.psy_image.proofs.Prints.{AddsOne, Prints, prints_counted, prints_then}

-- If there is an instruction, it has this byte and these operands.
abbrev Good : ℕ → List ℕ → Option Instr → Type 0
Good byte text o = IfSome o (λ i. (byte_of i ≡ byte) × (operand_bytes i ≡ text))

-- One row of a chain
row : (byte k : ℕ) (text : List ℕ) (i : Instr) (others : Option Instr) → byte_of i ≡ k → operand_bytes i ≡ text → Good byte text others → Good byte text (cond (eqb byte k) (Some i) others)
row byte k text i others has says rest = by (eqb byte k) refl
  where
    by : (b : Bool) → eqb byte k ≡ b → Good byte text (cond b (Some i) others)
    by true e = (has ∙ sym (eqb-true byte k e), says)
    by false e = rest

number_back : (n : ℕ) → n < 16 → number_of_operator (operator_of n) ≡ n
unfolding operator_of
number_back zero less = refl
number_back (suc zero) less = refl
number_back (suc (suc zero)) less = refl
number_back (suc (suc (suc zero))) less = refl
number_back (suc (suc (suc (suc zero)))) less = refl
number_back (suc (suc (suc (suc (suc zero))))) less = refl
number_back (suc (suc (suc (suc (suc (suc zero)))))) less = refl
number_back (suc (suc (suc (suc (suc (suc (suc zero))))))) less = refl
number_back (suc (suc (suc (suc (suc (suc (suc (suc zero)))))))) less = refl
number_back (suc (suc (suc (suc (suc (suc (suc (suc (suc zero))))))))) less = refl
number_back (suc (suc (suc (suc (suc (suc (suc (suc (suc (suc zero)))))))))) less = refl
number_back (suc (suc (suc (suc (suc (suc (suc (suc (suc (suc (suc zero))))))))))) less = refl
number_back (suc (suc (suc (suc (suc (suc (suc (suc (suc (suc (suc (suc zero)))))))))))) less = refl
number_back (suc (suc (suc (suc (suc (suc (suc (suc (suc (suc (suc (suc (suc zero))))))))))))) less = refl
number_back (suc (suc (suc (suc (suc (suc (suc (suc (suc (suc (suc (suc (suc (suc zero)))))))))))))) less = refl
number_back (suc (suc (suc (suc (suc (suc (suc (suc (suc (suc (suc (suc (suc (suc (suc n))))))))))))))) less = let last : n ≡ 0 = omega (arith, less) in rw last refl

-- A stretch of sixteen bytes
stretch : (byte from to : ℕ) (width : _) (others : Option Instr) → to ≡ from + 16 → ((n : ℕ) → byte_of (kinds.Binary (operator_of n) width) ≡ from + number_of_operator (operator_of n))
    → Good byte [] others → Good byte [] (cond (leb from byte && ltb byte to) (Some (kinds.Binary (operator_of (byte - from)) width)) others)
stretch byte from to width others wide has rest = by (leb from byte && ltb byte to) refl
  where
    by : (b : Bool) → (leb from byte && ltb byte to) ≡ b → Good byte [] (cond b (Some (kinds.Binary (operator_of (byte - from)) width)) others)
    by true e =
        let (low, high) = each_of_both (leb from byte) (ltb byte to) e in
        let at_least = leb-true from byte low in
        let at_most = ltb-true byte to high in
        (has (byte - from) ∙ ap (λ k. from + k) (number_back (byte - from) (omega (arith, at_least, at_most, wide))) ∙ omega (arith, at_least), refl)
    by false e = rest

good_binary : (byte : ℕ) → Good byte [] (binary_of byte)
unfolding binary_of
good_binary byte =
    stretch byte 32 48 widths.W32 _ refl (λ n. refl) (stretch byte 64 80 widths.W8 _ refl (λ n. refl)
    (stretch byte 80 96 widths.W16 _ refl (λ n. refl) (stretch byte 96 112 widths.W64 _ refl (λ n. refl) tt)))

good_unary : (byte : ℕ) → Good byte [] (unary_of byte)
unfolding unary_of
good_unary byte =
    row byte 48 [] _ _ refl refl (row byte 49 [] _ _ refl refl (row byte 50 [] _ _ refl refl (row byte 51 [] _ _ refl refl (row byte 52 [] _ _ refl refl
    (row byte 53 [] _ _ refl refl (row byte 112 [] _ _ refl refl (row byte 113 [] _ _ refl refl (row byte 114 [] _ _ refl refl (row byte 115 [] _ _ refl refl
    (row byte 116 [] _ _ refl refl (row byte 117 [] _ _ refl refl tt)))))))))))

good_or : (byte : ℕ) (text : List ℕ) (some others : Option Instr) → Good byte text some → Good byte text others → Good byte text (option_or some others)
good_or byte text (Some i) others h g = h
good_or byte text None others h g = g

good_none : (byte : ℕ) → Good byte [] (with_none byte)
unfolding with_none
good_none byte = row byte 16 [] _ _ refl refl (row byte 20 [] _ _ refl refl (good_or byte [] (binary_of byte) (unary_of byte) (good_binary byte) (good_unary byte)))

good_one : (byte n : ℕ) → Good byte (number_bytes n) (with_one byte n)
unfolding with_one
good_one byte n =
    row byte 2 (number_bytes n) _ _ refl refl (row byte 3 (number_bytes n) _ _ refl refl (row byte 6 (number_bytes n) _ _ refl refl (row byte 7 (number_bytes n) _ _ refl refl
    (row byte 9 (number_bytes n) _ _ refl refl (row byte 10 (number_bytes n) _ _ refl refl (row byte 12 (number_bytes n) _ _ refl refl (row byte 13 (number_bytes n) _ _ refl refl
    (row byte 14 (number_bytes n) _ _ refl refl (row byte 15 (number_bytes n) _ _ refl refl (row byte 17 (number_bytes n) _ _ refl refl (row byte 19 (number_bytes n) _ _ refl refl
    (row byte 21 (number_bytes n) _ _ refl refl tt))))))))))))

good_two : (byte m n : ℕ) → Good byte (number_bytes m ++ number_bytes n) (with_two byte m n)
unfolding with_two
good_two byte m n =
    row byte 4 (number_bytes m ++ number_bytes n) _ _ refl refl (row byte 5 (number_bytes m ++ number_bytes n) _ _ refl refl
    (row byte 8 (number_bytes m ++ number_bytes n) _ _ refl refl (row byte 18 (number_bytes m ++ number_bytes n) _ _ refl refl tt)))

-- ---- what has three operands is the one byte that is left in the table

-- The byte has at most two operands, or is that of `send`.
abbrev is_told : ℕ → ℕ → ℕ → Bool
is_told m n byte = is_some (with_none byte) || (eqb byte 1 || (is_some (with_one byte m) || (is_some (with_two byte m n) || eqb byte 11)))

all_told : (m n : ℕ) → list_all (λ r. is_told m n r.byte) rows ≡ true
unfolding with_none with_one with_two binary_of unary_of operator_of
all_told m n = refl

found_by : (q : ℕ → Bool) (byte : ℕ) (r : Row) (others : Option Row) → q r.byte ≡ true → (is_some others ≡ true → q byte ≡ true)
    → (b : Bool) → eqb r.byte byte ≡ b → is_some (cond b (Some r) others) ≡ true → q byte ≡ true
found_by q byte r others first rest true e h = subst (λ k. q k ≡ true) (eqb-true r.byte byte e) first
found_by q byte r others first rest false e h = rest h

found : (q : ℕ → Bool) (byte : ℕ) (xs : List Row) → list_all (λ r. q r.byte) xs ≡ true → is_some (find (λ r. eqb r.byte byte) xs) ≡ true → q byte ≡ true
found q byte [] all is = absurd cc
found q byte (r ∷ xs) all is =
    let (first, others) = each_of_both (q r.byte) (list_all (λ r. q r.byte) xs) all in
    found_by q byte r (find (λ r. eqb r.byte byte) xs) first (λ h. found q byte xs others h) (eqb r.byte byte) refl is

sends : (byte m n : ℕ) → is_some (row_of byte rows) ≡ true → with_none byte ≡ None → eqb byte 1 ≡ false → with_one byte m ≡ None → with_two byte m n ≡ None → byte ≡ 11
sends byte m n good none one first two =
    let told : is_told m n byte ≡ true = found (is_told m n) byte rows (all_told m n) good in
    let at : eqb byte 11 ≡ true = sym (ap (λ o. is_some o || (eqb byte 1 || (is_some (with_one byte m) || (is_some (with_two byte m n) || eqb byte 11)))) none
    ∙ ap (λ b. b || (is_some (with_one byte m) || (is_some (with_two byte m n) || eqb byte 11))) one
    ∙ ap (λ o. is_some o || (is_some (with_two byte m n) || eqb byte 11)) first ∙ ap (λ o. is_some o || eqb byte 11) two) ∙ told in
    eqb-true byte 11 at

-- ---- an instruction

abbrev pub Says : List ℕ → Instr → List ℕ → Type 0
Says text i now = now ≡ text ++ instr_bytes i

from_good : (text : List ℕ) (byte : ℕ) (operands : List ℕ) (i : Instr) (now : List ℕ) → now ≡ text ++ (byte ∷ operands) → (byte_of i ≡ byte) × (operand_bytes i ≡ operands) → Says text i now
from_good text byte operands i now is (has, says) = is ∙ ap (λ b. text ++ (b ∷ operands)) (sym has) ∙ ap (λ xs. text ++ (byte_of i ∷ xs)) (sym says)

or_prints : (P : Instr → List ℕ → Type 0) (o : Option Instr) (F : Format Instr) (text : List ℕ) → IfSome o (λ i. P i text) → (o ≡ None → Prints P F text) → Prints P (or_more o F) text
or_prints P (Some i) F text h g = h
or_prints P None F text h g = g refl

some_good : (text now : List ℕ) (byte : ℕ) (operands : List ℕ) (o : Option Instr) → now ≡ text ++ (byte ∷ operands) → Good byte operands o → IfSome o (λ i. Says text i now)
some_good text now byte operands (Some i) is h = from_good text byte operands i now is h
some_good text now byte operands None is h = tt

prints_operands : (text : List ℕ) (byte : ℕ) → is_some (row_of byte rows) ≡ true → with_none byte ≡ None → eqb byte 1 ≡ false → Prints (Says text) (operands byte) (text ++ (byte ∷ []))
unfolding operands
prints_operands text byte good none one = λ m fits.
    or_prints (Says text) (with_one byte m) _ _ (some_good text ((text ++ (byte ∷ [])) ++ number_bytes m) byte (number_bytes m) (with_one byte m) (append_assoc text (byte ∷ []) (number_bytes m)) (good_one byte m)) (λ first n fits1.
    or_prints (Says text) (with_two byte m n) _ _ (some_good text (((text ++ (byte ∷ [])) ++ number_bytes m) ++ number_bytes n) byte (number_bytes m ++ number_bytes n) (with_two byte m n)
    (append_assoc (text ++ (byte ∷ [])) (number_bytes m) (number_bytes n) ∙ append_assoc text (byte ∷ []) (number_bytes m ++ number_bytes n)) (good_two byte m n)) (λ second k fits2.
    let is : byte ≡ 11 = sends byte m n good none one first second in
    append_assoc ((text ++ (byte ∷ [])) ++ number_bytes m) (number_bytes n) (number_bytes k) ∙ append_assoc (text ++ (byte ∷ [])) (number_bytes m) (number_bytes n ++ number_bytes k)
    ∙ append_assoc text (byte ∷ []) (number_bytes m ++ (number_bytes n ++ number_bytes k)) ∙ ap (λ b. text ++ (b ∷ (number_bytes m ++ (number_bytes n ++ number_bytes k)))) is))

prints_instruction : (text : List ℕ) → Prints (Says text) instruction text
unfolding instruction
prints_instruction text = λ byte good. or_prints (Says text) (with_none byte) _ _ (some_good text (text ++ (byte ∷ [])) byte [] (with_none byte) refl (good_none byte)) (λ none. by byte good none (eqb byte 1) refl)
  where
    by : (byte : ℕ) → is_some (row_of byte rows) ≡ true → with_none byte ≡ None → (b : Bool) → eqb byte 1 ≡ b → Prints (Says text) (cond b pushed (operands byte)) (text ++ (byte ∷ []))
    by byte good none true e = λ z whole. append_assoc text (byte ∷ []) (value_bytes z) ∙ ap (λ b. text ++ (b ∷ value_bytes z)) (eqb-true byte 1 e)
    by byte good none false e = prints_operands text byte good none e

prints_instr : (s : List Instr) (text : List ℕ) → Prints (AddsOne (λ (t : List Instr). t) instr_bytes s text) (instr s) text
unfolding instr
prints_instr s text = prints_then (Says text) (AddsOne (λ (t : List Instr). t) instr_bytes s text) instruction _ text (prints_instruction text) (λ i now is. (i, refl, is))

pub prints_instrs : (text : List ℕ) → Prints (λ s now. now ≡ text ++ list_bytes instr_bytes s) instrs text
unfolding instrs
prints_instrs text = prints_counted (λ (t : List Instr). t) instr_bytes (2 ^ 32 - 1) instr [] text refl prints_instr
