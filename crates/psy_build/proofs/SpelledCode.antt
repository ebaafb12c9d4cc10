-- The bytes of code are read as it, where its instructions are ones that an image can have.
use Rattle.std.proofs.Common.{◌≡◌, ◌∙◌, ℕ, ℤ, ◌-◌, ◌^◌, ◌≤◌, Bool, true, false, cond, eqb, List, [], ◌∷◌, ◌++◌, length, Option, Some, None, refl, sym, ap, subst, arith}
use Rattle.std.specs.Prelude.{is_some}
use Rattle.std.proofs.lemmas.Bool.{false≢true}
use Rattle.psy_arith.specs.declared.operators.Op1.{Op1}
use Rattle.psy_arith.specs.declared.operators.Op1.TheVariants as one
use Rattle.psy_arith.specs.declared.operators.Op2.{Op2}
use Rattle.psy_arith.specs.declared.operators.Op2.TheVariants as op
use Rattle.psy_arith.specs.declared.width.Width.{Width}
use Rattle.psy_arith.specs.declared.width.Width.TheVariants as widths
use Rattle.psy_arith.specs.Tables.{row_of}
use Rattle.psy_code.specs.declared.instr.Instr.{Instr}
use Rattle.psy_code.specs.declared.instr.Instr.TheVariants as kinds
use Rattle.psy_code.specs.Rows.{byte_of, rows}
use Rattle.psy_image.specs.Bytes.{instr_bytes, list_bytes, number_bytes}
use Rattle.psy_image.specs.Formats.{Format}
use Rattle.psy_image.specs.Images.{instr, instrs}
use Rattle.psy_image.specs.Instructions.{binary_of, instruction, operands, operator_of, or_more, pushed, unary_of, with_none, with_one, with_two}
use Rattle.psy_meaning.proofs.lemmas.Eaches.{each-second}
use Rattle.psy_meaning.specs.Sound.{Each}
use Rattle.psy_build.proofs.Fit.{Fit, Small, is_eager, is_short, is_width_of}
use Rattle.psy_build.proofs.Gets.{Gets, Says, gets_by, gets_counted, gets_done, gets_number, gets_opcode, gets_then, gets_value, three, two}

-- ---- the instruction of a byte

gets_none : (P : Instr → List ℕ → Type 0) (o : Option Instr) (F : Format Instr) (bytes : List ℕ) → o ≡ None → Gets P F bytes → Gets P (or_more o F) bytes
gets_none P o F bytes none h = subst (λ its. Gets P (or_more its F) bytes) (sym none) h

gets_some : (o : Option Instr) (i : Instr) (F : Format Instr) (rest : List ℕ) → o ≡ Some i → Gets (Says i rest) (or_more o F) rest
gets_some o i F rest some = subst (λ its. Gets (Says i rest) (or_more its F) rest) (sym some) (gets_done (Says i rest) i rest (refl, refl))

gets_else : (P : Instr → List ℕ → Type 0) (b : Bool) (F G : Format Instr) (bytes : List ℕ) → b ≡ false → Gets P G bytes → Gets P (cond b F G) bytes
gets_else P b F G bytes other h = subst (λ c. Gets P (cond c F G) bytes) (sym other) h

-- What stands behind the byte of an instruction
abbrev behind : ℕ → Format Instr
behind byte = or_more (with_none byte) (cond (eqb byte 1) pushed (operands byte))

gets_one : (byte n : ℕ) (i : Instr) (rest : List ℕ) → with_none byte ≡ None → eqb byte 1 ≡ false → with_one byte n ≡ Some i → Small n → Gets (Says i rest) (behind byte) (number_bytes n ++ rest)
unfolding operands
gets_one byte n i rest none other is small =
    gets_none (Says i rest) (with_none byte) _ (number_bytes n ++ rest) none (gets_else (Says i rest) (eqb byte 1) pushed (operands byte) (number_bytes n ++ rest) other
    (gets_number (Says i rest) 0 (2 ^ 32 - 1) n _ rest (omega arith) (omega (arith, small)) small (gets_some (with_one byte n) i _ rest is)))

gets_two : (byte m n : ℕ) (i : Instr) (rest : List ℕ) → with_none byte ≡ None → eqb byte 1 ≡ false → with_one byte m ≡ None → with_two byte m n ≡ Some i → Small m → Small n
    → Gets (Says i rest) (behind byte) (number_bytes m ++ (number_bytes n ++ rest))
unfolding operands
gets_two byte m n i rest none other one is small less =
    gets_none (Says i rest) (with_none byte) _ (number_bytes m ++ (number_bytes n ++ rest)) none (gets_else (Says i rest) (eqb byte 1) pushed (operands byte) (number_bytes m ++ (number_bytes n ++ rest)) other
    (gets_number (Says i rest) 0 (2 ^ 32 - 1) m _ (number_bytes n ++ rest) (omega arith) (omega (arith, small)) small (gets_none (Says i rest) (with_one byte m) _ (number_bytes n ++ rest) one
    (gets_number (Says i rest) 0 (2 ^ 32 - 1) n _ rest (omega arith) (omega (arith, less)) less (gets_some (with_two byte m n) i _ rest is)))))

gets_send : (k m n : ℕ) (rest : List ℕ) → Small k → Small m → Small n → Gets (Says (kinds.Send k m n) rest) (behind 11) (number_bytes k ++ (number_bytes m ++ (number_bytes n ++ rest)))
unfolding operands with_none with_one with_two binary_of unary_of
gets_send k m n rest small less few =
    let P : Instr → List ℕ → Type 0 = Says (kinds.Send k m n) rest in
    gets_number P 0 (2 ^ 32 - 1) k _ (number_bytes m ++ (number_bytes n ++ rest)) (omega arith) (omega (arith, small)) small
    (gets_number P 0 (2 ^ 32 - 1) m _ (number_bytes n ++ rest) (omega arith) (omega (arith, less)) less
    (gets_number P 0 (2 ^ 32 - 1) n _ rest (omega arith) (omega (arith, few)) few (gets_done P (kinds.Send k m n) rest (refl, refl))))

-- ---- operators

back8 : (o : Op2) → is_eager o ≡ true → with_none (byte_of (kinds.Binary o widths.W8)) ≡ Some (kinds.Binary o widths.W8)
unfolding with_none binary_of operator_of
back8 op.AndAnd e = absurd (false≢true e)
back8 op.OrOr e = absurd (false≢true e)
back8 _ e = refl

back16 : (o : Op2) → is_eager o ≡ true → with_none (byte_of (kinds.Binary o widths.W16)) ≡ Some (kinds.Binary o widths.W16)
unfolding with_none binary_of operator_of
back16 op.AndAnd e = absurd (false≢true e)
back16 op.OrOr e = absurd (false≢true e)
back16 _ e = refl

back32 : (o : Op2) → is_eager o ≡ true → with_none (byte_of (kinds.Binary o widths.W32)) ≡ Some (kinds.Binary o widths.W32)
unfolding with_none binary_of operator_of
back32 op.AndAnd e = absurd (false≢true e)
back32 op.OrOr e = absurd (false≢true e)
back32 _ e = refl

back64 : (o : Op2) → is_eager o ≡ true → with_none (byte_of (kinds.Binary o widths.W64)) ≡ Some (kinds.Binary o widths.W64)
unfolding with_none binary_of operator_of
back64 op.AndAnd e = absurd (false≢true e)
back64 op.OrOr e = absurd (false≢true e)
back64 _ e = refl

binary_back : (o : Op2) (w : Width) → is_eager o ≡ true → with_none (byte_of (kinds.Binary o w)) ≡ Some (kinds.Binary o w)
binary_back o widths.W8 e = back8 o e
binary_back o widths.W16 e = back16 o e
binary_back o widths.W32 e = back32 o e
binary_back o widths.W64 e = back64 o e

row8 : (o : Op2) → is_some (row_of (byte_of (kinds.Binary o widths.W8)) rows) ≡ true
row8 op.Mul = refl
row8 _ = refl

row16 : (o : Op2) → is_some (row_of (byte_of (kinds.Binary o widths.W16)) rows) ≡ true
row16 op.Mul = refl
row16 _ = refl

row32 : (o : Op2) → is_some (row_of (byte_of (kinds.Binary o widths.W32)) rows) ≡ true
row32 op.Mul = refl
row32 _ = refl

row64 : (o : Op2) → is_some (row_of (byte_of (kinds.Binary o widths.W64)) rows) ≡ true
row64 op.Mul = refl
row64 _ = refl

binary_row : (o : Op2) (w : Width) → is_some (row_of (byte_of (kinds.Binary o w)) rows) ≡ true
binary_row o widths.W8 = row8 o
binary_row o widths.W16 = row16 o
binary_row o widths.W32 = row32 o
binary_row o widths.W64 = row64 o

unary_back : (o : Op1) (w : Width) → is_width_of o w ≡ true → (is_some (row_of (byte_of (kinds.Unary o w)) rows) ≡ true) × (with_none (byte_of (kinds.Unary o w)) ≡ Some (kinds.Unary o w))
unfolding with_none binary_of unary_of
unary_back one.Not widths.W64 e = (refl, refl)
unary_back one.Not widths.W8 e = absurd (false≢true e)
unary_back one.Not widths.W16 e = absurd (false≢true e)
unary_back one.Not widths.W32 e = absurd (false≢true e)
unary_back one.Neg widths.W8 e = (refl, refl)
unary_back one.Neg widths.W16 e = (refl, refl)
unary_back one.Neg widths.W32 e = (refl, refl)
unary_back one.Neg widths.W64 e = (refl, refl)
unary_back one.Flip widths.W8 e = (refl, refl)
unary_back one.Flip widths.W16 e = (refl, refl)
unary_back one.Flip widths.W32 e = (refl, refl)
unary_back one.Flip widths.W64 e = (refl, refl)

cast_back : (w : Width) → is_short w ≡ true → (is_some (row_of (byte_of (kinds.Cast w)) rows) ≡ true) × (with_none (byte_of (kinds.Cast w)) ≡ Some (kinds.Cast w))
unfolding with_none binary_of unary_of
cast_back widths.W8 e = (refl, refl)
cast_back widths.W16 e = (refl, refl)
cast_back widths.W32 e = (refl, refl)
cast_back widths.W64 e = absurd (false≢true e)

-- ---- an instruction

alone : (i : Instr) (rest : List ℕ) → is_some (row_of (byte_of i) rows) ≡ true → with_none (byte_of i) ≡ Some i → Gets (Says i rest) instruction (byte_of i ∷ rest)
unfolding instruction
alone i rest there is = gets_opcode (Says i rest) (byte_of i) behind rest there (gets_some (with_none (byte_of i)) i _ rest is)

with_behind : (i : Instr) (byte : ℕ) (bytes rest : List ℕ) → is_some (row_of byte rows) ≡ true → Gets (Says i rest) (behind byte) bytes → Gets (Says i rest) instruction (byte ∷ bytes)
unfolding instruction
with_behind i byte bytes rest there h = gets_opcode (Says i rest) byte behind bytes there h

gets_push : (z : ℤ) (rest : List ℕ) → Fit (kinds.Push z) → Gets (Says (kinds.Push z) rest) instruction (instr_bytes (kinds.Push z) ++ rest)
unfolding with_none binary_of unary_of
gets_push z rest fit = with_behind (kinds.Push z) 1 _ rest refl (gets_value (Says (kinds.Push z) rest) z _ rest fit (gets_done (Says (kinds.Push z) rest) (kinds.Push z) rest (refl, refl)))

pub gets_instr : (i : Instr) (rest : List ℕ) → Fit i → Gets (Says i rest) instruction (instr_bytes i ++ rest)
unfolding with_none with_one with_two binary_of unary_of
gets_instr (kinds.Push number) rest fit = gets_push number rest fit
gets_instr (kinds.Load n) rest fit = with_behind (kinds.Load n) 2 _ rest refl (gets_one 2 n (kinds.Load n) rest refl refl refl fit)
gets_instr (kinds.Store n) rest fit = with_behind (kinds.Store n) 3 _ rest refl (gets_one 3 n (kinds.Store n) rest refl refl refl fit)
gets_instr (kinds.LoadCell m n) rest fit =
    gets_by (Says (kinds.LoadCell m n) rest) instruction _ _ (ap (λ xs. 4 ∷ xs) (two (number_bytes m) (number_bytes n) rest)) (with_behind (kinds.LoadCell m n) 4 _ rest refl (gets_two 4 m n (kinds.LoadCell m n) rest refl refl refl refl fit.0 fit.1))
gets_instr (kinds.StoreCell m n) rest fit =
    gets_by (Says (kinds.StoreCell m n) rest) instruction _ _ (ap (λ xs. 5 ∷ xs) (two (number_bytes m) (number_bytes n) rest)) (with_behind (kinds.StoreCell m n) 5 _ rest refl (gets_two 5 m n (kinds.StoreCell m n) rest refl refl refl refl fit.0 fit.1))
gets_instr (kinds.LoadCopy n) rest fit = with_behind (kinds.LoadCopy n) 6 _ rest refl (gets_one 6 n (kinds.LoadCopy n) rest refl refl refl fit)
gets_instr (kinds.StoreCopy n) rest fit = with_behind (kinds.StoreCopy n) 7 _ rest refl (gets_one 7 n (kinds.StoreCopy n) rest refl refl refl fit)
gets_instr (kinds.Past m n) rest fit =
    gets_by (Says (kinds.Past m n) rest) instruction _ _ (ap (λ xs. 8 ∷ xs) (two (number_bytes m) (number_bytes n) rest)) (with_behind (kinds.Past m n) 8 _ rest refl (gets_two 8 m n (kinds.Past m n) rest refl refl refl refl fit.0 fit.1))
gets_instr (kinds.Ready n) rest fit = with_behind (kinds.Ready n) 9 _ rest refl (gets_one 9 n (kinds.Ready n) rest refl refl refl fit)
gets_instr (kinds.Take n) rest fit = with_behind (kinds.Take n) 10 _ rest refl (gets_one 10 n (kinds.Take n) rest refl refl refl fit)
gets_instr (kinds.Send k m n) rest fit =
    gets_by (Says (kinds.Send k m n) rest) instruction _ _ (ap (λ xs. 11 ∷ xs) (three (number_bytes k) (number_bytes m) (number_bytes n) rest)) (with_behind (kinds.Send k m n) 11 _ rest refl (gets_send k m n rest fit.0 fit.1 fit.2))
gets_instr (kinds.Jump n) rest fit = with_behind (kinds.Jump n) 12 _ rest refl (gets_one 12 n (kinds.Jump n) rest refl refl refl fit)
gets_instr (kinds.JumpZero n) rest fit = with_behind (kinds.JumpZero n) 13 _ rest refl (gets_one 13 n (kinds.JumpZero n) rest refl refl refl fit)
gets_instr (kinds.AndTest n) rest fit = with_behind (kinds.AndTest n) 14 _ rest refl (gets_one 14 n (kinds.AndTest n) rest refl refl refl fit)
gets_instr (kinds.OrTest n) rest fit = with_behind (kinds.OrTest n) 15 _ rest refl (gets_one 15 n (kinds.OrTest n) rest refl refl refl fit)
gets_instr kinds.Truth rest fit = alone kinds.Truth rest refl refl
gets_instr (kinds.Zero n) rest fit = with_behind (kinds.Zero n) 17 _ rest refl (gets_one 17 n (kinds.Zero n) rest refl refl refl fit)
gets_instr (kinds.Guard m n) rest fit =
    gets_by (Says (kinds.Guard m n) rest) instruction _ _ (ap (λ xs. 18 ∷ xs) (two (number_bytes m) (number_bytes n) rest)) (with_behind (kinds.Guard m n) 18 _ rest refl (gets_two 18 m n (kinds.Guard m n) rest refl refl refl refl fit.0 fit.1))
gets_instr (kinds.Call n) rest fit = with_behind (kinds.Call n) 19 _ rest refl (gets_one 19 n (kinds.Call n) rest refl refl refl fit)
gets_instr kinds.Return rest fit = alone kinds.Return rest refl refl
gets_instr (kinds.Advance n) rest fit = with_behind (kinds.Advance n) 21 _ rest refl (gets_one 21 n (kinds.Advance n) rest refl refl refl fit)
gets_instr (kinds.Binary o w) rest fit = alone (kinds.Binary o w) rest (binary_row o w) (binary_back o w fit)
gets_instr (kinds.Unary o w) rest fit = let (there, is) = unary_back o w fit in alone (kinds.Unary o w) rest there is
gets_instr (kinds.Cast w) rest fit = let (there, is) = cast_back w fit in alone (kinds.Cast w) rest there is

-- ---- all of them

pub gets_instrs : (code : List Instr) (rest : List ℕ) → length code ≤ 2 ^ 32 - 1 → Each Fit code → Gets (Says code rest) instrs (list_bytes instr_bytes code ++ rest)
unfolding instrs instr
gets_instrs code rest few fits =
    gets_counted (λ so_far s. s ≡ so_far) instr_bytes (2 ^ 32 - 1) instr code [] rest few (omega (arith, few)) refl (λ so_far i later s after is same.
    gets_then (Says i after) (λ u now. (u ≡ so_far ++ i ∷ []) × (now ≡ after)) instruction _ (instr_bytes i ++ after) (gets_instr i after (each-second Fit so_far (i ∷ later) (subst (Each Fit) is fits)).0)
    (λ j now h. gets_done (λ u now. (u ≡ so_far ++ i ∷ []) × (now ≡ after)) (s ++ j ∷ []) now (ap (λ l. l ++ j ∷ []) same ∙ ap (λ k. so_far ++ k ∷ []) h.0, h.1)))
