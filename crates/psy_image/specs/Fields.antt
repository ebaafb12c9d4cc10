-- The fields of an image: what each says, how it is spelled, and what is in its range.
use Rattle.std.specs.Prelude.{◌≡◌, ℕ, ℤ, ◌<◌, ◌≤◌, ◌^◌, true, List, [], ◌∷◌, ◌++◌, length, get_or, bytes_eq, is_some, false, FitsSigned, ⊤}
use Rattle.std.specs.Int.{w32, to_le_bytes, cast_unsigned}
use Rattle.std.specs.List.{list_any}
use Rattle.psy_arith.specs.Tables.{row_of}
use Rattle.psy_code.specs.Rows.{rows}
use Rattle.psy_image.specs.Names.{is_name}

-- Each is a byte.
abbrev pub AreBytes : List ℕ → Type 0
AreBytes bytes = (i : ℕ) → get_or bytes i 0 < 256

-- A field.
pub data Field : Type 0 where
  -- a number between both, these included, as four bytes, the lowest first
  Number : (least most : ℕ) → Field
  -- a number of 32 bits with its sign, as four bytes, the lowest first
  Signed : Field
  -- a name other than the earlier ones: how many bytes it has, as a number, and these
  Name : (earlier : List (List ℕ)) → Field
  -- the byte of an instruction
  Opcode : Field
  -- these bytes
  These : (bytes : List ℕ) → Field
  -- no byte follows
  End : Field

-- What a field says
abbrev pub Value : Field → Type 0
Value (Number least most) = ℕ
Value Signed = ℤ
Value (Name earlier) = List ℕ
Value Opcode = ℕ
Value (These bytes) = ⊤
Value End = ⊤

-- The bytes of a field
abbrev pub spelling : (f : Field) → Value f → List ℕ
spelling (Number least most) n = to_le_bytes w32 n
spelling Signed z = to_le_bytes w32 (cast_unsigned w32 z)
spelling (Name earlier) name = to_le_bytes w32 (length name) ++ name
spelling Opcode byte = byte ∷ []
spelling (These bytes) _ = bytes
spelling End _ = []

-- It is in the range of the field.
abbrev pub Fits : (f : Field) → Value f → Type 0
Fits (Number least most) n = (least ≤ n) × (n ≤ most) × (n < 2 ^ 32)
Fits Signed z = FitsSigned w32 z
Fits (Name earlier) name = (is_name name ≡ true) × (list_any (bytes_eq name) earlier ≡ false)
Fits Opcode byte = is_some (row_of byte rows) ≡ true
Fits (These bytes) _ = ⊤
Fits End _ = ⊤

-- The bytes begin with the field, which says that and is in its range, and go on with the rest.
abbrev pub Takes : (f : Field) → Value f → List ℕ → List ℕ → Type 0
Takes End v bytes rest = (bytes ≡ []) × (rest ≡ [])
Takes f v bytes rest = (bytes ≡ spelling f v ++ rest) × Fits f v
