-- Reading by a format from left to right: what is read and the bytes behind it, or how many bytes are left from the bad field on.
use Rattle.std.specs.Prelude.{◌≡◌, ℕ, ℤ, Bool, not, ◌&&◌, nat_lt, nat_le, nat_eq, if◌then◌else◌, List, []}
use Rattle.std.specs.Prelude.{◌∷◌, length, take, drop, bytes_eq, is_some, Result, Ok, Err, ⊤}
use Rattle.std.specs.Int.{w32, from_le_bytes, cast_signed}
use Rattle.std.specs.List.{list_any, starts_with}
use Rattle.psy_arith.specs.Tables.{row_of}
use Rattle.psy_code.specs.Rows.{rows}
use Rattle.psy_image.specs.declared.fault.ReadError.{ReadError}
use Rattle.psy_image.specs.declared.fault.ReadError.TheVariants as errors
use Rattle.psy_image.specs.Fields.{Field, Number, Signed, Name, Opcode, These, End, Value}
use Rattle.psy_image.specs.Formats.{Format, Done, Then, Here, Refuse}
use Rattle.psy_image.specs.Names.{is_name}

-- What follows what was read
abbrev pub go_on : {A B : Type 0} → Result (A × List ℕ) ℕ → (A → List ℕ → Result (B × List ℕ) ℕ) → Result (B × List ℕ) ℕ
go_on (Ok x) next = next x.0 x.1
go_on (Err left) next = Err left

-- Four bytes as a number
abbrev pub word_at : List ℕ → Result (ℕ × List ℕ) ℕ
word_at bytes = if nat_lt (length bytes) 4 then Err (length bytes) else Ok (from_le_bytes w32 (take 4 bytes), drop 4 bytes)

-- What was read, where it passes the test; else the field is bad at which so many bytes are left.
abbrev pub where_good : {A : Type 0} → Bool → A → ℕ → Result A ℕ
where_good b x left = if b then Ok x else Err left

-- A number in its range
unfoldable pub number_at : ℕ → ℕ → List ℕ → Result (ℕ × List ℕ) ℕ
number_at least most bytes = go_on (word_at bytes) (λ n rest. where_good (nat_le least n && nat_le n most) (n, rest) (length bytes))

-- A number with its sign
abbrev pub signed_at : List ℕ → Result (ℤ × List ℕ) ℕ
signed_at bytes = go_on (word_at bytes) (λ n rest. Ok (cast_signed w32 n, rest))

-- So many bytes, of a field at which `left` bytes were left
abbrev pub text_at : ℕ → ℕ → List ℕ → Result (List ℕ × List ℕ) ℕ
text_at left len bytes = if nat_lt (length bytes) len then Err left else Ok (take len bytes, drop len bytes)

-- A name that isn't among the earlier ones
unfoldable pub name_at : List (List ℕ) → List ℕ → Result (List ℕ × List ℕ) ℕ
name_at earlier bytes = go_on (word_at bytes) (λ len rest. go_on (text_at (length bytes) len rest) (λ name after.
    where_good (is_name name && not (list_any (bytes_eq name) earlier)) (name, after) (length bytes)))

-- The byte of an instruction
abbrev pub opcode_at : List ℕ → Result (ℕ × List ℕ) ℕ
opcode_at [] = Err 0
opcode_at (byte ∷ rest) = where_good (is_some (row_of byte rows)) (byte, rest) (length (byte ∷ rest))

-- These bytes
abbrev pub these_at : List ℕ → List ℕ → Result (⊤ × List ℕ) ℕ
these_at expected bytes = where_good (starts_with nat_eq bytes expected) (tt, drop (length expected) bytes) (length bytes)

-- No more bytes
abbrev pub end_at : List ℕ → Result (⊤ × List ℕ) ℕ
end_at [] = Ok (tt, [])
end_at (byte ∷ rest) = Err (length (byte ∷ rest))

-- A field
abbrev pub field_at : (f : Field) → List ℕ → Result (Value f × List ℕ) ℕ
field_at (Number least most) bytes = number_at least most bytes
field_at Signed bytes = signed_at bytes
field_at (Name earlier) bytes = name_at earlier bytes
field_at Opcode bytes = opcode_at bytes
field_at (These expected) bytes = these_at expected bytes
field_at End bytes = end_at bytes

-- What the bytes at the front say in a format
abbrev pub read : {A : Type 0} → Format A → List ℕ → Result (A × List ℕ) ℕ
read (Done a) bytes = Ok (a, bytes)
read (Then f more) bytes = go_on (field_at f bytes) (λ v rest. read (more v) rest)
read (Here more) bytes = read (more (length bytes)) bytes
read (Refuse left) bytes = Err left

-- What a function returned, seen by view, is what reading gives, unless memory ran out.
abbrev pub Fails : {Y : Type 0} → ReadError → Result Y ℕ → Type 0
Fails errors.Memory reading = ⊤
Fails (errors.Bad left) reading = reading ≡ Err left

abbrev pub Gives : {X Y : Type 0} → (X → Y) → Result X ReadError → Result Y ℕ → Type 0
Gives view (Ok x) reading = reading ≡ Ok (view x)
Gives view (Err e) reading = Fails e reading
