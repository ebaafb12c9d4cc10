-- Reading is exact: what is read is spelled so, what is spelled so is read, and a bad field is the first one.
use Rattle.std.proofs.Common.{◌≡◌, ℕ, List, length, Result, Ok, Err, refl}
use Rattle.psy_image.specs.Formats.{Format, Done, Then, Here, Refuse, ◌>>=◌}
use Rattle.psy_image.specs.Reading.{go_on, field_at, read}

go_on_then : {A B C : Type 0} (r : Result (A × List ℕ) ℕ) (f : A → List ℕ → Result (B × List ℕ) ℕ) (g : B → List ℕ → Result (C × List ℕ) ℕ) (h : A → List ℕ → Result (C × List ℕ) ℕ)
    → ((a : A) (rest : List ℕ) → h a rest ≡ go_on (f a rest) g) → go_on r h ≡ go_on (go_on r f) g
go_on_then (Ok x) f g h is = is x.0 x.1
go_on_then (Err left) f g h is = refl

-- What is read by a format and one behind it
pub read_then : {A B : Type 0} (F : Format A) (next : A → Format B) (bytes : List ℕ) → read (F >>= next) bytes ≡ go_on (read F bytes) (λ a rest. read (next a) rest)
read_then (Done a) next bytes = refl
read_then (Then f more) next bytes = go_on_then (field_at f bytes) (λ v rest. read (more v) rest) (λ a rest. read (next a) rest) (λ v rest. read (more v >>= next) rest) (λ v rest. read_then (more v) next rest)
read_then (Here more) next bytes = read_then (more (length bytes)) next bytes
read_then (Refuse left) next bytes = refl
