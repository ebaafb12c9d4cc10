-- The bytes of what stands in a hole.
use Rattle.std.specs.Prelude.{◌==◌, ℕ, List, [], ◌∷◌, ◌++◌, Option, None, Some, codes, cond, decimal, nat_le}
use Rattle.std.specs.Fmt.{signed_decimal}
use Rattle.std.specs.List.{flat_map}
use Rattle.psy_show.specs.Lines.{shown}
use Rattle.psy_page.specs.declared.piece.Piece.{Piece}
use Rattle.psy_page.specs.declared.piece.Piece.TheVariants as piece

-- A letter, escaped where it is `&`, `<`, `>` or `"`, and `?` where it is a control code
abbrev pub escaped : ℕ → List ℕ
escaped b =
    cond (b == 38) (codes "&amp;") (cond (b == 60) (codes "&lt;") (cond (b == 62) (codes "&gt;")
    (cond (b == 34) (codes "&quot;") (cond (nat_le b 31) (codes "?") (b ∷ [])))))

-- A label and a number behind it, where there is one
abbrev pub labelled : List ℕ → Option ℕ → List ℕ
labelled label None = []
labelled label (Some number) = label ++ decimal number

-- The bytes of a piece
abbrev pub spelled : Piece → List ℕ
spelled (piece.Raw bytes) = bytes.now
spelled (piece.Text text) = flat_map escaped text.now
spelled (piece.Shown name) = shown name.now
spelled (piece.Number number) = decimal number
spelled (piece.Long number) = decimal number
spelled (piece.Value value) = signed_decimal value
spelled (piece.Labelled label number) = labelled label.now number
