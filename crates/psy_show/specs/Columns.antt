-- Characters in the columns of a screen. How wide a character is, is told by Unicode Standard Annex 11.
use Rattle.std.specs.Prelude.{ℕ, ◌==◌, false, if◌then◌else◌, List, codes, encode_utf8, is_none, unwrap_or}
use Rattle.std.specs.List.{flat_map, sum_by}
use Rattle.unicode_width.specs.Width.{char_width}

-- How many columns a character takes as it is shown: a tab four, one that a screen obeys the one of a `?`, and others as many as it is wide
unfoldable pub width : ℕ → ℕ
width c = if c == 9 then 4 else unwrap_or (char_width false c) 1

-- The bytes by which it is shown: four spaces for a tab, and a `?` for one that a screen obeys
unfoldable pub glyph : ℕ → List ℕ
glyph c = if c == 9 then codes "    " else if is_none (char_width false c) then codes "?" else encode_utf8 c

-- Those of some characters
abbrev pub glyphs : List ℕ → List ℕ
glyphs cs = flat_map glyph cs

-- How many columns they take
abbrev pub columns : List ℕ → ℕ
columns cs = sum_by width cs
