-- The head of a picture: its size, its title and its look.
use Rattle.std.specs.Prelude.{◌&&◌, ◌==◌, ℕ, Bool, true, List, [], ◌∷◌, cond, decimal, length, nat_le, nat_lt, not}
use Rattle.std.specs.List.{flat_map, list_any}
use Rattle.psy_draw.specs.declared.head.TheConstants.{HEAD}
use Rattle.psy_draw.specs.declared.style.TheConstants.{STYLE}
use Rattle.psy_page.specs.Spelling.{escaped}
use Rattle.psy_page.specs.Templates.{fill}

-- A byte inside a letter of more than one byte
abbrev pub is_inside : ℕ → Bool
is_inside b = nat_le 128 b && nat_lt b 192

abbrev pub has_slash : List ℕ → Bool
has_slash bytes = list_any (λ b. b == 47) bytes

-- These bytes may be a title: at most 100, none of them a slash, and they don't begin inside a letter.
abbrev pub is_title : List ℕ → Bool
is_title [] = true
is_title (b ∷ bytes) = nat_le (length (b ∷ bytes)) 100 && not (is_inside b) && not (has_slash (b ∷ bytes))

-- The longest end of a file's name that may be a title
abbrev pub title_end : List ℕ → List ℕ
title_end [] = []
title_end (b ∷ bytes) = cond (is_title (b ∷ bytes)) (b ∷ bytes) (title_end bytes)

-- The head of a picture of this size: for those who hear it, its title, which is that end of the name, and the dates; its look; and the title again, for
-- those who see it
abbrev pub head_text : ℕ → ℕ → List ℕ → ℕ → ℕ → List ℕ
head_text width height name from to =
    fill HEAD.now (decimal width ∷ decimal height ∷ decimal width ∷ decimal height ∷ flat_map escaped (title_end name) ∷ decimal from ∷ decimal to
    ∷ STYLE.now ∷ flat_map escaped (title_end name) ∷ decimal from ∷ decimal to ∷ [])
