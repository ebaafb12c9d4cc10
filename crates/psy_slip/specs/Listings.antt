-- Names behind one another.
use Rattle.std.specs.Prelude.{ℕ, List, [], ◌∷◌, ◌++◌, codes}
use Rattle.psy_page.specs.Told.{about}
use Rattle.psy_slip.specs.declared.sentences.TheConstants.{QUOTED}

-- What stands between a name and those behind it
abbrev pub between : List ℕ → List (List ℕ) → List ℕ
between last [] = []
between last (name ∷ []) = last
between last (name ∷ other ∷ more) = codes ", "

-- Names as they are shown, in quotes, with commas between them, and this before the last
abbrev pub listed : List ℕ → List (List ℕ) → List ℕ
listed last [] = []
listed last (name ∷ more) = about QUOTED.now name ++ between last more ++ listed last more
