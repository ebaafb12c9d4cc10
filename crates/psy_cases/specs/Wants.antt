-- What is said of a text by a want that it meets, or doesn't meet.
use Rattle.std.specs.Prelude.{◌≡◌, ℕ, Bool, List, ◌++◌, ⊤}
use Rattle.std.specs.Bool.{Decides}
use Rattle.psy_cases.specs.declared.want.Want.{Want}
use Rattle.psy_cases.specs.declared.want.Want.TheVariants.{Exactly, Begins, Ends, Has, Holds, Count}

-- The text begins with this front.
abbrev pub BeginsWith : List ℕ → List ℕ → Type 0
BeginsWith text front = (rest : List ℕ) × (text ≡ front ++ rest)

-- The text ends with this end.
abbrev pub EndsWith : List ℕ → List ℕ → Type 0
EndsWith text end = (front : List ℕ) × (text ≡ front ++ end)

-- The want is met exactly where the text is these bytes, or begins or ends with them. Of the wants of lines and pieces nothing is said.
abbrev pub IsMetBy : Want → List ℕ → Bool → Type 0
IsMetBy (Exactly bytes) text met = Decides met (text ≡ bytes.items)
IsMetBy (Begins front) text met = Decides met (BeginsWith text front.items)
IsMetBy (Ends end) text met = Decides met (EndsWith text end.items)
IsMetBy (Has lines) text met = ⊤
IsMetBy (Holds piece) text met = ⊤
IsMetBy (Count lines front) text met = ⊤
