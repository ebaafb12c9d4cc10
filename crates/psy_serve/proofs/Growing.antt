-- What a sink holds behind a text, and behind what was added to it.
use Rattle.std.proofs.Common.{◌≡◌, ◌≢◌, ℕ, true, false, List, [], ◌++◌, Option, None, Some, inl, inr, sym, ap, subst, ◌∙◌}
use Rattle.std.specs.Prelude.{MatchBool, MatchOption, ⊤}
use Rattle.std.proofs.lemmas.Bool.{true≢false}
use Rattle.std.proofs.lemmas.Option.{none-some, same_Some}
use Rattle.psy_door.specs.Files.{Files}
use Rattle.psy_door.specs.Growth.{Grew}
use Rattle.psy_last.specs.Lasts.{last_line, short}
use Rattle.psy_last.specs.Remembering.{IsFresh}
use Rattle.psy_serve.specs.Behind.{IsBehind, IsExplained, IsToldBeside}
use Rattle.psy_serve.specs.Speaking.{is_refusal}

-- Behind the text of a refusal its last line is explained over the files that are told then, where nothing stood before the text.
pub explained_behind : (words : List (List ℕ)) (files seen : Option Files) (status : ℕ) (text more piece : List ℕ) (old mid now : Option (List ℕ))
    → is_refusal status ≡ true → seen ≡ files → IsFresh old → Grew old mid text → Grew mid now piece
    → MatchOption mid ⊤ (λ bytes. IsExplained words seen (last_line bytes) more) → MatchOption now ⊤ (λ all. IsBehind words files status text more)
explained_behind words files seen status text more piece old mid None refusal alike fresh first second explained = tt
explained_behind words files seen status text more piece None None (Some n) refusal alike fresh first second explained = absurd second
explained_behind words files seen status text more piece (Some o) None (Some n) refusal alike fresh first second explained = absurd second
explained_behind words files seen status text more piece None (Some m) (Some n) refusal alike fresh first second explained = absurd first
explained_behind words files seen status text more piece (Some o) (Some m) (Some n) refusal alike fresh first second explained =
    let none : o ≡ [] = elim fresh [
      | inl untold ↦ absurd (none-some o (sym untold))
      | inr empty ↦ same_Some o [] empty
    ] in
    let same : m ≡ text = first ∙ ap (λ b. b ++ text) none in
    subst (λ b. MatchBool b (IsExplained words files (last_line text) more) (more ≡ [])) (sym refusal)
    (subst (λ f. IsExplained words f (last_line text) more) alike (subst (λ bytes. IsExplained words seen (last_line bytes) more) same explained))

-- What is true of the last line that a sink holds is true of that of the text that was added last, where nothing stood before it, whatever was added behind.
pub behind_of : (P : List ℕ → Type 0) (text piece : List ℕ) (old mid now : Option (List ℕ)) → IsFresh old → Grew old mid text → Grew mid now piece
    → MatchOption mid ⊤ (λ bytes. P (last_line bytes)) → MatchOption now ⊤ (λ all. P (last_line text))
behind_of P text piece old mid None fresh first second is = tt
behind_of P text piece None None (Some n) fresh first second is = absurd second
behind_of P text piece (Some o) None (Some n) fresh first second is = absurd second
behind_of P text piece None (Some m) (Some n) fresh first second is = absurd first
behind_of P text piece (Some o) (Some m) (Some n) fresh first second is =
    let none : o ≡ [] = elim fresh [
      | inl untold ↦ absurd (none-some o (sym untold))
      | inr empty ↦ same_Some o [] empty
    ] in
    let same : m ≡ text = first ∙ ap (λ b. b ++ text) none in
    subst (λ bytes. P (last_line bytes)) same is

-- A status with which nothing was refused isn't that of a refusal.
pub no_refusal : (status other : ℕ) → is_refusal status ≡ true → is_refusal other ≡ false → status ≢ other
no_refusal status other refusal none same = true≢false (sym refusal ∙ ap is_refusal same ∙ none)

-- What is true of each line that a sink may remember is true of the last one that it holds.
pub last_of : (P : List ℕ → Type 0) (held last : Option (List ℕ)) → MatchOption held ⊤ (λ bytes. last ≡ short (last_line bytes))
    → ((line : List ℕ) → last ≡ short line → P line) → MatchOption held ⊤ (λ bytes. P (last_line bytes))
last_of P None last told is = tt
last_of P (Some bytes) last told is = is (last_line bytes) told

-- What the program tells is told over the same files, of the same text, in the same bytes.
pub beside_over : (words : List (List ℕ)) (seen files : Option Files) (shown bytes line items told : List ℕ) → seen ≡ files → shown ≡ bytes → told ≡ items
    → IsToldBeside words seen shown line items → IsToldBeside words files bytes line told
beside_over words seen files shown bytes line items told alike same is tells =
    subst (λ (t : List ℕ). IsToldBeside words files bytes line t) (sym is)
    (subst (λ (b : List ℕ). IsToldBeside words files b line items) same (subst (λ (f : Option Files). IsToldBeside words f shown line items) alike tells))

-- What is explained is explained by the same bytes.
pub explained_whole : (words : List (List ℕ)) (files : Option Files) (last text whole : List ℕ) → whole ≡ text → IsExplained words files last text
    → IsExplained words files last whole
explained_whole words files last text whole is explained = subst (IsExplained words files last) (sym is) explained
