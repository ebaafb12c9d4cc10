-- What stands behind psyc's text.
use Rattle.std.specs.Prelude.{◌≡◌, ◌⊎◌, ℕ, ◌<◌, MatchBool, true, List, [], ◌++◌, codes, length, slice_get, Option, Some}
use Rattle.psy_base.specs.declared.limits.TheConstants.{FILE_BYTES}
use Rattle.psy_door.specs.Files.{Files, WhereTold, bytes_under}
use Rattle.psy_last.specs.Lasts.{last_line}
use Rattle.psy_where.specs.Explained.{Explains, sentence_line}
use Rattle.psy_where.specs.declared.plain.Plain.{Plain}
use Rattle.psy_where.specs.Plains.{IsPlain, plain_sentence}
use Rattle.psy_report.specs.Asked.{AreAsked}
use Rattle.psy_words.specs.Faults.{words_told}
use Rattle.psy_words.specs.Options.{option_told}
use Rattle.psy_where.specs.Besides.{IsBeside}
use Rattle.psy_serve.specs.Speaking.{is_of_words, is_refusal, spoken_of}

-- The bytes of the file with this name, where files are told; none of one that is too long
abbrev pub AreBytesOf : Option Files → List ℕ → List ℕ → Type 0
AreBytesOf files name bytes = WhereTold files (λ told. (bytes ≡ bytes_under told name) ⊎ ((bytes ≡ []) × (FILE_BYTES < length (bytes_under told name))))

-- The explanation of a line over a text, and behind it what each agent of a processor may ask for, where the line tells of a demand that this one can't
-- supply
abbrev pub IsExplanation : List ℕ → List ℕ → List ℕ → List ℕ → Type 0
IsExplanation name bytes line more =
    (text : List ℕ) × (asked : List ℕ) × Explains name bytes line text × AreAsked bytes line asked × (more ≡ text ++ asked)

-- The program among the words tells this of the line of a text of these bytes to which a line points.
abbrev pub IsToldBeside : List (List ℕ) → Option Files → List ℕ → List ℕ → List ℕ → Type 0
IsToldBeside words files bytes line told =
    (name : List ℕ) × (program : List ℕ) × (slice_get words 1 ≡ Some name) × AreBytesOf files name program × IsBeside program bytes line told

-- What stands behind a line with its line feed: nothing, as where the file that it speaks of couldn't be fetched again, or has other bytes now; its
-- explanation over that file, and behind that what the program tells; or what is wrong with the words, where it refuses them.
pub data IsExplained (words : List (List ℕ)) (files : Option Files) (last : List ℕ) : List ℕ → Type 0 where
  nothing : IsExplained words files last []
  explained : (line name bytes more : List ℕ) → last ≡ line ++ codes "\n" → spoken_of words line ≡ Some name → AreBytesOf files name bytes
      → IsExplanation name bytes line more → IsExplained words files last more
  explained_beside : (line name bytes more told : List ℕ) → last ≡ line ++ codes "\n" → spoken_of words line ≡ Some name → AreBytesOf files name bytes
      → IsExplanation name bytes line more → IsToldBeside words files bytes line told → IsExplained words files last (more ++ told)
  of_words : (line more : List ℕ) → last ≡ line ++ codes "\n" → is_of_words line ≡ true → more ≡ words_told words → IsExplained words files last more

-- What stands behind a line with its line feed that tells of a file which can't be read: nothing, or what that means, behind the file's name; and that
-- there are no options, where the name begins as one does.
pub data IsTold (words : List (List ℕ)) (last : List ℕ) : List ℕ → Type 0 where
  untold : IsTold words last []
  told : (line name more : List ℕ) (plain : Plain) → last ≡ line ++ codes "\n" → spoken_of words line ≡ Some name → IsPlain line plain
      → more ≡ sentence_line name (plain_sentence plain) ++ option_told words name → IsTold words last more

-- What stands behind a text with which psyc answered the words by this status: where it refused, its last line explained; else nothing.
abbrev pub IsBehind : List (List ℕ) → Option Files → ℕ → List ℕ → List ℕ → Type 0
IsBehind words files status text more = MatchBool (is_refusal status) (IsExplained words files (last_line text) more) (more ≡ [])
