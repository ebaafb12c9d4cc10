-- The program that a text stands for, by its tokens and their tree; or why a text stands for none: the steps that read and judge a text.
use Rattle.std.specs.Prelude.{◌≡◌, ◌≤◌, ℕ, List, length, Some}
use Rattle.psy_base.specs.declared.limits.TheConstants.{FILE_BYTES}
use Rattle.psy_tree.specs.declared.raw.Raw.{Raw}
use Rattle.psy_tree.specs.declared.token.Token.{Token}
use Rattle.psy_tree.specs.declared.unit.Unit.{Unit as Whole}
use Rattle.psy_tree.specs.Deep as deep
use Rattle.psy_tree.specs.Faults as faults
use Rattle.psy_tree.specs.Grammar.{Spells}
use Rattle.psy_tree.specs.Rules.{LeastFault, NoFault}
use Rattle.psy_tree.specs.Stands.{Stands, first_passed}
use Rattle.psy_tree.specs.Tokens.{TokensOf}
use Rattle.psy_parse.specs.Fault.{AtFault}
use Rattle.psy_plan.specs.declared.refusal.Refusal.{Refusal}
use Rattle.psy_plan.specs.declared.refusal.Refusal.TheVariants.{Lexical, Deep, Syntax, Rule, Many}
use Rattle.psy_plan.specs.Courses.{Course, step, ◌>>=◌}

-- ---- the steps

-- The first fault of a text
abbrev pub IsLexical : List ℕ → Refusal → Type 0
IsLexical bytes (Lexical kind place) = faults.FirstFault bytes kind place
IsLexical bytes _ = ⊥

-- The tokens of a text
abbrev pub lexing : List ℕ → Course (List Token)
lexing bytes = step (TokensOf bytes) (IsLexical bytes)

-- Where they are nested too deep, or else the token at fault of those of no program
abbrev pub IsUnparsed : List Token → Refusal → Type 0
IsUnparsed tokens (Deep token) = deep.Deep tokens token
IsUnparsed tokens (Syntax token) = deep.Shallow tokens × AtFault tokens token
IsUnparsed tokens _ = ⊥

-- The tree of tokens
abbrev pub parsing : List Token → Course Raw
parsing tokens = step (λ raw. deep.Shallow tokens × Spells raw tokens) (IsUnparsed tokens)

-- The least breach of a rule, or else the first count of declarations that passes its limit
abbrev pub IsUnlawful : Raw → Refusal → Type 0
IsUnlawful raw (Rule kind token) = LeastFault raw kind token
IsUnlawful raw (Many count) = NoFault raw × (first_passed raw ≡ Some count)
IsUnlawful raw _ = ⊥

-- The program that a tree stands for, with numbers for names
abbrev pub resolving : Raw → Course Whole
resolving raw = step (λ unit. Stands unit raw) (IsUnlawful raw)

-- ---- the program

-- The program of a text
abbrev pub translating : List ℕ → Course Whole
translating bytes = do
  tokens ← lexing bytes
  raw ← parsing tokens
  resolving raw

-- A text stands for a program.
abbrev pub IsProgram : List ℕ → Whole → Type 0
IsProgram bytes unit = (translating bytes).gives unit

-- Why a text stands for none: by its bytes, by its tokens, or by its tree
abbrev pub IsRefused : List ℕ → Refusal → Type 0
IsRefused bytes refusal = (translating bytes).stops refusal

-- The tokens of a text of at most so many bytes as a file may have
pub record AreTokensOf (bytes : List ℕ) (tokens : List Token) : Type 0 where
  pub tokens_of : TokensOf bytes tokens
  pub few : length tokens ≤ FILE_BYTES
