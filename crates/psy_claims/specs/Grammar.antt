-- How an assertion is written: its words.
use Rattle.std.specs.Prelude.{◌≡◌, ℕ, ◌^◌, ◌<◌, List, [], ◌∷◌, ◌++◌, FitsSigned, codes, decimal}
use Rattle.std.specs.Fmt.{signed_decimal}
use Rattle.std.specs.Int.{w32}
use Rattle.psy_assert.specs.declared.terms.Assertion.{Assertion}
use Rattle.psy_assert.specs.declared.terms.Claim.{Claim}
use Rattle.psy_assert.specs.declared.terms.Claim.TheVariants as claim
use Rattle.psy_assert.specs.declared.terms.Relation.{Relation}
use Rattle.psy_assert.specs.declared.terms.Relation.TheVariants as relation
use Rattle.psy_assert.specs.declared.terms.Span.{Span}
use Rattle.psy_assert.specs.declared.terms.Span.TheVariants as span

-- The sign of a relation
abbrev pub sign_of : Relation → List ℕ
sign_of relation.Equal = codes "=="
sign_of relation.Unequal = codes "!="
sign_of relation.Less = codes "<"
sign_of relation.AtMost = codes "<="
sign_of relation.Greater = codes ">"
sign_of relation.AtLeast = codes ">="

-- `VARIABLE REL NUMBER`, `no stop`, `no message on STREAM`, `some message on STREAM`
abbrev pub claim_words : Claim → List (List ℕ)
claim_words (claim.Values variable relation value) = variable.now ∷ sign_of relation ∷ signed_decimal value ∷ []
claim_words claim.NoStop = codes "no" ∷ codes "stop" ∷ []
claim_words (claim.NoMessage stream) = codes "no" ∷ codes "message" ∷ codes "on" ∷ stream.now ∷ []
claim_words (claim.SomeMessage stream) = codes "some" ∷ codes "message" ∷ codes "on" ∷ stream.now ∷ []

-- Nothing, `from D`, `by D`, `at D`, `at D..D`
abbrev pub date_words : Span → List (List ℕ)
date_words span.Always = []
date_words (span.From date) = codes "from" ∷ decimal date ∷ []
date_words (span.By date) = codes "by" ∷ decimal date ∷ []
date_words (span.At date) = codes "at" ∷ decimal date ∷ []
date_words (span.Between from to) = codes "at" ∷ (decimal from ++ codes ".." ++ decimal to) ∷ []

-- The value of a claim has 32 bits.
abbrev pub FitsClaim : Claim → Type 0
FitsClaim (claim.Values variable relation value) = FitsSigned w32 value
FitsClaim _ = Unit {0}

-- Dates have 64 bits.
abbrev pub FitSpan : Span → Type 0
FitSpan span.Always = Unit {0}
FitSpan (span.From date) = date < 2 ^ 64
FitSpan (span.By date) = date < 2 ^ 64
FitSpan (span.At date) = date < 2 ^ 64
FitSpan (span.Between from to) = (from < 2 ^ 64) × (to < 2 ^ 64)

-- The words are those of the assertion, whose value and dates have no more bits than there is room for.
pub record Spell (words : List (List ℕ)) (assertion : Assertion) : Type 0 where
  pub are : words ≡ claim_words assertion.claim ++ date_words assertion.span
  pub value : FitsClaim assertion.claim
  pub dates : FitSpan assertion.span

-- The words are those of no assertion.
abbrev pub SpellNone : List (List ℕ) → Type 0
SpellNone words = (assertion : Assertion) → Spell words assertion → ⊥
