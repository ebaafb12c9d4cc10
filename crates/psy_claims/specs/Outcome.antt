-- What comes of the assertions of a text on a log.
use Rattle.std.specs.Prelude.{◌≡◌, ℕ, not, List, Option, find, option_map}
use Rattle.psy_log.specs.declared.note.Note.{Note}
use Rattle.psy_text.specs.Lines.{lines_of}
use Rattle.psy_assert.specs.Verdicts.{is_kept, verdict_of}
use Rattle.psy_claims.specs.declared.claimed.Claimed.{Claimed}
use Rattle.psy_claims.specs.Breaches.{failure_text}
use Rattle.psy_claims.specs.Claims.{Say}

-- The first of some assertions that a run doesn't keep
abbrev pub first_failing : List Note → List Claimed → Option Claimed
first_failing notes claims = find (λ claimed. not (is_kept (verdict_of claimed.assertion notes))) claims

-- The lines of a text say assertions, and this is told: the first of them that the run doesn't keep; nothing where it keeps all.
pub record IsTried (name : List ℕ) (notes : List Note) (text : List ℕ) (told : Option (List ℕ)) : Type 0 where
  pub said : List Claimed
  pub say : Say notes 1 (lines_of text) said
  pub tells : told ≡ option_map (λ claimed. failure_text name claimed (verdict_of claimed.assertion notes)) (first_failing notes said)
