-- What is told of an assertion that a run doesn't keep.
use Rattle.std.specs.Prelude.{ℕ, ℤ, List, [], ◌++◌, codes, decimal}
use Rattle.std.specs.Fmt.{signed_decimal}
use Rattle.psy_log.specs.declared.note.Note.{Note}
use Rattle.psy_log.specs.declared.note.Note.TheVariants as note
use Rattle.psy_log.specs.Forms.{trap_name}
use Rattle.psy_assert.specs.declared.terms.Claim.{Claim}
use Rattle.psy_assert.specs.declared.terms.Claim.TheVariants as claim
use Rattle.psy_assert.specs.declared.verdict.Verdict.{Verdict}
use Rattle.psy_assert.specs.declared.verdict.Verdict.TheVariants as verdict
use Rattle.psy_claims.specs.declared.claimed.Claimed.{Claimed}

-- `DATE: NAME`, what is told of it, and VALUE
abbrev pub value_text : ℕ → List ℕ → List ℕ → ℤ → List ℕ
value_text date name told value = decimal date ++ codes ": " ++ name ++ told ++ signed_decimal value ++ codes "\n"

-- `DATE: AGENT is stopped: HOW`
abbrev pub stop_text : ℕ → List ℕ → List ℕ → List ℕ
stop_text date agent how = decimal date ++ codes ": " ++ agent ++ codes " is stopped: " ++ how ++ codes "\n"

-- The note that breaks it: its date, and what it tells
abbrev pub broken_by_text : Note → List ℕ
broken_by_text (note.Value date variable value) = value_text date variable.now (codes " is ") value
broken_by_text (note.Message date stream value) = value_text date stream.now (codes " has the message ") value
broken_by_text (note.StopOverrun date agent) = stop_text date agent.now (codes "overrun")
broken_by_text (note.StopTrap date agent kind) = stop_text date agent.now (codes "trap " ++ trap_name kind)
broken_by_text _ = []

-- What is missing
abbrev pub missing_text : Claim → List ℕ
missing_text (claim.Values variable relation value) = variable.now ++ codes " has no value\n"
missing_text (claim.SomeMessage stream) = stream.now ++ codes " has no message\n"
missing_text _ = []

-- What breaks a claim, by what comes of it
abbrev pub breach_text : Claim → Verdict → List ℕ
breach_text claimed verdict.Kept = []
breach_text claimed (verdict.Broken note) = broken_by_text note
breach_text claimed verdict.Missing = missing_text claimed

-- Where an assertion stands, in a file of this name: its line
abbrev pub place_text : List ℕ → ℕ → List ℕ → List ℕ
place_text name number line = name ++ codes ":" ++ decimal number ++ codes ": " ++ line ++ codes "\n"

-- The line of the assertion, and what breaks it
abbrev pub failure_text : List ℕ → Claimed → Verdict → List ℕ
failure_text name claimed verdict = place_text name claimed.number claimed.line.now ++ breach_text claimed.assertion.claim verdict
