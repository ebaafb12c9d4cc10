-- What writing a text to a sink did.
use Rattle.std.specs.Prelude.{◌≢◌, ℕ, List, [], drop, Option, Result, Ok, Err, MatchResult}
use Rattle.psy_door.specs.Growth.{Grew, GrewByFront}
use Rattle.psy_door.specs.declared.sink.Failed.{Failed}
use Rattle.psy_log.specs.declared.write.WriteFault.{WriteFault}

-- The whole text was added, or, where a write failed, a front of it
abbrev pub Written : Option (List ℕ) → Option (List ℕ) → Result (Unit {0}) WriteFault → List ℕ → Type 0
Written old now result text = MatchResult result (λ _. Grew old now text) (λ _. GrewByFront old now text)

-- A piece was handed to a sink, and so much of it is left: each call was given all that was left before it, and took a front.
-- What a call may answer, and as what it leaves the sink, is the sink's to say.
pub data Handed {S : Type 0} (call : S → List ℕ → Result ℕ Failed → S → Type 0) (old : S) (piece : List ℕ) : List ℕ → S → Type 0 where
  handed_nothing : Handed call old piece piece old
  handed_on : (left : List ℕ) (n : ℕ) (now next : S) → Handed call old piece left now → left ≢ [] → call now left (Ok n) next
      → Handed call old piece (drop n left) next

-- A piece was handed to a sink up to so much of it that is left, and the call with this failed.
abbrev pub HandedTo : {S : Type 0} → (S → List ℕ → Result ℕ Failed → S → Type 0) → S → List ℕ → List ℕ → S → Type 0
HandedTo {S} call old piece left now = (last : S) × (fault : Failed) × Handed call old piece left last × (left ≢ []) × call last left (Err fault) now

-- The calls in which a piece went to a sink: until nothing was left, or one failed.
abbrev pub Calls : {S : Type 0} → (S → List ℕ → Result ℕ Failed → S → Type 0) → S → List ℕ → Result (Unit {0}) WriteFault → S → Type 0
Calls call old piece result now = MatchResult result (λ _. Handed call old piece [] now) (λ fault. HandedTo call old piece (drop fault.taken piece) now)
