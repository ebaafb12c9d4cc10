-- How a piece goes to a sink, call by call.
use Rattle.std.proofs.Common.{◌≡◌, ◌≢◌, ◌∙◌, sym, ap, subst, ℕ, ◌+◌, ◌-◌, ◌<◌, ◌≤◌, List, [], length, drop, Result, Ok, Err, arith}
use Rattle.std.proofs.lemmas.List.{drop-drop, length-drop}
use Rattle.std.proofs.Math.ListN.{drop_of_length-le}
use Rattle.psy_door.specs.declared.sink.Failed.{Failed}
use Rattle.psy_log.specs.Writing.{Handed, handed_on, HandedTo}

some-left : (piece : List ℕ) (taken : ℕ) → taken < length piece → drop taken piece ≢ []
some-left piece taken h is =
    let none : length piece - taken ≡ 0 = sym (length-drop taken piece) ∙ ap length is in
    absurd (omega (arith, h, none))

-- One more call took some of what was left.
pub handed-next : {S : Type 0} (call : S → List ℕ → Result ℕ Failed → S → Type 0) (old now next : S) (piece : List ℕ) (taken n : ℕ) → taken < length piece
    → Handed call old piece (drop taken piece) now → call now (drop taken piece) (Ok n) next → Handed call old piece (drop (taken + n) piece) next
handed-next call old now next piece taken n h handed called =
    subst (λ left. Handed call old piece left next) (drop-drop n taken piece) (handed_on (drop taken piece) n now next handed (some-left piece taken h) called)

-- The call with what was left failed.
pub handed-to : {S : Type 0} (call : S → List ℕ → Result ℕ Failed → S → Type 0) (old last now : S) (fault : Failed) (piece : List ℕ) (taken : ℕ) → taken < length piece
    → Handed call old piece (drop taken piece) last → call last (drop taken piece) (Err fault) now → HandedTo call old piece (drop taken piece) now
handed-to call old last now fault piece taken h handed called = (last, fault, handed, some-left piece taken h, called)

-- Nothing was left.
pub handed-all : {S : Type 0} (call : S → List ℕ → Result ℕ Failed → S → Type 0) (old now : S) (piece : List ℕ) (taken : ℕ) → length piece ≤ taken
    → Handed call old piece (drop taken piece) now → Handed call old piece [] now
handed-all call old now piece taken h handed = subst (λ left. Handed call old piece left now) (drop_of_length-le piece h) handed
