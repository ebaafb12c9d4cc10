-- What explains a refusal that tells a place explains its line.
use Rattle.std.proofs.Common.{ℕ, List, Result, Ok, Err}
use Rattle.std.specs.Prelude.{IfOk}
use Rattle.psy_where.specs.declared.fault.WhereFault.{WhereFault}
use Rattle.psy_where.specs.declared.recall.Refusal.{Refusal}
use Rattle.psy_where.specs.Refusals.{IsRefusal}
use Rattle.psy_where.specs.Explained.{IsPlaced, Explains, of_place}

pub explains_placed : {A : Type 0} (bytes : A → List ℕ) (name text line : List ℕ) (refusal : Refusal) (sentence : List ℕ) (answer : Result A WhereFault) → IsRefusal line refusal sentence
    → IfOk answer (λ a. IsPlaced name text refusal sentence (bytes a)) → IfOk answer (λ a. Explains name text line (bytes a))
explains_placed bytes name text line refusal sentence (Ok a) says placed = of_place refusal sentence says placed
explains_placed bytes name text line refusal sentence (Err e) says placed = tt
