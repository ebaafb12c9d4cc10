-- What is ready for the first owner, and for each of them once its places are explored.
use Rattle.std.proofs.Common.{◌≡◌, ℕ, zero, suc, Bool, true, false, List, [], length, get_or, refl, sym, ap, ◌∙◌, arith}
use Rattle.std.specs.Prelude.{Option, replicate}
use Rattle.psy_code.specs.declared.code.Code.{Code}
use Rattle.psy_flow.specs.Owners.{Agent, Function, Owner}
use Rattle.psy_flow.specs.Verified.{HasEnd}
use Rattle.psy_judge.specs.declared.heights.Top.{Top}
use Rattle.psy_judge.specs.declared.heights.Top.TheVariants as top
use Rattle.psy_judge.specs.declared.needs.Need.{Need}
use Rattle.psy_code.specs.declared.instr.Instr.{Instr}
use Rattle.std.proofs.lemmas.Bool.{false≢true}
use Rattle.psy_judge.specs.Ending.{AreEnds}
use Rattle.psy_judge.specs.Judged.{Judges}
use Rattle.psy_judge.specs.Owned.{IsExplored, functions_before}
use Rattle.psy_judge.proofs.CallsJudged.{AreKnown}
use Rattle.psy_judge.specs.Walked.{ArePassedFrom}
use Rattle.psy_judge.proofs.RowsTaken.{nothing_or_met}
use Rattle.psy_judge.specs.Highest.{AreSmall, AreStarts, AreTops, IsEmpty, top_at}
use Rattle.psy_judge.specs.Judging.{AreNeeds, AreReached}

-- ---- needs

pub needs_none : (code : Code) → AreNeeds code 0 []
needs_none code = record { size = refl; each = λ f less. absurd (omega (arith, less)) }

-- ---- a row without heights

pub no_heights_empty : (count : ℕ) (row : List Top) → row ≡ replicate count top.Nothing → IsEmpty count row
no_heights_empty count row same = (ap length same ∙ size count, λ place. ap (λ (r : List Top). top_at r place) same ∙ none count place)
  where
    size : (n : ℕ) → length (replicate n top.Nothing) ≡ n
    size zero = refl
    size (suc n) = ap suc (size n)

    none : (n p : ℕ) → get_or (replicate n top.Nothing) p top.Nothing ≡ top.Nothing
    none zero p = refl
    none (suc n) zero = refl
    none (suc n) (suc p) = none n p

-- ---- explored

pub reached_of : (code : Code) (owner : Owner) (starts places : List ℕ) → AreStarts code owner starts → ArePassedFrom code.instrs starts places → AreReached code owner places
reached_of code owner starts places begins are = λ place. (
  (λ has. (let (within, (start, from, passed)) = (are.each place).0 has in (within, (start, (begins start).0 from, passed)))),
  (λ (within, (start, begun, passed)). (are.each place).1 (within, (start, (begins start).1 begun, passed))),
)

pub explored_of : (code : Code) (owner : Owner) (starts places : List ℕ) (row : List Top) → AreStarts code owner starts → ArePassedFrom code.instrs starts places → AreTops code owner row → length row ≡ length code.instrs
    → AreSmall (length code.instrs) row → IsExplored code owner places row
explored_of code owner starts places row begins are tops size small = record {
  reached = reached_of code owner starts places begins are;
  tops = tops;
  size = size;
  small = small;
  listed = nothing_or_met code owner starts places row begins are size tops.found;
}

pub ends_tells : (instrs : List Instr) (ends : List Bool) (place : ℕ) → AreEnds instrs ends → Judges (get_or ends place false) (HasEnd instrs place)
ends_tells instrs ends place are = by (get_or ends place false) refl
  where
    by : (b : Bool) → get_or ends place false ≡ b → Judges b (HasEnd instrs place)
    by true e = (are.each place).0 e
    by false e = λ has. false≢true (sym e ∙ (are.each place).1 has)

-- An agent's needs are those of all functions.
pub needs_known : (code : Code) (owner : Owner) (needs : List (Option Need)) → AreNeeds code (functions_before code owner) needs → AreKnown code needs owner
needs_known code (Agent number) needs are = are
needs_known code (Function number) needs are = tt {0}
