-- Faults by their places: where the first faulty part decides which fault is the least.
use Rattle.std.proofs.Common.{◌≡◌, ◌∙◌, ℕ, suc, ◌<◌, ◌≤◌, Bool, true, false, cond, List, [], ◌∷◌, ◌++◌, append-nil, append_assoc, Option, Some, None, refl, sym, ap, subst, arith}
use Rattle.std.specs.Prelude.{⊤}
use Rattle.std.proofs.lemmas.Bool.{eq-eqb, le-ltb, lt-ltb, ne_eqb}
use Rattle.psy_snap.specs.Cuts.{At}
use Rattle.psy_snap.specs.Faults.{Fault, least_fault, lesser, stands_before}

-- They have so many bytes before them, or more.
abbrev pub Above : ℕ → List Fault → Type 0
Above place [] = ⊤
Above place (f ∷ faults) = (place ≤ f.place) × Above place faults

-- They are of the bytes from there on: there are none, where nothing more is read.
abbrev pub Behind : At → List Fault → Type 0
Behind None faults = faults ≡ []
Behind (Some at) faults = Above at.0 faults

-- Faults of what is read from one place up to another, whatever comes behind
abbrev pub Onward : At → List Fault → At → Type 0
Onward at faults on = (later : List Fault) → Behind on later → Behind at (faults ++ later)

-- This one is the least, whatever comes behind.
abbrev pub Decides : List Fault → At → Fault → Type 0
Decides faults on f = (later : List Fault) → Behind on later → least_fault (faults ++ later) ≡ Some f

-- ---- places

pub above_less : (place least : ℕ) (faults : List Fault) → least ≤ place → Above place faults → Above least faults
above_less place least [] le above = tt
above_less place least (f ∷ faults) le above = (omega (arith, le, above.0), above_less place least faults le above.1)

above_both : (place : ℕ) (faults later : List Fault) → Above place faults → Above place later → Above place (faults ++ later)
above_both place [] later above behind = behind
above_both place (f ∷ faults) later above behind = (above.0, above_both place faults later above.1 behind)

pub behind_none : (at : At) → Behind at []
behind_none None = refl
behind_none (Some at) = tt

pub onward_none : (at : At) → Onward at [] at
onward_none at = λ later behind. behind

pub onward_then : (at mid on : At) (faults more : List Fault) → Onward at faults mid → Onward mid more on → Onward at (faults ++ more) on
onward_then at mid on faults more first second =
    λ later behind. subst (λ fs. Behind at fs) (sym (append_assoc faults more later)) (first (more ++ later) (second later behind))

-- ---- the least

abbrev AtLeast : ℕ → Option Fault → Type 0
AtLeast place None = ⊤
AtLeast place (Some f) = place ≤ f.place

either_at_least : (place : ℕ) (b : Bool) (f g : Fault) → place ≤ f.place → place ≤ g.place → place ≤ (cond b g f).place
either_at_least place true f g first second = second
either_at_least place false f g first second = first

lesser_at_least : (place : ℕ) (f : Fault) (least : Option Fault) → place ≤ f.place → AtLeast place least → place ≤ (lesser f least).place
lesser_at_least place f None first second = first
lesser_at_least place f (Some g) first second = either_at_least place (stands_before g f) f g first second

least_at_least : (place : ℕ) (faults : List Fault) → Above place faults → AtLeast place (least_fault faults)
unfolding least_fault
least_at_least place [] above = tt
least_at_least place (f ∷ faults) above = lesser_at_least place f (least_fault faults) above.0 (least_at_least place faults above.1)

not_before : (f g : Fault) → f.place < g.place → stands_before g f ≡ false
not_before f g less = rw (le-ltb g.place f.place (omega (arith, less)), ne_eqb g.place f.place (λ same. absurd (omega (arith, less, same)))) refl

lesser_first : (f : Fault) (least : Option Fault) → AtLeast (suc f.place) least → lesser f least ≡ f
lesser_first f None at_least = refl
lesser_first f (Some g) at_least = ap (λ b. cond b g f) (not_before f g (omega (arith, at_least)))

first_least : (f : Fault) (faults : List Fault) → Above (suc f.place) faults → least_fault (f ∷ faults) ≡ Some f
unfolding least_fault
first_least f faults above = ap Some (lesser_first f (least_fault faults) (least_at_least (suc f.place) faults above))

-- ---- which fault is the least

pub decides_then : (mid on : At) (faults more : List Fault) (f : Fault) → Decides faults mid f → Onward mid more on → Decides (faults ++ more) on f
decides_then mid on faults more f first second =
    λ later behind. subst (λ fs. least_fault fs ≡ Some f) (sym (append_assoc faults more later)) (first (more ++ later) (second later behind))

-- A fault before all others
pub decides_first : (f : Fault) (bytes : List ℕ) (faults : List Fault) (on : At) → Onward (Some (suc f.place, bytes)) faults on → Decides (f ∷ faults) on f
decides_first f bytes faults on onward = λ later behind. first_least f (faults ++ later) (onward later behind)

same_place : (number place : ℕ) → 1 < number → stands_before (record { number = 1; place = place }) (record { number = number; place = place }) ≡ true
same_place number place less = rw (le-ltb place place (omega arith), eq-eqb place place refl, lt-ltb 1 number less) refl

-- A field's fault before that of the part that begins with it
pub decides_field : (number place : ℕ) (bytes : List ℕ) (faults : List Fault) (on : At) → 1 < number → Onward (Some (suc place, bytes)) faults on
    → Decides ((record { number = number; place = place }) ∷ (record { number = 1; place = place }) ∷ faults) on (record { number = 1; place = place })
unfolding least_fault
decides_field number place bytes faults on less onward = λ later behind.
    let field : Fault = record { number = 1; place = place } in
    let part : Fault = record { number = number; place = place } in
    let second : least_fault (field ∷ (faults ++ later)) ≡ Some field = first_least field (faults ++ later) (onward later behind) in
    ap (λ least. Some (lesser part least)) second ∙ ap (λ b. Some (cond b field part)) (same_place number place less)

-- Nothing comes behind.
pub decides_all : (faults : List Fault) (on : At) (f : Fault) → Decides faults on f → least_fault faults ≡ Some f
decides_all faults on f decides = subst (λ fs. least_fault fs ≡ Some f) (append-nil faults) (decides [] (behind_none on))
