-- What an action looks at, and what its eyes leave.
use Rattle.std.proofs.Common.{◌≡◌, ℕ, ◌+◌, ◌*◌, ◌==◌, ◌<◌, ◌≤◌, true, List, Option, Some, slice_get, sym, ap, ◌∙◌, arith}
use Rattle.std.specs.Prelude.{option_map}
use Rattle.std.proofs.lemmas.Bool.{eqb-true}
use Rattle.std.proofs.lemmas.Option.{slice_get-map}
use Rattle.std.proofs.lemmas.Nat.{mul-le}
use Rattle.psy_tree.specs.declared.unit.StreamDecl.{StreamDecl}
use Rattle.psy_kernel.specs.Seeing.{Sight, is_mine}

-- The cycles of a run fit
pub fits : (cycle until quantum : ℕ) → cycle < until * quantum → until ≤ 4294967295 → quantum ≤ 1000000 → cycle + 1 < 18446744073709551616
fits cycle until quantum run most small = omega (arith, run, mul-le until quantum 4294967295 1000000 most small)

-- What the eyes hold last is what they leave
pub same_count : (taken taken' : List ℕ) (stream : ℕ) (n : Option ℕ) → taken ≡ taken' → slice_get taken stream ≡ n → slice_get taken' stream ≡ n
same_count taken taken' stream n e at = sym (ap (λ ns. slice_get ns stream) e) ∙ at

-- A stream that another agent receives isn't the agent's
pub not_mine : (sight : Sight) (stream : ℕ) (decl : StreamDecl) → slice_get sight.streams stream ≡ Some decl → (decl.receiver ≡ sight.agent → ⊥) → is_mine sight stream ≡ Some true → ⊥
not_mine sight stream decl at other mine =
    let test : Some (decl.receiver == sight.agent) ≡ Some true =
    sym (ap (λ o. option_map (λ (d : StreamDecl). d.receiver == sight.agent) o) at) ∙ sym (slice_get-map (λ (d : StreamDecl). d.receiver == sight.agent) sight.streams stream) ∙ mine in
    let same : (decl.receiver == sight.agent) ≡ true = cc in
    other (eqb-true decl.receiver sight.agent same)
