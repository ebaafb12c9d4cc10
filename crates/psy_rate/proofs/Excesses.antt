-- The excess of a path, and of an edge before a path.
use Rattle.std.proofs.Common.{◌≡◌, ℕ, ◌+◌, ◌-◌, ◌*◌, ◌<◌, ◌≤◌, List, [], ◌∷◌, refl, inl, inr, arith}
use Rattle.std.specs.List.{Contains}
use Rattle.std.proofs.lemmas.Bool.{cases_lt}
use Rattle.std.proofs.Math.Nat.{mul-add, mul-le-mul_left}
use Rattle.psy_base.specs.declared.edge.Edge.{Edge}
use Rattle.psy_base.specs.Paths.{IsPathFrom, weight_of}
use Rattle.psy_rate.specs.Lines.{due_of}
use Rattle.psy_rate.specs.Rows.{excess, IsWithin}
use Rattle.psy_rate.specs.declared.line.TheConstants.{SCALE}

-- A greater number is above it too.
pub within_more : (rate n m : ℕ) (path : List Edge) → n ≤ m → IsWithin rate n path → IsWithin rate m path
within_more rate n m path more within = omega arith

-- The empty path has none.
pub within_nil : (rate n : ℕ) → IsWithin rate n []
within_nil rate n = omega arith

-- An edge before a path has at most what the edge gives over the path's.
pub within_cons : (rate behind n : ℕ) (e : Edge) (path : List Edge) → IsWithin rate behind path → excess rate e behind ≤ n → IsWithin rate n (e ∷ path)
within_cons rate behind n e [] within given = omega (arith, given)
within_cons rate behind n e (f ∷ path) within given =
    let due : rate * (e.len + due_of (f ∷ path)) ≡ rate * e.len + rate * due_of (f ∷ path) = mul-add rate e.len (due_of (f ∷ path)) in
    omega (arith, within, given, due)

-- What an edge gives, if it is more than 0, is the excess of a path that begins with it.
pub given_one : (graph : List Edge) (rate behind : ℕ) (e : Edge) → Contains graph e → e.due ≤ e.len → 0 < excess rate e behind
    → (path : List Edge) × IsPathFrom graph e.to path × (SCALE * weight_of path ≡ rate * due_of path + behind)
    → (path : List Edge) × IsPathFrom graph e.from path × (SCALE * weight_of path ≡ rate * due_of path + excess rate e behind)
given_one graph rate behind e in' due some from =
    elim (cases_lt (SCALE * e.weight - rate * e.due) (SCALE * e.weight + behind - rate * e.len)) [
      | inr alone ↦ (e ∷ [], (in', refl, tt), omega (arith, alone, some))
      | inl longer ↦ (e ∷ from.0, (in', refl, from.1), before from.0 from.2 longer)
    ]
  where
    before : (path : List Edge) → SCALE * weight_of path ≡ rate * due_of path + behind → SCALE * e.weight - rate * e.due < SCALE * e.weight + behind - rate * e.len → SCALE * weight_of (e ∷ path) ≡ rate * due_of (e ∷ path) + excess rate e behind
    before [] is longer = let l : rate * e.due ≤ rate * e.len = mul-le-mul_left rate due in omega (arith, is, longer, l)
    before (f ∷ path) is longer =
        let l : rate * (e.len + due_of (f ∷ path)) ≡ rate * e.len + rate * due_of (f ∷ path) = mul-add rate e.len (due_of (f ∷ path)) in
        omega (arith, is, longer, l)
