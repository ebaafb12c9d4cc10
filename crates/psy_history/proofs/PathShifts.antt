-- When paths are begun, and that they are due as well begun at another time.
use Rattle.std.proofs.Common.{ℕ, ◌+◌, ◌≤◌, List, [], ◌∷◌, arith}
use Rattle.psy_base.specs.declared.edge.Edge.{Edge}
use Rattle.psy_base.specs.Paths.{DueBy}

-- Begun no later before its end, a path is still due by then.
pub due_moved : (path : List Edge) (by start other begin : ℕ) → by + begin ≤ other + start → DueBy by start path → DueBy other begin path
due_moved [] by start other begin l h = tt {0}
due_moved (e ∷ []) by start other begin l h = omega (arith, l, h)
due_moved (e ∷ next ∷ path) by start other begin l h = due_moved (next ∷ path) by (start + e.len) other (begin + e.len) (omega (arith, l)) h

-- One edge more in front
pub due_front : (path : List Edge) (e : Edge) (by start : ℕ) → start + e.due ≤ by → DueBy by (start + e.len) path → DueBy by start (e ∷ path)
due_front [] e by start due h = due
due_front (next ∷ path) e by start due h = h

-- A path that is due by a date, and isn't empty, is begun by then.
pub due_begun : (path : List Edge) (e : Edge) (by start : ℕ) → DueBy by start (e ∷ path) → start ≤ by
due_begun [] e by start h = omega (arith, h)
due_begun (next ∷ path) e by start h = (let begun = due_begun path next by (start + e.len) h in omega (arith, begun))
