-- How long a path is, from its first edge on.
use Rattle.std.proofs.Common.{◌≡◌, ◌⊎◌, ℕ, ◌+◌, ◌-◌, ◌≤◌, List, [], ◌∷◌, refl, inl, inr, arith}
use Rattle.psy_base.specs.declared.edge.Edge.{Edge}
use Rattle.psy_base.specs.Paths.{DueBy}
use Rattle.psy_window.specs.declared.span.Span.{Span}
use Rattle.psy_window.specs.declared.span.Span.TheVariants.{DueLast, FirstFree}
use Rattle.psy_window.specs.Table.{last_of, IsWithin}

-- A path that begins later and is due as much later is due by the same.
due_later : (d start later d' start' : ℕ) (path : List Edge) → d' ≡ d + later → start' ≡ start + later → DueBy d start path → DueBy d' start' path
due_later d start later d' start' [] ed es h = tt
due_later d start later d' start' (e ∷ []) ed es h = omega (arith, h)
due_later d start later d' start' (e ∷ f ∷ path) ed es h = due_later d (start + e.len) later d' (start' + e.len) (f ∷ path) ed (omega arith) h

-- A path begins by the date by which it is due.
due_start : (d start : ℕ) (e : Edge) (path : List Edge) → DueBy d start (e ∷ path) → start ≤ d
due_start d start e [] h = omega (arith, h)
due_start d start e (f ∷ path) h = let l : start + e.len ≤ d = due_start d (start + e.len) f path h in omega arith

due_earlier : (d start later d' start' : ℕ) (path : List Edge) → d' ≡ d + later → start' ≡ start + later → DueBy d' start' path → DueBy d start path
due_earlier d start later d' start' [] ed es h = tt
due_earlier d start later d' start' (e ∷ []) ed es h = omega (arith, h)
due_earlier d start later d' start' (e ∷ f ∷ path) ed es h = due_earlier d (start + e.len) later d' (start' + e.len) (f ∷ path) ed (omega arith) h

-- The empty path is as short as one likes.
pub within_nil : (span : Span) (within : ℕ) → IsWithin span within []
within_nil DueLast within = tt
within_nil FirstFree within = omega arith

-- One edge is as long as what counts of it.
pub within_one : (span : Span) (within : ℕ) (e : Edge) → last_of span e ≤ within → IsWithin span within (e ∷ [])
within_one DueLast within e h = omega (arith, h)
within_one FirstFree within e h = omega (arith, h)

-- An edge before a path makes it longer by its length.
pub within_cons : (span : Span) (within : ℕ) (e : Edge) (path : List Edge) → last_of span e ≤ within → e.len ≤ within → IsWithin span (within - e.len) path → IsWithin span within (e ∷ path)
within_cons DueLast within e [] last len h = omega (arith, last)
within_cons DueLast within e (f ∷ path) last len h = due_later (within - e.len) 0 e.len within (0 + e.len) (f ∷ path) (omega arith) (omega arith) h
within_cons FirstFree within e path last len h = omega (arith, h)

-- What counts of a path's first edge is no longer than the path.
pub within_first : (span : Span) (within : ℕ) (e : Edge) (path : List Edge) → e.due ≤ e.len → IsWithin span within (e ∷ path) → last_of span e ≤ within
within_first DueLast within e [] due h = omega (arith, h)
within_first DueLast within e (f ∷ path) due h = let l : 0 + e.len ≤ within = due_start within (0 + e.len) f path h in omega arith
within_first FirstFree within e path due h = omega (arith, h)

-- A path is one edge, or an edge before a path that is shorter by the edge's length.
pub within_rest : (span : Span) (within : ℕ) (e : Edge) (path : List Edge) → IsWithin span within (e ∷ path) → (path ≡ []) ⊎ ((e.len ≤ within) × IsWithin span (within - e.len) path)
within_rest DueLast within e [] h = inl refl
within_rest DueLast within e (f ∷ path) h =
    let l : 0 + e.len ≤ within = due_start within (0 + e.len) f path h in
    inr (omega arith, due_earlier (within - e.len) 0 e.len within (0 + e.len) (f ∷ path) (omega arith) (omega arith) h)
within_rest FirstFree within e path h = inr (omega (arith, h), omega (arith, h))
