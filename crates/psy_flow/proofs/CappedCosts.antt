-- Costs counted up to the limit from calls counted up to it.
use Rattle.std.proofs.Common.{◌≡◌, ℕ, ◌+◌, min, max, List, [], ◌∷◌, ◌++◌, Option, Some, None, refl, sym, ap, subst, ◌∙◌, arith}
use Rattle.std.specs.Prelude.{unwrap_or}
use Rattle.psy_base.specs.declared.limits.TheConstants.{COST}
use Rattle.psy_tree.specs.declared.unit.AgentDecl.{AgentDecl}
use Rattle.psy_tree.specs.declared.unit.FunctionDecl.{FunctionDecl}
use Rattle.psy_meaning.specs.Paths.{NoneAdvances}
use Rattle.psy_meaning.specs.Rest.{rest}
use Rattle.psy_meaning.specs.Statements.{Piece}
use Rattle.psy_flow.specs.declared.gauge.Gauge.{Gauge}
use Rattle.psy_flow.specs.declared.gauge.Gauge.TheVariants as gauge
use Rattle.psy_flow.specs.declared.tops.Tops.{Tops}
use Rattle.psy_meaning.specs.Flow.{IsNext, HasCost, IsCut}
use Rattle.psy_flow.specs.Tops.{limit_of, called, call_most, stmts_tops, pieces_tops, calls_from, calls_most, capped_count, capped_tops, capped_from}
use Rattle.psy_flow.proofs.Greatest.{IsTopTo, top_to, row_of}
use Rattle.psy_flow.proofs.Related.{Either, Related, Rows, call_related, rows_more, row_related, stmts_related, pieces_related}

-- The same as far as is counted
abbrev pub Same : ℕ → ℕ → ℕ → Type 0
Same limit a b = min a limit ≡ min b limit

sums : (limit a b c d : ℕ) → Same limit a b → Same limit c d → Same limit (a + c) (b + d)
sums limit a b c d p q = omega (arith, p, q)

maxima : (limit a b c d : ℕ) → Same limit a b → Same limit c d → Same limit (max a c) (max b d)
maxima limit a b c d p q = omega (arith, p, q)

same_count : (g : Gauge) (a b : Option ℕ) → Either (Same (limit_of g)) (λ n. refl) (sums (limit_of g)) (maxima (limit_of g)) a b → capped_count g a ≡ capped_count g b
same_count g None None h = refl
same_count g None (Some b) h = absurd h
same_count g (Some a) None h = absurd h
same_count g (Some a) (Some b) h = ap Some h

abbrev tops : Option ℕ → Option ℕ → Option ℕ → Tops
tops fell back to = record { fell = fell; back = back; to = to }

same_tops : (g : Gauge) (t u : Tops) → Related (Same (limit_of g)) (λ n. refl) (sums (limit_of g)) (maxima (limit_of g)) t u → capped_tops g t ≡ capped_tops g u
same_tops g t u h =
    ap (λ o. tops o (capped_count g t.back) (capped_count g t.to)) (same_count g t.fell u.fell h.fell)
    ∙ ap (λ o. tops (capped_count g u.fell) o (capped_count g t.to)) (same_count g t.back u.back h.back)
    ∙ ap (tops (capped_count g u.fell) (capped_count g u.back)) (same_count g t.to u.to h.to)

module _ (g : Gauge) where
  abbrev limit : ℕ
  limit = limit_of g

  abbrev SameRows : List ℕ → List ℕ → Type 0
  SameRows = Rows (Same limit) (λ n. refl) (sums limit) (maxima limit)

  same_calls : (xs ys : List ℕ) → SameRows xs ys → (f : ℕ) → Same limit (called xs f) (called ys f)
  same_calls xs ys h f = row_related (Same limit) (λ n. refl) (sums limit) (maxima limit) xs ys f h

  same_from : (xs ys : List ℕ) (functions : List FunctionDecl) → SameRows xs ys → SameRows (capped_from g xs functions) (calls_from g ys functions)
  same_from xs ys [] h = h
  same_from xs ys (f ∷ fs) h =
      let a = call_most g (stmts_tops g None (called xs) f.stmts) in
      let b = call_most g (stmts_tops g None (called ys) f.stmts) in
      let one : Same limit a b = call_related (Same limit) (λ n. refl) (sums limit) (maxima limit) g _ _ (stmts_related (Same limit) (λ n. refl) (sums limit) (maxima limit) g (called xs) (called ys) (same_calls xs ys h) None f.stmts) in
      let cut : Same limit (min a limit) b = omega (arith, one) in
      same_from (xs ++ min a limit ∷ []) (ys ++ b ∷ []) fs (rows_more (Same limit) (λ n. refl) (sums limit) (maxima limit) xs ys (min a limit) b h cut)

  -- Capping the counts of calls changes no capped count.
  pub capped_calls : (wanted : Option ℕ) (functions : List FunctionDecl) (pieces : List Piece) → capped_tops g (pieces_tops g wanted (called (capped_from g [] functions)) pieces) ≡ capped_tops g (pieces_tops g wanted (called (calls_most g functions)) pieces)
  capped_calls wanted functions pieces =
      same_tops g _ _ (pieces_related (Same limit) (λ n. refl) (sums limit) (maxima limit) g (called (capped_from g [] functions)) (called (calls_most g functions)) (same_calls _ _ (same_from [] [] functions (tt {0}))) wanted pieces)

cut_of : (functions : List FunctionDecl) (agent : AgentDecl) (point : ℕ) (o : Option ℕ) → (to : ℕ) × IsNext functions agent point to → IsTopTo gauge.Steps None functions (rest agent.stmts point) o → IsCut (HasCost functions agent point) COST (unwrap_or (capped_count gauge.Steps o) 0)
cut_of functions agent point None (to, (met, way)) top = absurd (top to met refl way)
cut_of functions agent point (Some n) next ((to, met, asked, way, same), most) = (
  n,
  record { one = (to, met, way, same); most = λ m has. let (to', met', way', same') = has in omega (arith, most to' met' refl way', same') },
  refl,
)

-- The greatest cost from a point, cut at its limit, is what the tops of its rest say.
pub greatest_cost : (functions : List FunctionDecl) (agent : AgentDecl) (point : ℕ) → NoneAdvances functions → (to : ℕ) × IsNext functions agent point to → IsCut (HasCost functions agent point) COST (unwrap_or (capped_count gauge.Steps (pieces_tops gauge.Steps None (called (calls_most gauge.Steps functions)) (rest agent.stmts point)).to) 0)
greatest_cost functions agent point none next =
    let pieces = rest agent.stmts point in
    let calls = called (calls_most gauge.Steps functions) in
    cut_of functions agent point (pieces_tops gauge.Steps None calls pieces).to next (top_to gauge.Steps None functions calls pieces none (row_of gauge.Steps functions none))

pub some_cost : (functions : List FunctionDecl) (agent : AgentDecl) (point : ℕ) → NoneAdvances functions → (to : ℕ) × IsNext functions agent point to → (cost : ℕ) × IsCut (HasCost functions agent point) COST cost
some_cost functions agent point none next = (_, greatest_cost functions agent point none next)

pub worst_cut : (functions : List FunctionDecl) (agent : AgentDecl) (point : ℕ) (t : Tops) (row : List ℕ) → NoneAdvances functions → (to : ℕ) × IsNext functions agent point to → row ≡ capped_from gauge.Steps [] functions → t ≡ capped_tops gauge.Steps (pieces_tops gauge.Steps None (called row) (rest agent.stmts point)) → IsCut (HasCost functions agent point) COST (unwrap_or t.to 0)
worst_cut functions agent point t row none next e h =
    let pieces = rest agent.stmts point in
    let calls = called (calls_most gauge.Steps functions) in
    let there : t ≡ capped_tops gauge.Steps (pieces_tops gauge.Steps None calls pieces) = h ∙ ap (λ r. capped_tops gauge.Steps (pieces_tops gauge.Steps None (called r) pieces)) e ∙ capped_calls gauge.Steps None functions pieces in
    subst (λ o. IsCut (HasCost functions agent point) COST (unwrap_or o 0)) (sym (ap (λ (u : Tops). u.to) there))
    (greatest_cost functions agent point none next)
