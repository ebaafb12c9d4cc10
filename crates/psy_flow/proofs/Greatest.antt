-- The tops of pieces are the greatest counts of their ways.
use Rattle.std.proofs.Common.{◌≡◌, ℕ, ◌+◌, ◌≤◌, true, List, Option, Some, None, refl, arith}
use Rattle.psy_tree.specs.declared.unit.FunctionDecl.{FunctionDecl}
use Rattle.psy_meaning.specs.Paths.{NoneAdvances}
use Rattle.psy_meaning.specs.Statements.{Piece}
use Rattle.psy_meaning.specs.Ways.{Meter, Way, Course, unmetered, IsWay, callee_ways, courses_through, piece_course}
use Rattle.psy_flow.specs.declared.gauge.Gauge.{Gauge}
use Rattle.psy_flow.specs.declared.gauge.Gauge.TheVariants as gauge
use Rattle.psy_flow.specs.Tops.{count_of, meets, called, calls_most, pieces_tops}
use Rattle.psy_flow.proofs.TopsOf.{IsTop, AreTops, asked, fits_pieces}
use Rattle.psy_flow.proofs.CallTops.{most_callees}

-- From whatever was met, a call counts so much at most, and so much on one way.
pub record IsRow (g : Gauge) (functions : List FunctionDecl) (calls : ℕ → ℕ) : Type 0 where
  pub one : (f : ℕ) (before : Meter) → (now : Meter) × callee_ways functions f before now × (count_of g now ≡ count_of g before + calls f)
  pub most : (f : ℕ) (before now : Meter) → callee_ways functions f before now → count_of g now ≤ count_of g before + calls f

-- The greatest count of the ways to a point that is asked for; none where there is no such way
abbrev pub IsTopTo : Gauge → Option ℕ → List FunctionDecl → List Piece → Option ℕ → Type 0
IsTopTo g wanted functions pieces None = (to : ℕ) (met : Meter) → meets wanted to ≡ true → IsWay functions pieces to met → ⊥
IsTopTo g wanted functions pieces (Some n) =
    ((to : ℕ) × (met : Meter) × (meets wanted to ≡ true) × IsWay functions pieces to met × (count_of g met ≡ n))
    × ((to : ℕ) (met : Meter) → meets wanted to ≡ true → IsWay functions pieces to met → count_of g met ≤ n)

pub top_to : (g : Gauge) (wanted : Option ℕ) (functions : List FunctionDecl) (calls : ℕ → ℕ) (pieces : List Piece) → NoneAdvances functions → IsRow g functions calls → IsTopTo g wanted functions pieces (pieces_tops g wanted calls pieces).to
top_to g wanted functions calls pieces none row =
    let ways : ℕ → Way = callee_ways functions in
    let course : Course = courses_through (piece_course ways) pieces in
    let fits : AreTops g wanted course (pieces_tops g wanted calls pieces) = fits_pieces g wanted ways calls (λ f. record { some = row.one f; most = row.most f }) pieces in
    from_nothing (pieces_tops g wanted calls pieces).to fits.to
  where
    nothing : (g : Gauge) → count_of g unmetered ≡ 0
    nothing gauge.Steps = refl
    nothing (gauge.Sends stream) = refl
    nothing (gauge.Looks variable) = refl

    from_nothing : (o : Option ℕ) → IsTop g (asked wanted (courses_through (piece_course (callee_ways functions)) pieces)) o → IsTopTo g wanted functions pieces o
    from_nothing None p = λ to met h w. p unmetered met (to, h, w)
    from_nothing (Some n) p =
        let w = p.some unmetered in (
          (w.1.0, w.0, w.1.1, w.1.2, omega (arith, w.2, nothing g)),
          (λ to met h v. omega (arith, p.most unmetered met (to, h, v), nothing g)),
        )

pub row_of : (g : Gauge) (functions : List FunctionDecl) → NoneAdvances functions → IsRow g functions (called (calls_most g functions))
row_of g functions none = record { one = λ f. (most_callees g functions none f).some; most = λ f. (most_callees g functions none f).most }
