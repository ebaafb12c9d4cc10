-- The points that a way reaches first are those for which there are tops, whatever the calls count.
use Rattle.std.proofs.Common.{◌≡◌, ℕ, ◌+◌, ◌<◌, ◌≤◌, Bool, true, false, Option, List, [], Some, None, get_or, refl, sym, ap, subst, ◌∙◌, arith}
use Rattle.std.specs.Prelude.{⊤, ◌==◌, ◌↔◌, is_some, length, replicate}
use Rattle.std.specs.List.{All, Contains}
use Rattle.std.proofs.lemmas.Bool.{false≢true}
use Rattle.std.proofs.lemmas.List.Elements.{All-contains_itself}
use Rattle.std.proofs.lemmas.Option.{slice_get_within, get_or_from_slice_get}
use Rattle.psy_base.specs.declared.limits.TheConstants.{POINTS}
use Rattle.psy_tree.specs.declared.unit.AgentDecl.{AgentDecl}
use Rattle.psy_tree.specs.declared.unit.FunctionDecl.{FunctionDecl}
use Rattle.psy_tree.specs.declared.unit.Stmt.{Stmt}
use Rattle.psy_tree.specs.declared.unit.Unit.{Unit as Whole}
use Rattle.psy_meaning.specs.Kept.{IsAdvanceOf}
use Rattle.psy_meaning.specs.Paths.{NoneAdvances}
use Rattle.psy_meaning.specs.Rest.{rest, rests_of_list}
use Rattle.psy_meaning.specs.Statements.{Piece}
use Rattle.psy_meaning.specs.Sound.{IsSoundAgent}
use Rattle.psy_meaning.specs.Units.{IsBareAgent}
use Rattle.psy_meaning.specs.Ways.{Meter, IsWay}
use Rattle.psy_meaning.proofs.lemmas.RestsOf.{rests_count}
use Rattle.psy_flow.specs.declared.gauge.Gauge.TheVariants as gauge
use Rattle.psy_flow.specs.Agents.{IsAgentOf, IsKnown}
use Rattle.psy_meaning.specs.Flow.{IsNext}
use Rattle.psy_flow.specs.Reach.{marked, pieces_reach, numbers_of}
use Rattle.psy_flow.specs.Tops.{called, calls_most, pieces_tops}
use Rattle.psy_flow.proofs.Greatest.{IsTopTo, top_to, row_of}
use Rattle.psy_flow.proofs.MarkedNumbers.{numbered, numbers}
use Rattle.psy_flow.proofs.Related.{Either, pieces_related}

-- The marks of the points that are reached from one
abbrev pub marks_from : AgentDecl → ℕ → List Bool
marks_from agent point = marked (replicate (length agent.points) false) (pieces_reach (rest agent.stmts point))

pub marks_are : (agent : AgentDecl) (point : ℕ) (read marks before : List Bool) (count : ℕ) (stmts : List Stmt) →
    read ≡ marks → marks ≡ marked before (pieces_reach (rest stmts point)) → before ≡ replicate count false → count ≡ length agent.points → stmts ≡ agent.stmts → read ≡ marks_from agent point
marks_are agent point read marks before count stmts e f g h k =
    e ∙ f ∙ ap (λ ms. marked ms (pieces_reach (rest stmts point))) (g ∙ ap (λ n. replicate n false) h)
    ∙ ap (λ ss. marked (replicate (length agent.points) false) (pieces_reach (rest ss point))) k

module _ (functions : List FunctionDecl) (none : NoneAdvances functions) (pieces : List Piece) (to : ℕ) where
  abbrev calls : ℕ → ℕ
  calls = called (calls_most gauge.Steps functions)

  abbrev top : Option ℕ
  top = (pieces_tops gauge.Steps (Some to) calls pieces).to

  there_both : (a b : Option ℕ) → Either (λ m n. ⊤) (λ n. tt {0}) (λ a b c d p q. tt {0}) (λ a b c d p q. tt {0}) a b → is_some a ≡ is_some b
  there_both None None h = refl
  there_both None (Some b) h = absurd h
  there_both (Some a) None h = absurd h
  there_both (Some a) (Some b) h = refl

  reach_same : pieces_reach pieces to ≡ is_some top
  reach_same =
      there_both _ top (pieces_related (λ m n. ⊤) (λ n. tt {0}) (λ a b c d p q. tt {0}) (λ a b c d p q. tt {0}) gauge.Steps (called []) calls (λ f. tt {0}) (Some to) pieces).to

  way_there : (o : Option ℕ) → IsTopTo gauge.Steps (Some to) functions pieces o → is_some o ≡ true → (met : Meter) × IsWay functions pieces to met
  way_there None t h = absurd (false≢true h)
  way_there (Some n) ((p, met, asked, way, same), most) h = let e : p ≡ to = grind (arith, asked) in (met, subst (λ q. IsWay functions pieces q met) e way)

  top_there : (o : Option ℕ) (met : Meter) → IsTopTo gauge.Steps (Some to) functions pieces o → IsWay functions pieces to met → is_some o ≡ true
  top_there None met t way = let e : (to == to) ≡ true = grind arith in absurd (t to met e way)
  top_there (Some n) met t way = refl

  its_top : IsTopTo gauge.Steps (Some to) functions pieces top
  its_top = top_to gauge.Steps (Some to) functions calls pieces none (row_of gauge.Steps functions none)

  pub reached_way : pieces_reach pieces to ≡ true → (met : Meter) × IsWay functions pieces to met
  reached_way h = way_there top its_top (sym reach_same ∙ h)

  pub way_reached : (met : Meter) → IsWay functions pieces to met → pieces_reach pieces to ≡ true
  way_reached met way = reach_same ∙ top_there top met its_top way

module _ (unit : Whole) (number : ℕ) (agent : AgentDecl) (its : IsAgentOf unit number agent) (k : IsKnown unit number agent) where
  own : IsSoundAgent unit number agent
  own = k.sound.agents number agent its.1

  pub points_of : length agent.points ≡ length (rests_of_list agent.stmts) + 1
  points_of = omega (arith, own.points, rests_count agent.stmts)

  pub few_points : length agent.points ≤ POINTS
  few_points =
      let bare = its.0.bare.agents number agent (slice_get_within unit.agents number agent its.1) in
      let known = subst (IsBareAgent unit) (get_or_from_slice_get unit.agents number agent agent its.1) bare in
      known.limit

  module _ (point : ℕ) (points : List ℕ) (are : points ≡ numbers_of (marks_from agent point)) where
    pub numbers_next : (to : ℕ) → Contains points to ↔ IsNext unit.functions agent point to
    numbers_next to =
        let pieces = rest agent.stmts point in
        let count = length agent.points in (
          λ c. reached_way unit.functions k.none pieces to (numbered count to (pieces_reach pieces) (subst (λ l. Contains l to) are c)),
          λ next. subst (λ l. Contains l to) (sym are) (numbers count to (pieces_reach pieces) (k.inner point to next).1 (way_reached unit.functions k.none pieces to next.0 next.1)),
        )

    pub some_next : 0 < length points
    some_next = let (to, next) = k.goes_on point in let (i, less, is) = (numbers_next to).1 next in omega (arith, less)

    pub inner_next : All (IsAdvanceOf agent) points
    inner_next i p less = k.inner point (get_or points i p) ((numbers_next (get_or points i p)).0 (All-contains_itself points i p less))
