-- A plan of an image whose code was checked and whose demand is supplied by its ways: it fits.
use Rattle.std.proofs.Common.{◌≡◌, ◌∙◌, sym, subst, ℕ, List, [], map}
use Rattle.std.specs.Prelude.{FitsSigned}
use Rattle.std.specs.Int.{w32}
use Rattle.std.specs.List.{All}
use Rattle.std.proofs.lemmas.List.{length-map}
use Rattle.psy_base.specs.declared.ways.Ways.{Ways as WayLists}
use Rattle.psy_code.specs.declared.code.Code.{Code}
use Rattle.psy_dates.specs.declared.plan.Plan.{Plan}
use Rattle.psy_dates.specs.Plans.{IsPlan, system_of}
use Rattle.psy_demand.proofs.lemmas.EdgesOf.{edges_at}
use Rattle.psy_demand.specs.Criterion.{edges_of}
use Rattle.psy_graph.specs.declared.graph.Graph.{Graph}
use Rattle.psy_graph.specs.Graphs.{AreGraphsBy, spot_of}
use Rattle.psy_history.specs.Compiled.{AreEdgesOf}
use Rattle.psy_history.specs.Fitting.{FitsBy}
use Rattle.psy_meaning.specs.BufferSizes.{AreSizes}
use Rattle.psy_meaning.specs.Graph.{IsGraph}
use Rattle.psy_meaning.specs.KnownWays.{Listed}
use Rattle.psy_meaning.specs.ListedWays.{AreWaysFor}
use Rattle.psy_meaning.specs.RingSizes.{agent_timing}
use Rattle.psy_meaning.specs.Units.{IsBare}
use Rattle.psy_plan.specs.Supplies.{IsSupplyBy, Supply}
use Rattle.psy_plan.specs.Supplies as supplies
use Rattle.psy_tree.specs.declared.unit.Unit.{Unit as Whole}
use Rattle.psy_verify.specs.Fits.{IsChecked}
use Rattle.psy_run.specs.Answer.{supplying_by}
use Rattle.psy_run.proofs.PlanLemmas.{Apart}

-- The edges of a plan's graphs, where these points follow
are_edges_by : (plan : Plan) (graphs : List Graph) → AreGraphsBy plan.unit plan.nexts graphs → AreEdgesOf (system_of plan [] (λ agent. [])) (edges_of graphs)
are_edges_by plan graphs are = record {
  count = length-map graphs (λ graph. graph.edges) ∙ are.count;
  each = λ number edges at.
      let (graph, its, same) = edges_at graphs number edges at in
      (map spot_of graph.nodes, subst (λ e. IsGraph (agent_timing plan.unit plan.nexts number) (map spot_of graph.nodes) e) same (are.each number graph its).0.drawn);
}

-- What the laws say of images
pub record ImagesHold : Type 0 where
  pub lists : (unit : Whole) (code : Code) (ways : WayLists) → IsBare unit → IsChecked unit code ways → AreWaysFor unit ways
  pub fits : (unit : Whole) (code : Code) (ways : WayLists) → IsBare unit → All (λ v. FitsSigned w32 v.init) unit.variables → IsChecked unit code ways → FitsBy unit code ways
  pub supply : (unit : Whole) (ways : WayLists) (until : ℕ) (supply : Supply) → IsBare unit → AreWaysFor unit ways → (supplies.supplying_by unit ways until).gives supply → IsSupplyBy unit ways until supply
  pub apart : Apart

pub plan_fits : ImagesHold → (plan : Plan) (ways : WayLists) (supply : Supply) → IsBare plan.unit → All (λ v. FitsSigned w32 v.init) plan.unit.variables → IsChecked plan.unit plan.code ways → (supplying_by plan.unit ways plan.until).gives supply
    → plan.nexts ≡ ways.nexts → plan.sizes ≡ supply.sizes → IsPlan plan
plan_fits hold plan ways supply bare inits checked supplied nexts sizes =
    let its = hold.supply plan.unit ways plan.until supply bare (hold.lists plan.unit plan.code ways bare checked) supplied in
    record {
      ways = ways;
      fits = hold.fits plan.unit plan.code ways bare inits checked;
      nexts = sym nexts;
      buffers = subst (λ n. AreSizes plan.unit (Listed ways) n plan.sizes) (sym nexts) (subst (AreSizes plan.unit (Listed ways) ways.nexts) (sym sizes) its.sized);
      supplied = record {
        graphs = edges_of supply.graphs;
        drawn = are_edges_by plan supply.graphs (subst (λ n. AreGraphsBy plan.unit n supply.graphs) (sym nexts) its.drawn);
        feasible = hold.apart plan.unit (edges_of supply.graphs) plan.unit.quantum plan.until bare its.feasible;
      };
    }
