-- What is left of the proof of `laws::one_size_by`.
use Rattle.std.proofs.Common.{◌≡◌, ◌∙◌, ℕ, ◌<◌, ◌≤◌, List, [], length, get_or, refl, sym, subst, arith}
use Rattle.std.proofs.lemmas.Option.{slice_get-get_or}
use Rattle.psy_base.specs.declared.limits.TheConstants.{SENDS}
use Rattle.psy_base.specs.declared.ways.Ways.{Ways as WayLists}
use Rattle.psy_tree.specs.declared.unit.Unit.{Unit as Whole}
use Rattle.psy_meaning.specs.KnownWays.{Listed, most_in}
use Rattle.psy_meaning.specs.ListedWays.{AreWaysFor}
use Rattle.psy_meaning.specs.RingSizes.{agent_timing}
use Rattle.psy_meaning.specs.Units.{IsBare}
use Rattle.psy_graph.specs.declared.graph.Graph.{Graph}
use Rattle.psy_graph.specs.Graphs.{AreGraphsBy, IsTimed}
use Rattle.psy_sizes.proofs.AllSizes.{same_buffers, same_fault, sizes_apart}
use Rattle.psy_sizes.proofs.ReadLists.{cut, known_stream}
use Rattle.psy_sizes.proofs.Told.{AreTold}
use Rattle.psy_sizes.proofs.ToldLists.{contains_or_not, most_cut}
use Rattle.psy_sizes.proofs.laws.one_size_by.Goals as goal
use Rattle.psy_sizes.proofs.laws.one_size_by.Goals.{After-greatest}

-- Sends are listed no further than one more than a queue can hold.
few_listed : (unit : Whole) (ways : WayLists) → AreWaysFor unit ways → (agent : ℕ) → agent < length unit.agents → (from to stream n : ℕ)
    → most_in (get_or (get_or ways.sends agent []) from []) to stream ≡ n → n ≤ SENDS
few_listed unit ways are agent less from to stream n is =
    subst (λ m. m ≤ SENDS) is (most_cut (get_or (get_or ways.sends agent []) from []) to stream (cut unit ways are agent less from))

-- What the laws below say of the program
facts : (c : After-greatest) (unit : Whole) (ways : WayLists) (graphs : List Graph) → IsBare unit → AreWaysFor unit ways → AreGraphsBy unit ways.nexts graphs → AreTold unit (Listed ways) ways.nexts
facts c unit ways graphs bare are by =
    let none : Graph = record { nodes = []; edges = [] } in
    let timed : (agent : ℕ) → agent < length unit.agents → IsTimed (agent_timing unit ways.nexts agent) = λ agent less. c.one_graph.ensures.timed unit ways agent bare are less in
    record {
      bare = bare;
      counted = c.dates.ensures.count;
      one_graph = c.one_graph.ensures.graph;
      one_weight = c.greatest.ensures.one;
      some_weight = c.greatest.ensures.some;
      looks = λ agent point variable less. contains_or_not (get_or (get_or ways.looks agent []) point []) variable;
      one_most = λ agent less from to stream n m p q. sym p ∙ q;
      some_most = λ agent less from to stream. (most_in (get_or (get_or ways.sends agent []) from []) to stream, refl);
      few = few_listed unit ways are;
      timed = timed;
      graph_of = λ agent less. (
          let graph = get_or graphs agent none in
          let its = by.each agent graph (slice_get-get_or graphs agent none (omega (arith, less, by.count))) in
          (graph, its.0, c.one_graph.ensures.fit (agent_timing unit ways.nexts agent) graph (timed agent less) its.0)
          );
      declared = known_stream unit ways ways.nexts are;
    }

pub returns-clause-same : goal.returns-clause-same
returns-clause-same c unit ways graphs sizes others bare are by =
    same_buffers unit (Listed ways) ways.nexts (facts (goal.at.returns-clause-same c).After-greatest unit ways graphs bare are by) sizes others

pub returns-clause-apart : goal.returns-clause-apart
returns-clause-apart c unit ways graphs sizes fault bare are by =
    sizes_apart unit (Listed ways) ways.nexts (facts (goal.at.returns-clause-apart c).After-greatest unit ways graphs bare are by) sizes fault

pub returns-clause-cause : goal.returns-clause-cause
returns-clause-cause c unit ways graphs fault other bare are by =
    same_fault unit (Listed ways) ways.nexts (facts (goal.at.returns-clause-cause c).After-greatest unit ways graphs bare are by) fault other
