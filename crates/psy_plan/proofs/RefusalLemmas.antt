-- What a refusal of each step tells.
use Rattle.std.proofs.Common.{◌≡◌, refl, ap, ℕ, ◌*◌, List, ◌⊎◌, inl, inr, Some}
use Rattle.psy_tree.specs.declared.faults.LexKind.{LexKind}
use Rattle.psy_tree.specs.declared.raw.Raw.{Raw}
use Rattle.psy_tree.specs.declared.rules.Count.{Count}
use Rattle.psy_tree.specs.declared.rules.RuleKind.{RuleKind}
use Rattle.psy_tree.specs.declared.token.Token.{Token}
use Rattle.psy_tree.specs.declared.unit.Unit.{Unit as Whole}
use Rattle.psy_tree.specs.Deep as deep
use Rattle.psy_tree.specs.Parts.{homes}
use Rattle.psy_tree.specs.Faults.{FirstFault}
use Rattle.psy_tree.specs.Rules.{LeastFault, NoFault}
use Rattle.psy_tree.specs.Stands.{first_passed}
use Rattle.psy_parse.specs.Fault.{AtFault}
use Rattle.psy_meaning.specs.Demand.{IsOverloadOn}
use Rattle.psy_meaning.specs.KnownWays.{Ways as KnownWays}
use Rattle.psy_graph.specs.declared.fault.GraphFault.{GraphFault}
use Rattle.psy_graph.specs.declared.fault.GraphFault.TheVariants as fault
use Rattle.psy_graph.specs.declared.graph.Graph.{Graph}
use Rattle.psy_graph.specs.Graphs.{IsCause}
use Rattle.psy_sizes.specs.declared.fault.SizeFault.{SizeFault}
use Rattle.psy_sizes.specs.declared.fault.SizeFault.TheVariants as size
use Rattle.psy_sizes.specs.Faults.{IsFaultBy}
use Rattle.psy_plan.specs.declared.refusal.Refusal.{Refusal}
use Rattle.psy_plan.specs.declared.refusal.Refusal.TheVariants.{Lexical, Syntax, Deep, Rule, Many, Nodes, Edges, Ring, Queue, Cells, Infeasible}
use Rattle.psy_demand.specs.Criterion.{edges_of}
use Rattle.psy_plan.specs.Programs.{IsLexical, IsUnparsed, IsUnlawful}
use Rattle.psy_plan.specs.Steps.{IsUndrawn, IsUnsizedBy, IsOverloaded}

-- ---- the text of a program

-- A text that has no tokens has a first fault
pub lexical_is : (bytes : List ℕ) (refusal : Refusal) → IsLexical bytes refusal → (kind : LexKind) × (place : ℕ) × (refusal ≡ Lexical kind place) × FirstFault bytes kind place
lexical_is bytes (Lexical kind place) at = (kind, place, refl, at)
lexical_is bytes _ never = absurd never

-- Tokens that have no tree are nested too deep, or have a token at fault
pub unparsed_is : (tokens : List Token) (refusal : Refusal) → IsUnparsed tokens refusal → ((token : ℕ) × (refusal ≡ Deep token) × deep.Deep tokens token) ⊎ ((token : ℕ) × (refusal ≡ Syntax token) × deep.Shallow tokens × AtFault tokens token)
unparsed_is tokens (Deep token) at = inl (token, refl, at)
unparsed_is tokens (Syntax token) at = inr (token, refl, at.0, at.1)
unparsed_is tokens _ never = absurd never

-- A tree that stands for no program breaks a rule, or passes a limit
pub unlawful_is : (raw : Raw) (refusal : Refusal) → IsUnlawful raw refusal → ((kind : RuleKind) × (token : ℕ) × (refusal ≡ Rule kind token) × LeastFault raw kind token) ⊎ ((count : Count) × (refusal ≡ Many count) × NoFault raw × (first_passed raw ≡ Some count))
unlawful_is raw (Rule kind token) least = inl (kind, token, refl, least)
unlawful_is raw (Many count) passed = inr (count, refl, passed.0, passed.1)
unlawful_is raw _ never = absurd never

-- ---- what a program needs

-- The refusal of a fault of graphs
pub undrawn_by : GraphFault → Refusal
undrawn_by (fault.Nodes agent) = Nodes
undrawn_by (fault.Edges agent) = Edges
undrawn_by fault.Memory = Cells

-- A program that has no graphs has a cause of it
pub undrawn_is : (unit : Whole) (refusal : Refusal) → IsUndrawn unit refusal → (cause : GraphFault) × (refusal ≡ undrawn_by cause) × IsCause unit cause
unfolding undrawn_by
undrawn_is unit Nodes it = (fault.Nodes it.0, refl, it.1)
undrawn_is unit Edges it = (fault.Edges it.0, refl, it.1)
undrawn_is unit _ never = absurd never

-- The refusal of a fault of sizes
pub unsized_by : SizeFault → Refusal
unsized_by (size.LargeRing variable) = Ring
unsized_by (size.Cells stream) = Cells
unsized_by (size.LargeQueue stream) = Queue
unsized_by size.Memory = Nodes

-- A program that has no sizes has a fault of them
pub unsized_is : (unit : Whole) (ways : KnownWays) (nexts : List (List (List ℕ))) (refusal : Refusal) → IsUnsizedBy unit ways nexts refusal → (cause : SizeFault) × (refusal ≡ unsized_by cause) × IsFaultBy unit ways nexts cause
unfolding unsized_by
unsized_is unit ways nexts Ring it = (size.LargeRing it.0, refl, it.1)
unsized_is unit ways nexts Queue it = (size.LargeQueue it.0, refl, it.1)
unsized_is unit ways nexts Cells it = (size.Cells it.0, refl, it.1)
unsized_is unit ways nexts _ never = absurd never

-- A demand that isn't met passes the supply over a least length, on a least processor
pub overloaded_is : (unit : Whole) (graphs : List Graph) (until : ℕ) (refusal : Refusal) → IsOverloaded unit graphs until refusal
    → (within : ℕ) × (processor : ℕ) × (demand : ℕ) × (refusal ≡ Infeasible within demand (unit.quantum * within) processor) × IsOverloadOn (homes unit) (edges_of graphs) unit.quantum until within processor demand
overloaded_is unit graphs until (Infeasible length demand supply processor) it = (length, processor, demand, ap (λ s. Infeasible length demand s processor) it.1, it.0)
overloaded_is unit graphs until _ never = absurd never
