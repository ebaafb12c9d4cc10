-- What the laws of the steps say, and that each step from a text to a program comes to one end.
use Rattle.std.proofs.Common.{◌≡◌, ◌∙◌, sym, ap, ℕ, ◌<◌, ◌≤◌, List, length, ◌⊎◌, inl, inr, Some}
use Rattle.std.specs.List.{All}
use Rattle.psy_base.specs.declared.edge.Edge.{Edge}
use Rattle.psy_base.specs.declared.limits.TheConstants.{COST, EDGES}
use Rattle.psy_base.specs.declared.sizes.Sizes.{Sizes}
use Rattle.psy_base.specs.Paths.{IsGreatestWeight}
use Rattle.psy_tree.specs.declared.faults.LexKind.{LexKind}
use Rattle.psy_tree.specs.declared.raw.Raw.{Raw}
use Rattle.psy_tree.specs.declared.rules.Count.{Count}
use Rattle.psy_tree.specs.declared.rules.RuleKind.{RuleKind}
use Rattle.psy_tree.specs.declared.token.Token.{Token}
use Rattle.psy_tree.specs.declared.unit.AgentDecl.{AgentDecl}
use Rattle.psy_tree.specs.declared.unit.Unit.{Unit as Whole}
use Rattle.psy_tree.specs.Deep as deep
use Rattle.psy_tree.specs.Faults.{FirstFault}
use Rattle.psy_tree.specs.Grammar.{Spells}
use Rattle.psy_tree.specs.Rules.{LeastFault, NoFault}
use Rattle.psy_tree.specs.Stands.{Stands, first_passed}
use Rattle.psy_tree.specs.Tokens.{TokensOf}
use Rattle.psy_parse.specs.Fault.{NoTree, AtFault}
use Rattle.psy_flow.specs.Agents.{IsAgentOf}
use Rattle.psy_meaning.specs.BufferSizes.{AreSizes}
use Rattle.psy_meaning.specs.KnownWays.{OfText}
use Rattle.psy_meaning.specs.Flow.{AreAllNexts, AreNexts, IsCut, HasCost}
use Rattle.psy_meaning.specs.Timing.{Timing}
use Rattle.psy_meaning.specs.Units.{IsOfText}
use Rattle.psy_window.specs.declared.span.Span.{Span}
use Rattle.psy_window.specs.Windows.{IsEdge, Fits}
use Rattle.psy_graph.specs.declared.fault.GraphFault.{GraphFault}
use Rattle.psy_graph.specs.declared.graph.Graph.{Graph}
use Rattle.psy_graph.specs.Graphs.{AreGraphs, IsCause, IsTimingOf}
use Rattle.psy_sizes.specs.declared.fault.SizeFault.{SizeFault}
use Rattle.psy_sizes.specs.Faults.{CanCount, IsFaultBy}
use Rattle.psy_rate.specs.declared.line.Rate.{Rate}
use Rattle.psy_rate.specs.Horizons.{IsHorizon}
use Rattle.psy_rate.specs.Lines.{IsRateOf}
use Rattle.psy_plan.specs.declared.refusal.Refusal.TheVariants.{Lexical, Deep, Syntax, Rule, Many}
use Rattle.psy_plan.specs.Courses.{IsDecided}
use Rattle.psy_plan.specs.Programs.{lexing, parsing, resolving}
use Rattle.psy_plan.proofs.ExtentLemmas.{OneHorizon}
use Rattle.psy_plan.proofs.RefusalLemmas.{lexical_is, unparsed_is, unlawful_is}

-- What the laws of the steps say: what comes of each is one, and one thing or another comes of it, but not both.
pub record StepsDecide : Type 0 where
  -- the text
  pub tokens : (text : List ℕ) (some others : List Token) → TokensOf text some → TokensOf text others → some ≡ others
  pub lexical : (text : List ℕ) (kind other : LexKind) (place elsewhere : ℕ) → FirstFault text kind place → FirstFault text other elsewhere → (kind ≡ other) × (place ≡ elsewhere)
  pub tokens_or_lexical : (text : List ℕ) → ((tokens : List Token) × TokensOf text tokens) ⊎ ((kind : LexKind) × (place : ℕ) × FirstFault text kind place)
  pub tokens_not_lexical : (text : List ℕ) (tokens : List Token) (kind : LexKind) (place : ℕ) → TokensOf text tokens → FirstFault text kind place → ⊥
  -- its tree
  pub first_deep : (tokens : List Token) (n other : ℕ) → deep.Deep tokens n → deep.Deep tokens other → n ≡ other
  pub deep_or_shallow : (tokens : List Token) → ((n : ℕ) × deep.Deep tokens n) ⊎ deep.Shallow tokens
  pub deep_not_shallow : (tokens : List Token) (n : ℕ) → deep.Deep tokens n → deep.Shallow tokens → ⊥
  pub tree : (tokens : List Token) (raw other : Raw) → Spells raw tokens → Spells other tokens → raw ≡ other
  pub fault : (tokens : List Token) (n other : ℕ) → AtFault tokens n → AtFault tokens other → n ≡ other
  pub tree_or_none : (tokens : List Token) → ((raw : Raw) × Spells raw tokens) ⊎ NoTree tokens
  pub none_at_fault : (tokens : List Token) → NoTree tokens → (n : ℕ) × AtFault tokens n
  pub fault_no_tree : (tokens : List Token) (n : ℕ) → AtFault tokens n → NoTree tokens
  -- its program
  pub unit : (raw : Raw) (unit other : Whole) → Stands unit raw → Stands other raw → unit ≡ other
  pub rule : (raw : Raw) (kind other : RuleKind) (token elsewhere : ℕ) → LeastFault raw kind token → LeastFault raw other elsewhere → (kind ≡ other) × (token ≡ elsewhere)
  pub count : (raw : Raw) (count other : Count) → first_passed raw ≡ Some count → first_passed raw ≡ Some other → count ≡ other
  pub verdict : (raw : Raw) → ((unit : Whole) × Stands unit raw) ⊎ (((kind : RuleKind) × (token : ℕ) × LeastFault raw kind token) ⊎ ((count : Count) × NoFault raw × (first_passed raw ≡ Some count)))
  pub unit_not_rule : (raw : Raw) (unit : Whole) (kind : RuleKind) (token : ℕ) → Stands unit raw → LeastFault raw kind token → ⊥
  pub unit_not_count : (raw : Raw) (unit : Whole) (count : Count) → Stands unit raw → first_passed raw ≡ Some count → ⊥
  pub rule_not_none : (raw : Raw) (kind : RuleKind) (token : ℕ) → LeastFault raw kind token → NoFault raw → ⊥
  -- its graphs
  pub graphs : (unit : Whole) (graphs others : List Graph) → IsOfText unit → AreGraphs unit graphs → AreGraphs unit others → graphs ≡ others
  pub cause : (unit : Whole) (fault other : GraphFault) → IsOfText unit → IsCause unit fault → IsCause unit other → fault ≡ other
  pub graphs_or_cause : (unit : Whole) → IsOfText unit → ((graphs : List Graph) × AreGraphs unit graphs) ⊎ ((fault : GraphFault) × IsCause unit fault)
  pub graphs_not_cause : (unit : Whole) (graphs : List Graph) (fault : GraphFault) → IsOfText unit → AreGraphs unit graphs → IsCause unit fault → ⊥
  pub edges : (unit : Whole) (graphs : List Graph) → IsOfText unit → AreGraphs unit graphs → All (λ graph. All (IsEdge (length graph.nodes)) graph.edges) graphs
  -- its costs, and the points that follow
  pub cost : (unit : Whole) (number : ℕ) (agent : AgentDecl) (point cost other : ℕ) → IsAgentOf unit number agent → IsCut (HasCost unit.functions agent point) COST cost → IsCut (HasCost unit.functions agent point) COST other → cost ≡ other
  pub some_cost : (unit : Whole) (number : ℕ) (agent : AgentDecl) (point : ℕ) → IsAgentOf unit number agent → point < length agent.points → (cost : ℕ) × IsCut (HasCost unit.functions agent point) COST cost
  pub timing : (unit : Whole) (number : ℕ) (timing other : Timing) → IsTimingOf unit number timing → IsTimingOf unit number other → timing ≡ other
  pub some_nexts : (unit : Whole) (number : ℕ) (agent : AgentDecl) → IsAgentOf unit number agent → (nexts : List (List ℕ)) × AreNexts unit.functions agent nexts
  -- the sizes of its buffers
  pub sizes : (unit : Whole) (graphs : List Graph) (nexts : List (List (List ℕ))) (sizes others : Sizes) → IsOfText unit → AreGraphs unit graphs → AreAllNexts unit nexts → AreSizes unit (OfText unit) nexts sizes → AreSizes unit (OfText unit) nexts others → sizes ≡ others
  pub size_fault : (unit : Whole) (graphs : List Graph) (nexts : List (List (List ℕ))) (fault other : SizeFault) → IsOfText unit → AreGraphs unit graphs → AreAllNexts unit nexts → IsFaultBy unit (OfText unit) nexts fault → IsFaultBy unit (OfText unit) nexts other → fault ≡ other
  pub sizes_or_fault : (unit : Whole) (graphs : List Graph) (nexts : List (List (List ℕ))) → IsOfText unit → AreGraphs unit graphs → AreAllNexts unit nexts
      → ((sizes : Sizes) × AreSizes unit (OfText unit) nexts sizes × CanCount unit (OfText unit) nexts) ⊎ ((fault : SizeFault) × IsFaultBy unit (OfText unit) nexts fault)
  pub sizes_not_fault : (unit : Whole) (graphs : List Graph) (nexts : List (List (List ℕ))) (sizes : Sizes) (fault : SizeFault) → IsOfText unit → AreGraphs unit graphs → AreAllNexts unit nexts → AreSizes unit (OfText unit) nexts sizes → CanCount unit (OfText unit) nexts → IsFaultBy unit (OfText unit) nexts fault → ⊥
  -- its demand
  pub greatest : (graph : List Edge) (nodes : ℕ) (span : Span) (within : ℕ) → All (IsEdge nodes) graph → (n : ℕ) × IsGreatestWeight graph (Fits span within) n
  pub line : (graph : List Edge) (line other : Rate) → IsRateOf graph line → IsRateOf graph other → line ≡ other
  pub some_line : (graph : List Edge) (nodes : ℕ) → All (IsEdge nodes) graph → length graph ≤ EDGES → (line : Rate) × IsRateOf graph line
  pub horizon : OneHorizon
  pub horizon_or_none : (quantum : ℕ) (groups : List (List Rate)) → ((length : ℕ) × IsHorizon quantum groups length) ⊎ ((length : ℕ) → IsHorizon quantum groups length → ⊥)

-- ---- the text

module _ (laws : StepsDecide) where
  pub decided_lexing : (bytes : List ℕ) → IsDecided (lexing bytes)
  decided_lexing bytes = record {
    one = record {
      gift = λ x y p q. laws.tokens bytes x y p q;
      stop = λ r s p q.
          let (kind, place, is, at) = lexical_is bytes r p in
          let (other, elsewhere, is', at') = lexical_is bytes s q in
          let same = laws.lexical bytes kind other place elsewhere at at' in
          is ∙ (λ i. Lexical (same.0 i) (same.1 i)) ∙ sym is';
      apart = λ x r p q. let (kind, place, is, at) = lexical_is bytes r q in laws.tokens_not_lexical bytes x kind place p at;
    };
    some = elim (laws.tokens_or_lexical bytes) [
      | inl tokens ↦ inl tokens
      | inr at ↦ inr (Lexical at.0 at.1, at.2)
    ];
  }

  pub decided_parsing : (tokens : List Token) → IsDecided (parsing tokens)
  decided_parsing tokens = record {
    one = record {
      gift = λ x y p q. laws.tree tokens x y p.1 q.1;
      stop = λ r s p q. elim (unparsed_is tokens r p) [
        | inl a ↦ elim (unparsed_is tokens s q) [
          | inl b ↦ a.1 ∙ ap Deep (laws.first_deep tokens a.0 b.0 a.2 b.2) ∙ sym b.1
          | inr b ↦ absurd (laws.deep_not_shallow tokens a.0 a.2 b.2)
        ]
        | inr a ↦ elim (unparsed_is tokens s q) [
          | inl b ↦ absurd (laws.deep_not_shallow tokens b.0 b.2 a.2)
          | inr b ↦ a.1 ∙ ap Syntax (laws.fault tokens a.0 b.0 a.3 b.3) ∙ sym b.1
        ]
      ];
      apart = λ x r p q. elim (unparsed_is tokens r q) [
        | inl a ↦ laws.deep_not_shallow tokens a.0 a.2 p.0
        | inr a ↦ laws.fault_no_tree tokens a.0 a.3 x p.1
      ];
    };
    some = elim (laws.deep_or_shallow tokens) [
      | inl at ↦ inr (Deep at.0, at.1)
      | inr shallow ↦ elim (laws.tree_or_none tokens) [
        | inl tree ↦ inl (tree.0, (shallow, tree.1))
        | inr none ↦ let at = laws.none_at_fault tokens none in inr (Syntax at.0, (shallow, at.1))
      ]
    ];
  }

  pub decided_resolving : (raw : Raw) → IsDecided (resolving raw)
  decided_resolving raw = record {
    one = record {
      gift = λ x y p q. laws.unit raw x y p q;
      stop = λ r s p q. elim (unlawful_is raw r p) [
        | inl a ↦ elim (unlawful_is raw s q) [
          | inl b ↦ let same = laws.rule raw a.0 b.0 a.1 b.1 a.3 b.3 in a.2 ∙ (λ i. Rule (same.0 i) (same.1 i)) ∙ sym b.2
          | inr b ↦ absurd (laws.rule_not_none raw a.0 a.1 a.3 b.2)
        ]
        | inr a ↦ elim (unlawful_is raw s q) [
          | inl b ↦ absurd (laws.rule_not_none raw b.0 b.1 b.3 a.2)
          | inr b ↦ a.1 ∙ ap Many (laws.count raw a.0 b.0 a.3 b.3) ∙ sym b.1
        ]
      ];
      apart = λ x r p q. elim (unlawful_is raw r q) [
        | inl a ↦ laws.unit_not_rule raw x a.0 a.1 p a.3
        | inr a ↦ laws.unit_not_count raw x a.0 p a.3
      ];
    };
    some = elim (laws.verdict raw) [
      | inl unit ↦ inl unit
      | inr other ↦ elim other [
        | inl least ↦ inr (Rule least.0 least.1, least.2)
        | inr passed ↦ inr (Many passed.0, (passed.1, passed.2))
      ]
    ];
  }
