-- Lists by agent and point: how many there are, and what stands in each.
use Rattle.std.proofs.Common.{◌≡◌, ℕ, ◌<◌, List, [], map, length, get_or, sym, ap, subst, ◌∙◌, arith}
use Rattle.std.proofs.lemmas.List.{get_or-map, length-map}
use Rattle.std.proofs.lemmas.Option.{get_or_from_slice_get, slice_get-get_or, slice_get_within}
use Rattle.psy_tree.specs.declared.unit.AgentDecl.{AgentDecl}
use Rattle.psy_tree.specs.declared.unit.Unit.{Unit as Whole}
use Rattle.psy_tree.specs.Parts.{agent_at, no_agent}
use Rattle.psy_meaning.specs.ListedWays.{AreByPoint, points_of}

module _ {X : Type 0} (unit : Whole) (Are : ℕ → ℕ → List X → Type 0) (lists : List (List (List X))) (are : AreByPoint (points_of unit) Are lists) where
  pub agents_count : length lists ≡ length unit.agents
  agents_count = sym (length-map lists (λ (l : List (List X)). length l)) ∙ ap length are.counts ∙ length-map unit.agents (λ (a : AgentDecl). length a.points)

  pub points_count : (agent : ℕ) → agent < length unit.agents → length (get_or lists agent []) ≡ length (agent_at unit agent).points
  points_count agent less =
      sym (get_or-map (λ (l : List (List X)). length l) lists agent [] 0 (omega (arith, less, agents_count)))
      ∙ ap (λ ns. get_or ns agent 0) are.counts
      ∙ get_or-map (λ (a : AgentDecl). length a.points) unit.agents agent no_agent 0 less

  pub at_point : (agent point : ℕ) → agent < length unit.agents → point < length (agent_at unit agent).points → Are agent point (get_or (get_or lists agent []) point [])
  at_point agent point less inside =
      are.each agent point (get_or lists agent []) (get_or (get_or lists agent []) point []) (slice_get-get_or lists agent [] (omega (arith, less, agents_count)))
      (slice_get-get_or (get_or lists agent []) point [] (omega (arith, inside, points_count agent less)))

-- Lists of these lengths, each of which is such, are so by agent and point.
pub by_point : {X : Type 0} (unit : Whole) (Are : ℕ → ℕ → List X → Type 0) (lists : List (List (List X))) → map length lists ≡ points_of unit
    → ((agent point : ℕ) → agent < length unit.agents → point < length (agent_at unit agent).points → Are agent point (get_or (get_or lists agent []) point [])) → AreByPoint (points_of unit) Are lists
by_point {X} unit Are lists counts each =
    let size = λ (l : List (List X)). length l in
    let points = λ (a : AgentDecl). length a.points in
    let all : length lists ≡ length unit.agents = sym (length-map lists size) ∙ ap length counts ∙ length-map unit.agents points in
    record {
      counts = counts;
      each = λ agent point list one at also. (
          let here = slice_get_within lists agent list at in
          let less : agent < length unit.agents = omega (arith, here, all) in
          let same : get_or lists agent [] ≡ list = get_or_from_slice_get lists agent list [] at in
          let count : length (get_or lists agent []) ≡ length (agent_at unit agent).points = sym (get_or-map size lists agent [] 0 here) ∙ ap (λ ns. get_or ns agent 0) counts ∙ get_or-map points unit.agents agent no_agent 0 less in
          let inside = slice_get_within list point one also in
          let its = each agent point less (omega (arith, inside, count, ap size same)) in
          subst (Are agent point) (ap (λ l. get_or l point []) same ∙ get_or_from_slice_get list point one [] also) its
          );
    }
