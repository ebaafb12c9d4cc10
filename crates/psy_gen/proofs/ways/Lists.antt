-- The lists of the ways of code are lists of the ways of statements, where these ways are the same.
use Rattle.std.proofs.Common.{◌≡◌, ◌↔◌, ℕ, ◌<◌, ◌≤◌, List, length, Some, sym, ap, subst, ◌∙◌, inl, inr, arith}
use Rattle.std.specs.Prelude.{slice_get, option_map}
use Rattle.std.proofs.lemmas.List.{length-map}
use Rattle.std.proofs.lemmas.List.Elements.{All-get_or}
use Rattle.std.proofs.lemmas.Option.{get_or_from_slice_get, slice_get-get_or, slice_get-map, slice_get_within}
use Rattle.psy_base.specs.declared.limits.TheConstants.{SENDS}
use Rattle.psy_base.specs.declared.ways.SendWay.{SendWay}
use Rattle.psy_base.specs.declared.ways.Ways.{Ways}
use Rattle.psy_flow.proofs.lemmas.Mosts.{no_more}
use Rattle.psy_code.specs.declared.code.Code.{Code}
use Rattle.psy_tree.specs.declared.unit.AgentDecl.{AgentDecl}
use Rattle.psy_tree.specs.declared.unit.Unit.{Unit as Whole}
use Rattle.psy_tree.specs.Parts.{agent_at, no_agent}
use Rattle.psy_meaning.specs.CodeWays.{AreCodeLooks, AreCodeNexts, AreCodeSends, AreCodeWays, HasCodeDelay, HasCodeSends, IsMostCodeSends, budget_of}
use Rattle.psy_meaning.specs.CodeWays.{place_of}
use Rattle.psy_meaning.specs.Flow.{AreAllNexts, HasSends, IsCut, IsMostSends}
use Rattle.psy_meaning.specs.ListedWays.{AreByPoint, AreDelays, AreLooks, AreSends, points_of}
use Rattle.psy_meaning.specs.Sendings.{longest_delay}
use Rattle.psy_meaning.specs.Sound.{Each}
use Rattle.psy_flow.specs.CodeLists.{AreCodePaths}
use Rattle.psy_flow.specs.declared.paths.Paths.{Paths}
use Rattle.psy_gen.specs.Keeping.{HasSendlessLoops}
use Rattle.psy_gen.specs.SameWays.{ArePathsOf, HasSameWays, SameFrom, SendsOutsideLoops}
use Rattle.psy_gen.proofs.Basics.{some_is}

-- ---- numbers of some kind

cut_over : (Has Had : ℕ → Type 0) (limit n : ℕ) → ((m : ℕ) → Has m ↔ Had m) → IsCut Has limit n → IsCut Had limit n
cut_over Has Had limit n same (m, greatest, is) = (m, record { one = (same m).0 greatest.one; most = λ k had. greatest.most k ((same k).1 had) }, is)

-- ---- by agent and point

module _ {X : Type 0} (unit : Whole) (Are : ℕ → ℕ → X → Type 0) (lists : List (List X)) (by_point : AreByPoint (points_of unit) Are lists) where
  pub many : length lists ≡ length unit.agents
  many = sym (length-map lists (λ (l : List X). length l)) ∙ ap length by_point.counts ∙ length-map unit.agents (λ (a : AgentDecl). length a.points)

  pub agent_of : (number : ℕ) (list : List X) → slice_get lists number ≡ Some list → slice_get unit.agents number ≡ Some (agent_at unit number)
  agent_of number list at = slice_get-get_or unit.agents number no_agent (omega (arith, many, slice_get_within lists number list at))

  -- An agent's list has an entry for each of its points.
  pub as_many : (number : ℕ) (list : List X) (agent : AgentDecl) → slice_get lists number ≡ Some list → slice_get unit.agents number ≡ Some agent
      → length list ≡ length agent.points
  as_many number list agent at got =
      some_is (length list) (length agent.points)
      (sym (ap (option_map (λ (l : List X). length l)) at) ∙ sym (slice_get-map (λ (l : List X). length l) lists number) ∙ ap
      (λ ns. slice_get ns number) by_point.counts
      ∙ slice_get-map (λ (a : AgentDecl). length a.points) unit.agents number ∙ ap (option_map (λ (a : AgentDecl). length a.points)) got)

module _ (unit : Whole) (code : Code) (same : HasSameWays unit code) (coded : Paths) (are : AreCodePaths unit code coded) where
  -- ---- next points

  pub nexts_of : AreAllNexts unit coded.nexts
  nexts_of =
      let Are : ℕ → ℕ → List ℕ → Type 0 = λ agent point. AreCodeNexts code.instrs (place_of code agent point) in
      record {
        count = many unit Are coded.nexts are.nexts;
        each = λ number agent list got at. (let count = as_many unit Are coded.nexts are.nexts number list agent at got in record {
          length = count;
          rise = λ point one there. (are.nexts.each number point list one at there).rise;
          each = λ point one there to. (
              let its : SameFrom unit code number point agent = same.from number point agent got
              (omega (arith, count, slice_get_within list point one there)) in
              let own = (are.nexts.each number point list one at there).each to in
              ((λ c. (its.nexts to).1 (own.0 c)), (λ n. own.1 ((its.nexts to).0 n))));
        });
      }

  -- ---- looks

  pub looks_of : AreByPoint (points_of unit) (λ agent. AreLooks unit.functions (agent_at unit agent)) coded.looks
  looks_of =
      let Are : ℕ → ℕ → List ℕ → Type 0 = λ agent point. AreCodeLooks code.instrs (place_of code agent point) in
      record {
        counts = are.looks.counts;
        each = λ number point list one at there. (
            let got = agent_of unit Are coded.looks are.looks number list at in
            let count = as_many unit Are coded.looks are.looks number list (agent_at unit number) at got in
            let its : SameFrom unit code number point (agent_at unit number) = same.from number point (agent_at unit number) got
            (omega (arith, count, slice_get_within list point one there)) in
            let own = are.looks.each number point list one at there in
            record {
              rise = own.rise;
              each = λ variable.
                  ((λ c. (its.looks variable).1 ((own.each variable).0 c)), (λ may. (own.each variable).1 ((its.looks variable).0 may)));
            });
      }

  -- ---- delays

  pub delays_of : AreDelays unit coded.delays
  delays_of = record {
    count = are.delays.count;
    each = λ stream delay at. (
        let most = are.delays.each stream delay at in
        let longest = same.delays stream in
        omega (
          arith,
          no_more (HasCodeDelay unit code stream) delay (longest_delay unit stream) most.one longest,
          no_more (HasCodeDelay unit code stream)
              (longest_delay unit stream) delay longest.one most,
        ));
  }

  pub paths_of : ArePathsOf unit coded
  paths_of = record { nexts = nexts_of; looks = looks_of; delays = delays_of }

-- ---- sends

module _ (unit : Whole) (code : Code) (same : HasSameWays unit code) (coded : Ways) (are : AreCodeWays unit code coded) where
  pub paths_in : ArePathsOf unit (record { nexts = coded.nexts; looks = coded.looks; delays = coded.delays })
  paths_in = paths_of unit code same (record { nexts = coded.nexts; looks = coded.looks; delays = coded.delays })
      (record { nexts = are.nexts; looks = are.looks; delays = are.delays })

  module _ (some : (number : ℕ) (agent : AgentDecl) (from to stream : ℕ) → slice_get unit.agents number ≡ Some agent → (n : ℕ)
      × IsMostSends unit.functions agent from to stream n) (silent : SendsOutsideLoops unit) where
    silent_agent : (number : ℕ) (agent : AgentDecl) → slice_get unit.agents number ≡ Some agent → Each HasSendlessLoops agent.stmts
    silent_agent number agent got =
        subst (λ (a : AgentDecl). Each HasSendlessLoops a.stmts) (get_or_from_slice_get unit.agents number agent agent got)
        (All-get_or (λ (a : AgentDecl). Each HasSendlessLoops a.stmts) unit.agents number agent (slice_get_within unit.agents number agent got) silent)

    module _ (number point : ℕ) (agent : AgentDecl) (got : slice_get unit.agents number ≡ Some agent) (named : point < length agent.points) where
      abbrev from : ℕ
      from = place_of code number point

      sends_alike : (to stream n : ℕ) → HasSends unit.functions agent point to stream n ↔ HasCodeSends code.instrs from to stream n
      sends_alike = (same.from number point agent got named).sends (silent_agent number agent got)

      -- There is a greatest number, since there is one by the statements.
      bounded : (to stream : ℕ) {A : Type 0} → ((m : ℕ) → (n : ℕ) × HasCodeSends code.instrs from to stream n × (m < n)) → A
      bounded to stream greater = by (some number agent point to stream got).1
        where
          by : {A : Type 0} {n : ℕ} → IsMostSends unit.functions agent point to stream n → A
          by (inl (none, e)) = let (n, has, less) = greater 0 in let h = (sends_alike to stream n).1 has in absurd (none (h.0, h.1))
          by (inr (most, greatest, is)) = let (n, has, less) = greater most in absurd (omega (arith, less, greatest.most n ((sends_alike to stream n).1 has)))

      most_over : (budget : ℕ) (way : SendWay) → IsMostCodeSends code.instrs from way.to way.stream budget way.most
          → IsMostSends unit.functions agent point way.to way.stream way.most
      most_over budget way (inl cut) = inr
          (cut_over (HasCodeSends code.instrs from way.to way.stream) (HasSends unit.functions agent point way.to way.stream) SENDS way.most
          (λ n. let both = sends_alike way.to way.stream n in (both.1, both.0)) cut)
      most_over budget way (inr (greater, is)) = bounded way.to way.stream greater

      most_back : (budget : ℕ) (way : SendWay) → 1 ≤ way.most → IsMostSends unit.functions agent point way.to way.stream way.most
          → IsMostCodeSends code.instrs from way.to way.stream budget way.most
      most_back budget way some_of (inl (none, e)) = absurd (omega (arith, some_of, e))
      most_back budget way some_of (inr cut) = inl
          (cut_over (HasSends unit.functions agent point way.to way.stream) (HasCodeSends code.instrs from way.to way.stream) SENDS way.most
          (λ n. sends_alike way.to way.stream n) cut)

    pub sends_of : AreByPoint (points_of unit) (λ agent. AreSends unit.functions (agent_at unit agent)) coded.sends
    sends_of =
        let Are : ℕ → ℕ → List SendWay → Type 0 = λ agent point. AreCodeSends code.instrs (place_of code agent point) (budget_of unit agent point) in
        record {
          counts = are.sends.counts;
          each = λ number point list one at there. (
              let got = agent_of unit Are coded.sends are.sends number list at in
              let count = as_many unit Are coded.sends are.sends number list (agent_at unit number) at got in
              let named : point < length (agent_at unit number).points = omega (arith, count, slice_get_within list point one there) in
              let own = are.sends.each number point list one at there in
              let budget = budget_of unit number point in
              record {
                rise = own.rise;
                each = λ way. (
                  (λ c. let is = (own.each way).0 c in (most_over number point (agent_at unit number) got named budget way is.0, is.1)),
                  (λ is. (own.each way).1 (most_back number point (agent_at unit number) got named budget way is.1 is.0, is.1)),
                );
              });
        }
