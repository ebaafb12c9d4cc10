-- The lists of the ways of the code that a program of a text has are those of its statements, where no send stands in a bounded loop.
use Rattle.std.proofs.Common.{◌≡◌, ◌↔◌, ◌∙◌, sym, ap, subst, inl, inr, ℕ, ◌<◌, ◌≤◌, List, length, arith}
use Rattle.std.specs.Prelude.{Some, slice_get, option_map}
use Rattle.std.proofs.lemmas.List.{length-map}
use Rattle.std.proofs.lemmas.List.Elements.{All-get_or}
use Rattle.std.proofs.lemmas.Option.{get_or_from_slice_get, same_Some, slice_get-get_or, slice_get-map, slice_get_within}
use Rattle.psy_base.specs.declared.limits.TheConstants.{SENDS}
use Rattle.psy_base.specs.declared.ways.SendWay.{SendWay}
use Rattle.psy_base.specs.declared.ways.Ways.{Ways}
use Rattle.psy_base.specs.Extremes.{IsMost}
use Rattle.psy_code.specs.declared.code.Code.{Code}
use Rattle.psy_code.specs.declared.instr.Instr.TheVariants as instr
use Rattle.psy_flow.specs.CodeLists.{AreCodePaths}
use Rattle.psy_flow.specs.declared.paths.Paths.{Paths}
use Rattle.psy_gen.specs.Keeping.{HasSendlessLoops}
use Rattle.psy_gen.specs.SameWays.{ArePathsOf, HasSameWays, SendsOutsideLoops}
use Rattle.psy_image.specs.Answers.{emptied}
use Rattle.psy_meaning.specs.CodeWays.{AreCodeLooks, AreCodeNexts, AreCodeSends, AreCodeWays, HasCodeDelay, HasCodeSends, IsMostCodeSends}
use Rattle.psy_meaning.specs.CodeWays.{IsOnWay, budget_of, place_of}
use Rattle.psy_meaning.specs.Flow.{HasSends, IsCut, IsMostSends}
use Rattle.psy_meaning.specs.ListedWays.{AreByPoint, AreSends, AreWaysOf, points_of}
use Rattle.psy_meaning.specs.Sendings.{delay_of}
use Rattle.psy_meaning.specs.Sound.{Each}
use Rattle.psy_tree.specs.Parts.{agent_at, no_agent}
use Rattle.psy_tree.specs.declared.unit.AgentDecl.{AgentDecl}
use Rattle.psy_tree.specs.declared.unit.Unit.{Unit as Whole}
use Rattle.psy_same.proofs.Emptied.{same_agent, same_budgets, same_count, same_points}

-- ---- of an emptied unit

-- A send on a way of the code has this delay, where there are so many agents with so many points each.
abbrev DelayOver : Whole → Code → ℕ → ℕ → ℕ → (ℕ → ℕ) → Type 0
DelayOver unit code stream delay agents points = (agent point after clock : ℕ) × (agent < agents) × (point < points agent)
    × IsOnWay code.instrs (place_of code agent point) (instr.Send stream after clock)
    × (delay ≡ delay_of unit (record { stream = stream; after = after; clock = clock }))

module _ (unit : Whole) (code : Code) where
  has_delay : (stream : ℕ) → HasCodeDelay (emptied unit) code stream ≡ HasCodeDelay unit code stream
  has_delay stream = λ i delay. DelayOver unit code stream delay (same_count unit i) (λ agent. length (same_agent unit agent i).points)

  -- The sends are those of the code, where agents have so many points with these budgets.
  abbrev SendsBy : List ℕ → (ℕ → ℕ → ℕ) → Ways → Type 0
  SendsBy points budget ways = AreByPoint points (λ agent point. AreCodeSends code.instrs (place_of code agent point) (budget agent point)) ways.sends

  pub emptied_ways : (ways : Ways) → AreCodeWays (emptied unit) code ways → AreCodeWays unit code ways
  emptied_ways ways are = record {
    nexts = subst (λ points. AreByPoint points (λ agent point. AreCodeNexts code.instrs (place_of code agent point)) ways.nexts) (same_points unit) are.nexts;
    looks = subst (λ points. AreByPoint points (λ agent point. AreCodeLooks code.instrs (place_of code agent point)) ways.looks) (same_points unit) are.looks;
    sends = subst (λ (budget : ℕ → ℕ → ℕ). SendsBy (points_of unit) budget ways)
        (same_budgets unit)
        (subst (λ points. SendsBy points (budget_of (emptied unit)) ways)
        (same_points unit) are.sends);
    delays = record {
      count = are.delays.count;
      each = λ stream delay at. subst (λ Has. IsMost Has delay) (has_delay stream) (are.delays.each stream delay at);
    };
  }

-- ---- by agent and point

module _ {X : Type 0} (unit : Whole) (Are : ℕ → ℕ → X → Type 0) (lists : List (List X)) (by_point : AreByPoint (points_of unit) Are lists) where
  known : (number : ℕ) (list : List X) → slice_get lists number ≡ Some list → slice_get unit.agents number ≡ Some (agent_at unit number)
  known number list at = slice_get-get_or unit.agents number no_agent
      (subst (λ n. number < n) (sym (length-map lists length) ∙ ap length by_point.counts ∙ length-map unit.agents (λ (a : AgentDecl). length a.points))
      (slice_get_within lists number list at))

  as_many : (number : ℕ) (list : List X) → slice_get lists number ≡ Some list → length list ≡ length (agent_at unit number).points
  as_many number list at = same_Some (length list) (length (agent_at unit number).points)
      (sym (ap (option_map length) at) ∙ sym (slice_get-map length lists number) ∙ ap (λ ns. slice_get ns number) by_point.counts
      ∙ slice_get-map (λ (a : AgentDecl). length a.points) unit.agents number ∙ ap (option_map (λ (a : AgentDecl). length a.points)) (known number list at))

-- ---- of the statements

-- Between two points of an agent there is a most to each stream.
abbrev pub HasMosts : Whole → Type 0
HasMosts unit = (number : ℕ) (agent : AgentDecl) (from to stream : ℕ) → slice_get unit.agents number ≡ Some agent
    → (n : ℕ) × IsMostSends unit.functions agent from to stream n

cut_over : (Has Had : ℕ → Type 0) (n : ℕ) → ((m : ℕ) → Has m ↔ Had m) → IsCut Has SENDS n → IsCut Had SENDS n
cut_over Has Had n same (m, greatest, is) = (m, record { one = (same m).0 greatest.one; most = λ k had. greatest.most k ((same k).1 had) }, is)

module _ (unit : Whole) (code : Code) (same : HasSameWays unit code) (silent : SendsOutsideLoops unit) (mosts : HasMosts unit) where
  module _ (number point : ℕ) (agent : AgentDecl) (got : slice_get unit.agents number ≡ Some agent) (named : point < length agent.points) where
    its_loops : Each HasSendlessLoops agent.stmts
    its_loops = subst (λ (a : AgentDecl). Each HasSendlessLoops a.stmts) (get_or_from_slice_get unit.agents number agent agent got)
        (All-get_or (λ (a : AgentDecl). Each HasSendlessLoops a.stmts) unit.agents number agent (slice_get_within unit.agents number agent got) silent)

    abbrev Sent : ℕ → ℕ → ℕ → Type 0
    Sent to stream = HasSends unit.functions agent point to stream

    abbrev Coded : ℕ → ℕ → ℕ → Type 0
    Coded to stream = HasCodeSends code.instrs (place_of code number point) to stream

    as_often : (to stream n : ℕ) → Sent to stream n ↔ Coded to stream n
    as_often = (same.from number point agent got named).sends its_loops

    -- There is a greatest number by the statements, so there is one by the code.
    bounded : (to stream : ℕ) {A : Type 0} → ((m : ℕ) → (n : ℕ) × Coded to stream n × (m < n)) → A
    bounded to stream greater = by (mosts number agent point to stream got).1
      where
        by : {A : Type 0} {n : ℕ} → IsMostSends unit.functions agent point to stream n → A
        by (inl (none, e)) = let (n, has, less) = greater 0 in let h = (as_often to stream n).1 has in absurd (none (h.0, h.1))
        by (inr (most, greatest, is)) = let (n, has, less) = greater most in absurd (omega (arith, less, greatest.most n ((as_often to stream n).1 has)))

    stated : (budget : ℕ) (way : SendWay) → IsMostCodeSends code.instrs (place_of code number point) way.to way.stream budget way.most
        → IsMostSends unit.functions agent point way.to way.stream way.most
    stated budget way (inl cut) =
        inr (cut_over (Coded way.to way.stream) (Sent way.to way.stream) way.most (λ n. let both = as_often way.to way.stream n in (both.1, both.0)) cut)
    stated budget way (inr (greater, is)) = bounded way.to way.stream greater

    coded : (budget : ℕ) (way : SendWay) → 1 ≤ way.most → IsMostSends unit.functions agent point way.to way.stream way.most
        → IsMostCodeSends code.instrs (place_of code number point) way.to way.stream budget way.most
    coded budget way some (inl (none, e)) = absurd (omega (arith, some, e))
    coded budget way some (inr cut) = inl (cut_over (Sent way.to way.stream) (Coded way.to way.stream) way.most (as_often way.to way.stream) cut)

  module _ (ways : Ways) (are : AreCodeWays unit code ways) where
    sends_of : AreByPoint (points_of unit) (λ agent. AreSends unit.functions (agent_at unit agent)) ways.sends
    sends_of =
        let Are : ℕ → ℕ → List SendWay → Type 0 = λ agent point. AreCodeSends code.instrs (place_of code agent point) (budget_of unit agent point) in
        record {
          counts = are.sends.counts;
          each = λ number point list one at there. (
              let got = known unit Are ways.sends are.sends number list at in
              let count = as_many unit Are ways.sends are.sends number list at in
              let named : point < length (agent_at unit number).points = omega (arith, count, slice_get_within list point one there) in
              let own = are.sends.each number point list one at there in
              let budget = budget_of unit number point in
              record {
                rise = own.rise;
                each = λ way. (
                  (λ has. let is = (own.each way).0 has in (stated number point (agent_at unit number) got named budget way is.0, is.1)),
                  (λ is. (own.each way).1 (coded number point (agent_at unit number) got named budget way is.1 is.0, is.1)),
                );
              });
        }

    -- The ways of the code are those of the statements, where its points, looks and delays are.
    pub ways_of : ((paths : Paths) → AreCodePaths unit code paths → ArePathsOf unit paths) → AreWaysOf unit ways
    ways_of law =
        let its = law (record { nexts = ways.nexts; looks = ways.looks; delays = ways.delays })
        (record { nexts = are.nexts; looks = are.looks; delays = are.delays }) in
        record { nexts = its.nexts; looks = its.looks; sends = sends_of; delays = its.delays }
