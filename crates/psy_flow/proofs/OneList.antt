-- Ways are listed in one form only.
use Rattle.std.proofs.Common.{◌≡◌, ◌↔◌, ℕ, zero, suc, List, [], ◌∷◌, map, length, Some, sym, ap, ◌∙◌, inl, inr, arith}
use Rattle.std.specs.Prelude.{slice_get}
use Rattle.std.specs.List.{AllPairs, Contains}
use Rattle.std.proofs.lemmas.List.{length-map}
use Rattle.std.proofs.lemmas.Option.{slice_get-get_or, slice_get_within}
use Rattle.psy_base.specs.Extremes.{IsMost}
use Rattle.psy_base.specs.declared.ways.SendWay.{SendWay}
use Rattle.psy_base.specs.declared.ways.Ways.{Ways}
use Rattle.psy_flow.proofs.lemmas.Mosts.{no_more}
use Rattle.psy_flow.proofs.lemmas.OneNexts.{nexts_one, numbers_same}
use Rattle.psy_lists.proofs.lemmas.Places.{same_lists}
use Rattle.psy_lists.proofs.lemmas.Ordered.{same_elements}
use Rattle.psy_code.specs.declared.code.Code.{Code}
use Rattle.psy_code.specs.declared.instr.Instr.{Instr}
use Rattle.psy_tree.specs.declared.unit.AgentDecl.{AgentDecl}
use Rattle.psy_tree.specs.declared.unit.FunctionDecl.{FunctionDecl}
use Rattle.psy_tree.specs.declared.unit.Unit.{Unit as Whole}
use Rattle.psy_tree.specs.Parts.{agent_at, no_agent}
use Rattle.psy_meaning.specs.CodeWays.{AreCodeDelays, AreCodeLooks, AreCodeNexts, AreCodeSends, AreCodeWays, HasCodeDelay, budget_of, place_of}
use Rattle.psy_meaning.specs.Flow.{AreAllNexts}
use Rattle.psy_meaning.specs.ListedWays.{AreByPoint, AreDelays, AreLooks, AreSends, AreWaysOf, IsWayBefore, points_of}

-- ---- lists

length_at : {X : Type 0} (lists : List (List X)) (i : ℕ) (list : List X) → slice_get lists i ≡ Some list → slice_get (map length lists) i ≡ Some (length list)
length_at [] i list at = absurd (omega (arith, slice_get_within [] i list at))
length_at (first ∷ lists) zero list at = let same : first ≡ list = cc in ap (λ l. Some (length l)) same
length_at (first ∷ lists) (suc i) list at = length_at lists i list at

same_some : (a b : ℕ) → Some a ≡ Some b → a ≡ b
same_some a b e = cc

strict : (a b : SendWay) → IsWayBefore a b → IsWayBefore b a → ⊥
strict a b (inl p) (inl q) = omega (arith, p, q)
strict a b (inl p) (inr (e, q)) = omega (arith, p, e)
strict a b (inr (e, p)) (inl q) = omega (arith, q, e)
strict a b (inr (e, p)) (inr (f, q)) = omega (arith, p, q)

sends_same : (xs ys : List SendWay) → AllPairs IsWayBefore xs → AllPairs IsWayBefore ys → ((w : SendWay) → Contains xs w ↔ Contains ys w) → xs ≡ ys
sends_same xs ys rise also both = same_elements IsWayBefore strict xs ys rise also both

-- ---- by agent and point

module _ {X : Type 0} (points : List ℕ) (Are : ℕ → ℕ → X → Type 0) (one : (agent point : ℕ) (x y : X) → Are agent point x → Are agent point y → x ≡ y) where
  inner_count : (lists others : List (List X)) → AreByPoint points Are lists → AreByPoint points Are others → (agent : ℕ) (xs ys : List X) → slice_get lists agent ≡ Some xs → slice_get others agent ≡ Some ys → length xs ≡ length ys
  inner_count lists others a b agent xs ys at also =
      same_some (length xs) (length ys) (sym (length_at lists agent xs at) ∙ ap (λ ns. slice_get ns agent) (a.counts ∙ sym b.counts) ∙ length_at others agent ys also)

  by_point_same : (lists others : List (List X)) → AreByPoint points Are lists → AreByPoint points Are others → lists ≡ others
  by_point_same lists others a b =
      same_lists lists others (omega (arith, ap length a.counts, ap length b.counts, length-map lists (λ (l : List X). length l), length-map others (λ (l : List X). length l)))
      (λ agent xs ys at also. same_lists xs ys (inner_count lists others a b agent xs ys at also) (λ point x y p q. one agent point x y (a.each agent point xs x at p) (b.each agent point ys y also q)))

-- ---- of statements

looks_one : (functions : List FunctionDecl) (agent : AgentDecl) (point : ℕ) (xs ys : List ℕ) → AreLooks functions agent point xs → AreLooks functions agent point ys → xs ≡ ys
looks_one functions agent point xs ys a b = numbers_same xs ys a.rise b.rise (λ n. ((λ c. (b.each n).1 ((a.each n).0 c)), (λ c. (a.each n).1 ((b.each n).0 c))))

sends_one : (functions : List FunctionDecl) (agent : AgentDecl) (point : ℕ) (xs ys : List SendWay) → AreSends functions agent point xs → AreSends functions agent point ys → xs ≡ ys
sends_one functions agent point xs ys a b = sends_same xs ys a.rise b.rise (λ w. ((λ c. (b.each w).1 ((a.each w).0 c)), (λ c. (a.each w).1 ((b.each w).0 c))))

pub all_nexts_one : (unit : Whole) (lists others : List (List (List ℕ))) → AreAllNexts unit lists → AreAllNexts unit others → lists ≡ others
all_nexts_one unit lists others a b =
    same_lists lists others (a.count ∙ sym b.count) (λ number xs ys at also.
    let less = slice_get_within lists number xs at in
    let here = slice_get-get_or unit.agents number no_agent (omega (arith, less, a.count)) in
    nexts_one unit.functions (agent_at unit number) xs ys (a.each number (agent_at unit number) xs here at) (b.each number (agent_at unit number) ys here also))

delays_one : (unit : Whole) (xs ys : List ℕ) → AreDelays unit xs → AreDelays unit ys → xs ≡ ys
delays_one unit xs ys a b = same_lists xs ys (a.count ∙ sym b.count) (λ stream x y at also. a.each stream x at ∙ sym (b.each stream y also))

-- Ways by their parts
abbrev all_ways : List (List (List ℕ)) → List (List (List ℕ)) → List (List (List SendWay)) → List ℕ → Ways
all_ways nexts looks sends delays = record { nexts = nexts; looks = looks; sends = sends; delays = delays }

same_ways : (a b : Ways) → a.nexts ≡ b.nexts → a.looks ≡ b.looks → a.sends ≡ b.sends → a.delays ≡ b.delays → a ≡ b
same_ways a b p q r s =
    ap (λ n. all_ways n a.looks a.sends a.delays) p ∙ ap (λ l. all_ways b.nexts l a.sends a.delays) q ∙ ap (λ w. all_ways b.nexts b.looks w a.delays) r
    ∙ ap (λ d. all_ways b.nexts b.looks b.sends d) s

pub one_of_text : (unit : Whole) (ways others : Ways) → AreWaysOf unit ways → AreWaysOf unit others → ways ≡ others
one_of_text unit ways others a b =
    same_ways ways others (all_nexts_one unit ways.nexts others.nexts a.nexts b.nexts)
    (by_point_same (points_of unit) (λ agent. AreLooks unit.functions (agent_at unit agent)) (λ agent. looks_one unit.functions (agent_at unit agent)) ways.looks others.looks a.looks b.looks)
    (by_point_same (points_of unit) (λ agent. AreSends unit.functions (agent_at unit agent)) (λ agent. sends_one unit.functions (agent_at unit agent)) ways.sends others.sends a.sends b.sends)
    (delays_one unit ways.delays others.delays a.delays b.delays)

-- ---- of code

code_nexts_one : (instrs : List Instr) (from : ℕ) (xs ys : List ℕ) → AreCodeNexts instrs from xs → AreCodeNexts instrs from ys → xs ≡ ys
code_nexts_one instrs from xs ys a b = numbers_same xs ys a.rise b.rise (λ n. ((λ c. (b.each n).1 ((a.each n).0 c)), (λ c. (a.each n).1 ((b.each n).0 c))))

code_looks_one : (instrs : List Instr) (from : ℕ) (xs ys : List ℕ) → AreCodeLooks instrs from xs → AreCodeLooks instrs from ys → xs ≡ ys
code_looks_one instrs from xs ys a b = numbers_same xs ys a.rise b.rise (λ n. ((λ c. (b.each n).1 ((a.each n).0 c)), (λ c. (a.each n).1 ((b.each n).0 c))))

code_sends_one : (instrs : List Instr) (from budget : ℕ) (xs ys : List SendWay) → AreCodeSends instrs from budget xs → AreCodeSends instrs from budget ys → xs ≡ ys
code_sends_one instrs from budget xs ys a b = sends_same xs ys a.rise b.rise (λ w. ((λ c. (b.each w).1 ((a.each w).0 c)), (λ c. (a.each w).1 ((b.each w).0 c))))

most_one : (Has : ℕ → Type 0) (n m : ℕ) → IsMost Has n → IsMost Has m → n ≡ m
most_one Has n m a b = omega (arith, no_more Has n m a.one b, no_more Has m n b.one a)

code_delays_one : (unit : Whole) (code : Code) (xs ys : List ℕ) → AreCodeDelays unit code xs → AreCodeDelays unit code ys → xs ≡ ys
code_delays_one unit code xs ys a b = same_lists xs ys (a.count ∙ sym b.count) (λ stream x y at also. most_one (HasCodeDelay unit code stream) x y (a.each stream x at) (b.each stream y also))

pub one_of_code : (unit : Whole) (code : Code) (ways others : Ways) → AreCodeWays unit code ways → AreCodeWays unit code others → ways ≡ others
one_of_code unit code ways others a b =
    same_ways ways others
    (by_point_same (points_of unit) (λ agent point. AreCodeNexts code.instrs (place_of code agent point)) (λ agent point. code_nexts_one code.instrs (place_of code agent point)) ways.nexts others.nexts a.nexts b.nexts)
    (by_point_same (points_of unit) (λ agent point. AreCodeLooks code.instrs (place_of code agent point)) (λ agent point. code_looks_one code.instrs (place_of code agent point)) ways.looks others.looks a.looks b.looks)
    (by_point_same (points_of unit) (λ agent point. AreCodeSends code.instrs (place_of code agent point) (budget_of unit agent point)) (λ agent point. code_sends_one code.instrs (place_of code agent point) (budget_of unit agent point)) ways.sends others.sends a.sends b.sends)
    (code_delays_one unit code ways.delays others.delays a.delays b.delays)
