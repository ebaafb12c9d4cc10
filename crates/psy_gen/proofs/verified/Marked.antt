-- The marks of the code of a unit keep all rules.
use Rattle.std.proofs.Common.{◌≡◌, ℕ, zero, suc, ◌+◌, ◌<◌, ◌≤◌, List, [], ◌∷◌, map, length, get_or, Option, Some, None, refl, sym, ap, subst, ◌∙◌, inl, inr, arith}
use Rattle.std.specs.Prelude.{◌-◌, slice_get}
use Rattle.std.proofs.lemmas.Bool.{cases_lt}
use Rattle.std.proofs.lemmas.Option.{slice_get_within}
use Rattle.psy_code.specs.declared.code.AgentCode.{AgentCode}
use Rattle.psy_code.specs.declared.code.Code.{Code}
use Rattle.psy_code.specs.declared.code.FunctionCode.{FunctionCode}
use Rattle.psy_tree.specs.declared.unit.AgentDecl.{AgentDecl}
use Rattle.psy_tree.specs.declared.unit.Unit.{Unit as Whole}
use Rattle.psy_meaning.specs.CodeWays.{agent_code_at}
use Rattle.psy_meaning.specs.Sizes.{stmts_size}
use Rattle.psy_meaning.specs.Sound.{Each, IsSoundUnit}
use Rattle.psy_flow.specs.Marks.{AreMarks, IsMarked, Mark, Marks}
use Rattle.psy_flow.specs.Needs.{frame_size}
use Rattle.psy_flow.specs.Owners.{Agent, Begins, Function, Owner}
use Rattle.psy_gen.specs.Emission.{agent_size, code_of, function_size, functions_size, places_in}
use Rattle.psy_gen.proofs.Alikes.{agents_length}
use Rattle.psy_gen.proofs.Basics.{no_some, some_is}
use Rattle.psy_gen.proofs.Equations.{placed}
use Rattle.psy_gen.proofs.verified.Agents.{Ends, agent_done, agent_own, agent_start, its_points}
use Rattle.psy_gen.proofs.verified.Functions.{entries_length, function_done, function_own, function_start, function_uses}
use Rattle.psy_gen.proofs.verified.Functions as functions
use Rattle.psy_gen.proofs.verified.Marking.{height_at, mark_for, marks_of, owners_from, owners_of}
use Rattle.psy_gen.proofs.verified.Stmts.{Start}
use Rattle.psy_gen.proofs.verified.Stretches.{Got, got_at, got_behind, got_front, owners_length, start_end, start_first, start_next, start_of, whose}

past_all : {A : Type 0} (xs : List A) (n : ℕ) (d : A) → length xs ≤ n → get_or xs n d ≡ d
past_all [] n d more = refl
past_all (x ∷ xs) zero d more = absurd (omega (arith, more))
past_all (x ∷ xs) (suc n) d more = past_all xs n d (omega (arith, more))

-- The code of an agent that isn't there
abbrev no_code : AgentCode
no_code = record { points = []; cells = []; counters = 0; copies = []; stack = 0; frames = 0 }

each_at : (P : ℕ → Type 0) (xs : List ℕ) (n x : ℕ) → Each P xs → slice_get xs n ≡ Some x → P x
each_at P [] n x h got = no_some x got
each_at P (y ∷ xs) zero x h got = subst P (some_is y x got) h.0
each_at P (y ∷ xs) (suc n) x h got = each_at P xs n x h.1 got

-- A way from each place of each agent ends.
abbrev pub AllEnd : (unit : Whole) → IsSoundUnit unit → Type 0
AllEnd unit sound = (n : ℕ) (agent : AgentDecl) (got : slice_get unit.agents n ≡ Some agent) → Ends unit sound n agent got

module _ (unit : Whole) (sound : IsSoundUnit unit) (ends : AllEnd unit sound) where
  abbrev code : Code
  code = code_of unit

  abbrev height : ℕ → ℕ
  height = height_at code

  abbrev marks : Marks
  marks = marks_of unit

  abbrev base : ℕ
  base = functions_size unit.functions

  -- ---- heights where codes begin

  function_low : (n : ℕ) → n ≤ length unit.functions → height (start_of function_size 0 unit.functions n) ≡ 0
  function_low zero few = ap height (start_first function_size 0 unit.functions)
  function_low (suc n) few =
      let g : Got unit.functions n = got_at unit.functions n (omega (arith, few)) in
      let done = function_done unit sound n g.one g.at (function_low n (omega (arith, few))) in
      let next : start_of function_size 0 unit.functions (suc n) ≡ start_of function_size 0 unit.functions n + stmts_size g.one.stmts + 2 =
      omega (arith, start_next function_size 0 unit.functions n g.one g.at) in
      ap height next ∙ done.end

  agents_low : height base ≡ 0
  agents_low =
      let end : base ≡ start_of function_size 0 unit.functions (length unit.functions) = omega (arith, start_end function_size 0 unit.functions) in
      ap height end ∙ function_low (length unit.functions) (omega arith)

  agent_low : (n : ℕ) → n ≤ length unit.agents → height (start_of agent_size base unit.agents n) ≡ 0
  agent_low zero few = ap height (start_first agent_size base unit.agents) ∙ agents_low
  agent_low (suc n) few =
      let g : Got unit.agents n = got_at unit.agents n (omega (arith, few)) in
      let done = agent_done unit sound n g.one g.at (ends n g.one g.at) (agent_low n (omega (arith, few))) in
      let next : start_of agent_size base unit.agents (suc n) ≡ start_of agent_size base unit.agents n + stmts_size g.one.stmts + 1 =
      omega (arith, start_next agent_size base unit.agents n g.one g.at) in
      ap height next ∙ done.end

  -- ---- each place

  abbrev Is : ℕ → Owner → Type 0
  Is place owner = IsMarked unit code marks place (record { owner = owner; height = height place })

  function_place : (place : ℕ) (owner : Owner) → slice_get (owners_from function_size Function 0 unit.functions) place ≡ Some owner → Is place owner
  function_place place owner got =
      let w = whose function_size Function unit.functions 0 0 place owner got in
      let z : 0 + w.number ≡ w.number = omega arith in
      let low = function_low w.number (omega (arith, slice_get_within unit.functions w.number w.one w.at)) in
      let done = function_done unit sound w.number w.one w.at low in
      subst (Is place) (sym (w.is ∙ ap Function z)) (done.over place (omega (arith, w.above)) (omega (arith, w.below)))

  agent_place : (place rest : ℕ) (owner : Owner) → base + rest ≡ place → slice_get (owners_from agent_size Agent 0 unit.agents) rest ≡ Some owner
      → Is place owner
  agent_place place rest owner whole got =
      let w = whose agent_size Agent unit.agents 0 base rest owner got in
      let z : 0 + w.number ≡ w.number = omega arith in
      let low = agent_low w.number (omega (arith, slice_get_within unit.agents w.number w.one w.at)) in
      let done = agent_done unit sound w.number w.one w.at (ends w.number w.one w.at) low in
      subst (Is place) (sym (w.is ∙ ap Agent z)) (done.over place (omega (arith, w.above, whole)) (omega (arith, w.below, whole)))

  place_is : (place : ℕ) (owner : Owner) → slice_get (owners_of unit) place ≡ Some owner → Is place owner
  place_is place owner got =
      let these = owners_from function_size Function 0 unit.functions in
      let those = owners_from agent_size Agent 0 unit.agents in
      let many = owners_length function_size Function unit.functions 0 in
      elim (cases_lt place (length these)) [
        | inl less ↦ function_place place owner (sym (got_front these those place less) ∙ got)
        | inr more ↦ (
            let rest = place - base in
            let whole : base + rest ≡ place = omega (arith, more, many) in
            agent_place place rest owner whole (sym (got_behind these those place rest (omega (arith, whole, many))) ∙ got)
            )
      ]

  by_owner : (place : ℕ) (mark : Mark) (o : Option Owner) → slice_get (owners_of unit) place ≡ o → mark_for code place o ≡ Some mark
      → IsMarked unit code marks place mark
  by_owner place mark None is got = no_some mark got
  by_owner place mark (Some owner) is got =
      subst (IsMarked unit code marks place) (some_is (record { owner = owner; height = height place }) mark got) (place_is place owner is)

  -- ---- where owners begin

  begins : (owner : Owner) (place : ℕ) → Begins code owner place → marks.at place ≡ Some (record { owner = owner; height = 0 })
  begins (Function n) place (less, is) =
      let g : Got unit.functions n = got_at unit.functions n (omega (arith, less, entries_length unit.functions 0)) in
      let start = function_start unit sound n g.one g.at in
      let low = function_low n (omega (arith, slice_get_within unit.functions n g.one g.at)) in
      let same : start ≡ place = sym (is ∙ ap (λ (e : FunctionCode). e.entry) (functions.its_is unit sound n g.one g.at)) in
      subst (λ q. marks.at q ≡ Some (record { owner = Function n; height = 0 })) same
      ((function_own unit sound n g.one g.at).marked start (omega arith) (omega arith) ∙ ap (λ h. Some (record { owner = Function n; height = h })) low)
  begins (Agent n) place (point, found) = elim (cases_lt n (length unit.agents)) [
    | inl less ↦ (
        let g : Got unit.agents n = got_at unit.agents n less in
        let o = agent_own unit sound n g.one g.at (ends n g.one g.at) in
        let start = agent_start unit sound n g.one g.at in
        let low = agent_low n (omega (arith, less)) in
        let done = agent_done unit sound n g.one g.at (ends n g.one g.at) low in
        let all : Each (Start o) (start ∷ places_in (map placed g.one.stmts) start) = ((omega arith, omega arith, low), done.starts) in
        let here = each_at (Start o) (start ∷ places_in (map placed g.one.stmts) start) point place all (its_points unit sound n g.one g.at point place found) in
        o.marked place here.0 here.1 ∙ ap (λ h. Some (record { owner = Agent n; height = h })) here.2
        )
    | inr more ↦ (
        let none : agent_code_at code n ≡ no_code = past_all code.agents n no_code (omega (arith, more, agents_length unit unit.agents 0 base)) in
        no_some place (ap (λ (a : AgentCode). slice_get a.points point) (sym none) ∙ found)
        )
  ]

  owns : (n : ℕ) → n < length code.functions → frame_size code n ≤ marks.uses n
  owns n less =
      let g : Got unit.functions n = got_at unit.functions n (omega (arith, less, entries_length unit.functions 0)) in
      omega (arith, function_uses unit sound n g.one g.at)

  pub are_marks : AreMarks unit code marks
  are_marks = record { start = begins; each = λ place mark got. by_owner place mark (slice_get (owners_of unit) place) refl got; own = owns }
