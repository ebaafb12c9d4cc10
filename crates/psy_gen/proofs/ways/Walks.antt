-- The code of a sound unit can be walked.
use Rattle.std.proofs.Common.{◌≡◌, ℕ, zero, suc, ◌+◌, ◌<◌, List, [], ◌∷◌, length, get_or, Some, sym, ap, subst, ◌∙◌, arith}
use Rattle.std.specs.Prelude.{slice_get}
use Rattle.psy_code.specs.declared.code.AgentCode.{AgentCode}
use Rattle.psy_code.specs.declared.instr.Instr.{Instr}
use Rattle.psy_tree.specs.declared.unit.AgentDecl.{AgentDecl}
use Rattle.psy_tree.specs.declared.unit.Unit.{Unit as Whole}
use Rattle.psy_meaning.specs.CodeWays.{CanWalk, IsPassed, NamesThere, place_of}
use Rattle.psy_meaning.specs.Sizes.{stmts_size}
use Rattle.psy_meaning.specs.Sound.{Each, IsSoundAgent, IsSoundUnit}
use Rattle.psy_gen.specs.Emission.{agent_layout, agent_code, code_of, functions_size, stmts_places}
use Rattle.psy_gen.proofs.Alikes.{agent_found, agents_length}
use Rattle.psy_gen.proofs.PlaceCounts.{places_count}
use Rattle.psy_gen.proofs.Wholes.{agent_length}
use Rattle.psy_gen.proofs.ways.Agents.{place_is, points_count, stands}
use Rattle.psy_gen.proofs.ways.Stays.{IsIn, Remains, body_stays, remains_at}

each_at : (P : ℕ → Type 0) (xs : List ℕ) (n : ℕ) → Each P xs → n < length xs → P (get_or xs n 0)
each_at P [] n h less = absurd (omega (arith, less))
each_at P (x ∷ xs) zero h less = h.0
each_at P (x ∷ xs) (suc n) h less = each_at P xs n h.1 (omega (arith, less))

module _ (unit : Whole) (number : ℕ) (agent : AgentDecl) (got : slice_get unit.agents number ≡ Some agent) (sound : IsSoundAgent unit number agent) where
  abbrev instrs : List Instr
  instrs = (code_of unit).instrs

  abbrev start : ℕ
  start = (stands unit number agent got).place

  abbrev end : ℕ
  end = start + stmts_size agent.stmts

  abbrev In : ℕ → Type 0
  In place = IsIn unit number agent start end place

  kept : (place : ℕ) (i : Instr) → In place → slice_get instrs place ≡ Some i → Remains unit number agent start end i place
  kept place i there at =
      remains_at unit number agent start end instrs (agent_code agent start) start place i
      (body_stays unit number agent start end (agent_layout agent) agent.stmts (omega arith) sound.stmts).0
      (stands unit number agent got).has there.0 (omega (arith, there.1, agent_length agent start)) at

  passed_in : (from place : ℕ) → In from → IsPassed instrs from place → In place
  passed_in from place there IsPassed.first = there
  passed_in from place there (IsPassed.later before next i passed at on) = (kept before i (passed_in from before there passed) at).on next on

  from_in : (point : ℕ) → point < length agent.points → In (place_of (code_of unit) number point)
  from_in point less =
      let places = stmts_places agent.stmts start in
      let all : Each In (start ∷ places) =
      ((omega arith, omega arith), (body_stays unit number agent start end (agent_layout agent) agent.stmts (omega arith) sound.stmts).1) in
      subst In (sym (place_is unit number agent got point))
      (each_at In (start ∷ places) point all (omega (arith, less, points_count unit number agent got sound)))

  pub in_code : (point place : ℕ) → point < length agent.points → IsPassed instrs (place_of (code_of unit) number point) place → place < length instrs
  in_code point place less passed =
      let there = passed_in (place_of (code_of unit) number point) place (from_in point less) passed in
      omega (arith, there.1, (stands unit number agent got).small)

  pub names : (point place : ℕ) (i : Instr) → point < length agent.points → IsPassed instrs (place_of (code_of unit) number point) place
      → slice_get instrs place ≡ Some i → NamesThere unit agent i
  names point place i less passed at = (kept place i (passed_in (place_of (code_of unit) number point) place (from_in point less) passed) at).named

pub can_walk : (unit : Whole) → IsSoundUnit unit → CanWalk unit (code_of unit)
can_walk unit sound = record {
  agents = agents_length unit unit.agents 0 (functions_size unit.functions);
  points = λ number agent its got found.
      let here = agent_found unit number agent its got found in
      ap (λ (a : AgentCode). length a.points) here.entry ∙ omega (arith, places_count agent.stmts here.place, (sound.agents number agent got).points);
  inside = λ number point place agent got. in_code unit number agent got (sound.agents number agent got) point place;
  named = λ number point place agent i got. names unit number agent got (sound.agents number agent got) point place i;
}
