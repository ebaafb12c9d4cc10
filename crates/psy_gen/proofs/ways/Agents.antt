-- Where the code of an agent stands, and its points.
use Rattle.std.proofs.Common.{◌≡◌, ℕ, ◌<◌, ◌∷◌, length, get_or, Some, ap, arith}
use Rattle.std.specs.Prelude.{slice_get}
use Rattle.std.proofs.lemmas.Option.{slice_get-get_or, slice_get_within}
use Rattle.psy_code.specs.declared.code.AgentCode.{AgentCode}
use Rattle.psy_tree.specs.declared.unit.AgentDecl.{AgentDecl}
use Rattle.psy_tree.specs.declared.unit.Unit.{Unit as Whole}
use Rattle.psy_meaning.specs.CodeWays.{place_of}
use Rattle.psy_meaning.specs.CodeWays as code
use Rattle.psy_meaning.specs.Sound.{IsSoundAgent}
use Rattle.psy_gen.specs.Emission.{code_of, functions_size, stmts_places}
use Rattle.psy_gen.proofs.Alikes.{AgentAt, agent_found, agents_length}
use Rattle.psy_gen.proofs.PlaceCounts.{places_count}

module _ (unit : Whole) (number : ℕ) (agent : AgentDecl) (got : slice_get unit.agents number ≡ Some agent) where
  abbrev its : AgentCode
  its = code.agent_code_at (code_of unit) number

  pub stands : AgentAt unit (code_of unit) number agent its
  stands =
      let less : number < length unit.agents = slice_get_within unit.agents number agent got in
      let many = agents_length unit unit.agents 0 (functions_size unit.functions) in
      agent_found unit number agent its got (slice_get-get_or (code_of unit).agents number _ (omega (arith, less, many)))

  pub place_is : (point : ℕ) → place_of (code_of unit) number point ≡ get_or (stands.place ∷ stmts_places agent.stmts stands.place) point 0
  place_is point = ap (λ (a : AgentCode). get_or a.points point 0) stands.entry

  pub points_count : IsSoundAgent unit number agent → length (stands.place ∷ stmts_places agent.stmts stands.place) ≡ length agent.points
  points_count sound = omega (arith, places_count agent.stmts stands.place, sound.points)
