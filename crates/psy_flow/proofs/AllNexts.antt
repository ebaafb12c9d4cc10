-- What may follow all points of an agent, as lists by point.
use Rattle.std.proofs.Common.{◌≡◌, ℕ, List, Some, length, map, sym, subst, ◌∙◌, arith}
use Rattle.std.specs.Prelude.{slice_get}
use Rattle.std.specs.List.{range_with_len}
use Rattle.std.proofs.lemmas.List.FromFn.{length-map-range_with_len, get_or-map-range_with_len}
use Rattle.std.proofs.lemmas.Option.{slice_get_within, get_or_from_slice_get}
use Rattle.psy_tree.specs.declared.unit.AgentDecl.{AgentDecl}
use Rattle.psy_tree.specs.declared.unit.Unit.{Unit as Whole}
use Rattle.psy_meaning.specs.Flow.{AreNexts, Rises}
use Rattle.psy_flow.specs.Agents.{IsAgentOf, IsKnown}
use Rattle.psy_flow.specs.Reach.{numbers_of}
use Rattle.psy_flow.proofs.MarkedNumbers.{numbers_rise}
use Rattle.psy_flow.proofs.NextPoints.{marks_from, numbers_next}

-- The numbers of the points that are reached from a point
abbrev nexts_from : AgentDecl → ℕ → List ℕ
nexts_from agent point = numbers_of (marks_from agent point)

-- Those by point
abbrev pub all_nexts : AgentDecl → List (List ℕ)
all_nexts agent = map (nexts_from agent) (range_with_len 0 (length agent.points))

nexts_at : (agent : AgentDecl) (point : ℕ) (list : List ℕ) → slice_get (all_nexts agent) point ≡ Some list → list ≡ nexts_from agent point
nexts_at agent point list is =
    let less = slice_get_within (all_nexts agent) point list is in
    let many = length-map-range_with_len (nexts_from agent) 0 (length agent.points) in
    sym (get_or_from_slice_get (all_nexts agent) point list list is)
    ∙ get_or-map-range_with_len (nexts_from agent) 0 (length agent.points) point point list (omega arith) (omega arith)

pub are_nexts : (unit : Whole) (number : ℕ) (agent : AgentDecl) → IsAgentOf unit number agent → IsKnown unit number agent → AreNexts unit.functions agent (all_nexts agent)
are_nexts unit number agent its known = record {
  length = length-map-range_with_len (nexts_from agent) 0 (length agent.points);
  rise = λ point list is. subst Rises (sym (nexts_at agent point list is)) (numbers_rise (marks_from agent point));
  each = λ point list is to. numbers_next unit number agent its known point list (nexts_at agent point list is) to;
}
