-- What is left of the proof of `paths::code_paths`.
use Rattle.std.proofs.Common.{◌≡◌, ◌≤◌, ℕ, length, Some, arith, subst}
use Rattle.std.specs.Prelude.{slice_get}
use Rattle.std.proofs.lemmas.Option.{get_or_from_slice_get, slice_get_within}
use Rattle.psy_base.specs.declared.limits.TheConstants.{POINTS}
use Rattle.psy_tree.specs.declared.unit.AgentDecl.{AgentDecl}
use Rattle.psy_meaning.specs.Units.{IsBareAgent}
use Rattle.psy_flow.specs.declared.kinds.Sought.TheVariants as sought
use Rattle.psy_flow.specs.CodeLists.{AreFoundLists}
use Rattle.psy_flow.proofs.FoundRows.{looks_by_point, most_below, nexts_by_point}
use Rattle.psy_flow.proofs.paths.code_paths.Goals as goal

pub found_lists-requires-clause-few : goal.found_lists-requires-clause-few
found_lists-requires-clause-few c =
    let unit = c.args.unit.now in
    let few : (i : ℕ) (a : AgentDecl) → slice_get unit.agents i ≡ Some a → length a.points ≤ POINTS = λ i a at.
    (subst (IsBareAgent unit) (get_or_from_slice_get unit.agents i a a at) (c.requires.bare.agents i a (slice_get_within unit.agents i a at))).limit in
    omega (arith, c.most_points.ensures, most_below POINTS unit.agents few)

pub returns : goal.returns
returns c =
    let unit = c.args.unit.now in
    let code = c.args.code.now in
    let nexts = c.in_ok-nexts.nexts in
    let looks = c.in_ok-looks.looks in
    record {
      nexts = nexts_by_point unit code c.requires.walk nexts (subst (λ (n : ℕ). AreFoundLists code sought.Ends n nexts) c.most_points.ensures c.in_ok-nexts.ensures);
      looks = looks_by_point unit code c.requires.walk looks (subst (λ (n : ℕ). AreFoundLists code sought.Looks n looks) c.len.ensures c.in_ok-looks.ensures);
      delays = c.in_ok-delays.ensures;
    }
