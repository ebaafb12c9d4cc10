-- What is left of the proof of `code_lists::passed_backwards`.
use Rattle.std.proofs.Common.{◌≡◌, sym, subst, ◌∙◌}
use Rattle.psy_flow.specs.Walks.{ArePassed}
use Rattle.psy_flow.proofs.PassRows.{passed_in_order}
use Rattle.psy_flow.proofs.WalksMet.{passed_from_one, stay_from}
use Rattle.psy_flow.proofs.code_lists.passed_backwards.Goals as goal

pub passed_by_marks-requires-clause-inside : goal.passed_by_marks-requires-clause-inside
passed_by_marks-requires-clause-inside c = stay_from c.args.instrs.now c.args.from c.requires.inside

pub returns-clause-places : goal.returns-clause-places
returns-clause-places c =
    let instrs = c.args.instrs.now in
    let places : c.in_ok-ordered.ordered.items ≡ c.in_ok-places.places = c.in_ok-ordered.ensures.items ∙ c.as_slice.ensures in
    let are : ArePassed instrs c.args.from c.in_ok-ordered.ordered.items = subst (ArePassed instrs c.args.from) (sym places) (passed_from_one instrs c.args.from c.in_ok-places.places c.in_ok-places.ensures.places) in
    subst (ArePassed instrs c.args.from) (sym c.from_vec.ensures)
    (passed_in_order instrs c.args.from c.sort_unstable.new.self.items c.reverse.new.self.items
    (passed_in_order instrs c.args.from c.in_ok-ordered.ordered.items c.sort_unstable.new.self.items are c.sort_unstable.ensures.permutation) c.reverse.ensures.permutation)
