-- What is left of the proof of `inputs::stated_lists`.
use Rattle.std.proofs.Common.{◌+◌, ◌≤◌, [], ◌∷◌, ◌++◌, length, Ok, refl, sym, ap, ◌∙◌, subst, length-append, arith}
use Rattle.std.proofs.lemmas.Bool.Decides.{nat_tests}
use Rattle.psy_base.specs.declared.limits.TheConstants.{LINES}
use Rattle.psy_script.specs.Faults.{IsFirst}
use Rattle.psy_script.specs.Inputs.{inputs_judge, lists_in}
use Rattle.psy_text.specs.Lines.{lines_of}
use Rattle.psy_script.proofs.FirstFaults.{AreRead, read_none, read_more, read_fault, read_all, told}
use Rattle.psy_script.proofs.InputFaults.{inputs_of_lists}
use Rattle.psy_script.proofs.ListsKept.{lists_none}
use Rattle.psy_script.proofs.inputs.stated_lists.Goals as goal
use Rattle.psy_script.proofs.inputs.stated_lists.Goals.{In-Some}

-- The lines that were read, with the one that was cut next
next : (c : In-Some) → AreRead (inputs_judge c.args.unit.now) c.args.text.now c.loop-cut.invariant.before (c.in-Some.cut.front.now ∷ lines_of c.in-Some.cut.rest.now)
next c = subst (AreRead (inputs_judge c.args.unit.now) c.args.text.now c.loop-cut.invariant.before) c.in-Some.ensures.0 c.loop-cut.invariant.read

pub loop-cut-init : goal.loop-cut-init
loop-cut-init c =
    let few : length (lines_of c.args.text.now) ≤ LINES = grind (arith, nat_tests) in
    record {
      before = [];
      read = read_none (inputs_judge c.args.unit.now) c.args.text.now few;
      count = refl;
      lists = c.in_ok-lists.ensures ∙ lists_none c.args.unit.now;
    }

pub returns-in-Some-2-clause-fault : goal.returns-in-Some-2-clause-fault
returns-in-Some-2-clause-fault c kind line e =
    let i = c.loop-cut.invariant in
    let judge = inputs_judge c.args.unit.now in
    let wrong = sym (c.in_ok-kind.ensures.fault i.before i.lists) ∙ c.in-Some-2.is in
    let first = read_fault judge c.args.text.now i.before (lines_of c.in-Some.cut.rest.now) c.in-Some.cut.front.now (next (goal.at.returns-in-Some-2-clause-fault c).In-Some) c.in-Some-2.kind wrong in
    told (IsFirst judge c.args.text.now) c.in-Some-2.kind kind _ line e (subst (λ n. IsFirst judge c.args.text.now c.in-Some-2.kind (n + 1)) (sym i.count) first)

pub loop-cut-preserved : goal.loop-cut-preserved
loop-cut-preserved c =
    let i = c.loop-cut.invariant in
    let judge = inputs_judge c.args.unit.now in
    let sound = sym (c.in_ok-kind.ensures.fault i.before i.lists) ∙ c.in_default-2.is in
    record {
      before = i.before ++ c.in-Some.cut.front.now ∷ [];
      read = read_more judge c.args.text.now i.before (lines_of c.in-Some.cut.rest.now) c.in-Some.cut.front.now (next (goal.at.loop-cut-preserved c).In-Some) sound;
      count = omega (arith, length-append i.before (c.in-Some.cut.front.now ∷ []));
      lists = c.in_ok-kind.ensures.added (ap Ok c.in_default-2.is) i.before i.lists;
    }

pub returns-clause-inputs : goal.returns-clause-inputs
returns-clause-inputs c =
    let i = c.loop-cut.invariant in
    let judge = inputs_judge c.args.unit.now in
    let all = read_all judge c.args.text.now i.before (subst (AreRead judge c.args.text.now i.before) c.in_default.ensures i.read) in
    inputs_of_lists c.args.unit.now c.args.text.now c.loop-cut.lists (record { lawful = all.0; stated = i.lists ∙ ap (lists_in c.args.unit.now) all.1 })
