-- What is left of the proof of `looking::looks_by_point`.
use Rattle.std.proofs.Common.{◌≡◌, ◌+◌, ◌∙◌, [], false, length, sym, ap, subst, arith}
use Rattle.std.specs.Prelude.{replicate}
use Rattle.std.proofs.lemmas.List.{length-replicate}
use Rattle.psy_lists.proofs.lemmas.Places.{written_back}
use Rattle.psy_meaning.specs.Flow.{MayLook}
use Rattle.psy_meaning.specs.ListedWays.{AreLooks}
use Rattle.psy_flow.specs.Listed.{AreLooksBelow, AreOf}
use Rattle.psy_flow.specs.Texts.{looks_in, marked_at}
use Rattle.psy_flow.proofs.Longer.{empty_are, same_are}
use Rattle.psy_flow.proofs.NumbersBelow.{all_below, none_below}
use Rattle.psy_flow.proofs.TextMarks.{length-marked_at, unmarked}
use Rattle.psy_flow.proofs.looking.looks_by_point.Goals as goal

pub variables-init : goal.variables-init
variables-init c =
    let agent = c.args.agent.now in
    let empty : c.in_ok-lists.lists.items ≡ replicate (length agent.points) [] = c.in_ok-lists.ensures ∙ ap (λ n. replicate n []) c.len.ensures in
    record {
      count = ap length empty ∙ length-replicate (length agent.points) [];
      looks = λ unit number its. empty_are agent (λ point. AreLooksBelow unit.functions agent point 0) c.in_ok-lists.lists.items empty (λ point. none_below (MayLook unit.functions agent point));
    }

pub bounds-as_slice-variable : goal.bounds-as_slice-variable
bounds-as_slice-variable c =
    omega (arith, ap length (c.as_slice-in-variables.ensures ∙ c.in_ok-looked.ensures), length-marked_at c.args.variables (looks_in c.as_slice.result.now), c.variables-test.true)

pub add_variable-requires-clause-looked : goal.add_variable-requires-clause-looked
add_variable-requires-clause-looked c not unit number point its may =
    let agent = c.args.agent.now in
    let variable = c.variables.variable in
    unmarked c.args.variables (looks_in agent.stmts) c.as_slice-in-variables.result.now variable
    (c.as_slice-in-variables.ensures ∙ c.in_ok-looked.ensures ∙ ap (λ stmts. marked_at (replicate c.args.variables false) (looks_in stmts)) c.as_slice.ensures)
    (omega (arith, c.variables-test.true)) not (c.texts.ensures.looks unit number agent point variable its may)

pub variables-preserved : goal.variables-preserved
variables-preserved c =
    let agent = c.args.agent.now in
    let variable = c.variables.variable in
    let lists = c.variables.lists in
    let value = c.as_mut_slice.ensures.value in
    let as_many = c.add_variable.ensures.as_many ∙ ap length value in
    let back = written_back lists.items c.add_variable.new.lists lists.len (omega (arith, lists.ok)) as_many in
    record {
      count = ap length back ∙ as_many ∙ c.variables.invariant.count;
      looks = λ unit number its. subst (AreOf agent (λ point. AreLooksBelow unit.functions agent point (variable + 1))) (sym back)
          (c.in_ok-add_variable.ensures.looks unit number its
          (subst (AreOf agent (λ point. AreLooksBelow unit.functions agent point variable)) (sym value) (c.variables.invariant.looks unit number its)));
    }

pub returns : goal.returns
returns c unit number its same =
    let agent = c.args.agent.now in
    let all : c.variables.variable ≡ c.args.variables = omega (arith, c.variables-test.false, c.variables.auto.variable-end) in
    subst (AreOf agent (AreLooks unit.functions agent)) (sym c.from_vec.ensures)
    (same_are agent (λ point. AreLooksBelow unit.functions agent point c.variables.variable) (AreLooks unit.functions agent) c.variables.lists.items
    (λ point list less was.
    let are = all_below (MayLook unit.functions agent point) c.variables.variable list was
    (λ variable may. omega (arith, c.named.ensures.looks unit number agent point variable its may, same, all)) in
    record { rise = are.rise; each = are.each })
    (c.variables.invariant.looks unit number its))
