-- What is left of the proof of `code_sends::most_code_sends`.
use Rattle.std.proofs.Common.{◌≡◌, ℕ, ◌-◌, min, List, get_or, sym, ap, subst, ◌∙◌}
use Rattle.psy_base.specs.declared.limits.TheConstants.{SENDS}
use Rattle.psy_meaning.specs.CodeWays.{IsMostCodeSends, first}
use Rattle.psy_flow.proofs.CodeSendCounts.{cut_of_tops, endless_sends}
use Rattle.psy_flow.proofs.code_sends.most_code_sends.Goals as goal

pub returns-then-not-settle-clause-most : goal.returns-then-not-settle-clause-most
returns-then-not-settle-clause-most c =
    let instrs = c.args.instrs.now in
    let is : c.min.result ≡ min c.args.budget SENDS = c.min.ensures ∙ ap (λ n. min n SENDS) c.from.ensures in
    subst (IsMostCodeSends instrs c.args.from c.args.to c.args.stream c.args.budget) (sym is)
    (endless_sends instrs c.args.from c.args.to c.args.stream c.args.budget (c.settle.ensures.endless c.if-not-settle.true))

pub returns-clause-most : goal.returns-clause-most
returns-clause-most c =
    let instrs = c.args.instrs.now in
    let row = c.settle.new.row in
    let read : c.cell.result ≡ get_or row c.args.from 0 = c.cell.ensures ∙ ap (λ (r : List ℕ). get_or r c.args.from 0) c.as_slice.ensures in
    let is : c.min-2.result ≡ min (get_or row c.args.from 0 - 1) SENDS = c.min-2.ensures ∙ ap (λ n. min n SENDS) (c.saturating_sub.ensures ∙ ap (λ n. n - 1) read) in
    subst (IsMostCodeSends instrs c.args.from c.args.to c.args.stream c.args.budget) (sym is)
    (cut_of_tops instrs c.args.from c.args.to c.args.stream c.args.budget c.args.places.now row (c.settle.ensures.tops c.if-not-settle.false) ((c.requires.passed.each c.args.from).1 first) c.requires.goes)
