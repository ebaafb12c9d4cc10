-- What is left of the proof of `code_lists::sends_from`.
use Rattle.std.proofs.Common.{ℕ, List, length, subst, arith}
use Rattle.std.proofs.lemmas.Result.{IfOk-weaker}
use Rattle.psy_code.specs.declared.instr.Instr.TheVariants as instr
use Rattle.psy_meaning.specs.CodeWays.{AreCodeNexts, HaveMosts}
use Rattle.psy_flow.specs.CodeLists.{HaveMostsFrom}
use Rattle.psy_flow.proofs.Judged.{by_ways}
use Rattle.psy_flow.proofs.code_lists.sends_from.Goals as goal

pub ends_among-requires-clause-named : goal.ends_among-requires-clause-named
ends_among-requires-clause-named c place point passed at = omega (arith, c.requires.named place (instr.Advance point) passed at, c.len.ensures)

pub code_sends-requires-clause-named : goal.code_sends-requires-clause-named
code_sends-requires-clause-named c place stream after clock passed at = omega (arith, (c.requires.named place (instr.Send stream after clock) passed at).0, c.len-2.ensures)

pub returns-clause-judged : goal.returns-clause-judged
returns-clause-judged c =
    let instrs = c.args.instrs.now in
    let from = c.args.from in
    let budget = c.args.budget in
    let streams = length c.args.unit.now.streams in
    let nexts = c.in_ok-nexts.nexts in
    IfOk-weaker c.code_sends.result _ _ (λ sends have. by_ways instrs from budget streams nexts c.in_ok-nexts.ensures
    (subst (λ (ns : List ℕ). HaveMosts instrs from budget streams ns) c.as_slice-3.ensures
    (subst (λ n. HaveMosts instrs from budget n c.as_slice-3.result.now) c.len-2.ensures have))) c.code_sends.ensures.judged
