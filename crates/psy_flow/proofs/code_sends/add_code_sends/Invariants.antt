-- What each loop of `code_sends::add_code_sends` keeps.
use Rattle.std.proofs.Common.{◌≡◌, length}
use Rattle.psy_meaning.specs.CodeWays.{IsMostCodeSends}
use Rattle.psy_flow.specs.CodeLists.{HaveMostsTo}
use Rattle.psy_flow.specs.Listed.{AreSendsUpTo}
use Rattle.psy_flow.proofs.code_sends.add_code_sends.Given as goal

abbrev pub invariant-streams : goal.invariant-streams
invariant-streams l = record {
  count : length l.row ≡ length l.instrs;
  ways : AreSendsUpTo (λ to stream. IsMostCodeSends l.instrs l.from to stream l.budget) l.to 0 l.fn.ways
      → AreSendsUpTo (λ to stream. IsMostCodeSends l.instrs l.from to stream l.budget) l.to l.stream l.ways;
  judged : HaveMostsTo l.instrs l.from l.budget l.stream l.to;
}
