-- What each loop of `code_sends::code_sends` keeps.
use Rattle.std.proofs.Common.{◌≡◌, length, take}
use Rattle.psy_meaning.specs.CodeWays.{HaveMosts, IsMostCodeSends}
use Rattle.psy_flow.specs.Listed.{AreSendsAmong}
use Rattle.psy_flow.proofs.code_sends.code_sends.Given as goal

abbrev pub invariant-nexts : goal.invariant-nexts
invariant-nexts l = record {
  count : length l.row ≡ length l.instrs;
  ways : AreSendsAmong (λ to stream. IsMostCodeSends l.instrs l.from to stream l.budget) (take l.to-index l.nexts) l.ways;
  judged : HaveMosts l.instrs l.from l.budget l.streams (take l.to-index l.nexts);
}
