-- What each loop of `judge::judge` keeps.
use Rattle.std.proofs.Common.{◌≡◌, take, None}
use Rattle.psy_tree.specs.Rules.{sound_clocks, AreClocks}
use Rattle.psy_rules.specs.Tables.{HasInner}
use Rattle.psy_rules.specs.Judged.{judged_sited}
use Rattle.psy_rules.proofs.Program.{places_to}
use Rattle.psy_rules.proofs.judge.judge.Given as goal

abbrev pub invariant-loop-at : goal.invariant-loop-at
invariant-loop-at l = record {
  least : l.least.fault ≡ judged_sited (places_to l.raw l.at) None;
  clocks : l.clocks.items ≡ sound_clocks l.raw.items l.at;
  lawful : AreClocks l.clocks.items;
  inner : HasInner l.inner (take l.at l.raw.items);
}
