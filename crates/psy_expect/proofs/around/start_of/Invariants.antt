-- What each loop of `around::start_of` keeps.
use Rattle.std.proofs.Common.{◌≡◌, ◌+◌, ◌≤◌, length, take}
use Rattle.std.specs.List.{suffix_len}
use Rattle.psy_expect.specs.Arounds.{is_within}
use Rattle.psy_expect.proofs.around.start_of.Given as goal

abbrev pub invariant-back : goal.invariant-back
invariant-back l = record {
  within : l.start ≤ length l.front;
  counted : l.start + suffix_len is_within l.front ≡ length l.front + suffix_len is_within (take l.start l.front);
}

abbrev pub decreases-back : goal.decreases-back
decreases-back l = l.start
