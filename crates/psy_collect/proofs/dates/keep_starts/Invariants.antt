-- What each loop of `dates::keep_starts` keeps.
use Rattle.std.proofs.Common.{◌≡◌, ◌<◌, ◌≤◌, ℕ, None, get_or, length}
use Rattle.psy_collect.specs.Keeping.{last_in}
use Rattle.psy_collect.proofs.dates.keep_starts.Given as goal

abbrev pub invariant-agents : goal.invariant-agents
invariant-agents l =
    record {
      many : length l.last ≡ length l.fn.last;
      done : (agent : ℕ) → agent < l.agent → get_or l.last agent None ≡ last_in l.fn.last l.seats l.date agent;
      left : (agent : ℕ) → l.agent ≤ agent → get_or l.last agent None ≡ get_or l.fn.last agent None;
    }
