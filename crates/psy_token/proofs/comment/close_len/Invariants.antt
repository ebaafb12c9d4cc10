-- What each loop of `comment::close_len` keeps.
use Rattle.std.proofs.Common.{◌≡◌, ◌+◌, drop}
use Rattle.std.specs.Prelude.{option_map}
use Rattle.psy_token.specs.Reading.{close_len}
use Rattle.psy_token.proofs.comment.close_len.Given as goal

-- No `*/` so far
abbrev pub invariant-loop-at : goal.invariant-loop-at
invariant-loop-at l = close_len l.inside ≡ option_map (λ n. n + l.at) (close_len (drop l.at l.inside))
