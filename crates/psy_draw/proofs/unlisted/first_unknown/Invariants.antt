-- What each loop of `unlisted::first_unknown` keeps.
use Rattle.std.proofs.Common.{◌≡◌, ℕ, ◌<◌, Global, String, true, get_or}
use Rattle.std.specs.Prelude.{string_bytes}
use Rattle.psy_draw.specs.Tables.{has_name}
use Rattle.psy_draw.proofs.unlisted.first_unknown.Given as goal

-- The names so far are listed
abbrev pub invariant-loop-place : goal.invariant-loop-place
invariant-loop-place l = (k : ℕ) (d : String Global) → k < l.place → has_name l.listed (string_bytes (get_or l.names k d)) ≡ true
