-- What each loop of `indent::first_pair` keeps.
use Rattle.std.proofs.Common.{◌≡◌, ◌≤◌, ◌-◌, [], length, map, take, drop}
use Rattle.psy_where.specs.Indents.{first_pair, line_of, opening_of}
use Rattle.psy_where.proofs.OpenPlaces.{open_places}
use Rattle.psy_where.proofs.PairsFound.{Rises}
use Rattle.psy_where.proofs.indent.first_pair.Given as goal

abbrev pub invariant-each : goal.invariant-each
invariant-each l = record {
  within : l.at ≤ length l.front;
  seen : l.seen ≤ length l.text;
  rises : Rises l.seen (length l.text) (drop l.at l.front);
  line : l.line ≡ line_of l.text l.seen;
  openings : l.openings.items ≡ map (opening_of l.text) (open_places (take l.at l.front));
  left : first_pair l.text (take l.at l.front) (drop l.at l.front) ≡ first_pair l.text [] l.front;
}

abbrev pub decreases-each : goal.decreases-each
decreases-each l = length l.front - l.at
