-- What is left of the proof of `adding::known_with`.
use Rattle.psy_draw.specs.Gathering.{first_values}
use Rattle.psy_film.proofs.adding.known_with.Goals as goal

pub returns-clause-counts : goal.returns-clause-counts
returns-clause-counts c = λ notes counts.
    c.add_all.ensures.counts notes
    (record { last = counts.last; lanes = counts.lanes; firsts = c.in_ok-again.ensures.same (first_values c.args.from notes) counts.firsts })
