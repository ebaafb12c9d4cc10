-- What is left of the proof of `ways::ways_of`.
use Rattle.psy_plan.proofs.ways.ways_of.Goals as goal

pub returns : goal.returns
returns c =
    let own = c.same_paths.ensures c.args.unit.now c.args.code.now c.in_ok-paths.paths c.requires.same c.in_ok-paths.ensures in
    record { nexts = own.nexts; looks = own.looks; sends = c.in_ok-sends.ensures; delays = own.delays }
