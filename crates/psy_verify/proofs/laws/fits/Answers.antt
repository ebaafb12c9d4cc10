-- What is left of the proof of `laws::fits`.
use Rattle.psy_verify.proofs.Lists.{can_walk, ways_for}
use Rattle.psy_verify.proofs.Wells.{fits_by}
use Rattle.psy_verify.proofs.laws.fits.Goals as goal

pub returns-clause-walk : goal.returns-clause-walk
returns-clause-walk c = can_walk

pub returns-clause-lists : goal.returns-clause-lists
returns-clause-lists c unit code ways bare v parts are = ways_for unit code v parts bare ways are

pub returns-clause-fits : goal.returns-clause-fits
returns-clause-fits c unit code ways bare inits its =
    fits_by c.lasting.ensures.ended unit code ways bare inits its.slots its.few its.verified its.parts its.ways its.mosts
