-- What is left of the proof of `laws::still`.
use Rattle.std.proofs.Common.{◌≤◌, ◌*◌, arith}
use Rattle.psy_history.specs.Scheduled.{turns_by}
use Rattle.psy_meaning.specs.KnownWays.{Listed}
use Rattle.psy_dates.specs.Plans.{opened_of}
use Rattle.psy_dates.specs.Still.{passed}
use Rattle.psy_dates.proofs.lemmas.Begun.{are_begun}
use Rattle.psy_dates.proofs.lemmas.Fits.{goes_well_from}
use Rattle.psy_dates.proofs.Dates.{shared_moves}
use Rattle.psy_dates.proofs.StillDates.{passed_moves}
use Rattle.psy_dates.proofs.StreamLaws.{stream_laws}
use Rattle.psy_dates.proofs.laws.still.Goals as goal

pub returns : goal.returns
returns c plan opening inputs stalls order date shared is are sound behind early due still stands =
    let s = opened_of plan opening inputs stalls in
    let bare = is.fits.bare in
    let run = goes_well_from plan is c.fitting.ensures c.openings.ensures.run opening inputs stalls are sound in
    let lawful = c.regular.ensures.lawful s (Listed is.ways) plan.code run in
    let begun = are_begun s (Listed is.ways) plan.code date (sound is) behind (c.openings.ensures.none s (Listed is.ways) plan.code run) (c.openings.ensures.silent s (Listed is.ways) plan.code run) (c.openings.ensures.waits s (Listed is.ways) plan.code run) in
    let laws = stream_laws plan is opening inputs stalls run c.regular.ensures.sends c.queues.ensures.next c.queues.ensures.look c.queue_sizes.ensures.held in
    let cycles = date * plan.unit.quantum in
    let turns = turns_by s order cycles in
    let upto : cycles ≤ date * plan.unit.quantum = omega arith in
    shared_moves plan opening inputs stalls bare lawful laws date begun turns (λ variable clock size. c.rings.ensures.next s date variable size lawful clock) (λ agent number new. c.given.ensures.unstarted s order date cycles agent number lawful bare.quantum.0 upto new) shared (passed date shared) due stands
    (passed_moves plan opening inputs stalls turns c.dates.ensures.below bare date shared still stands)
