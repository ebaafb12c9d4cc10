-- What is left of the proof of `laws::fits_by`.
use Rattle.psy_run.proofs.ImagePlans.{plan_fits}
use Rattle.psy_run.proofs.PlanLemmas.{each_apart}
use Rattle.psy_run.proofs.laws.fits_by.Goals as goal

pub returns : goal.returns
returns c = plan_fits (record {
  lists = λ unit code ways bare checked. c.fits.ensures.lists unit code ways bare checked.verified checked.parts checked.ways;
  fits = c.fits.ensures.fits;
  supply = c.supplies_by.ensures;
  apart = each_apart c.one_of_them.ensures.few c.one_of_them.ensures.homes;
})
