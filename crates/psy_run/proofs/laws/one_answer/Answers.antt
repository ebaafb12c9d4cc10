-- What is left of the proof of `laws::one_answer`.
use Rattle.psy_run.proofs.DecidedAnswers.{Answers-same, Answers-some, refused-one}
use Rattle.psy_run.proofs.DecidedImages.{ImagesDecide}
use Rattle.psy_run.proofs.DecidedSteps.{PlansDecide}
use Rattle.psy_run.proofs.laws.one_answer.Goals as goal
use Rattle.psy_run.proofs.laws.one_answer.Goals.{After-distinct}

-- What the laws say of the plan's steps
decide : After-distinct → PlansDecide
decide c = record {
  of_text = c.programs.ensures;
  short = c.short.ensures;
  program = c.one_plan.ensures.program;
  graphs = c.one_plan.ensures.graphs;
  costs = c.one_plan.ensures.costs;
  supply = c.one_plan.ensures.supply;
}

-- And of those on images
images : After-distinct → ImagesDecide
images c = record {
  image = c.one_image.ensures.image;
  place = c.one_image.ensures.place;
  image_not_bad = c.one_image.ensures.not_both;
  bare = λ bytes it spelled. (c.images.ensures bytes it spelled).bare;
  fault = c.rules.ensures.one;
  verified_not = c.rules.ensures.none;
  ways = c.one_list.ensures.code;
  known = λ unit code ways bare checked. c.fits.ensures.lists unit code ways bare checked.verified checked.parts checked.ways;
  supply = c.by_ways.ensures;
  text = c.one_text.ensures;
  ranges = c.ranges-2.ensures;
}

pub returns-clause-same : goal.returns-clause-same
returns-clause-same c words files = let laws = (goal.at.returns-clause-same c).After-distinct in Answers-same (decide laws) (images laws) laws.distinct.ensures files words

pub returns-clause-some : goal.returns-clause-some
returns-clause-some c words files = let laws = (goal.at.returns-clause-some c).After-distinct in Answers-some (decide laws) (images laws) laws.distinct.ensures files words

pub returns-clause-refused : goal.returns-clause-refused
returns-clause-refused c = refused-one (decide (goal.at.returns-clause-refused c).After-distinct)
