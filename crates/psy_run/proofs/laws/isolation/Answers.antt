-- What is left of the proof of `laws::isolation`.
use Rattle.std.proofs.Common.{◌+◌}
use Rattle.psy_run.proofs.OwnLemmas.{own_text-same, overran_before}
use Rattle.psy_run.proofs.laws.isolation.Goals as goal

pub returns : goal.returns
returns c unit nexts stalls others inputs until to text are alike =
    own_text-same unit nexts stalls others inputs to until
    (λ dates date less. c.isolation.ensures.stops unit nexts stalls others inputs dates to date text are (λ from reaches. overran_before unit nexts stalls others inputs from dates (until + 1) less (alike from reaches)))
    (λ dates date variable v less. c.isolation.ensures.values unit nexts stalls others inputs dates to date variable v text are (λ from reaches. overran_before unit nexts stalls others inputs from dates (until + 1) less (alike from reaches)))
