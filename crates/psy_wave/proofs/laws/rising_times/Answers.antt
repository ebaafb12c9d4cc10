-- What is left of the proof of `laws::rising_times`.
use Rattle.psy_wave.proofs.Rising.{stamp_lines, times_rise}
use Rattle.psy_wave.proofs.laws.rising_times.Goals as goal

pub returns-clause-rise : goal.returns-clause-rise
returns-clause-rise c = λ text notes is. times_rise 0 is.last notes is.leads

pub returns-clause-lines : goal.returns-clause-lines
returns-clause-lines c = stamp_lines
