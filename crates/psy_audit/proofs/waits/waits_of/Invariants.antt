-- What each loop of `waits::waits_of` keeps.
use Rattle.std.proofs.Common.{◌≡◌, ◌==◌, map, take}
use Rattle.std.specs.Prelude.{filter}
use Rattle.psy_audit.specs.declared.said.Act.{Act}
use Rattle.psy_audit.specs.declared.said.Segment.{Segment}
use Rattle.psy_audit.specs.Judging.{untied}
use Rattle.psy_audit.specs.Waits.{wait_in}
use Rattle.psy_audit.proofs.waits.waits_of.Given as goal

-- The actions so far, as they wait
abbrev pub invariant-acts : goal.invariant-acts
invariant-acts l = l.waits ≡ map (λ (a : Act). wait_in (untied l.plan) (filter (λ (s : Segment). s.number == a.number) l.segments) a) (take l.act-index l.acts)
