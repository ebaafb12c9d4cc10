-- The queues of a run, and the most that they hold.
use Rattle.std.proofs.Common.{◌≡◌, ℕ, zero, suc, ◌+◌, ◌<◌, ◌≤◌, length, map, ap, subst, inl, inr, arith}
use Rattle.std.proofs.lemmas.List.Elements.{All-get_or, All-map}
use Rattle.psy_base.specs.declared.limits.TheConstants.{QUEUE}
use Rattle.psy_lists.proofs.lemmas.Members.{all_members}
use Rattle.psy_code.specs.declared.code.Code.{Code}
use Rattle.psy_history.specs.Actions.{Next, System, stream_of}
use Rattle.psy_history.specs.History.{history}
use Rattle.psy_history.specs.Summary.{at_least, dates_from, most_held}
use Rattle.psy_base.specs.Extremes.{most_of}
use Rattle.psy_meaning.specs.Units.{IsBareStream}
use Rattle.psy_history.specs.Visible.{held}
use Rattle.psy_history.specs.Queues.{queue_of}
use Rattle.psy_history.specs.Runs.{IsRun}
use Rattle.psy_meaning.specs.KnownWays.{Ways}
use Rattle.psy_meaning.specs.QueueSizes.{IsQueueSize}
use Rattle.psy_history.proofs.HeldInSize.{held_in_size}
use Rattle.psy_history.proofs.HeldWindow.{AreNear, most_below}
use Rattle.psy_history.proofs.RunActions.{AreRunLaws}
use Rattle.psy_history.proofs.RunHistories.{all_by_way, all_sent, lasts_some, lawful}
use Rattle.psy_history.proofs.RunStreams.{has_streams}
use Rattle.psy_history.proofs.SentMessages.{AreClockLaws}

at_least_below : (before n bound : ℕ) → before ≤ bound → n ≤ bound → at_least before n ≤ bound
at_least_below zero n bound low high = high
at_least_below (suc before) n bound low high = omega (arith, low, high)

module _ (s : System) (ways : Ways) (code : Code) (laws : AreRunLaws code) (clock : AreClockLaws) (near : AreNear) (run : IsRun s ways code)
    (stream size : ℕ) (less : stream < length s.unit.streams) (is : IsQueueSize s.unit ways s.nexts stream size) (small : size ≤ QUEUE) where
  -- at each date
  pub queue_within : (date : ℕ) → length (queue_of s date stream) ≤ size + length (s.opening.messages stream)
  queue_within zero = omega arith
  queue_within (suc date) =
      let its : IsBareStream s.unit (stream_of s stream) = All-get_or (IsBareStream s.unit) s.unit.streams stream _ less run.bare.streams in
      let receiver : ℕ = (stream_of s stream).receiver in
      held_in_size s ways (has_streams s ways code run (lawful s ways code laws run)) stream date (all_by_way s ways code laws run) near clock (all_sent s ways code laws run)
      (λ longest greatest. record {
        some = lasts_some s ways code laws run receiver its.receiver longest greatest;
        starts = run.opened.begins receiver its.receiver;
        waits = λ n starts later. elim (run.opened.places receiver n starts) [
          | inl begun ↦ absurd (omega (arith, begun.last, later))
          | inr waits ↦ ap (λ (m : Next). m.start) waits.first
        ];
      }) size is small

  -- and so at most
  pub most_within : (until : ℕ) → most_held s until stream ≤ size + length (s.opening.messages stream)
  most_within until =
      let dates = dates_from s.opening.dates (until + 1) in
      let bound : ℕ = size + length (s.opening.messages stream) in
      let holds : ℕ → ℕ = λ date. length (held s (history s (date + 1)) stream date) in
      let before : s.opening.most stream ≤ bound = omega (arith, run.opened.most stream size is) in
      at_least_below (s.opening.most stream) (most_of (map holds dates)) bound before
      (most_below (map holds dates) bound (All-map (λ n. n ≤ bound) holds dates (all_members (λ date. holds date ≤ bound) dates
      (λ date c. let next : suc date ≡ date + 1 = omega arith in subst (λ n. length (held s (history s n) stream date) ≤ bound) next (queue_within (suc date))))))
