-- What is left of the proof of `engine::Engine::first_busy`.
use Rattle.std.proofs.Common.{ℕ, List, length, subst}
use Rattle.std.specs.Prelude.{MatchOption}
use Rattle.psy_history.specs.Resuming.{IsQuiet}
use Rattle.psy_dates.specs.declared.seat.Seat.{Seat}
use Rattle.psy_kernel.specs.Engines.{EngineState, history_of}
use Rattle.psy_kernel.specs.Freezing.{IsFirstBusy, IsFirstUnderWay, NoneUnderWay}
use Rattle.psy_kernel.proofs.DatesDue.{AreRunLaws}
use Rattle.psy_kernel.proofs.RunsDone.{busy_told, is_done}
use Rattle.psy_kernel.proofs.engine.Engine.first_busy.Goals as goal

pub returns : goal.returns
returns c =
    let k = c.self.inside in
    let o = c.first_under_way.result in
    let laws : AreRunLaws = record { well = c.fitting.ensures; opened = c.openings.ensures.run; lawful = c.regular.ensures.lawful; none = c.openings.ensures.none; silent = c.openings.ensures.silent; waits = c.openings.ensures.waits } in
    let at = is_done k c.args.self.now c.self.invariant c.self.view_is c.requires.over laws c.given.ensures.unstarted c.one_of_them.ensures.one in
    subst (λ (e : EngineState). MatchOption o (IsQuiet (history_of e) e.plan.until) (IsFirstBusy (history_of e) e.plan.until)) c.self.view_is
    (busy_told k at o
    (subst (λ (d : ℕ). MatchOption o (NoneUnderWay d k.shared.seats.items (length k.shared.seats.items)) (IsFirstUnderWay d k.shared.seats.items)) c.from.ensures
    (subst (λ (seats : List Seat). MatchOption o (NoneUnderWay c.from.result seats (length seats)) (IsFirstUnderWay c.from.result seats)) c.deref.ensures.value c.first_under_way.ensures)))
