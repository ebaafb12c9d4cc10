-- The streams of a run.
use Rattle.std.proofs.Common.{◌≤◌, inl, inr, arith}
use Rattle.std.proofs.lemmas.List.Elements.{All-weaker}
use Rattle.psy_lists.proofs.lemmas.Members.{get_or_holds}
use Rattle.psy_code.specs.declared.code.Code.{Code}
use Rattle.psy_tree.specs.declared.unit.StreamDecl.{StreamDecl}
use Rattle.psy_history.specs.Actions.{System}
use Rattle.psy_meaning.specs.Units.{IsBareStream}
use Rattle.psy_history.specs.Openings.{IsHeldBefore}
use Rattle.psy_history.specs.Regular.{IsLawful}
use Rattle.psy_history.specs.Runs.{IsRun}
use Rattle.psy_meaning.specs.KnownWays.{Ways}
use Rattle.psy_history.proofs.SentMessages.{HasStreams, IsBefore}

-- They have what is asked of streams.
pub has_streams : (s : System) (ways : Ways) (code : Code) → IsRun s ways code → IsLawful s → HasStreams s
has_streams s ways code run lawful = record {
  lawful = lawful;
  clocks = run.bare.clocks;
  keeps = λ stream. get_or_holds (λ (d : StreamDecl). 1 ≤ d.keep) s.unit.streams stream _ (omega arith)
      (All-weaker (IsBareStream s.unit) (λ (d : StreamDecl). 1 ≤ d.keep) (λ d is. is.keep.0) s.unit.streams run.bare.streams);
  held = λ stream. (let are = run.opened.messages stream in
      All-weaker (IsHeldBefore s stream) (IsBefore s.opening.dates) (λ m is. record { entered = is.entered; visible = is.visible; late = is.late })
      (s.opening.messages stream) are.each);
  rise = λ stream. (run.opened.messages stream).rise;
  ahead = λ agent n is. elim (run.opened.places agent n is) [ inl begun ↦ omega (arith, begun.last) | inr waits ↦ omega (arith, waits.ahead) ];
  loud = λ agent n is. (run.opened.known agent n is).1;
}
