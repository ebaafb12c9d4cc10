-- A history that is taken up again at a quiet date has the actions that the whole one adds.
use Rattle.std.proofs.Common.{◌≡◌, ℕ, suc, ◌≤◌, List, [], ◌∷◌, ◌++◌, Option, Some, None, refl, sym, ap, ap₂, ◌∙◌, inl, inr, arith}
use Rattle.std.proofs.Math.Path.{fun_ext}
use Rattle.std.specs.Prelude.{◌==◌}
use Rattle.std.specs.List.{Contains}
use Rattle.std.proofs.lemmas.Bool.{cases_Bool, eqb-true}
use Rattle.psy_base.specs.declared.message.Message.{Message}
use Rattle.psy_code.specs.Views.{View}
use Rattle.psy_meaning.specs.KnownWays.{Ways}
use Rattle.psy_meaning.specs.RingSizes.{AreRings}
use Rattle.psy_history.specs.Actions.{Action, History, Next, System, Done, next_of}
use Rattle.psy_history.specs.History.{action_of, executed, history, with_start}
use Rattle.psy_history.specs.Resuming.{resumed_at}
use Rattle.psy_history.specs.Visible.{seen_at, view_of}
use Rattle.psy_history.proofs.ClockDates.{AreCounted}
use Rattle.psy_history.proofs.Growth.{kept_on}
use Rattle.psy_history.proofs.ResumedStreams.{seen_resumed}
use Rattle.psy_history.proofs.ResumedViews.{view_resumed}
use Rattle.psy_history.proofs.SentMessages.{AreClockLaws, HasStreams}

module _ (s : System) (streams : HasStreams s) (laws : AreClockLaws) (counted : AreCounted) (ways : Ways) (sizes : List ℕ) (order : ℕ → List ℕ) (date : ℕ)
    (rings : AreRings s.unit ways s.nexts sizes) (behind : s.opening.dates ≤ suc date)
    (ended : (agent point end : ℕ) (r : Action) → Contains (history s date agent) r → r.verdict ≡ Done point end → end ≤ date)
    (others : HasStreams (resumed_at s sizes order date)) (none : (agent : ℕ) → history (resumed_at s sizes order date) date agent ≡ []) where
  abbrev t : System
  t = resumed_at s sizes order date

  -- Behind the same new actions each agent starts where it does behind all.
  next_on : (agent : ℕ) (new : List Action) → next_of s agent (new ++ history s date agent) ≡ next_of t agent new
  next_on agent [] = refl
  next_on agent (r ∷ new) = refl

  -- The actions of the whole history are those that the date had, and the new ones.
  abbrev IsOn : ℕ → Type 0
  IsOn later = (agent : ℕ) → history s later agent ≡ history t later agent ++ history s date agent

  module _ (later : ℕ) (late : date ≤ later) (on : IsOn later) (agent : ℕ) where
    abbrev whole : History
    whole = history s later

    abbrev new : History
    new = history t later

    seen_on : seen_at s whole later ≡ seen_at t new later
    seen_on = fun_ext (λ stream. seen_resumed s streams laws sizes order date behind ended stream others later late on)

    action_at : (n : Next) → n.start ≡ later → action_of s whole agent n ≡ action_of t new agent n
    action_at n at =
        let seen : seen_at s whole n.start ≡ seen_at t new n.start = ap (seen_at s whole) at ∙ seen_on ∙ sym (ap (seen_at t new) at) in
        let view : (seen : ℕ → List Message) → view_of s whole agent n.start seen ≡ view_of t new agent n.start seen = λ seen.
        ap (λ start. view_of s whole agent start seen) at
        ∙ view_resumed s sizes order date behind ended later late on streams.lawful ways counted streams.clocks rings agent seen
        ∙ sym (ap (λ start. view_of t new agent start seen) at) in
        ap₂ (λ (v : View) (m : ℕ → List Message). executed s agent n v m) (ap (view_of s whole agent n.start) seen ∙ view (seen_at t new n.start)) seen

    start_on : (o : Option Next) → with_start s whole later agent (new agent ++ history s date agent) o ≡ with_start t new later agent (new agent) o ++ history s date agent
    start_on None = refl
    start_on (Some n) = elim (cases_Bool (n.start == later)) [
      | inl here ↦ rw here (ap (λ r. r ∷ (new agent ++ history s date agent)) (action_at n (eqb-true n.start later here)))
      | inr other ↦ rw other refl
    ]

    date_on : history s (suc later) agent ≡ history t (suc later) agent ++ history s date agent
    date_on =
        ap (λ actions. with_start s whole later agent actions (next_of s agent actions)) (on agent)
        ∙ ap (with_start s whole later agent (new agent ++ history s date agent)) (next_on agent (new agent))
        ∙ start_on (next_of t agent (new agent))

  -- So it is when each later date is done.
  pub actions_on : (later : ℕ) → date ≤ later → IsOn later
  actions_on later late =
      let IsSince : ℕ → Type 0 = λ n. (date ≤ n) × IsOn n in
      let kept : IsSince later =
      kept_on IsSince (λ n h. (omega (arith, h.0), date_on n h.0 h.1)) date later late (omega arith, λ agent. sym (ap (λ new. new ++ history s date agent) (none agent))) in
      kept.1
