-- A date that is quiet in a history is so in one whose agents have like actions.
use Rattle.std.proofs.Common.{◌≡◌, ◌∙◌, ap, ℕ, suc, Bool, not, ◌&&◌, List, [], ◌∷◌, refl}
use Rattle.std.specs.Prelude.{nat_le, nat_lt}
use Rattle.psy_history.specs.Actions.{Action, System, Verdict, is_done}
use Rattle.psy_history.specs.History.{history}
use Rattle.psy_history.specs.Likeness.{AreLike}
use Rattle.psy_history.specs.Resuming.{IsQuiet, is_busy}

-- An action is under way at a date, by its start, how it ended, and its deadline.
abbrev busy_by : ℕ → ℕ → Verdict → ℕ → Bool
busy_by date start verdict deadline = nat_lt start date && not (not (is_done verdict) && nat_le deadline date)

busy_like : (date : ℕ) (rs qs : List Action) → AreLike rs qs → is_busy date rs ≡ is_busy date qs
busy_like date [] [] like = refl
busy_like date [] (q ∷ qs) like = absurd like
busy_like date (r ∷ rs) [] like = absurd like
busy_like date (r ∷ rs) (q ∷ qs) like =
    ap (λ start. busy_by date start r.verdict r.deadline) like.0.start
    ∙ ap (λ verdict. busy_by date q.start verdict r.deadline) like.0.verdict
    ∙ ap (busy_by date q.start q.verdict) like.0.deadline

pub quiet_like : (s t : System) (date : ℕ) → ((agent : ℕ) → AreLike (history s (suc date) agent) (history t (suc date) agent)) → IsQuiet t date
    → IsQuiet s date
quiet_like s t date like quiet agent = busy_like date (history s (suc date) agent) (history t (suc date) agent) (like agent) ∙ quiet agent
