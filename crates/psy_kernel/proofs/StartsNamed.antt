-- The agents that moved at a date are those whose actions may start there.
use Rattle.std.proofs.Common.{◌≡◌, ℕ, suc, ◌+◌, false, List, length, Some, refl, sym, ap, ◌∙◌, arith}
use Rattle.std.specs.Prelude.{◌==◌, ◌&&◌, slice_get}
use Rattle.std.proofs.lemmas.Bool.{eq-eqb, ne_eqb, true≢false}
use Rattle.std.proofs.lemmas.Option.{slice_get-get_or}
use Rattle.psy_dates.specs.declared.seat.Phase.{Phase}
use Rattle.psy_dates.specs.declared.seat.Phase.TheVariants as phase
use Rattle.psy_dates.specs.declared.seat.Seat.{Seat}
use Rattle.psy_dates.specs.Messages.{nowhere}
use Rattle.psy_dates.specs.Movers.{NamesAll, of_seat, starts_by, starts_in}
use Rattle.psy_dates.proofs.lemmas.Names.{names_fewer}
use Rattle.psy_kernel.specs.Starting.{is_acting, seat_at, starts_at}

not_before : (start date : ℕ) → (suc start == date + 1) ≡ false → (start == date) ≡ false
not_before start date e = ne_eqb start date (λ same. true≢false (sym (eq-eqb (suc start) (date + 1) (omega (arith, same))) ∙ e))

same_start : (date : ℕ) (seat : Seat) (p : Phase) → seat.phase ≡ p → starts_by (date + 1) seat p ≡ false → starts_at date seat ≡ false
same_start date seat phase.Waiting at e = ap (λ p. is_acting p && (seat.start == date)) at
same_start date seat phase.Acting at e = ap (λ p. is_acting p && (seat.start == date)) at ∙ not_before seat.start date e
same_start date seat phase.Ended at e = ap (λ p. is_acting p && (seat.start == date)) at
same_start date seat phase.Stopped at e = ap (λ p. is_acting p && (seat.start == date)) at
same_start date seat phase.Silent at e = ap (λ p. is_acting p && (seat.start == date)) at

pub starts_named : (date : ℕ) (seats : List Seat) (names : List ℕ) → NamesAll (starts_in (date + 1) seats) (length seats) 0 names → NamesAll (λ agent. starts_at date (seat_at seats agent)) (length seats) 0 names
starts_named date seats names =
    names_fewer (starts_in (date + 1) seats) (λ agent. starts_at date (seat_at seats agent)) (length seats) 0 names
    (λ agent l e.
    let here : slice_get seats agent ≡ Some (seat_at seats agent) = slice_get-get_or seats agent nowhere l in
    same_start date (seat_at seats agent) (seat_at seats agent).phase refl (sym (ap (of_seat (λ seat. starts_by (date + 1) seat seat.phase)) here) ∙ e))
