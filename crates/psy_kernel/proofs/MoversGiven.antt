-- What is known of who moves, where an agent's seat changes with the cycles of its action, and is told.
use Rattle.std.proofs.Common.{◌≡◌, ℕ, ◌<◌, ◌≤◌, false, List, length, get_or, Some, sym, ap, subst, ◌∙◌, inl, inr, arith}
use Rattle.std.specs.Prelude.{◌≢◌, slice_get, slice_set}
use Rattle.std.proofs.lemmas.Bool.{cases_eq}
use Rattle.std.proofs.lemmas.List.{length-set}
use Rattle.std.proofs.lemmas.Option.{slice_get-get_or}
use Rattle.psy_history.specs.Actions.{System, timing}
use Rattle.psy_meaning.specs.Timing.{first_date}
use Rattle.psy_dates.specs.declared.movers.Movers.{Movers}
use Rattle.psy_dates.specs.declared.seat.Phase.TheVariants as phase
use Rattle.psy_dates.specs.declared.seat.Seat.{Seat}
use Rattle.psy_dates.specs.Messages.{nowhere}
use Rattle.psy_dates.specs.Movers.{IsBefore, NamesAll, falls_by, falls_in, of_seat}
use Rattle.psy_dates.specs.Rolls.{Rolled}
use Rattle.psy_dates.specs.Standing.{MoversStand}
use Rattle.psy_dates.proofs.lemmas.Moving.{before_less, falls_like}
use Rattle.psy_dates.proofs.lemmas.Names.{names_fewer}
use Rattle.psy_dates.proofs.lemmas.Sets.{get_set_other, get_set_same}

-- This seat was told.
pub record IsTold (seat : Seat) (old new : Movers) : Type 0 where
  pub moved : new.moved ≡ old.moved
  pub earlier : new.least ≤ old.least
  pub before : (first : ℕ) → seat.phase ≢ phase.Waiting → IsBefore new.least first seat seat.phase
  pub kept : new.stopped ≡ false → old.stopped ≡ false
  pub stopped : new.stopped ≡ false → seat.phase ≢ phase.Stopped

module _ (s : System) (dates : ℕ) (seats : List Seat) (agent : ℕ) (old seat : Seat) (movers after : Movers) (at : slice_get seats agent ≡ Some old) (started : seat.phase ≢ phase.Waiting)
    (silent : seat.phase ≡ phase.Silent → old.phase ≡ phase.Silent) (deadline : seat.deadline ≡ old.deadline) (told : IsTold seat movers after) (h : MoversStand s dates seats movers) where
  abbrev now : List Seat
  now = slice_set seats agent seat

  own : (x : Seat) → slice_get now agent ≡ Some x → seat ≡ x
  own x here = sym (get_set_same seats agent seat x here)

  falls_no_more : (other : ℕ) → other < length seats → falls_in dates seats other ≡ false → falls_in dates now other ≡ false
  falls_no_more other l e = elim (cases_eq other agent) [
    | inl same ↦ (
        let here : slice_get now agent ≡ Some (get_or now agent nowhere) = slice_get-get_or now agent nowhere (omega (arith, l, same, length-set seats agent seat)) in
        let is : seat ≡ get_or now agent nowhere = own (get_or now agent nowhere) here in
        let was : falls_by dates old old.phase ≡ false = sym (ap (of_seat (λ x. falls_by dates x x.phase)) at) ∙ sym (ap (falls_in dates seats) same) ∙ e in
        ap (falls_in dates now) same ∙ ap (of_seat (λ x. falls_by dates x x.phase)) (here ∙ ap Some (sym is)) ∙ falls_like dates old seat seat.phase silent deadline was)
    | inr differs ↦ ap (of_seat (λ x. falls_by dates x x.phase)) (get_set_other seats agent other seat differs) ∙ e
  ]

  pub movers_given : MoversStand s dates now after
  movers_given = record {
    room = omega (arith, h.room, ap (λ (m : Rolled). m.size) told.moved);
    before = λ other x here. elim (cases_eq other agent) [
      | inl same ↦ subst (λ (y : Seat). IsBefore after.least (first_date (timing s other)) y y.phase) (own x (sym (ap (slice_get now) same) ∙ here)) (told.before (first_date (timing s other)) started)
      | inr differs ↦ before_less after.least movers.least (first_date (timing s other)) x x.phase told.earlier (h.before other x (sym (get_set_other seats agent other seat differs) ∙ here))
    ];
    stopped = λ none other x here. elim (cases_eq other agent) [
      | inl same ↦ subst (λ (y : Seat). (y.phase ≢ phase.Stopped) × (y.phase ≢ phase.Silent)) (own x (sym (ap (slice_get now) same) ∙ here)) (told.stopped none, λ p. (h.stopped (told.kept none) agent old at).1 (silent p))
      | inr differs ↦ h.stopped (told.kept none) other x (sym (get_set_other seats agent other seat differs) ∙ here)
    ];
    fallen = subst (λ (m : Rolled). NamesAll (falls_in dates now) (length now) 0 m.agents) (sym told.moved) (subst (λ n. NamesAll (falls_in dates now) n 0 movers.moved.agents) (sym (length-set seats agent seat))
        (names_fewer (falls_in dates seats) (falls_in dates now) (length seats) 0 movers.moved.agents falls_no_more h.fallen));
  }
