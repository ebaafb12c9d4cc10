-- What is left of the proof of `movers::name_all`.
use Rattle.std.proofs.Common.{◌≡◌, ◌+◌, [], ◌∷◌, ◌++◌, get_or, true, false, length, Some, sym, ap, subst, ◌∙◌, inl, inr, arith, length-append}
use Rattle.std.specs.Prelude.{slice_get}
use Rattle.std.proofs.lemmas.Bool.{cases_eq, true≢false}
use Rattle.std.proofs.lemmas.Option.{same_Some, slice_get-get_or, slice_get_within}
use Rattle.psy_dates.specs.declared.seat.Seat.{Seat}
use Rattle.psy_dates.specs.Messages.{nowhere}
use Rattle.psy_dates.specs.Movers.{IsBefore, NamesAll, first_in, moves_in}
use Rattle.psy_dates.specs.Rolls.{Rolled}
use Rattle.psy_dates.proofs.lemmas.Moving.{before_less, moves_of}
use Rattle.psy_dates.proofs.lemmas.Names.{names_more, names_same}
use Rattle.psy_dates.proofs.movers.name_all.Goals as goal
use Rattle.psy_dates.proofs.movers.name_all.Goals.{then-moves, else-moves}

pub agents-preserved : goal.agents-preserved
agents-preserved c =
    let plan = c.args.plan.now in
    let date = c.args.date in
    let seats = c.args.seats.now in
    let agent = c.agents.agent in
    let h = c.agents.invariant in
    let test = moves_in plan date seats in
    let here : slice_get seats agent ≡ Some (get_or seats agent nowhere) = slice_get-get_or seats agent nowhere c.agents-test.true in
    let told : test agent ≡ c.moves.result = moves_of plan date seats agent (get_or seats agent nowhere) here ∙ sym c.moves.ensures in
    elim c.if-moves.branch [
      | then-moves w ↦ (
          let moves : test agent ≡ true = told ∙ w.if-moves.true in
          let moved = w.moved-is ∙ w.add.ensures in
          let names : c.if-moves.moved.agents ≡ c.agents.moved.agents ++ agent ∷ [] = ap (λ (m : Rolled). m.agents) moved in
          record {
            size = ap (λ (m : Rolled). m.size) moved ∙ h.size;
            few = omega (arith, ap length names, length-append c.agents.moved.agents (agent ∷ []), h.few);
            names = subst (NamesAll test (agent + 1) 0) (sym names) (names_more test agent 0 c.agents.moved.agents (omega arith) h.names);
            others = λ other seat l at e. elim (cases_eq other agent) [
              | inl same ↦ absurd (true≢false (sym moves ∙ ap test (sym same) ∙ e))
              | inr differs ↦ subst (λ n. IsBefore n (first_in plan other) seat seat.phase) (sym w.least-is) (h.others other seat (omega (arith, l, differs)) at e)
            ];
          })
      | else-moves w ↦ (
          let stays : test agent ≡ false = told ∙ w.if-moves.false in
          let moved = w.moved-is in
          record {
            size = ap (λ (m : Rolled). m.size) moved ∙ h.size;
            few = omega (arith, ap (λ (m : Rolled). length m.agents) moved, h.few);
            names = subst (NamesAll test (agent + 1) 0) (sym (ap (λ (m : Rolled). m.agents) moved)) (names_same test agent 0 c.agents.moved.agents stays h.names);
            others = λ other seat l at e. elim (cases_eq other agent) [
              | inl same ↦ (
                  let is : get_or seats agent nowhere ≡ seat = same_Some _ _ (sym here ∙ ap (slice_get seats) (sym same) ∙ at) in
                  let next : IsBefore w.next_of.result (first_in plan agent) seat seat.phase = subst (λ (x : Seat). IsBefore w.next_of.result (first_in plan agent) x x.phase) is w.next_of.ensures in
                  before_less c.if-moves.least w.next_of.result (first_in plan other) seat seat.phase (omega (arith, w.least-is, w.min-least.ensures)) (subst (λ k. IsBefore w.next_of.result (first_in plan k) seat seat.phase) (sym same) next))
              | inr differs ↦ before_less c.if-moves.least c.agents.least (first_in plan other) seat seat.phase (omega (arith, w.least-is, w.min-least.ensures)) (h.others other seat (omega (arith, l, differs)) at e)
            ];
          })
    ]

pub returns-clause-others : goal.returns-clause-others
returns-clause-others c agent seat at e =
    c.agents.invariant.others agent seat (omega (arith, slice_get_within c.args.seats.now agent seat at, c.agents-test.false)) at e
