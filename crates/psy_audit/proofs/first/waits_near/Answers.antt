-- What is left of the proof of `first::waits_near`.
use Rattle.std.proofs.Common.{◌≡◌, ◌∙◌, ap, refl, subst, sym}
use Rattle.std.proofs.lemmas.Option.{get_or_from_slice_get}
use Rattle.psy_audit.specs.declared.rows.AgentRow.{AgentRow}
use Rattle.psy_audit.specs.Rows.{no_row}
use Rattle.psy_audit.specs.Waits.{pending_in}
use Rattle.psy_audit.proofs.Places.{get_or_none}
use Rattle.psy_audit.proofs.first.waits_near.Goals as goal

pub returns-in-Some : goal.returns-in-Some
returns-in-Some c =
    let cycle = c.args.cycle in
    let is = ap (λ (r : AgentRow). r.waits) (sym (get_or_from_slice_get c.args.rows.now c.args.agent c.in-Some.row.now no_row (sym c.in-Some.ensures.value))) in
    record {
      now = c.near.ensures.now ∙ ap (pending_in cycle) is;
      steady = λ to k low high all. subst (λ ws. pending_in k ws ≡ pending_in cycle ws) is (c.near.ensures.steady to k low high all);
    }

pub returns-in-None : goal.returns-in-None
returns-in-None c =
    let cycle = c.args.cycle in
    let is = ap (λ (r : AgentRow). r.waits) (get_or_none c.args.rows.now c.args.agent no_row c.in-None.ensures.value) in
    record {
      now = ap (pending_in cycle) is;
      steady = λ to k low high all. subst (λ ws. pending_in k ws ≡ pending_in cycle ws) is refl;
    }
