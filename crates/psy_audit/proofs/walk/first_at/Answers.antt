-- What is left of the proof of `walk::first_at`.
use Rattle.std.proofs.Common.{◌≡◌, ◌∙◌, ◌<◌, ℕ, List, length, ap, sym, subst}
use Rattle.std.specs.List.{All, range_with_len}
use Rattle.psy_history.specs.Scripts.{in_force}
use Rattle.psy_audit.specs.Rows.{first_in}
use Rattle.psy_audit.specs.declared.table.Table.{Table}
use Rattle.psy_audit.specs.Tables.{IsTable}
use Rattle.psy_audit.proofs.Firsts.{first_of_table, its_few}
use Rattle.psy_audit.proofs.walk.first_at.Goals as goal

-- The order that was found is the one in force.
found : (t : Table) → IsTable t → (cycle : ℕ) (order : List ℕ) → order ≡ in_force t.declared.now t.script.now.orders cycle
    → order ≡ in_force (range_with_len 0 (length t.plan.now.unit.agents)) t.script.now.orders cycle
found t is cycle order e = e ∙ ap (λ ds. in_force ds t.script.now.orders cycle) is.declared

pub first_in-requires : goal.first_in-requires
first_in-requires c =
    let t = c.args.table.now in
    let order = found t c.requires c.args.cycle c.order_at-order.result.now (c.order_at-order.ensures ∙ ap (λ os. in_force t.declared.now os c.args.cycle) c.as_slice.ensures) in
    record { order = subst (All (λ agent. agent < length t.plan.now.unit.agents)) (sym order) (its_few t c.requires c.args.cycle) }

pub returns : goal.returns
returns c =
    let t = c.args.table.now in
    let order = found t c.requires c.args.cycle c.order_at-order.result.now (c.order_at-order.ensures ∙ ap (λ os. in_force t.declared.now os c.args.cycle) c.as_slice.ensures) in
    c.first_in.ensures ∙ ap (first_in t.plan.now.unit t.rows.now c.args.processor c.args.cycle) order ∙ first_of_table t c.requires c.args.processor c.args.cycle
