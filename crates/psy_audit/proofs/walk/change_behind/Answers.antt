-- What is left of the proof of `walk::change_behind`.
use Rattle.std.proofs.Common.{◌∙◌, ◌<◌, ℕ, List, length, ap, sym, subst}
use Rattle.std.specs.List.{All, range_with_len}
use Rattle.psy_history.specs.Scripts.{in_force}
use Rattle.psy_history.specs.declared.told.Order.{Order}
use Rattle.psy_audit.specs.Rows.{first_in}
use Rattle.psy_audit.proofs.Firsts.{first_of_table, its_few}
use Rattle.psy_audit.proofs.walk.change_behind.Goals as goal

pub next_change-requires-clause-bare : goal.next_change-requires-clause-bare
next_change-requires-clause-bare c = c.requires.table.rings.bare

pub returns-clause-same : goal.returns-clause-same
returns-clause-same c = λ k low high.
    let t = c.args.table.now in
    let p = c.args.processor in
    let cycle = c.args.cycle in
    let declared = range_with_len 0 (length t.plan.now.unit.agents) in
    let orders = c.as_slice.result.now in
    let few = subst (λ (os : List Order). All (λ agent. agent < length t.plan.now.unit.agents) (in_force declared os cycle)) (sym c.as_slice.ensures) (its_few t c.requires.table cycle) in
    let first = λ (os : List Order) (n : ℕ). first_in t.plan.now.unit t.rows.now p n (in_force declared os n) in
    sym (first_of_table t c.requires.table p k) ∙ ap (λ os. first os k) (sym c.as_slice.ensures) ∙ c.next_change.ensures.same declared k few low high
    ∙ ap (λ os. first os cycle) c.as_slice.ensures ∙ first_of_table t c.requires.table p cycle
