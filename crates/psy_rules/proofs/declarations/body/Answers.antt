-- What is left of the proof of `declarations::body`.
use Rattle.std.proofs.Common.{◌≡◌, ◌≤◌, map, length, Option, sym, ap, subst, ◌∙◌}
use Rattle.std.proofs.lemmas.Option.{slice_get_within}
use Rattle.psy_base.specs.declared.limits.TheConstants.{NAMES}
use Rattle.psy_tree.specs.declared.raw.Item.{Item}
use Rattle.psy_tree.specs.Scope.{slots_of, slots_at}
use Rattle.psy_tree.specs.Stands.{agent_budget}
use Rattle.psy_rules.specs.Tables.{slot_names}
use Rattle.psy_rules.proofs.Items.{own_table}
use Rattle.psy_rules.proofs.declarations.body.Goals as goal

pub lower_stmts-requires-clause-numbered : goal.lower_stmts-requires-clause-numbered
lower_stmts-requires-clause-numbered c =
    let names : map (λ n. n.now) c.as_slice.result.now ≡ slot_names (slots_of c.args.item.now) = ap (map (λ n. n.now)) c.as_slice.ensures.value ∙ c.in_ok-names.ensures in
    let Few : Option Item → Type 0 = λ o. length (slots_at o) ≤ NAMES in
    record {
      scope = record {
        globals = c.requires.program.globals;
        within = slice_get_within c.args.program.now.items.now c.args.at c.args.item.now c.requires.own;
        slots = own_table c.args.program.now.items.now c.args.at c.args.item.now (map (λ n. n.now) c.as_slice.result.now) c.in_ok-table.table c.requires.own names c.in_ok-table.ensures;
      };
      numbers = c.requires.program.numbers;
      few = subst Few (sym c.requires.own) (c.requires.program.limits.names c.args.at c.args.item.now c.requires.own);
      budget = c.requires.budget ∙ ap agent_budget (sym c.requires.own);
    }
