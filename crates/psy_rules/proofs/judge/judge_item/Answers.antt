-- What is left of the proof of `judge::judge_item`.
use Rattle.std.proofs.Common.{◌≡◌, map, ap, ◌∙◌}
use Rattle.psy_tree.specs.Places.{NamesItem}
use Rattle.psy_tree.specs.Scope.{slots_of}
use Rattle.psy_rules.specs.Sites.{site_of}
use Rattle.psy_rules.specs.Heads.{after_name}
use Rattle.psy_rules.specs.Tables.{slot_names}
use Rattle.psy_rules.specs.Judged.{judged, judged_all}
use Rattle.psy_tree.proofs.lemmas.Faultless.{head_at}
use Rattle.psy_rules.proofs.Items.{item_judged, own_table, inner_next}
use Rattle.psy_rules.proofs.judge.judge_item.Goals as goal

pub judge_slots-requires : goal.judge_slots-requires
judge_slots-requires c =
    let names : map (λ n. n.now) c.as_slice.result.now ≡ slot_names (slots_of c.args.item.now) = ap (map (λ n. n.now)) c.as_slice.ensures.value ∙ c.in_ok-names.ensures in
    record {
      scope = record {
        globals = c.requires.scope.globals;
        within = c.requires.scope.within;
        slots = own_table c.args.head.now.items.now c.args.head.now.at c.args.item.now (map (λ n. n.now) c.as_slice.result.now) c.in_ok-table.table c.requires.own names c.in_ok-table.ensures;
      };
    }

pub judge_body-requires : goal.judge_body-requires
judge_body-requires c =
    let names : map (λ n. n.now) c.as_slice.result.now ≡ slot_names (slots_of c.args.item.now) = ap (map (λ n. n.now)) c.as_slice.ensures.value ∙ c.in_ok-names.ensures in
    record {
      globals = c.requires.scope.globals;
      within = c.requires.scope.within;
      slots = own_table c.args.head.now.items.now c.args.head.now.at c.args.item.now (map (λ n. n.now) c.as_slice.result.now) c.in_ok-table.table c.requires.own names c.in_ok-table.ensures;
    }

pub returns : goal.returns
returns c =
    let site : site_of c.args.head.now ≡ head_at c.args.head.now.items.now c.args.head.now.at = ap (λ b. record { items = c.args.head.now.items.now; at = c.args.head.now.at; inside = b }) c.requires.outside in
    record {
      least = item_judged c.args.head.now.items.now c.args.head.now.at c.args.item.now (map (λ n. n.now) c.as_slice-2.result.now)
          c.args.least.now.fault c.judge_name.new.least.fault c.judge_head.new.least.fault c.judge_slots.new.least.fault c.judge_body.new.least.fault
          (c.judge_name.ensures ∙ ap (λ s. judged s (NamesItem c.item_name.result.now) c.args.least.now.fault) site ∙ ap (λ n. judged (head_at c.args.head.now.items.now c.args.head.now.at) (NamesItem n) c.args.least.now.fault) c.item_name.ensures)
          (c.judge_head.ensures ∙ ap (λ s. judged_all s (after_name c.args.item.now) c.judge_name.new.least.fault) site) c.judge_slots.ensures
          (ap (map (λ n. n.now)) c.as_slice-2.ensures.value ∙ c.in_ok-names.ensures) c.judge_body.ensures;
      inner = inner_next (λ n. n.now) c.args.head.now.items.now c.args.head.now.at c.args.item.now c.as_slice-3.result.now c.args.inner.now c.add_inner.new.inner c.requires.own
          (ap (map (λ n. n.now)) c.as_slice-3.ensures.value ∙ c.in_ok-names.ensures) c.requires.inner c.in_ok-add_inner.ensures;
    }
