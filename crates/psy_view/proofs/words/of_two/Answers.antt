-- What is left of the proof of `words::of_two`.
use Rattle.std.proofs.Common.{◌≡◌, refl, [], ◌∷◌, ap, codes}
use Rattle.psy_draw.specs.declared.window.TheConstants.Window.{WHOLE}
use Rattle.psy_view.specs.Asked.{of_all_dates, asks_timeline, asks_dot, asks_table, asks_dump, asks_flow, asks_listing}
use Rattle.psy_view.proofs.words.of_two.Goals as goal

pub returns-in-timeline : goal.returns-in-timeline
returns-in-timeline c = let is : c.args.command.now ≡ codes "timeline" = cc c.in-timeline.is in asks_timeline c.args.name.now [] WHOLE [] (ap (λ w. w ∷ c.args.name.now ∷ []) is) (of_all_dates refl)

pub returns-in-dot : goal.returns-in-dot
returns-in-dot c = let is : c.args.command.now ≡ codes "dot" = cc c.in-dot.is in asks_dot c.args.name.now (ap (λ w. w ∷ c.args.name.now ∷ []) is)

pub returns-in-csv : goal.returns-in-csv
returns-in-csv c = let is : c.args.command.now ≡ codes "csv" = cc c.in-csv.is in asks_table c.args.name.now (ap (λ w. w ∷ c.args.name.now ∷ []) is)

pub returns-in-vcd : goal.returns-in-vcd
returns-in-vcd c = let is : c.args.command.now ≡ codes "vcd" = cc c.in-vcd.is in asks_dump c.args.name.now (ap (λ w. w ∷ c.args.name.now ∷ []) is)

pub returns-in-flow : goal.returns-in-flow
returns-in-flow c = let is : c.args.command.now ≡ codes "flow" = cc c.in-flow.is in asks_flow c.args.name.now (ap (λ w. w ∷ c.args.name.now ∷ []) is)

pub returns-in-list : goal.returns-in-list
returns-in-list c = let is : c.args.command.now ≡ codes "list" = cc c.in-list.is in asks_listing c.args.name.now (ap (λ w. w ∷ c.args.name.now ∷ []) is)
