-- What is left of the proof of `picture::put_tables`.
use Rattle.std.proofs.Common.{◌≡◌, ◌++◌, ℕ, subst}
use Rattle.psy_draw.specs.Summaries.{Titles, agent_titles, behind_table, table_text, table_width, titles_of, variable_titles}
use Rattle.psy_draw.proofs.Joining.{three}
use Rattle.psy_draw.proofs.picture.put_tables.Goals as goal

pub returns : goal.returns
returns c =
    let tables = c.args.tables.now in
    let agents = tables.agents.rows.items in
    let variables = tables.variables.rows.items in
    let streams = tables.streams.rows.items in
    let one = titles_of tables.agents.heads in
    let two = titles_of tables.variables.heads in
    let third = titles_of tables.streams.heads in
    let P : Titles → Titles → Titles → ℕ → ℕ → Type 0 = λ a b d left right. c.draw-3.new.page ≡ c.args.page.now ++ (table_text 12 c.args.top a agents
    ++ (table_text left c.args.top b variables ++ table_text right c.args.top d streams)) in
    let Q : Titles → Titles → Titles → Type 0 = λ a b d. P a b d (behind_table 12 (table_width a agents)) (behind_table (behind_table 12 (table_width a agents)) (table_width b variables)) in
    let drawn : P one two third c.behind-left.result c.behind-left-2.result =
    three _ _ _ c.args.page.now c.draw.new.page c.draw-2.new.page c.draw-3.new.page c.in_ok-draw.ensures c.in_ok-draw-2.ensures c.in_ok-draw-3.ensures in
    let placed : P one two third c.behind-left.result (behind_table c.behind-left.result (table_width two variables)) =
    subst (P one two third c.behind-left.result) c.behind-left-2.ensures.place drawn in
    let all : Q one two third = subst (λ left. P one two third left (behind_table left (table_width two variables))) c.behind-left.ensures.place placed in
    subst (Q agent_titles variable_titles) tables.stream_heads (subst (λ b. Q agent_titles b third) tables.variable_heads (subst (λ a. Q a two third) tables.agent_heads all))
