-- What is left of the proof of `picture::parts_of`.
use Rattle.std.proofs.Common.{◌≡◌, ◌++◌, ℕ, subst, ap, ◌∙◌}
use Rattle.psy_draw.specs.Drawing.{stacked, tells_parts}
use Rattle.psy_draw.specs.Frames.{bottom_of, inputs_top, left_of, legend_top, picture_height, picture_width}
use Rattle.psy_draw.specs.Pictures.{dates_text, inputs_group, legend_text}
use Rattle.psy_draw.specs.Scales.{place_by}
use Rattle.psy_draw.specs.Summaries.{tables_height, tables_text, tables_width}
use Rattle.psy_draw.specs.Titles.{head_text}
use Rattle.psy_draw.proofs.Joining.{six}
use Rattle.psy_draw.proofs.picture.parts_of.Goals as goal

pub returns : goal.returns
returns c =
    let scale = c.args.scale.now in
    let lanes = c.args.lanes.now in
    let lines = c.args.inputs.now.lines in
    let agents = c.args.tables.now.agents.rows.items in
    let variables = c.args.tables.now.variables.rows.items in
    let streams = c.args.tables.now.streams.rows.items in
    let frame = c.of-frame.result in
    let is = c.of-frame.ensures in
    let wide = picture_width lanes (tables_width agents variables streams) in
    let high = picture_height lanes lines (tables_height agents variables streams) in
    let P : ℕ → ℕ → ℕ → ℕ → ℕ → ℕ → ℕ → Type 0 = λ width height left bottom inputs legend top. c.put_tables.new.page
    ≡ head_text width height c.args.title.now scale.from scale.to ++ (dates_text scale.from scale.to scale.grain left bottom
    ++ (stacked (place_by scale) (tells_parts lanes) left 56 lanes ++ (inputs_group inputs c.args.inputs.now.text
    ++ (legend_text legend ++ tables_text top agents variables streams)))) in
    let told = subst (λ t. c.put_lanes.new.page ≡ c.put_dates.new.page ++ stacked (place_by scale) t frame.left 56 lanes) c.tells_parts.ensures c.in_ok-put_lanes.ensures in
    let drawn : P frame.width frame.height frame.left frame.bottom frame.inputs frame.legend frame.tables =
    six _ _ _ _ _ _ c.put_head.new.page c.put_dates.new.page c.put_lanes.new.page c.put_inputs.new.page c.fill.new.self c.put_tables.new.page
    (c.in_ok-put_head.ensures ∙ ap (λ t. t ++ head_text frame.width frame.height c.args.title.now scale.from scale.to) c.new-page.ensures)
    c.in_ok-put_dates.ensures told c.in_ok-put_inputs.ensures c.in_ok-fill.ensures c.in_ok-put_tables.ensures in
    subst (P wide high (left_of lanes) (bottom_of lanes) (inputs_top lanes) (legend_top lanes lines)) is.tables
    (subst (λ n. P wide high (left_of lanes) (bottom_of lanes) (inputs_top lanes) n frame.tables) is.legend
    (subst (λ n. P wide high (left_of lanes) (bottom_of lanes) n frame.legend frame.tables) is.inputs
    (subst (λ n. P wide high (left_of lanes) n frame.inputs frame.legend frame.tables) is.bottom
    (subst (λ n. P wide high n frame.bottom frame.inputs frame.legend frame.tables) is.left
    (subst (λ n. P wide n frame.left frame.bottom frame.inputs frame.legend frame.tables) is.high
    (subst (λ n. P n frame.height frame.left frame.bottom frame.inputs frame.legend frame.tables) is.wide drawn))))))
