-- What is left of the proof of `stack::counted_depth`.
use Rattle.std.proofs.Common.{◌≡◌, length, take, map, get_or, ap, ◌∙◌}
use Rattle.std.proofs.lemmas.Option.{get_or_from_slice_get}
use Rattle.psy_meaning.specs.Depths.{stmts_depth}
use Rattle.psy_flow.specs.Counted.{held, capped_depth, counted_calls}
use Rattle.psy_flow.proofs.Rows.{map-take}
use Rattle.psy_flow.proofs.stack.counted_depth.Goals as goal

pub returns : goal.returns
returns c a e =
    let read = c.index-as_slice-agent.result in
    let found : read ≡ a = c.index-as_slice-agent.is ∙ ap (λ agents. get_or agents c.args.agent read) c.as_slice.ensures ∙ get_or_from_slice_get c.args.unit.now.agents c.args.agent a read e in
    let fs = c.as_slice-functions.result.now in
    let row : map held (take (length fs) c.depths_of_calls-row.result) ≡ counted_calls c.args.unit.now.functions =
    map-take held (length fs) c.depths_of_calls-row.result ∙ c.depths_of_calls-row.ensures ∙ ap counted_calls c.as_slice-functions.ensures in
    c.depth_of_stmts.ensures
    ∙ ap (λ stmts. capped_depth (stmts_depth (map held (take (length fs) c.depths_of_calls-row.result)) stmts)) c.as_slice-2.ensures
    ∙ ap (λ ds. capped_depth (stmts_depth ds read.stmts)) row ∙ ap (λ b. capped_depth (stmts_depth (counted_calls c.args.unit.now.functions) b.stmts)) found
