-- What is left of the proof of `texts::write_check_lines`.
use Rattle.std.proofs.Common.{◌≡◌, ◌++◌, ◌∷◌, [], List, ℕ, subst}
use Rattle.psy_door.specs.Growth.{Grew}
use Rattle.psy_kernel.specs.Texts.{text_of}
use Rattle.psy_rate.specs.declared.line.Rate.{Rate}
use Rattle.psy_tree.specs.declared.unit.AgentDecl.{AgentDecl}
use Rattle.psy_tree.specs.declared.unit.StreamDecl.{StreamDecl}
use Rattle.psy_tree.specs.declared.unit.VarDecl.{VarDecl}
use Rattle.psy_run.specs.Cuts.{IsCutAt}
use Rattle.psy_run.specs.Texts.{ring_lines, queue_lines, rate_lines, verdict_line}
use Rattle.psy_run.proofs.CutLemmas.{cut_before, cut_behind, wrote_behind}
use Rattle.psy_run.proofs.texts.write_check_lines.Goals as goal

-- The sizes of rings, by what is listed
rings_are : {variables others : List VarDecl} {rings sizes : List ℕ} → variables ≡ others → rings ≡ sizes → ring_lines variables rings ≡ ring_lines others sizes
rings_are p q = λ i. ring_lines (p i) (q i)

-- The sizes of queues, by what is listed
queues_are : {streams others : List StreamDecl} {queues sizes : List ℕ} → streams ≡ others → queues ≡ sizes → queue_lines streams queues ≡ queue_lines others sizes
queues_are p q = λ i. queue_lines (p i) (q i)

-- The lines above demands, by what is listed
rates_are : {agents others : List AgentDecl} (lines : List Rate) → agents ≡ others → rate_lines agents lines ≡ rate_lines others lines
rates_are lines p = λ i. rate_lines (p i) lines

pub returns-in-Err-clause-wrote : goal.returns-in-Err-clause-wrote
returns-in-Err-clause-wrote g c =
    let unit = c.args.unit.now in
    let sizes = c.args.sizes.now in
    let behind = queue_lines unit.streams sizes.queues ++ (rate_lines unit.agents c.args.lines.now ++ verdict_line c.args.extent ∷ []) in
    let cut = subst (λ ls. IsCutAt (g.S.Sink.held c.args.out.now) (g.S.Sink.held c.write_rings.new.out) ls c.in-Err.fault.taken) (rings_are c.as_slice.ensures c.as_slice-2.ensures) c.in-Err.ensures.wrote in
    cut_before _ _ (ring_lines unit.variables sizes.rings) behind _ cut

pub returns-in-Err-write_queues-clause-wrote : goal.returns-in-Err-write_queues-clause-wrote
returns-in-Err-write_queues-clause-wrote g c =
    let unit = c.args.unit.now in
    let sizes = c.args.sizes.now in
    let behind = rate_lines unit.agents c.args.lines.now ++ verdict_line c.args.extent ∷ [] in
    let rings = subst (λ ls. Grew (g.S.Sink.held c.args.out.now) (g.S.Sink.held c.write_rings.new.out) (text_of ls)) (rings_are c.as_slice.ensures c.as_slice-2.ensures) c.in_default.ensures.wrote in
    let cut = subst (λ ls. IsCutAt (g.S.Sink.held c.write_rings.new.out) (g.S.Sink.held c.write_queues.new.out) ls c.in-Err-write_queues.fault.taken) (queues_are c.as_slice-3.ensures c.as_slice-4.ensures) c.in-Err-write_queues.ensures.wrote in
    cut_behind _ _ _ (ring_lines unit.variables sizes.rings) _ _ rings (cut_before _ _ (queue_lines unit.streams sizes.queues) behind _ cut)

pub returns-in-Err-write_rates-clause-wrote : goal.returns-in-Err-write_rates-clause-wrote
returns-in-Err-write_rates-clause-wrote g c =
    let unit = c.args.unit.now in
    let sizes = c.args.sizes.now in
    let lines = c.args.lines.now in
    let rings = subst (λ ls. Grew (g.S.Sink.held c.args.out.now) (g.S.Sink.held c.write_rings.new.out) (text_of ls)) (rings_are c.as_slice.ensures c.as_slice-2.ensures) c.in_default.ensures.wrote in
    let queues = subst (λ ls. Grew (g.S.Sink.held c.write_rings.new.out) (g.S.Sink.held c.write_queues.new.out) (text_of ls)) (queues_are c.as_slice-3.ensures c.as_slice-4.ensures) c.in_default-write_queues.ensures.wrote in
    let cut = subst (λ ls. IsCutAt (g.S.Sink.held c.write_queues.new.out) (g.S.Sink.held c.write_rates.new.out) ls c.in-Err-write_rates.fault.taken) (rates_are lines c.as_slice-5.ensures) c.in-Err-write_rates.ensures.wrote in
    cut_behind _ _ _ (ring_lines unit.variables sizes.rings) _ _ rings (cut_behind _ _ _ (queue_lines unit.streams sizes.queues) _ _ queues
    (cut_before _ _ (rate_lines unit.agents lines) (verdict_line c.args.extent ∷ []) _ cut))

pub returns-clause-wrote : goal.returns-clause-wrote
returns-clause-wrote g c =
    let unit = c.args.unit.now in
    let sizes = c.args.sizes.now in
    let lines = c.args.lines.now in
    let rings = subst (λ ls. Grew (g.S.Sink.held c.args.out.now) (g.S.Sink.held c.write_rings.new.out) (text_of ls)) (rings_are c.as_slice.ensures c.as_slice-2.ensures) c.in_default.ensures.wrote in
    let queues = subst (λ ls. Grew (g.S.Sink.held c.write_rings.new.out) (g.S.Sink.held c.write_queues.new.out) (text_of ls)) (queues_are c.as_slice-3.ensures c.as_slice-4.ensures) c.in_default-write_queues.ensures.wrote in
    let rates = subst (λ ls. Grew (g.S.Sink.held c.write_queues.new.out) (g.S.Sink.held c.write_rates.new.out) (text_of ls)) (rates_are lines c.as_slice-5.ensures) c.in_default-write_rates.ensures.wrote in
    wrote_behind _ _ _ _ (ring_lines unit.variables sizes.rings) _ rings (wrote_behind _ _ _ _ (queue_lines unit.streams sizes.queues) _ queues
    (wrote_behind _ _ _ _ (rate_lines unit.agents lines) (verdict_line c.args.extent ∷ []) rates c.write_verdict.ensures.wrote))
