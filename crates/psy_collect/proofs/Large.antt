-- What is kept of a run has no more lines than its trace.
use Rattle.std.proofs.Common.{◌≡◌, ◌≢◌, ◌∙◌, ap, ℕ, ◌+◌, ◌*◌, ◌<◌, ◌≤◌, ◌==◌, List, [], ◌∷◌, ◌++◌, filter, length, reverse, take, inl, inr, length-append, arith}
use Rattle.std.specs.Prelude.{if◌then◌else◌}
use Rattle.std.specs.List.{flat_map, list_any, range_with_len}
use Rattle.std.proofs.lemmas.Bool.{cases_eq}
use Rattle.std.proofs.lemmas.List.{length-map}
use Rattle.std.proofs.lemmas.List.Concat.{flat_map_single}
use Rattle.std.proofs.lemmas.Nat.{mul-le}
use Rattle.psy_audit.specs.declared.said.Act.{Act}
use Rattle.psy_audit.specs.declared.said.Look.{Look}
use Rattle.psy_audit.specs.declared.said.Publication.{Publication}
use Rattle.psy_audit.specs.declared.said.Said.{Said}
use Rattle.psy_audit.specs.declared.said.Said.TheVariants.{Acted, Published, Served, Looked, Ended}
use Rattle.psy_audit.specs.declared.said.Segment.{Segment}
use Rattle.psy_audit.specs.Spelled.{trace_text}
use Rattle.psy_audit.specs.Traced.{act_of, acts_told, looks_of, looks_told, publication_at, publications_told, stretches, stretches_told, trace_of}
use Rattle.psy_collect.specs.Collected.{IsRunning, IsSameRun, behind_first, turns_at_end, turns_on}
use Rattle.psy_collect.specs.Keeping.{count_kept}
use Rattle.psy_collect.specs.declared.kept.Kept.{Kept}
use Rattle.psy_collect.proofs.Longer.{behind_few, dates_most, flat_most, length_reverse, lines_long, looks_most, range_most, stretches_most}
use Rattle.psy_collect.proofs.Rows.{count_rows}
use Rattle.psy_collect.proofs.Steps.{on_few}
use Rattle.psy_dates.specs.Beginnings.{beginning_of}
use Rattle.psy_dates.specs.Plans.{opened_of}
use Rattle.psy_history.specs.Actions.{Action, System}
use Rattle.psy_history.specs.History.{history}
use Rattle.psy_history.specs.Processors.{processor_at, processors}
use Rattle.psy_history.specs.Scheduled.{turns_by, turns_of}
use Rattle.psy_history.specs.Scripts.{order_of, round_of, stalls_of}
use Rattle.psy_kernel.specs.Progress.{Progress, cycles_on, order, system, turns_so_far}

-- ---- the cycles done

pub on_whole : (p : Progress) (processor : ℕ) → p.units ≡ 0 → cycles_on p processor ≡ p.cycles
on_whole p processor none = ap (λ n. if list_any (λ q. q == processor) (take n (round_of p.plan.unit p.script p.cycles)) then p.cycles + 1 else p.cycles) none

pub on_within : (p : Progress) (k : Kept) → IsRunning p k → (processor : ℕ) → cycles_on p processor ≤ p.dates * p.plan.unit.quantum
on_within p k running processor = elim (cases_eq p.units 0) [
  | inl none ↦ omega (arith, on_whole p processor none, running.high)
  | inr some ↦ (let other : p.cycles ≢ p.dates * p.plan.unit.quantum = λ e. some (running.due e) in
      let less : p.cycles < p.dates * p.plan.unit.quantum = grind (arith, other, running.high) in
      omega (arith, on_few p processor, less))
]

module _ (p : Progress) (k : Kept) (running : IsRunning p k) where
  abbrev s : System
  s = system p

  abbrev end : ℕ
  end = p.plan.until * p.plan.unit.quantum

  by_end : (processor : ℕ) → cycles_on p processor ≤ end
  by_end processor =
      let most = mul-le p.dates p.plan.unit.quantum p.plan.until p.plan.unit.quantum running.early (omega arith) in
      omega (arith, on_within p k running processor, most)

  -- ---- each row

  acts_few : (agent : ℕ) → agent < length s.unit.agents → length (filter (λ (a : Act). a.agent == agent) k.acts) ≤ length (acts_told s (order p) p.plan.until agent)
  acts_few agent less =
      let said : Action → Said = λ r. Acted (act_of (turns_by s (order p) end agent) r) in
      let h = history s p.dates agent in
      let h' = history s p.plan.until agent in
      omega (
        arith,
        ap length (running.collected.acts.over agent less),
        length-map (reverse (behind_first h)) (act_of (turns_at_end p agent)),
        length_reverse (behind_first h),
        behind_few h,
        length_reverse h,
        length-map (reverse h) said,
        ap length (flat_map_single said (reverse h)),
        dates_most (λ r. said r ∷ []) s agent p.dates p.plan.until running.early,
        ap length (flat_map_single said (reverse h')),
      )

  publications_few : (variable : ℕ) → variable < length s.unit.variables
      → length (filter (λ (q : Publication). q.variable == variable) k.publications) ≤ length (publications_told s p.plan.sizes p.plan.until variable)
  publications_few variable less =
      let row = filter (λ (q : Publication). q.variable == variable) k.publications in
      omega (
        arith,
        length-map row Published,
        ap length (running.collected.publications.each variable less),
        range_most (publication_at s p.plan.sizes variable) p.dates (p.plan.until + 1) (omega (arith, running.early)),
      )

  segments_few : (processor : ℕ) → processor < processors s.unit
      → length (filter (λ (g : Segment). g.processor == processor) k.segments) ≤ length (stretches_told s (order p) p.plan.until processor)
  segments_few processor less =
      let now = stretches processor (turns_on p processor) in
      let all = stretches processor (turns_of s (order p) end processor) in
      omega (
        arith,
        ap length (running.collected.stretches.over processor less),
        length_reverse (behind_first now),
        behind_few now,
        stretches_most s (order p) processor (cycles_on p processor) end (by_end processor),
        length_reverse all,
        length-map (reverse all) Served,
      )

  looks_few : (agent : ℕ) → agent < length s.unit.agents → length (filter (λ (l : Look). l.agent == agent) k.looks) ≤ length (looks_told s (order p) p.plan.sizes p.plan.until agent)
  looks_few agent less =
      let row = filter (λ (l : Look). l.agent == agent) k.looks in
      let home = processor_at s.unit agent in
      let now = looks_of s p.plan.sizes (turns_so_far p agent) in
      let all = looks_of s p.plan.sizes (turns_by s (order p) end agent) in
      omega (
        arith,
        length-map row Looked,
        ap length (running.collected.looks.each agent less),
        flat_most now all (λ r. looks_most s (order p) p.plan.sizes home r (cycles_on p home) end (by_end home)) (reverse (history s p.dates agent)),
        dates_most all s agent p.dates p.plan.until running.early,
      )

  -- ---- all

  abbrev acts_all : List Said
  acts_all = flat_map (acts_told s (order p) p.plan.until) (range_with_len 0 (length s.unit.agents))

  abbrev publications_all : List Said
  publications_all = flat_map (publications_told s p.plan.sizes p.plan.until) (range_with_len 0 (length s.unit.variables))

  abbrev segments_all : List Said
  segments_all = flat_map (stretches_told s (order p) p.plan.until) (range_with_len 0 (processors s.unit))

  abbrev looks_all : List Said
  looks_all = flat_map (looks_told s (order p) p.plan.sizes p.plan.until) (range_with_len 0 (length s.unit.agents))

  pub large : 2 * count_kept k ≤ length (trace_text s (order p) p.plan.sizes p.plan.until)
  large =
      let a = count_rows (λ (x : Act). x.agent) (acts_told s (order p) p.plan.until) k.acts (length s.unit.agents) running.collected.acts.known acts_few in
      let q = count_rows (λ (x : Publication). x.variable) (publications_told s p.plan.sizes p.plan.until) k.publications (length s.unit.variables) running.collected.publications.known publications_few in
      let g = count_rows (λ (x : Segment). x.processor) (stretches_told s (order p) p.plan.until) k.segments (processors s.unit) running.collected.stretches.known segments_few in
      let l = count_rows (λ (x : Look). x.agent) (looks_told s (order p) p.plan.sizes p.plan.until) k.looks (length s.unit.agents) running.collected.looks.known looks_few in
      omega (
        arith,
        a,
        q,
        g,
        l,
        length-append acts_all (publications_all ++ (segments_all ++ (looks_all ++ Ended ∷ []))),
        length-append publications_all (segments_all ++ (looks_all ++ Ended ∷ [])),
        length-append segments_all (looks_all ++ Ended ∷ []),
        length-append looks_all (Ended ∷ []),
        lines_long s.unit p.plan.until (trace_of s (order p) p.plan.sizes p.plan.until),
      )

-- ---- the same run

-- The trace of the same run is the same.
pub same_trace : (before after : Progress) → IsSameRun before after
    → trace_text (system after) (order after) after.plan.sizes after.plan.until ≡ trace_text (system before) (order before) before.plan.sizes before.plan.until
same_trace before after same =
    ap (λ plan. trace_text (opened_of plan (beginning_of plan after.opening) after.inputs (stalls_of after.script)) (order_of plan.unit after.script) plan.sizes plan.until) same.plan
    ∙ ap (λ inputs. trace_text (opened_of before.plan (beginning_of before.plan after.opening) inputs (stalls_of after.script)) (order_of before.plan.unit after.script) before.plan.sizes before.plan.until) same.inputs
    ∙ ap (λ script. trace_text (opened_of before.plan (beginning_of before.plan after.opening) before.inputs (stalls_of script)) (order_of before.plan.unit script) before.plan.sizes before.plan.until) same.script
    ∙ ap (λ opening. trace_text (opened_of before.plan (beginning_of before.plan opening) before.inputs (stalls_of before.script)) (order_of before.plan.unit before.script) before.plan.sizes before.plan.until) same.opening
