-- The report on a program.
use Rattle.std.specs.Prelude.{◌≡◌, ℕ, ◌-◌, ◌*◌, nat_le, if◌then◌else◌, List, [], ◌∷◌, ◌++◌}
use Rattle.std.specs.Prelude.{decimal, flat_map, get_or, length}
use Rattle.std.specs.List.{range_with_len}
use Rattle.psy_page.specs.Templates.{fill}
use Rattle.psy_report.specs.declared.measures.Measures.{Measures}
use Rattle.psy_report.specs.declared.text.Row.{Row}
use Rattle.psy_report.specs.declared.text.Row.TheVariants as row
use Rattle.psy_report.specs.declared.text.TheConstants.{MINUS, PART, QUEUE, RING, TIGHTEST}
use Rattle.psy_report.specs.Measured.{AreMeasures}
use Rattle.psy_tree.specs.declared.unit.Unit.{Unit as Whole}
use Rattle.psy_tree.specs.Parts.{stream_at, variable_at}
use Rattle.psy_report.specs.Agents.{agent_text, agents_on, on, part_text}
use Rattle.psy_report.specs.Tightness.{AreTightest, demand_on}
use Rattle.psy_report.specs.Warnings.{costs_text, depth_text, input_text, stream_text}

-- What stands before the difference of a supply and a demand: a minus where some is missing
abbrev pub sign : ℕ → ℕ → List ℕ
sign supply demand = if nat_le demand supply then [] else MINUS.now

-- A length of a processor with its supply, its demand and what is left, and the parts of its agents in the demand over it
abbrev pub tight_lines : Whole → Measures → ℕ → ℕ → List ℕ
tight_lines unit measures processor within =
    let supply = unit.quantum * within in
    let demand = demand_on unit measures.lists processor within in
    let left = if nat_le demand supply then supply - demand else demand - supply in
    fill TIGHTEST.now (decimal within ∷ decimal supply ∷ decimal demand ∷ sign supply demand ∷ decimal left ∷ on processor ∷ [])
    ++ flat_map (part_text PART.now unit measures within) (agents_on unit processor)

-- The tightest length of a processor
abbrev pub tight_text : Whole → Measures → List ℕ → ℕ → List ℕ
tight_text unit measures tightest processor = tight_lines unit measures processor (get_or tightest processor 0)

-- The places of a variable's ring
abbrev pub ring_text : Whole → Measures → ℕ → List ℕ
ring_text unit measures variable = fill RING.now ((variable_at unit variable).name ∷ decimal (get_or measures.sizes.rings variable 0) ∷ [])

-- The places of a stream's queue
abbrev pub queue_text : Whole → Measures → ℕ → List ℕ
queue_text unit measures stream = fill QUEUE.now ((stream_at unit stream).name ∷ decimal (get_or measures.sizes.queues stream 0) ∷ [])

-- What is told of a number
abbrev pub row_text : Whole → Measures → Row → ℕ → List ℕ
row_text unit measures row.Agent number = agent_text unit measures number
row_text unit measures row.Ring number = ring_text unit measures number
row_text unit measures row.Queue number = queue_text unit measures number
row_text unit measures row.Costs number = costs_text unit measures number
row_text unit measures row.Depth number = depth_text unit number
row_text unit measures row.Stream number = stream_text unit number
row_text unit measures row.Input number = input_text unit number

-- What is told of the first so many
abbrev pub rows : Whole → Measures → Row → ℕ → List ℕ
rows unit measures row count = flat_map (row_text unit measures row) (range_with_len 0 count)

-- The whole text: agents, the tightest length of each processor, buffers, and warnings
abbrev pub report_text : Whole → Measures → List ℕ → List ℕ
report_text unit measures tightest =
    rows unit measures row.Agent (length unit.agents)
    ++ (flat_map (tight_text unit measures tightest) (range_with_len 0 (length tightest))
    ++ (rows unit measures row.Ring (length unit.variables) ++ (rows unit measures row.Queue (length unit.streams)
    ++ (rows unit measures row.Costs (length unit.agents) ++ (rows unit measures row.Depth (length unit.variables)
    ++ (rows unit measures row.Stream (length unit.streams) ++ rows unit measures row.Input (length unit.variables)))))))

-- A text is the report on a program up to a date: it tells what is measured of it, and each processor's tightest length up to that date.
pub record IsReport (unit : Whole) (until : ℕ) (text : List ℕ) : Type 0 where
  pub measures : Measures
  pub measured : AreMeasures unit until measures
  pub tightest : List ℕ
  pub tight : AreTightest unit measures.lists until tightest
  pub told : text ≡ report_text unit measures tightest
