-- What is left of the proof of `picture::file_by`.
use Rattle.std.proofs.Common.{◌≡◌, Bor, inl, inr, ⊎_elim, ℕ, List, length, map, sym, ap, subst, ◌∙◌, arith}
use Rattle.std.specs.List.{flat_map}
use Rattle.std.proofs.lemmas.Bool.{cases_lt}
use Rattle.std.proofs.lemmas.List.{length-map}
use Rattle.psy_log.specs.declared.note.Note.{Note}
use Rattle.psy_draw.specs.declared.file.TheConstants.{INSIDE_BYTES}
use Rattle.psy_draw.specs.Gathering.{AreStops}
use Rattle.psy_draw.specs.Inputs.{input_lines, input_text}
use Rattle.psy_draw.specs.Pictures.{IsCrowded, IsInside, crowded, long, parts_text, pictured}
use Rattle.psy_draw.specs.Planning.{Are}
use Rattle.psy_draw.specs.Rows.{Entry}
use Rattle.psy_draw.specs.Showing.{agent_rows, variable_rows}
use Rattle.psy_draw.specs.Sources.{IsOf, known_in, names_in, place_in, stops_of}
use Rattle.psy_draw.proofs.Crowded.{many_as, many_rows_as, no_crowd}
use Rattle.psy_draw.proofs.Lanes.{are_length}
use Rattle.psy_draw.proofs.Refused.{ok_more}
use Rattle.psy_draw.proofs.Undated.{agents_alike, inputs_are, planned_is, streams_alike, variables_alike}
use Rattle.psy_draw.proofs.picture.file_by.Goals as goal

pub returns-then-is_crowded-clause-picture : goal.returns-then-is_crowded-clause-picture
returns-then-is_crowded-clause-picture c = ok_more c.too_large-then-is_crowded.result
    (λ svg says notes is.
    let source = c.args.source in
    let plan = c.in_ok-plan.plan in
    let shown = flat_map (stops_of source) notes in
    let stops = subst (AreStops (place_in source) shown c.args.stopped.lanes.items) c.if-full.false is.stops in
    let lanes = are_length _ _ _ (c.in_ok-plan.ensures.lanes shown notes stops is.draws) ∙ ap length (planned_is source notes is.summary) in
    let names = sym (length-map plan.inputs.items (λ n. n.now)) ∙ ap length (c.in_ok-plan.ensures.inputs notes is.draws ∙ inputs_are source notes is.summary) in
    crowded (inl (many_as _ _ _ _ lanes names (c.is_crowded.ensures.many c.if-is_crowded.true))) says)
    c.too_large-then-is_crowded.ensures.says

pub returns-then-is_crowded-2-clause-picture : goal.returns-then-is_crowded-2-clause-picture
returns-then-is_crowded-2-clause-picture c = ok_more c.too_large-then-is_crowded-2.result
    (λ svg says notes is.
    let summary = c.args.source.summary.now in
    let are = c.in_ok-tables.ensures in
    crowded (inr (many_rows_as _ _ _ _ _ _ (are.agents ∙ agents_alike notes summary is.summary) (are.variables ∙ variables_alike notes summary is.summary)
    (are.streams ∙ streams_alike notes summary is.summary) (c.is_crowded-2.ensures.many c.if-is_crowded-2.true))) says)
    c.too_large-then-is_crowded-2.ensures.says

-- The inside is that of a picture of the run.
inside_is : (c : goal.After-drop-plan-3) (notes : List Note) → IsOf c.args.source c.args.stopped notes
    → IsInside c.args.title.now c.args.source.scale.now.from c.args.source.scale.now.to c.args.source.scale.now.grain (known_in c.args.source) (names_in c.args.source) notes c.in_ok-inside.inside
inside_is c notes is =
    let source = c.args.source in
    let scale = source.scale.now in
    let summary = source.summary.now in
    let plan = c.in_ok-plan.plan in
    let shown = flat_map (stops_of source) notes in
    let stops = subst (AreStops (place_in source) shown c.args.stopped.lanes.items) c.if-full.false is.stops in
    let told = λ (names : List (Bor (List ℕ))). map (λ n. n.now) names in
    let names = told plan.inputs.items in
    let are = c.in_ok-tables.ensures in
    let P : List Entry → List Entry → List Entry → Type 0 = λ agents variables streams. c.in_ok-inside.inside ≡ parts_text c.args.title.now scale.from scale.to scale.grain
    plan.lanes.items (input_lines names) (input_text names) agents variables streams in
    record {
      lanes = plan.lanes.items;
      are = subst (λ s. Are (place_in source) s plan.lanes.items) (planned_is source notes is.summary) (c.in_ok-plan.ensures.lanes shown notes stops is.draws);
      inputs = names;
      named = c.in_ok-plan.ensures.inputs notes is.draws ∙ inputs_are source notes is.summary;
      whole = subst (P (flat_map agent_rows notes) (flat_map variable_rows notes)) (are.streams ∙ streams_alike notes summary is.summary)
          (subst (λ rows. P (flat_map agent_rows notes) rows c.in_ok-tables.tables.streams.rows.items) (are.variables ∙ variables_alike notes summary is.summary)
          (subst (λ rows. P rows c.in_ok-tables.tables.variables.rows.items c.in_ok-tables.tables.streams.rows.items) (are.agents ∙ agents_alike notes summary is.summary)
          c.in_ok-inside.ensures));
    }

-- There is room for it.
room_is : (c : goal.After-drop-plan-3) (notes : List Note) → IsOf c.args.source c.args.stopped notes
    → IsCrowded c.args.source.scale.now.from c.args.source.scale.now.to (known_in c.args.source) (names_in c.args.source) notes → ⊥
room_is c notes is =
    let source = c.args.source in
    let summary = source.summary.now in
    let plan = c.in_ok-plan.plan in
    let tables = c.in_ok-tables.tables in
    let shown = flat_map (stops_of source) notes in
    let stops = subst (AreStops (place_in source) shown c.args.stopped.lanes.items) c.if-full.false is.stops in
    let lanes = are_length _ _ _ (c.in_ok-plan.ensures.lanes shown notes stops is.draws) ∙ ap length (planned_is source notes is.summary) in
    let names = sym (length-map plan.inputs.items (λ n. n.now)) ∙ ap length (c.in_ok-plan.ensures.inputs notes is.draws ∙ inputs_are source notes is.summary) in
    let few = c.is_crowded.ensures.few c.if-is_crowded.false in
    let room = c.is_crowded-2.ensures.few c.if-is_crowded-2.false in
    let are = c.in_ok-tables.ensures in
    let agents = ap length (are.agents ∙ agents_alike notes summary is.summary) in
    let variables = ap length (are.variables ∙ variables_alike notes summary is.summary) in
    let streams = ap length (are.streams ∙ streams_alike notes summary is.summary) in
    let few_lanes = few.0 in
    let few_names = few.1 in
    let few_agents = room.agents in
    let few_variables = room.variables in
    let few_streams = room.streams in
    no_crowd _ _ _ _ _ (omega (arith, lanes, few_lanes)) (omega (arith, names, few_names)) (omega (arith, agents, few_agents)) (omega (arith, variables, few_variables))
    (omega (arith, streams, few_streams))

pub returns-clause-picture : goal.returns-clause-picture
returns-clause-picture c =
    let text = c.in_ok-inside.inside in
    ⊎_elim (λ large. ok_more c.file_of.result (λ svg says notes is. long text (room_is c notes is) (inside_is c notes is) large says) (c.file_of.ensures.large large))
    (λ fits. ok_more c.file_of.result (λ svg says notes is. pictured text (room_is c notes is) (inside_is c notes is) fits says) (c.file_of.ensures.fits fits))
    (cases_lt INSIDE_BYTES (length text))
