-- What is left of the proof of `plan::Plan::add_values`.
use Rattle.std.proofs.Common.{◌≡◌, ◌==◌, ◌++◌, Bool, Bor, List, ℕ, true, [], ◌∷◌, cond, length, map, refl, sym, ap, subst, append-nil, ◌∙◌}
use Rattle.std.proofs.lemmas.List.{map-append}
use Rattle.psy_draw.specs.Columns.{is_there_still}
use Rattle.psy_draw.specs.Lanes.{held_values, is_asked}
use Rattle.psy_draw.specs.Planning.{AddsLanes, Held, Shown}
use Rattle.psy_draw.specs.Silences.{silence_at}
use Rattle.psy_draw.specs.Sources.{names_in, place_in, silences_in}
use Rattle.psy_draw.proofs.Lanes.{adds_none, has_variable, keeps_none, keeps_some, value_added}
use Rattle.psy_draw.proofs.plan.Plan.add_values.Goals as goal

pub returns-clause-lanes : goal.returns-clause-lanes
returns-clause-lanes c = λ notes draws.
    let keeps = c.in_ok-columns.ensures (place_in c.args.source) (is_there_still (place_in c.args.source))
    (λ n. held_values c.args.source.scale.now.from c.args.source.scale.now.to n notes) draws.variables in
    let values = held_values c.args.source.scale.now.from c.args.source.scale.now.to c.args.name.now notes in
    let columns = c.in_ok-columns.columns.items in
    value_added (place_in c.args.source) _ _ (record { name = c.args.name.now; silent = silence_at (silences_in c.args.source) c.args.name.now; content = Held values }) c.args.self.now.lanes.items c.push-2.new.self.items _
    (keeps_some (place_in c.args.source) (is_there_still (place_in c.args.source)) values columns keeps (ap (λ cs. length cs == 0) (sym c.as_slice.ensures.value) ∙ sym c.is_empty.ensures ∙ c.if-is_empty.false)) (sym c.is_asked.ensures ∙ c.if-not-is_asked.false) c.in_ok-push-2.ensures.items refl c.silence_at.ensures
    (has_variable (place_in c.args.source) c.shape_of.result columns values c.shape_of.ensures keeps)

pub returns-clause-inputs : goal.returns-clause-inputs
returns-clause-inputs c = λ notes draws.
    let keeps = c.in_ok-columns.ensures (place_in c.args.source) (is_there_still (place_in c.args.source))
    (λ n. held_values c.args.source.scale.now.from c.args.source.scale.now.to n notes) draws.variables in
    let name = c.args.name.now in
    let values = held_values c.args.source.scale.now.from c.args.source.scale.now.to name notes in
    let some = keeps_some (place_in c.args.source) (is_there_still (place_in c.args.source)) values c.in_ok-columns.columns.items keeps (ap (λ cs. length cs == 0) (sym c.as_slice.ensures.value) ∙ sym c.is_empty.ensures ∙ c.if-is_empty.false) in
    let told = λ (inputs : List (Bor (List ℕ))). map (λ n. n.now) inputs in
    let old = told c.args.self.now.inputs.items in
    let P : Bool → Type 0 = λ b. old ≡ old ++ cond b (cond (is_asked (names_in c.args.source) name) (name ∷ []) []) [] in
    subst P (sym some) (sym (append-nil old))

pub returns-then-is_empty-clause-lanes : goal.returns-then-is_empty-clause-lanes
returns-then-is_empty-clause-lanes c = λ notes draws.
    let old = c.args.self.now.lanes.items in
    let name = c.args.name.now in
    let keeps = c.in_ok-columns.ensures (place_in c.args.source) (is_there_still (place_in c.args.source))
    (λ n. held_values c.args.source.scale.now.from c.args.source.scale.now.to n notes) draws.variables in
    let values = held_values c.args.source.scale.now.from c.args.source.scale.now.to name notes in
    let none = keeps_none (place_in c.args.source) (is_there_still (place_in c.args.source)) values c.in_ok-columns.columns.items keeps (ap (λ cs. length cs == 0) (sym c.as_slice.ensures.value) ∙ sym c.is_empty.ensures ∙ c.if-is_empty.true) in
    let shown : Shown = record { name = name; silent = silence_at (silences_in c.args.source) name; content = Held values } in
    let P : Bool → Type 0 = λ b. AddsLanes (place_in c.args.source) (cond b [] (cond (is_asked (names_in c.args.source) name) (shown ∷ []) [])) old old in
    subst P (sym none) (adds_none (place_in c.args.source) old)

pub returns-then-is_empty-clause-inputs : goal.returns-then-is_empty-clause-inputs
returns-then-is_empty-clause-inputs c = λ notes draws.
    let name = c.args.name.now in
    let told = λ (inputs : List (Bor (List ℕ))). map (λ n. n.now) inputs in
    let old = told c.args.self.now.inputs.items in
    let new = told c.push.new.self.items in
    let is : new ≡ old ++ name ∷ [] = ap told c.in_ok-push.ensures.items ∙ map-append (λ n. n.now) c.args.self.now.inputs.items (c.args.name ∷ []) in
    let keeps = c.in_ok-columns.ensures (place_in c.args.source) (is_there_still (place_in c.args.source))
    (λ n. held_values c.args.source.scale.now.from c.args.source.scale.now.to n notes) draws.variables in
    let values = held_values c.args.source.scale.now.from c.args.source.scale.now.to name notes in
    let none = keeps_none (place_in c.args.source) (is_there_still (place_in c.args.source)) values c.in_ok-columns.columns.items keeps (ap (λ cs. length cs == 0) (sym c.as_slice.ensures.value) ∙ sym c.is_empty.ensures ∙ c.if-is_empty.true) in
    let P : Bool → Bool → Type 0 = λ a b. new ≡ old ++ cond a (cond b (name ∷ []) []) [] in
    subst (λ a. P a (is_asked (names_in c.args.source) name)) (sym none) (subst (P true) (sym (sym c.is_asked.ensures ∙ c.if-not-is_asked.false)) is)

pub columns_of-requires : goal.columns_of-requires
columns_of-requires c = c.requires (sym c.is_asked.ensures ∙ c.if-not-is_asked.false)
