-- The text of what is kept, where that is all that a run tells, is the text of its trace.
use Rattle.std.proofs.Common.{◌≡◌, ◌∙◌, refl, sym, ap, ℕ, zero, suc, ◌+◌, ◌<◌, ◌≤◌, ◌==◌, List, [], ◌∷◌, ◌++◌, filter, map, length, append-nil, arith}
use Rattle.std.specs.List.{flat_map, range_with_len}
use Rattle.std.proofs.lemmas.Grind.{flat_map-append}
use Rattle.psy_audit.specs.declared.said.Act.{Act}
use Rattle.psy_audit.specs.declared.said.Look.{Look}
use Rattle.psy_audit.specs.declared.said.Publication.{Publication}
use Rattle.psy_audit.specs.declared.said.Said.{Said}
use Rattle.psy_audit.specs.declared.said.Said.TheVariants.{Acted, Published, Served, Looked, Ended}
use Rattle.psy_audit.specs.declared.said.Segment.{Segment}
use Rattle.psy_audit.specs.Spelled.{line_told, trace_text}
use Rattle.psy_audit.specs.Traced.{acts_told, looks_told, publications_told, stretches_told}
use Rattle.psy_base.specs.declared.sizes.Sizes.{Sizes}
use Rattle.psy_collect.specs.declared.kept.Kept.{Kept}
use Rattle.psy_collect.specs.Keeping.{acts_text, kept_text, looks_text, publications_text, segments_text}
use Rattle.psy_history.specs.Actions.{System}
use Rattle.psy_history.specs.Processors.{processors}

-- All is kept that a run tells up to a date.
pub record IsAll (s : System) (order : ℕ → List ℕ) (sizes : Sizes) (until : ℕ) (k : Kept) : Type 0 where
  pub acts : (agent : ℕ) → agent < length s.unit.agents → map Acted (filter (λ (a : Act). a.agent == agent) k.acts) ≡ acts_told s order until agent
  pub publications : (variable : ℕ) → variable < length s.unit.variables
      → map Published (filter (λ (p : Publication). p.variable == variable) k.publications) ≡ publications_told s sizes until variable
  pub segments : (processor : ℕ) → processor < processors s.unit → map Served (filter (λ (g : Segment). g.processor == processor) k.segments) ≡ stretches_told s order until processor
  pub looks : (agent : ℕ) → agent < length s.unit.agents → map Looked (filter (λ (l : Look). l.agent == agent) k.looks) ≡ looks_told s order sizes until agent

module _ (line : Said → List ℕ) where
  by_said : {X : Type 0} (said : X → Said) (f : X → List ℕ) → ((x : X) → f x ≡ line (said x)) → (xs : List X) → flat_map f xs ≡ flat_map line (map said xs)
  by_said said f each [] = refl
  by_said said f each (x ∷ xs) = ap (λ t. t ++ flat_map f xs) (each x) ∙ ap (λ t. line (said x) ++ t) (by_said said f each xs)

  by_row : (text : ℕ → List ℕ) (told : ℕ → List Said) (a n total : ℕ) → a + n ≤ total → ((k : ℕ) → k < total → text k ≡ flat_map line (told k))
      → flat_map text (range_with_len a n) ≡ flat_map line (flat_map told (range_with_len a n))
  by_row text told a zero total few each = refl
  by_row text told a (suc n) total few each =
      ap (λ t. t ++ flat_map text (range_with_len (a + 1) n)) (each a (omega (arith, few)))
      ∙ ap (λ t. flat_map line (told a) ++ t) (by_row text told (a + 1) n total (omega (arith, few)) each)
      ∙ sym (flat_map-append line (told a) (flat_map told (range_with_len (a + 1) n)))

module _ (s : System) (order : ℕ → List ℕ) (sizes : Sizes) (until : ℕ) (k : Kept) (all : IsAll s order sizes until k) where
  abbrev line : Said → List ℕ
  line = line_told s.unit until

  acts_same : (agent : ℕ) → agent < length s.unit.agents → acts_text s.unit k.acts agent ≡ flat_map line (acts_told s order until agent)
  acts_same agent less =
      by_said line Acted (λ a. line_told s.unit 0 (Acted a)) (λ a. refl) (filter (λ (a : Act). a.agent == agent) k.acts) ∙ ap (flat_map line) (all.acts agent less)

  publications_same : (variable : ℕ) → variable < length s.unit.variables → publications_text s.unit k.publications variable ≡ flat_map line (publications_told s sizes until variable)
  publications_same variable less =
      by_said line Published (λ p. line_told s.unit 0 (Published p)) (λ p. refl) (filter (λ (p : Publication). p.variable == variable) k.publications)
      ∙ ap (flat_map line) (all.publications variable less)

  segments_same : (processor : ℕ) → processor < processors s.unit → segments_text s.unit k.segments processor ≡ flat_map line (stretches_told s order until processor)
  segments_same processor less =
      by_said line Served (λ g. line_told s.unit 0 (Served g)) (λ g. refl) (filter (λ (g : Segment). g.processor == processor) k.segments)
      ∙ ap (flat_map line) (all.segments processor less)

  looks_same : (agent : ℕ) → agent < length s.unit.agents → looks_text s.unit k.looks agent ≡ flat_map line (looks_told s order sizes until agent)
  looks_same agent less =
      by_said line Looked (λ l. line_told s.unit 0 (Looked l)) (λ l. refl) (filter (λ (l : Look). l.agent == agent) k.looks) ∙ ap (flat_map line) (all.looks agent less)

  abbrev acts_all : List Said
  acts_all = flat_map (acts_told s order until) (range_with_len 0 (length s.unit.agents))

  abbrev publications_all : List Said
  publications_all = flat_map (publications_told s sizes until) (range_with_len 0 (length s.unit.variables))

  abbrev segments_all : List Said
  segments_all = flat_map (stretches_told s order until) (range_with_len 0 (processors s.unit))

  abbrev looks_all : List Said
  looks_all = flat_map (looks_told s order sizes until) (range_with_len 0 (length s.unit.agents))

  ended : line_told s.unit until Ended ≡ flat_map line (Ended ∷ [])
  ended = sym (append-nil (line_told s.unit until Ended))

  pub same_text : kept_text s.unit until k ≡ trace_text s order sizes until
  same_text =
      let a = by_row line (acts_text s.unit k.acts) (acts_told s order until) 0 (length s.unit.agents) (length s.unit.agents) (omega arith) acts_same in
      let p = by_row line (publications_text s.unit k.publications) (publications_told s sizes until) 0 (length s.unit.variables) (length s.unit.variables) (omega arith) publications_same in
      let g = by_row line (segments_text s.unit k.segments) (stretches_told s order until) 0 (processors s.unit) (processors s.unit) (omega arith) segments_same in
      let l = by_row line (looks_text s.unit k.looks) (looks_told s order sizes until) 0 (length s.unit.agents) (length s.unit.agents) (omega arith) looks_same in
      let behind_looks = ap (λ t. flat_map (looks_text s.unit k.looks) (range_with_len 0 (length s.unit.agents)) ++ t) ended ∙ ap (λ t. t ++ flat_map line (Ended ∷ [])) l
      ∙ sym (flat_map-append line looks_all (Ended ∷ [])) in
      let behind_segments = ap (λ t. flat_map (segments_text s.unit k.segments) (range_with_len 0 (processors s.unit)) ++ t) behind_looks ∙ ap (λ t. t ++ flat_map line (looks_all ++ Ended ∷ [])) g
      ∙ sym (flat_map-append line segments_all (looks_all ++ Ended ∷ [])) in
      let behind_publications = ap (λ t. flat_map (publications_text s.unit k.publications) (range_with_len 0 (length s.unit.variables)) ++ t) behind_segments
      ∙ ap (λ t. t ++ flat_map line (segments_all ++ (looks_all ++ Ended ∷ []))) p ∙ sym (flat_map-append line publications_all (segments_all ++ (looks_all ++ Ended ∷ []))) in
      ap (λ t. flat_map (acts_text s.unit k.acts) (range_with_len 0 (length s.unit.agents)) ++ t) behind_publications
      ∙ ap (λ t. t ++ flat_map line (publications_all ++ (segments_all ++ (looks_all ++ Ended ∷ [])))) a
      ∙ sym (flat_map-append line acts_all (publications_all ++ (segments_all ++ (looks_all ++ Ended ∷ []))))
