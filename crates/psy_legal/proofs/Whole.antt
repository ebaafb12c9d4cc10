-- The trace of a run is legal: no line of it has a fault.
use Rattle.std.proofs.Common.{◌≡◌, ◌∙◌, refl, sym, ap, subst, ℕ, ◌*◌, ◌<◌, ◌==◌, nat_lt, Bool, true, false, cond, not, List, [], ◌∷◌, ◌++◌, length, map, Option, Some, None, inl, inr, arith}
use Rattle.std.specs.Prelude.{filter}
use Rattle.std.specs.List.{Contains, flat_map, list_all, list_any, range_with_len}
use Rattle.std.proofs.lemmas.Bool.{and_from, eq-eqb, lt-ltb}
use Rattle.std.proofs.lemmas.List.Concat.{flat_map-append}
use Rattle.std.proofs.lemmas.List.Elements.{Contains-append_cases}
use Rattle.std.proofs.lemmas.Option.{same_Some, slice_get_within}
use Rattle.psy_base.specs.declared.sizes.Sizes.{Sizes}
use Rattle.psy_lists.proofs.lemmas.Members.{map_contains}
use Rattle.psy_history.specs.Actions.{Action, System}
use Rattle.psy_history.specs.History.{history}
use Rattle.psy_history.specs.Processors.{processors}
use Rattle.psy_history.specs.Schedule.{cycle_of_unit}
use Rattle.psy_history.specs.Scheduled.{turns_by}
use Rattle.psy_audit.specs.declared.said.Act.{Act}
use Rattle.psy_audit.specs.declared.said.Look.{Look}
use Rattle.psy_audit.specs.declared.said.Publication.{Publication}
use Rattle.psy_audit.specs.declared.said.Said.{Said}
use Rattle.psy_audit.specs.declared.said.Said.TheVariants.{Acted, Published, Served, Ended}
use Rattle.psy_audit.specs.declared.said.Segment.{Segment}
use Rattle.psy_audit.specs.Courses.{has_begun, has_course, has_cycles}
use Rattle.psy_audit.specs.Faults.{IsLegal, comes_behind, fault_in, fault_of, has_names}
use Rattle.psy_audit.specs.Looks.{is_look}
use Rattle.psy_audit.specs.Publications.{is_next, is_published}
use Rattle.psy_audit.specs.Traced.{act_of, looks_of, trace_of}
use Rattle.psy_audit.specs.Traces.{Judged, Lines, act_in, acts_of, is_end, last_of, publication_in, publications_of, segment_in}
use Rattle.psy_audit.specs.Turns.{is_over, is_served, segments_on}
use Rattle.psy_legal.proofs.ActCycles.{cycles}
use Rattle.psy_legal.proofs.Blocks.{act_line, inner, look_line, look_told, looked_line, publication_line, stretch_line, trace_is, act_block, look_block, publication_block, stretch_block}
use Rattle.psy_legal.proofs.CourseLines.{begun, courses}
use Rattle.psy_legal.proofs.Lists.{filter_append, range_has, split_front, split_has, split_map, split_pairs, split_push}
use Rattle.psy_legal.proofs.LinePlaces.{Before, inner_rises}
use Rattle.psy_legal.proofs.LookLines.{IsSighted, looks_at}
use Rattle.psy_legal.proofs.Numbers.{agent_of}
use Rattle.psy_legal.proofs.PublicationLines.{all_there, publishes}
use Rattle.psy_legal.proofs.ServedCycles.{known_agent, over, served, on_processor}
use Rattle.psy_legal.proofs.Splits.{NoEnd, acts_ended, acts_open, ends_last, ends_not, its_acts, its_publications, its_segments, last_in, legal_where, publications_ended, publications_open, segments_ended, segments_open}
use Rattle.psy_legal.proofs.Telling.{no_end, tells, line_cases, look_is}
use Rattle.psy_legal.proofs.TileCycles.{all_pass}
use Rattle.psy_legal.proofs.Told.{IsOnTime, Tells, all_stretches, judge, publication_number}
use Rattle.psy_budget.specs.Charges.{cycle_of}

-- ---- what is picked, where a list is split

picked_split : {Y : Type 0} (pick : Said → List Y) (test : Y → Bool) (fs : List Said) (x : Said) (rest : List Said) (y : Y) → pick x ≡ y ∷ [] → test y ≡ true
    → filter test (flat_map pick (fs ++ x ∷ rest)) ≡ filter test (flat_map pick fs) ++ y ∷ filter test (flat_map pick rest)
picked_split pick test fs x rest y is passes =
    ap (filter test) (flat_map-append pick fs (x ∷ rest) ∙ ap (λ ys. flat_map pick fs ++ (ys ++ flat_map pick rest)) is)
    ∙ filter_append test (flat_map pick fs) (y ∷ flat_map pick rest)
    ∙ ap (λ t. filter test (flat_map pick fs) ++ cond t (y ∷ filter test (flat_map pick rest)) (filter test (flat_map pick rest))) passes

-- ---- the order of faults

no_fault : (j : Judged) (all before : Lines) (said : Said) → list_any is_end before ≡ false → has_names j said ≡ true → comes_behind (last_of before) said ≡ true → fault_in j all before said ≡ None
    → fault_of j all before (Some said) ≡ None
no_fault j all before said before_end names behind sound =
    ap (λ t. cond {A = Option ℕ} t (Some 1) (cond (not (has_names j said)) (Some 2) (cond (not (comes_behind (last_of before) said)) (Some 3) (fault_in j all before said)))) before_end
    ∙ ap (λ t. cond {A = Option ℕ} (not t) (Some 2) (cond (not (comes_behind (last_of before) said)) (Some 3) (fault_in j all before said))) names
    ∙ ap (λ t. cond {A = Option ℕ} (not t) (Some 3) (fault_in j all before said)) behind
    ∙ sound

passed : (test : Bool) (n : ℕ) (rest : Option ℕ) → test ≡ true → rest ≡ None → cond (not test) (Some n) rest ≡ None
passed test n rest is none = ap (λ t. cond {A = Option ℕ} (not t) (Some n) rest) is ∙ none

-- A line comes behind those before it, where each of them comes before it.
comes : (front : List Said) (x : Said) → ((y : Said) → Contains front y → Before y x) → comes_behind (last_of (map Some front)) x ≡ true
comes front x each = by (last_of (map Some front)) refl
  where
    by : (o : Option (Option Said)) → last_of (map Some front) ≡ o → comes_behind o x ≡ true
    by None is = refl
    by (Some None) is = refl
    by (Some (Some y)) is =
        let (z, there, same) = map_contains Some front (Some y) (last_in (map Some front) (Some y) is) in
        subst (λ z. Before z x) (same_Some z y same) (each z there)

module _ (s : System) (order : ℕ → List ℕ) (sizes : Sizes) (until : ℕ) (known : IsOnTime s order sizes until) (sighted : IsSighted s sizes until) where
  abbrev j : Judged
  j = judge s order sizes until

  abbrev last : ℕ
  last = until * s.unit.quantum

  abbrev its : List Said
  its = inner s order sizes until

  abbrev all : Lines
  all = map Some (its ++ Ended ∷ [])

  told : Tells s order sizes until all
  told = tells s order sizes until known

  none_ends : NoEnd its
  none_ends = no_end s order sizes until known

  -- ---- the lines before the end

  module _ (fs : List Said) (x : Said) (rest : List Said) (split : its ≡ fs ++ x ∷ rest) where
    front_ends : NoEnd fs
    front_ends y c = none_ends y (split_front its fs x rest y split c)

    sound : has_names j x ≡ true → fault_in j all (map Some fs) x ≡ None → fault_of j all (map Some fs) (Some x) ≡ None
    sound names right = no_fault j all (map Some fs) x (ends_not fs front_ends) names
        (comes fs x (split_pairs Before its fs x rest split (inner_rises s order sizes until known sighted))) right

    act_sound : (agent : ℕ) → agent < length s.unit.agents → (r : Action) → Contains (history s until agent) r → x ≡ Acted (act_of (turns_by s order last agent) r) → fault_of j all (map Some fs) (Some x) ≡ None
    act_sound agent less r there is =
        let a : Act = act_of (turns_by s order last agent) r in
        let of : a.agent ≡ agent = agent_of s until agent r there in
        let test = λ (b : Act). b.agent == agent in
        let pick = λ (y : Said). act_in (Some y) in
        let whole : acts_of agent all ≡ filter test (its_acts fs) ++ a ∷ filter test (its_acts rest) =
        ap (filter test) (acts_ended its none_ends ∙ ap its_acts split) ∙ picked_split pick test fs x rest a (ap pick is) (eq-eqb a.agent agent of) in
        let front : acts_of agent (map Some fs) ≡ filter test (its_acts fs) = ap (filter test) (acts_open fs front_ends) in
        let course = courses s order sizes until known agent all told (filter test (its_acts fs)) a (filter test (its_acts rest)) (map Some fs) whole front of in
        let own : a ≡ act_of (turns_by s order last r.agent) r = ap (λ k. act_of (turns_by s order last k) r) (sym of) in
        let had : has_cycles j all a ≡ true = ap (has_cycles j all) own ∙ cycles s order sizes until known agent r there all told in
        sound (ap (has_names j) is ∙ lt-ltb a.agent (length s.unit.agents) (omega (arith, of, less)))
        (ap (fault_in j all (map Some fs)) is ∙ passed (has_course j all (map Some fs) a) 4 _ course (passed (has_cycles j all a) 5 None had refl))

    publication_sound : (variable : ℕ) → variable < length s.unit.variables → (k : ℕ) → x ≡ Published (publication_number s sizes variable k) → fault_of j all (map Some fs) (Some x) ≡ None
    publication_sound variable less k is =
        let p = publication_number s sizes variable k in
        let test = λ (q : Publication). q.variable == variable in
        let pick = λ (y : Said). publication_in (Some y) in
        let whole : publications_of variable all ≡ filter test (its_publications fs) ++ p ∷ filter test (its_publications rest) =
        ap (filter test) (publications_ended its none_ends ∙ ap its_publications split) ∙ picked_split pick test fs x rest p (ap pick is) (eq-eqb variable variable refl) in
        let front : publications_of variable (map Some fs) ≡ filter test (its_publications fs) = ap (filter test) (publications_open fs front_ends) in
        sound (ap (has_names j) is ∙ lt-ltb variable (length s.unit.variables) less)
        (ap (fault_in j all (map Some fs)) is ∙ passed (is_next j (map Some fs) p) 6 None
        (publishes s order sizes until all told variable less (filter test (its_publications fs)) p (filter test (its_publications rest)) (map Some fs) whole front refl) refl)

    stretch_sound : (p : ℕ) → p < processors s.unit → (t : Segment) → Contains (all_stretches s order sizes until p) t → x ≡ Served t → fault_of j all (map Some fs) (Some x) ≡ None
    stretch_sound p less t there is =
        let on : t.processor ≡ p = on_processor s order sizes until p t there in
        let test = λ (u : Segment). u.processor == p in
        let pick = λ (y : Said). segment_in (Some y) in
        let whole : segments_on p all ≡ filter test (its_segments fs) ++ t ∷ filter test (its_segments rest) =
        ap (filter test) (segments_ended its none_ends ∙ ap its_segments split) ∙ picked_split pick test fs x rest t (ap pick is) (eq-eqb t.processor p on) in
        let front : segments_on p (map Some fs) ≡ filter test (its_segments fs) = ap (filter test) (segments_open fs front_ends) in
        sound (ap (has_names j) is ∙ lt-ltb t.agent (length s.unit.agents) (known_agent s order sizes until known all told p t there))
        (ap (fault_in j all (map Some fs)) is ∙ passed (is_served j all (map Some fs) t) 7 None
        (served s order sizes until known all told p (filter test (its_segments fs)) t (filter test (its_segments rest)) (sym (told.on p less) ∙ whole) (map Some fs) front) refl)

    look_sound : (agent : ℕ) → agent < length s.unit.agents → (r : Action) → Contains (history s until agent) r → Contains (looks_of s sizes (turns_by s order last agent) r) x → fault_of j all (map Some fs) (Some x) ≡ None
    look_sound agent less r there looked =
        let of : r.agent ≡ agent = agent_of s until agent r there in
        let (look, cycle, c, at, is) = looked_line s order sizes until known (turns_by s order last agent) r x looked in
        let l : Look = look_told s sizes r look cycle in
        let sight = sighted.looks agent r look there c in
        let variable = slice_get_within s.unit.variables look.variable sight.0 sight.1 in
        let at_own : cycle_of_unit r.agent r.number (cycle_of (s.stalls r.agent) r.number look.number) (turns_by s order last r.agent) ≡ Some cycle =
        ap (λ k. cycle_of_unit r.agent r.number (cycle_of (s.stalls r.agent) r.number look.number) (turns_by s order last k)) of ∙ at in
        let names = and_from (nat_lt r.agent (length s.unit.agents)) (nat_lt look.variable (length s.unit.variables)) (lt-ltb r.agent (length s.unit.agents) (omega (arith, of, less))) (lt-ltb look.variable (length s.unit.variables) variable) in
        sound (ap (has_names j) is ∙ names)
        (ap (fault_in j all (map Some fs)) is ∙ passed (is_look j all l) 8 None (looks_at s order sizes until known sighted all told agent r there look c cycle at_own) refl)

    line_sound : fault_of j all (map Some fs) (Some x) ≡ None
    line_sound = elim (Contains-append_cases (act_block s order sizes until) _ x (split_has its fs x rest split)) [
      | inl a ↦ (let (agent, less, r, there, is) = act_line s order sizes until known x a in act_sound agent less r there is)
      | inr behind ↦ elim (Contains-append_cases (publication_block s order sizes until) _ x behind) [
        | inl p ↦ (let (variable, less, k, few, is) = publication_line s order sizes until known x p in publication_sound variable less k is)
        | inr more ↦ elim (Contains-append_cases (stretch_block s order sizes until) (look_block s order sizes until) x more) [
          | inl t ↦ (let (p, less, t, there, is) = stretch_line s order sizes until known x t in stretch_sound p less t there is)
          | inr l ↦ (let (agent, less, r, there, looked) = look_line s order sizes until known x l in look_sound agent less r there looked)
        ]
      ]
    ]

  -- ---- the end

  end_sound : fault_of j all (map Some its) (Some Ended) ≡ None
  end_sound =
      let agents = range_with_len 0 (length s.unit.agents) in
      let variables = range_with_len 0 (length s.unit.variables) in
      let homes = range_with_len 0 (processors s.unit) in
      let have_begun = all_pass (has_begun j all) agents (λ agent c. begun s order sizes until known agent all told (let less = (range_has 0 (length s.unit.agents) agent c).1 in omega (arith, less))) in
      let have_published = all_pass (is_published j all) variables (λ variable c. all_there s order sizes until all told variable (let less = (range_has 0 (length s.unit.variables) variable c).1 in omega (arith, less))) in
      let are_over = all_pass (is_over j all) homes (λ p c. over s order sizes until known all told p (let less = (range_has 0 (processors s.unit) p c).1 in omega (arith, less))) in
      no_fault j all (map Some its) Ended (ends_not its none_ends) refl (comes its Ended (λ y c. line_cases s order sizes until known (λ y. Before y Ended) (λ a. refl) (λ p. refl) (λ t. refl)
      (look_is s order sizes until known (λ y. Before y Ended) (λ l. refl)) y c))
      (passed (list_all (has_begun j all) agents) 4 _ have_begun (passed (list_all (is_published j all) variables) 6 _ have_published (passed (list_all (is_over j all) homes) 7 None are_over refl)))

  -- ---- the trace

  each_sound : (front : Lines) (line : Option Said) (back : Lines) → all ≡ front ++ line ∷ back → fault_of j all front line ≡ None
  each_sound front line back split =
      let (fs, x, bs, is, fronts, at, backs) = split_map Some (its ++ Ended ∷ []) front line back split in
      subst (λ front. fault_of j all front line ≡ None) fronts (subst (λ line. fault_of j all (map Some fs) line ≡ None) at
      (elim (split_push its Ended fs x bs is) [
        | inl (same, ended) ↦ subst (λ x. fault_of j all (map Some fs) (Some x) ≡ None) ended (subst (λ fs. fault_of j all (map Some fs) (Some Ended) ≡ None) same end_sound)
        | inr (rest, parts) ↦ line_sound fs x rest parts
      ]))

  pub legal : IsLegal j (map Some (trace_of s order sizes until))
  legal = subst (λ xs. IsLegal j (map Some xs)) (sym (trace_is s order sizes until)) (legal_where j all each_sound (ends_last its))
