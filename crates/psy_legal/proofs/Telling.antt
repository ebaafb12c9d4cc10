-- What is found in the lines of the trace of a run: of each agent, each variable and each processor its own.
use Rattle.std.proofs.Common.{◌≡◌, ◌∙◌, refl, sym, ap, subst, ℕ, ◌*◌, ◌<◌, ◌==◌, ◌&&◌, Bool, true, false, List, [], ◌∷◌, ◌++◌, append-nil, length, map, reverse, Some, inl, inr, arith, map-id}
use Rattle.std.specs.Prelude.{filter}
use Rattle.std.specs.List.{Contains, flat_map, range_with_len}
use Rattle.std.proofs.lemmas.Bool.{and_from, and_parts, cases_lt, eq-eqb, eqb-true}
use Rattle.std.proofs.lemmas.List.Concat.{flat_map-append}
use Rattle.std.proofs.lemmas.List.Elements.{All-contains, Contains-append_cases}
use Rattle.psy_base.specs.declared.sizes.Sizes.{Sizes}
use Rattle.psy_clock.specs.Dates.{count}
use Rattle.psy_lists.proofs.lemmas.Members.{filter_from, filter_in, flat_map_from, flat_map_in, map_contains}
use Rattle.psy_lists.proofs.lemmas.Tests.{not_true}
use Rattle.psy_history.specs.Actions.{System, publishing}
use Rattle.psy_history.specs.History.{history}
use Rattle.psy_history.specs.Processors.{processor_at, processors}
use Rattle.psy_history.specs.Regular.{IsRegular}
use Rattle.psy_history.specs.Scheduled.{turns_by}
use Rattle.psy_audit.specs.declared.said.Act.{Act}
use Rattle.psy_audit.specs.declared.said.Publication.{Publication}
use Rattle.psy_audit.specs.declared.said.Said.{Said}
use Rattle.psy_audit.specs.declared.said.Said.TheVariants.{Acted, Published, Served, Looked as Seen, Ended}
use Rattle.psy_audit.specs.declared.said.Segment.{Segment}
use Rattle.psy_audit.specs.Traced.{act_of, acts_told, publications_told, started, stretches_told}
use Rattle.psy_audit.specs.Traces.{act_in, acts_of, is_end, publication_in, publications_of, segment_in, segments}
use Rattle.psy_audit.specs.Turns.{segments_on}
use Rattle.psy_legal.proofs.Blocks.{act_block, act_line, in_range, inner, look_block, look_line, looked_line, no_items, none_in, only_one, publication_block, publication_line, publications_are, stretch_block, stretch_line}
use Rattle.psy_legal.proofs.Firsts.{tiles_of}
use Rattle.psy_legal.proofs.Lists.{contains_reverse, filter_all, filter_none, flat_map_none, flat_map_of_flat_map, flat_map_same, picked, reverse_contains}
use Rattle.psy_legal.proofs.Numbers.{agent_of}
use Rattle.psy_legal.proofs.ServedCycles.{home_of}
use Rattle.psy_legal.proofs.Splits.{NoEnd, acts_ended, its_acts, its_publications, its_segments, publications_ended, segments_ended}
use Rattle.psy_legal.proofs.Tiles.{tile_of}
use Rattle.psy_legal.proofs.Told.{IsOnTime, Tells, all_stretches, publication_number}
use Rattle.psy_legal.proofs.Turns.{next_turn, serving}

module _ (s : System) (order : ℕ → List ℕ) (sizes : Sizes) (until : ℕ) (known : IsOnTime s order sizes until) where
  abbrev last : ℕ
  last = until * s.unit.quantum

  abbrev acted : List Said
  acted = act_block s order sizes until

  abbrev published_ones : List Said
  published_ones = publication_block s order sizes until

  abbrev served_ones : List Said
  served_ones = stretch_block s order sizes until

  abbrev looked_ones : List Said
  looked_ones = look_block s order sizes until

  abbrev behind : List Said
  behind = published_ones ++ (served_ones ++ looked_ones)

  -- A line of the trace is of one of the four kinds.
  pub line_cases : (P : Said → Type 0) → ((a : Act) → P (Acted a)) → ((p : Publication) → P (Published p)) → ((t : Segment) → P (Served t)) → ((x : Said) → Contains looked_ones x → P x) → (x : Said) → Contains (acted ++ behind) x → P x
  line_cases P of_act of_publication of_segment of_look x c = elim (Contains-append_cases acted behind x c) [
    | inl a ↦ (let on = act_line s order sizes until known x a in subst P (sym on.4) (of_act _))
    | inr rest ↦ elim (Contains-append_cases published_ones (served_ones ++ looked_ones) x rest) [
      | inl p ↦ (let on = publication_line s order sizes until known x p in subst P (sym on.4) (of_publication _))
      | inr more ↦ elim (Contains-append_cases served_ones looked_ones x more) [
        | inl t ↦ (let on = stretch_line s order sizes until known x t in subst P (sym on.4) (of_segment _))
        | inr l ↦ of_look x l
      ]
    ]
  ]

  -- One of the last kind is a look.
  pub look_is : (P : Said → Type 0) → ((l : _) → P (Seen l)) → (x : Said) → Contains looked_ones x → P x
  look_is P of_look x c =
      let on = look_line s order sizes until known x c in
      let its = looked_line s order sizes until known (turns_by s order last on.0) on.2 x on.4 in
      subst P (sym its.4) (of_look _)

  pub no_end : NoEnd (acted ++ behind)
  no_end x c = line_cases (λ x. is_end (Some x) ≡ false) (λ a. refl) (λ p. refl) (λ t. refl) (look_is (λ x. is_end (Some x) ≡ false) (λ l. refl)) x c

  -- ---- actions

  abbrev acts_by : ℕ → List Act
  acts_by agent = map (act_of (turns_by s order last agent)) (reverse (history s until agent))

  acts_are : its_acts (acted ++ behind) ≡ flat_map acts_by (range_with_len 0 (length s.unit.agents))
  acts_are =
      let pick = λ (x : Said). act_in (Some x) in
      let agents = range_with_len 0 (length s.unit.agents) in
      let none : its_acts behind ≡ [] = flat_map_none pick behind (λ x c. elim (Contains-append_cases published_ones (served_ones ++ looked_ones) x c) [
        | inl p ↦ ap pick (publication_line s order sizes until known x p).4
        | inr more ↦ elim (Contains-append_cases served_ones looked_ones x more) [
          | inl t ↦ ap pick (stretch_line s order sizes until known x t).4
          | inr l ↦ look_is (λ x. pick x ≡ []) (λ l. refl) x l
        ]
      ]) in
      flat_map-append pick acted behind ∙ ap (λ xs. its_acts acted ++ xs) none ∙ append-nil (its_acts acted)
      ∙ flat_map_of_flat_map pick (acts_told s order until) agents
      ∙ flat_map_same (λ i. flat_map pick (acts_told s order until i)) acts_by agents (λ agent c.
      only_one pick (λ r. Acted (act_of (turns_by s order last agent) r)) (act_of (turns_by s order last agent)) (λ r. refl) (started s until agent))

  of_agent : (agent : ℕ) (a : Act) → Contains (acts_by agent) a → a.agent ≡ agent
  of_agent agent a c =
      let (r, listed, is) = map_contains (act_of (turns_by s order last agent)) (reverse (history s until agent)) a c in
      ap (λ (a : Act). a.agent) (sym is) ∙ agent_of s until agent r (reverse_contains (history s until agent) r listed)

  acts_tell : (agent : ℕ) → acts_of agent (map Some ((acted ++ behind) ++ Ended ∷ [])) ≡ acts_by agent
  acts_tell agent =
      let test = λ (a : Act). a.agent == agent in
      let agents = length s.unit.agents in
      ap (filter test) (acts_ended (acted ++ behind) no_end ∙ acts_are) ∙ elim (cases_lt agent agents) [
        | inl less ↦
            picked test acts_by agent (λ i a c t. sym (of_agent i a c) ∙ eqb-true a.agent agent t) 0 agents (omega arith) (omega (arith, less))
            ∙ filter_all test (acts_by agent) (λ a c. eq-eqb a.agent agent (of_agent agent a c))
        | inr beyond ↦ (
            let none = no_items (history s until agent) (λ r c.
            let its : IsRegular s agent r = All-contains (IsRegular s agent) (history s until agent) r (known.lawful.actions until agent).each c in
            omega (arith, its.known, beyond)) in
            filter_none test (flat_map acts_by (range_with_len 0 agents)) (λ a c. not_true (test a) (λ (t : test a ≡ true).
            let (i, there, its) = flat_map_from acts_by (range_with_len 0 agents) a c in
            none_in agents agent beyond i there (sym (of_agent i a its) ∙ eqb-true a.agent agent t)))
            ∙ ap (λ actions. map (act_of (turns_by s order last agent)) (reverse actions)) (sym none))
      ]

  -- ---- publications

  abbrev publications_by : ℕ → List Publication
  publications_by variable = map (publication_number s sizes variable) (range_with_len 0 (count (publishing s variable) until))

  publications_all : its_publications (acted ++ behind) ≡ flat_map publications_by (range_with_len 0 (length s.unit.variables))
  publications_all =
      let pick = λ (x : Said). publication_in (Some x) in
      let variables = range_with_len 0 (length s.unit.variables) in
      let rest = served_ones ++ looked_ones in
      let front : its_publications acted ≡ [] = flat_map_none pick acted (λ x c. ap pick (act_line s order sizes until known x c).4) in
      let none : its_publications rest ≡ [] = flat_map_none pick rest (λ x c. elim (Contains-append_cases served_ones looked_ones x c) [
        | inl t ↦ ap pick (stretch_line s order sizes until known x t).4
        | inr l ↦ look_is (λ x. pick x ≡ []) (λ l. refl) x l
      ]) in
      flat_map-append pick acted behind ∙ ap (λ xs. xs ++ its_publications behind) front
      ∙ flat_map-append pick published_ones rest ∙ ap (λ xs. its_publications published_ones ++ xs) none ∙ append-nil (its_publications published_ones)
      ∙ flat_map_of_flat_map pick (publications_told s sizes until) variables
      ∙ flat_map_same (λ i. flat_map pick (publications_told s sizes until i)) publications_by variables (λ variable c.
      ap (flat_map pick) (publications_are s order sizes until known variable)
      ∙ only_one pick (λ k. Published (publication_number s sizes variable k)) (publication_number s sizes variable) (λ k. refl) (range_with_len 0 (count (publishing s variable) until)))

  of_variable : (variable : ℕ) (p : Publication) → Contains (publications_by variable) p → p.variable ≡ variable
  of_variable variable p c =
      let (k, listed, is) = map_contains (publication_number s sizes variable) (range_with_len 0 (count (publishing s variable) until)) p c in
      ap (λ (p : Publication). p.variable) (sym is)

  publications_tell : (variable : ℕ) → variable < length s.unit.variables → publications_of variable (map Some ((acted ++ behind) ++ Ended ∷ [])) ≡ publications_by variable
  publications_tell variable less =
      let test = λ (p : Publication). p.variable == variable in
      ap (filter test) (publications_ended (acted ++ behind) no_end ∙ publications_all)
      ∙ picked test publications_by variable (λ i p c t. sym (of_variable i p c) ∙ eqb-true p.variable variable t) 0 (length s.unit.variables) (omega arith) (omega (arith, less))
      ∙ filter_all test (publications_by variable) (λ p c. eq-eqb p.variable variable (of_variable variable p c))

  -- ---- stretches

  abbrev stretches_on : ℕ → List Segment
  stretches_on p = reverse (all_stretches s order sizes until p)

  stretches_all : its_segments (acted ++ behind) ≡ flat_map stretches_on (range_with_len 0 (processors s.unit))
  stretches_all =
      let pick = λ (x : Said). segment_in (Some x) in
      let homes = range_with_len 0 (processors s.unit) in
      let front : its_segments acted ≡ [] = flat_map_none pick acted (λ x c. ap pick (act_line s order sizes until known x c).4) in
      let middle : its_segments published_ones ≡ [] = flat_map_none pick published_ones (λ x c. ap pick (publication_line s order sizes until known x c).4) in
      let none : its_segments looked_ones ≡ [] = flat_map_none pick looked_ones (look_is (λ x. pick x ≡ []) (λ l. refl)) in
      flat_map-append pick acted behind ∙ ap (λ xs. xs ++ its_segments behind) front
      ∙ flat_map-append pick published_ones (served_ones ++ looked_ones) ∙ ap (λ xs. xs ++ its_segments (served_ones ++ looked_ones)) middle
      ∙ flat_map-append pick served_ones looked_ones ∙ ap (λ xs. its_segments served_ones ++ xs) none ∙ append-nil (its_segments served_ones)
      ∙ flat_map_of_flat_map pick (stretches_told s order until) homes
      ∙ flat_map_same (λ i. flat_map pick (stretches_told s order until i)) stretches_on homes (λ p c.
      only_one pick Served (λ t. t) (λ t. refl) (stretches_on p) ∙ map-id (stretches_on p))

  on_it : (p : ℕ) (t : Segment) → Contains (stretches_on p) t → (t.processor ≡ p) × (processor_at s.unit t.agent ≡ p)
  on_it p t c =
      let own = serving s order p in
      let st = all_stretches s order sizes until p in
      let (m, few, tile) = tile_of (next_turn s own) p last st t (tiles_of s own p last) (reverse_contains st t c) in
      (tile.processor_is, home_of s order p t.first t (tile.own t.first (omega arith) tile.filled))

  segments_tell : (test : Segment → Bool) → filter test (segments (map Some ((acted ++ behind) ++ Ended ∷ []))) ≡ filter test (flat_map stretches_on (range_with_len 0 (processors s.unit)))
  segments_tell test = ap (filter test) (segments_ended (acted ++ behind) no_end ∙ stretches_all)

  on_tell : (p : ℕ) → p < processors s.unit → segments_on p (map Some ((acted ++ behind) ++ Ended ∷ [])) ≡ stretches_on p
  on_tell p less =
      let test = λ (t : Segment). t.processor == p in
      segments_tell test
      ∙ picked test stretches_on p (λ i t c is. sym (on_it i t c).0 ∙ eqb-true t.processor p is) 0 (processors s.unit) (omega arith) (omega (arith, less))
      ∙ filter_all test (stretches_on p) (λ t c. eq-eqb t.processor p (on_it p t c).0)

  pub tells : Tells s order sizes until (map Some (inner s order sizes until ++ Ended ∷ []))
  tells = record {
    acts = acts_tell;
    published = publications_tell;
    on = on_tell;
    of_act = λ agent number t c.
        let test = λ (t : Segment). t.agent == agent && t.number == number in
        let all = flat_map stretches_on (range_with_len 0 (processors s.unit)) in
        let (there, is) = filter_from test all t (subst (λ ts. Contains ts t) (segments_tell test) c) in
        let same = and_parts (t.agent == agent) (t.number == number) is in
        let its = eqb-true t.agent agent same.0 in
        let (p, of, listed) = flat_map_from stretches_on (range_with_len 0 (processors s.unit)) t there in
        let home = sym (on_it p t listed).1 ∙ ap (processor_at s.unit) its in
        (subst (λ q. Contains (all_stretches s order sizes until q) t) home (reverse_contains (all_stretches s order sizes until p) t listed), its, eqb-true t.number number same.1);
    of_home = λ agent number t c its numbered.
        let test = λ (t : Segment). t.agent == agent && t.number == number in
        let p = processor_at s.unit agent in
        let all = flat_map stretches_on (range_with_len 0 (processors s.unit)) in
        let there : Contains all t = flat_map_in stretches_on (range_with_len 0 (processors s.unit)) p t (in_range (processors s.unit) p (known.homes agent)) (contains_reverse (all_stretches s order sizes until p) t c) in
        subst (λ ts. Contains ts t) (sym (segments_tell test)) (filter_in test all t there (and_from (t.agent == agent) (t.number == number) (eq-eqb t.agent agent its) (eq-eqb t.number number numbered)));
  }
