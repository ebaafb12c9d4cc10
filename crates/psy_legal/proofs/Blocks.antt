-- The trace of a run by its blocks: the lines of each kind that it has, and so what is found in it.
use Rattle.std.proofs.Common.{◌≡◌, ◌∙◌, refl, sym, ap, subst, ℕ, zero, suc, ◌+◌, ◌-◌, ◌*◌, ◌%◌, ◌<◌, ◌≤◌, List, [], ◌∷◌, ◌++◌, append_assoc, append-nil, length, map, get_or, reverse, Option, Some, None, inl, inr, arith}
use Rattle.std.specs.Prelude.{if◌then◌else◌}
use Rattle.std.specs.List.{Contains, flat_map, range_with_len}
use Rattle.std.proofs.lemmas.Bool.{cases_Bool}
use Rattle.std.proofs.lemmas.List.{map-append}
use Rattle.std.proofs.lemmas.List.Concat.{flat_map-append, flat_map_single}
use Rattle.psy_base.specs.declared.sizes.Sizes.{Sizes}
use Rattle.psy_budget.specs.Charges.{cycle_of}
use Rattle.psy_clock.specs.declared.clock.Clock.{Clock}
use Rattle.psy_clock.specs.Dates.{count, count_below, date}
use Rattle.psy_code.specs.Views.{Looked}
use Rattle.psy_lists.proofs.lemmas.Members.{front_or_behind, contains_front, contains_none, flat_map_from, map_contains}
use Rattle.psy_lists.proofs.lemmas.Ranges.{range_more}
use Rattle.psy_history.specs.Actions.{Action, System, publishing}
use Rattle.psy_history.specs.History.{history}
use Rattle.psy_history.specs.Lines.{is_date}
use Rattle.psy_history.specs.Processors.{processors}
use Rattle.psy_history.specs.Rings.{slot_of}
use Rattle.psy_history.specs.Schedule.{Turn, cycle_of_unit}
use Rattle.psy_history.specs.Scheduled.{turns_by}
use Rattle.psy_history.specs.Visible.{published}
use Rattle.psy_audit.specs.declared.said.Look.{Look}
use Rattle.psy_audit.specs.declared.said.Said.{Said}
use Rattle.psy_audit.specs.declared.said.Said.TheVariants.{Acted, Published, Served, Looked as Seen, Ended}
use Rattle.psy_audit.specs.declared.said.Segment.{Segment}
use Rattle.psy_audit.specs.Traced.{act_of, acts_told, look_in, shown, looks_told, looks_of, publication_at, publications_told, started, stretches_told, trace_of}
use Rattle.psy_legal.proofs.ClockDates.{below_next, count_at_date, count_elsewhere, date_is}
use Rattle.psy_legal.proofs.Lists.{flat_map_of_map, flat_map_same, range_has, reverse_contains}
use Rattle.psy_legal.proofs.Told.{IsOnTime, all_stretches, publication_number}
use Rattle.std.proofs.lemmas.List.FromFn.{get_or-range_with_len, length-range_with_len}

-- ---- what is made of one item each

pub only_one : {X Y : Type 0} (pick : Said → List Y) (tell : X → Said) (make : X → Y) → ((x : X) → pick (tell x) ≡ make x ∷ []) → (xs : List X) → flat_map pick (map tell xs) ≡ map make xs
only_one pick tell make is xs = flat_map_of_map pick tell xs ∙ flat_map_same (λ x. pick (tell x)) (λ x. make x ∷ []) xs (λ x c. is x) ∙ flat_map_single make xs

pub in_range : (n k : ℕ) → k < n → Contains (range_with_len 0 n) k
in_range n k less = (k, subst (λ m. k < m) (sym (length-range_with_len 0 n)) less, (let same : 0 + k ≡ k = omega arith in get_or-range_with_len 0 n k k less ∙ same))

pub no_items : {X : Type 0} (xs : List X) → ((x : X) → Contains xs x → ⊥) → xs ≡ []
no_items [] none = refl
no_items (x ∷ xs) none = absurd (none x (contains_front x xs))

pub none_in : (n k : ℕ) → n ≤ k → (i : ℕ) → Contains (range_with_len 0 n) i → i ≡ k → ⊥
none_in n k l i c e = (let high = (range_has 0 n i c).1 in omega (arith, l, e, high))

-- What the trace tells of a look that is executed in a cycle
abbrev pub look_told : System → Sizes → Action → Looked → ℕ → Look
look_told s sizes r look cycle = record {
  agent = r.agent;
  number = r.number;
  cycle = cycle;
  variable = look.variable;
  back = look.back;
  slot = slot_of (get_or sizes.rings look.variable 0) (count (publishing s look.variable) r.start) look.back;
  value = shown r.view look.variable look.back;
}

module _ (s : System) (order : ℕ → List ℕ) (sizes : Sizes) (until : ℕ) where
  -- ---- the blocks

  abbrev pub act_block : List Said
  act_block = flat_map (acts_told s order until) (range_with_len 0 (length s.unit.agents))

  abbrev pub publication_block : List Said
  publication_block = flat_map (publications_told s sizes until) (range_with_len 0 (length s.unit.variables))

  abbrev pub stretch_block : List Said
  stretch_block = flat_map (stretches_told s order until) (range_with_len 0 (processors s.unit))

  abbrev pub look_block : List Said
  look_block = flat_map (looks_told s order sizes until) (range_with_len 0 (length s.unit.agents))

  -- All but the end
  abbrev pub inner : List Said
  inner = act_block ++ (publication_block ++ (stretch_block ++ look_block))

  pub trace_is : trace_of s order sizes until ≡ inner ++ Ended ∷ []
  trace_is = sym (append_assoc act_block (publication_block ++ (stretch_block ++ look_block)) (Ended ∷ [])
      ∙ ap (λ xs. act_block ++ xs) (append_assoc publication_block (stretch_block ++ look_block) (Ended ∷ [])
      ∙ ap (λ xs. publication_block ++ xs) (append_assoc stretch_block look_block (Ended ∷ []))))

module _ (s : System) (order : ℕ → List ℕ) (sizes : Sizes) (until : ℕ) (known : IsOnTime s order sizes until) where
  abbrev last : ℕ
  last = until * s.unit.quantum

  abbrev acted : List Said
  acted = act_block s order sizes until

  abbrev published_ones : List Said
  published_ones = publication_block s order sizes until

  abbrev served_ones : List Said
  served_ones = stretch_block s order sizes until

  abbrev looked_ones : List Said
  looked_ones = look_block s order sizes until

  -- ---- publications, by number

  module _ (variable : ℕ) where
    abbrev clock : Clock
    clock = publishing s variable

    published_at : (t : ℕ) → publication_at s sizes variable t ++ [] ≡ (if is_date clock t then Published (publication_number s sizes variable (count_below clock t)) ∷ [] else [])
    published_at t = append-nil (publication_at s sizes variable t) ∙ elim (cases_Bool (is_date clock t)) [
      | inl d ↦ (
          let here : date clock (count_below clock t) ≡ t = date_is known.counted clock (known.clocks variable) t d in
          let number : count clock t ≡ suc (count_below clock t) = count_at_date known.counted clock (known.clocks variable) t d in
          let before : count clock t - 1 ≡ count_below clock t = omega (arith, number) in
          rw d (λ i. Published (record {
            variable = variable;
            date = sym here i;
            slot = before i % get_or sizes.rings variable 0;
            value = published s (history s (sym here i + 1)) variable (sym here i);
          }) ∷ []))
      | inr f ↦ rw f refl
    ]

    published_below : (n : ℕ) → flat_map (publication_at s sizes variable) (range_with_len 0 n) ≡ map (λ k. Published (publication_number s sizes variable k)) (range_with_len 0 (count_below clock n))
    published_below zero = refl
    published_below (suc n) =
        let tell = λ (k : ℕ). Published (publication_number s sizes variable k) in
        let more : suc n ≡ n + 1 = omega arith in
        ap (λ m. flat_map (publication_at s sizes variable) (range_with_len 0 m)) more
        ∙ ap (flat_map (publication_at s sizes variable)) (range_more n)
        ∙ flat_map-append (publication_at s sizes variable) (range_with_len 0 n) (n ∷ [])
        ∙ ap (λ xs. xs ++ (publication_at s sizes variable n ++ [])) (published_below n)
        ∙ ap (λ xs. map tell (range_with_len 0 (count_below clock n)) ++ xs) (published_at n)
        ∙ elim (cases_Bool (is_date clock n)) [
          | inl d ↦ (
              let number : count_below clock (suc n) ≡ count_below clock n + 1 = below_next known.counted clock (known.clocks variable) n
              ∙ count_at_date known.counted clock (known.clocks variable) n d ∙ (let one : suc (count_below clock n) ≡ count_below clock n + 1 = omega arith in one) in
              ap (λ t. map tell (range_with_len 0 (count_below clock n)) ++ (if t then tell (count_below clock n) ∷ [] else [])) d
              ∙ sym (map-append tell (range_with_len 0 (count_below clock n)) (count_below clock n ∷ []))
              ∙ ap (map tell) (sym (range_more (count_below clock n))) ∙ ap (λ m. map tell (range_with_len 0 m)) (sym number))
          | inr f ↦ (
              let number = below_next known.counted clock (known.clocks variable) n ∙ count_elsewhere known.counted clock (known.clocks variable) n f in
              ap (λ t. map tell (range_with_len 0 (count_below clock n)) ++ (if t then tell (count_below clock n) ∷ [] else [])) f
              ∙ append-nil (map tell (range_with_len 0 (count_below clock n))) ∙ ap (λ m. map tell (range_with_len 0 m)) (sym number))
        ]

    pub publications_are : publications_told s sizes until variable ≡ map (λ k. Published (publication_number s sizes variable k)) (range_with_len 0 (count clock until))
    publications_are =
        let more : until + 1 ≡ suc until = omega arith in
        ap (λ m. flat_map (publication_at s sizes variable) (range_with_len 0 m)) more ∙ published_below (suc until)
        ∙ ap (λ m. map (λ k. Published (publication_number s sizes variable k)) (range_with_len 0 m)) (below_next known.counted clock (known.clocks variable) until)

  -- ---- what a line of a block is

  pub act_line : (x : Said) → Contains acted x → (agent : ℕ) × (agent < length s.unit.agents) × (r : Action) × Contains (history s until agent) r × (x ≡ Acted (act_of (turns_by s order last agent) r))
  act_line x c =
      let (agent, there, its) = flat_map_from (acts_told s order until) (range_with_len 0 (length s.unit.agents)) x c in
      let (r, listed, is) = map_contains (λ r. Acted (act_of (turns_by s order last agent) r)) (started s until agent) x its in
      let low = (range_has 0 (length s.unit.agents) agent there).1 in
      (agent, omega (arith, low), r, reverse_contains (history s until agent) r listed, sym is)

  pub publication_line : (x : Said) → Contains published_ones x → (variable : ℕ) × (variable < length s.unit.variables) × (k : ℕ) × (k < count (publishing s variable) until) × (x ≡ Published (publication_number s sizes variable k))
  publication_line x c =
      let (variable, there, its) = flat_map_from (publications_told s sizes until) (range_with_len 0 (length s.unit.variables)) x c in
      let (k, listed, is) = map_contains (λ k. Published (publication_number s sizes variable k)) (range_with_len 0 (count (publishing s variable) until)) x (subst (λ xs. Contains xs x) (publications_are variable) its) in
      let low = (range_has 0 (length s.unit.variables) variable there).1 in
      let few = (range_has 0 (count (publishing s variable) until) k listed).1 in
      (variable, omega (arith, low), k, omega (arith, few), sym is)

  pub stretch_line : (x : Said) → Contains served_ones x → (p : ℕ) × (p < processors s.unit) × (t : Segment) × Contains (all_stretches s order sizes until p) t × (x ≡ Served t)
  stretch_line x c =
      let (p, there, its) = flat_map_from (stretches_told s order until) (range_with_len 0 (processors s.unit)) x c in
      let (t, listed, is) = map_contains Served (reverse (all_stretches s order sizes until p)) x its in
      let low = (range_has 0 (processors s.unit) p there).1 in
      (p, omega (arith, low), t, reverse_contains (all_stretches s order sizes until p) t listed, sym is)

  pub look_line : (x : Said) → Contains looked_ones x → (agent : ℕ) × (agent < length s.unit.agents) × (r : Action) × Contains (history s until agent) r × Contains (looks_of s sizes (turns_by s order last agent) r) x
  look_line x c =
      let (agent, there, its) = flat_map_from (looks_told s order sizes until) (range_with_len 0 (length s.unit.agents)) x c in
      let (r, listed, looked) = flat_map_from (looks_of s sizes (turns_by s order last agent)) (started s until agent) x its in
      let low = (range_has 0 (length s.unit.agents) agent there).1 in
      (agent, omega (arith, low), r, reverse_contains (history s until agent) r listed, looked)

  -- A look's line is a look, executed in a cycle.
  pub looked_line : (turns : List (Option Turn)) (r : Action) (x : Said) → Contains (looks_of s sizes turns r) x
      → (look : Looked) × (cycle : ℕ) × Contains r.deeds.looks look
      × (cycle_of_unit r.agent r.number (cycle_of (s.stalls r.agent) r.number look.number) turns ≡ Some cycle) × (x ≡ Seen (look_told s sizes r look cycle))
  looked_line turns r x c =
      let (look, there, its) = flat_map_from (λ (look : Looked). look_in s sizes r look (cycle_of_unit r.agent r.number (cycle_of (s.stalls r.agent) r.number look.number) turns)) r.deeds.looks x c in
      let (cycle, at, is) = one (cycle_of_unit r.agent r.number (cycle_of (s.stalls r.agent) r.number look.number) turns) look its in
      (look, cycle, there, at, is)
    where
      one : (o : Option ℕ) (look : Looked) → Contains (look_in s sizes r look o) x → (cycle : ℕ) × (o ≡ Some cycle) × (x ≡ Seen (look_told s sizes r look cycle))
      one None look none = absurd (contains_none x none)
      one (Some cycle) look its = elim (front_or_behind (Seen (look_told s sizes r look cycle)) [] x its) [
        | inl e ↦ (cycle, refl, sym e)
        | inr none ↦ absurd (contains_none x none)
      ]
