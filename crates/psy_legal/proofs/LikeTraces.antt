-- Histories of code and of statements that are alike have the same trace.
use Rattle.std.proofs.Common.{◌≡◌, ℕ, ◌+◌, ◌-◌, ◌*◌, ◌≤◌, Bool, false, List, [], ◌∷◌, ◌++◌, get_or, length, map, reverse, Option, Some, None, refl, sym, ap, ap₂, ◌∙◌, subst, inl, inr, arith}
use Rattle.std.proofs.Math.Path.{fun_ext}
use Rattle.std.proofs.lemmas.Bool.{cases_Bool, ltb-false}
use Rattle.std.specs.Prelude.{ℤ, ◌%◌, filter, if◌then◌else◌, nat_lt, pos}
use Rattle.std.specs.List.{Contains, flat_map, range_with_len}
use Rattle.psy_base.specs.declared.sizes.Sizes.{Sizes}
use Rattle.psy_budget.specs.declared.charge.Stall.{Stall}
use Rattle.psy_budget.specs.Charges.{cycle_of}
use Rattle.psy_clock.specs.Dates.{count}
use Rattle.psy_code.specs.declared.code.Code.{Code}
use Rattle.psy_code.specs.Views.{Looked}
use Rattle.psy_tree.specs.declared.unit.Unit.{Unit as Whole}
use Rattle.psy_history.specs.Actions.{Action, System, publishing}
use Rattle.psy_history.specs.Compiled.{coded, stated}
use Rattle.psy_history.specs.History.{history}
use Rattle.psy_history.specs.Likeness.{AreLike, IsLike, looks_within}
use Rattle.psy_history.specs.Lines.{is_date}
use Rattle.psy_history.specs.Processors.{processor_at, processors}
use Rattle.psy_history.specs.Rings.{slot_of}
use Rattle.psy_history.specs.Schedule.{Turn, cycle_of_unit, units, work}
use Rattle.psy_history.specs.Scheduled.{turns_by, turns_of}
use Rattle.psy_audit.specs.declared.said.Said.{Said}
use Rattle.psy_audit.specs.declared.said.Said.TheVariants.{Acted, Published, Served, Looked as Seen, Ended}
use Rattle.psy_audit.specs.Spelled.{line_told, trace_text}
use Rattle.psy_audit.specs.Traced.{act_of, acts_told, look_in, looks_of, looks_told, publication_at, publications_told, started, stretches, stretches_told, trace_of}
use Rattle.psy_legal.proofs.LikeActions.{act_same, flat_map_back, map_back, map_like}
use Rattle.psy_legal.proofs.LikePasts.{pasts_are, pasts_at, pasts_same, published_same}
use Rattle.psy_legal.proofs.Numbers.{agent_of}
use Rattle.psy_legal.proofs.UnitCycles.{no_unit}

-- ---- lists

flat_map_same : {X Y : Type 0} (f g : X → List Y) → ((x : X) → f x ≡ g x) → (xs : List X) → flat_map f xs ≡ flat_map g xs
flat_map_same {X} {Y} f g same xs = ap (λ (h : X → List Y). flat_map h xs) (fun_ext same)

-- What gives nothing may be left out.
left_out : {X Y : Type 0} (f : X → List Y) (p : X → Bool) → ((x : X) → p x ≡ false → f x ≡ []) → (xs : List X) → flat_map f xs ≡ flat_map f (filter p xs)
left_out f p none [] = refl
left_out f p none (x ∷ xs) = elim (cases_Bool (p x)) [
  | inl t ↦ rw t (ap (λ ys. f x ++ ys) (left_out f p none xs))
  | inr t ↦ rw t (ap₂ (λ ys zs. ys ++ zs) (none x t) (left_out f p none xs))
]

-- ---- the looks of an action

module _ (s : System) (sizes : Sizes) (turns : List (Option Turn)) (r : Action) where
  abbrev lines_at : Looked → List Said
  lines_at look = look_in s sizes r look (cycle_of_unit r.agent r.number (cycle_of (s.stalls r.agent) r.number look.number) turns)

  -- one beyond its budget is executed in no cycle
  late_look : units r.agent r.number turns ≤ work r → (look : Looked) → nat_lt look.number r.budget ≡ false → lines_at look ≡ []
  late_look few look e =
      let late = ltb-false look.number r.budget e in
      ap (look_in s sizes r look) (no_unit r.agent r.number (cycle_of (s.stalls r.agent) r.number look.number) turns (omega (arith, few, late)))

  lines_within : units r.agent r.number turns ≤ work r → looks_of s sizes turns r ≡ flat_map lines_at (looks_within r)
  lines_within few = left_out lines_at (λ (look : Looked). nat_lt look.number r.budget) (late_look few) r.deeds.looks

-- ---- the two traces

module _ (unit : Whole) (code : Code) (nexts : List (List (List ℕ))) (stalls : ℕ → List Stall) (inputs : List (List ℤ)) where
  abbrev of_code : System
  of_code = coded unit code nexts stalls inputs

  abbrev of_stmts : System
  of_stmts = stated unit nexts stalls inputs

  -- The line of a look, from what it depends on
  abbrev look_line : Sizes → ℕ → ℕ → ℕ → List (List ℤ) → Looked → ℕ → List Said
  look_line sizes agent number start pasts look cycle = Seen (record {
    agent = agent;
    number = number;
    cycle = cycle;
    variable = look.variable;
    back = look.back;
    slot = slot_of (get_or sizes.rings look.variable 0) (count (publishing of_stmts look.variable) start) look.back;
    value = get_or (get_or pasts look.variable []) look.back (pos 0);
  }) ∷ []

  look_same : (sizes : Sizes) (r q : Action) → IsLike r q → r.view.pasts ≡ q.view.pasts → (look : Looked) (cycle : Option ℕ) → look_in of_code sizes r look cycle ≡ look_in of_stmts sizes q look cycle
  look_same sizes r q h pasts look None = refl
  look_same sizes r q h pasts look (Some cycle) =
      ap₂ (λ agent number. look_line sizes agent number r.start r.view.pasts look cycle) h.agent h.number
      ∙ ap₂ (λ start pasts. look_line sizes q.agent q.number start pasts look cycle) h.start pasts

  looks_of_same : (sizes : Sizes) (turns : List (Option Turn)) (r q : Action) → IsLike r q → r.view.pasts ≡ q.view.pasts → units r.agent r.number turns ≤ work r → looks_of of_code sizes turns r ≡ looks_of of_stmts sizes turns q
  looks_of_same sizes turns r q h pasts few =
      let as_many : units r.agent r.number turns ≡ units q.agent q.number turns = ap₂ (λ agent number. units agent number turns) h.agent h.number in
      let few_too : units q.agent q.number turns ≤ work q = subst (λ n. n ≤ work q) as_many (subst (λ n. units r.agent r.number turns ≤ n) h.work few) in
      lines_within of_code sizes turns r few
      ∙ flat_map_same (lines_at of_code sizes turns r) (lines_at of_stmts sizes turns q) (λ look.
      ap₂ (λ agent number. look_in of_code sizes r look (cycle_of_unit agent number (cycle_of (stalls agent) number look.number) turns)) h.agent h.number
      ∙ look_same sizes r q h pasts look (cycle_of_unit q.agent q.number (cycle_of (stalls q.agent) q.number look.number) turns)) (looks_within r)
      ∙ ap (flat_map (lines_at of_stmts sizes turns q)) h.looks
      ∙ sym (lines_within of_stmts sizes turns q few_too)

  module _ (like : (dates agent : ℕ) → AreLike (history of_code dates agent) (history of_stmts dates agent))
      (schedule : (order : ℕ → List ℕ) (cycles processor : ℕ) → turns_of of_code order cycles processor ≡ turns_of of_stmts order cycles processor)
      (given : (order : ℕ → List ℕ) (dates cycles agent : ℕ) (r : Action) → Contains (history of_code dates agent) r → units r.agent r.number (turns_by of_code order cycles r.agent) ≤ work r)
      (order : ℕ → List ℕ) (sizes : Sizes) (until : ℕ) where
    abbrev cycles : ℕ
    cycles = until * unit.quantum

    acts_same : (agent : ℕ) → acts_told of_code order until agent ≡ acts_told of_stmts order until agent
    acts_same agent =
        let turns = turns_by of_stmts order cycles agent in
        let line = λ (r : Action). Acted (act_of turns r) in
        ap (λ done. map (λ (r : Action). Acted (act_of done r)) (started of_code until agent)) (schedule order cycles (processor_at unit agent))
        ∙ map_back line line (history of_code until agent) (history of_stmts until agent)
        (map_like line line (history of_code until agent) (history of_stmts until agent) (λ r q there here h. ap (λ act. Acted act) (act_same turns r q h)) (like until agent))

    publication_same : (variable date : ℕ) → publication_at of_code sizes variable date ≡ publication_at of_stmts sizes variable date
    publication_same variable date = ap (λ (value : ℤ).
        if is_date (publishing of_stmts variable) date
        then Published (record {
          variable = variable;
          date = date;
          slot = (count (publishing of_stmts variable) date - 1) % get_or sizes.rings variable 0;
          value = value;
        }) ∷ []
        else []) (published_same unit code nexts stalls inputs like (date + 1) variable date)

    publications_same : (variable : ℕ) → publications_told of_code sizes until variable ≡ publications_told of_stmts sizes until variable
    publications_same variable = flat_map_same (publication_at of_code sizes variable) (publication_at of_stmts sizes variable) (publication_same variable) (range_with_len 0 (until + 1))

    stretches_same : (processor : ℕ) → stretches_told of_code order until processor ≡ stretches_told of_stmts order until processor
    stretches_same processor = ap (λ turns. map Served (reverse (stretches processor turns))) (schedule order cycles processor)

    seen_same : (agent : ℕ) (r q : Action) → Contains (history of_code until agent) r → Contains (history of_stmts until agent) q → IsLike r q → r.view.pasts ≡ q.view.pasts
    seen_same agent r q there here h =
        pasts_are of_code until agent r there
        ∙ pasts_same unit code nexts stalls inputs like r.start
        ∙ ap (pasts_at of_stmts) h.start
        ∙ sym (pasts_are of_stmts until agent q here)

    looks_same : (agent : ℕ) → looks_told of_code order sizes until agent ≡ looks_told of_stmts order sizes until agent
    looks_same agent =
        let turns = turns_by of_stmts order cycles agent in
        let few = λ (r : Action) (there : Contains (history of_code until agent) r). subst (λ done. units r.agent r.number done ≤ work r) (schedule order cycles (processor_at unit agent))
        (subst (λ a. units r.agent r.number (turns_by of_code order cycles a) ≤ work r) (agent_of of_code until agent r there) (given order until cycles agent r there)) in
        ap (λ done. flat_map (looks_of of_code sizes done) (started of_code until agent)) (schedule order cycles (processor_at unit agent))
        ∙ flat_map_back (looks_of of_code sizes turns) (looks_of of_stmts sizes turns) (history of_code until agent) (history of_stmts until agent)
        (map_like (looks_of of_code sizes turns) (looks_of of_stmts sizes turns) (history of_code until agent) (history of_stmts until agent)
        (λ r q there here h. looks_of_same sizes turns r q h (seen_same agent r q there here h) (few r there)) (like until agent))

    trace_same : trace_of of_code order sizes until ≡ trace_of of_stmts order sizes until
    trace_same =
        let agents = range_with_len 0 (length unit.agents) in
        let variables = range_with_len 0 (length unit.variables) in
        ap₂ (λ (xs ys : List Said). xs ++ ys) (flat_map_same (acts_told of_code order until) (acts_told of_stmts order until) acts_same agents)
        (ap₂ (λ (xs ys : List Said). xs ++ ys) (flat_map_same (publications_told of_code sizes until) (publications_told of_stmts sizes until) publications_same variables)
        (ap₂ (λ (xs ys : List Said). xs ++ ys) (flat_map_same (stretches_told of_code order until) (stretches_told of_stmts order until) stretches_same (range_with_len 0 (processors unit)))
        (ap (λ (xs : List Said). xs ++ Ended ∷ []) (flat_map_same (looks_told of_code order sizes until) (looks_told of_stmts order sizes until) looks_same agents))))

    pub text_same : trace_text of_code order sizes until ≡ trace_text of_stmts order sizes until
    text_same = ap (flat_map (line_told unit until)) trace_same
