-- What the tables of a trace tell of its processors: the action that comes first.
use Rattle.std.proofs.Common.{◌≡◌, ◌∙◌, refl, sym, ap, subst, ℕ, ◌*◌, ◌<◌, ◌==◌, Bool, true, false, cond, ◌&&◌, ◌||◌, List, [], ◌∷◌, map, length, get_or, filter, Some, None, inl, inr, nat_le, arith}
use Rattle.std.specs.List.{All, Contains, flat_map, range_with_len, slice_get}
use Rattle.std.proofs.lemmas.Bool.{cases_Bool, eqb-true}
use Rattle.std.proofs.lemmas.List.Elements.{All-contains, All-from_get_or, All-head, All-tail}
use Rattle.std.proofs.lemmas.List.FromFn.{get_or-map-range_with_len, get_or-range_with_len, length-range_with_len}
use Rattle.std.proofs.lemmas.Option.{get_or_from_slice_get}
use Rattle.psy_history.specs.Processors.{served}
use Rattle.psy_history.specs.Scripts.{IsOrder, in_force}
use Rattle.psy_history.specs.declared.told.Order.{Order}
use Rattle.psy_tree.specs.declared.unit.Unit.{Unit as Whole}
use Rattle.psy_audit.specs.declared.rows.AgentRow.{AgentRow}
use Rattle.psy_audit.specs.declared.said.Act.{Act}
use Rattle.psy_audit.specs.declared.said.Publication.{Publication}
use Rattle.psy_audit.specs.declared.said.Segment.{Segment}
use Rattle.psy_audit.specs.declared.table.Table.{Table}
use Rattle.psy_audit.specs.declared.waits.Wait.{Wait}
use Rattle.psy_audit.specs.Courses.{is_unfinished}
use Rattle.psy_audit.specs.Rows.{first_in, no_row, row_in, waits_at}
use Rattle.psy_audit.specs.Tables.{IsTable, judge}
use Rattle.psy_audit.specs.Traces.{Judged, Lines, acts, acts_of, publications_of, segments, segments_of}
use Rattle.psy_audit.specs.Turns.{first_at, is_pending_at, soonest_of}
use Rattle.psy_audit.specs.Waits.{is_waiting, pending_in, wait_in, waits_in}
use Rattle.psy_audit.proofs.Places.{get_or_none}
use Rattle.psy_audit.proofs.Sooner.{agents_same, past_is}

-- ---- rows

-- Those of one sort among those of another
pub filter_twice : {X : Type 0} (p q : X → Bool) (xs : List X) → filter q (filter p xs) ≡ filter (λ x. p x && q x) xs
filter_twice p q [] = refl
filter_twice p q (x ∷ xs) = elim (cases_Bool (p x)) [
  | inl passed ↦
      ap (λ b. filter q (cond b (x ∷ filter p xs) (filter p xs))) passed ∙ ap (λ ys. cond (q x) (x ∷ ys) ys) (filter_twice p q xs)
      ∙ sym (ap (λ b. cond (b && q x) (x ∷ filter (λ y. p y && q y) xs) (filter (λ y. p y && q y) xs)) passed)
  | inr failed ↦
      ap (λ b. filter q (cond b (x ∷ filter p xs) (filter p xs))) failed ∙ filter_twice p q xs
      ∙ sym (ap (λ b. cond (b && q x) (x ∷ filter (λ y. p y && q y) xs) (filter (λ y. p y && q y) xs)) failed)
]

-- What is the same for those of one sort
map_kept : {X Y : Type 0} (h k : X → Y) (p : X → Bool) (xs : List X) → ((x : X) → p x ≡ true → h x ≡ k x) → map h (filter p xs) ≡ map k (filter p xs)
map_kept h k p [] same = refl
map_kept h k p (x ∷ xs) same = elim (cases_Bool (p x)) [
  | inl passed ↦
      ap (λ b. map h (cond b (x ∷ filter p xs) (filter p xs))) passed ∙ ap (λ y. y ∷ map h (filter p xs)) (same x passed) ∙ ap (λ ys. k x ∷ ys) (map_kept h k p xs same)
      ∙ sym (ap (λ b. map k (cond b (x ∷ filter p xs) (filter p xs))) passed)
  | inr failed ↦
      ap (λ b. map h (cond b (x ∷ filter p xs) (filter p xs))) failed ∙ map_kept h k p xs same
      ∙ sym (ap (λ b. map k (cond b (x ∷ filter p xs) (filter p xs))) failed)
]

-- The stretches of an action, among those of its agent
pub own_segments : (all : Lines) (agent number : ℕ)
    → filter (λ (s : Segment). s.number == number) (filter (λ (s : Segment). s.agent == agent) (segments all)) ≡ segments_of agent number all
own_segments all agent number = filter_twice (λ (s : Segment). s.agent == agent) (λ (s : Segment). s.number == number) (segments all)

-- The actions of an agent wait by their own stretches.
pub waits_are : (j : Judged) (all : Lines) (agent : ℕ)
    → map (λ (a : Act). wait_in j (filter (λ (s : Segment). s.number == a.number) (filter (λ (s : Segment). s.agent == agent) (segments all))) a) (acts_of agent all)
    ≡ waits_in j all agent
waits_are j all agent =
    map_kept (λ (a : Act). wait_in j (filter (λ (s : Segment). s.number == a.number) (filter (λ (s : Segment). s.agent == agent) (segments all))) a)
    (λ (a : Act). wait_in j (segments_of a.agent a.number all) a) (λ (a : Act). a.agent == agent) (acts all)
    (λ a is. ap (λ its. wait_in j its a) (own_segments all agent a.number ∙ ap (λ n. segments_of n a.number all) (sym (eqb-true a.agent agent is))))

-- ---- what is pending

module _ (j : Judged) (all : Lines) where
  waits_when : (cycle : ℕ) (a : Act) → is_waiting cycle (wait_in j (segments_of a.agent a.number all) a) ≡ is_pending_at j all cycle a
  waits_when cycle a = ap (λ b. nat_le (a.start * j.unit.quantum) cycle && (is_unfinished a.ending || b)) (sym (past_is cycle (segments_of a.agent a.number all)))

  pending_of : (cycle : ℕ) (its : List Act) → pending_in cycle (map (λ (a : Act). wait_in j (segments_of a.agent a.number all) a) its) ≡ filter (is_pending_at j all cycle) its
  pending_of cycle [] = refl
  pending_of cycle (a ∷ its) =
      let rest = pending_in cycle (map (λ (b : Act). wait_in j (segments_of b.agent b.number all) b) its) in
      one (is_waiting cycle (wait_in j (segments_of a.agent a.number all) a)) ∙ ap (λ b. cond b (a ∷ rest) rest) (waits_when cycle a)
      ∙ ap (λ xs. cond (is_pending_at j all cycle a) (a ∷ xs) xs) (pending_of cycle its)
    where
      one : (b : Bool) → map (λ (w : Wait). w.act) (cond b (wait_in j (segments_of a.agent a.number all) a ∷ filter (is_waiting cycle) (map (λ (b : Act). wait_in j (segments_of b.agent b.number all) b) its)) (filter (is_waiting cycle) (map (λ (b : Act). wait_in j (segments_of b.agent b.number all) b) its)))
          ≡ cond b (a ∷ pending_in cycle (map (λ (b : Act). wait_in j (segments_of b.agent b.number all) b) its)) (pending_in cycle (map (λ (b : Act). wait_in j (segments_of b.agent b.number all) b) its))
      one true = refl
      one false = refl

  module _ (rows : List AgentRow) (n : ℕ) (are : rows ≡ map (row_in j all) (range_with_len 0 n)) where
    pub row_at : (agent : ℕ) → agent < n → get_or rows agent no_row ≡ row_in j all agent
    row_at agent less = ap (λ xs. get_or xs agent no_row) are ∙ get_or-map-range_with_len (row_in j all) 0 n agent agent no_row less (omega arith)

    pub pending_row : (cycle agent : ℕ) → agent < n → pending_in cycle (waits_at rows agent) ≡ filter (is_pending_at j all cycle) (acts_of agent all)
    pending_row cycle agent less = ap (λ (r : AgentRow). pending_in cycle r.waits) (row_at agent less) ∙ pending_of cycle (acts_of agent all)

    -- The first by the tables is the first of the trace.
    pub first_is : (processor cycle : ℕ) (order : List ℕ) → order ≡ j.order cycle → ((agent : ℕ) → Contains order agent → agent < n)
        → first_in j.unit rows processor cycle order ≡ first_at j all processor cycle
    first_is processor cycle order is few =
        ap soonest_of (agents_same j.unit processor (λ agent. pending_in cycle (waits_at rows agent)) (λ agent. filter (is_pending_at j all cycle) (acts_of agent all)) order
        (λ agent c home. pending_row cycle agent (few agent c)))
        ∙ ap (λ xs. soonest_of (flat_map (λ agent. filter (is_pending_at j all cycle) (acts_of agent all)) (served j.unit processor xs))) is

-- ---- orders

-- An order in force lists agents that there are.
pub order_few : (unit : Whole) (orders : List Order) → All (IsOrder unit) orders → (order : List ℕ) → All (λ agent. agent < length unit.agents) order → (cycle : ℕ)
    → All (λ agent. agent < length unit.agents) (in_force order orders cycle)
order_few unit [] are order few cycle = few
order_few unit (o ∷ orders) are order few cycle =
    let Few = λ (xs : List ℕ). All (λ agent. agent < length unit.agents) xs in
    let this : IsOrder unit o = All-head (IsOrder unit) o orders are in
    elim (cases_Bool (nat_le o.cycle cycle)) [
      | inl come ↦ subst (λ b. Few (cond b (in_force o.agents orders cycle) order)) (sym come)
          (order_few unit orders (All-tail (IsOrder unit) o orders are) o.agents this.agents.within cycle)
      | inr ahead ↦ subst (λ b. Few (cond b (in_force o.agents orders cycle) order)) (sym ahead) few
    ]

pub declared_few : (n : ℕ) → All (λ agent. agent < n) (range_with_len 0 n)
declared_few n = All-from_get_or (λ agent. agent < n) (range_with_len 0 n) 0
    (λ i l. (let less : i < n = omega (arith, l, length-range_with_len 0 n) in omega (arith, less, get_or-range_with_len 0 n i 0 less)))

-- ---- by a table

module _ (t : Table) (is : IsTable t) where
  pub its_few : (cycle : ℕ) → All (λ agent. agent < length t.plan.now.unit.agents) (in_force (range_with_len 0 (length t.plan.now.unit.agents)) t.script.now.orders cycle)
  its_few cycle = order_few t.plan.now.unit t.script.now.orders is.script.orders (range_with_len 0 (length t.plan.now.unit.agents)) (declared_few (length t.plan.now.unit.agents)) cycle

  pub first_of_table : (processor cycle : ℕ)
      → first_in t.plan.now.unit t.rows.now processor cycle (in_force (range_with_len 0 (length t.plan.now.unit.agents)) t.script.now.orders cycle)
      ≡ first_at (judge t) t.lines.now processor cycle
  first_of_table processor cycle =
      first_is (judge t) t.lines.now t.rows.now (length t.plan.now.unit.agents) is.rows processor cycle
      (in_force (range_with_len 0 (length t.plan.now.unit.agents)) t.script.now.orders cycle) refl
      (λ agent c. All-contains (λ a. a < length t.plan.now.unit.agents) (in_force (range_with_len 0 (length t.plan.now.unit.agents)) t.script.now.orders cycle) agent (its_few cycle) c)

  pub row_of_table : (agent : ℕ) → agent < length t.plan.now.unit.agents → get_or t.rows.now agent no_row ≡ row_in (judge t) t.lines.now agent
  row_of_table agent less = row_at (judge t) t.lines.now t.rows.now (length t.plan.now.unit.agents) is.rows agent less

  -- what stands in a row that was found, and in one that wasn't
  pub row_found : (agent : ℕ) (row : AgentRow) → agent < length t.plan.now.unit.agents → Some row ≡ slice_get t.rows.now agent → row ≡ row_in (judge t) t.lines.now agent
  row_found agent row less there = sym (get_or_from_slice_get t.rows.now agent row no_row (sym there)) ∙ row_of_table agent less

  pub row_missed : (agent : ℕ) → agent < length t.plan.now.unit.agents → None ≡ slice_get t.rows.now agent → no_row ≡ row_in (judge t) t.lines.now agent
  row_missed agent less none = get_or_none t.rows.now agent no_row none ∙ row_of_table agent less

  publications_at : (variable : ℕ) → variable < length t.plan.now.unit.variables → get_or t.publications.now variable [] ≡ publications_of variable t.lines.now
  publications_at variable less =
      ap (λ xs. get_or xs variable []) is.publications
      ∙ get_or-map-range_with_len (λ v. publications_of v t.lines.now) 0 (length t.plan.now.unit.variables) variable variable [] less (omega arith)

  pub publications_found : (variable : ℕ) (xs : List Publication) → variable < length t.plan.now.unit.variables → Some xs ≡ slice_get t.publications.now variable
      → xs ≡ publications_of variable t.lines.now
  publications_found variable xs less there = sym (get_or_from_slice_get t.publications.now variable xs [] (sym there)) ∙ publications_at variable less

  pub publications_missed : (variable : ℕ) → variable < length t.plan.now.unit.variables → None ≡ slice_get t.publications.now variable
      → [] ≡ publications_of variable t.lines.now
  publications_missed variable less none = get_or_none t.publications.now variable [] none ∙ publications_at variable less
