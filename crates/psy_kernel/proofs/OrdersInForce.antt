-- Which order of ties is in force at a cycle, and at a later one.
use Rattle.std.proofs.Common.{◌≡◌, refl, sym, ap, ◌∙◌, inl, inr, arith}
use Rattle.std.specs.Prelude.{ℕ, zero, suc, ◌+◌, ◌-◌, ◌<◌, ◌≤◌, ◌==◌, nat_le, List, [], ◌∷◌, length, get_or, Some, slice_get}
use Rattle.std.specs.List.{All, AllPairs, range_with_len}
use Rattle.std.proofs.lemmas.Bool.{cases_eq, cond-true, cond-false, cond_both, le-leb, lt-leb, ne_eqb}
use Rattle.std.proofs.lemmas.List.{get_or_default}
use Rattle.std.proofs.lemmas.List.Elements.{All-head, All-tail}
use Rattle.std.proofs.lemmas.List.FromFn.{get_or-range_with_len, length-range_with_len}
use Rattle.std.proofs.lemmas.Option.{get_or_from_slice_get, slice_get_within, slice_get-get_or}
use Rattle.psy_ready.specs.Choice.{ListsEach}
use Rattle.psy_tree.specs.declared.unit.Unit.{Unit as Whole}
use Rattle.psy_kernel.specs.Cycles.{order_by}
use Rattle.psy_history.specs.declared.told.Order.{Order}
use Rattle.psy_history.specs.declared.told.Script.{Script}
use Rattle.psy_history.specs.Scripts.{IsOrder, IsScript, in_force, order_of}
use Rattle.psy_kernel.specs.Standing.{AreInForce}

-- ---- each order lists all agents

at_range : (n k d : ℕ) → k < length (range_with_len 0 n) → get_or (range_with_len 0 n) k d ≡ k
at_range n k d less = let e = get_or-range_with_len 0 n k d (omega (arith, less, length-range_with_len 0 n)) in omega (arith, e)

pub lists_declared : (n : ℕ) → ListsEach n (range_with_len 0 n)
lists_declared n = record {
  within = λ k d less. omega (arith, less, at_range n k d less, length-range_with_len 0 n);
  once = λ i j d less within e. absurd (omega (arith, less, within, e, at_range n j d within, at_range n i d (omega (arith, less, within))));
  each = λ agent less. let within : agent < length (range_with_len 0 n) = omega (arith, less, length-range_with_len 0 n) in (agent, within, at_range n agent agent within);
}

lists_in_force : (unit : Whole) (order : List ℕ) (orders : List Order) (cycle : ℕ) → ListsEach (length unit.agents) order → All (IsOrder unit) orders → ListsEach (length unit.agents) (in_force order orders cycle)
lists_in_force unit order [] cycle h all = h
lists_in_force unit order (o ∷ orders) cycle h all =
    cond_both (nat_le o.cycle cycle) (in_force o.agents orders cycle) order (ListsEach (length unit.agents))
    (λ _. lists_in_force unit o.agents orders cycle (IsOrder.agents (All-head (IsOrder unit) o orders all)) (All-tail (IsOrder unit) o orders all)) (λ _. h)

pub lists_order : (unit : Whole) (script : Script) (cycle : ℕ) → IsScript unit script → ListsEach (length unit.agents) (order_of unit script cycle)
lists_order unit script cycle h = lists_in_force unit (range_with_len 0 (length unit.agents)) script.orders cycle (lists_declared (length unit.agents)) h.orders

-- ---- the order that is in force

behind : (o : Order) (orders : List Order) (passed cycle : ℕ) → AreInForce (o ∷ orders) (suc passed) cycle → AreInForce orders passed cycle
behind o orders passed cycle h = record {
  within = omega (arith, h.within);
  come = λ place p at less. h.come (suc place) p at (omega (arith, less));
  ahead = λ place p at more. h.ahead (suc place) p at (omega (arith, more));
}

-- The order of the last of some that have come into force
order_last : (declared : List ℕ) (orders : List Order) (passed : ℕ) → order_by declared orders (suc passed) ≡ (get_or orders passed (record { cycle = 0; agents = declared })).agents
order_last declared orders passed =
    cond-false (suc passed == 0) declared (get_or orders (suc passed - 1) (record { cycle = 0; agents = declared })).agents (ne_eqb (suc passed) 0 (λ e. absurd (omega (arith, e))))
    ∙ ap (λ place. (get_or orders place (record { cycle = 0; agents = declared })).agents) (let e : suc passed - 1 ≡ passed = omega arith in e)

order_suc : (declared : List ℕ) (o : Order) (orders : List Order) (passed : ℕ) → passed ≤ length orders → order_by o.agents orders passed ≡ order_by declared (o ∷ orders) (suc passed)
order_suc declared o orders zero within = sym (order_last declared (o ∷ orders) zero)
order_suc declared o orders (suc passed) within =
    order_last o.agents orders passed
    ∙ ap (λ (p : Order). p.agents) (get_or_default orders passed (record { cycle = 0; agents = o.agents }) (record { cycle = 0; agents = declared }) (omega (arith, within)))
    ∙ sym (order_last declared (o ∷ orders) (suc passed))

pub in_force_is : (declared : List ℕ) (orders : List Order) (passed cycle : ℕ) → AreInForce orders passed cycle → in_force declared orders cycle ≡ order_by declared orders passed
in_force_is declared [] zero cycle h = refl
in_force_is declared [] (suc passed) cycle h = absurd (omega (arith, h.within))
in_force_is declared (o ∷ orders) zero cycle h =
    cond-false (nat_le o.cycle cycle) (in_force o.agents orders cycle) declared (lt-leb o.cycle cycle (h.ahead zero o refl (omega arith)))
in_force_is declared (o ∷ orders) (suc passed) cycle h =
    cond-true (nat_le o.cycle cycle) (in_force o.agents orders cycle) declared (le-leb o.cycle cycle (h.come zero o refl (omega arith)))
    ∙ in_force_is o.agents orders passed cycle (behind o orders passed cycle h)
    ∙ order_suc declared o orders passed (omega (arith, h.within))

-- ---- a later cycle

-- Where the next order comes later than a cycle, so do all that haven't come into force.
pub rest_later : (orders : List Order) → AllPairs (λ (o : Order) (p : Order). o.cycle < p.cycle) orders → (passed cycle : ℕ)
    → ((o : Order) → slice_get orders passed ≡ Some o → cycle < o.cycle)
    → (place : ℕ) (o : Order) → slice_get orders place ≡ Some o → passed ≤ place → cycle < o.cycle
rest_later orders rise passed cycle ahead place o at more = elim (cases_eq place passed) [
  | inl same ↦ ahead o (ap (slice_get orders) (sym same) ∙ at)
  | inr other ↦
      (let low : passed < place = grind (arith, other, more) in
      let within : passed < length orders = omega (arith, slice_get_within orders place o at, low) in
      let first = slice_get-get_or orders passed o within in
      let rises = rise passed place o low (slice_get_within orders place o at) in
      let last = ap (λ (q : Order). q.cycle) (get_or_from_slice_get orders place o o at) in
      omega (arith, rises, last, ahead (get_or orders passed o) first))
]

module _ (orders : List Order) (rise : AllPairs (λ (o : Order) (p : Order). o.cycle < p.cycle) orders) (passed cycle : ℕ) (h : AreInForce orders passed cycle) where
  -- an order behind another comes later
  later : (place more : ℕ) (o p : Order) → slice_get orders place ≡ Some o → slice_get orders more ≡ Some p → place < more → o.cycle < p.cycle
  later place more o p at at' less =
      let rises = rise place more o less (slice_get_within orders more p at') in
      let a = ap (λ (q : Order). q.cycle) (get_or_from_slice_get orders place o o at) in
      let b = ap (λ (q : Order). q.cycle) (get_or_from_slice_get orders more p o at') in
      omega (arith, rises, a, b)

  -- what holds of the next order's cycle from below holds of all that haven't come into force
  pub all_ahead : (next : ℕ) → ((o : Order) → slice_get orders passed ≡ Some o → next ≤ o.cycle) → (place : ℕ) (o : Order) → slice_get orders place ≡ Some o → passed ≤ place → next ≤ o.cycle
  all_ahead next ahead place o at more = elim (cases_eq place passed) [
    | inl same ↦ ahead o (ap (slice_get orders) (sym same) ∙ at)
    | inr other ↦ (let low : passed < place = grind (arith, other, more) in behind place o at low)
  ]
    where
      behind : (place : ℕ) (o : Order) → slice_get orders place ≡ Some o → passed < place → next ≤ o.cycle
      behind place o at low =
          let within : passed < length orders = omega (arith, slice_get_within orders place o at, low) in
          let first = slice_get-get_or orders passed o within in
          omega (arith, later passed place (get_or orders passed o) o first at low, ahead (get_or orders passed o) first)

  -- up to the next order's cycle nothing changes
  pub no_more : (next : ℕ) → cycle ≤ next → ((o : Order) → slice_get orders passed ≡ Some o → next < o.cycle) → AreInForce orders passed next
  no_more next more ahead = record {
    within = h.within;
    come = λ place p here less. omega (arith, h.come place p here less, more);
    ahead = λ place p here less. omega (arith, all_ahead (next + 1) (λ o at. omega (arith, ahead o at)) place p here less);
  }

  -- one comes into force at its cycle
  pub one_more : (next : ℕ) → cycle < next → (o : Order) → slice_get orders passed ≡ Some o → o.cycle ≡ next → AreInForce orders (passed + 1) next
  one_more next more o at e = record {
    within = omega (arith, slice_get_within orders passed o at);
    come = λ place p here less. elim (cases_eq place passed) [
      | inl same ↦ let is : Some p ≡ Some o = sym here ∙ ap (slice_get orders) same ∙ at in let same_order : p ≡ o = cc in omega (arith, ap (λ (q : Order). q.cycle) same_order, e)
      | inr other ↦ omega (arith, h.come place p here (let low : place < passed = grind (arith, other) in low), more)
    ];
    ahead = λ place p here less. omega (arith, later passed place o p at here (omega (arith, less)), e);
  }
