-- Entries put into a map in its keys' order, against items put before the first that they come before.
use Rattle.std.proofs.Common.{◌≡◌, ◌⊎◌, inl, inr, ◌∙◌, refl, sym, ap, subst, subst₂, ℕ, ◌<◌, length, get_or, Bool, true, false, cond, ◌&&◌, ◌||◌, List, [], ◌∷◌, map, Option, Some, is_some, true≢false, eqb, ltb, ltb-true, eqb-true, arith, Ordering, Less, Equal, Greater, nat_cmp, is_eq, is_lt}
use Rattle.std.specs.List.{AllPairs, list_any}
use Rattle.std.specs.List.Sorted.{IsStrictlySortedBy}
use Rattle.std.proofs.lemmas.Bool.{or_parts}
use Rattle.std.proofs.lemmas.List.{length-map}
use Rattle.std.proofs.lemmas.Map.Keys.{Less-from_sorted}
use Rattle.std.proofs.Math.ListN.{get_or-map}
use Rattle.std.specs.Ordering.{ordering_then, match_ordering}
use Rattle.std.specs.BTreeMap.{insert_entry, is_at}
use Rattle.std.specs.Map.{keys_of, lookup}
use Rattle.psy_budget.specs.declared.charge.Stall.{Stall}
use Rattle.psy_history.specs.declared.told.Order.{Order}
use Rattle.psy_history.specs.declared.told.Round.{Round}
use Rattle.psy_history.specs.declared.told.Script.{Script}
use Rattle.psy_history.specs.Scripts.{StallBefore}
use Rattle.psy_script.specs.declared.entry.Entry.TheVariants as entry
use Rattle.psy_script.specs.declared.placed.Place.{Place}
use Rattle.psy_script.specs.contracts.placed.PlaceOrd.TheImpl.{cmp-value as place}
use Rattle.psy_script.specs.Entries.{clashes, is_beside, order_from, round_from, stall_at, with_entry}
use Rattle.psy_script.specs.Rising.{put}
use Rattle.psy_script.specs.Script.{has_same, less_or, order_before, round_before, stall_before}

-- What an answer of a comparison says of two tests: the one item comes before the other; they meet.
abbrev pub Tells : Ordering → Bool → Bool → Type 0
Tells Less before meets = (before ≡ true) × (meets ≡ false)
Tells Equal before meets = (before ≡ false) × (meets ≡ true)
Tells Greater before meets = (before ≡ false) × (meets ≡ false)

-- A number that is less isn't the same.
numbers_tell : (l e : Bool) → (l ≡ true → e ≡ true → ⊥) → Tells (cond l Less (cond e Equal Greater)) l e
numbers_tell true true apart = absurd (apart refl refl)
numbers_tell true false apart = (refl, refl)
numbers_tell false true apart = (refl, refl)
numbers_tell false false apart = (refl, refl)

-- Of numbers
cmp_tells : (a b : ℕ) → Tells (nat_cmp a b) (ltb a b) (eqb a b)
cmp_tells a b = numbers_tell (ltb a b) (eqb a b) (λ less same. absurd (omega (arith, ltb-true a b less, eqb-true a b same)))

-- Of one part, and where it is equal of the rest
parts_tell : (o p : Ordering) (before meets b m : Bool) → Tells o before meets → Tells p b m → Tells (ordering_then o p) (before || meets && b) (meets && m)
parts_tell Less p before meets b m (sooner, apart) q = (rw sooner refl, rw apart refl)
parts_tell Equal p before meets b m (later, same) q = rw (later, same) q
parts_tell Greater p before meets b m (later, apart) q = (rw (later, apart) refl, rw apart refl)

module _ {K X Y : Type 0} (cmp : K → K → Ordering) (before : Y → Y → Bool) (shape : K × X → Y) (meets : Y → Bool) (k : K) (v : X) (tells : (e : K × X) → Tells (cmp k e.0) (before (shape (k, v)) (shape e)) (meets (shape e))) where
  -- Where the key goes beside one entry
  put_at : (e : K × X) (es : List (K × X)) (o : Ordering) (b m : Bool) → Tells o b m → m ≡ false → map shape (insert_entry cmp es k v) ≡ put before (shape (k, v)) (map shape es)
      → map shape (match_ordering o ((k, v) ∷ e ∷ es) ((e.0, v) ∷ es) (e ∷ insert_entry cmp es k v)) ≡ cond b (shape (k, v) ∷ shape e ∷ map shape es) (shape e ∷ put before (shape (k, v)) (map shape es))
  put_at e es Less b m (sooner, apart) none rest = rw sooner refl
  put_at e es Equal b m (later, same) none rest = absurd (true≢false (sym same ∙ none))
  put_at e es Greater b m (later, apart) none rest = rw later (ap (λ ys. shape e ∷ ys) rest)

  -- An entry that meets none goes before the first that it comes before.
  pub put_entry : (es : List (K × X)) → list_any meets (map shape es) ≡ false → map shape (insert_entry cmp es k v) ≡ put before (shape (k, v)) (map shape es)
  put_entry [] none = refl
  put_entry (e ∷ es) none =
      put_at e es (cmp k e.0) (before (shape (k, v)) (shape e)) (meets (shape e)) (tells e) (or_parts (meets (shape e)) (list_any meets (map shape es)) none).0
      (put_entry es (or_parts (meets (shape e)) (list_any meets (map shape es)) none).1)

  -- Whether the key is found at one entry
  found_at : (o : Ordering) (b m : Bool) (x : X) (rest : Option X) (others : Bool) → Tells o b m → is_some rest ≡ others → is_some (cond (is_eq o) (Some x) rest) ≡ (m || others)
  found_at Less b m x rest others (sooner, apart) same = rw apart same
  found_at Equal b m x rest others (later, meet) same = rw meet refl
  found_at Greater b m x rest others (later, apart) same = rw apart same

  -- A key is found where an entry meets.
  pub found_entry : (es : List (K × X)) → is_some (lookup (is_at (cmp k)) es) ≡ list_any meets (map shape es)
  found_entry [] = refl
  found_entry (e ∷ es) = found_at (cmp k e.0) (before (shape (k, v)) (shape e)) (meets (shape e)) e.1 (lookup (is_at (cmp k)) es) (list_any meets (map shape es)) (tells e) (found_entry es)

-- Entries whose keys rise do so too.
module _ {K X Y : Type 0} (cmp : K → K → Ordering) (shape : K × X → Y) (Below : Y → Y → Type 0) (parts : Y → K × X) (whole : (y : Y) → shape (parts y) ≡ y) (below : (e f : K × X) → cmp e.0 f.0 ≡ Less → Below (shape e) (shape f)) where
  pub entries_rise : (es : List (K × X)) → IsStrictlySortedBy cmp (keys_of es) → AllPairs Below (map shape es)
  entries_rise es rise i j d first within =
      let key = λ (e : K × X). e.0 in
      let e = get_or es i (parts d) in
      let f = get_or es j (parts d) in
      let near : j < length es = subst (λ n. j < n) (length-map es shape) within in
      let less = Less-from_sorted cmp (map key es) i j (parts d).0 rise first (subst (λ n. j < n) (sym (length-map es key)) near) in
      let keys : cmp e.0 f.0 ≡ Less = subst₂ (λ k l. cmp k l ≡ Less) (get_or-map key es i (parts d)) (get_or-map key es j (parts d)) less in
      subst (λ y. Below (get_or (map shape es) i y) (get_or (map shape es) j y)) (whole d) (subst₂ Below (sym (get_or-map shape es i (parts d))) (sym (get_or-map shape es j (parts d))) (below e f keys))

-- Stalls by their places
pub place_tells : (p q : Place) (v w : ℕ) → Tells (place.it p q) (stall_before (stall_at (p, v)) (stall_at (q, w))) (is_beside (stall_at (p, v)) (stall_at (q, w)))
place_tells p q v w =
    parts_tell (nat_cmp p.agent q.agent) (ordering_then (nat_cmp p.action q.action) (nat_cmp p.instr q.instr)) (ltb p.agent q.agent) (eqb p.agent q.agent) (ltb p.action q.action || eqb p.action q.action && ltb p.instr q.instr) (eqb p.action q.action && eqb p.instr q.instr) (cmp_tells p.agent q.agent)
    (parts_tell (nat_cmp p.action q.action) (nat_cmp p.instr q.instr) (ltb p.action q.action) (eqb p.action q.action) (ltb p.instr q.instr) (eqb p.instr q.instr) (cmp_tells p.action q.action) (cmp_tells p.instr q.instr))

-- A stall whose place is free is put before the first that it comes before.
pub put_stall : (p : Place) (cycles : ℕ) (es : List (Place × ℕ)) → list_any (is_beside (stall_at (p, cycles))) (map stall_at es) ≡ false → map stall_at (insert_entry place.it es p cycles) ≡ put stall_before (stall_at (p, cycles)) (map stall_at es)
put_stall p cycles = put_entry place.it stall_before stall_at (is_beside (stall_at (p, cycles))) p cycles (λ e. place_tells p e.0 cycles e.1)

-- A place is found where a stall stands there.
pub found_stall : (p : Place) (cycles : ℕ) (es : List (Place × ℕ)) → is_some (lookup (is_at (place.it p)) es) ≡ list_any (is_beside (stall_at (p, cycles))) (map stall_at es)
found_stall p cycles = found_entry place.it stall_before stall_at (is_beside (stall_at (p, cycles))) p cycles (λ e. place_tells p e.0 cycles e.1)

-- The script with one more stall
pub with_stall : (script : Script) (p : Place) (cycles : ℕ) (es new : List (Place × ℕ)) (orders : List Order) (rounds : List Round) → record { stalls = map stall_at es; orders = orders; rounds = rounds } ≡ script → clashes script (entry.Stall (stall_at (p, cycles))) ≡ false
    → new ≡ insert_entry place.it es p cycles → record { stalls = map stall_at new; orders = orders; rounds = rounds } ≡ with_entry script (entry.Stall (stall_at (p, cycles)))
with_stall script p cycles es new orders rounds is none inserted =
    subst (λ (sc : Script). clashes sc (entry.Stall (stall_at (p, cycles))) ≡ false → record { stalls = map stall_at new; orders = orders; rounds = rounds } ≡ with_entry sc (entry.Stall (stall_at (p, cycles)))) is
    (λ none. ap (λ ss. record { stalls = ss; orders = orders; rounds = rounds }) (ap (map stall_at) inserted ∙ put_stall p cycles es none)) none

-- Its place is taken where it is found.
pub clash_stall : (script : Script) (p : Place) (cycles : ℕ) (es : List (Place × ℕ)) (orders : List Order) (rounds : List Round) → record { stalls = map stall_at es; orders = orders; rounds = rounds } ≡ script
    → is_some (lookup (is_at (place.it p)) es) ≡ clashes script (entry.Stall (stall_at (p, cycles)))
clash_stall script p cycles es orders rounds is = found_stall p cycles es ∙ ap (λ (sc : Script). clashes sc (entry.Stall (stall_at (p, cycles)))) is

-- Which part of an order decides
less_first : (a b : ℕ) (less same rest : Bool) → ltb a b ≡ less → eqb a b ≡ same → (less || same && rest) ≡ true → (a < b) ⊎ ((a ≡ b) × (rest ≡ true))
less_first a b true same rest l s e = inl (ltb-true a b l)
less_first a b false true rest l s e = inr (eqb-true a b s, e)
less_first a b false false rest l s e = absurd (true≢false (sym e))

-- The test of which stall comes first tells what stands before what.
pub from_before : (s t : Stall) → stall_before s t ≡ true → StallBefore s t
from_before s t e = elim (less_first s.agent t.agent (ltb s.agent t.agent) (eqb s.agent t.agent) (less_or s.action t.action (ltb s.instr t.instr)) refl refl e) [
  | inl below ↦ inl below
  | inr same ↦ inr (
    same.0,
    elim (less_first s.action t.action (ltb s.action t.action) (eqb s.action t.action) (ltb s.instr t.instr) refl refl same.1) [
      | inl below ↦ inl below
      | inr equal ↦ inr (equal.0, ltb-true s.instr t.instr equal.1)
    ],
  )
]

-- What is less comes before.
before_where : (o : Ordering) (b m : Bool) → Tells o b m → o ≡ Less → b ≡ true
before_where Less b m tells e = tells.0
before_where Equal b m tells e = absurd (true≢false (sym (ap is_lt e)))
before_where Greater b m tells e = absurd (true≢false (sym (ap is_lt e)))

-- Stalls whose places rise do so too.
pub stalls_rise : (es : List (Place × ℕ)) → IsStrictlySortedBy place.it (keys_of es) → AllPairs StallBefore (map stall_at es)
stalls_rise = entries_rise place.it stall_at StallBefore (λ s. (record { agent = s.agent; action = s.action; instr = s.instr }, s.cycles)) (λ s. refl)
    (λ e f below. from_before (stall_at e) (stall_at f) (before_where (place.it e.0 f.0) (stall_before (stall_at e) (stall_at f)) (is_beside (stall_at e) (stall_at f)) (place_tells e.0 f.0 e.1 f.1) below))

-- Orders by their cycles
pub put_order : (cycle : ℕ) (agents : List ℕ) (es : List (ℕ × List ℕ)) → list_any (λ (o : Order). eqb cycle o.cycle) (map order_from es) ≡ false → map order_from (insert_entry nat_cmp es cycle agents) ≡ put order_before (order_from (cycle, agents)) (map order_from es)
put_order cycle agents = put_entry nat_cmp order_before order_from (λ (o : Order). eqb cycle o.cycle) cycle agents (λ e. cmp_tells cycle e.0)

-- A cycle is found where an order begins there.
pub found_order : (cycle : ℕ) (agents : List ℕ) (es : List (ℕ × List ℕ)) → is_some (lookup (is_at (nat_cmp cycle)) es) ≡ list_any (λ (o : Order). eqb cycle o.cycle) (map order_from es)
found_order cycle agents = found_entry nat_cmp order_before order_from (λ (o : Order). eqb cycle o.cycle) cycle agents (λ e. cmp_tells cycle e.0)

-- The script with one more order
pub with_order : (script : Script) (cycle : ℕ) (agents : List ℕ) (es new : List (ℕ × List ℕ)) (stalls : List Stall) (rounds : List Round) → record { stalls = stalls; orders = map order_from es; rounds = rounds } ≡ script → clashes script (entry.Order (order_from (cycle, agents))) ≡ false
    → new ≡ insert_entry nat_cmp es cycle agents → record { stalls = stalls; orders = map order_from new; rounds = rounds } ≡ with_entry script (entry.Order (order_from (cycle, agents)))
with_order script cycle agents es new stalls rounds is none inserted =
    subst (λ (sc : Script). clashes sc (entry.Order (order_from (cycle, agents))) ≡ false → record { stalls = stalls; orders = map order_from new; rounds = rounds } ≡ with_entry sc (entry.Order (order_from (cycle, agents)))) is
    (λ none. ap (λ os. record { stalls = stalls; orders = os; rounds = rounds }) (ap (map order_from) inserted ∙ put_order cycle agents es (or_parts (list_any (λ (o : Order). eqb cycle o.cycle) (map order_from es)) (has_same agents) none).0)) none

-- It clashes where its cycle is found, or its agents repeat.
pub clash_order : (script : Script) (cycle : ℕ) (agents : List ℕ) (es : List (ℕ × List ℕ)) (stalls : List Stall) (rounds : List Round) (found : Bool) → record { stalls = stalls; orders = map order_from es; rounds = rounds } ≡ script → found ≡ is_some (lookup (is_at (nat_cmp cycle)) es)
    → (found || has_same agents) ≡ clashes script (entry.Order (order_from (cycle, agents)))
clash_order script cycle agents es stalls rounds found is e = ap (λ b. b || has_same agents) (e ∙ found_order cycle agents es) ∙ ap (λ (sc : Script). clashes sc (entry.Order (order_from (cycle, agents)))) is

-- A cycle that is less is below.
cycle_below : (a b : ℕ) → nat_cmp a b ≡ Less → a < b
cycle_below a b e = ltb-true a b (before_where (nat_cmp a b) (ltb a b) (eqb a b) (cmp_tells a b) e)

-- Orders whose cycles rise do so too.
pub orders_rise : (es : List (ℕ × List ℕ)) → IsStrictlySortedBy nat_cmp (keys_of es) → AllPairs (λ (o p : Order). o.cycle < p.cycle) (map order_from es)
orders_rise = entries_rise nat_cmp order_from (λ (o p : Order). o.cycle < p.cycle) (λ o. (o.cycle, o.agents)) (λ o. refl) (λ e f below. cycle_below e.0 f.0 below)

-- Rounds by their cycles
pub put_round : (cycle : ℕ) (numbers : List ℕ) (es : List (ℕ × List ℕ)) → list_any (λ (r : Round). eqb cycle r.cycle) (map round_from es) ≡ false → map round_from (insert_entry nat_cmp es cycle numbers) ≡ put round_before (round_from (cycle, numbers)) (map round_from es)
put_round cycle numbers = put_entry nat_cmp round_before round_from (λ (r : Round). eqb cycle r.cycle) cycle numbers (λ e. cmp_tells cycle e.0)

-- A cycle is found where a round begins there.
pub found_round : (cycle : ℕ) (numbers : List ℕ) (es : List (ℕ × List ℕ)) → is_some (lookup (is_at (nat_cmp cycle)) es) ≡ list_any (λ (r : Round). eqb cycle r.cycle) (map round_from es)
found_round cycle numbers = found_entry nat_cmp round_before round_from (λ (r : Round). eqb cycle r.cycle) cycle numbers (λ e. cmp_tells cycle e.0)

-- The script with one more round
pub with_round : (script : Script) (cycle : ℕ) (numbers : List ℕ) (es new : List (ℕ × List ℕ)) (stalls : List Stall) (orders : List Order) → record { stalls = stalls; orders = orders; rounds = map round_from es } ≡ script
    → clashes script (entry.Round cycle numbers) ≡ false → new ≡ insert_entry nat_cmp es cycle numbers → record { stalls = stalls; orders = orders; rounds = map round_from new } ≡ with_entry script (entry.Round cycle numbers)
with_round script cycle numbers es new stalls orders is none inserted =
    subst (λ (sc : Script). clashes sc (entry.Round cycle numbers) ≡ false → record { stalls = stalls; orders = orders; rounds = map round_from new } ≡ with_entry sc (entry.Round cycle numbers)) is
    (λ none. ap (λ rs. record { stalls = stalls; orders = orders; rounds = rs }) (ap (map round_from) inserted ∙ put_round cycle numbers es (or_parts (list_any (λ (r : Round). eqb cycle r.cycle) (map round_from es)) (has_same numbers) none).0)) none

-- It clashes where its cycle is found, or its numbers repeat.
pub clash_round : (script : Script) (cycle : ℕ) (numbers : List ℕ) (es : List (ℕ × List ℕ)) (stalls : List Stall) (orders : List Order) (found : Bool) → record { stalls = stalls; orders = orders; rounds = map round_from es } ≡ script
    → found ≡ is_some (lookup (is_at (nat_cmp cycle)) es) → (found || has_same numbers) ≡ clashes script (entry.Round cycle numbers)
clash_round script cycle numbers es stalls orders found is e = ap (λ b. b || has_same numbers) (e ∙ found_round cycle numbers es) ∙ ap (λ (sc : Script). clashes sc (entry.Round cycle numbers)) is

-- Rounds whose cycles rise do so too.
pub rounds_rise : (es : List (ℕ × List ℕ)) → IsStrictlySortedBy nat_cmp (keys_of es) → AllPairs (λ (r q : Round). r.cycle < q.cycle) (map round_from es)
rounds_rise = entries_rise nat_cmp round_from (λ (r q : Round). r.cycle < q.cycle) (λ r. (r.cycle, r.processors)) (λ r. refl) (λ e f below. cycle_below e.0 f.0 below)
