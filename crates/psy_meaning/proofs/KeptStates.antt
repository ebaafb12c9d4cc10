-- States of an action that keep a store's shape, hold numbers of their types, and did what an agent may do.
use Rattle.std.proofs.Common.{◌≡◌, ℕ, zero, suc, ◌≤◌, Bool, true, false, List, [], ◌∷◌, map, length, Option, Some, None, refl, ap, subst, ◌∙◌, arith}
use Rattle.std.specs.Prelude.{◌==◌, if◌then◌else◌, get_or, slice_get, slice_set, slice_index_or, ℤ, pos, FitsSigned}
use Rattle.std.specs.Int.{w32}
use Rattle.std.specs.List.{All}
use Rattle.std.specs.Option.{IfSome}
use Rattle.std.proofs.lemmas.List.{length-set}
use Rattle.std.proofs.lemmas.List.Elements.{All-nil, All-cons, All-head, All-tail, All-set, All-push, All-drop}
use Rattle.std.proofs.lemmas.Option.{none-some, same_Some, get_or_from_slice_get}
use Rattle.std.proofs.Math.Seq.{map-set_same}
use Rattle.psy_arith.specs.declared.width.Width.{Width}
use Rattle.psy_arith.specs.declared.width.Width.TheVariants.{W32}
use Rattle.psy_code.specs.declared.look.Sent.{Sent}
use Rattle.psy_code.specs.Execution.{Copy, copy_of, with_copy}
use Rattle.psy_code.specs.Views.{View, Deeds, Past, Ready, Take, Send, found_in, past_of, messages_of, first_of, without_first, next_in, taken_from, tick}
use Rattle.psy_tree.specs.declared.unit.Unit.{Unit as Whole}
use Rattle.psy_meaning.specs.Alike.{AllFit, FitSlots, MessagesFit}
use Rattle.psy_meaning.specs.Kept.{IsLookOf, Receives, IsSentOf, AreDeedsOf}
use Rattle.psy_meaning.specs.States.{Store, State, cells_at, value_at, with_slot, copy_at, with_copy_at, value_or_zero, cost_1, asking}
use Rattle.psy_meaning.specs.Statements.{in_store}
use Rattle.psy_meaning.proofs.KeptValues.{Fits, Has, zero_fits, zero_has}

-- ---- lists

all_or : {X : Type 0} (P : X → Type 0) (xs : List X) (i : ℕ) (d : X) → P d → All P xs → P (slice_index_or xs i d)
all_or P [] i d p h = p
all_or P (x ∷ xs) zero d p h = All-head P x xs h
all_or P (x ∷ xs) (suc i) d p h = all_or P xs i d p (All-tail P x xs h)

all_get : {X : Type 0} (P : X → Type 0) (xs : List X) (i : ℕ) → All P xs → IfSome (slice_get xs i) P
all_get P [] i h = tt
all_get P (x ∷ xs) zero h = All-head P x xs h
all_get P (x ∷ xs) (suc i) h = all_get P xs i (All-tail P x xs h)

-- ---- slots

-- A slot more in front
pub fit-cons : (width : Width) (cells : List ℤ) (widths : List Width) (slots : List (List ℤ)) → All (Has width) cells → FitSlots widths slots → FitSlots (width ∷ widths) (cells ∷ slots)
fit-cons width cells widths slots a h zero w cs e g = subst (λ (x : Width). All (Has x) cs) (same_Some width w e) (subst (All (Has width)) (same_Some cells cs g) a)
fit-cons width cells widths slots a h (suc k) w cs e g = h k w cs e g

-- The cells of a slot
cells_fit : (widths : List Width) (slots : List (List ℤ)) (slot : ℕ) (width : Width) → slice_get widths slot ≡ Some width → FitSlots widths slots → All (Has width) (slice_index_or slots slot [])
cells_fit widths [] slot width w h = All-nil (Has width)
cells_fit widths (c ∷ cs) zero width w h = h 0 width c w refl
cells_fit [] (c ∷ cs) (suc k) width w h = absurd (none-some width w)
cells_fit (x ∷ xs) (c ∷ cs) (suc k) width w h = cells_fit xs cs k width w (λ j. h (suc j))

-- Other cells in a slot
set_fits : (widths : List Width) (slots : List (List ℤ)) (slot : ℕ) (new : List ℤ) → ((width : Width) → slice_get widths slot ≡ Some width → All (Has width) new) → FitSlots widths slots → FitSlots widths (slice_set slots slot new)
set_fits widths [] slot new p h k width cells w e = h k width cells w e
set_fits widths (c ∷ cs) zero new p h zero width cells w e = subst (All (Has width)) (same_Some new cells e) (p width w)
set_fits widths (c ∷ cs) zero new p h (suc k) width cells w e = h (suc k) width cells w e
set_fits widths (c ∷ cs) (suc i) new p h zero width cells w e = h 0 width cells w e
set_fits [] (c ∷ cs) (suc i) new p h (suc k) width cells w e = absurd (none-some width w)
set_fits (x ∷ xs) (c ∷ cs) (suc i) new p h (suc k) width cells w e = set_fits xs cs i new p (λ j. h (suc j)) k width cells w e

value_in_fits : (widths : List Width) (slots : List (List ℤ)) (slot cell : ℕ) → length slots ≤ length widths → FitSlots widths slots → Has (get_or widths slot W32) (slice_index_or (slice_index_or slots slot []) cell (pos 0))
value_in_fits widths [] slot cell many h = zero_has (get_or widths slot W32)
value_in_fits [] (c ∷ cs) slot cell many h = absurd (omega (arith, many))
value_in_fits (x ∷ xs) (c ∷ cs) zero cell many h = all_or (Has x) c cell (pos 0) (zero_has x) (h 0 x c refl refl)
value_in_fits (x ∷ xs) (c ∷ cs) (suc k) cell many h = value_in_fits xs cs k cell (omega (arith, many)) (λ j. h (suc j))

-- ---- a store

-- What a state keeps: how many cells each slot has, the variables of the copies, and whether it is watched what was done
pub record Shape : Type 0 where
  pub layout : List ℕ
  pub names : List ℕ
  pub watched : Bool

-- A store with so many cells by slot and copies of these variables, with values of the slots' types and copies of 32 bits
pub record IsShaped (widths : List Width) (shape : Shape) (store : Store) : Type 0 where
  pub slots : map length store.slots ≡ shape.layout
  pub many : length store.slots ≤ length widths
  pub values : FitSlots widths store.slots
  pub variables : map (λ c. c.variable) store.copies ≡ shape.names
  pub copies : All (λ c. FitsSigned w32 c.value) store.copies

abbrev pub FitsCopy : Copy → Type 0
FitsCopy c = FitsSigned w32 c.value

pub value_fits : (widths : List Width) (shape : Shape) (store : Store) (slot cell : ℕ) → IsShaped widths shape store → Has (get_or widths slot W32) (value_at store slot cell)
value_fits widths shape store slot cell h = value_in_fits widths store.slots slot cell h.many h.values

copies_fit : (b : Bool) (c : Copy) (variable : ℕ) (rest : List Copy) → FitsCopy c → Fits (value_or_zero (copy_of variable rest)) → Fits (value_or_zero (if b then Some c.value else copy_of variable rest))
copies_fit true c variable rest f g = f
copies_fit false c variable rest f g = g

copy_in_fits : (variable : ℕ) (copies : List Copy) → All FitsCopy copies → Fits (value_or_zero (copy_of variable copies))
copy_in_fits variable [] h = zero_fits
copy_in_fits variable (c ∷ cs) h = copies_fit (c.variable == variable) c variable cs (All-head FitsCopy c cs h) (copy_in_fits variable cs (All-tail FitsCopy c cs h))

pub copy_fits : (store : Store) (variable : ℕ) → All FitsCopy store.copies → Fits (copy_at store variable)
copy_fits store variable h = copy_in_fits variable store.copies h

same_names : (b : Bool) (c : Copy) (v : ℤ) (rest changed : List Copy) → map (λ (c : Copy). c.variable) changed ≡ map (λ (c : Copy). c.variable) rest → map (λ (c : Copy). c.variable) (if b then record c { value = v } ∷ rest else c ∷ changed) ≡ c.variable ∷ map (λ (c : Copy). c.variable) rest
same_names true c v rest changed e = refl
same_names false c v rest changed e = ap (λ l. c.variable ∷ l) e

with_names : (variable : ℕ) (v : ℤ) (copies : List Copy) → map (λ (c : Copy). c.variable) (with_copy variable v copies) ≡ map (λ (c : Copy). c.variable) copies
with_names variable v [] = refl
with_names variable v (c ∷ cs) = same_names (c.variable == variable) c v cs (with_copy variable v cs) (with_names variable v cs)

changed_fit : (b : Bool) (c : Copy) (v : ℤ) (rest changed : List Copy) → Fits v → FitsCopy c → All FitsCopy rest → All FitsCopy changed → All FitsCopy (if b then record c { value = v } ∷ rest else c ∷ changed)
changed_fit true c v rest changed f g h k = All-cons FitsCopy (record c { value = v }) rest f h
changed_fit false c v rest changed f g h k = All-cons FitsCopy c changed g k

with_fit : (variable : ℕ) (v : ℤ) (copies : List Copy) → Fits v → All FitsCopy copies → All FitsCopy (with_copy variable v copies)
with_fit variable v [] f h = h
with_fit variable v (c ∷ cs) f h =
    let tail = All-tail FitsCopy c cs h in
    changed_fit (c.variable == variable) c v cs (with_copy variable v cs) f (All-head FitsCopy c cs h) tail (with_fit variable v cs f tail)

-- ---- a view

-- Values and messages of 32 bits
pub record ViewFits (view : View) : Type 0 where
  pub pasts : All AllFit view.pasts
  pub messages : All MessagesFit view.messages

or_zero_fits : (o : Option ℤ) → IfSome o Fits → Fits (value_or_zero o)
or_zero_fits None h = zero_fits
or_zero_fits (Some v) h = h

found_fits : (o : Option (List ℤ)) (back : ℕ) → IfSome o AllFit → Fits (value_or_zero (found_in o (λ values. slice_get values back)))
found_fits None back h = zero_fits
found_fits (Some values) back h = or_zero_fits (slice_get values back) (all_get Fits values back h)

pub past_fits : (view : View) (variable back : ℕ) → ViewFits view → Fits (value_or_zero (past_of view variable back))
past_fits view variable back h = found_fits (slice_get view.pasts variable) back (all_get AllFit view.pasts variable h.pasts)

found_messages : (o : Option (Option (List ℤ))) → IfSome o MessagesFit → MessagesFit (found_in o (λ messages. messages))
found_messages None h = tt
found_messages (Some messages) h = h

messages_fit : (view : View) (stream : ℕ) → ViewFits view → MessagesFit (messages_of view stream)
messages_fit view stream h = found_messages (slice_get view.messages stream) (all_get MessagesFit view.messages stream h.messages)

first_fits : (messages : List ℤ) → AllFit messages → IfSome (first_of messages) Fits
first_fits [] h = tt
first_fits (m ∷ ms) h = All-head Fits m ms h

found_next : (o : Option (List ℤ)) → MessagesFit o → IfSome (found_in o first_of) Fits
found_next None h = tt
found_next (Some messages) h = first_fits messages h

pub next_fits : (view : View) (stream : ℕ) → ViewFits view → IfSome (next_in view stream) Fits
next_fits view stream h = found_next (messages_of view stream) (messages_fit view stream h)

without_fit : (o : Option (List ℤ)) → MessagesFit o → MessagesFit (without_first o)
without_fit None h = tt
without_fit (Some messages) h = All-drop Fits 1 messages h

taken_fits : (view : View) (stream : ℕ) → ViewFits view → ViewFits (taken_from view stream)
taken_fits view stream h = record {
  pasts = h.pasts;
  messages = All-set MessagesFit view.messages stream (without_first (messages_of view stream)) (without_fit (messages_of view stream) (messages_fit view stream h)) h.messages;
}

-- ---- states

module _ (unit : Whole) (number : ℕ) (widths : List Width) (shape : Shape) where
  -- A state with a store of this shape, a view of such values, and deeds that the agent may do, where they are watched
  pub record IsFine (s : State) : Type 0 where
    pub store : IsShaped widths shape s.store
    pub view : ViewFits s.view
    pub deeds : shape.watched ≡ true → AreDeedsOf unit number s.deeds

  abbrev pub Fine : State → Type 0
  Fine s = IsFine s

  ticked : (deeds : Deeds) → AreDeedsOf unit number deeds → AreDeedsOf unit number (tick deeds)
  ticked deeds h = record { looks = h.looks; takes = h.takes; sends = h.sends }

  pub fine_cost : (s : State) → Fine s → Fine (cost_1 s)
  fine_cost s h = record { store = h.store; view = h.view; deeds = λ w. ticked s.deeds (h.deeds w) }

  pub fine_past : (s : State) (variable back : ℕ) → ((n : ℕ) → IsLookOf unit (record { number = n; variable = variable; back = back })) → Fine s → Fine (asking (Past variable back) s)
  fine_past s variable back look h = record {
    store = h.store;
    view = h.view;
    deeds = λ w. let did = h.deeds w in record { looks = All-push (IsLookOf unit) s.deeds.looks _ did.looks (look s.deeds.steps); takes = did.takes; sends = did.sends };
  }

  pub fine_ready : (s : State) (stream : ℕ) → Fine s → Fine (asking (Ready stream) s)
  fine_ready s stream h = record { store = h.store; view = h.view; deeds = λ w. ticked s.deeds (h.deeds w) }

  pub fine_take : (s : State) (stream : ℕ) → Receives unit number stream → Fine s → Fine (asking (Take stream) s)
  fine_take s stream receives h = record {
    store = h.store;
    view = taken_fits s.view stream h.view;
    deeds = λ w. let did = h.deeds w in record { looks = did.looks; takes = All-push (Receives unit number) s.deeds.takes stream did.takes receives; sends = did.sends };
  }

  pub fine_send : (s : State) (sent : Sent) → IsSentOf unit sent → Fine s → Fine (asking (Send sent) s)
  fine_send s sent is h = record {
    store = h.store;
    view = h.view;
    deeds = λ w. let did = h.deeds w in record { looks = did.looks; takes = did.takes; sends = All-push (IsSentOf unit) s.deeds.sends sent did.sends is };
  }

  pub fine_slot : (s : State) (slot cell : ℕ) (v : ℤ) → Has (get_or widths slot W32) v → Fine s → Fine (with_slot slot cell v s)
  fine_slot s slot cell v f h =
      let cells = cells_at s.store slot in
      let new = slice_set cells cell v in
      let fit : (width : Width) → slice_get widths slot ≡ Some width → All (Has width) new =
      λ width w. All-set (Has width) cells cell v (subst (λ (x : Width). Has x v) (get_or_from_slice_get widths slot width W32 w) f) (cells_fit widths s.store.slots slot width w h.store.values) in
      record {
        store = record {
          slots = map-set_same length s.store.slots slot new [] (length-set cells cell v) ∙ h.store.slots;
          many = omega (arith, length-set s.store.slots slot new, h.store.many);
          values = set_fits widths s.store.slots slot new fit h.store.values;
          variables = h.store.variables;
          copies = h.store.copies;
        };
        view = h.view;
        deeds = h.deeds;
      }

  pub fine_copy : (s : State) (variable : ℕ) (v : ℤ) → Fits v → Fine s → Fine (with_copy_at variable v s)
  fine_copy s variable v f h = record {
    store = record {
      slots = h.store.slots;
      many = h.store.many;
      values = h.store.values;
      variables = with_names variable v s.store.copies ∙ h.store.variables;
      copies = with_fit variable v s.store.copies f h.store.copies;
    };
    view = h.view;
    deeds = h.deeds;
  }

  pub fine_in : (store : Store) (s : State) → IsShaped widths shape store → ViewFits s.view → (shape.watched ≡ true → AreDeedsOf unit number s.deeds) → Fine (in_store store s)
  fine_in store s shaped view deeds = record { store = shaped; view = view; deeds = deeds }
