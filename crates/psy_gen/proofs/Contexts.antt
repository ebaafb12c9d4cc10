-- How a machine stands for a state of the statements: in the agent's body, or in the innermost of some open calls.
use Rattle.std.proofs.Common.{◌≡◌, refl, subst, ◌∙◌, arith}
use Rattle.std.specs.Prelude.{ℕ, ◌+◌, ◌≤◌, nat_le, true, List, [], ◌∷◌, ◌++◌, map, length, slice_get, Some, ℤ, ⊤}
use Rattle.std.specs.List.{flat_map}
use Rattle.psy_lists.proofs.lemmas.Tests.{both}
use Rattle.psy_code.specs.declared.code.Code.{Code}
use Rattle.psy_code.specs.declared.code.AgentCode.{AgentCode}
use Rattle.psy_code.specs.declared.instr.Instr.{Instr}
use Rattle.psy_code.specs.Execution.{Machine, Frame, OpenCall, Copy, Run, RanTo, TrappedBy, run_code, cells_in_calls, has_room, present, innermost_frame, with_cell, with_counter, with_frame}
use Rattle.psy_code.specs.Execution as code
use Rattle.psy_meaning.specs.Sound.{Scope}
use Rattle.psy_meaning.specs.Alike.{is_there}
use Rattle.psy_meaning.specs.States.{Store, State, Final, Ended, Trapped, Got, Value, Stops, and_then}
use Rattle.psy_gen.proofs.Leads.{Leads, after}

-- Where statements are executed
pub data Context : Type 0 where
  Home : Context
  Inside : (home : Frame) (copies : List Copy) (back : ℕ) (outer : List OpenCall) → Context

abbrev pub joined : List (List ℤ) → List ℤ
joined slots = flat_map (λ cells. cells) slots

abbrev pub frame : Store → List ℕ → Frame
frame store counters = record { cells = joined store.slots; counters = counters }

abbrev pub home_in : Context → Store → List ℕ → Frame
home_in Home store counters = frame store counters
home_in (Inside home copies back outer) store counters = home

abbrev pub calls_in : Context → Store → List ℕ → List OpenCall
calls_in Home store counters = []
calls_in (Inside home copies back outer) store counters = record { frame = frame store counters; back = back } ∷ outer

abbrev pub copies_in : Context → Store → List Copy
copies_in Home store = store.copies
copies_in (Inside home copies back outer) store = copies

-- The machine in a context, at a place, with these operands, the store, and counters
abbrev pub machine_in : Context → ℕ → List ℤ → Store → List ℕ → Machine
machine_in k place operands store counters =
    record { place = place; operands = operands; home = home_in k store counters; calls = calls_in k store counters; copies = copies_in k store }

abbrev pub at : Context → ℕ → List ℤ → State → List ℕ → code.RunState
at k place operands s counters = record { machine = machine_in k place operands s.store counters; view = s.view; deeds = s.deeds }

pub present_in : (k : Context) (p : ℕ) (operands : List ℤ) (store : Store) (counters : List ℕ) → present (machine_in k p operands store counters) ≡ frame store counters
present_in Home p operands store counters = refl
present_in (Inside home copies back outer) p operands store counters = refl

-- ---- room

abbrev pub used : Context → ℕ → ℕ
used Home n = 0
used (Inside home copies back outer) n = n + cells_in_calls outer

abbrev pub depth_in : Context → ℕ
depth_in Home = 0
depth_in (Inside home copies back outer) = length outer + 1

abbrev pub frame_size : Store → List ℕ → ℕ
frame_size store counters = length (joined store.slots) + length counters

pub record Room (its : AgentCode) (k : Context) (size held cells more : ℕ) : Type 0 where
  pub stack : held ≤ its.stack
  pub frames : used k size + cells ≤ its.frames
  pub calls : depth_in k + more ≤ 64

le_true : (a b : ℕ) → a ≤ b → nat_le a b ≡ true
le_true a b h = grind (arith, h)

pub cells_used : (k : Context) (store : Store) (counters : List ℕ) → cells_in_calls (calls_in k store counters) ≡ used k (frame_size store counters)
cells_used Home store counters = refl
cells_used (Inside home copies back outer) store counters = refl

pub depth_used : (k : Context) (store : Store) (counters : List ℕ) → length (calls_in k store counters) ≡ depth_in k
depth_used Home store counters = refl
depth_used (Inside home copies back outer) store counters = omega arith

pub has_room_by : (its : AgentCode) (m : Machine) → length m.operands ≤ its.stack → cells_in_calls m.calls ≤ its.frames → length m.calls ≤ 64 → has_room its m ≡ true
has_room_by its m operands cells calls =
    both (nat_le (length m.operands) its.stack) _ (le_true (length m.operands) its.stack operands)
    (both (nat_le (cells_in_calls m.calls) its.frames) _ (le_true (cells_in_calls m.calls) its.frames cells) (le_true (length m.calls) 64 calls))

pub roomy : (its : AgentCode) (k : Context) (p : ℕ) (operands : List ℤ) (store : Store) (counters : List ℕ) (cells calls : ℕ) → Room its k (frame_size store counters) (length operands) cells calls → has_room its (machine_in k p operands store counters) ≡ true
roomy its k p operands store counters cells calls r =
    has_room_by its (machine_in k p operands store counters) r.stack (omega (arith, cells_used k store counters, r.frames)) (omega (arith, depth_used k store counters, r.calls))

-- ---- the code at its place

-- The code stands at a place of the whole.
abbrev pub HasAt : List Instr → ℕ → List Instr → Type 0
HasAt whole p [] = ⊤
HasAt whole p (i ∷ is) = (slice_get whole p ≡ Some i) × HasAt whole (p + 1) is

pub has-first : (whole : List Instr) (p : ℕ) (a b : List Instr) → HasAt whole p (a ++ b) → HasAt whole p a
has-first whole p [] b h = tt {0}
has-first whole p (i ∷ a) b h = (h.0, has-first whole (p + 1) a b h.1)

pub has-second : (whole : List Instr) (p : ℕ) (a b : List Instr) → HasAt whole p (a ++ b) → HasAt whole (p + length a) b
has-second whole p [] b h = subst (λ q. HasAt whole q b) (omega arith) h
has-second whole p (i ∷ a) b h = subst (λ q. HasAt whole q b) (omega arith) (has-second whole (p + 1) a b h.1)

-- ---- shapes

-- The store and the view have what the scope names.
pub record Shape (sc : Scope) (s : State) : Type 0 where
  pub slots : map length s.store.slots ≡ sc.layout
  pub copies : map (λ c. c.variable) s.store.copies ≡ sc.copies
  pub pasts : map length s.view.pasts ≡ sc.depths
  pub streams : map is_there s.view.messages ≡ sc.streams

-- ---- outcomes

-- What is left of an action that is over
abbrev pub Holds : Context → State → code.RunState → Type 0
Holds Home s t = (t.machine.home.cells ≡ joined s.store.slots) × (t.machine.copies ≡ s.store.copies) × (t.deeds ≡ s.deeds)
Holds (Inside home copies back outer) s t = (t.machine.home.cells ≡ home.cells) × (t.machine.copies ≡ copies) × (t.deeds ≡ s.deeds)

module _ (whole : Code) (its : AgentCode) (sc : Scope) (k : Context) where
  abbrev pub HaltsAt : code.RunState → Final → Type 0
  HaltsAt start (Trapped kind s) = (n : ℕ) × (t : code.RunState) × (run_code whole its start n ≡ TrappedBy kind t) × Holds k s t
  HaltsAt start (Ended point s) = (n : ℕ) × (t : code.RunState) × (run_code whole its start n ≡ RanTo point t) × Holds k s t

  pub halts_leads : (start mid : code.RunState) (f : Final) → Leads whole its start mid → HaltsAt mid f → HaltsAt start f
  halts_leads start mid (Trapped kind s) l (n, t, e, h) = let there = l n (TrappedBy kind t) (tt {0}) e in (there.0, t, there.1, h)
  halts_leads start mid (Ended point s) l (n, t, e, h) = let there = l n (RanTo point t) (tt {0}) e in (there.0, t, there.1, h)

  abbrev pub GotAfter : ℕ → List ℤ → List ℕ → State → code.RunState → Got → Type 0
  GotAfter p operands counters before start (Value v s) = (s.store ≡ before.store) × Shape sc s × Leads whole its start (at k p (v ∷ operands) s counters)
  GotAfter p operands counters before start (Stops final) = HaltsAt start final

  pub got_leads : (p : ℕ) (operands : List ℤ) (counters : List ℕ) (before : State) (start mid : code.RunState) (got : Got) → Leads whole its start mid → GotAfter p operands counters before mid got → GotAfter p operands counters before start got
  got_leads p operands counters before start mid (Value v s) l g = (g.0, g.1, after whole its start mid (at k p (v ∷ operands) s counters) l g.2)
  got_leads p operands counters before start mid (Stops final) l g = halts_leads start mid final l g

  pub got_bind : (p q : ℕ) (operands more : List ℤ) (counters : List ℕ) (before : State) (start : code.RunState) (got : Got) (go : ℤ → State → Got) → GotAfter p operands counters before start got
      → ((v : ℤ) (s : State) → s.store ≡ before.store → Shape sc s → GotAfter q more counters before (at k p (v ∷ operands) s counters) (go v s)) → GotAfter q more counters before start (and_then got go)
  got_bind p q operands more counters before start (Value v s) go g h = got_leads q more counters before start (at k p (v ∷ operands) s counters) (go v s) g.2 (h v s g.0 g.1)
  got_bind p q operands more counters before start (Stops final) go g h = g

  pub got_before : (p : ℕ) (operands : List ℤ) (counters : List ℕ) (s t : State) (start : code.RunState) (got : Got) → t.store ≡ s.store → GotAfter p operands counters t start got → GotAfter p operands counters s start got
  got_before p operands counters s t start (Value v u) same g = (g.0 ∙ same, g.1, g.2)
  got_before p operands counters s t start (Stops final) same g = g
