-- How a machine stands behind the code of statements.
use Rattle.std.proofs.Common.{◌≡◌, refl, sym, ap, subst, ◌∙◌, arith}
use Rattle.std.specs.Prelude.{ℕ, zero, suc, ◌+◌, ◌<◌, ◌≤◌, ◌%◌, ◌^◌, ◌==◌, if◌then◌else◌, List, [], ◌∷◌, map, length, slice_get, slice_set, Option, Some, None, ℤ}
use Rattle.std.proofs.lemmas.List.{length-append}
use Rattle.psy_arith.specs.declared.operators.Trap.TheVariants as trap
use Rattle.psy_arith.specs.Operators.{is_zero}
use Rattle.psy_code.specs.declared.code.Code.{Code}
use Rattle.psy_code.specs.declared.code.AgentCode.{AgentCode}
use Rattle.psy_code.specs.declared.instr.Instr.{Instr}
use Rattle.psy_code.specs.Execution.{Machine, Frame, OpenCall, Copy, Went, does, call_by, state_then, with_cell, with_counter, with_frame}
use Rattle.psy_code.specs.Execution as code
use Rattle.psy_tree.specs.Paths.{total}
use Rattle.psy_meaning.specs.Sound.{Scope}
use Rattle.psy_meaning.specs.States.{Store, State, Got, Value, Stops, Outcome, Falls, Returns, Halts, Act, with_value, then_do}
use Rattle.psy_gen.proofs.Leads.{Leads, after, by_one, went}
use Rattle.psy_gen.proofs.Contexts.{Context, Home, Inside, Room, roomy, machine_in, at, joined, frame_size, present_in, Shape, HaltsAt, halts_leads, GotAfter}

joined_size : (slots : List (List ℤ)) → length (joined slots) ≡ total (map length slots)
joined_size [] = refl
joined_size (x ∷ xs) = length-append x (joined xs) ∙ omega (arith, joined_size xs)

-- The counters from a number on may differ.
pub record Keeps (c : ℕ) (before now : List ℕ) : Type 0 where
  pub count : length now ≡ length before
  pub below : (i : ℕ) → i < c → slice_get now i ≡ slice_get before i

pub keeps_same : (c : ℕ) (counters : List ℕ) → Keeps c counters counters
keeps_same c counters = record { count = refl; below = λ i h. refl }

pub keeps_on : (c : ℕ) (a b d : List ℕ) → Keeps c a b → Keeps c b d → Keeps c a d
keeps_on c a b d p q = record { count = q.count ∙ p.count; below = λ i h. q.below i h ∙ p.below i h }

pub keeps_less : (b c : ℕ) (before now : List ℕ) → b ≤ c → Keeps c before now → Keeps b before now
keeps_less b c before now h k = record { count = k.count; below = λ i l. k.below i (omega (arith, l, h)) }

-- A function has returned.
abbrev pub returned : Context → ℤ → List ℤ → State → Option code.RunState
returned Home v operands s = None
returned (Inside home copies back outer) v operands s = Some (record { machine = record { place = back; operands = v ∷ operands; home = home; calls = outer; copies = copies }; view = s.view; deeds = s.deeds })

module _ (whole : Code) (its : AgentCode) (sc : Scope) (k : Context) where
  abbrev pub LeadsTo : code.RunState → Option code.RunState → Type 0
  LeadsTo start None = ⊥
  LeadsTo start (Some t) = Leads whole its start t

  leads_to : (start mid : code.RunState) (o : Option code.RunState) → Leads whole its start mid → LeadsTo mid o → LeadsTo start o
  leads_to start mid None l g = g
  leads_to start mid (Some t) l g = after whole its start mid t l g

  abbrev pub After : ℕ → ℕ → List ℤ → List ℕ → code.RunState → Outcome → Type 0
  After p c operands before start (Falls s) = (now : List ℕ) × Keeps c before now × Shape sc s × Leads whole its start (at k p operands s now)
  After p c operands before start (Returns v s) = Shape sc s × LeadsTo start (returned k v operands s)
  After p c operands before start (Halts final) = HaltsAt whole its sc k start final

  pub after_leads : (p c : ℕ) (operands : List ℤ) (before : List ℕ) (start mid : code.RunState) (o : Outcome) → Leads whole its start mid → After p c operands before mid o → After p c operands before start o
  after_leads p c operands before start mid (Falls s) l (now, keeps, shape, g) = (now, keeps, shape, after whole its start mid (at k p operands s now) l g)
  after_leads p c operands before start mid (Returns v s) l g = (g.0, leads_to start mid (returned k v operands s) l g.1)
  after_leads p c operands before start mid (Halts final) l g = halts_leads whole its sc k start mid final l g

  pub after_at : (p q c : ℕ) (operands : List ℤ) (before : List ℕ) (start : code.RunState) (o : Outcome) → p ≡ q → After p c operands before start o → After q c operands before start o
  after_at p q c operands before start o e g = subst (λ x. After x c operands before start o) e g

  -- fewer counters are promised, from other ones
  pub after_keeps : (p b c : ℕ) (operands : List ℤ) (first before : List ℕ) (start : code.RunState) (o : Outcome) → b ≤ c → Keeps b first before → After p c operands before start o → After p b operands first start o
  after_keeps p b c operands first before start (Falls s) h kept (now, keeps, shape, g) = (now, keeps_on b first before now kept (keeps_less b c before now h keeps), shape, g)
  after_keeps p b c operands first before start (Returns v s) h kept g = g
  after_keeps p b c operands first before start (Halts final) h kept g = g

  pub value_after : (p q c : ℕ) (operands now : List ℤ) (counters : List ℕ) (before : State) (start : code.RunState) (got : Got) (go : ℤ → State → Outcome) → GotAfter whole its sc k q now counters before start got
      → ((v : ℤ) (t : State) → t.store ≡ before.store → Shape sc t → After p c operands counters (at k q (v ∷ now) t counters) (go v t)) → After p c operands counters start (with_value got go)
  value_after p q c operands now counters before start (Value v t) go g h = after_leads p c operands counters start (at k q (v ∷ now) t counters) (go v t) g.2 (h v t g.0 g.1)
  value_after p q c operands now counters before start (Stops final) go g h = g

  pub then_after : (p q c d : ℕ) (operands : List ℤ) (counters : List ℕ) (start : code.RunState) (o : Outcome) (go : Act) → c ≤ d → After p c operands counters start o
      → ((t : State) (now : List ℕ) → Keeps c counters now → Shape sc t → After q d operands now (at k p operands t now) (go t)) → After q c operands counters start (then_do o go)
  then_after p q c d operands counters start (Falls t) go le (now, keeps, shape, g) h =
      after_leads q c operands counters start (at k p operands t now) (go t) g (after_keeps q c d operands counters now (at k p operands t now) (go t) le keeps (h t now keeps shape))
  then_after p q c d operands counters start (Returns v t) go le g h = g
  then_after p q c d operands counters start (Halts final) go le g h = g

  -- the same, where the first promises more counters than the second
  pub then_down : (p q c d : ℕ) (operands : List ℤ) (counters : List ℕ) (start : code.RunState) (o : Outcome) (go : Act) → c ≤ d → After p d operands counters start o
      → ((t : State) (now : List ℕ) → Keeps d counters now → Shape sc t → After q c operands now (at k p operands t now) (go t)) → After q c operands counters start (then_do o go)
  then_down p q c d operands counters start (Falls t) go le (now, keeps, shape, g) h =
      after_leads q c operands counters start (at k p operands t now) (go t) g (after_keeps q c c operands counters now (at k p operands t now) (go t) (omega arith) (keeps_less c d counters now le keeps) (h t now keeps shape))
  then_down p q c d operands counters start (Returns v t) go le g h = g
  then_down p q c d operands counters start (Halts final) go le g h = g

  -- what doesn't fall through ends wherever it would go on
  pub after_any : (p q c : ℕ) (operands : List ℤ) (counters : List ℕ) (start : code.RunState) (o : Outcome) → ((t : State) → o ≡ Falls t → ⊥) → After p c operands counters start o → After q c operands counters start o
  after_any p q c operands counters start (Falls t) loud g = elim (loud t refl) [ ]
  after_any p q c operands counters start (Returns v t) loud g = g
  after_any p q c operands counters start (Halts final) loud g = g

  -- One instruction that goes on
  pub step_to : (p q : ℕ) (now operands : List ℤ) (counters next : List ℕ) (s t : State) (i : Instr) (size cells more : ℕ) → slice_get whole.instrs p ≡ Some i
      → does whole its s.view i (machine_in k p now s.store counters) ≡ Went (machine_in k q operands t.store next)
      → state_then (at k p now s counters) (call_by i now) (machine_in k q operands t.store next) ≡ at k q operands t next
      → frame_size t.store next ≡ size → Room its k size (length operands) cells more → Leads whole its (at k p now s counters) (at k q operands t next)
  step_to p q now operands counters next s t i size cells more here goes same e room =
      by_one whole its (at k p now s counters) (at k q operands t next)
      (went whole its (at k p now s counters) i (machine_in k q operands t.store next) here goes (roomy its k q operands t.store next cells more (subst (λ x. Room its k x (length operands) cells more) (sym e) room)) ∙ ap code.Running same)

pub size_is : (sc : Scope) (s : State) (counters : List ℕ) (count : ℕ) → Shape sc s → length counters ≡ count → frame_size s.store counters ≡ total sc.layout + count
size_is sc s counters count shape e = omega (arith, joined_size s.store.slots, ap total shape.slots, e)

-- ---- changes of a frame

pub cell_in : (k : Context) (p : ℕ) (operands : List ℤ) (store : Store) (counters : List ℕ) (cell : ℕ) (v : ℤ) (slots : List (List ℤ)) → joined slots ≡ slice_set (joined store.slots) cell v
    → with_cell cell v (machine_in k p operands store counters) ≡ machine_in k p operands (record store { slots = slots }) counters
cell_in Home p operands store counters cell v slots e = ap (λ cells. record { place = p; operands = operands; home = record { cells = cells; counters = counters }; calls = []; copies = store.copies }) (sym e)
cell_in (Inside home copies back outer) p operands store counters cell v slots e =
    ap (λ cells. record { place = p; operands = operands; home = home; calls = record { frame = record { cells = cells; counters = counters }; back = back } ∷ outer; copies = copies }) (sym e)

pub counter_in : (k : Context) (p : ℕ) (operands : List ℤ) (store : Store) (counters : List ℕ) (c n : ℕ) → with_counter c n (machine_in k p operands store counters) ≡ machine_in k p operands store (slice_set counters c n)
counter_in Home p operands store counters c n = refl
counter_in (Inside home copies back outer) p operands store counters c n = refl

pub store_goes : (k : Context) (p cell : ℕ) (v x : ℤ) (now operands : List ℤ) (store : Store) (counters : List ℕ) (slots : List (List ℤ)) → slice_get (joined store.slots) cell ≡ Some x → joined slots ≡ slice_set (joined store.slots) cell v
    → code.store cell v operands (machine_in k p now store counters) ≡ Went (machine_in k (p + 1) operands (record store { slots = slots }) counters)
store_goes k p cell v x now operands store counters slots found changed =
    let m = machine_in k p now store counters in
    ap (λ (f : Frame). code.need (slice_get f.cells cell) (λ old. code.onward operands (with_cell cell v m))) (present_in k p now store counters)
    ∙ ap (λ (o : Option ℤ). code.need o (λ old. code.onward operands (with_cell cell v m))) found
    ∙ ap (code.onward operands) (cell_in k p now store counters cell v slots changed)

pub zero_goes : (k : Context) (p c n : ℕ) (now : List ℤ) (store : Store) (counters : List ℕ) → slice_get counters c ≡ Some n
    → code.zero_counter c (machine_in k p now store counters) ≡ Went (machine_in k (p + 1) now store (slice_set counters c 0))
zero_goes k p c n now store counters found =
    let m = machine_in k p now store counters in
    ap (λ (f : Frame). code.need (slice_get f.counters c) (λ turns. code.onward m.operands (with_counter c 0 m))) (present_in k p now store counters)
    ∙ ap (λ (o : Option ℕ). code.need o (λ turns. code.onward m.operands (with_counter c 0 m))) found
    ∙ ap (code.onward now) (counter_in k p now store counters c 0)

-- ---- counters

pub get-set : (xs : List ℕ) (i x : ℕ) → i < length xs → slice_get (slice_set xs i x) i ≡ Some x
get-set [] i x h = absurd (omega (arith, h))
get-set (y ∷ ys) zero x h = refl
get-set (y ∷ ys) (suc i) x h = get-set ys i x (omega (arith, h))

get-set-below : (xs : List ℕ) (i j x : ℕ) → j < i → slice_get (slice_set xs i x) j ≡ slice_get xs j
get-set-below [] i j x h = refl
get-set-below (y ∷ ys) zero j x h = absurd (omega (arith, h))
get-set-below (y ∷ ys) (suc i) zero x h = refl
get-set-below (y ∷ ys) (suc i) (suc j) x h = get-set-below ys i j x (omega (arith, h))

count-set : (xs : List ℕ) (i x : ℕ) → length (slice_set xs i x) ≡ length xs
count-set [] i x = refl
count-set (y ∷ ys) zero x = refl
count-set (y ∷ ys) (suc i) x = ap suc (count-set ys i x)

pub keeps_set : (xs : List ℕ) (i x : ℕ) → Keeps i xs (slice_set xs i x)
keeps_set xs i x = record { count = count-set xs i x; below = λ j h. get-set-below xs i j x h }

-- What a guard does, by the counter
abbrev guarded : ℕ → ℕ → ℕ → ℤ → List ℤ → Machine → code.Next
guarded c bound turns v operands m = if is_zero v then code.onward operands m else (if turns == bound then code.Trapped trap.Loop else code.onward operands (with_counter c ((turns + 1) % 2 ^ 32) m))

pub guard_is : (k : Context) (p c bound n : ℕ) (v : ℤ) (operands : List ℤ) (store : Store) (counters : List ℕ) → slice_get counters c ≡ Some n
    → code.guard c bound (machine_in k p (v ∷ operands) store counters) ≡ guarded c bound n v (v ∷ operands) (machine_in k p (v ∷ operands) store counters)
guard_is k p c bound n v operands store counters found =
    let m = machine_in k p (v ∷ operands) store counters in
    ap (λ (f : Frame). code.need (slice_get f.counters c) (λ turns. guarded c bound turns v (v ∷ operands) m)) (present_in k p (v ∷ operands) store counters)
    ∙ ap (λ (o : Option ℕ). code.need o (λ turns. guarded c bound turns v (v ∷ operands) m)) found
