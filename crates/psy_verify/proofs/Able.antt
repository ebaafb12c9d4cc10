-- A machine that stands where it may isn't stuck, and goes on to where it may stand.
use Rattle.std.proofs.Common.{◌≡◌, refl, sym, subst, ◌∙◌, inl, inr, arith, length-set, length-append, length-take, length-drop}
use Rattle.std.specs.Prelude.{ℕ, ◌+◌, ◌-◌, ◌<◌, ◌≤◌, ◌%◌, ◌^◌, ◌==◌, nat_lt, nat_le, Bool, true, false, not, if◌then◌else◌, List, [], ◌∷◌, length, reverse, take, drop, Option, None, Some, slice_get, slice_set, ℤ, pos, negsuc, ⊤}
use Rattle.std.proofs.lemmas.Option.{none-some, same_Some}
use Rattle.std.proofs.Math.ListN.{length-replicate, length-reverse}
use Rattle.psy_lists.proofs.lemmas.Places.{there}
use Rattle.psy_arith.specs.declared.operators.Trap.{Trap}
use Rattle.psy_arith.specs.declared.operators.Trap.TheVariants as trap
use Rattle.psy_arith.specs.Operators.{is_zero, truth}
use Rattle.psy_arith.specs.Types.{taken1, taken2}
use Rattle.psy_arith.specs.Widths.{of_type}
use Rattle.psy_code.specs.declared.code.Code.{Code}
use Rattle.psy_code.specs.declared.code.FunctionCode.{FunctionCode}
use Rattle.psy_code.specs.declared.instr.Instr.{Instr}
use Rattle.psy_code.specs.declared.instr.Instr.TheVariants as instr
use Rattle.psy_code.specs.Execution.{Ended, Frame, Machine, Next, OpenCall, Stuck, Trapped, Went, back_from, begun_at, call, calls_with, copy_of, does, frame_for, home_with, in_code, index_in, load, need, onward, or_trap, present, store, with_copy, with_counter, with_top}
use Rattle.psy_code.specs.Views.{View, count_as_value, first_of, messages_of, past_of}
use Rattle.psy_tree.specs.declared.unit.Unit.{Unit as Whole}
use Rattle.psy_meaning.specs.CodeWays.{GoesOn, IsCodeWay, agent_code_at, ends, goes}
use Rattle.psy_meaning.specs.Sound.{Each}
use Rattle.std.specs.Int.{w32, int_wrap}
use Rattle.psy_flow.specs.Owners.{Agent, Function, IsReached, Owner, function_code_at}
use Rattle.psy_flow.specs.Heights.{Finds, IsAmong, IsHeight, Shift, at_start, moved, past_call, shifts}
use Rattle.psy_flow.specs.Needs.{Calls, IsCounted, cells_of, counters_of}
use Rattle.psy_flow.specs.Verified.{HasEnd, Hears, IsFramed, IsLed, IsNamed, IsOrdered, IsVerified, Owns}
use Rattle.psy_verify.specs.Standing.{HasFrame, IsSafe, Shows, Stands}
use Rattle.psy_verify.proofs.Levels.{IsLevel, IsOurs, IsOutside, height_reached, level_of}
use Rattle.psy_flow.proofs.lemmas.Shifted.{function_there, shift_goes}
use Rattle.psy_verify.proofs.Sights.{messages_there, own_copy, past_there, same_variables}

-- ---- the way outside of calls

-- Where the way of the agent stands: at the machine's place, or behind the outermost open call
abbrev pub home_place : ℕ → List OpenCall → ℕ
home_place place [] = place
home_place place (call ∷ calls) = home_place call.back calls

-- Outside of calls the instruction goes on to there; in a call the way stays where it is.
abbrev pub HomeGoes : Instr → ℕ → List OpenCall → ℕ → Type 0
HomeGoes i place [] to = GoesOn i place to
HomeGoes i place (call ∷ calls) to = to ≡ home_place call.back calls

home_goes : (i : Instr) (place to : ℕ) (calls : List OpenCall) → GoesOn i place to → HomeGoes i place calls (home_place to calls)
home_goes i place to [] g = g
home_goes i place to (call ∷ calls) g = refl

home_goes_framed : (i : Instr) (place to : ℕ) (calls : List OpenCall) (frame : Frame) → GoesOn i place to → HomeGoes i place calls (home_place to (calls_with calls frame))
home_goes_framed i place to [] frame g = g
home_goes_framed i place to (call ∷ calls) frame g = refl

-- No way from a `Return` ends.
no_end : (instrs : List Instr) (place : ℕ) → slice_get instrs place ≡ Some instr.Return → HasEnd instrs place → ⊥
no_end instrs place at (point, places, way) = from way
  where
    not_both : Instr → Type 0
    not_both instr.Return = ⊥
    not_both _ = ⊤

    from : {ps : List ℕ} → IsCodeWay instrs point place ps → ⊥
    from (ends _ other) = (let same : instr.Advance point ≡ instr.Return = same_Some (instr.Advance point) instr.Return (sym other ∙ at) in cc)
    from (goes _ next i rest other on way) = (let same : i ≡ instr.Return = same_Some i instr.Return (sym other ∙ at) in subst (λ j. GoesOn j place next) same on)

-- ---- tests

is_less : (n m : ℕ) → n < m → nat_lt n m ≡ true
is_less n m h = grind (arith, h)

is_most : (n m : ℕ) → n ≤ m → nat_le n m ≡ true
is_most n m h = grind (arith, h)

-- An index that is found is within the array.
index_small : (cells : ℕ) (index : ℤ) (i : ℕ) → index_in cells index ≡ Some i → i < cells
index_small cells (negsuc n) i e = absurd (none-some i e)
index_small cells (pos n) i e = from (nat_lt n cells) refl e
  where
    from : (b : Bool) → nat_lt n cells ≡ b → (if b then Some n else None) ≡ Some i → i < cells
    from true less e = (let same : n ≡ i = same_Some n i e in grind (arith, less, same))
    from false less e = absurd (none-some i e)

-- ---- one instruction

module _ (unit : Whole) (code : Code) (v : IsVerified unit code) (agent : ℕ) (view : View) (shows : Shows unit agent view) (m : Machine) (stood : IsSafe unit code agent m) where
  abbrev pub level : IsLevel unit code v agent m.place (length m.operands) m.home m.calls
  level = level_of unit code v agent m.place (length m.operands) m.home m.calls stood.home stood.stands

  -- The machine is safe again, and its way went on.
  pub record IsOn (i : Instr) (n : Machine) : Type 0 where
    pub safe : IsSafe unit code agent n
    pub home : HomeGoes i m.place m.calls (home_place n.place n.calls)

  -- What comes of the instruction
  abbrev pub Good : Instr → Next → Type 0
  Good i (Went n) = IsOn i n
  Good i (Ended point n) = (m.calls ≡ []) × (i ≡ instr.Advance point)
  Good i (Trapped kind) = ⊤
  Good i Stuck = ⊥

  module _ (i : Instr) (at : slice_get code.instrs m.place ≡ Some i) where
    reached : IsReached code level.owner m.place
    reached = height_reached code level.owner m.place level.height level.reached

    pub finds : Finds code m.place i level.height
    finds = (v.balanced m.place level.owner).there level.height i level.reached at

    pub named : IsNamed unit code level.owner i
    named = v.named m.place level.owner i reached at

    pub ordered : IsOrdered level.owner i
    ordered = v.ordered m.place level.owner i reached at

    framed : IsFramed code level.owner i
    framed = v.framed m.place level.owner i reached at

    -- ---- words

    -- The height behind a way on
    behind : (s : Shift) → IsAmong s (shifts code m.place i) → s.pops ≤ level.height → IsHeight code level.owner s.to (level.height - s.pops + s.pushes)
    behind s among pops = moved m.place s.to level.height (level.height - s.pops + s.pushes) i level.reached at (s, among, refl, pops, omega (arith, pops))

    stands_on : (s : Shift) → IsAmong s (shifts code m.place i) → s.pops ≤ level.height → (count : ℕ) → count + s.pops ≡ length m.operands + s.pushes → Stands code agent s.to count m.calls
    stands_on s among pops count e =
        let same : level.height - s.pops + s.pushes + level.left ≡ count = omega (arith, e, pops, level.counted) in
        subst (λ n. Stands code agent s.to n m.calls) same (level.on s.to (level.height - s.pops + s.pushes) (behind s among pops))

    -- It goes on with other operands.
    went : (s : Shift) → IsAmong s (shifts code m.place i) → s.pops ≤ level.height → (operands : List ℤ) → length operands + s.pops ≡ length m.operands + s.pushes → IsOn i (record m { place = s.to; operands = operands })
    went s among pops operands e = record {
      safe = record { stands = stands_on s among pops (length operands) e; home = stood.home; copies = stood.copies };
      home = home_goes i m.place s.to m.calls (shift_goes code m.place i s among);
    }

    -- with another frame of the same size,
    went_framed : (s : Shift) → IsAmong s (shifts code m.place i) → s.pops ≤ level.height → (operands : List ℤ) → length operands + s.pops ≡ length m.operands + s.pushes → (frame : Frame) → HasFrame code level.owner frame
        → IsOn i (record m { place = s.to; operands = operands; home = home_with m.home m.calls frame; calls = calls_with m.calls frame })
    went_framed s among pops operands e frame fits =
        let same : level.height - s.pops + s.pushes + level.left ≡ length operands = omega (arith, e, pops, level.counted) in
        let (stands, home) = level.framed frame fits s.to (level.height - s.pops + s.pushes) (behind s among pops) in
        record {
          safe = record { stands = subst (λ n. Stands code agent s.to n (calls_with m.calls frame)) same stands; home = home; copies = stood.copies };
          home = home_goes_framed i m.place s.to m.calls frame (shift_goes code m.place i s among);
        }

    -- or with other copies of the same variables.
    went_copied : (s : Shift) → IsAmong s (shifts code m.place i) → s.pops ≤ level.height → (operands : List ℤ) → length operands + s.pops ≡ length m.operands + s.pushes → (variable : ℕ) (value : ℤ)
        → IsOn i (record m { place = s.to; operands = operands; copies = with_copy variable value m.copies })
    went_copied s among pops operands e variable value = record {
      safe = record { stands = stands_on s among pops (length operands) e; home = stood.home; copies = same_variables variable value m.copies ∙ stood.copies };
      home = home_goes i m.place s.to m.calls (shift_goes code m.place i s among);
    }

    g_need : {A : Type 0} (found : Option A) (go : A → Next) → (x : A) × (found ≡ Some x) → ((x : A) → found ≡ Some x → Good i (go x)) → Good i (need found go)
    g_need None go (x, e) h = absurd (none-some x e)
    g_need (Some x) go e h = h x refl

    g_trap : {A : Type 0} (kind : Trap) (found : Option A) (go : A → Next) → ((x : A) → found ≡ Some x → Good i (go x)) → Good i (or_trap kind found go)
    g_trap kind None go h = tt {0}
    g_trap kind (Some x) go h = h x refl

    g_if : (b : Bool) (x y : Next) → Good i x → Good i y → Good i (if b then x else y)
    g_if true x y g h = g
    g_if false x y g h = h

    g_code : (to : ℕ) (next : Next) → to < length code.instrs → Good i next → Good i (in_code code to next)
    g_code to next less h = subst (λ (b : Bool). Good i (if b then next else Stuck)) (sym (is_less to (length code.instrs) less)) h

    g_top : (operands : List ℤ) (go : ℤ → List ℤ → Next) → 1 ≤ length operands → ((value : ℤ) (below : List ℤ) → length operands ≡ length below + 1 → Good i (go value below)) → Good i (with_top operands go)
    g_top [] go some h = absurd (omega (arith, some))
    g_top (value ∷ below) go some h = h value below (omega arith)

    -- As many operands as are popped are there.
    enough : (n : ℕ) → n ≤ level.height → n ≤ length m.operands
    enough n h = omega (arith, h, level.counted)

    g_one : 1 ≤ level.height → (go : ℤ → List ℤ → Next) → ((value : ℤ) (below : List ℤ) → length m.operands ≡ length below + 1 → Good i (go value below)) → Good i (with_top m.operands go)
    g_one some go h = g_top m.operands go (enough 1 some) h

    g_two : 2 ≤ level.height → (go : ℤ → ℤ → List ℤ → Next) → ((a b : ℤ) (below : List ℤ) → length m.operands ≡ length below + 2 → Good i (go a b below)) → Good i (with_top m.operands (λ b below. with_top below (λ a rest. go a b rest)))
    g_two some go h = g_top m.operands (λ b below. with_top below (λ a rest. go a b rest)) (omega (arith, enough 2 some))
        (λ b below e. g_top below (λ a rest. go a b rest) (omega (arith, e, enough 2 some)) (λ a rest f. h a b rest (omega (arith, e, f))))

    -- ---- cells and counters

    cell_there : (cell : ℕ) → cell < cells_of code level.owner → (value : ℤ) × (slice_get (present m).cells cell ≡ Some value)
    cell_there cell less = there (present m).cells cell (omega (arith, less, level.frame.cells))

    counter_there : (counter : ℕ) → counter < counters_of code level.owner → (turns : ℕ) × (slice_get (present m).counters counter ≡ Some turns)
    counter_there counter less = there (present m).counters counter (omega (arith, less, level.frame.counters))

    g_load : (s : Shift) → s.to ≡ m.place + 1 → IsAmong s (shifts code m.place i) → s.pops ≤ level.height → (cell : ℕ) → cell < cells_of code level.owner → (operands : List ℤ) → length operands + 1 + s.pops ≡ length m.operands + s.pushes
        → Good i (load cell operands m)
    g_load s to among pops cell less operands e = g_need (slice_get (present m).cells cell) _ (cell_there cell less) (λ value is.
        subst (λ p. IsOn i (record m { place = p; operands = value ∷ operands })) to (went s among pops (value ∷ operands) (omega (arith, e))))

    g_store : (s : Shift) → s.to ≡ m.place + 1 → IsAmong s (shifts code m.place i) → s.pops ≤ level.height → (cell : ℕ) → cell < cells_of code level.owner → (value : ℤ) (operands : List ℤ) → length operands + s.pops ≡ length m.operands + s.pushes
        → Good i (store cell value operands m)
    g_store s to among pops cell less value operands e = g_need (slice_get (present m).cells cell) _ (cell_there cell less) (λ old is.
        let frame : Frame = record (present m) { cells = slice_set (present m).cells cell value } in
        let fits : HasFrame code level.owner frame = record { cells = length-set (present m).cells cell value ∙ level.frame.cells; counters = level.frame.counters } in
        subst (λ p. IsOn i (record m { place = p; operands = operands; home = home_with m.home m.calls frame; calls = calls_with m.calls frame })) to (went_framed s among pops operands e frame fits))

    g_counter : (s : Shift) → s.to ≡ m.place + 1 → IsAmong s (shifts code m.place i) → s.pops ≤ level.height → length m.operands + s.pops ≡ length m.operands + s.pushes → (counter turns : ℕ)
        → Good i (onward m.operands (with_counter counter turns m))
    g_counter s to among pops e counter turns =
        let frame : Frame = record (present m) { counters = slice_set (present m).counters counter turns } in
        let fits : HasFrame code level.owner frame = record { cells = level.frame.cells; counters = length-set (present m).counters counter turns ∙ level.frame.counters } in
        subst (λ p. IsOn i (record m { place = p; operands = m.operands; home = home_with m.home m.calls frame; calls = calls_with m.calls frame })) to (went_framed s among pops m.operands e frame fits)

    -- ---- owners

    -- What only an agent's instruction may do is this agent's.
    pub ours_by : (P : Owner → Type 0) → ((function : ℕ) → IsOrdered (Function function) i → ⊥) → P level.owner → P (Agent agent)
    ours_by P silent h = by level.owner level.ours ordered h
      where
        by : (o : Owner) → IsOurs agent o → IsOrdered o i → P o → P (Agent agent)
        by (Agent number) ours order has = subst (λ n. P (Agent n)) ours has
        by (Function number) ours order has = absurd (silent number order)

    -- and stands outside of calls.
    pub no_call : ((function : ℕ) → IsOrdered (Function function) i → ⊥) → m.calls ≡ []
    no_call silent = by m.calls level.owner level.outside ordered
      where
        by : (calls : List OpenCall) (o : Owner) → IsOutside calls o → IsOrdered o i → calls ≡ []
        by [] o outside order = refl
        by (c ∷ rest) (Agent number) outside order = absurd outside
        by (c ∷ rest) (Function number) outside order = absurd (silent number order)

  -- On to the next place
  abbrev by : ℕ → ℕ → Shift
  by pops pushes = record { to = m.place + 1; pops = pops; pushes = pushes }

  -- ---- calls

  module _ (function : ℕ) (at : slice_get code.instrs m.place ≡ Some (instr.Call function)) where
    abbrev its : FunctionCode
    its = function_code_at code function

    found : slice_get code.functions function ≡ Some its
    found = function_there code function (named (instr.Call function) at)

    arguments : its.params ≤ level.height
    arguments = (subst (λ (f : Option FunctionCode). Each (λ (s : Shift). s.pops ≤ level.height) (past_call m.place f)) found (finds (instr.Call function) at)).0

    abbrev callee_shift : Shift
    callee_shift = record { to = m.place + 1; pops = its.params; pushes = 1 }

    past_among : IsAmong callee_shift (shifts code m.place (instr.Call function))
    past_among = subst (λ (f : Option FunctionCode). IsAmong callee_shift (past_call m.place f)) (sym found) (inl refl)

    left_below : length (drop its.params m.operands) + its.params ≡ length m.operands
    left_below = omega (arith, length-drop its.params m.operands, arguments, level.counted)

    new_frame : HasFrame code (Function function) (frame_for its m.operands)
    new_frame = record {
      cells = omega (arith, length-append (reverse (take its.params m.operands)) its.locals, length-reverse (take its.params m.operands), length-take its.params m.operands, arguments, level.counted);
      counters = length-replicate its.counters 0;
    }

    is_counted : IsCounted code function
    is_counted = (named (instr.Call function) at, λ place _. v.balanced place (Function function))

    calls_it : Calls code level.owner m.place function (level.height - its.params)
    calls_it = (subst (λ n. IsHeight code level.owner m.place n) (omega (arith, arguments)) level.reached, at)

    called : IsOn (instr.Call function) (record m { place = its.entry; operands = drop its.params m.operands; calls = record { frame = frame_for its m.operands; back = m.place + 1 } ∷ m.calls })
    called = record {
      safe = record {
        stands = (
          length (drop its.params m.operands),
          record {
            function = function;
            height = 0;
            reached = at_start its.entry (named (instr.Call function) at, refl);
            counted = omega arith;
            frame = new_frame;
            holds = λ more holds.
                (let room = level.holds function (level.height - its.params) more calls_it (ordered (instr.Call function) at) is_counted holds in omega (arith, room, left_below, arguments, level.counted));
            uses = λ more uses. level.uses function more at (ordered (instr.Call function) at) is_counted uses;
            deep = level.deep function (named (instr.Call function) at) (ordered (instr.Call function) at);
          },
          stands_on (instr.Call function) at callee_shift past_among arguments (length (drop its.params m.operands) + 1) (omega (arith, left_below)),
        );
        home = stood.home;
        copies = stood.copies;
      };
      home = home_goes (instr.Call function) m.place (m.place + 1) m.calls refl;
    }

    good_call : Good (instr.Call function) (need (slice_get code.functions function) (λ f. call f m))
    good_call = subst (λ (f : Option FunctionCode). Good (instr.Call function) (need f (λ g. call g m))) (sym found)
        (subst (λ (b : Bool). Good (instr.Call function) (if b then Went (record m { place = its.entry; operands = drop its.params m.operands; calls = record { frame = frame_for its m.operands; back = m.place + 1 } ∷ m.calls }) else Stuck))
        (sym (is_most its.params (length m.operands) (omega (arith, arguments, level.counted)))) called)

  -- ---- back

  good_return : slice_get code.instrs m.place ≡ Some instr.Return → (calls : List OpenCall) → m.calls ≡ calls → Good instr.Return (back_from calls m)
  good_return at [] none =
      let stands : IsHeight code (Agent agent) m.place (length m.operands) = subst (Stands code agent m.place (length m.operands)) none stood.stands in
      absurd (no_end code.instrs m.place at (v.ends m.place agent (height_reached code (Agent agent) m.place (length m.operands) stands)))
  good_return at (c ∷ rest) some =
      let stands : Stands code agent m.place (length m.operands) (c ∷ rest) = subst (Stands code agent m.place (length m.operands)) some stood.stands in
      let (left, w, back) = stands in
      let alone : w.height ≡ 1 = (v.balanced m.place (Function w.function)).there w.height instr.Return w.reached at in
      record {
        safe = record { stands = subst (λ n. Stands code agent c.back n rest) (omega (arith, alone, w.counted)) back; home = stood.home; copies = stood.copies };
        home = subst (λ (calls : List OpenCall). HomeGoes instr.Return m.place calls (home_place c.back rest)) (sym some) refl;
      }

  good_advance : (point : ℕ) → slice_get code.instrs m.place ≡ Some (instr.Advance point) → Good (instr.Advance point) (need (slice_get (agent_code_at code agent).points point) (λ place. Ended point (begun_at place m)))
  good_advance point at =
      let i = instr.Advance point in
      let led : IsLed code level.owner m.place i = v.leads m.place level.owner i (reached i at) at in
      let leads : IsLed code (Agent agent) m.place i = ours_by i at (λ o. IsLed code o m.place i) (λ f h. h) led in
      g_need i at (slice_get (agent_code_at code agent).points point) _ (m.place + 1, leads.1) (λ place is. (no_call i at (λ f h. h), refl))

  -- ---- all of them

  pub good : (i : Instr) → slice_get code.instrs m.place ≡ Some i → Good i (does code (agent_code_at code agent) view i m)
  good (instr.Push number) at = went (instr.Push number) at (by 0 1) (inl refl) (omega arith) (number ∷ m.operands) (omega arith)
  good (instr.Load cell) at = let i = instr.Load cell in g_load i at (by 0 1) refl (inl refl) (omega arith) cell (framed i at) m.operands (omega arith)
  good (instr.Store cell) at =
      let i = instr.Store cell in
      let pops = (finds i at).0 in
      g_one i at pops _ (λ value below e. g_store i at (by 1 0) refl (inl refl) pops cell (framed i at) value below (omega (arith, e)))
  good (instr.LoadCell base cells) at =
      let i = instr.LoadCell base cells in
      let pops = (finds i at).0 in
      let fits : base + cells ≤ cells_of code level.owner = framed i at in
      g_one i at pops _ (λ index below e. g_trap i at trap.Index (index_in cells index) _ (λ k is.
      g_load i at (by 1 1) refl (inl refl) pops (base + k) (omega (arith, index_small cells index k is, fits)) below (omega (arith, e))))
  good (instr.StoreCell base cells) at =
      let i = instr.StoreCell base cells in
      let pops = (finds i at).0 in
      let fits : base + cells ≤ cells_of code level.owner = framed i at in
      g_two i at pops _ (λ index value below e. g_trap i at trap.Index (index_in cells index) _ (λ k is.
      g_store i at (by 2 0) refl (inl refl) pops (base + k) (omega (arith, index_small cells index k is, fits)) value below (omega (arith, e))))
  good (instr.LoadCopy variable) at =
      let i = instr.LoadCopy variable in
      g_need i at (copy_of variable m.copies) _ (own_copy unit agent variable m.copies stood.copies (ours_by i at (λ o. Owns unit o variable) (λ f h. h) (named i at))) (λ value is.
      went i at (by 0 1) (inl refl) (omega arith) (value ∷ m.operands) (omega arith))
  good (instr.StoreCopy variable) at =
      let i = instr.StoreCopy variable in
      let pops = (finds i at).0 in
      g_one i at pops _ (λ value below e.
      g_need i at (copy_of variable m.copies) _ (own_copy unit agent variable m.copies stood.copies (ours_by i at (λ o. Owns unit o variable) (λ f h. h) (named i at))) (λ old is.
      went_copied i at (by 1 0) (inl refl) pops below (omega (arith, e)) variable (int_wrap w32 value)))
  good (instr.Past variable back) at =
      let i = instr.Past variable back in
      g_need i at (past_of view variable back) _ (past_there unit agent view shows variable back (named i at)) (λ value is. went i at (by 0 1) (inl refl) (omega arith) (value ∷ m.operands) (omega arith))
  good (instr.Ready stream) at =
      let i = instr.Ready stream in
      g_need i at (messages_of view stream) _ (messages_there unit agent view shows stream (ours_by i at (λ o. Hears unit o stream) (λ f h. h) (named i at))) (λ messages is.
      went i at (by 0 1) (inl refl) (omega arith) (count_as_value messages ∷ m.operands) (omega arith))
  good (instr.Take stream) at =
      let i = instr.Take stream in
      g_need i at (messages_of view stream) _ (messages_there unit agent view shows stream (ours_by i at (λ o. Hears unit o stream) (λ f h. h) (named i at))) (λ messages is.
      g_trap i at trap.Take (first_of messages) _ (λ value is. went i at (by 0 1) (inl refl) (omega arith) (value ∷ m.operands) (omega arith)))
  good (instr.Send stream after clock) at =
      let i = instr.Send stream after clock in
      let pops = (finds i at).0 in
      g_one i at pops _ (λ value below e. went i at (by 1 0) (inl refl) pops below (omega (arith, e)))
  good (instr.Jump to) at =
      let i = instr.Jump to in
      g_code i at to _ ((v.inside m.place).next level.owner i to (reached i at) at refl) (went i at (record { to = to; pops = 0; pushes = 0 }) (inl refl) (omega arith) m.operands (omega arith))
  good (instr.JumpZero to) at =
      let i = instr.JumpZero to in
      let pops = (finds i at).0 in
      g_one i at pops _ (λ value below e. g_code i at to _ ((v.inside m.place).next level.owner i to (reached i at) at (inr refl))
      (g_if i at (is_zero value) _ _ (went i at (record { to = to; pops = 1; pushes = 0 }) (inr (inl refl)) pops below (omega (arith, e))) (went i at (by 1 0) (inl refl) pops below (omega (arith, e)))))
  good (instr.AndTest to) at =
      let i = instr.AndTest to in
      let pops = (finds i at).0 in
      g_one i at pops _ (λ value below e. g_code i at to _ ((v.inside m.place).next level.owner i to (reached i at) at (inr refl))
      (g_if i at (is_zero value) _ _ (went i at (record { to = to; pops = 1; pushes = 1 }) (inr (inl refl)) pops (pos 0 ∷ below) (omega (arith, e))) (went i at (by 1 0) (inl refl) pops below (omega (arith, e)))))
  good (instr.OrTest to) at =
      let i = instr.OrTest to in
      let pops = (finds i at).0 in
      g_one i at pops _ (λ value below e. g_code i at to _ ((v.inside m.place).next level.owner i to (reached i at) at (inr refl))
      (g_if i at (is_zero value) _ _ (went i at (by 1 0) (inl refl) pops below (omega (arith, e))) (went i at (record { to = to; pops = 1; pushes = 1 }) (inr (inl refl)) pops (pos 1 ∷ below) (omega (arith, e)))))
  good instr.Truth at =
      let pops = (finds instr.Truth at).0 in
      g_one instr.Truth at pops _ (λ value below e. went instr.Truth at (by 1 1) (inl refl) pops (truth (not (is_zero value)) ∷ below) (omega (arith, e)))
  good (instr.Zero counter) at =
      let i = instr.Zero counter in
      g_need i at (slice_get (present m).counters counter) _ (counter_there i at counter (framed i at)) (λ turns is. g_counter i at (by 0 0) refl (inl refl) (omega arith) (omega arith) counter 0)
  good (instr.Guard counter bound) at =
      let i = instr.Guard counter bound in
      let pops = (finds i at).0 in
      g_one i at pops _ (λ value below e. g_need i at (slice_get (present m).counters counter) _ (counter_there i at counter (framed i at)) (λ turns is.
      g_if i at (is_zero value) _ _ (went i at (by 1 1) (inl refl) pops m.operands (omega arith))
      (g_if i at (turns == bound) _ _ (tt {0}) (g_counter i at (by 1 1) refl (inl refl) pops (omega arith) counter ((turns + 1) % 2 ^ 32)))))
  good (instr.Call function) at = good_call function at
  good instr.Return at =
      let alone : level.height ≡ 1 = finds instr.Return at in
      g_one instr.Return at (omega (arith, alone)) _ (λ value below e. good_return at m.calls refl)
  good (instr.Advance point) at = good_advance point at
  good (instr.Binary operator width) at =
      let i = instr.Binary operator width in
      let pops = (finds i at).0 in
      g_two i at pops _ (λ a b below e. g_trap i at trap.Divide (taken2 (of_type width) operator a b) _ (λ value is. went i at (by 2 1) (inl refl) pops (value ∷ below) (omega (arith, e))))
  good (instr.Unary operator width) at =
      let i = instr.Unary operator width in
      let pops = (finds i at).0 in
      g_one i at pops _ (λ a below e. went i at (by 1 1) (inl refl) pops (taken1 (of_type width) operator a ∷ below) (omega (arith, e)))
  good (instr.Cast width) at =
      let i = instr.Cast width in
      let pops = (finds i at).0 in
      g_one i at pops _ (λ a below e. went i at (by 1 1) (inl refl) pops (int_wrap (of_type width) a ∷ below) (omega (arith, e)))
