-- The code of a function acts as the function.
use Rattle.std.proofs.Common.{◌≡◌, refl, sym, ap, subst, ◌∙◌, inl, inr, arith}
use mathlib.Core.Logic.{⊎_elim}
use Rattle.std.specs.Prelude.{ℕ, zero, suc, ◌+◌, ◌<◌, ◌≤◌, ◌==◌, max, nat_le, Bool, true, false, List, [], ◌∷◌, ◌++◌, map, reverse, take, drop, replicate, length, slice_get, slice_index_or, Option, Some, ℤ, pos, ⊤, ◌⊎◌}
use Rattle.std.proofs.lemmas.List.{length-append, length-map, length-replicate, append-nil, append_assoc}
use Rattle.std.proofs.Math.Seq.{take-append_seam, drop-append_seam}
use Rattle.psy_tree.specs.declared.unit.FunctionDecl.{FunctionDecl}
use Rattle.psy_tree.specs.declared.unit.LocalDecl.{LocalDecl}
use Rattle.psy_code.specs.declared.code.Code.{Code}
use Rattle.psy_code.specs.declared.code.AgentCode.{AgentCode}
use Rattle.psy_code.specs.declared.code.FunctionCode.{FunctionCode}
use Rattle.psy_code.specs.declared.instr.Instr.TheVariants as instr
use Rattle.psy_code.specs.Execution.{Went, does}
use Rattle.psy_code.specs.Execution as code
use Rattle.psy_tree.specs.Paths.{total}
use Rattle.psy_meaning.specs.Sizes.{stmts_size}
use Rattle.psy_meaning.specs.Depths.{Depth, shallow, stmts_depth, call_depth, call_depths_from, call_depths, loops_in}
use Rattle.psy_meaning.specs.Sound.{Scope, AreSound, function_scope, AreSoundFunctions}
use Rattle.psy_meaning.specs.States.{State, Final, Ended, Trapped, Got, Value, Stops, Outcome, Falls, Returns, Halts, Callee, cost_1}
use Rattle.psy_meaning.specs.Statements.{acts_by, function_frame, in_store, final_in, back_in, callee, with_callee, callees_from, callees_of, no_callee}
use Rattle.psy_gen.specs.Emission.{stmts_code, function_code, function_layout, function_entry, function_size}
use Rattle.psy_gen.proofs.Leads.{Leads, after, by_one, went}
use Rattle.psy_gen.proofs.Contexts.{Context, Home, Inside, Room, roomy, has_room_by, joined, machine_in, home_in, calls_in, copies_in, cells_used, depth_used, at, frame_size, HasAt, has-first, has-second, Shape, Holds, HaltsAt, GotAfter, got_leads}
use Rattle.psy_gen.proofs.ExprRuns.{pushed, CallsRun, expr_runs}
use Rattle.psy_gen.proofs.StmtRuns.{all_runs, all_sized}
use Rattle.psy_gen.proofs.Outcomes.{After, size_is}
use Rattle.psy_gen.proofs.Basics.{some_is, no_some}

-- ---- arguments on the stack

pushed_length : (vs operands : List ℤ) → length (pushed vs operands) ≡ length vs + length operands
pushed_length [] operands = omega arith
pushed_length (v ∷ vs) operands = omega (arith, pushed_length vs (v ∷ operands))

pushed_onto : (vs a b : List ℤ) → pushed vs (a ++ b) ≡ pushed vs a ++ b
pushed_onto [] a b = refl
pushed_onto (v ∷ vs) a b = pushed_onto vs (v ∷ a) b

twice : (vs a b : List ℤ) → pushed (pushed vs a) b ≡ pushed a (vs ++ b)
twice [] a b = refl
twice (v ∷ vs) a b = twice vs (v ∷ a) b

front : (vs operands : List ℤ) → reverse (take (length vs) (pushed vs operands)) ≡ vs
front vs operands =
    let e : length vs ≡ length (pushed vs []) = omega (arith, pushed_length vs []) in
    ap (λ n. reverse (take n (pushed vs operands))) e ∙ ap (λ l. reverse (take (length (pushed vs [])) l)) (pushed_onto vs [] operands) ∙ ap reverse (take-append_seam (pushed vs []) operands) ∙ twice vs [] [] ∙ append-nil vs

rest : (vs operands : List ℤ) → drop (length vs) (pushed vs operands) ≡ operands
rest vs operands =
    let e : length vs ≡ length (pushed vs []) = omega (arith, pushed_length vs []) in
    ap (λ n. drop n (pushed vs operands)) e ∙ ap (drop (length (pushed vs []))) (pushed_onto vs [] operands) ∙ drop-append_seam (pushed vs []) operands

joined_single : (xs : List ℤ) → joined (map (λ v. v ∷ []) xs) ≡ xs
joined_single [] = refl
joined_single (x ∷ xs) = ap (λ l. x ∷ l) (joined_single xs)

lengths_single : (xs : List ℤ) → map length (map (λ v. v ∷ []) xs) ≡ replicate (length xs) 1
lengths_single [] = refl
lengths_single (x ∷ xs) = ap (λ l. 1 ∷ l) (lengths_single xs)

total-replicate : (n : ℕ) → total (replicate n 1) ≡ n
total-replicate zero = refl
total-replicate (suc n) = omega (arith, total-replicate n)

module _ (whole : Code) (its : AgentCode) where
  -- The functions that are known so far do what they mean, in each context.
  abbrev pub Ready : List FunctionDecl → (ℕ → Callee) → List Depth → Type 0
  Ready fs callees depths = (k : Context) (sc : Scope) → sc.functions ≡ fs → CallsRun whole its sc k callees depths (length fs)

  -- The code of a function stands where its entry says.
  pub record Stands (number : ℕ) (decl : FunctionDecl) : Type 0 where
    pub place : ℕ
    pub entry : slice_get whole.functions number ≡ Some (function_entry decl place)
    pub has : HasAt whole.instrs place (function_code decl place)
    pub small : place + function_size decl ≤ length whole.instrs

  module _ (fs : List FunctionDecl) (callees : ℕ → Callee) (depths : List Depth) (ready : Ready fs callees depths) (decl : FunctionDecl) where
    abbrev scope_of : Scope → Scope
    scope_of sc = function_scope fs sc.depths sc.streams decl

    abbrev inner : Context → State → List ℕ → ℕ → Context
    inner k s counters p = Inside (home_in k s.store counters) (copies_in k s.store) (p + 1) (calls_in k s.store counters)

    -- The values with which its locals begin
    abbrev locals : List ℤ
    locals = map (λ (l : LocalDecl). l.init) decl.locals

    abbrev first_counters : List ℕ
    first_counters = replicate (loops_in decl.stmts) 0

    abbrev begun : List ℤ → State → State
    begun arguments s = in_store (function_frame decl arguments) (cost_1 s)

    body_runs : (k : Context) (sc : Scope) (s : State) (counters : List ℕ) (p place : ℕ) (arguments operands : List ℤ) → ((depths' : List ℕ) (streams : List Bool) → AreSound (function_scope fs depths' streams decl) decl.stmts)
        → HasAt whole.instrs place (function_code decl place) → place + function_size decl ≤ length whole.instrs → Shape sc s → length arguments ≡ decl.params
        → Room its (inner k s counters p) (total (function_layout decl) + loops_in decl.stmts) (length operands + (stmts_depth depths decl.stmts).operands) (stmts_depth depths decl.stmts).cells (length fs)
        → After whole its (scope_of sc) (inner k s counters p) (place + stmts_size decl.stmts) 0 operands first_counters (at (inner k s counters p) place operands (begun arguments s) first_counters) (acts_by callees decl.stmts (begun arguments s))
    body_runs k sc s counters p place arguments operands sound h small shape params room =
        all_runs whole its (scope_of sc) (inner k s counters p) callees depths (length fs) (loops_in decl.stmts)
        (expr_runs whole its (scope_of sc) (inner k s counters p) callees depths (length fs) (ready (inner k s counters p) (scope_of sc) refl) (λ variable has. no_some variable has.1))
        (λ variable has. no_some variable has.1) (λ e. (home_in k s.store counters, copies_in k s.store, p + 1, calls_in k s.store counters, refl)) (λ point less. absurd (omega (arith, less)))
        decl.stmts (sound sc.depths sc.streams) 0 place operands first_counters (begun arguments s) (has-first whole.instrs place (stmts_code (function_layout decl) decl.stmts 0 place) (instr.Push (pos 0) ∷ (instr.Return ∷ [])) h)
        (omega (arith, small)) (omega arith) (length-replicate {A = ℕ} (loops_in decl.stmts) 0)
        (record { slots = lengths_single (arguments ++ locals) ∙ ap (λ n. replicate n 1) (length-append arguments locals ∙ omega (arith, params, length-map decl.locals (λ (l : LocalDecl). l.init))); copies = refl; pasts = shape.pasts; streams = shape.streams }) room

    -- ---- back in the caller

    holds_back : (k : Context) (s t : State) (counters : List ℕ) (p : ℕ) (u : code.RunState) → Holds (inner k s counters p) t u → Holds k (in_store s.store t) u
    holds_back Home s t counters p u h = h
    holds_back (Inside home copies back outer) s t counters p u h = h

    halts_back : (k : Context) (sc : Scope) (s : State) (counters : List ℕ) (p : ℕ) (start : code.RunState) (f : Final) → HaltsAt whole its (scope_of sc) (inner k s counters p) start f → HaltsAt whole its sc k start (final_in s.store f)
    halts_back k sc s counters p start (Ended point t) (n, u, e, h) = (n, u, e, holds_back k s t counters p u h)
    halts_back k sc s counters p start (Trapped kind t) (n, u, e, h) = (n, u, e, holds_back k s t counters p u h)

    back_shape : (sc : Scope) (s t : State) → Shape sc s → Shape (scope_of sc) t → Shape sc (in_store s.store t)
    back_shape sc s t shape inside = record { slots = shape.slots; copies = shape.copies; pasts = inside.pasts; streams = inside.streams }

    -- `return 0;` at the end
    zero_leads : (k : Context) (sc : Scope) (s t : State) (counters now : List ℕ) (p q : ℕ) (operands : List ℤ) → slice_get whole.instrs q ≡ Some (instr.Push (pos 0)) → slice_get whole.instrs (q + 1) ≡ Some instr.Return
        → Shape (scope_of sc) t → length now ≡ loops_in decl.stmts
        → Room its (inner k s counters p) (total (function_layout decl) + loops_in decl.stmts) (length operands + 1) 0 (length fs) → Room its k (frame_size s.store counters) (length operands + 1) 0 0
        → Leads whole its (at (inner k s counters p) q operands t now) (at k (p + 1) (pos 0 ∷ operands) (cost_1 (cost_1 (in_store s.store t))) counters)
    zero_leads k sc s t counters now p q operands push back shape len room outside =
        let j = inner k s counters p in
        let size = size_is (scope_of sc) t now (loops_in decl.stmts) shape len in
        let r = subst (λ x. Room its j x (length operands + 1) 0 (length fs)) (sym size) room in
        let m = machine_in j (q + 1) (pos 0 ∷ operands) t.store now in
        let first = by_one whole its (at j q operands t now) (at j (q + 1) (pos 0 ∷ operands) (cost_1 t) now)
        (went whole its (at j q operands t now) (instr.Push (pos 0)) m push refl (roomy its j (q + 1) (pos 0 ∷ operands) t.store now 0 (length fs) (record { stack = omega (arith, r.stack); frames = r.frames; calls = r.calls }))) in
        after whole its (at j q operands t now) (at j (q + 1) (pos 0 ∷ operands) (cost_1 t) now) (at k (p + 1) (pos 0 ∷ operands) (cost_1 (cost_1 (in_store s.store t))) counters) first
        (by_one whole its (at j (q + 1) (pos 0 ∷ operands) (cost_1 t) now) (at k (p + 1) (pos 0 ∷ operands) (cost_1 (cost_1 (in_store s.store t))) counters)
        (went whole its (at j (q + 1) (pos 0 ∷ operands) (cost_1 t) now) instr.Return (machine_in k (p + 1) (pos 0 ∷ operands) s.store counters) back refl (roomy its k (p + 1) (pos 0 ∷ operands) s.store counters 0 0 (record { stack = omega (arith, outside.stack); frames = outside.frames; calls = outside.calls }))))

    back_got : (k : Context) (sc : Scope) (s : State) (counters : List ℕ) (p q : ℕ) (operands : List ℤ) (start : code.RunState) (o : Outcome) → slice_get whole.instrs q ≡ Some (instr.Push (pos 0)) → slice_get whole.instrs (q + 1) ≡ Some instr.Return → Shape sc s
        → Room its (inner k s counters p) (total (function_layout decl) + loops_in decl.stmts) (length operands + 1) 0 (length fs) → Room its k (frame_size s.store counters) (length operands + 1) 0 0
        → After whole its (scope_of sc) (inner k s counters p) q 0 operands first_counters start o → GotAfter whole its sc k (p + 1) operands counters s start (back_in s.store o)
    back_got k sc s counters p q operands start (Falls t) push back shape room outside (now, keeps, inside, leads) = (
      refl,
      (let b = back_shape sc s t shape inside in record { slots = b.slots; copies = b.copies; pasts = b.pasts; streams = b.streams }),
      after whole its start (at (inner k s counters p) q operands t now) (at k (p + 1) (pos 0 ∷ operands) (cost_1 (cost_1 (in_store s.store t))) counters) leads
          (zero_leads k sc s t counters now p q operands push back inside (keeps.count ∙ length-replicate {A = ℕ} (loops_in decl.stmts) 0) room outside),
    )
    back_got k sc s counters p q operands start (Returns v t) push back shape room outside (inside, leads) = (refl, back_shape sc s t shape inside, leads)
    back_got k sc s counters p q operands start (Halts final) push back shape room outside g = halts_back k sc s counters p start final g

    -- ---- the call

    call_goes : (k : Context) (s : State) (counters : List ℕ) (number p place : ℕ) (arguments operands : List ℤ) → slice_get whole.functions number ≡ Some (function_entry decl place) → length arguments ≡ decl.params
        → does whole its s.view (instr.Call number) (machine_in k p (pushed arguments operands) s.store counters) ≡ Went (machine_in (inner k s counters p) place operands (function_frame decl arguments) first_counters)
    call_goes k s counters number p place arguments operands entry params =
        let m = machine_in k p (pushed arguments operands) s.store counters in
        let fits : nat_le decl.params (length (pushed arguments operands)) ≡ true = grind (arith, params, pushed_length arguments operands) in
        let make = λ (ops cells : List ℤ). Went (record { place = place; operands = ops; home = home_in k s.store counters; calls = record { frame = record { cells = cells; counters = first_counters }; back = p + 1 } ∷ calls_in k s.store counters; copies = copies_in k s.store }) in
        let taken = λ (n : ℕ). reverse (take n (pushed arguments operands)) ++ locals in
        ap (λ (o : Option FunctionCode). code.need o (λ g. code.call g m)) entry
        ∙ rw fits (ap (λ n. make (drop n (pushed arguments operands)) (taken n)) (sym params)
        ∙ ap (λ ops. make ops (taken (length arguments))) (rest arguments operands)
        ∙ ap (λ l. make operands (l ++ locals)) (front arguments operands)
        ∙ ap (make operands) (sym (joined_single (arguments ++ locals))))

    -- What is asked of a function's statements: they are sound whatever the variables and streams.
    abbrev SoundBody : Type 0
    SoundBody = (depths' : List ℕ) (streams : List Bool) → AreSound (function_scope fs depths' streams decl) decl.stmts

    pub function_got : (number : ℕ) → Stands number decl → SoundBody → (k : Context) (sc : Scope) (arguments operands : List ℤ) → length arguments ≡ decl.params → (p : ℕ) (counters : List ℕ) (s : State)
        → slice_get whole.instrs p ≡ Some (instr.Call number) → Shape sc s → Room its k (frame_size s.store counters) (length operands + max (length arguments) (call_depth depths decl).operands) (call_depth depths decl).cells (length fs + 1)
        → GotAfter whole its sc k (p + 1) operands counters s (at k p (pushed arguments operands) s counters) (callee callees decl arguments (cost_1 s))
    function_got number stands sound k sc arguments operands params p counters s here shape room =
        let j = inner k s counters p in
        let d = stmts_depth depths decl.stmts in
        let place = stands.place in
        let q = place + stmts_size decl.stmts in
        let start = at j place operands (begun arguments s) first_counters in
        let n = decl.params + length decl.locals in
        let inside : Room its j (total (function_layout decl) + loops_in decl.stmts) (length operands + max 1 d.operands) d.cells (length fs) =
        record {
          stack = omega (arith, room.stack);
          frames = omega (arith, room.frames, total-replicate n, cells_used k s.store counters);
          calls = omega (arith, room.calls, depth_used k s.store counters);
        } in
        let body = subst (λ x. HasAt whole.instrs (place + x) (instr.Push (pos 0) ∷ (instr.Return ∷ []))) (all_sized whole its (scope_of sc) j callees depths (length fs) (loops_in decl.stmts)
        (expr_runs whole its (scope_of sc) j callees depths (length fs) (ready j (scope_of sc) refl) (λ variable has. no_some variable has.1)) (λ variable has. no_some variable has.1) (λ e. (home_in k s.store counters, copies_in k s.store, p + 1, calls_in k s.store counters, refl))
        (λ point less. absurd (omega (arith, less))) decl.stmts 0 place) (has-second whole.instrs place (stmts_code (function_layout decl) decl.stmts 0 place) (instr.Push (pos 0) ∷ (instr.Return ∷ [])) stands.has) in
        let first = by_one whole its (at k p (pushed arguments operands) s counters) start
        (went whole its (at k p (pushed arguments operands) s counters) (instr.Call number) (machine_in j place operands (function_frame decl arguments) first_counters) here (call_goes k s counters number p place arguments operands stands.entry params)
        (has_room_by its (machine_in j place operands (function_frame decl arguments) first_counters) (omega (arith, inside.stack))
        (omega (arith, room.frames, cells_used k s.store counters, ap length (joined_single (arguments ++ locals)), length-append arguments locals, length-map decl.locals (λ (l : LocalDecl). l.init), params, length-replicate {A = ℕ} (loops_in decl.stmts) 0)) (omega (arith, room.calls, depth_used k s.store counters)))) in
        got_leads whole its sc k (p + 1) operands counters s (at k p (pushed arguments operands) s counters) start (callee callees decl arguments (cost_1 s)) first
        (back_got k sc s counters p q operands start (acts_by callees decl.stmts (begun arguments s)) body.0 body.1.0 shape
        (record { stack = omega (arith, inside.stack); frames = omega (arith, inside.frames); calls = inside.calls })
        (record { stack = omega (arith, room.stack); frames = omega (arith, room.frames); calls = omega (arith, room.calls) })
        (body_runs k sc s counters p place arguments operands sound stands.has stands.small shape params (record { stack = omega (arith, inside.stack); frames = inside.frames; calls = inside.calls })))

    -- one function more
    weaker : (k : Context) (size held cells a b : ℕ) → b ≤ a → Room its k size held cells a → Room its k size held cells b
    weaker k size held cells a b h r = record { stack = r.stack; frames = r.frames; calls = omega (arith, h, r.calls) }

    get-more : {A : Type 0} (xs : List A) (y : A) (i : ℕ) (x : A) → slice_get (xs ++ y ∷ []) i ≡ Some x → (i < length xs) × (slice_get xs i ≡ Some x) ⊎ (i ≡ length xs) × (x ≡ y)
    get-more [] y zero x e = inr (refl, sym (some_is y x e))
    get-more [] y (suc i) x e = no_some x e
    get-more (z ∷ xs) y zero x e = inl (omega arith, e)
    get-more (z ∷ xs) y (suc i) x e = ⊎_elim (λ l. inl (omega (arith, l.0), l.1)) (λ r. inr (ap suc r.0, r.1)) (get-more xs y i x e)

    rescoped : (sc : Scope) (k : Context) (p : ℕ) (operands : List ℤ) (counters : List ℕ) (before : State) (start : code.RunState) (got : Got) → GotAfter whole its (record sc { functions = fs }) k p operands counters before start got → GotAfter whole its sc k p operands counters before start got
    rescoped sc k p operands counters before start (Value v t) (same, shape, leads) = (same, record { slots = shape.slots; copies = shape.copies; pasts = shape.pasts; streams = shape.streams }, leads)
    rescoped sc k p operands counters before start (Stops (Ended point t)) g = g
    rescoped sc k p operands counters before start (Stops (Trapped kind t)) g = g

    index-front : (xs : List Depth) (y : Depth) (i : ℕ) → i < length xs → slice_index_or (xs ++ y ∷ []) i shallow ≡ slice_index_or xs i shallow
    index-front [] y i h = absurd (omega (arith, h))
    index-front (x ∷ xs) y zero h = refl
    index-front (x ∷ xs) y (suc i) h = index-front xs y i (omega (arith, h))

    index-last : (xs : List Depth) (y : Depth) → slice_index_or (xs ++ y ∷ []) (length xs) shallow ≡ y
    index-last [] y = refl
    index-last (x ∷ xs) y = index-last xs y

    abbrev more_callees : ℕ → Callee
    more_callees = with_callee (length fs) (callee callees decl) callees

    abbrev more_depths : List Depth
    more_depths = depths ++ call_depth depths decl ∷ []

    same_callee : (f : ℕ) → f < length fs → callees f ≡ more_callees f
    same_callee f h = let e : (f == length fs) ≡ false = grind (arith, h) in rw e refl

    last_callee : callee callees decl ≡ more_callees (length fs)
    last_callee = let e : (length fs == length fs) ≡ true = grind arith in rw e refl

    pub ready_more : SoundBody → Stands (length fs) decl → length depths ≡ length fs → Ready (fs ++ decl ∷ []) more_callees more_depths
    ready_more sound stands len k sc e f d found arguments operands params p counters s here shape room =
        ⊎_elim
        (λ l.
        let depth_same = index-front depths (call_depth depths decl) f (omega (arith, l.0, len)) in
        let r = weaker k (frame_size s.store counters) (length operands + max (length arguments) (slice_index_or depths f shallow).operands) (slice_index_or depths f shallow).cells (length (fs ++ decl ∷ [])) (length fs) (omega (arith, length-append fs (decl ∷ [])))
        (subst (λ (x : Depth). Room its k (frame_size s.store counters) (length operands + max (length arguments) x.operands) x.cells (length (fs ++ decl ∷ []))) depth_same room) in
        subst (λ (c : Callee). GotAfter whole its sc k (p + 1) operands counters s (at k p (pushed arguments operands) s counters) (c arguments (cost_1 s))) (same_callee f l.0)
        (rescoped sc k (p + 1) operands counters s (at k p (pushed arguments operands) s counters) (callees f arguments (cost_1 s))
        (ready k (record sc { functions = fs }) refl f d l.1 arguments operands params p counters s here (record { slots = shape.slots; copies = shape.copies; pasts = shape.pasts; streams = shape.streams }) r)))
        (λ r.
        let depth_same = ap (λ i. slice_index_or more_depths i shallow) (r.0 ∙ sym len) ∙ index-last depths (call_depth depths decl) in
        let room' = subst (λ (x : Depth). Room its k (frame_size s.store counters) (length operands + max (length arguments) x.operands) x.cells (length (fs ++ decl ∷ []))) depth_same room in
        let room'' = weaker k (frame_size s.store counters) (length operands + max (length arguments) (call_depth depths decl).operands) (call_depth depths decl).cells (length (fs ++ decl ∷ [])) (length fs + 1) (omega (arith, length-append fs (decl ∷ []))) room' in
        subst (λ (c : Callee). GotAfter whole its sc k (p + 1) operands counters s (at k p (pushed arguments operands) s counters) (c arguments (cost_1 s))) (last_callee ∙ ap more_callees (sym r.0))
        (function_got (length fs) stands sound k sc arguments operands (params ∙ ap (λ (x : FunctionDecl). x.params) r.1) p counters s (subst (λ i. slice_get whole.instrs p ≡ Some (instr.Call i)) r.0 here) shape room''))
        (get-more fs decl f d (subst (λ l. slice_get l f ≡ Some d) e found))

  -- All functions, each of which calls those before it
  abbrev pub StandFrom : ℕ → List FunctionDecl → Type 0
  StandFrom n [] = ⊤
  StandFrom n (f ∷ rest) = Stands n f × StandFrom (n + 1) rest

  ready_from : (fs rest : List FunctionDecl) (callees : ℕ → Callee) (depths : List Depth) → Ready fs callees depths → AreSoundFunctions fs rest → StandFrom (length fs) rest → length depths ≡ length fs
      → Ready (fs ++ rest) (callees_from (length fs) callees rest) (call_depths_from depths rest)
  ready_from fs [] callees depths ready sound stand len = subst (λ l. Ready l callees depths) (sym (append-nil fs)) ready
  ready_from fs (f ∷ rest) callees depths ready sound stand len =
      let more = length-append fs (f ∷ []) in
      subst (λ l. Ready l (callees_from (length fs) callees (f ∷ rest)) (call_depths_from depths (f ∷ rest))) (append_assoc fs (f ∷ []) rest)
      (subst (λ n. Ready ((fs ++ f ∷ []) ++ rest) (callees_from n (with_callee (length fs) (callee callees f) callees) rest) (call_depths_from depths (f ∷ rest))) more
      (ready_from (fs ++ f ∷ []) rest (with_callee (length fs) (callee callees f) callees) (depths ++ call_depth depths f ∷ []) (ready_more fs callees depths ready f sound.0.stmts stand.0 len) sound.1 (subst (λ n. StandFrom n rest) (sym more) stand.1)
      (length-append depths (call_depth depths f ∷ []) ∙ omega (arith, len, more))))

  pub all_ready : (functions : List FunctionDecl) → AreSoundFunctions [] functions → StandFrom 0 functions → Ready functions (callees_of functions) (call_depths functions)
  all_ready functions sound stand = ready_from [] functions no_callee [] (λ k sc e f d found. no_some d (subst (λ l. slice_get l f ≡ Some d) e found)) sound stand refl
