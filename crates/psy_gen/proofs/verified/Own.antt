-- What is known of the code of an owner, and of one instruction of it.
use Rattle.std.proofs.Common.{◌≡◌, ℕ, ◌+◌, ◌<◌, ◌≤◌, List, [], ◌∷◌, Some, sym, ap, subst, ◌∙◌, inl, inr, arith}
use Rattle.std.specs.Prelude.{◌-◌, slice_get, slice_index_or, ⊤}
use Rattle.std.proofs.lemmas.Bool.{cases_lt}
use Rattle.psy_code.specs.declared.code.Code.{Code}
use Rattle.psy_code.specs.declared.code.FunctionCode.{FunctionCode}
use Rattle.psy_code.specs.declared.instr.Instr.{Instr}
use Rattle.psy_code.specs.declared.instr.Instr.TheVariants as instr
use Rattle.psy_tree.specs.declared.unit.Unit.{Unit as Whole}
use Rattle.psy_tree.specs.Paths.{total}
use Rattle.psy_meaning.specs.Depths.{Depth, shallow}
use Rattle.psy_meaning.specs.Sound.{Scope, CanSend, Each, HasCopy, HasFunction, HasPast, HasStream}
use Rattle.psy_flow.specs.Heights.{Finds, Shift, onto, shifts}
use Rattle.psy_flow.specs.Marks.{GoesTo, HasEndFor, HasRoomFor, IsMarked, Mark, Marks, most_held, most_used, own_used}
use Rattle.psy_flow.specs.Needs.{cells_of, counters_of}
use Rattle.psy_flow.specs.Owners.{Agent, Function, Owner}
use Rattle.psy_flow.specs.Verified.{IsFramed, IsLed, IsNamed, IsOrdered}
use Rattle.psy_gen.proofs.verified.Marking.{height_behind}

-- ---- what is known

-- What an instruction names is there, and the owner may name it.
abbrev pub Asks : Whole → Code → Owner → Instr → Type 0
Asks unit code owner i = IsNamed unit code owner i × IsOrdered owner i

-- A function that is called with so many arguments, and what a call of it holds at most
pub record Called (code : Code) (marks : Marks) (owner : Owner) (depth : Depth) (function arguments : ℕ) : Type 0 where
  pub its : FunctionCode
  pub at : slice_get code.functions function ≡ Some its
  pub params : its.params ≡ arguments
  pub ordered : IsOrdered owner (instr.Call function)
  pub needs : marks.needs function ≡ depth.operands
  pub uses : marks.uses function ≡ depth.cells

-- The code of an owner between two places: its marks, and what its statements may name
pub record Own : Type 0 where
  pub unit : Whole
  pub code : Code
  pub marks : Marks
  pub owner : Owner
  -- its first place and its last
  pub low : ℕ
  pub high : ℕ
  -- by place, how many operands are there
  pub height : ℕ → ℕ
  -- what its statements may name, what calls hold by function, and how many bounded loops it has
  pub sc : Scope
  pub depths : List Depth
  pub count : ℕ
  -- of its places
  pub next : (place : ℕ) (i : Instr) → slice_get code.instrs place ≡ Some i → height (place + 1) ≡ height_behind (height place) (shifts code place i)
  pub marked : (place : ℕ) → low ≤ place → place ≤ high → marks.at place ≡ Some (record { owner = owner; height = height place })
  pub ends : (place : ℕ) → low ≤ place → place ≤ high → HasEndFor code owner place
  -- of what its statements may name
  pub copy : (variable : ℕ) → HasCopy sc variable → Asks unit code owner (instr.LoadCopy variable) × Asks unit code owner (instr.StoreCopy variable)
  pub past : (variable back : ℕ) → HasPast sc variable back → Asks unit code owner (instr.Past variable back)
  pub stream : (stream : ℕ) → HasStream sc stream → Asks unit code owner (instr.Ready stream) × Asks unit code owner (instr.Take stream)
  pub send : (stream after clock : ℕ) → CanSend sc stream after clock → Asks unit code owner (instr.Send stream after clock)
  pub call : (function arguments : ℕ) → HasFunction sc function arguments
      → Called code marks owner (slice_index_or depths function shallow) function arguments
  -- of its frame
  pub cells : total sc.layout ≤ cells_of code owner
  pub counters : count ≤ counters_of code owner

-- ---- kinds of instructions

-- It names nothing outside the frame.
abbrev pub IsCalm : Instr → Type 0
IsCalm (instr.LoadCopy variable) = ⊥
IsCalm (instr.StoreCopy variable) = ⊥
IsCalm (instr.Past variable back) = ⊥
IsCalm (instr.Ready stream) = ⊥
IsCalm (instr.Take stream) = ⊥
IsCalm (instr.Send stream after clock) = ⊥
IsCalm (instr.Call function) = ⊥
IsCalm (instr.Advance point) = ⊥
IsCalm _ = ⊤

-- It ends no action.
abbrev pub StaysOn : Instr → Type 0
StaysOn (instr.Advance point) = ⊥
StaysOn _ = ⊤

-- It calls no function.
abbrev pub CallsNone : Instr → Type 0
CallsNone (instr.Call function) = ⊥
CallsNone _ = ⊤

stays_led : (code : Code) (owner : Owner) (place : ℕ) (i : Instr) → StaysOn i → IsLed code owner place i
stays_led code (Agent number) place (instr.Advance point) h = absurd h
stays_led code (Agent number) place _ h = tt {0}
stays_led code (Function number) place i h = tt {0}

none_room : (code : Code) (marks : Marks) (mark : Mark) (i : Instr) → CallsNone i → HasRoomFor code marks mark i
none_room code marks mark (instr.Call function) h = absurd h
none_room code marks mark _ h = tt {0}

calm_stays : (i : Instr) → IsCalm i → StaysOn i
calm_stays (instr.Advance point) h = h
calm_stays _ h = tt {0}

calm_none : (i : Instr) → IsCalm i → CallsNone i
calm_none (instr.Call function) h = h
calm_none _ h = tt {0}

calm_named : (unit : Whole) (code : Code) (owner : Owner) (i : Instr) → IsCalm i → IsNamed unit code owner i
calm_named unit code owner (instr.LoadCopy variable) h = absurd h
calm_named unit code owner (instr.StoreCopy variable) h = absurd h
calm_named unit code owner (instr.Past variable back) h = absurd h
calm_named unit code owner (instr.Ready stream) h = absurd h
calm_named unit code owner (instr.Take stream) h = absurd h
calm_named unit code owner (instr.Send stream after clock) h = absurd h
calm_named unit code owner (instr.Call function) h = absurd h
calm_named unit code owner _ h = tt {0}

calm_ordered : (owner : Owner) (i : Instr) → IsCalm i → IsOrdered owner i
calm_ordered (Agent number) i h = tt {0}
calm_ordered (Function number) (instr.LoadCopy variable) h = absurd h
calm_ordered (Function number) (instr.StoreCopy variable) h = absurd h
calm_ordered (Function number) (instr.Past variable back) h = absurd h
calm_ordered (Function number) (instr.Ready stream) h = absurd h
calm_ordered (Function number) (instr.Take stream) h = absurd h
calm_ordered (Function number) (instr.Send stream after clock) h = absurd h
calm_ordered (Function number) (instr.Call function) h = absurd h
calm_ordered (Function number) (instr.Advance point) h = absurd h
calm_ordered (Function number) _ h = tt {0}

module _ (o : Own) where
  -- How many operands the owner may hold
  abbrev pub most : ℕ
  most = most_held o.code o.marks o.owner

  -- So much fits on top of this height.
  abbrev pub Fit : ℕ → Depth → Type 0
  Fit height depth = (height + depth.operands ≤ most) × (own_used o.code o.owner + depth.cells ≤ most_used o.code o.marks o.owner)

  -- The place keeps all rules.
  abbrev pub Marked : ℕ → Type 0
  Marked place = IsMarked o.unit o.code o.marks place (record { owner = o.owner; height = o.height place })

  abbrev pub At : ℕ → Instr → Type 0
  At place i = slice_get o.code.instrs place ≡ Some i

  abbrev pub Goes : ℕ → Shift → Type 0
  Goes height shift = (o.low ≤ shift.to) × (shift.to ≤ o.high) × (o.height shift.to ≡ height - shift.pops + shift.pushes)

  -- What an instruction says where it stands at this height
  pub record Says (i : Instr) (place height : ℕ) : Type 0 where
    pub finds : Finds o.code place i height
    pub goes : Each (Goes height) (shifts o.code place i)
    pub held : height ≤ most
    pub called : HasRoomFor o.code o.marks (record { owner = o.owner; height = height }) i
    pub framed : IsFramed o.code o.owner i
    pub asks : Asks o.unit o.code o.owner i
    pub led : IsLed o.code o.owner place i

  each_goes : (height : ℕ) (ways : List Shift) → Each (Goes height) ways → Each (GoesTo o.marks (record { owner = o.owner; height = height })) ways
  each_goes height [] h = tt {0}
  each_goes height (shift ∷ rest) h =
      (o.marked shift.to h.0.0 h.0.1 ∙ ap (λ n. Some (record { owner = o.owner; height = n })) h.0.2, each_goes height rest h.1)

  pub one : (i : Instr) (place height : ℕ) → At place i → o.low ≤ place → place ≤ o.high → o.height place ≡ height → Says i place height → Marked place
  one i place height at above below is says =
      let s = subst (Says i place) (sym is) says in
      record {
        here = i;
        inside = at;
        finds = s.finds;
        goes = each_goes (o.height place) (shifts o.code place i) s.goes;
        held = s.held;
        called = s.called;
        framed = s.framed;
        named = s.asks.0;
        ordered = s.asks.1;
        led = s.led;
        ends = o.ends place above below;
      }

  -- The height behind an instruction
  pub height_then : (i : Instr) (place height : ℕ) (ways : List Shift) → At place i → o.height place ≡ height → shifts o.code place i ≡ ways
      → o.height (place + 1) ≡ height_behind height ways
  height_then i place height ways at is goes = o.next place i at ∙ ap (λ n. height_behind n (shifts o.code place i)) is ∙ ap (height_behind height) goes

  -- An instruction that goes on to the next place: it is marked, and the height behind it is known.
  abbrev pub Passes : ℕ → ℕ → Type 0
  Passes place height = Marked place × (o.height (place + 1) ≡ height)

  pub passes : (i : Instr) (place height pops pushes : ℕ) → At place i → o.low ≤ place → place + 1 ≤ o.high → o.height place ≡ height
      → shifts o.code place i ≡ onto (place + 1) pops pushes → Finds o.code place i height → height ≤ most
      → HasRoomFor o.code o.marks (record { owner = o.owner; height = height }) i → IsFramed o.code o.owner i → Asks o.unit o.code o.owner i → StaysOn i
      → Passes place (height - pops + pushes)
  passes i place height pops pushes at above below is goes finds held called framed asks other =
      let next : o.height (place + 1) ≡ height - pops + pushes = height_then i place height (onto (place + 1) pops pushes) at is goes in
      let there : Each (Goes height) (onto (place + 1) pops pushes) = ((omega (arith, above), below, next), tt {0}) in (
        one i place height at above (omega (arith, below)) is (record {
          finds = finds;
          goes = subst (Each (Goes height)) (sym goes) there;
          held = held;
          called = called;
          framed = framed;
          asks = asks;
          led = stays_led o.code o.owner place i other;
        }),
        next,
      )

  -- One that names nothing outside the frame
  pub calm : (i : Instr) (place height pops pushes : ℕ) → IsCalm i → At place i → o.low ≤ place → place + 1 ≤ o.high → o.height place ≡ height
      → shifts o.code place i ≡ onto (place + 1) pops pushes → Finds o.code place i height → height ≤ most → IsFramed o.code o.owner i
      → Passes place (height - pops + pushes)
  calm i place height pops pushes is_calm at above below is goes finds held framed =
      passes i place height pops pushes at above below is goes finds held
      (none_room o.code o.marks (record { owner = o.owner; height = height }) i (calm_none i is_calm)) framed
      (calm_named o.unit o.code o.owner i is_calm, calm_ordered o.owner i is_calm) (calm_stays i is_calm)

  -- One that names nothing, wherever it goes
  pub calm_one : (i : Instr) (place height : ℕ) → IsCalm i → At place i → o.low ≤ place → place ≤ o.high → o.height place ≡ height
      → Finds o.code place i height → Each (Goes height) (shifts o.code place i) → height ≤ most → IsFramed o.code o.owner i → Marked place
  calm_one i place height is_calm at above below is finds goes held framed =
      one i place height at above below is (record {
        finds = finds;
        goes = goes;
        held = held;
        called = none_room o.code o.marks (record { owner = o.owner; height = height }) i (calm_none i is_calm);
        framed = framed;
        asks = (calm_named o.unit o.code o.owner i is_calm, calm_ordered o.owner i is_calm);
        led = stays_led o.code o.owner place i (calm_stays i is_calm);
      })

  -- ---- stretches of code

  -- Each place from one to another keeps all rules.
  abbrev pub Over : ℕ → ℕ → Type 0
  Over p r = (q : ℕ) → p ≤ q → q < r → Marked q

  pub over_none : (p : ℕ) → Over p p
  over_none p q above below = absurd (omega (arith, above, below))

  pub over_one : (p : ℕ) → Marked p → Over p (p + 1)
  over_one p m q above below = let same : p ≡ q = omega (arith, above, below) in subst Marked same m

  pub over_then : (p m r : ℕ) → Over p m → Over m r → Over p r
  over_then p m r f g q above below = elim (cases_lt q m) [ inl less ↦ f q above less | inr more ↦ g q more below ]

  pub over_on : (p m : ℕ) → Over p m → Marked m → Over p (m + 1)
  over_on p m f last = over_then p m (m + 1) f (over_one m last)
