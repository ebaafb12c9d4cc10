-- The code of a unit's functions keeps all rules.
use Rattle.std.proofs.Common.{◌≡◌, ℕ, zero, suc, ◌+◌, ◌<◌, ◌≤◌, List, [], ◌∷◌, ◌++◌, map, length, Some, refl, sym, ap, subst, ◌∙◌, arith, append_assoc, length-append}
use Rattle.std.specs.Prelude.{◌-◌, true, pos, slice_get, slice_index_or}
use Rattle.std.proofs.lemmas.List.{length-map}
use Rattle.std.proofs.lemmas.Option.{get_or_from_slice_get, slice_get_within}
use Rattle.psy_lists.proofs.lemmas.Tests.{differ}
use Rattle.psy_code.specs.declared.code.Code.{Code}
use Rattle.psy_code.specs.declared.code.FunctionCode.{FunctionCode}
use Rattle.psy_code.specs.declared.instr.Instr.{Instr}
use Rattle.psy_code.specs.declared.instr.Instr.TheVariants as instr
use Rattle.psy_tree.specs.declared.unit.FunctionDecl.{FunctionDecl}
use Rattle.psy_tree.specs.declared.unit.Unit.{Unit as Whole}
use Rattle.psy_meaning.specs.Depths.{Depth, call_depth, call_depths, call_depths_from, loops_in, shallow}
use Rattle.psy_meaning.specs.Sizes.{stmts_size}
use Rattle.psy_meaning.specs.Paths.{advances_in}
use Rattle.psy_meaning.specs.Sound.{AreSoundFunctions, HasFunction, IsSoundFunction, IsSoundUnit, function_scope}
use Rattle.psy_flow.specs.Owners.{Agent, Function, function_code_at}
use Rattle.psy_gen.specs.Emission.{agent_code, agent_size, code_of, codes_from, function_code, function_entries, function_entry, function_layout, function_size, functions_size, places_in, stmts_code}
use Rattle.psy_gen.proofs.Alikes.{whole_has}
use Rattle.psy_gen.proofs.Basics.{no_some, some_is}
use Rattle.psy_gen.proofs.Contexts.{HasAt, has-first}
use Rattle.psy_gen.proofs.Equations.{placed}
use Rattle.psy_gen.proofs.Small.{ones}
use Rattle.psy_gen.proofs.Wholes.{codes_length, function_length}
use Rattle.psy_gen.proofs.ways.Behinds.{stmts_behind}
use Rattle.psy_gen.proofs.verified.Marking.{height_at, height_next, mark_for, marks_of, owners_from, owners_of}
use Rattle.psy_gen.proofs.verified.Own.{Called, Own}
use Rattle.psy_gen.proofs.verified.Stmts.{Does, Led, Pairs, body_does, returned}
use Rattle.psy_gen.proofs.verified.Stretches.{code_at, got_front, owner_at, owners_length, start_high, start_of}

-- ---- where the codes stand

module _ (unit : Whole) where
  abbrev front : List Instr
  front = codes_from function_code function_size unit.functions 0

  abbrev back : List Instr
  back = codes_from agent_code agent_size unit.agents (functions_size unit.functions)

  pub functions_stand : HasAt (code_of unit).instrs 0 front
  functions_stand = has-first (front ++ back) 0 front back (whole_has [] (front ++ back))

  pub agents_stand : HasAt (code_of unit).instrs (functions_size unit.functions) back
  agents_stand = subst (λ n. HasAt (front ++ back) n back) (codes_length function_code function_size function_length unit.functions 0) (whole_has front back)

-- ---- what calls begin with

pub entry_at : (fs : List FunctionDecl) (p n : ℕ) (f : FunctionDecl) → slice_get fs n ≡ Some f
    → slice_get (function_entries fs p) n ≡ Some (function_entry f (start_of function_size p fs n))
entry_at [] p n f got = no_some f got
entry_at (g ∷ fs) p zero f got = ap (λ h. Some (function_entry h p)) (some_is g f got)
entry_at (g ∷ fs) p (suc n) f got = entry_at fs (p + function_size g) n f got

pub entries_length : (fs : List FunctionDecl) (p : ℕ) → length (function_entries fs p) ≡ length fs
entries_length [] p = refl
entries_length (f ∷ fs) p = ap suc (entries_length fs (p + function_size f))

-- ---- a function by its number

index_front : (ds es : List Depth) (k : ℕ) → k < length ds → slice_index_or (ds ++ es) k shallow ≡ slice_index_or ds k shallow
index_front [] es k less = absurd (omega (arith, less))
index_front (d ∷ ds) es zero less = refl
index_front (d ∷ ds) es (suc k) less = index_front ds es k (omega (arith, less))

index_last : (ds : List Depth) (d : Depth) → slice_index_or (ds ++ d ∷ []) (length ds) shallow ≡ d
index_last [] d = refl
index_last (e ∷ ds) d = index_last ds d

one_more : {A : Type 0} (xs : List A) (x : A) → length (xs ++ x ∷ []) ≡ length xs + 1
one_more xs x = length-append xs (x ∷ [])

depths_keep : (fs : List FunctionDecl) (ds : List Depth) (k : ℕ) → k < length ds
    → slice_index_or (call_depths_from ds fs) k shallow ≡ slice_index_or ds k shallow
depths_keep [] ds k less = refl
depths_keep (f ∷ fs) ds k less =
    depths_keep fs (ds ++ call_depth ds f ∷ []) k (omega (arith, less, one_more ds (call_depth ds f))) ∙ index_front ds (call_depth ds f ∷ []) k less

-- What is known of a function of these, where those above stand before: what it may call, and what calls of all hold
pub record KnownOf (above fs : List FunctionDecl) (ds : List Depth) (n : ℕ) (f : FunctionDecl) : Type 0 where
  pub callees : List FunctionDecl
  pub depths : List Depth
  pub sound : IsSoundFunction callees f
  pub many : length callees ≡ length above + n
  pub as_many : length depths ≡ length callees
  pub called : (k : ℕ) (decl : FunctionDecl) → slice_get callees k ≡ Some decl → slice_get (above ++ fs) k ≡ Some decl
  pub deep : (k : ℕ) → k < length callees → slice_index_or (call_depths_from ds fs) k shallow ≡ slice_index_or depths k shallow
  pub own : slice_index_or (call_depths_from ds fs) (length callees) shallow ≡ call_depth depths f

known_of : (above fs : List FunctionDecl) (ds : List Depth) (n : ℕ) (f : FunctionDecl) → AreSoundFunctions above fs → length ds ≡ length above
    → slice_get fs n ≡ Some f → KnownOf above fs ds n f
known_of above [] ds n f sound same got = no_some f got
known_of above (g ∷ fs) ds zero f sound same got =
    let more = ds ++ call_depth ds g ∷ [] in
    subst (KnownOf above (g ∷ fs) ds 0) (some_is g f got) (record {
      callees = above;
      depths = ds;
      sound = sound.0;
      many = omega arith;
      as_many = same;
      called = λ k decl found. got_front above (g ∷ fs) k (slice_get_within above k decl found) ∙ found;
      deep = λ k less. depths_keep (g ∷ fs) ds k (omega (arith, less, same));
      own = ap (λ n. slice_index_or (call_depths_from more fs) n shallow) (sym same)
          ∙ depths_keep fs more (length ds) (omega (arith, one_more ds (call_depth ds g))) ∙ index_last ds (call_depth ds g);
    })
known_of above (g ∷ fs) ds (suc n) f sound same got =
    let k = known_of (above ++ g ∷ []) fs (ds ++ call_depth ds g ∷ []) n f sound.1
    (omega (arith, same, one_more ds (call_depth ds g), one_more above g)) got in
    record {
      callees = k.callees;
      depths = k.depths;
      sound = k.sound;
      many = omega (arith, k.many, one_more above g);
      as_many = k.as_many;
      called = λ i decl found. subst (λ l. slice_get l i ≡ Some decl) (append_assoc above (g ∷ []) fs) (k.called i decl found);
      deep = k.deep;
      own = k.own;
    }

-- ---- pairs of what isn't there

all_pairs : (P : ℕ → ℕ → Type 0) → ((x y : ℕ) → P x y) → (xs ys : List ℕ) → Pairs P xs ys
all_pairs P all [] ys = tt {0}
all_pairs P all (x ∷ xs) [] = tt {0}
all_pairs P all (x ∷ xs) (y ∷ ys) = (all x y, all_pairs P all xs ys)

-- ---- its code

module _ (unit : Whole) (sound : IsSoundUnit unit) (n : ℕ) (f : FunctionDecl) (got : slice_get unit.functions n ≡ Some f) where
  abbrev code : Code
  code = code_of unit

  abbrev pub function_start : ℕ
  function_start = start_of function_size 0 unit.functions n

  pub known : KnownOf [] unit.functions [] n f
  known = known_of [] unit.functions [] n f sound.functions refl got

  abbrev its : FunctionCode
  its = function_code_at code n

  pub its_is : its ≡ function_entry f function_start
  its_is = get_or_from_slice_get code.functions n (function_entry f function_start) _ (entry_at unit.functions 0 n f got)

  pub params_is : its.params ≡ f.params
  params_is = ap (λ (e : FunctionCode). e.params) its_is

  pub locals_is : length its.locals ≡ length f.locals
  locals_is = ap (λ (e : FunctionCode). length e.locals) its_is ∙ length-map f.locals (λ l. l.init)

  pub counters_is : its.counters ≡ loops_in f.stmts
  counters_is = ap (λ (e : FunctionCode). e.counters) its_is

  number_is : length known.callees ≡ n
  number_is = omega (arith, known.many)

  depth_is : slice_index_or (call_depths unit.functions) n shallow ≡ call_depth known.depths f
  depth_is = ap (λ k. slice_index_or (call_depths unit.functions) k shallow) (sym number_is) ∙ known.own

  pub calls : (k arguments : ℕ) → HasFunction (function_scope known.callees [] [] f) k arguments
      → Called code (marks_of unit) (Function n) (slice_index_or known.depths k shallow) k arguments
  calls k arguments (decl, found, same) =
      let less = slice_get_within known.callees k decl found in
      let deep = known.deep k less in
      record {
        its = function_entry decl (start_of function_size 0 unit.functions k);
        at = entry_at unit.functions 0 k decl (known.called k decl found);
        params = sym same;
        ordered = omega (arith, less, number_is);
        needs = ap (λ (d : Depth). d.operands) deep;
        uses = ap (λ (d : Depth). d.cells) deep;
      }

  pub its_owner : (place : ℕ) → function_start ≤ place → place ≤ function_start + stmts_size f.stmts + 1 → slice_get (owners_of unit) place ≡ Some (Function n)
  its_owner place above below =
      let these = owners_from function_size Function 0 unit.functions in
      let z : 0 + n ≡ n = omega arith in
      let all = start_high function_size 0 unit.functions n f got in
      got_front these (owners_from agent_size Agent 0 unit.agents) place
      (omega (arith, all, below, owners_length function_size Function unit.functions 0))
      ∙ owner_at function_size Function unit.functions 0 0 n f place got (omega (arith, above)) (omega (arith, below)) ∙ ap (λ m. Some (Function m)) z

  abbrev pub function_own : Own
  function_own = record {
    unit = unit;
    code = code;
    marks = marks_of unit;
    owner = Function n;
    low = function_start;
    high = function_start + stmts_size f.stmts + 1;
    height = height_at code;
    sc = function_scope known.callees [] [] f;
    depths = known.depths;
    count = loops_in f.stmts;
    next = height_next code;
    marked = λ place above below. ap (mark_for code place) (its_owner place above below);
    ends = λ place above below. tt {0};
    copy = λ variable has. no_some variable has.1;
    past = λ variable back has. no_some has.0 has.1;
    stream = λ stream has. no_some true has;
    send = λ stream after clock can. differ (sym can.allowed);
    call = calls;
    cells = omega (arith, ones (f.params + length f.locals), params_is, locals_is);
    counters = omega (arith, counters_is);
  }

  pub function_uses : its.params + length its.locals + its.counters ≤ (slice_index_or (call_depths unit.functions) n shallow).cells
  function_uses = omega (arith, params_is, locals_is, counters_is, ap (λ (d : Depth). d.cells) depth_is)

  pub function_done : height_at code function_start ≡ 0
      → Does function_own function_start (function_start + stmts_size f.stmts + 2) (places_in (map placed f.stmts) function_start)
  function_done is =
      let p = function_start in
      let size = stmts_size f.stmts in
      let q = p + size in
      let places = places_in (map placed f.stmts) p in
      let operands = ap (λ (d : Depth). d.operands) depth_is in
      let cells = ap (λ (d : Depth). d.cells) depth_is in
      let end = instr.Push (pos 0) ∷ (instr.Return ∷ []) in
      let has : HasAt code.instrs p (stmts_code (function_layout f) f.stmts 0 p ++ end) =
      code_at function_size function_code function_length code.instrs 0 unit.functions n f (functions_stand unit) got in
      let led : Pairs (Led function_own) (advances_in f.stmts) places =
      all_pairs (Led function_own) (λ point place less. absurd (omega (arith, less))) (advances_in f.stmts) places in
      returned function_own p q places (stmts_behind code.instrs (function_layout f) f.stmts 0 p end has) (omega arith) (omega arith) (omega arith)
      (omega (arith, operands))
      (body_does function_own f.stmts p (omega arith) (omega arith) (has-first code.instrs p (stmts_code (function_layout f) f.stmts 0 p) end has) is
      (known.sound.stmts [] []) (omega (arith, operands), omega (arith, cells, params_is, locals_is, counters_is)) (omega arith) led)
