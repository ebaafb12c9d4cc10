-- What an image says of clocks, variables, streams and functions.
use Rattle.std.proofs.Common.{◌≡◌, ◌∙◌, ℕ, ℤ, ◌+◌, ◌-◌, ◌^◌, ◌<◌, ◌≤◌, Bool, true, false, cond, eqb, List, [], ◌∷◌, ◌++◌, map, length, append_assoc, append-nil, None, Some, refl, sym, ap, arith}
use Rattle.std.specs.Prelude.{⊤, FitsSigned}
use Rattle.std.specs.Int.{w32}
use Rattle.std.specs.List.{All}
use Rattle.std.proofs.lemmas.List.{length_push, map-append}
use Rattle.std.proofs.lemmas.List.Elements.{All-nil, All-push}
use Rattle.psy_base.specs.declared.limits.TheConstants.{CLOCKS, DEPTH, FUNCTIONS, KEEP, NAMES, STREAMS, VARIABLES}
use Rattle.psy_clock.specs.Dates.{IsClock}
use Rattle.psy_clock.specs.declared.clock.Clock.{Clock}
use Rattle.psy_code.specs.declared.code.FunctionCode.{FunctionCode}
use Rattle.psy_code.specs.declared.instr.Instr.{Instr}
use Rattle.psy_image.specs.declared.seen.Claim.{Claim}
use Rattle.psy_image.specs.declared.seen.Seen.{Seen}
use Rattle.psy_image.specs.Fields.{Fits, Number}
use Rattle.psy_image.specs.Images.{claim_of, clock, clocks, function, functions, instr, instrs, owner_of, stream, streams, value, values_up_to, variable, variables}
use Rattle.psy_image.specs.Instructions.{instruction}
use Rattle.psy_image.specs.Names.{is_name}
use Rattle.psy_tree.specs.declared.unit.StreamDecl.{StreamDecl}
use Rattle.psy_tree.specs.declared.unit.VarDecl.{VarDecl}
use Rattle.psy_meaning.specs.Units.{IsName, OwnedWithin, Within}
use Rattle.psy_verify.proofs.images.Names.{AreNames, names_push}
use Rattle.psy_verify.proofs.images.Said.{Says, says_any, says_counted, says_then, weaker}

-- The number of one of so many things
pub below_is : (count n : ℕ) → Fits (Number (1 - count) (count - 1)) n → n < count
below_is count n fits = omega (arith, fits.0, fits.1)

-- Names that are those of a list behind others stay so with one more.
pub follow_push : {X : Type 0} (name : X → List ℕ) (first names : List (List ℕ)) (xs : List X) (x : X) → names ≡ first ++ map name xs → names ++ name x ∷ [] ≡ first ++ map name (xs ++ x ∷ [])
follow_push name first names xs x is =
    ap (λ ns. ns ++ name x ∷ []) is ∙ append_assoc first (map name xs) (name x ∷ []) ∙ ap (λ ns. first ++ ns) (sym (map-append name xs (x ∷ [])))

-- ---- owners and receivers

-- Each claim is of one of so many agents.
abbrev pub AreBelow : ℕ → List Claim → Type 0
AreBelow count [] = ⊤
AreBelow count (claim ∷ claims) = (claim.agent < count) × AreBelow count claims

below_front : (count : ℕ) (some more : List Claim) → AreBelow count (some ++ more) → AreBelow count some
below_front count [] more h = tt
below_front count (claim ∷ some) more h = (h.0, below_front count some more h.1)

below_back : (count : ℕ) (some more : List Claim) → AreBelow count (some ++ more) → AreBelow count more
below_back count [] more h = h
below_back count (claim ∷ some) more h = below_back count some more h.1

owner_below : (count owner at : ℕ) → AreBelow count (claim_of owner at) → OwnedWithin count (owner_of owner)
owner_below count owner at = by (eqb owner 0)
  where
    by : (b : Bool) → AreBelow count (cond b [] (record { agent = owner - 1; left = at } ∷ [])) → OwnedWithin count (cond b None (Some (owner - 1)))
    by true h = tt
    by false h = h.0

-- ---- what is said of each

pub record AreClocks (s : List (List ℕ) × List Clock) : Type 0 where
  pub names : AreNames s.0
  pub lawful : All IsClock s.1
  pub as_many : length s.0 ≡ length s.1

pub record IsVariableOf (clocks : ℕ) (v : VarDecl) : Type 0 where
  pub name : IsName v.name
  pub clock : v.clock < clocks
  pub depth : Within 1 DEPTH v.depth
  pub init : FitsSigned w32 v.init

-- The names are those before, and then those of the variables; an owner is one of so many agents, where each claim is.
pub record AreVariables (clocks : ℕ) (first : List (List ℕ)) (s : Seen × List VarDecl) : Type 0 where
  pub names : AreNames s.0.names
  pub follow : s.0.names ≡ first ++ map (λ (v : VarDecl). v.name) s.1
  pub each : All (IsVariableOf clocks) s.1
  pub owned : (count : ℕ) → AreBelow count s.0.claims → All (λ v. OwnedWithin count v.owner) s.1

pub record IsStreamOf (clocks : ℕ) (s : StreamDecl) : Type 0 where
  pub name : IsName s.name
  pub clock : s.clock < clocks
  pub keep : Within 1 KEEP s.keep

-- The same of streams, behind what was seen before
pub record AreStreams (clocks : ℕ) (before : Seen) (s : Seen × List StreamDecl) : Type 0 where
  pub names : AreNames s.0.names
  pub follow : s.0.names ≡ before.names ++ map (λ (s : StreamDecl). s.name) s.1
  pub each : All (IsStreamOf clocks) s.1
  pub owned : (count : ℕ) → AreBelow count s.0.claims → AreBelow count before.claims × All (λ s. s.receiver < count) s.1

-- A function has at most 64 locals.
abbrev pub HasFew : FunctionCode → Type 0
HasFew f = length f.locals ≤ NAMES

no_names : AreNames []
no_names = record { each = All-nil IsName; differ = λ i j name at_i at_j. cc }

module _ (named : (text : List ℕ) → is_name text ≡ true → IsName text) where
  -- ---- clocks

  says_clock : (s : List (List ℕ) × List Clock) → AreClocks s → Says (λ t. AreClocks t × (length t.1 ≡ length s.1 + 1)) (clock s)
  unfolding clock
  says_clock s h = λ name good period some first lawful.
      let it : Clock = record { period = period; first = first } in (
        record {
          names = names_push s.0 name h.names (named name good.0) good.1;
          lawful = All-push IsClock s.1 it h.lawful (record { first = below_is period first lawful; period = some.1 });
          as_many = omega (arith, length_push s.0 name, length_push s.1 it, h.as_many);
        },
        length_push s.1 it,
      )

  pub says_clocks : Says (λ s. AreClocks s × (length s.1 ≤ CLOCKS)) clocks
  unfolding clocks
  says_clocks = says_counted (λ (s : List (List ℕ) × List Clock). s.1) AreClocks CLOCKS clock ([], []) refl
      (record { names = no_names; lawful = All-nil IsClock; as_many = refl }) says_clock

  -- ---- variables

  says_variable : (count : ℕ) (first : List (List ℕ)) (s : Seen × List VarDecl) → AreVariables count first s
      → Says (λ t. AreVariables count first t × (length t.1 ≡ length s.1 + 1)) (variable count s)
  unfolding variable
  says_variable count first s h = λ name good at owner fits clock there init whole depth range.
      let it : VarDecl = record { name = name; owner = owner_of owner; clock = clock; init = init; depth = depth } in
      let is : IsVariableOf count it = record { name = named name good.0; clock = below_is count clock there; depth = (range.0, range.1); init = whole } in (
        record {
          names = names_push s.0.names name h.names (named name good.0) good.1;
          follow = follow_push (λ (v : VarDecl). v.name) first s.0.names s.1 it h.follow;
          each = All-push (IsVariableOf count) s.1 it h.each is;
          owned = λ agents below. All-push (λ (v : VarDecl). OwnedWithin agents v.owner) s.1 it (h.owned agents (below_front agents s.0.claims (claim_of owner at) below))
              (owner_below agents owner at (below_back agents s.0.claims (claim_of owner at) below));
        },
        length_push s.1 it,
      )

  pub says_variables : (count : ℕ) (names : List (List ℕ)) → AreNames names
      → Says (λ s. AreVariables count names s × (length s.1 ≤ VARIABLES)) (variables count (record { names = names; claims = [] }))
  unfolding variables
  says_variables count names h = says_counted (λ (s : Seen × List VarDecl). s.1) (AreVariables count names) VARIABLES (variable count) (record { names = names; claims = [] }, []) refl
      (record {
        names = h;
        follow = sym (append-nil names);
        each = All-nil (IsVariableOf count);
        owned = λ agents below. All-nil (λ (v : VarDecl). OwnedWithin agents v.owner);
      })
      (says_variable count names)

  -- ---- streams

  says_stream : (count : ℕ) (before : Seen) (s : Seen × List StreamDecl) → AreStreams count before s
      → Says (λ t. AreStreams count before t × (length t.1 ≡ length s.1 + 1)) (stream count s)
  unfolding stream
  says_stream count before s h = λ name good at receiver fits keep range clock there.
      let it : StreamDecl = record { name = name; receiver = receiver; keep = keep; clock = clock } in
      let is : IsStreamOf count it = record { name = named name good.0; clock = below_is count clock there; keep = (range.0, range.1) } in
      let claim : Claim = record { agent = receiver; left = at } in (
        record {
          names = names_push s.0.names name h.names (named name good.0) good.1;
          follow = follow_push (λ (s : StreamDecl). s.name) before.names s.0.names s.1 it h.follow;
          each = All-push (IsStreamOf count) s.1 it h.each is;
          owned = λ agents below.
              let (old, all) = h.owned agents (below_front agents s.0.claims (claim ∷ []) below) in
              (old, All-push (λ (s : StreamDecl). s.receiver < agents) s.1 it all (below_back agents s.0.claims (claim ∷ []) below).0);
        },
        length_push s.1 it,
      )

  pub says_streams : (count : ℕ) (before : Seen) → AreNames before.names → Says (λ s. AreStreams count before s × (length s.1 ≤ STREAMS)) (streams count before)
  unfolding streams
  says_streams count before h = says_counted (λ (s : Seen × List StreamDecl). s.1) (AreStreams count before) STREAMS (stream count) (before, []) refl
      (record {
        names = h;
        follow = sym (append-nil before.names);
        each = All-nil (IsStreamOf count);
        owned = λ agents below. (below, All-nil (λ (s : StreamDecl). s.receiver < agents));
      })
      (says_stream count before)

-- ---- functions and instructions

pub says_values : (most : ℕ) → Says (λ values. length values ≤ most) (values_up_to most)
unfolding values_up_to value
says_values most = weaker (λ values. ⊤ × (length values ≤ most)) (λ values. length values ≤ most) (values_up_to most)
    (says_counted (λ (s : List ℤ). s) (λ s. ⊤) most value [] refl tt (λ s h z fits. (tt, length_push s z))) (λ values h. h.1)

says_function : (s : List FunctionCode) → All HasFew s → Says (λ t. All HasFew t × (length t ≡ length s + 1)) (function s)
unfolding function
says_function s h = λ entry any params few. says_then (λ locals. length locals ≤ NAMES - params) (λ t. All HasFew t × (length t ≡ length s + 1)) (values_up_to (NAMES - params)) _
    (says_values (NAMES - params)) (λ locals short counters range.
    let it : FunctionCode = record { entry = entry; params = params; locals = locals; counters = counters } in
    (All-push HasFew s it h (omega (arith, short)), length_push s it))

pub says_functions : Says (λ s. All HasFew s × (length s ≤ FUNCTIONS)) functions
unfolding functions
says_functions = says_counted (λ (s : List FunctionCode). s) (All HasFew) FUNCTIONS function [] refl (All-nil HasFew) says_function

says_instr : (s : List Instr) → Says (λ t. ⊤ × (length t ≡ length s + 1)) (instr s)
unfolding instr
says_instr s = says_then (λ i. ⊤) (λ t. ⊤ × (length t ≡ length s + 1)) instruction _ (says_any instruction) (λ i h. (tt, length_push s i))

pub says_instrs : Says (λ s. ⊤ × (length s ≤ 2 ^ 32 - 1)) instrs
unfolding instrs
says_instrs = says_counted (λ (s : List Instr). s) (λ s. ⊤) (2 ^ 32 - 1) instr [] refl tt (λ s h. says_instr s)
