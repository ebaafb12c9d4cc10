-- The bytes of what a unit declares, and of its functions, are read as it, where it keeps its ranges.
use Rattle.std.proofs.Common.{◌≡◌, ◌∙◌, ℕ, ℤ, ◌+◌, ◌-◌, ◌^◌, ◌<◌, ◌≤◌, true, cond, eqb, List, [], ◌∷◌, ◌++◌, map, length, append-nil, append_assoc, Option, Some, None, refl, sym, ap, subst, arith}
use Rattle.std.specs.Prelude.{Bool, FitsSigned, bytes_eq, false}
use Rattle.std.specs.Int.{w32}
use Rattle.std.specs.List.{list_any}
use Rattle.std.proofs.lemmas.Bool.{eqb-true}
use Rattle.std.proofs.lemmas.List.{map-append}
use Rattle.psy_base.specs.declared.limits.TheConstants.{CLOCKS, DEPTH, FUNCTIONS, KEEP, NAMES, STREAMS, VARIABLES}
use Rattle.psy_clock.specs.declared.clock.Clock.{Clock}
use Rattle.psy_clock.specs.declared.clock.TheConstants.{PERIOD}
use Rattle.psy_clock.specs.Dates.{IsClock}
use Rattle.psy_code.specs.declared.code.FunctionCode.{FunctionCode}
use Rattle.psy_image.specs.declared.limits.TheConstants.{COUNTERS}
use Rattle.psy_image.specs.declared.seen.Claim.{Claim}
use Rattle.psy_image.specs.declared.seen.Seen.{Seen}
use Rattle.psy_image.specs.Bytes.{clock_bytes, clocks_bytes, function_bytes, list_bytes, name_bytes, number_bytes, owner_number, paired_bytes, stream_bytes, value_bytes, variable_bytes}
use Rattle.psy_image.specs.Images.{claim_of, clock, clocks, function, functions, owner_of, stream, streams, value, values_up_to, variable, variables}
use Rattle.psy_image.specs.Names.{is_name}
use Rattle.psy_meaning.proofs.lemmas.Eaches.{each-append}
use Rattle.psy_meaning.specs.Sound.{Each}
use Rattle.psy_meaning.specs.Units.{AllDiffer, IsBareStream, IsBareVariable, OwnedWithin}
use Rattle.psy_tree.specs.declared.unit.StreamDecl.{StreamDecl}
use Rattle.psy_tree.specs.declared.unit.Unit.{Unit as Whole}
use Rattle.psy_tree.specs.declared.unit.VarDecl.{VarDecl}
use Rattle.psy_build.proofs.Fit.{Small}
use Rattle.psy_build.proofs.Gets.{Gets, Says, five, four, gets_by, gets_counted, gets_done, gets_here, gets_name, gets_number, gets_then, gets_value, gets_weaker, three}
use Rattle.psy_build.proofs.Lists.{as_many, each_at, firsts, new_at, paired_is, pairs, seconds}

-- One more of what was read
pub one_more : {X Y : Type 0} (f : X → Y) (s : List Y) (so_far : List X) (x : X) (y : Y) → s ≡ map f so_far → y ≡ f x → s ++ y ∷ [] ≡ map f (so_far ++ x ∷ [])
one_more f s so_far x y is same = ap (λ l. l ++ y ∷ []) is ∙ ap (λ z. map f so_far ++ z ∷ []) same ∙ sym (map-append f so_far (x ∷ []))

-- One more, which is the same by another name
pub pushed : {X : Type 0} (s so_far : List X) (x y : X) → s ≡ so_far → x ≡ y → s ++ x ∷ [] ≡ so_far ++ y ∷ []
pushed s so_far x y is same = ap (λ l. l ++ x ∷ []) is ∙ ap (λ z. so_far ++ z ∷ []) same

-- One name more behind others
pub name_more : {X : Type 0} (name_of : X → List ℕ) (prior s : List (List ℕ)) (so_far : List X) (x : X) → s ≡ prior ++ map name_of so_far → s ++ name_of x ∷ [] ≡ prior ++ map name_of (so_far ++ x ∷ [])
name_more name_of prior s so_far x is =
    ap (λ l. l ++ name_of x ∷ []) is ∙ append_assoc prior (map name_of so_far) (name_of x ∷ []) ∙ ap (λ l. prior ++ l) (sym (map-append name_of so_far (x ∷ [])))

-- ---- values

pub gets_values : (most : ℕ) (zs : List ℤ) (rest : List ℕ) → length zs ≤ most → Small (length zs) → Each (FitsSigned w32) zs → Gets (Says zs rest) (values_up_to most) (list_bytes value_bytes zs ++ rest)
unfolding values_up_to value
gets_values most zs rest few small fits =
    gets_counted (λ so_far s. s ≡ so_far) value_bytes most value zs [] rest few small refl (λ so_far z later s after is same.
    gets_value (λ u now. (u ≡ so_far ++ z ∷ []) × (now ≡ after)) z _ after (each_at (FitsSigned w32) zs so_far z later is fits)
    (gets_done (λ u now. (u ≡ so_far ++ z ∷ []) × (now ≡ after)) (s ++ z ∷ []) after (ap (λ l. l ++ z ∷ []) same, refl)))

-- ---- clocks

abbrev Named : Type 0
Named = List ℕ × Clock

abbrev name_of : Named → List ℕ
name_of p = p.0

abbrev clock_of : Named → Clock
clock_of p = p.1

abbrev ClocksRead : List Named → List (List ℕ) × List Clock → Type 0
ClocksRead so_far s = (s.0 ≡ [] ++ map name_of so_far) × (s.1 ≡ map clock_of so_far)

pub gets_clocks : (names : List (List ℕ)) (its : List Clock) (tail : List (List ℕ)) (rest : List ℕ) → length names ≡ length its → length its ≤ CLOCKS → Each (λ name. is_name name ≡ true) names → Each IsClock its → AllDiffer (names ++ tail)
    → Gets (Says (names, its) rest) clocks (clocks_bytes names its ++ rest)
unfolding clocks clock clocks_bytes
gets_clocks names its tail rest many few good lawful differ =
    let ps : List Named = pairs names its in
    let its_names : map name_of ps ≡ names = firsts names its many in
    let its_clocks : map clock_of ps ≡ its = seconds names its many in
    let count : length ps ≡ length its = as_many names its many in
    let bytes : Named → List ℕ = λ p. clock_bytes p.0 p.1 in
    let differ_all : AllDiffer ([] ++ (map name_of ps ++ tail)) = subst (λ l. AllDiffer (l ++ tail)) (sym its_names) differ in
    let each_good : Each (λ name. is_name name ≡ true) (map name_of ps) = subst (Each (λ name. is_name name ≡ true)) (sym its_names) good in
    let each_lawful : Each IsClock (map clock_of ps) = subst (Each IsClock) (sym its_clocks) lawful in
    gets_by (Says (names, its) rest) clocks (clocks_bytes names its ++ rest) (list_bytes bytes ps ++ rest)
    (ap (λ n. (number_bytes n ++ paired_bytes clock_bytes names its) ++ rest) (sym count) ∙ ap (λ l. (number_bytes (length ps) ++ l) ++ rest) (paired_is clock_bytes names its))
    (gets_weaker (λ u now. ClocksRead ps u × (now ≡ rest)) (Says (names, its) rest) clocks (list_bytes bytes ps ++ rest)
    (gets_counted ClocksRead bytes CLOCKS clock ps ([], []) rest (omega (arith, count, few)) (omega (arith, count, few)) (refl, refl) (λ so_far p later s after is read.
    one ps so_far p later s after is read (new_at name_of [] ps so_far p later tail is differ_all) (at_name ps so_far p later is each_good) (at_clock ps so_far p later is each_lawful)))
    (λ u now h. (pair u names its (h.0.0 ∙ its_names) (h.0.1 ∙ its_clocks), h.1)))
  where
    pair : (u : List (List ℕ) × List Clock) (names : List (List ℕ)) (its : List Clock) → u.0 ≡ names → u.1 ≡ its → u ≡ (names, its)
    pair u names its p q = ap (λ (l : List (List ℕ)). (l, u.1)) p ∙ ap (λ (l : List Clock). (names, l)) q

    at_name : (ps so_far : List Named) (p : Named) (later : List Named) → ps ≡ so_far ++ p ∷ later → Each (λ name. is_name name ≡ true) (map name_of ps) → is_name p.0 ≡ true
    at_name ps so_far p later is h = each_at (λ name. is_name name ≡ true) (map name_of ps) (map name_of so_far) p.0 (map name_of later) (ap (map name_of) is ∙ map-append name_of so_far (p ∷ later)) h

    at_clock : (ps so_far : List Named) (p : Named) (later : List Named) → ps ≡ so_far ++ p ∷ later → Each IsClock (map clock_of ps) → IsClock p.1
    at_clock ps so_far p later is h = each_at IsClock (map clock_of ps) (map clock_of so_far) p.1 (map clock_of later) (ap (map clock_of) is ∙ map-append clock_of so_far (p ∷ later)) h

    one : (ps so_far : List Named) (p : Named) (later : List Named) (s : List (List ℕ) × List Clock) (after : List ℕ) → ps ≡ so_far ++ p ∷ later → ClocksRead so_far s → list_any (bytes_eq p.0) ([] ++ map name_of so_far) ≡ false → is_name p.0 ≡ true → IsClock p.1
        → Gets (λ u now. ClocksRead (so_far ++ p ∷ []) u × (now ≡ after)) (clock s) (clock_bytes p.0 p.1 ++ after)
    one ps so_far p later s after is read new good lawful =
        let P = λ (u : List (List ℕ) × List Clock) (now : List ℕ). ClocksRead (so_far ++ p ∷ []) u × (now ≡ after) in
        gets_by P (clock s) (clock_bytes p.0 p.1 ++ after) _ (three (name_bytes p.0) (number_bytes p.1.period) (number_bytes p.1.first) after)
        (gets_name P s.0 p.0 _ _ good (ap (list_any (bytes_eq p.0)) read.0 ∙ new)
        (gets_number P 1 PERIOD p.1.period _ _ (omega (arith, lawful.first)) lawful.period (omega (arith, lawful.period))
        (gets_number P (1 - p.1.period) (p.1.period - 1) p.1.first _ after (omega (arith, lawful.first)) (omega (arith, lawful.first)) (omega (arith, lawful.first, lawful.period))
        (gets_done P _ after ((one_more name_of s.0 so_far p p.0 read.0 refl, one_more clock_of s.1 so_far p p.1 read.1 refl), refl)))))

-- ---- variables

owner_back : (o : Option ℕ) → owner_of (owner_number o) ≡ o
owner_back None = refl
owner_back (Some k) = by (eqb (k + 1) 0) refl
  where
    by : (b : Bool) → eqb (k + 1) 0 ≡ b → cond b None (Some (k + 1 - 1)) ≡ Some k
    by true e = absurd (omega (arith, eqb-true (k + 1) 0 e))
    by false e = ap Some (omega arith)

-- Each owner and receiver is one of so many agents.
abbrev pub AreOwned : ℕ → List Claim → Type 0
AreOwned agents claims = Each (λ (c : Claim). c.agent < agents) claims

claim_owned : (agents : ℕ) (o : Option ℕ) (at : ℕ) → OwnedWithin agents o → AreOwned agents (claim_of (owner_number o) at)
claim_owned agents None at h = tt
claim_owned agents (Some k) at h = by (eqb (k + 1) 0) refl
  where
    by : (b : Bool) → eqb (k + 1) 0 ≡ b → AreOwned agents (cond b [] (record { agent = k + 1 - 1; left = at } ∷ []))
    by true e = tt
    by false e = (omega (arith, h), tt)

owner_small : (agents : ℕ) (o : Option ℕ) → agents ≤ 64 → OwnedWithin agents o → Small (owner_number o)
owner_small agents None few h = omega arith
owner_small agents (Some k) few h = omega (arith, few, h)

abbrev pub VariablesRead : ℕ → List (List ℕ) → List VarDecl → Seen × List VarDecl → Type 0
VariablesRead agents prior so_far s = (s.1 ≡ so_far) × (s.0.names ≡ prior ++ map (λ (v : VarDecl). v.name) so_far) × AreOwned agents s.0.claims

pub gets_variables : (unit : Whole) (prior tail : List (List ℕ)) (seen : Seen) (vs : List VarDecl) (rest : List ℕ) → length vs ≤ VARIABLES → length unit.agents ≤ 64 → length unit.clocks ≤ CLOCKS
    → Each (λ (v : VarDecl). is_name v.name ≡ true) vs → Each (IsBareVariable unit) vs → Each (λ (v : VarDecl). FitsSigned w32 v.init) vs → AllDiffer (prior ++ (map (λ (v : VarDecl). v.name) vs ++ tail))
    → seen.names ≡ prior → AreOwned (length unit.agents) seen.claims
    → Gets (λ u now. VariablesRead (length unit.agents) prior vs u × (now ≡ rest)) (variables (length unit.clocks) seen) (list_bytes variable_bytes vs ++ rest)
unfolding variables variable
gets_variables unit prior tail seen vs rest few crew dates good bare fits differ names owned =
    gets_counted (VariablesRead (length unit.agents) prior) variable_bytes VARIABLES (variable (length unit.clocks)) vs (seen, []) rest few (omega (arith, few)) (refl, names ∙ sym (append-nil prior), owned) (λ so_far v later s after is read.
    one so_far v s after read (new_at (λ (v : VarDecl). v.name) prior vs so_far v later tail is differ) (each_at (λ (v : VarDecl). is_name v.name ≡ true) vs so_far v later is good)
    (each_at (IsBareVariable unit) vs so_far v later is bare) (each_at (λ (v : VarDecl). FitsSigned w32 v.init) vs so_far v later is fits))
  where
    one : (so_far : List VarDecl) (v : VarDecl) (s : Seen × List VarDecl) (after : List ℕ) → VariablesRead (length unit.agents) prior so_far s → list_any (bytes_eq v.name) (prior ++ map (λ (v : VarDecl). v.name) so_far) ≡ false
        → is_name v.name ≡ true → IsBareVariable unit v → FitsSigned w32 v.init
        → Gets (λ u now. VariablesRead (length unit.agents) prior (so_far ++ v ∷ []) u × (now ≡ after)) (variable (length unit.clocks) s) (variable_bytes v ++ after)
    one so_far v s after read new good bare fits =
        let P = λ (u : Seen × List VarDecl) (now : List ℕ). VariablesRead (length unit.agents) prior (so_far ++ v ∷ []) u × (now ≡ after) in
        let small : Small (owner_number v.owner) = owner_small (length unit.agents) v.owner crew bare.owner in
        gets_by P (variable (length unit.clocks) s) (variable_bytes v ++ after) _ (five (name_bytes v.name) (number_bytes (owner_number v.owner)) (number_bytes v.clock) (value_bytes v.init) (number_bytes v.depth) after)
        (gets_name P s.0.names v.name _ _ good (ap (list_any (bytes_eq v.name)) read.1 ∙ new)
        (gets_here P _ _
        (gets_number P 0 (2 ^ 32 - 1) (owner_number v.owner) _ _ (omega arith) (omega (arith, small)) small
        (gets_number P (1 - length unit.clocks) (length unit.clocks - 1) v.clock _ _ (omega (arith, bare.clock)) (omega (arith, bare.clock)) (omega (arith, bare.clock, dates))
        (gets_value P v.init _ _ fits
        (gets_number P 1 DEPTH v.depth _ after bare.depth.0 bare.depth.1 (omega (arith, bare.depth.1))
        (gets_done P _ after (
          (
            pushed s.1 so_far (record v { owner = owner_of (owner_number v.owner) }) v read.0 (ap (λ (o : Option ℕ). record v { owner = o }) (owner_back v.owner)),
            name_more (λ (v : VarDecl). v.name) prior s.0.names so_far v read.1,
            each-append (λ (c : Claim). c.agent < length unit.agents) s.0.claims (claim_of (owner_number v.owner) _) read.2 (claim_owned (length unit.agents) v.owner _ bare.owner),
          ),
          refl,
        ))))))))

-- ---- streams

abbrev pub StreamsRead : ℕ → List (List ℕ) → List StreamDecl → Seen × List StreamDecl → Type 0
StreamsRead agents prior so_far s = (s.1 ≡ so_far) × (s.0.names ≡ prior ++ map (λ (c : StreamDecl). c.name) so_far) × AreOwned agents s.0.claims

pub gets_streams : (unit : Whole) (prior tail : List (List ℕ)) (seen : Seen) (cs : List StreamDecl) (rest : List ℕ) → length cs ≤ STREAMS → length unit.agents ≤ 64 → length unit.clocks ≤ CLOCKS
    → Each (λ (c : StreamDecl). is_name c.name ≡ true) cs → Each (IsBareStream unit) cs → AllDiffer (prior ++ (map (λ (c : StreamDecl). c.name) cs ++ tail)) → seen.names ≡ prior → AreOwned (length unit.agents) seen.claims
    → Gets (λ u now. StreamsRead (length unit.agents) prior cs u × (now ≡ rest)) (streams (length unit.clocks) seen) (list_bytes stream_bytes cs ++ rest)
unfolding streams stream
gets_streams unit prior tail seen cs rest few crew dates good bare differ names owned =
    gets_counted (StreamsRead (length unit.agents) prior) stream_bytes STREAMS (stream (length unit.clocks)) cs (seen, []) rest few (omega (arith, few)) (refl, names ∙ sym (append-nil prior), owned) (λ so_far c later s after is read.
    one so_far c s after read (new_at (λ (c : StreamDecl). c.name) prior cs so_far c later tail is differ) (each_at (λ (c : StreamDecl). is_name c.name ≡ true) cs so_far c later is good)
    (each_at (IsBareStream unit) cs so_far c later is bare))
  where
    one : (so_far : List StreamDecl) (c : StreamDecl) (s : Seen × List StreamDecl) (after : List ℕ) → StreamsRead (length unit.agents) prior so_far s → list_any (bytes_eq c.name) (prior ++ map (λ (c : StreamDecl). c.name) so_far) ≡ false
        → is_name c.name ≡ true → IsBareStream unit c
        → Gets (λ u now. StreamsRead (length unit.agents) prior (so_far ++ c ∷ []) u × (now ≡ after)) (stream (length unit.clocks) s) (stream_bytes c ++ after)
    one so_far c s after read new good bare =
        let P = λ (u : Seen × List StreamDecl) (now : List ℕ). StreamsRead (length unit.agents) prior (so_far ++ c ∷ []) u × (now ≡ after) in
        let small : Small c.receiver = omega (arith, bare.receiver, crew) in
        gets_by P (stream (length unit.clocks) s) (stream_bytes c ++ after) _ (four (name_bytes c.name) (number_bytes c.receiver) (number_bytes c.keep) (number_bytes c.clock) after)
        (gets_name P s.0.names c.name _ _ good (ap (list_any (bytes_eq c.name)) read.1 ∙ new)
        (gets_here P _ _
        (gets_number P 0 (2 ^ 32 - 1) c.receiver _ _ (omega arith) (omega (arith, small)) small
        (gets_number P 1 KEEP c.keep _ _ bare.keep.0 bare.keep.1 (omega (arith, bare.keep.1))
        (gets_number P (1 - length unit.clocks) (length unit.clocks - 1) c.clock _ after (omega (arith, bare.clock)) (omega (arith, bare.clock)) (omega (arith, bare.clock, dates))
        (gets_done P _ after (
          (
            pushed s.1 so_far c c read.0 refl,
            name_more (λ (c : StreamDecl). c.name) prior s.0.names so_far c read.1,
            each-append (λ (d : Claim). d.agent < length unit.agents) s.0.claims _ read.2 (bare.receiver, tt {0}),
          ),
          refl,
        )))))))

-- ---- functions

-- A function keeps the ranges of an image.
pub record IsFitFunction (f : FunctionCode) : Type 0 where
  pub entry : Small f.entry
  pub slots : f.params + length f.locals ≤ NAMES
  pub locals : Each (FitsSigned w32) f.locals
  pub counters : f.counters ≤ COUNTERS

pub gets_functions : (fs : List FunctionCode) (rest : List ℕ) → length fs ≤ FUNCTIONS → Each IsFitFunction fs → Gets (Says fs rest) functions (list_bytes function_bytes fs ++ rest)
unfolding functions function
gets_functions fs rest few fits =
    gets_counted (λ so_far s. s ≡ so_far) function_bytes FUNCTIONS function fs [] rest few (omega (arith, few)) refl (λ so_far f later s after is same. one so_far f s after same (each_at IsFitFunction fs so_far f later is fits))
  where
    one : (so_far : List FunctionCode) (f : FunctionCode) (s : List FunctionCode) (after : List ℕ) → s ≡ so_far → IsFitFunction f → Gets (λ u now. (u ≡ so_far ++ f ∷ []) × (now ≡ after)) (function s) (function_bytes f ++ after)
    one so_far f s after same fit =
        let P = λ (u : List FunctionCode) (now : List ℕ). (u ≡ so_far ++ f ∷ []) × (now ≡ after) in
        gets_by P (function s) (function_bytes f ++ after) _ (four (number_bytes f.entry) (number_bytes f.params) (list_bytes value_bytes f.locals) (number_bytes f.counters) after)
        (gets_number P 0 (2 ^ 32 - 1) f.entry _ _ (omega arith) (omega (arith, fit.entry)) fit.entry
        (gets_number P 0 NAMES f.params _ _ (omega arith) (omega (arith, fit.slots)) (omega (arith, fit.slots))
        (gets_then (Says f.locals (number_bytes f.counters ++ after)) P (values_up_to (NAMES - f.params)) _ _ (gets_values (NAMES - f.params) f.locals (number_bytes f.counters ++ after) (omega (arith, fit.slots)) (omega (arith, fit.slots)) fit.locals)
        (λ locals now h. gets_by P _ now (number_bytes f.counters ++ after) h.1
        (gets_number P 0 COUNTERS f.counters _ after (omega arith) fit.counters (omega (arith, fit.counters))
        (gets_done P _ after (pushed s so_far (record f { locals = locals }) f same (ap (λ (l : List ℤ). record f { locals = l }) h.0), refl)))))))
