-- The bytes of agents are read as they are, where they keep their ranges.
use Rattle.std.proofs.Common.{◌≡◌, ◌∙◌, ℕ, ℤ, suc, ◌-◌, ◌^◌, ◌<◌, ◌≤◌, true, false, cond, List, [], ◌∷◌, ◌++◌, map, length, append-nil, append_assoc, Some, refl, sym, ap, subst, arith}
use Rattle.std.specs.Prelude.{FitsSigned, bytes_eq, slice_get}
use Rattle.std.specs.Int.{w32}
use Rattle.std.specs.List.{flat_map, list_any}
use Rattle.std.proofs.lemmas.Bool.{lt-ltb}
use Rattle.std.proofs.lemmas.List.{length-map, map-append}
use Rattle.psy_base.specs.declared.limits.TheConstants.{ADVANCE, AGENTS, BUDGET, POINTS, PROCESSORS, VARIABLES}
use Rattle.psy_code.specs.declared.code.AgentCode.{AgentCode}
use Rattle.psy_code.specs.declared.code.CopyInit.{CopyInit}
use Rattle.psy_image.specs.declared.agents.AgentLists.{AgentLists}
use Rattle.psy_image.specs.declared.limits.TheConstants.{AGENT_CELLS, COUNTERS, FRAMES, STACK}
use Rattle.psy_image.specs.declared.seen.Claim.{Claim}
use Rattle.psy_image.specs.declared.seen.Seen.{Seen}
use Rattle.psy_image.specs.Answers.{emptied_agent}
use Rattle.psy_image.specs.Bytes.{agent_bytes, agents_bytes, copy_bytes, declaration_bytes, list_bytes, machine_bytes, name_bytes, number_bytes, paired_bytes, point_bytes, value_bytes}
use Rattle.psy_image.specs.Formats.{Refuse, times, each}
use Rattle.psy_image.specs.Images.{agent, agents, copies, copy, declaration, head, judged, machine, owned_from, point, points, values_up_to}
use Rattle.psy_image.specs.Names.{is_name}
use Rattle.psy_meaning.specs.Sound.{Each}
use Rattle.psy_meaning.specs.Units.{AllDiffer, HasHead, IsBareAgent, IsBarePoint}
use Rattle.psy_tree.specs.declared.unit.AgentDecl.{AgentDecl}
use Rattle.psy_tree.specs.declared.unit.Point.{Point}
use Rattle.psy_tree.specs.declared.unit.Unit.{Unit as Whole}
use Rattle.psy_build.proofs.Fit.{Small}
use Rattle.psy_build.proofs.Gets.{Gets, Says, five, four, gets_by, gets_done, gets_name, gets_number, gets_then, gets_times, gets_value, gets_weaker, three, two}
use Rattle.psy_build.proofs.Lists.{as_many, each_at, each_of, firsts, new_at, paired_is, pairs, place_of, seconds}
use Rattle.psy_build.proofs.SpelledParts.{AreOwned, gets_values, name_more, one_more}

-- An agent's code keeps the ranges of an image.
pub record IsFitAgent (unit : Whole) (number : ℕ) (a : AgentDecl) (c : AgentCode) : Type 0 where
  pub points : length c.points ≡ length a.points
  pub places : Each Small c.points
  pub cells : length c.cells ≤ AGENT_CELLS
  pub values : Each (FitsSigned w32) c.cells
  pub counters : c.counters ≤ COUNTERS
  -- one copy for each variable that it owns, in order
  pub copies : map (λ (k : CopyInit). k.variable) c.copies ≡ owned_from number 0 unit.variables
  pub inits : Each (λ (k : CopyInit). Small k.variable × FitsSigned w32 k.init) c.copies
  pub few : length c.copies ≤ VARIABLES
  pub stack : c.stack ≤ STACK
  pub frames : c.frames ≤ FRAMES

-- ---- points

abbrev Placed : Type 0
Placed = List Point × List ℕ

abbrev Sited : Type 0
Sited = ℕ × Point

abbrev place_in : Sited → ℕ
place_in p = p.0

abbrev point_in : Sited → Point
point_in p = p.1

abbrev PointsRead : Placed → List Sited → Placed → Type 0
PointsRead first so_far s = (s.0 ≡ first.0 ++ map point_in so_far) × (s.1 ≡ first.1 ++ map place_in so_far)

behind : {X Y : Type 0} (f : X → Y) (first s : List Y) (so_far : List X) (x : X) → s ≡ first ++ map f so_far → s ++ f x ∷ [] ≡ first ++ map f (so_far ++ x ∷ [])
behind f first s so_far x is = ap (λ l. l ++ f x ∷ []) is ∙ append_assoc first (map f so_far) (f x ∷ []) ∙ ap (λ l. first ++ l) (sym (map-append f so_far (x ∷ [])))

module _ (unit : Whole) (dates : length unit.clocks ≤ 64) where
  gets_point : (first : Placed) (so_far : List Sited) (p : Sited) (s : Placed) (after : List ℕ) → PointsRead first so_far s → IsBarePoint unit p.1 → Small p.0
      → Gets (λ u now. PointsRead first (so_far ++ p ∷ []) u × (now ≡ after)) (point (length unit.clocks) s) (point_bytes p.0 p.1 ++ after)
  unfolding point
  gets_point first so_far p s after read bare small =
      let P = λ (u : Placed) (now : List ℕ). PointsRead first (so_far ++ p ∷ []) u × (now ≡ after) in
      gets_by P (point (length unit.clocks) s) (point_bytes p.0 p.1 ++ after) _ (four (number_bytes p.1.count) (number_bytes p.1.clock) (number_bytes p.1.budget) (number_bytes p.0) after)
      (gets_number P 1 ADVANCE p.1.count _ _ bare.count.0 bare.count.1 (omega (arith, bare.count.1))
      (gets_number P (1 - length unit.clocks) (length unit.clocks - 1) p.1.clock _ _ (omega (arith, bare.clock)) (omega (arith, bare.clock)) (omega (arith, bare.clock, dates))
      (gets_number P 1 BUDGET p.1.budget _ _ bare.budget.0 bare.budget.1 (omega (arith, bare.budget.1))
      (gets_number P 0 (2 ^ 32 - 1) p.0 _ after (omega arith) (omega (arith, small)) small
      (gets_done P _ after ((behind point_in first.0 s.0 so_far p read.0, behind place_in first.1 s.1 so_far p read.1), refl))))))

  gets_later : (first : Placed) (ps : List Point) (places : List ℕ) (rest : List ℕ) → length places ≡ length ps → Each (IsBarePoint unit) ps → Each Small places
      → Gets (Says (first.0 ++ ps, first.1 ++ places) rest) (times (length ps) (point (length unit.clocks)) first) (paired_bytes point_bytes places ps ++ rest)
  gets_later first ps places rest many bare small =
      let both : List Sited = pairs places ps in
      let bytes : Sited → List ℕ = λ p. point_bytes p.0 p.1 in
      let its_points : map point_in both ≡ ps = seconds places ps many in
      let its_places : map place_in both ≡ places = firsts places ps many in
      let each_bare : Each (IsBarePoint unit) (map point_in both) = subst (Each (IsBarePoint unit)) (sym its_points) bare in
      let each_small : Each Small (map place_in both) = subst (Each Small) (sym its_places) small in
      gets_by (Says (first.0 ++ ps, first.1 ++ places) rest) (times (length ps) (point (length unit.clocks)) first) (paired_bytes point_bytes places ps ++ rest) (flat_map bytes both ++ rest) (ap (λ l. l ++ rest) (paired_is point_bytes places ps))
      (subst (λ n. Gets (Says (first.0 ++ ps, first.1 ++ places) rest) (times n (point (length unit.clocks)) first) (flat_map bytes both ++ rest)) (as_many places ps many)
      (gets_weaker (λ u now. PointsRead first both u × (now ≡ rest)) (Says (first.0 ++ ps, first.1 ++ places) rest) (times (length both) (point (length unit.clocks)) first) (flat_map bytes both ++ rest)
      (gets_times (PointsRead first) bytes (point (length unit.clocks)) both [] both first rest refl (sym (append-nil first.0), sym (append-nil first.1)) (λ so_far p later s after is read.
      gets_point first so_far p s after read
      (each_at (IsBarePoint unit) (map point_in both) (map point_in so_far) p.1 (map point_in later) (ap (map point_in) is ∙ map-append point_in so_far (p ∷ later)) each_bare)
      (each_at Small (map place_in both) (map place_in so_far) p.0 (map place_in later) (ap (map place_in) is ∙ map-append place_in so_far (p ∷ later)) each_small)))
      (λ u now h. (pair u (first.0 ++ ps) (first.1 ++ places) (h.0.0 ∙ ap (λ l. first.0 ++ l) its_points) (h.0.1 ∙ ap (λ l. first.1 ++ l) its_places), h.1))))
    where
      pair : (u : Placed) (xs : List Point) (ys : List ℕ) → u.0 ≡ xs → u.1 ≡ ys → u ≡ (xs, ys)
      pair u xs ys p q = ap (λ (l : List Point). (l, u.1)) p ∙ ap (λ (l : List ℕ). (xs, l)) q

  gets_head : (clock budget place : ℕ) (rest : List ℕ) → clock < length unit.clocks → budget ≤ BUDGET → Small place
      → Gets (Says (record { count = 0; clock = clock; budget = budget } ∷ [], place ∷ []) rest) (head clock budget) (point_bytes place (record { count = 0; clock = clock; budget = budget }) ++ rest)
  unfolding head
  gets_head clock budget place rest there lawful small =
      let P = λ (u : Placed) (now : List ℕ). (u ≡ (record { count = 0; clock = clock; budget = budget } ∷ [], place ∷ [])) × (now ≡ rest) in
      gets_by P (head clock budget) _ _ (four (number_bytes 0) (number_bytes clock) (number_bytes budget) (number_bytes place) rest)
      (gets_number P 0 0 0 _ _ (omega arith) (omega arith) (omega arith)
      (gets_number P clock clock clock _ _ (omega arith) (omega arith) (omega (arith, there, dates))
      (gets_number P budget budget budget _ _ (omega arith) (omega arith) (omega (arith, lawful))
      (gets_number P 0 (2 ^ 32 - 1) place _ rest (omega arith) (omega (arith, small)) small
      (gets_done P _ rest (refl, refl))))))

  gets_points : (a : AgentDecl) (its : List Point) (places : List ℕ) (rest : List ℕ) → IsBareAgent unit a → HasHead a its (IsBarePoint unit) → length its ≤ POINTS → length places ≡ length its → Each Small places
      → Gets (Says (its, places) rest) (points (length unit.clocks) a.clock a.budget) ((number_bytes (length its) ++ paired_bytes point_bytes places its) ++ rest)
  unfolding points
  gets_points a [] places rest bare has few many small = absurd has
  gets_points a (first ∷ its) [] rest bare has few many small = absurd (omega (arith, many))
  gets_points a (first ∷ its) (place ∷ places) rest bare has few many small =
      let P = λ (u : Placed) (now : List ℕ). (u ≡ (first ∷ its, place ∷ places)) × (now ≡ rest) in
      let head_is : Point = record { count = 0; clock = a.clock; budget = a.budget } in
      let others : List ℕ = paired_bytes point_bytes places its ++ rest in
      let same : first ≡ head_is = has.0 in
      gets_by P (points (length unit.clocks) a.clock a.budget) _ (number_bytes (suc (length its)) ++ (point_bytes place head_is ++ others))
      (three (number_bytes (suc (length its))) (point_bytes place first) (paired_bytes point_bytes places its) rest ∙ ap (λ p. number_bytes (suc (length its)) ++ (point_bytes place p ++ others)) same)
      (gets_number P 1 POINTS (suc (length its)) _ (point_bytes place head_is ++ others) (omega arith) few (omega (arith, few))
      (gets_then (Says (head_is ∷ [], place ∷ []) others) P (head a.clock a.budget) _ (point_bytes place head_is ++ others) (gets_head a.clock a.budget place others bare.clock bare.budget.1 small.0)
      (λ u now h. gets_by P _ now others h.1 (more u h.0 same))))
    where
      more : (u : Placed) → u ≡ (record { count = 0; clock = a.clock; budget = a.budget } ∷ [], place ∷ []) → first ≡ record { count = 0; clock = a.clock; budget = a.budget }
          → Gets (λ (u : Placed) (now : List ℕ). (u ≡ (first ∷ its, place ∷ places)) × (now ≡ rest)) (times (suc (length its) - 1) (point (length unit.clocks)) u) (paired_bytes point_bytes places its ++ rest)
      more u is same =
          let begun : Placed = (first ∷ [], place ∷ []) in
          let starts : u ≡ begun = is ∙ ap (λ (p : Point). (p ∷ [], place ∷ [])) (sym same) in
          let count : length its ≡ suc (length its) - 1 = omega arith in
          subst (λ n. Gets (λ (v : Placed) (now : List ℕ). (v ≡ (first ∷ its, place ∷ places)) × (now ≡ rest)) (times n (point (length unit.clocks)) u) (paired_bytes point_bytes places its ++ rest)) count
          (subst (λ (v : Placed). Gets (λ (w : Placed) (now : List ℕ). (w ≡ (first ∷ its, place ∷ places)) × (now ≡ rest)) (times (length its) (point (length unit.clocks)) v) (paired_bytes point_bytes places its ++ rest)) (sym starts)
          (gets_later begun its places rest (omega (arith, many)) (each_of (IsBarePoint unit) its has.1) small.1))

-- ---- copies

gets_each : (so_far cs : List CopyInit) (rest : List ℕ) → Each (λ (k : CopyInit). Small k.variable × FitsSigned w32 k.init) cs
    → Gets (Says (so_far ++ cs) rest) (each (map (λ (k : CopyInit). k.variable) cs) copy so_far) (flat_map copy_bytes cs ++ rest)
unfolding each copy
gets_each so_far [] rest fits = gets_done (Says (so_far ++ []) rest) so_far rest (sym (append-nil so_far), refl)
gets_each so_far (k ∷ cs) rest fits =
    let P = Says (so_far ++ k ∷ cs) rest in
    let after : List ℕ = flat_map copy_bytes cs ++ rest in
    gets_by P (each (map (λ (k : CopyInit). k.variable) (k ∷ cs)) copy so_far) (flat_map copy_bytes (k ∷ cs) ++ rest) (number_bytes k.variable ++ (value_bytes k.init ++ after))
    (append_assoc (copy_bytes k) (flat_map copy_bytes cs) rest ∙ two (number_bytes k.variable) (value_bytes k.init) after)
    (gets_number P k.variable k.variable k.variable _ (value_bytes k.init ++ after) (omega arith) (omega arith) fits.0.0
    (gets_value P k.init _ after fits.0.1
    (subst (λ l. Gets (Says l rest) (each (map (λ (k : CopyInit). k.variable) cs) copy (so_far ++ k ∷ [])) after) (append_assoc so_far (k ∷ []) cs) (gets_each (so_far ++ k ∷ []) cs rest fits.1))))

gets_copies : (owned : List ℕ) (cs : List CopyInit) (rest : List ℕ) → map (λ (k : CopyInit). k.variable) cs ≡ owned → length cs ≤ VARIABLES → Each (λ (k : CopyInit). Small k.variable × FitsSigned w32 k.init) cs
    → Gets (Says cs rest) (copies owned) (list_bytes copy_bytes cs ++ rest)
unfolding copies
gets_copies owned cs rest same few fits = subst (λ l. Gets (Says cs rest) (copies l) (list_bytes copy_bytes cs ++ rest)) same
    (let its : List ℕ = map (λ (k : CopyInit). k.variable) cs in
    let count : length its ≡ length cs = length-map cs (λ (k : CopyInit). k.variable) in
    gets_by (Says cs rest) (copies its) (list_bytes copy_bytes cs ++ rest) (number_bytes (length cs) ++ (flat_map copy_bytes cs ++ rest)) (append_assoc (number_bytes (length cs)) (flat_map copy_bytes cs) rest)
    (gets_number (Says cs rest) (length its) (length its) (length cs) _ (flat_map copy_bytes cs ++ rest) (omega (arith, count)) (omega (arith, count)) (omega (arith, few)) (gets_each [] cs rest fits)))

-- ---- an agent

gets_machine : (unit : Whole) (number : ℕ) (a : AgentDecl) (c : AgentCode) (rest : List ℕ) → IsFitAgent unit number a c → Gets (Says c rest) (machine (owned_from number 0 unit.variables) c.points) (machine_bytes c ++ rest)
unfolding machine
gets_machine unit number a c rest fit =
    let P = Says c rest in
    let t3 : List ℕ = number_bytes c.stack ++ (number_bytes c.frames ++ rest) in
    let t2 : List ℕ = number_bytes c.counters ++ (list_bytes copy_bytes c.copies ++ t3) in
    gets_by P (machine (owned_from number 0 unit.variables) c.points) (machine_bytes c ++ rest) (list_bytes value_bytes c.cells ++ t2)
    (five (list_bytes value_bytes c.cells) (number_bytes c.counters) (list_bytes copy_bytes c.copies) (number_bytes c.stack) (number_bytes c.frames) rest)
    (gets_then (Says c.cells t2) P (values_up_to AGENT_CELLS) _ (list_bytes value_bytes c.cells ++ t2) (gets_values AGENT_CELLS c.cells t2 fit.cells (omega (arith, fit.cells)) fit.values)
    (λ cells now h. gets_by P _ now t2 h.1
    (gets_number P 0 COUNTERS c.counters _ (list_bytes copy_bytes c.copies ++ t3) (omega arith) fit.counters (omega (arith, fit.counters))
    (gets_then (Says c.copies t3) P (copies (owned_from number 0 unit.variables)) _ (list_bytes copy_bytes c.copies ++ t3) (gets_copies (owned_from number 0 unit.variables) c.copies t3 fit.copies fit.few fit.inits)
    (λ its after g. gets_by P _ after t3 g.1
    (gets_number P 0 STACK c.stack _ (number_bytes c.frames ++ rest) (omega arith) fit.stack (omega (arith, fit.stack))
    (gets_number P 0 FRAMES c.frames _ rest (omega arith) fit.frames (omega (arith, fit.frames))
    (gets_done P _ rest (ap (λ (l : List ℤ). record c { cells = l; copies = its }) h.0 ∙ ap (λ (l : List CopyInit). record c { copies = l }) g.0, refl)))))))))

gets_declaration : (unit : Whole) (names : List (List ℕ)) (a : AgentDecl) (places : List ℕ) (rest : List ℕ) → length unit.clocks ≤ 64 → IsBareAgent unit a → is_name a.name ≡ true → list_any (bytes_eq a.name) names ≡ false
    → length places ≡ length a.points → Each Small places → Gets (Says (emptied_agent a, places) rest) (declaration (length unit.clocks) names) (declaration_bytes a places ++ rest)
unfolding declaration
gets_declaration unit names a places rest dates bare good new many small =
    let P = λ (u : AgentDecl × List ℕ) (now : List ℕ). (u ≡ (emptied_agent a, places)) × (now ≡ rest) in
    let pointed : List ℕ = number_bytes (length a.points) ++ paired_bytes point_bytes places a.points in
    gets_by P (declaration (length unit.clocks) names) (declaration_bytes a places ++ rest) (name_bytes a.name ++ (number_bytes a.clock ++ (number_bytes a.budget ++ (number_bytes a.processor ++ (pointed ++ rest)))))
    (five (name_bytes a.name) (number_bytes a.clock) (number_bytes a.budget) (number_bytes a.processor) pointed rest)
    (gets_name P names a.name _ _ good new
    (gets_number P (1 - length unit.clocks) (length unit.clocks - 1) a.clock _ _ (omega (arith, bare.clock)) (omega (arith, bare.clock)) (omega (arith, bare.clock, dates))
    (gets_number P 1 BUDGET a.budget _ _ bare.budget.0 bare.budget.1 (omega (arith, bare.budget.1))
    (gets_number P 0 (PROCESSORS - 1) a.processor _ (pointed ++ rest) (omega arith) (omega (arith, bare.processor)) (omega (arith, bare.processor))
    (gets_then (Says (a.points, places) rest) P (points (length unit.clocks) a.clock a.budget) _ (pointed ++ rest) (gets_points unit dates a a.points places rest bare bare.points bare.limit many small)
    (λ u now h. gets_done P _ now (ap (λ (v : List Point × List ℕ). (record (emptied_agent a) { points = v.0 }, v.1)) h.0, h.1)))))))

-- ---- all of them

abbrev Coupled : Type 0
Coupled = AgentDecl × AgentCode

abbrev pub name_of : Coupled → List ℕ
name_of p = p.0.name

abbrev pub bare_of : Coupled → AgentDecl
bare_of p = emptied_agent p.0

abbrev pub code_for : Coupled → AgentCode
code_for p = p.1

abbrev pub AgentsRead : List (List ℕ) → List Coupled → AgentLists → Type 0
AgentsRead prior so_far s = (s.names ≡ prior ++ map name_of so_far) × (s.agents ≡ map bare_of so_far) × (s.codes ≡ map code_for so_far)

gets_judged : (count : ℕ) (claims : List Claim) (rest : List ℕ) → AreOwned count claims → Gets (Says tt rest) (judged count claims) rest
unfolding judged
gets_judged count [] rest owned = gets_done (Says tt rest) tt rest (refl, refl)
gets_judged count (claim ∷ claims) rest owned =
    subst (λ b. Gets (Says tt rest) (cond b (judged count claims) (Refuse claim.left)) rest) (sym (lt-ltb claim.agent count owned.0)) (gets_judged count claims rest owned.1)

gets_agent : (unit : Whole) (prior : List (List ℕ)) (so_far : List Coupled) (p : Coupled) (s : AgentLists) (after : List ℕ) → length unit.clocks ≤ 64 → AgentsRead prior so_far s → list_any (bytes_eq p.0.name) (prior ++ map name_of so_far) ≡ false
    → is_name p.0.name ≡ true → IsBareAgent unit p.0 → IsFitAgent unit (length so_far) p.0 p.1
    → Gets (λ u now. AgentsRead prior (so_far ++ p ∷ []) u × (now ≡ after)) (agent (length unit.clocks) unit.variables s) (agent_bytes p.0 p.1 ++ after)
unfolding agent
gets_agent unit prior so_far p s after dates read new good bare fit =
    let P = λ (u : AgentLists) (now : List ℕ). AgentsRead prior (so_far ++ p ∷ []) u × (now ≡ after) in
    let middle : List ℕ = machine_bytes p.1 ++ after in
    let number : length so_far ≡ length s.agents = sym (ap length read.1 ∙ length-map so_far bare_of) in
    gets_by P (agent (length unit.clocks) unit.variables s) (agent_bytes p.0 p.1 ++ after) (declaration_bytes p.0 p.1.points ++ middle) (two (declaration_bytes p.0 p.1.points) (machine_bytes p.1) after)
    (gets_then (Says (emptied_agent p.0, p.1.points) middle) P (declaration (length unit.clocks) s.names) _ (declaration_bytes p.0 p.1.points ++ middle)
    (gets_declaration unit s.names p.0 p.1.points middle dates bare good (ap (list_any (bytes_eq p.0.name)) read.0 ∙ new) fit.points fit.places)
    (λ its now h. gets_by P _ now middle h.1
    (gets_then (Says p.1 after) P (machine (owned_from (length s.agents) 0 unit.variables) its.1) _ middle (machined its h.0 number)
    (λ code then g. gets_done P _ then (
      (
        ap (λ (v : AgentDecl × List ℕ). s.names ++ v.0.name ∷ []) h.0 ∙ name_more name_of prior s.names so_far p read.0,
        one_more bare_of s.agents so_far p its.0 read.1 (ap (λ (v : AgentDecl × List ℕ). v.0) h.0),
        one_more code_for s.codes so_far p code read.2 g.0,
      ),
      g.1,
    )))))
  where
    machined : (its : AgentDecl × List ℕ) → its ≡ (emptied_agent p.0, p.1.points) → length so_far ≡ length s.agents → Gets (Says p.1 after) (machine (owned_from (length s.agents) 0 unit.variables) its.1) (machine_bytes p.1 ++ after)
    machined its is number =
        let the_places : its.1 ≡ p.1.points = ap (λ (v : AgentDecl × List ℕ). v.1) is in
        subst (λ n. Gets (Says p.1 after) (machine (owned_from n 0 unit.variables) its.1) (machine_bytes p.1 ++ after)) number
        (subst (λ places. Gets (Says p.1 after) (machine (owned_from (length so_far) 0 unit.variables) places) (machine_bytes p.1 ++ after)) (sym the_places) (gets_machine unit (length so_far) p.0 p.1 after fit))

pub gets_agents : (unit : Whole) (codes : List AgentCode) (prior : List (List ℕ)) (seen : Seen) (rest : List ℕ) → length unit.agents ≡ length codes → length unit.agents ≤ AGENTS → length unit.clocks ≤ 64
    → Each (λ (a : AgentDecl). is_name a.name ≡ true) unit.agents → Each (IsBareAgent unit) unit.agents
    → ((number : ℕ) (p : Coupled) → slice_get (pairs unit.agents codes) number ≡ Some p → IsFitAgent unit number p.0 p.1)
    → AllDiffer (prior ++ (map (λ (a : AgentDecl). a.name) unit.agents ++ [])) → seen.names ≡ prior → AreOwned (length unit.agents) seen.claims
    → Gets (λ u now. ((u.agents ≡ map emptied_agent unit.agents) × (u.codes ≡ codes)) × (now ≡ rest)) (agents (length unit.clocks) unit.variables seen) (agents_bytes unit.agents codes ++ rest)
unfolding agents agents_bytes
gets_agents unit codes prior seen rest many few dates good bare fits differ names owned =
    let ps : List Coupled = pairs unit.agents codes in
    let P = λ (u : AgentLists) (now : List ℕ). ((u.agents ≡ map emptied_agent unit.agents) × (u.codes ≡ codes)) × (now ≡ rest) in
    let bytes : Coupled → List ℕ = λ p. agent_bytes p.0 p.1 in
    let count : length ps ≡ length codes = as_many unit.agents codes many in
    let decls : map (λ (p : Coupled). p.0) ps ≡ unit.agents = firsts unit.agents codes many in
    let its_codes : map code_for ps ≡ codes = seconds unit.agents codes many in
    let crew : length codes ≡ length unit.agents = sym many in
    let differ_all : AllDiffer (prior ++ (map name_of ps ++ [])) = subst (λ l. AllDiffer (prior ++ (l ++ []))) (ap (map (λ (a : AgentDecl). a.name)) (sym decls) ∙ mapped (λ (a : AgentDecl). a.name) ps) differ in
    gets_by P (agents (length unit.clocks) unit.variables seen) ((number_bytes (length codes) ++ paired_bytes agent_bytes unit.agents codes) ++ rest) (number_bytes (length codes) ++ (flat_map bytes ps ++ rest))
    (append_assoc (number_bytes (length codes)) (paired_bytes agent_bytes unit.agents codes) rest ∙ ap (λ l. number_bytes (length codes) ++ (l ++ rest)) (paired_is agent_bytes unit.agents codes))
    (gets_number P 0 AGENTS (length codes) _ (flat_map bytes ps ++ rest) (omega arith) (omega (arith, many, few)) (omega (arith, many, few))
    (gets_then (Says tt (flat_map bytes ps ++ rest)) P (judged (length codes) seen.claims) _ (flat_map bytes ps ++ rest) (gets_judged (length codes) seen.claims (flat_map bytes ps ++ rest) (subst (λ n. AreOwned n seen.claims) (sym crew) owned))
    (λ done now h. gets_by P _ now (flat_map bytes ps ++ rest) h.1
    (subst (λ n. Gets P (times n (agent (length unit.clocks) unit.variables) (record { names = seen.names; agents = []; codes = [] })) (flat_map bytes ps ++ rest)) count
    (gets_weaker (λ u now. AgentsRead prior ps u × (now ≡ rest)) P (times (length ps) (agent (length unit.clocks) unit.variables) (record { names = seen.names; agents = []; codes = [] })) (flat_map bytes ps ++ rest)
    (gets_times (AgentsRead prior) bytes (agent (length unit.clocks) unit.variables) ps [] ps (record { names = seen.names; agents = []; codes = [] }) rest refl (names ∙ sym (append-nil prior), refl, refl) (λ so_far p later s after is read.
    gets_agent unit prior so_far p s after dates read (new_at name_of prior ps so_far p later [] is differ_all)
    (each_at (λ (a : AgentDecl). is_name a.name ≡ true) (map (λ (p : Coupled). p.0) ps) (map (λ (p : Coupled). p.0) so_far) p.0 (map (λ (p : Coupled). p.0) later) (ap (map (λ (p : Coupled). p.0)) is ∙ map-append (λ (p : Coupled). p.0) so_far (p ∷ later))
    (subst (Each (λ (a : AgentDecl). is_name a.name ≡ true)) (sym decls) good))
    (each_at (IsBareAgent unit) (map (λ (p : Coupled). p.0) ps) (map (λ (p : Coupled). p.0) so_far) p.0 (map (λ (p : Coupled). p.0) later) (ap (map (λ (p : Coupled). p.0)) is ∙ map-append (λ (p : Coupled). p.0) so_far (p ∷ later))
    (subst (Each (IsBareAgent unit)) (sym decls) bare))
    (fits (length so_far) p (place_of ps so_far p later is))))
    (λ u now g. ((g.0.1 ∙ sym (mapped emptied_agent ps) ∙ ap (map emptied_agent) decls, g.0.2 ∙ its_codes), g.1)))))))
  where
    mapped : {Y : Type 0} (f : AgentDecl → Y) (ps : List Coupled) → map f (map (λ (p : Coupled). p.0) ps) ≡ map (λ (p : Coupled). f p.0) ps
    mapped f [] = refl
    mapped f (p ∷ ps) = ap (λ l. f p.0 ∷ l) (mapped f ps)
