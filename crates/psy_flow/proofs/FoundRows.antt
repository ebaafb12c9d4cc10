-- Rows of bits: the ends of ways, what is found on them, and the numbers that stand for it.
use Rattle.std.proofs.Common.{◌≡◌, ℕ, zero, suc, ◌+◌, ◌*◌, ◌/◌, ◌%◌, ◌<◌, ◌≤◌, List, [], ◌∷◌, map, length, get_or, Some, refl, sym, ap, subst, ◌∙◌, inl, inr, arith}
use Rattle.std.specs.Prelude.{slice_get, ◌↔◌}
use Rattle.std.specs.List.{Contains}
use Rattle.std.proofs.lemmas.Bool.{cases_lt}
use Rattle.std.proofs.lemmas.List.{get_or_past}
use Rattle.std.proofs.lemmas.Option.{none-some, same_Some, slice_get-get_or, slice_get_within}
use Rattle.psy_base.specs.Extremes.{most_of}
use Rattle.psy_lists.proofs.lemmas.Places.{there}
use Rattle.psy_code.specs.declared.code.Code.{Code}
use Rattle.psy_code.specs.declared.instr.Instr.{Instr}
use Rattle.psy_code.specs.declared.instr.Instr.TheVariants as instr
use Rattle.psy_tree.specs.declared.unit.AgentDecl.{AgentDecl}
use Rattle.psy_tree.specs.declared.unit.Unit.{Unit as Whole}
use Rattle.psy_tree.specs.Parts.{agent_at, no_agent}
use Rattle.psy_meaning.specs.Flow.{Rises}
use Rattle.psy_meaning.specs.ListedWays.{AreByPoint, points_of}
use Rattle.psy_meaning.specs.CodeWays.{AreCodeLooks, AreCodeNexts, CanWalk, IsCodeWay, IsOnWay, IsPassed, ends, first, place_of}
use Rattle.psy_flow.specs.declared.kinds.Sought.{Sought}
use Rattle.psy_flow.specs.declared.kinds.Sought.TheVariants as sought
use Rattle.psy_flow.specs.Bits.{AreEndings, AreGathered, AreOwn, AreRows, HasBit, HasBitAt, HasEnd, HasNumber, IsFoundFrom, IsRow, IsSought, end_cell}
use Rattle.psy_flow.specs.CodeLists.{AreAgentFound, AreAgentNumbers, AreAllNumbers, AreFoundLists, most_points}
use Rattle.psy_flow.specs.Quests.{part_of}
use Rattle.psy_flow.proofs.CodeEnds.{last_of, way_from}
use Rattle.psy_flow.proofs.CodeRows.{by_number, same_points}
use Rattle.psy_flow.proofs.Gathered.{no_bit}
use Rattle.psy_flow.proofs.QuestWays.{begins, way_front, way_rest}

-- A cell beyond a row is empty.
pub no_cell : (row : List ℕ) (place bit : ℕ) → HasBitAt row place bit → place < length row
no_cell row place bit h = elim (cases_lt place (length row)) [
  | inl less ↦ less
  | inr not ↦ absurd (no_bit bit (subst (λ cell. HasBit cell bit) (get_or_past row place 0 (omega (arith, not))) h))
]

-- ---- ends

-- The instruction at the place ends ways.
abbrev pub IsEnd : List Instr → ℕ → Type 0
IsEnd instrs place = (point : ℕ) × (slice_get instrs place ≡ Some (instr.Advance point))

end_bit : (i : Instr) (bit : ℕ) → HasBit (end_cell (part_of i)) bit → (point : ℕ) × (i ≡ instr.Advance point)
end_bit (instr.Advance point) bit h = (point, refl)
end_bit (instr.Past variable back) bit h = absurd (no_bit bit h)
end_bit (instr.Send stream after clock) bit h = absurd (no_bit bit h)
end_bit _ bit h = absurd (no_bit bit h)

-- Each cell says of its place whether it ends ways.
abbrev pub AreEndCells : List Instr → List ℕ → Type 0
AreEndCells instrs row = (place cell : ℕ) → slice_get row place ≡ Some cell → (i : Instr) → slice_get instrs place ≡ Some i → cell ≡ end_cell (part_of i)

-- ---- numbers of bits

-- The number of a bit of a row
pub number_bit : (rows : List (List ℕ)) (place row bit : ℕ) → bit < 64 → HasNumber rows place (row * 64 + bit) ↔ HasBitAt (get_or rows row []) place bit
number_bit rows place row bit low =
    let whole : (row * 64 + bit) / 64 ≡ row = omega (arith, low) in
    let rest : (row * 64 + bit) % 64 ≡ bit = omega (arith, low) in (
      (λ h. subst (λ r. HasBitAt (get_or rows r []) place bit) whole (subst (HasBitAt (get_or rows ((row * 64 + bit) / 64) []) place) rest h)),
      (λ h. subst (HasBitAt (get_or rows ((row * 64 + bit) / 64) []) place) (sym rest) (subst (λ r. HasBitAt (get_or rows r []) place bit) (sym whole) h)),
    )

pub number_low : (rows : List (List ℕ)) (place number : ℕ) → HasNumber rows place number → number < length rows * 64
number_low rows place number h = elim (cases_lt (number / 64) (length rows)) [
  | inl less ↦ omega (arith, less)
  | inr not ↦ (let none : get_or rows (number / 64) [] ≡ [] = get_or_past rows (number / 64) [] (omega (arith, not)) in
      let empty : get_or (get_or rows (number / 64) []) place 0 ≡ 0 = ap (λ (row : List ℕ). get_or row place 0) none in
      absurd (no_bit (number % 64) (subst (λ cell. HasBit cell (number % 64)) empty h)))
]

module _ (instrs : List Instr) where
  has_end : (place : ℕ) → IsEnd instrs place → HasEnd instrs place
  has_end place (point, at) = (point, place ∷ [], ends place at)

  end_from : (from place : ℕ) → IsPassed instrs from place → HasEnd instrs place → HasEnd instrs from
  end_from from place passed (point, places, way) = let (all, on) = way_from instrs from place point places passed way in (point, all, on)

  end_of : (from : ℕ) → HasEnd instrs from → (place : ℕ) × IsPassed instrs from place × IsEnd instrs place
  end_of from (point, places, way) = let (last, passed, at) = last_of instrs from point from places first way in (last, passed, (point, at))

  pub endings_are : (own row : List ℕ) → length own ≡ length instrs → AreEndCells instrs own → AreGathered instrs own row → AreEndings instrs row
  endings_are own row count cells gathered = record {
    count = gathered.count ∙ count;
    each = λ place. (
      (λ h. (let (last, passed, has) = (gathered.each place 0).0 h in
          let less = no_cell own last 0 has in
          let (i, at) = there instrs last (subst (λ n. last < n) count less) in
          let is_cell = cells last (get_or own last 0) (slice_get-get_or own last 0 less) i at in
          let (point, is) = end_bit i 0 (subst (λ cell. HasBit cell 0) is_cell has) in
          end_from place last passed (has_end last (point, at ∙ ap Some is)))),
      (λ has. (let (last, passed, (point, at)) = end_of place has in
          let less : last < length own = omega (arith, count, slice_get_within instrs last (instr.Advance point) at) in
          let is_cell = cells last (get_or own last 0) (slice_get-get_or own last 0 less) (instr.Advance point) at in
          (gathered.each place 0).1 (last, passed, subst (λ cell. HasBit cell 0) (sym is_cell) refl))),
    );
  }

  -- ---- what is found

  pub row_is : (sought : Sought) (begin : ℕ) (own row : List ℕ) → AreOwn instrs sought begin own → AreGathered instrs own row → IsRow instrs sought begin row
  row_is sought begin own row are gathered place bit = (
    (λ h. (let (last, passed, has) = (gathered.each place bit).0 h in
        let (low, found) = (are.each last (get_or own last 0) (slice_get-get_or own last 0 (no_cell own last bit has)) bit).0 has in
        (low, (last, passed, found)))),
    (λ (low, (last, passed, (i, at, is, end))).
        let less : last < length own = omega (arith, are.count, slice_get_within instrs last i at) in
        (gathered.each place bit).1 (last, passed, (are.each last (get_or own last 0) (slice_get-get_or own last 0 less) bit).1 (low, (i, at, is, end)))),
  )

  -- ---- numbers

  module _ (sought : Sought) (count : ℕ) (rows : List (List ℕ)) (are : AreRows instrs sought count rows) (place : ℕ) where
    same_number : (number : ℕ) → number / 64 * 64 + number % 64 ≡ number
    same_number number = omega arith

    pub found_of : (number : ℕ) → HasNumber rows place number → IsFoundFrom instrs sought place number
    found_of number h =
        let less : number / 64 < length rows = omega (arith, number_low rows place number h) in
        let at = slice_get-get_or rows (number / 64) [] less in
        let (low, found) = (are.each (number / 64) (get_or rows (number / 64) []) at place (number % 64)).0 h in
        subst (IsFoundFrom instrs sought place) (same_number number) found

    pub number_of : (number : ℕ) → number < count → IsFoundFrom instrs sought place number → HasNumber rows place number
    number_of number low found =
        let less : number / 64 < length rows = omega (arith, low, are.enough) in
        let at = slice_get-get_or rows (number / 64) [] less in
        let rest : number % 64 < 64 = omega arith in
        (are.each (number / 64) (get_or rows (number / 64) []) at place (number % 64)).1 (rest, subst (IsFoundFrom instrs sought place) (sym (same_number number)) found)

-- ---- lists

pub agent_found : (code : Code) (sought : Sought) (count : ℕ) (rows : List (List ℕ)) → AreRows code.instrs sought count rows → (agent : ℕ) (lists : List (List ℕ)) → AreAgentNumbers rows code agent lists → AreAgentFound code sought count agent lists
agent_found code sought count rows are agent lists own = record {
  points = own.count;
  each = λ point numbers at.
      let list = own.each point numbers at in
      let place = place_of code agent point in (
        list.rise,
        (λ number c. found_of code.instrs sought count rows are place number ((list.each number).0 c)),
        (λ number low found. (list.each number).1 (number_of code.instrs sought count rows are place number low found)),
      );
}

pub lists_found : (code : Code) (sought : Sought) (count : ℕ) (rows : List (List ℕ)) → AreRows code.instrs sought count rows → (lists : List (List (List ℕ))) → AreAllNumbers rows code lists → AreFoundLists code sought count lists
lists_found code sought count rows are lists all = record {
  agents = all.count;
  each = λ agent own at. agent_found code sought count rows are agent own (all.each agent own at);
}

-- ---- the ways of the code

end_is : (i : Instr) (point : ℕ) → IsSought sought.Ends (part_of i) point → i ≡ instr.Advance point
end_is (instr.Advance own) point h = ap instr.Advance h
end_is (instr.Past variable back) point h = absurd h
end_is (instr.Send stream after clock) point h = absurd h
end_is _ point h = absurd h

look_is : (i : Instr) (variable : ℕ) → IsSought sought.Looks (part_of i) variable → (back : ℕ) × (i ≡ instr.Past variable back)
look_is (instr.Past own back) variable h = (back, ap (λ v. instr.Past v back) h)
look_is (instr.Advance own) variable h = absurd h
look_is (instr.Send stream after clock) variable h = absurd h
look_is _ variable h = absurd h

module _ (instrs : List Instr) (from : ℕ) where
  pub found_end : (to : ℕ) → IsFoundFrom instrs sought.Ends from to → (places : List ℕ) × IsCodeWay instrs to from places
  found_end to (place, passed, (i, at, is, end)) =
      way_from instrs from place to (place ∷ []) passed (ends place (at ∙ ap Some (end_is i to is)))

  pub end_found : (to : ℕ) → (places : List ℕ) → IsCodeWay instrs to from places → IsFoundFrom instrs sought.Ends from to
  end_found to places way =
      let (last, passed, at) = last_of instrs from to from places first way in
      (last, passed, (instr.Advance to, at, refl, has_end instrs last (to, at)))

  pub found_look : (variable : ℕ) → IsFoundFrom instrs sought.Looks from variable → (back : ℕ) × IsOnWay instrs from (instr.Past variable back)
  found_look variable (place, passed, (i, at, is, (point, rest, way))) =
      let (back, same) = look_is i variable is in
      let (all, on, has) = way_front instrs from place point place rest passed way (begins instrs place point rest way) in
      (back, (point, place, all, on, has, at ∙ ap Some same))

  pub look_found : (variable back : ℕ) → IsOnWay instrs from (instr.Past variable back) → IsFoundFrom instrs sought.Looks from variable
  look_found variable back (point, place, all, way, has, at) =
      let (passed, behind) = way_rest instrs point from place all way has in
      (place, passed, (instr.Past variable back, at, refl, (point, behind.0, behind.1)))

  pub nexts_are : (count : ℕ) (list : List ℕ) → ((place point : ℕ) → IsPassed instrs from place → slice_get instrs place ≡ Some (instr.Advance point) → point < count) → Rises list →
      ((number : ℕ) → Contains list number → IsFoundFrom instrs sought.Ends from number) → ((number : ℕ) → number < count → IsFoundFrom instrs sought.Ends from number → Contains list number) → AreCodeNexts instrs from list
  nexts_are count list named rise sound all = record {
    rise = rise;
    each = λ to. (
      (λ c. found_end to (sound to c)),
      (λ (places, way). let (last, passed, at) = last_of instrs from to from places first way in all to (named last to passed at) (end_found to places way)),
    );
  }

  pub looks_are : (count : ℕ) (list : List ℕ) → ((place variable back : ℕ) → IsPassed instrs from place → slice_get instrs place ≡ Some (instr.Past variable back) → variable < count) → Rises list →
      ((number : ℕ) → Contains list number → IsFoundFrom instrs sought.Looks from number) → ((number : ℕ) → number < count → IsFoundFrom instrs sought.Looks from number → Contains list number) → AreCodeLooks instrs from list
  looks_are count list named rise sound all = record {
    rise = rise;
    each = λ variable. (
      (λ c. found_look variable (sound variable c)),
      (λ (back, on). let (point, place, places, way, has, at) = on in
          let (passed, behind) = way_rest instrs point from place places way has in
          all variable (named place variable back passed at) (look_found variable back on)),
    );
  }

-- ---- of a program's code

-- How many points an agent has
abbrev pub its_points : AgentDecl → ℕ
its_points a = length a.points

pub most_below : (n : ℕ) (agents : List AgentDecl) → ((i : ℕ) (a : AgentDecl) → slice_get agents i ≡ Some a → length a.points ≤ n) → most_of (map its_points agents) ≤ n
most_below n [] each = omega arith
most_below n (a ∷ agents) each = omega (arith, each 0 a refl, most_below n agents (λ i. each (suc i)))

most_above : (agents : List AgentDecl) (i : ℕ) (a : AgentDecl) → slice_get agents i ≡ Some a → length a.points ≤ most_of (map its_points agents)
most_above [] i a at = absurd (none-some a at)
most_above (b ∷ agents) zero a at = let same : length b.points ≡ length a.points = ap its_points (same_Some b a at) in omega (arith, same)
most_above (b ∷ agents) (suc i) a at = omega (arith, most_above agents i a at)

module _ (unit : Whole) (code : Code) (walk : CanWalk unit code) where
  stands : (number : ℕ) → number < length code.agents → slice_get unit.agents number ≡ Some (agent_at unit number)
  stands number less = slice_get-get_or unit.agents number no_agent (omega (arith, less, walk.agents))

  pub nexts_by_point : (lists : List (List (List ℕ))) → AreFoundLists code sought.Ends (most_points unit) lists → AreByPoint (points_of unit) (λ agent point. AreCodeNexts code.instrs (place_of code agent point)) lists
  nexts_by_point lists found = by_number unit (λ agent point. AreCodeNexts code.instrs (place_of code agent point)) lists (found.agents ∙ walk.agents) (λ number list at.
      let own = found.each number list at in
      let less : number < length code.agents = omega (arith, found.agents, slice_get_within lists number list at) in
      let here = stands number less in
      let points = same_points unit code walk number less in
      record {
        count = own.points ∙ points;
        each = λ point one also.
            let (rise, sound, all) = own.each point one also in
            let low : point < length (agent_at unit number).points = omega (arith, own.points, points, slice_get_within list point one also) in
            nexts_are code.instrs (place_of code number point) (most_points unit) one
            (λ place to passed there. omega (arith, walk.named number point place (agent_at unit number) (instr.Advance to) here low passed there, most_above unit.agents number (agent_at unit number) here))
            rise sound all;
      })

  pub looks_by_point : (lists : List (List (List ℕ))) → AreFoundLists code sought.Looks (length unit.variables) lists → AreByPoint (points_of unit) (λ agent point. AreCodeLooks code.instrs (place_of code agent point)) lists
  looks_by_point lists found = by_number unit (λ agent point. AreCodeLooks code.instrs (place_of code agent point)) lists (found.agents ∙ walk.agents) (λ number list at.
      let own = found.each number list at in
      let less : number < length code.agents = omega (arith, found.agents, slice_get_within lists number list at) in
      let here = stands number less in
      let points = same_points unit code walk number less in
      record {
        count = own.points ∙ points;
        each = λ point one also.
            let (rise, sound, all) = own.each point one also in
            let low : point < length (agent_at unit number).points = omega (arith, own.points, points, slice_get_within list point one also) in
            looks_are code.instrs (place_of code number point) (length unit.variables) one
            (λ place variable back passed there. walk.named number point place (agent_at unit number) (instr.Past variable back) here low passed there)
            rise sound all;
      })
