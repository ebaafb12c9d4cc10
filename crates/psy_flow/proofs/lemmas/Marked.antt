-- Code that has marks is verified.
use Rattle.std.proofs.Common.{◌≡◌, sym, ap, subst, ◌∙◌, arith}
use Rattle.std.specs.Prelude.{ℕ, ◌+◌, ◌-◌, ◌<◌, ◌≤◌, length, Some, slice_get}
use Rattle.std.proofs.lemmas.Option.{same_Some, slice_get_within}
use Rattle.psy_code.specs.declared.code.Code.{Code}
use Rattle.psy_code.specs.declared.instr.Instr.{Instr}
use Rattle.psy_code.specs.declared.instr.Instr.TheVariants as instr
use Rattle.psy_tree.specs.declared.unit.Unit.{Unit as Whole}
use Rattle.psy_meaning.specs.CodeWays.{IsPassed, first, later}
use Rattle.psy_flow.specs.Owners.{Agent, Function, IsApart, IsInside, IsReached, Owner, function_code_at}
use Rattle.psy_flow.specs.Heights.{Finds, IsAmong, IsBalanced, IsHeight, Shift, at_start, moved, shifts}
use Rattle.psy_flow.specs.Needs.{Calls, FitsFrames, FitsStack, MayHold, MayUse, above_left, own_frame, own_height, with_callee}
use Rattle.psy_meaning.specs.Sound.{Each}
use Rattle.psy_flow.specs.Verified.{HasEnd, IsFramed, IsLed, IsNamed, IsOrdered, IsVerified, Where}
use Rattle.psy_flow.specs.Marks.{AreMarks, GoesTo, HasRoomFor, IsMarked, Mark, Marks, most_held, most_used, own_used}
use Rattle.psy_flow.proofs.lemmas.Shifted.{each_among, goes_shift}

module _ (unit : Whole) (code : Code) (marks : Marks) (are : AreMarks unit code marks) where
  -- The mark of an owner at a height
  abbrev mark_of : Owner → ℕ → Mark
  mark_of owner height = record { owner = owner; height = height }

  abbrev Has : Owner → ℕ → ℕ → Type 0
  Has owner place height = marks.at place ≡ Some (mark_of owner height)

  goes_to : (owner : Owner) (place height : ℕ) (i : Instr) (s : Shift) → Has owner place height → slice_get code.instrs place ≡ Some i → IsAmong s (shifts code place i) → Has owner s.to (height - s.pops + s.pushes)
  goes_to owner place height i s has at among =
      let m = are.each place (mark_of owner height) has in
      let same : m.here ≡ i = same_Some m.here i (sym m.inside ∙ at) in
      each_among (GoesTo marks (mark_of owner height)) (shifts code place i) s (subst (λ j. Each (GoesTo marks (mark_of owner height)) (shifts code place j)) same m.goes) among

  -- ---- places reached

  passed_mark : (owner : Owner) (start place : ℕ) → Has owner start 0 → IsPassed code.instrs start place → (height : ℕ) × Has owner place height
  passed_mark owner start _ has first = (0, has)
  passed_mark owner start _ has (later place next i passed at goes) =
      let (height, here) = passed_mark owner start place has passed in
      let m = are.each place (mark_of owner height) here in
      let same : m.here ≡ i = same_Some m.here i (sym m.inside ∙ at) in
      let (s, among, to) = goes_shift unit code owner place i next (subst (IsNamed unit code owner) same m.named) goes in
      (height - s.pops + s.pushes, subst (λ p. Has owner p (height - s.pops + s.pushes)) (sym to) (goes_to owner place height i s here at among))

  reached_mark : (owner : Owner) (place : ℕ) → IsReached code owner place → (height : ℕ) × Has owner place height
  reached_mark owner place (start, begins, passed) = passed_mark owner start place (are.start owner start begins) passed

  height_mark : (owner : Owner) (place height : ℕ) → IsHeight code owner place height → Has owner place height
  height_mark owner _ _ (at_start place begins) = are.start owner place begins
  height_mark owner _ _ (moved place next height after i reached at (s, among, to, pops, counts)) =
      let there = goes_to owner place height i s (height_mark owner place height reached) at among in
      let counted : height - s.pops + s.pushes ≡ after = omega (arith, pops, counts) in
      subst (λ p. Has owner p after) (sym to) (subst (λ n. Has owner s.to n) counted there)

  -- What a mark says of the instruction that stands there
  said : (owner : Owner) (place height : ℕ) (i : Instr) (P : Instr → Type 0) (m : IsMarked unit code marks place (mark_of owner height)) → slice_get code.instrs place ≡ Some i → P m.here → P i
  said owner place height i P m at h = subst P (same_Some m.here i (sym m.inside ∙ at)) h

  everywhere : (Says : ℕ → Owner → Instr → Type 0) → ((owner : Owner) (place height : ℕ) (m : IsMarked unit code marks place (mark_of owner height)) → Says place owner m.here) → (place : ℕ) → Where code place (Says place)
  everywhere Says each place owner i reached at =
      let (height, has) = reached_mark owner place reached in
      let m = are.each place (mark_of owner height) has in
      said owner place height i (Says place owner) m at (each owner place height m)

  -- ---- places

  inside : (place : ℕ) → IsInside code place
  inside place = record {
    start = λ owner begins. slice_get_within code.instrs place _ (are.each place (mark_of owner 0) (are.start owner place begins)).inside;
    next = λ owner i next reached at goes.
        let (start, begins, passed) = reached in
        let (height, has) = passed_mark owner start next (are.start owner start begins) (later place next i passed at goes) in
        slice_get_within code.instrs next _ (are.each next (mark_of owner height) has).inside;
  }

  apart : (place : ℕ) → IsApart code place
  apart place owner other reached also =
      let (height, has) = reached_mark owner place reached in
      let (level, here) = reached_mark other place also in
      ap (λ (m : Mark). m.owner) (same_Some (mark_of owner height) (mark_of other level) (sym has ∙ here))

  balanced : (place : ℕ) (owner : Owner) → IsBalanced code owner place
  balanced place owner = record {
    same = λ height other reached also.
        ap (λ (m : Mark). m.height) (same_Some (mark_of owner height) (mark_of owner other) (sym (height_mark owner place height reached) ∙ height_mark owner place other also));
    there = λ height i reached at.
        let m = are.each place (mark_of owner height) (height_mark owner place height reached) in
        said owner place height i (λ j. Finds code place j height) m at m.finds;
  }

  -- ---- room

  called : (owner : Owner) (place callee left : ℕ) → Calls code owner place callee left → left + marks.needs callee ≤ most_held code marks owner
  called owner place callee left (reached, at) =
      let params = (function_code_at code callee).params in
      let m = are.each place (mark_of owner (left + params)) (height_mark owner place (left + params) reached) in
      let room = said owner place (left + params) (instr.Call callee) (HasRoomFor code marks (mark_of owner (left + params))) m at m.called in
      omega (arith, room.0)

  used : (owner : Owner) (place callee : ℕ) → IsReached code owner place → slice_get code.instrs place ≡ Some (instr.Call callee) → own_used code owner + marks.uses callee ≤ most_used code marks owner
  used owner place callee reached at =
      let (height, has) = reached_mark owner place reached in
      let m = are.each place (mark_of owner height) has in
      (said owner place height (instr.Call callee) (HasRoomFor code marks (mark_of owner height)) m at m.called).1

  needed : (function more : ℕ) → MayHold code function more → more ≤ marks.needs function
  needed _ _ (own_height function place height reached) = (are.each place (mark_of (Function function) height) (height_mark (Function function) place height reached)).held
  needed _ _ (above_left function place callee left more calls below counted holds) =
      omega (arith, needed callee more holds, called (Function function) place callee left calls)

  taken : (function more : ℕ) → function < length code.functions → MayUse code function more → more ≤ marks.uses function
  taken _ _ there (own_frame function) = are.own function there
  taken _ _ there (with_callee function place callee more reached at below counted uses) =
      omega (arith, taken callee more counted.0 uses, used (Function function) place callee reached at)

  stack : (place agent : ℕ) → FitsStack code agent place
  stack place agent = record {
    own = λ height reached. (are.each place (mark_of (Agent agent) height) (height_mark (Agent agent) place height reached)).held;
    call = λ function left more calls counted holds. omega (arith, needed function more holds, called (Agent agent) place function left calls);
  }

  frames : (place agent : ℕ) → FitsFrames code agent place
  frames place agent function more reached at counted uses = omega (arith, taken function more counted.0 uses, used (Agent agent) place function reached at)

  ends : (place agent : ℕ) → IsReached code (Agent agent) place → HasEnd code.instrs place
  ends place agent reached =
      let (height, has) = reached_mark (Agent agent) place reached in
      (are.each place (mark_of (Agent agent) height) has).ends

  pub verified : IsVerified unit code
  verified = record {
    inside = inside;
    apart = apart;
    balanced = balanced;
    stack = stack;
    framed = everywhere (λ place. IsFramed code) (λ owner place height m. m.framed);
    frames = frames;
    named = everywhere (λ place. IsNamed unit code) (λ owner place height m. m.named);
    ordered = everywhere (λ place. IsOrdered) (λ owner place height m. m.ordered);
    leads = everywhere (λ place owner. IsLed code owner place) (λ owner place height m. m.led);
    ends = ends;
  }
