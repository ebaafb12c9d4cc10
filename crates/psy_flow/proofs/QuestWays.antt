-- Counts on ways, and the ways of the definitions.
use Rattle.std.proofs.Common.{◌≡◌, ℕ, zero, suc, ◌+◌, true, List, [], ◌∷◌, cond, nat_eq, Some, refl, sym, ap, subst, ◌∙◌, arith}
use Rattle.std.specs.Prelude.{slice_get}
use Rattle.std.specs.List.{Contains}
use Rattle.std.proofs.lemmas.List.Sums.{sum_by-cons}
use Rattle.psy_code.specs.declared.instr.Instr.{Instr}
use Rattle.psy_code.specs.declared.instr.Instr.TheVariants as instr
use Rattle.psy_meaning.specs.CodeWays.{HasCodeSends, IsCodeWay, IsPassed, ends, first, goes, is_send_to, later, sends_at}
use Rattle.psy_flow.specs.Quests.{HasCount, counted, counts, ends_here, goes_on, part_of, quest_of}
use Rattle.psy_flow.proofs.PartKinds.{end_is}

-- What is passed from a place that is passed is passed.
pub passed_on : (instrs : List Instr) (from middle place : ℕ) → IsPassed instrs from middle → IsPassed instrs middle place → IsPassed instrs from place
passed_on instrs from middle place a first = a
passed_on instrs from middle place a (later before next i b at on) = later before next i (passed_on instrs from middle before a b) at on

-- ---- parts of ways

-- A way to a point goes on from each of its places.
pub way_rest : (instrs : List Instr) (point from place : ℕ) (places : List ℕ) → IsCodeWay instrs point from places → Contains places place → IsPassed instrs from place × ((rest : List ℕ) × IsCodeWay instrs point place rest)
way_rest instrs point from place places (ends here at) (zero, less, is) = subst (λ p. IsPassed instrs from p × ((rest : List ℕ) × IsCodeWay instrs point p rest)) is (first, (here ∷ [], ends here at))
way_rest instrs point from place places (ends here at) (suc k, less, is) = absurd (omega (arith, less))
way_rest instrs point from place places (goes here next i rest at on way) (zero, less, is) = subst (λ p. IsPassed instrs from p × ((rest : List ℕ) × IsCodeWay instrs point p rest)) is (first, (here ∷ rest, goes here next i rest at on way))
way_rest instrs point from place places (goes here next i rest at on way) (suc k, less, is) =
    let (passed, behind) = way_rest instrs point next place rest way (k, omega (arith, less), is) in
    (passed_on instrs from next place (later here next i first at on) passed, behind)

-- A way behind a place that is passed belongs to a way that passes it.
pub way_front : (instrs : List Instr) (from place point here : ℕ) (places : List ℕ) → IsPassed instrs from place → IsCodeWay instrs point place places → Contains places here → (all : List ℕ) × IsCodeWay instrs point from all × Contains all here
way_front instrs from place point here places first way has = (places, way, has)
way_front instrs from place point here places (later before next i passed at on) way (k, less, is) =
    way_front instrs from before point here (before ∷ places) passed (goes before place i places at on way) (suc k, omega (arith, less), is)

pub begins : (instrs : List Instr) (from point : ℕ) (places : List ℕ) → IsCodeWay instrs point from places → Contains places from
begins instrs from point places (ends here at) = (0, omega arith, refl)
begins instrs from point places (goes here next i rest at on way) = (0, omega arith, refl)

-- ---- ways to a point, with the sends to a stream

same_sends : (i : Instr) (to stream : ℕ) → is_send_to stream (Some i) ≡ counts (part_of i) (quest_of to stream)
same_sends (instr.Send own after clock) to stream = refl
same_sends _ to stream = refl

more_sends : (instrs : List Instr) (to stream place : ℕ) (i : Instr) (places : List ℕ) → slice_get instrs place ≡ Some i → sends_at instrs stream (place ∷ places) ≡ sends_at instrs stream places + counted (part_of i) (quest_of to stream)
more_sends instrs to stream place i places at =
    let same : cond (is_send_to stream (slice_get instrs place)) 1 0 ≡ counted (part_of i) (quest_of to stream) = ap (λ b. cond b 1 0) (ap (is_send_to stream) at ∙ same_sends i to stream) in
    omega (arith, sum_by-cons (λ p. cond (is_send_to stream (slice_get instrs p)) 1 0) place places, same)

pub sends_way : (instrs : List Instr) (to stream place n : ℕ) → HasCount instrs (quest_of to stream) place n → HasCodeSends instrs place to stream n
sends_way instrs to stream place n (ends_here here m i at end e) =
    let is : slice_get instrs here ≡ Some (instr.Advance to) = at ∙ ap Some (end_is i to stream end) in
    (here ∷ [], ends here is, more_sends instrs to stream here (instr.Advance to) [] is ∙ sym e)
sends_way instrs to stream place n (goes_on here next m k i at on has e) =
    let (places, way, sent) = sends_way instrs to stream next k has in
    (here ∷ places, goes here next i places at on way, more_sends instrs to stream here i places at ∙ ap (λ s. s + counted (part_of i) (quest_of to stream)) sent ∙ sym e)

end_there : (to : ℕ) → nat_eq to to ≡ true
end_there to = grind arith

pub way_sends : (instrs : List Instr) (to stream place : ℕ) (places : List ℕ) → IsCodeWay instrs to place places → HasCount instrs (quest_of to stream) place (sends_at instrs stream places)
way_sends instrs to stream place places (ends here at) = ends_here here (sends_at instrs stream (here ∷ [])) (instr.Advance to) at (end_there to) (more_sends instrs to stream here (instr.Advance to) [] at)
way_sends instrs to stream place places (goes here next i rest at on way) =
    goes_on here next (sends_at instrs stream (here ∷ rest)) (sends_at instrs stream rest) i at on (way_sends instrs to stream next rest way) (more_sends instrs to stream here i rest at)

pub count_of_sends : (instrs : List Instr) (to stream place n : ℕ) → HasCodeSends instrs place to stream n → HasCount instrs (quest_of to stream) place n
count_of_sends instrs to stream place n (places, way, sent) = subst (HasCount instrs (quest_of to stream) place) sent (way_sends instrs to stream place places way)
