-- What an agent of a program's code carries has cells of 64 bits: each of them is of a slot.
use Rattle.std.proofs.Common.{◌≡◌, ℕ, suc, ◌<◌, ◌≤◌, List, [], ◌∷◌, ◌++◌, map, replicate, length, take, drop, take-append-drop, refl, sym, ap, subst, arith}
use Rattle.std.specs.Prelude.{ℤ, FitsSigned}
use Rattle.std.specs.Int.{w64}
use Rattle.std.specs.List.{All, flat_map}
use Rattle.std.proofs.lemmas.List.{length-append, length-drop, length-replicate}
use Rattle.std.proofs.lemmas.List.Concat.{flat_map-cons}
use Rattle.std.proofs.lemmas.List.Elements.{All-append, All-nil, All-weaker}
use Rattle.std.proofs.lemmas.Option.{slice_get-get_or}
use Rattle.psy_arith.specs.declared.width.Width.{Width}
use Rattle.psy_arith.specs.declared.width.Width.TheVariants as width
use Rattle.psy_arith.specs.Widths.{of_type}
use Rattle.psy_code.specs.declared.code.Code.{Code}
use Rattle.psy_history.specs.Compiled.{IsCompiled}
use Rattle.psy_history.specs.Executors.{Carried, cut}
use Rattle.psy_history.specs.Openings.{MayCarry}
use Rattle.psy_lists.proofs.lemmas.Places.{none_left}
use Rattle.psy_meaning.specs.Alike.{FitSlots}
use Rattle.psy_meaning.specs.CodeWays.{agent_code_at}
use Rattle.psy_tree.specs.declared.unit.Slots.{Slots}
use Rattle.psy_tree.specs.declared.unit.Unit.{Unit as Whole}
use Rattle.psy_tree.specs.Parts.{agent_at, no_agent}

wider : (type : Width) (z : ℤ) → FitsSigned (of_type type) z → FitsSigned w64 z
wider width.W8 z fits = record { sfits = omega (arith, fits.sfits) }
wider width.W16 z fits = record { sfits = omega (arith, fits.sfits) }
wider width.W32 z fits = record { sfits = omega (arith, fits.sfits) }
wider width.W64 z fits = fits

abbrev slot_cells : List Slots → List ℤ
slot_cells slots = flat_map (λ cells. cells) (map (λ (s : Slots). replicate s.cells s.init) slots)

all_long : (slots : List Slots) (cells : List ℤ) → FitSlots (map (λ s. s.width) slots) (cut (map (λ s. s.cells) slots) cells) → length cells ≤ length (slot_cells slots) → All (FitsSigned w64) cells
all_long [] cells fits few = subst (All (FitsSigned w64)) (sym (none_left cells few)) (All-nil (FitsSigned w64))
all_long (s ∷ slots) cells fits few =
    let front : List ℤ = replicate s.cells s.init in
    let count : length (slot_cells (s ∷ slots)) ≡ length (front ++ slot_cells slots) =
    ap length (flat_map-cons (λ (cells : List ℤ). cells) front (map (λ (s : Slots). replicate s.cells s.init) slots)) in
    let own = All-weaker (FitsSigned (of_type s.width)) (FitsSigned w64) (wider s.width) (take s.cells cells) (fits 0 s.width (take s.cells cells) refl refl) in
    let others = all_long slots (drop s.cells cells) (λ slot w those wide there. fits (suc slot) w those wide there)
    (omega (arith, few, count, length-append front (slot_cells slots), length-replicate s.cells s.init, length-drop s.cells cells)) in
    subst (All (FitsSigned w64)) (take-append-drop s.cells cells) (All-append (FitsSigned w64) (take s.cells cells) (drop s.cells cells) own others)

-- Code that acts as a program's statements has the cells of its slots and no others.
pub carried_long : (unit : Whole) (code : Code) (nexts : List (List (List ℕ))) → IsCompiled unit code nexts → (agent : ℕ) (carried : Carried) → agent < length unit.agents
    → MayCarry unit code agent carried → All (FitsSigned w64) carried.cells
carried_long unit code nexts compiled agent carried less may =
    let a = agent_at unit agent in
    let its = agent_code_at code agent in
    let alike = compiled.alike.each agent a its (slice_get-get_or unit.agents agent no_agent less) (slice_get-get_or code.agents agent _ (omega (arith, less, compiled.alike.agents))) in
    all_long a.slots carried.cells may.values (omega (arith, may.cells, ap length alike.cells))
