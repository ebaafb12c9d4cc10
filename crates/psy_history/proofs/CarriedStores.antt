-- What an agent may carry is a store of it, its cells joined; and the other way round.
use Rattle.std.proofs.Common.{◌≡◌, ℕ, ◌<◌, List, [], ◌∷◌, ◌++◌, map, length, refl, sym, ap, ap₂, subst, ◌∙◌, arith}
use Rattle.std.specs.Prelude.{ℤ, drop, take}
use Rattle.std.specs.List.{flat_map}
use Rattle.std.proofs.lemmas.List.{length-append, length-drop, length-take-le, take-append-drop}
use Rattle.psy_meaning.proofs.lemmas.SlotCells.{lengths_of}
use Rattle.psy_code.specs.declared.code.Code.{Code}
use Rattle.psy_tree.specs.declared.unit.AgentDecl.{AgentDecl}
use Rattle.psy_tree.specs.declared.unit.Unit.{Unit as Whole}
use Rattle.psy_meaning.specs.Alike.{FitSlots, IsStoreOf, first_slots}
use Rattle.psy_history.specs.Executors.{Carried, carried_in, cut, store_of}
use Rattle.psy_tree.specs.Parts.{agent_at}
use Rattle.psy_meaning.specs.States.{Store}
use Rattle.psy_history.specs.Compiled.{IsCompiled}
use Rattle.psy_history.specs.Openings.{MayCarry}
use Rattle.psy_history.proofs.Cuts.{store_back}
use Rattle.psy_history.proofs.Stores.{AreStoreLaws, Carries, alike}

-- Lists one behind the other
abbrev joined : List (List ℤ) → List ℤ
joined = flat_map (λ cells. cells)

-- Cells that are as many as those of some lists are cut into lists as long as they are, which are the cells when they are joined.
cut_like : (firsts : List (List ℤ)) (cells : List ℤ) → length cells ≡ length (joined firsts) → (map length (cut (map length firsts) cells) ≡ map length firsts) × (joined (cut (map length firsts) cells) ≡ cells)
cut_like [] [] long = (refl, refl)
cut_like [] (cell ∷ cells) long = absurd (omega (arith, long))
cut_like (first ∷ firsts) cells long =
    let n = length first in
    let sum = length-append first (joined firsts) in
    let (lengths, same) = cut_like firsts (drop n cells) (omega (arith, long, sum, length-drop n cells)) in
    (ap₂ (λ (m : ℕ) ms. m ∷ ms) (length-take-le n cells (omega (arith, long, sum))) lengths, ap (λ rest. take n cells ++ rest) same ∙ take-append-drop n cells)

-- Lists of the same lengths have as many cells.
same_joined : (xs ys : List (List ℤ)) → map length xs ≡ map length ys → length (joined xs) ≡ length (joined ys)
same_joined [] [] e = refl
same_joined [] (y ∷ ys) e = absurd cc
same_joined (x ∷ xs) [] e = absurd cc
same_joined (x ∷ xs) (y ∷ ys) e =
    let first : length x ≡ length y = cc in
    let rest : map length xs ≡ map length ys = cc in
    omega (arith, first, same_joined xs ys rest, length-append x (joined xs), length-append y (joined ys))

module _ (unit : Whole) (code : Code) (nexts : List (List (List ℕ))) (laws : AreStoreLaws unit code) (compiled : IsCompiled unit code nexts) (agent : ℕ) (less : agent < length unit.agents) where
  abbrev decl : AgentDecl
  decl = agent_at unit agent

  -- What an agent of compiled code may carry is a store,
  pub carries_of : (carried : Carried) → MayCarry unit code agent carried → Carries unit agent carried
  carries_of carried may =
      let cells = carried.cells in
      let firsts = first_slots decl in
      let same : cut (map (λ s. s.cells) decl.slots) cells ≡ cut (map length firsts) cells = ap (λ lengths. cut lengths cells) (sym (lengths_of decl.slots)) in
      let (lengths, whole) = cut_like firsts cells (may.cells ∙ ap length (alike unit code nexts laws compiled agent less).cells) in
      record {
        store = store_of decl carried;
        holds = record {
          slots = ap (map length) same ∙ lengths;
          values = may.values;
          variables = may.variables;
          copies = may.copies;
        };
        is = ap (λ cells. record { cells = cells; copies = carried.copies }) (sym (ap joined same ∙ whole));
      }

  -- and a store is what it may carry.
  pub may_carry : (store : Store) → IsStoreOf unit agent decl store → MayCarry unit code agent (carried_in store)
  may_carry store holds = record {
    cells = same_joined store.slots (first_slots decl) holds.slots ∙ sym (ap length (alike unit code nexts laws compiled agent less).cells);
    values = subst (λ (s : Store). FitSlots (map (λ s. s.width) decl.slots) s.slots) (sym (store_back unit agent decl store holds)) holds.values;
    variables = holds.variables;
    copies = holds.copies;
  }
