-- Where slots stand.
use Rattle.std.proofs.Common.{◌≡◌, ℕ, zero, suc, ◌+◌, List, [], ◌∷◌, ◌++◌, map, take, refl, sym, ap, ◌∙◌, arith}
use Rattle.std.specs.Prelude.{Some, None, slice_get, slice_index_or}
use Rattle.psy_tree.specs.Paths.{total}
use Rattle.psy_gen.specs.declared.layout.Span.{Span}
use Rattle.psy_gen.specs.Spans.{StandFrom}

abbrev widths : List Span → List ℕ
widths spans = map (λ (s : Span). s.cells) spans

base_at : (spans : List Span) (i b end : ℕ) (s : Span) → StandFrom b spans end → slice_get spans i ≡ Some s → s.base ≡ b + total (take i (widths spans))
base_at [] i b end s h e = cc
base_at (x ∷ spans) zero b end s h e = let is : x ≡ s = cc in ap (λ (y : Span). y.base) (sym is) ∙ h.0 ∙ omega arith
base_at (x ∷ spans) (suc i) b end s h e = omega (arith, base_at spans i (b + x.cells) end s h.1 e)

base_past : (spans : List Span) (i b end : ℕ) → StandFrom b spans end → slice_get spans i ≡ None → end ≡ b + total (take i (widths spans))
base_past [] zero b end h e = sym h ∙ omega arith
base_past [] (suc i) b end h e = sym h ∙ omega arith
base_past (x ∷ spans) zero b end h e = cc
base_past (x ∷ spans) (suc i) b end h e = omega (arith, base_past spans i (b + x.cells) end h.1 e)

pub base_found : (spans : List Span) (i end : ℕ) (s : Span) → StandFrom 0 spans end → slice_get spans i ≡ Some s → s.base ≡ total (take i (widths spans))
base_found spans i end s h e = omega (arith, base_at spans i 0 end s h e)

pub base_behind : (spans : List Span) (i end : ℕ) → StandFrom 0 spans end → slice_get spans i ≡ None → end ≡ total (take i (widths spans))
base_behind spans i end h e = omega (arith, base_past spans i 0 end h e)

pub cells_past : (spans : List Span) (i : ℕ) → slice_get spans i ≡ None → slice_index_or (widths spans) i 0 ≡ 0
cells_past [] zero e = refl
cells_past [] (suc i) e = refl
cells_past (x ∷ spans) zero e = cc
cells_past (x ∷ spans) (suc i) e = cells_past spans i e

pub stand_more : (spans : List Span) (b end : ℕ) (s : Span) → StandFrom b spans end → s.base ≡ end → StandFrom b (spans ++ s ∷ []) (end + s.cells)
stand_more [] b end s h e = (e ∙ sym h, ap (λ n. n + s.cells) h)
stand_more (x ∷ spans) b end s h e = (h.0, stand_more spans (b + x.cells) end s h.1 e)

-- The cells of all
pub all_cells : (spans : List Span) (b end : ℕ) → StandFrom b spans end → b + total (widths spans) ≡ end
all_cells [] b end h = omega (arith, h)
all_cells (x ∷ spans) b end h = omega (arith, all_cells spans (b + x.cells) end h.1)
