-- The type of a unit's expression isn't wider than the one that the text gives it, where names stand for what is asked of them.
use Rattle.std.proofs.Common.{◌≡◌, ℕ, zero, suc, Bool, true, false, List, [], ◌∷◌, map, take, Some, refl, sym, subst, arith}
use Rattle.std.specs.Prelude.{get_or, if◌then◌else◌, slice_get}
use Rattle.std.proofs.lemmas.Bool.{false≢true, le-ltb, ltb-false}
use mir.Val.{bits}
use Rattle.psy_arith.specs.declared.width.Width.{Width}
use Rattle.psy_arith.specs.declared.width.Width.TheVariants.{W32}
use Rattle.psy_arith.specs.Widths.{is_narrower, of_type, wider}
use Rattle.psy_tree.specs.declared.raw.Name.{Name}
use Rattle.psy_tree.specs.declared.raw.RawExpr.{RawExpr, roll-RawExpr, map-RawExpr, ind-RawExpr, fold-roll-RawExpr}
use Rattle.psy_tree.specs.declared.raw.RawExpr.TheOpen.{RawExpr-F}
use Rattle.psy_tree.specs.declared.reach.Asks.TheVariants as asks
use Rattle.psy_tree.specs.declared.reach.Found.{Found}
use Rattle.psy_tree.specs.declared.reach.Found.TheVariants as found
use Rattle.psy_tree.specs.declared.unit.Expr.{Expr, roll-Expr, map-Expr, fold-roll-Expr}
use Rattle.psy_tree.specs.declared.unit.Expr.TheOpen.{Expr-F}
use Rattle.psy_tree.specs.Places.{Place, Uses, expr_places, expr_places_step}
use Rattle.psy_tree.specs.Rules.{is_function, is_stream, suits_by}
use Rattle.psy_tree.specs.Scope.{Site, SlotName, own_slots, stands_for}
use Rattle.psy_tree.specs.Stands.{Typed, counting, is_variable, number_at, slot_number, signed, width_of_slot, width_at, value_of, into, expr_step, typed_of}
use Rattle.psy_meaning.specs.Sound.{Each, width_step, expr_width}
use Rattle.psy_tree.proofs.lemmas.Faultless.{Fine, stands}

not_below_itself : (width : Width) → is_narrower width width ≡ false
not_below_itself width = le-ltb (bits (of_type width)) (bits (of_type width)) (omega arith)

not_below_both : (a b c : Width) → is_narrower a b ≡ false → is_narrower b c ≡ false → is_narrower a c ≡ false
not_below_both a b c e f =
    le-ltb (bits (of_type a)) (bits (of_type c)) (omega (arith, ltb-false (bits (of_type a)) (bits (of_type b)) e, ltb-false (bits (of_type b)) (bits (of_type c)) f))

-- A slot's type, by its number
slot_width : (slots : List SlotName) (k : ℕ) → width_of_slot (slice_get slots k) ≡ get_or (map (λ s. s.width) slots) k W32
slot_width [] k = refl
slot_width (s ∷ ss) zero = refl
slot_width (s ∷ ss) (suc k) = slot_width ss k

module _ (widths : List Width) where
  -- The type of an expression isn't wider than the one that the text gives it.
  abbrev pub IsWithin : Typed → Type 0
  IsWithin t = is_narrower t.width (expr_width widths t.expr) ≡ false

  -- An expression whose type is the one by its form
  exactly : (x : Expr-F Expr) → IsWithin (record { expr = roll-Expr x; width = width_step widths (map-Expr Expr Width (expr_width widths) x) })
  exactly x =
      subst (λ w. is_narrower (width_step widths (map-Expr Expr Width (expr_width widths) x)) w ≡ false) (sym (fold-roll-Expr Width (width_step widths) x))
      (not_below_itself (width_step widths (map-Expr Expr Width (expr_width widths) x)))

  -- Where a value of a type goes, the expression's type isn't wider than that.
  pub into_within : (width : Width) (t : Typed) → IsWithin t → is_narrower width (expr_width widths (into width t)) ≡ false
  into_within width t h = by (is_narrower width t.width) refl
    where
      by : (b : Bool) → is_narrower width t.width ≡ b → is_narrower width (expr_width widths (if b then roll-Expr (Expr-F.Cast width t.expr) else t.expr)) ≡ false
      by true e = exactly (Expr-F.Cast width t.expr)
      by false e = not_below_both width t.width (expr_width widths t.expr) e h

module _ (site : Site) where
  -- By slot, the types at the site
  abbrev pub widths_at : List Width
  widths_at = map (λ s. s.width) (own_slots site)

  -- The text gives an element its array's type.
  pub cell_width : (name : Name) → Fine site (Uses name asks.Cell) → width_at site (stands_for site name.text) ≡ get_or widths_at (slot_number (stands_for site name.text)) W32
  cell_width name fine =
      let (f, is, suits) = stands site name asks.Cell fine in
      subst (λ o. width_at site o ≡ get_or widths_at (slot_number o) W32) (sym is) (by f suits)
    where
      by : (f : Found) → suits_by site asks.Cell f ≡ true → width_at site (Some f) ≡ get_or widths_at (slot_number (Some f)) W32
      by (found.Slot k) e = slot_width (own_slots site) k
      by (found.Item k) e = absurd (false≢true e)

  pub value_width : (k : ℕ) → width_at site (Some (found.Slot k)) ≡ get_or widths_at k W32
  value_width k = slot_width (own_slots site) k

  abbrev Within : Typed → Type 0
  Within t = IsWithin widths_at t

  abbrev P : RawExpr → Type 0
  P e = Each (Fine site) (expr_places e) → Within (typed_of site e)

  abbrev Known : Type 0
  Known = (e : RawExpr) × P e

  abbrev tree : Known → RawExpr
  tree x = x.0

  value_within : (name : Name) → Fine site (Uses name asks.Value) → Within (record { expr = value_of site (stands_for site name.text); width = width_at site (stands_for site name.text) })
  value_within name fine =
      let (f, is, suits) = stands site name asks.Value fine in
      subst (λ o. Within (record { expr = value_of site o; width = width_at site o })) (sym is) (by f)
    where
      by : (f : Found) → Within (record { expr = value_of site (Some f); width = width_at site (Some f) })
      by (found.Slot k) = subst (λ w. Within (record { expr = roll-Expr (Expr-F.Slot k); width = w })) (sym (value_width k)) (exactly widths_at (Expr-F.Slot k))
      by (found.Item k) = exactly widths_at (Expr-F.Copy (counting is_variable (take k site.items)))

  layer_within : (y : RawExpr-F Known) → let x = map-RawExpr Known RawExpr tree y in
      Each (Fine site) (expr_places_step (map-RawExpr RawExpr (List Place) expr_places x)) → Within (expr_step site (map-RawExpr RawExpr Typed (typed_of site) x))
  layer_within (RawExpr-F.Number number) h = exactly widths_at (Expr-F.Number (signed number))
  layer_within (RawExpr-F.Var name) h = value_within name h.0
  layer_within (RawExpr-F.Cell name index) h =
      let cell = Expr-F.Cell (slot_number (stands_for site name.text)) (typed_of site index.0).expr in
      subst (λ w. Within (record { expr = roll-Expr cell; width = w })) (sym (cell_width name h.0)) (exactly widths_at cell)
  layer_within (RawExpr-F.Past token name back) h = exactly widths_at (Expr-F.Past (number_at is_variable site name) back.value)
  layer_within (RawExpr-F.Ready token name) h = exactly widths_at (Expr-F.Ready (number_at is_stream site name))
  layer_within (RawExpr-F.Take token name) h = exactly widths_at (Expr-F.Take (number_at is_stream site name))
  layer_within (RawExpr-F.Unary op operand) h = let t = typed_of site operand.0 in exactly widths_at (Expr-F.Unary op t.width t.expr)
  layer_within (RawExpr-F.Binary op left right) h =
      let l = typed_of site left.0 in
      let r = typed_of site right.0 in
      exactly widths_at (Expr-F.Binary op (wider l.width r.width) l.expr r.expr)
  layer_within (RawExpr-F.Call name arguments) h = exactly widths_at (Expr-F.Call (number_at is_function site name) (map (into W32) (map (typed_of site) (map tree arguments))))
  layer_within (RawExpr-F.Cast width operand) h = into_within widths_at width (typed_of site operand.0) (operand.1 h)

  layer : (y : RawExpr-F Known) → P (roll-RawExpr (map-RawExpr Known RawExpr tree y))
  layer y h =
      let x : RawExpr-F RawExpr = map-RawExpr Known RawExpr tree y in
      subst Within (sym (fold-roll-RawExpr Typed (expr_step site) x)) (layer_within y (subst (Each (Fine site)) (fold-roll-RawExpr (List Place) expr_places_step x) h))

  pub typed_within : (e : RawExpr) → P e
  typed_within = ind-RawExpr P (λ x y is. subst (λ z. P (roll-RawExpr z)) is (layer y))
