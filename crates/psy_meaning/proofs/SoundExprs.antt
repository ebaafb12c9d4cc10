-- Expressions without a fault are sound where names without a fault stand for what can be named.
use Rattle.std.proofs.Common.{◌≡◌, sym, subst, ◌∙◌}
use Rattle.std.specs.Prelude.{ℕ, Bool, true, false, if◌then◌else◌, List, [], ◌∷◌, map, take, length, Option, Some, None}
use Rattle.std.proofs.lemmas.List.{length-map}
use Rattle.psy_arith.specs.declared.width.Width.{Width}
use Rattle.psy_arith.specs.declared.width.Width.TheVariants.{W32}
use Rattle.psy_arith.specs.Widths.{is_narrower, wider}
use Rattle.psy_tree.specs.declared.raw.Name.{Name}
use Rattle.psy_tree.specs.declared.raw.Lit.{Lit}
use Rattle.psy_tree.specs.declared.raw.RawExpr.{RawExpr, roll-RawExpr, map-RawExpr, ind-RawExpr, fold-roll-RawExpr}
use Rattle.psy_tree.specs.declared.raw.RawExpr.TheOpen.{RawExpr-F}
use Rattle.psy_tree.specs.declared.reach.Asks.TheVariants as asks
use Rattle.psy_tree.specs.declared.reach.Found.{Found}
use Rattle.psy_tree.specs.declared.reach.Found.TheVariants as found
use Rattle.psy_tree.specs.declared.unit.Expr.{roll-Expr}
use Rattle.psy_tree.specs.declared.unit.Expr.TheOpen.{Expr-F}
use Rattle.psy_tree.specs.Scope.{Site, stands_for}
use Rattle.psy_tree.specs.Places.{Place, Uses, LooksBack, Acts, Returns, Ranges, joined, expr_places, expr_places_step}
use Rattle.psy_tree.specs.Rules.{is_clock, is_function, is_stream}
use Rattle.psy_tree.specs.Stands.{counting, is_variable, number_at, slot_number, signed, value_of, Typed, into, expr_step, typed_of, expr_of, expr_into}
use Rattle.psy_meaning.specs.Sound.{Scope, HasSlot, HasCopy, HasPast, HasStream, HasFunction, CanSend, GoesInto, Each, expr_width, IsSoundExpr}
use Rattle.psy_meaning.proofs.Literals.{signed_fits}
use Rattle.psy_meaning.proofs.lemmas.Eaches.{each-first, each-second}
use Rattle.psy_tree.proofs.lemmas.Faultless.{Fine}
use Rattle.psy_meaning.proofs.lemmas.SoundParts.{expr_sound}
use Rattle.psy_meaning.proofs.TypedExprs.{widths_at, into_within, typed_within}

-- The scope has the variable or the slot that a name stands for.
abbrev pub HasValue : Site → Scope → Option Found → Type 0
HasValue site scope None = ⊥
HasValue site scope (Some (found.Item k)) = HasCopy scope (counting is_variable (take k site.items))
HasValue site scope (Some (found.Slot k)) = HasSlot scope k

-- The scope has all that places without a fault name at the site, and the types of the site's slots.
pub record Suits (site : Site) (scope : Scope) : Type 0 where
  pub widths : scope.widths ≡ widths_at site
  pub values : (name : Name) → Fine site (Uses name asks.Value) → HasValue site scope (stands_for site name.text)
  pub cells : (name : Name) → Fine site (Uses name asks.Cell) → HasSlot scope (slot_number (stands_for site name.text))
  pub pasts : (token : ℕ) (name : Name) (back : Lit) → Fine site (Acts token) → Fine site (Uses name asks.Past) → Fine site (LooksBack name back) → HasPast scope (number_at is_variable site name) back.value
  pub messages : (token : ℕ) (name : Name) → Fine site (Acts token) → Fine site (Uses name asks.Messages) → HasStream scope (number_at is_stream site name)
  pub calls : (name : Name) (n : ℕ) → Fine site (Uses name (asks.Call n)) → HasFunction scope (number_at is_function site name) n
  pub sends : (token : ℕ) (stream : Name) (after : Lit) (clock : Name) → Fine site (Acts token) → Fine site (Uses stream asks.Target) → Fine site (Ranges after 0 1024) → Fine site (Uses clock asks.Clock)
      → CanSend scope (number_at is_stream site stream) after.value (number_at is_clock site clock)
  pub returns : (token : ℕ) → Fine site (Returns token) → scope.returns ≡ true

module _ (site : Site) (scope : Scope) (suits : Suits site scope) where
  abbrev P : RawExpr → Type 0
  P e = Each (Fine site) (expr_places e) → IsSoundExpr scope (expr_of site e)

  abbrev Known : Type 0
  Known = (e : RawExpr) × P e

  abbrev tree : Known → RawExpr
  tree x = x.0

  value_sound : (f : Option Found) → HasValue site scope f → IsSoundExpr scope (value_of site f)
  value_sound None h = absurd h
  value_sound (Some (found.Slot k)) h = expr_sound scope (Expr-F.Slot k) h
  value_sound (Some (found.Item k)) h = expr_sound scope (Expr-F.Copy (counting is_variable (take k site.items))) h

  -- A value that goes where one of a type is asked for
  into_sound : (width : Width) (t : Typed) → IsSoundExpr scope t.expr → IsSoundExpr scope (into width t)
  into_sound width t h = by (is_narrower width t.width)
    where
      by : (b : Bool) → IsSoundExpr scope (if b then roll-Expr (Expr-F.Cast width t.expr) else t.expr)
      by true = expr_sound scope (Expr-F.Cast width t.expr) h
      by false = h

  pub goes_into : (width : Width) (e : RawExpr) → Each (Fine site) (expr_places e) → GoesInto scope width (expr_into site width e)
  goes_into width e h =
      subst (λ ws. is_narrower width (expr_width ws (expr_into site width e)) ≡ false) (sym suits.widths) (into_within (widths_at site) width (typed_of site e) (typed_within site e h))

  all_in : (ks : List Known) → Each (Fine site) (joined (map expr_places (map tree ks)))
      → Each (IsSoundExpr scope) (map (into W32) (map (typed_of site) (map tree ks))) × Each (GoesInto scope W32) (map (into W32) (map (typed_of site) (map tree ks)))
  all_in [] h = (tt, tt)
  all_in (x ∷ xs) h =
      let first = each-first (Fine site) (expr_places x.0) (joined (map expr_places (map tree xs))) h in
      let others = all_in xs (each-second (Fine site) (expr_places x.0) (joined (map expr_places (map tree xs))) h) in
      ((into_sound W32 (typed_of site x.0) (x.1 first), others.0), (goes_into W32 x.0 first, others.1))

  layer_sound : (y : RawExpr-F Known) → let x = map-RawExpr Known RawExpr tree y in
      Each (Fine site) (expr_places_step (map-RawExpr RawExpr (List Place) expr_places x)) → IsSoundExpr scope (expr_step site (map-RawExpr RawExpr Typed (typed_of site) x)).expr
  layer_sound (RawExpr-F.Number number) h = expr_sound scope (Expr-F.Number (signed number)) (signed_fits number)
  layer_sound (RawExpr-F.Var name) h = value_sound (stands_for site name.text) (suits.values name h.0)
  layer_sound (RawExpr-F.Cell name index) h = expr_sound scope (Expr-F.Cell (slot_number (stands_for site name.text)) (expr_of site index.0)) (suits.cells name h.0, index.1 h.1)
  layer_sound (RawExpr-F.Past token name back) h = expr_sound scope (Expr-F.Past (number_at is_variable site name) back.value) (suits.pasts token name back h.0 h.1.0 h.1.1.0)
  layer_sound (RawExpr-F.Ready token name) h = expr_sound scope (Expr-F.Ready (number_at is_stream site name)) (suits.messages token name h.0 h.1.0)
  layer_sound (RawExpr-F.Take token name) h = expr_sound scope (Expr-F.Take (number_at is_stream site name)) (suits.messages token name h.0 h.1.0)
  layer_sound (RawExpr-F.Unary op operand) h = expr_sound scope (Expr-F.Unary op (typed_of site operand.0).width (expr_of site operand.0)) (operand.1 h)
  layer_sound (RawExpr-F.Binary op left right) h =
      expr_sound scope (Expr-F.Binary op (wider (typed_of site left.0).width (typed_of site right.0).width) (expr_of site left.0) (expr_of site right.0))
      (left.1 (each-first (Fine site) (expr_places left.0) (expr_places right.0) h), right.1 (each-second (Fine site) (expr_places left.0) (expr_places right.0) h))
  layer_sound (RawExpr-F.Cast width operand) h = into_sound width (typed_of site operand.0) (operand.1 h)
  layer_sound (RawExpr-F.Call name arguments) h =
      let raws = map tree arguments in
      let typed = map (typed_of site) raws in
      let same = length-map raws expr_places ∙ sym (length-map typed (into W32) ∙ length-map raws (typed_of site)) in
      let its = all_in arguments h.1 in
      expr_sound scope (Expr-F.Call (number_at is_function site name) (map (into W32) typed))
      (subst (HasFunction scope (number_at is_function site name)) same (suits.calls name (length (map expr_places raws)) h.0), its.0, its.1)

  layer : (y : RawExpr-F Known) → P (roll-RawExpr (map-RawExpr Known RawExpr tree y))
  layer y h =
      let x : RawExpr-F RawExpr = map-RawExpr Known RawExpr tree y in
      subst (λ (t : Typed). IsSoundExpr scope t.expr) (sym (fold-roll-RawExpr Typed (expr_step site) x)) (layer_sound y (subst (Each (Fine site)) (fold-roll-RawExpr (List Place) expr_places_step x) h))

  pub sound_exprs : (e : RawExpr) → P e
  sound_exprs = ind-RawExpr P (λ x y is. subst (λ z. P (roll-RawExpr z)) is (layer y))

  pub sound_into : (width : Width) (e : RawExpr) → Each (Fine site) (expr_places e) → IsSoundExpr scope (expr_into site width e)
  sound_into width e h = into_sound width (typed_of site e) (sound_exprs e h)
