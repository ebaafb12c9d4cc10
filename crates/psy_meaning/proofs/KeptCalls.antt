-- What calls of sound functions keep.
use Rattle.std.proofs.Common.{◌≡◌, ℕ, zero, suc, ◌+◌, ◌<◌, Bool, true, false, List, [], ◌∷◌, ◌++◌, map, replicate, length, Some, refl, sym, subst, inl, inr, arith, append-nil, append_assoc}
use Rattle.std.specs.Prelude.{◌⊎◌, ◌==◌, if◌then◌else◌, slice_get, ℤ}
use Rattle.std.specs.List.{All}
use Rattle.std.proofs.lemmas.Bool.{eqb-true, eqb-false}
use Rattle.std.proofs.lemmas.List.{length-append, length-map, length-replicate}
use Rattle.std.proofs.lemmas.List.Elements.{All-nil, All-cons, All-head, All-tail}
use Rattle.std.proofs.lemmas.Option.{none-some, same_Some, slice_get_within}
use Rattle.psy_arith.specs.declared.width.Width.{Width}
use Rattle.psy_arith.specs.declared.width.Width.TheVariants.{W32}
use Rattle.psy_tree.specs.declared.unit.FunctionDecl.{FunctionDecl}
use Rattle.psy_tree.specs.declared.unit.LocalDecl.{LocalDecl}
use Rattle.psy_tree.specs.declared.unit.Stmt.{Stmt}
use Rattle.psy_tree.specs.declared.unit.Unit.{Unit as Whole}
use Rattle.psy_tree.proofs.lemmas.Lists.{slice_get-either}
use Rattle.psy_meaning.specs.Alike.{AllFit, FitSlots}
use Rattle.psy_meaning.specs.Paths.{advances_in}
use Rattle.psy_meaning.specs.Sound.{Scope, Each, AreSound, function_scope, IsSoundFunction, AreSoundFunctions}
use Rattle.psy_meaning.specs.States.{Store, Ended, Trapped, Outcome, Falls, Returns, Halts, Callee, cost_1}
use Rattle.psy_meaning.specs.Statements.{acts_by, function_frame, in_store, back_in, callee, no_callee, with_callee, callees_from, callees_of}
use Rattle.psy_meaning.proofs.KeptExprs.{IsScopeOf, GotFine, CallKeeps, AllKeep}
use Rattle.psy_meaning.proofs.KeptStates.{Shape, IsShaped, fit-cons, fine_cost, fine_in}
use Rattle.psy_meaning.proofs.KeptStmts.{OutFine, stmts_keep}
use Rattle.psy_meaning.proofs.KeptValues.{Fits, Has, Ranges, zero_fits}
use Rattle.psy_meaning.proofs.Suited.{Allowed, IsSuited, all_suited}

-- No point is reached.
abbrev Unreached : ℕ → Type 0
Unreached point = ⊥

each_any : {X : Type 0} (P : X → Type 0) → ((x : X) → P x) → (xs : List X) → Each P xs
each_any P h [] = tt
each_any P h (x ∷ xs) = (h x, each_any P h xs)

-- Statements where there are no points
suited : (scope : Scope) → scope.points ≡ 0 → (stmts : List Stmt) → AreSound scope stmts → Each (IsSuited scope Unreached) stmts
suited scope e stmts h = all_suited scope Unreached stmts h (each_any (Allowed scope Unreached) (λ point less. omega (arith, less, e)) (advances_in stmts))

-- The first values of locals, and of parameters before them
locals_fit : (locals : List LocalDecl) → All (λ l. Has l.width l.init) locals → FitSlots (map (λ l. l.width) locals) (map (λ v. v ∷ []) (map (λ l. l.init) locals))
locals_fit [] h = λ slot width cells w e. absurd (none-some width w)
locals_fit (l ∷ ls) h =
    fit-cons l.width (l.init ∷ []) (map (λ l. l.width) ls) (map (λ v. v ∷ []) (map (λ l. l.init) ls))
    (All-cons (Has l.width) l.init [] (All-head (λ (l : LocalDecl). Has l.width l.init) l ls h) (All-nil (Has l.width)))
    (locals_fit ls (All-tail (λ (l : LocalDecl). Has l.width l.init) l ls h))

frame_fits : (params : ℕ) (arguments : List ℤ) (locals : List LocalDecl) → length arguments ≡ params → AllFit arguments → All (λ l. Has l.width l.init) locals
    → FitSlots (replicate params W32 ++ map (λ l. l.width) locals) (map (λ v. v ∷ []) (arguments ++ map (λ l. l.init) locals))
frame_fits zero [] locals e a h = locals_fit locals h
frame_fits zero (v ∷ vs) locals e a h = absurd (omega (arith, e))
frame_fits (suc n) [] locals e a h = absurd (omega (arith, e))
frame_fits (suc n) (v ∷ vs) locals e a h =
    fit-cons W32 (v ∷ []) (replicate n W32 ++ map (λ l. l.width) locals) (map (λ v. v ∷ []) (vs ++ map (λ l. l.init) locals))
    (All-cons Fits v [] (All-head Fits v vs a) (All-nil Fits)) (frame_fits n vs locals (omega (arith, e)) (All-tail Fits v vs a) h)

-- The slots of a function have the types of its scope.
abbrev widths_of : FunctionDecl → List Width
widths_of f = replicate f.params W32 ++ map (λ l. l.width) f.locals

frame_shaped : (f : FunctionDecl) (arguments : List ℤ) (watched : Bool) → length arguments ≡ f.params → AllFit arguments → All (λ l. Has l.width l.init) f.locals
    → IsShaped (widths_of f) (record { layout = map length (function_frame f arguments).slots; names = []; watched = watched }) (function_frame f arguments)
frame_shaped f arguments watched same h k =
    let values = arguments ++ map (λ (l : LocalDecl). l.init) f.locals in
    record {
      slots = refl;
      many = omega (
        arith,
        same,
        length-map values (λ (v : ℤ). v ∷ []),
        length-append arguments (map (λ (l : LocalDecl). l.init) f.locals),
        length-map f.locals (λ (l : LocalDecl). l.init),
        length-append (replicate f.params W32) (map (λ (l : LocalDecl). l.width) f.locals),
        length-replicate f.params W32,
        length-map f.locals (λ (l : LocalDecl). l.width),
      );
      values = frame_fits f.params arguments f.locals same h k;
      variables = refl;
      copies = All-nil _;
    }

-- A function of a list is one before the last, or the last.
last_or_above : (above : List FunctionDecl) (f : FunctionDecl) (function : ℕ) (decl : FunctionDecl) → slice_get (above ++ f ∷ []) function ≡ Some decl
    → ((function < length above) × (slice_get above function ≡ Some decl)) ⊎ ((function ≡ length above) × (f ≡ decl))
last_or_above above f function decl got = by (slice_get-either above (f ∷ []) function decl got)
  where
    by : (slice_get above function ≡ Some decl) ⊎ ((j : ℕ) × (function ≡ length above + j) × (slice_get (f ∷ []) j ≡ Some decl))
        → ((function < length above) × (slice_get above function ≡ Some decl)) ⊎ ((function ≡ length above) × (f ≡ decl))
    by (inl e) = inl (slice_get_within above function decl e, e)
    by (inr (zero, is, e)) = inr (omega (arith, is), same_Some f decl e)
    by (inr (suc j, is, e)) = absurd (none-some decl e)

module _ (ranges : Ranges) (unit : Whole) (number : ℕ) where
  back_keeps : (inner : List Width) (layout : List ℕ) (widths : List Width) (shape : Shape) (store : Store) (o : Outcome) → IsShaped widths shape store
      → OutFine unit number Unreached inner (record { layout = layout; names = []; watched = shape.watched }) o → GotFine unit number widths shape W32 (back_in store o)
  back_keeps inner layout widths shape store (Falls t) h g =
      let home = in_store store t in
      (zero_fits, fine_cost unit number widths shape (cost_1 home) (fine_cost unit number widths shape home (fine_in unit number widths shape store t h g.view g.deeds)))
  back_keeps inner layout widths shape store (Returns v t) h g = (g.0, fine_in unit number widths shape store t h g.1.view g.1.deeds)
  back_keeps inner layout widths shape store (Halts (Ended point t)) h g = elim g.0 [ ]
  back_keeps inner layout widths shape store (Halts (Trapped kind t)) h g = fine_in unit number widths shape store t h g.view g.deeds

  callee_keeps : (callees : ℕ → Callee) (above : List FunctionDecl) → AllKeep unit number above callees → (f : FunctionDecl) → IsSoundFunction above f → CallKeeps unit number f.params (callee callees f)
  callee_keeps callees above all f sound widths shape arguments s same fit fine =
      let depths = map (λ v. v.depth) unit.variables in
      let streams = map (λ s. s.receiver == number) unit.streams in
      let scope = function_scope above depths streams f in
      let of_unit : IsScopeOf unit number scope = record { depths = refl; streams = refl; clocks = omega arith } in
      let frame = function_frame f arguments in
      let layout = map length frame.slots in
      let inner : Shape = record { layout = layout; names = []; watched = shape.watched } in
      back_keeps (widths_of f) layout widths shape s.store (acts_by callees f.stmts (in_store frame s)) fine.store
      (stmts_keep ranges unit number scope of_unit callees all Unreached inner f.stmts (suited scope refl f.stmts (sound.stmts depths streams)) (in_store frame s)
      (fine_in unit number (widths_of f) inner frame s (frame_shaped f arguments shape.watched same fit sound.locals) fine.view fine.deeds))

  with_keeps : (above : List FunctionDecl) (f : FunctionDecl) (last : Callee) (callees : ℕ → Callee) → CallKeeps unit number f.params last → AllKeep unit number above callees
      → AllKeep unit number (above ++ f ∷ []) (with_callee (length above) last callees)
  with_keeps above f last callees p q function decl got = by (function == length above) refl (last_or_above above f function decl got)
    where
      by : (t : Bool) → (function == length above) ≡ t → ((function < length above) × (slice_get above function ≡ Some decl)) ⊎ ((function ≡ length above) × (f ≡ decl))
          → CallKeeps unit number decl.params (if t then last else callees function)
      by true e (inl (less, there)) = absurd (omega (arith, less, eqb-true function (length above) e))
      by true e (inr (is, same)) = subst (λ (g : FunctionDecl). CallKeeps unit number g.params last) same p
      by false e (inl (less, there)) = q function decl there
      by false e (inr (is, same)) = absurd (eqb-false function (length above) e is)

  from_keeps : (place : ℕ) (callees : ℕ → Callee) (above fs : List FunctionDecl) → length above ≡ place → AllKeep unit number above callees → AreSoundFunctions above fs
      → AllKeep unit number (above ++ fs) (callees_from place callees fs)
  from_keeps place callees above [] e all h = subst (λ gs. AllKeep unit number gs callees) (sym (append-nil above)) all
  from_keeps place callees above (f ∷ fs) e all h =
      let with_f = with_callee place (callee callees f) callees in
      let next : AllKeep unit number (above ++ f ∷ []) with_f =
      subst (λ n. AllKeep unit number (above ++ f ∷ []) (with_callee n (callee callees f) callees)) e (with_keeps above f (callee callees f) callees (callee_keeps callees above all f h.0) all) in
      subst (λ gs. AllKeep unit number gs (callees_from (place + 1) with_f fs)) (append_assoc above (f ∷ []) fs)
      (from_keeps (place + 1) with_f (above ++ f ∷ []) fs (omega (arith, e, length-append above (f ∷ []))) next h.1)

  pub callees_keep : (fs : List FunctionDecl) → AreSoundFunctions [] fs → AllKeep unit number fs (callees_of fs)
  callees_keep fs h = from_keeps 0 no_callee [] fs refl (λ function decl got. absurd (none-some decl got)) h
