-- What an instruction asks that asks what it may, its view serves.
use Rattle.std.proofs.Common.{◌≡◌, ℕ, ◌<◌, List, length, get_or, Option, Some, None, map, refl, sym, ap, subst, ◌∙◌, arith}
use Rattle.std.specs.Prelude.{ℤ, IsSome, pos, slice_get, true}
use Rattle.std.proofs.lemmas.Option.{slice_get-get_or}
use Rattle.psy_lists.proofs.lemmas.Places.{mapped, mapped_from}
use Rattle.psy_code.specs.Views.{Call, Past, Ready, Send, ServesAll, Take, View, found_in, messages_of, past_of}
use Rattle.psy_tree.specs.declared.unit.Unit.{Unit as Whole}
use Rattle.psy_tree.specs.declared.unit.VarDecl.{VarDecl}
use Rattle.psy_meaning.specs.Alike.{IsViewOf, is_there}
use Rattle.psy_meaning.specs.Kept.{Receives}
use Rattle.psy_history.specs.Regular.{MayAsk}
use Rattle.psy_meaning.specs.KnownWays.{Ways}
use Rattle.psy_history.proofs.Sights.{SeesAs}

there_some : (messages : Option (List ℤ)) → is_there messages ≡ true → IsSome messages
there_some None e = cc
there_some (Some values) e = refl

module _ (unit : Whole) (agent : ℕ) (begun view : View) (sees : IsViewOf unit agent begun) (still : SeesAs begun view) where
  serves_past : (variable back : ℕ) (decl : VarDecl) → slice_get unit.variables variable ≡ Some decl → back < decl.depth → IsSome (past_of view variable back)
  serves_past variable back decl at low =
      let depths : map length view.pasts ≡ map (λ (v : VarDecl). v.depth) unit.variables = ap (map length) still.0 ∙ sees.depths in
      let (values, is, long) = mapped_from length view.pasts variable decl.depth (ap (λ ns. slice_get ns variable) depths ∙ mapped (λ (v : VarDecl). v.depth) unit.variables variable decl at) in
      let found = ap (λ found. found_in found (λ vs. slice_get vs back)) is in
      let value : slice_get values back ≡ Some (get_or values back (pos 0)) = slice_get-get_or values back (pos 0) (omega (arith, low, long)) in
      subst IsSome (sym (found ∙ value)) refl

  serves_messages : (stream : ℕ) → Receives unit agent stream → IsSome (messages_of view stream)
  serves_messages stream receives =
      let same = still.1 ∙ sees.streams in
      let (messages, is, there) = mapped_from is_there view.messages stream true (ap (λ bs. slice_get bs stream) same ∙ receives) in
      subst IsSome (sym (ap (λ found. found_in found (λ m. m)) is)) (there_some messages there)

  pub serves : (ways : Ways) (point : ℕ) (call : Option Call) → MayAsk ways unit agent point call → ServesAll view call
  serves ways point None may = tt {0}
  serves ways point (Some (Past variable back)) (decl, at, low, looks) = serves_past variable back decl at low
  serves ways point (Some (Ready stream)) receives = serves_messages stream receives
  serves ways point (Some (Take stream)) receives = serves_messages stream receives
  serves ways point (Some (Send sent)) may = tt {0}
