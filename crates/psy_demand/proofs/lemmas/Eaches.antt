-- What each graph of a list has, where both lists grow.
use Rattle.std.proofs.Common.{◌≡◌, ◌∙◌, ℕ, zero, suc, ◌+◌, ◌<◌, List, [], ◌∷◌, ◌++◌, Some, length, length-append, take, get_or, sym, ap, subst₂, arith}
use Rattle.std.specs.Prelude.{slice_get}
use Rattle.std.proofs.lemmas.List.{take_more}
use Rattle.std.specs.List.{All}
use Rattle.std.proofs.lemmas.Option.{none-some, same_Some, slice_get-get_or}
use Rattle.psy_lists.proofs.lemmas.Places.{there}
use Rattle.psy_graph.specs.declared.graph.Graph.{Graph}
use Rattle.psy_demand.specs.Criterion.{AreEach}

module _ {X : Type 0} (Is : Graph → X → Type 0) where
  each_pushed : (graphs : List Graph) (things : List X) (graph : Graph) (thing : X) → length things ≡ length graphs
      → ((n : ℕ) (g : Graph) (x : X) → slice_get graphs n ≡ Some g → slice_get things n ≡ Some x → Is g x) → Is graph thing
      → (n : ℕ) (g : Graph) (x : X) → slice_get (graphs ++ graph ∷ []) n ≡ Some g → slice_get (things ++ thing ∷ []) n ≡ Some x → Is g x
  each_pushed [] [] graph thing count each is zero g x at there = subst₂ Is (same_Some graph g at) (same_Some thing x there) is
  each_pushed [] [] graph thing count each is (suc n) g x at there = absurd (none-some g at)
  each_pushed [] (y ∷ things) graph thing count each is n g x at there = absurd (omega (arith, count))
  each_pushed (h ∷ graphs) [] graph thing count each is n g x at there = absurd (omega (arith, count))
  each_pushed (h ∷ graphs) (y ∷ things) graph thing count each is zero g x at there = each zero g x at there
  each_pushed (h ∷ graphs) (y ∷ things) graph thing count each is (suc n) g x at there =
      each_pushed graphs things graph thing (omega (arith, count)) (λ k. each (suc k)) is n g x at there

  pub pushed : (graphs : List Graph) (things : List X) (graph : Graph) (thing : X) → AreEach Is graphs things → Is graph thing
      → AreEach Is (graphs ++ graph ∷ []) (things ++ thing ∷ [])
  pushed graphs things graph thing are is = record {
    count = omega (arith, length-append graphs (graph ∷ []), length-append things (thing ∷ []), are.count);
    each = each_pushed graphs things graph thing are.count are.each is;
  }

  -- One graph more is read, and what it has is added.
  pub grown : (graphs : List Graph) (things more : List X) (item : Graph) (thing : X) (i : ℕ) → i < length graphs → item ≡ get_or graphs i item
      → more ≡ things ++ thing ∷ [] → AreEach Is (take i graphs) things → Is item thing → AreEach Is (take (i + 1) graphs) more
  grown graphs things more item thing i within read is are its =
      subst₂ (AreEach Is) (ap (λ g. take i graphs ++ g ∷ []) read ∙ sym (take_more graphs i item within)) (sym is)
      (pushed (take i graphs) things item thing are its)

  -- What follows for each of the things
  pub all_of : (Follows : X → Type 0) → ((graph : Graph) (thing : X) → Is graph thing → Follows thing) → (graphs : List Graph) (things : List X)
      → AreEach Is graphs things → All Follows things
  all_of Follows from graphs things are k d less =
      let g = there graphs k (omega (arith, less, are.count)) in
      from g.0 (get_or things k d) (are.each k g.0 (get_or things k d) g.1 (slice_get-get_or things k d less))
