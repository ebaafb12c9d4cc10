-- One more of a program's sound clocks.
use Rattle.std.proofs.Common.{◌≡◌, ℕ, zero, suc, ◌+◌, ◌<◌, List, [], ◌∷◌, ◌++◌, take, length, get_or, Option, Some, None, refl, sym, ap, ◌∙◌, subst, inl, inr, ◌⊎◌}
use Rattle.std.specs.Prelude.{slice_get, IfSome}
use Rattle.std.proofs.lemmas.List.{take_more}
use Rattle.psy_clock.specs.declared.clock.Clock.{Clock}
use Rattle.psy_clock.specs.Dates.{IsClock}
use Rattle.psy_tree.specs.declared.raw.Item.{Item}
use Rattle.psy_tree.specs.Rules.{sound, sounds_from, sound_clocks, AreClocks}

sounds-append : (items : List Item) (known : List (Option Clock)) (xs ys : List Item) → sounds_from items known (xs ++ ys) ≡ sounds_from items (sounds_from items known xs) ys
sounds-append items known [] ys = refl
sounds-append items known (x ∷ xs) ys = sounds-append items (known ++ sound items known x ∷ []) xs ys

pub clocks_more : (items : List Item) (n : ℕ) (x : Item) (known new : List (Option Clock)) (c : Option Clock) → n < length items → get_or items n x ≡ x → known ≡ sound_clocks items n → new ≡ known ++ c ∷ [] → c ≡ sound items known x → new ≡ sound_clocks items (n + 1)
clocks_more items n x known new c h e k w s =
    w ∙ ap (λ d. known ++ d ∷ []) s ∙ ap (λ ks. ks ++ sound items ks x ∷ []) k
    ∙ sym (ap (sounds_from items []) (take_more items n x h ∙ ap (λ y. take n items ++ y ∷ []) e) ∙ sounds-append items [] (take n items) (x ∷ []))

get_last : {X : Type 0} (xs : List X) (x y : X) (k : ℕ) → slice_get (xs ++ x ∷ []) k ≡ Some y → (slice_get xs k ≡ Some y) ⊎ (x ≡ y)
get_last [] x y zero h = inr (cc)
get_last [] x y (suc k) h = inl h
get_last (z ∷ xs) x y zero h = inl h
get_last (z ∷ xs) x y (suc k) h = get_last xs x y k h

some_clock : (o : Option Clock) (c : Clock) → IfSome o IsClock → o ≡ Some c → IsClock c
some_clock None c h e = cc
some_clock (Some d) c h e = let same : d ≡ c = cc in subst IsClock same h

pub lawful_more : (known new : List (Option Clock)) (o : Option Clock) → new ≡ known ++ o ∷ [] → AreClocks known → IfSome o IsClock → AreClocks new
lawful_more known new o w h s k c e =
    elim (get_last known o (Some c) k (ap (λ ks. slice_get ks k) (sym w) ∙ e)) [
      | inl there ↦ h k c there
      | inr same ↦ some_clock o c s same
    ]

pub no_clocks : (known : List (Option Clock)) → known ≡ [] → AreClocks known
no_clocks known e k c h = let n : slice_get {X = Option Clock} [] k ≡ Some (Some c) = ap (λ ks. slice_get ks k) (sym e) ∙ h in cc
