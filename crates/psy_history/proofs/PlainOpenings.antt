-- The plain opening is sound, by whatever ways: nothing was done yet.
use Rattle.std.proofs.Common.{◌≡◌, ℕ, ◌<◌, All, List, Some, length, refl, sym, ap, subst, inl, inr, arith, true}
use Rattle.std.specs.Prelude.{ℤ}
use Rattle.std.specs.Int.{◌∣◌}
use Rattle.std.proofs.lemmas.Nat.Gcd.{dvd-zero}
use Rattle.std.proofs.lemmas.List.Elements.{All-nil}
use Rattle.std.proofs.lemmas.Option.{none-some, slice_get-get_or}
use Rattle.psy_lists.proofs.lemmas.Members.{all_members, get_or_holds}
use Rattle.psy_budget.specs.declared.charge.Stall.{Stall}
use Rattle.psy_code.specs.declared.code.Code.{Code}
use Rattle.psy_code.specs.Views.{found_in}
use Rattle.psy_queue.specs.Order.{comes_before}
use Rattle.psy_tree.specs.declared.unit.Unit.{Unit as Whole}
use Rattle.psy_tree.specs.Parts.{agent_at}
use Rattle.psy_history.specs.Actions.{Next, System, first_action, timing}
use Rattle.psy_history.specs.Compiled.{coded}
use Rattle.psy_history.specs.Executors.{by_code}
use Rattle.psy_history.specs.Openings.{IsHeldBefore, IsSound, MayCarry}
use Rattle.psy_history.specs.Regular.{MayStartAlike}
use Rattle.psy_meaning.specs.Graph.{periods}
use Rattle.psy_meaning.specs.KnownWays.{Ways}
use Rattle.psy_meaning.specs.Timing.{first, first_date}
use Rattle.psy_history.proofs.Growth.{opens_with}
use Rattle.psy_history.proofs.MessageOrder.{pairs_none}
use Rattle.psy_history.proofs.Seeing.{Fits, zero_fits}

module _ (unit : Whole) (code : Code) (nexts : List (List (List ℕ))) (stalls : ℕ → List Stall) (inputs : List (List ℤ)) (ways : Ways) (inits : All (λ v. Fits v.init) unit.variables)
    (carries : (agent : ℕ) → agent < length unit.agents → MayCarry unit code agent ((by_code code).first agent)) where
  abbrev system : System
  system = coded unit code nexts stalls inputs

  starts_at : (agent : ℕ) → MayStartAlike (timing system agent) 0 (first_date (timing system agent))
  starts_at agent = record {
    met = first_date (timing system agent);
    may = first;
    apart = 0;
    whole = all_members (λ period. period ∣ 0) (periods (timing system agent)) (λ period c. dvd-zero period);
    far = inl (omega arith);
  }

  pub plain_sound : IsSound system ways code
  plain_sound = record {
    begins = λ agent less loud.
        let begins = first_action unit nexts (by_code code) agent in
        (begins, ap (λ o. found_in o (λ a. Some begins)) (slice_get-get_or unit.agents agent (agent_at unit agent) less));
    known = λ agent n is. ((opens_with unit nexts (by_code code) stalls inputs agent n is).0, refl);
    places = λ agent n is. inr (record { first = sym (opens_with unit nexts (by_code code) stalls inputs agent n is).1; ahead = omega arith; committed = λ variable owned. refl });
    starts = λ agent n is.
        let (less, begins) = opens_with unit nexts (by_code code) stalls inputs agent n is in
        subst (λ (m : Next). MayStartAlike (timing system agent) m.point m.start) begins (starts_at agent);
    carries = λ agent n is.
        let (less, begins) = opens_with unit nexts (by_code code) stalls inputs agent n is in
        subst (λ (m : Next). MayCarry unit code agent m.carried) begins (carries agent less);
    committed = λ variable. get_or_holds (λ v. Fits v.init) unit.variables variable _ zero_fits inits;
    inputs = λ variable none. refl;
    published = λ variable. All-nil Fits;
    rings = λ last variable none less. absurd cc;
    messages = λ stream. record { each = All-nil (IsHeldBefore system stream); rise = pairs_none (λ m n. comes_before m n ≡ true); few = omega arith };
    counts = λ agent. omega arith;
    slacks = λ agent. refl;
    reaches = λ variable size n ring is. absurd (none-some n is);
    most = λ stream size is. omega arith;
  }
