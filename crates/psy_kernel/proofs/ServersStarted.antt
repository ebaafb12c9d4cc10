-- The processors, once the actions of some of those that a list names have started.
use Rattle.std.proofs.Common.{◌≡◌, ℕ, zero, suc, ◌+◌, ◌<◌, ◌≤◌, ◌==◌, Bool, true, false, if◌then◌else◌, List, [], ◌∷◌, get_or, length, Option, Some, None, refl, ap, sym, subst, ◌∙◌, inl, inr, arith, slice_set}
use Rattle.std.specs.List.{slice_get}
use Rattle.std.proofs.lemmas.Bool.{cases_eq, cond-false, cond-true, eq-eqb, ne_eqb}
use Rattle.std.proofs.lemmas.Option.{get_or_from_slice_get, same_Some, slice_get-get_or}
use Rattle.psy_dates.specs.declared.seat.Seat.{Seat}
use Rattle.psy_dates.specs.Movers.{IsDoneBelow, NamesAll}
use Rattle.psy_dates.proofs.lemmas.Placed.{Walked, walk_at, walk_begun, walk_done, walk_kept, walk_on}
use Rattle.psy_dates.proofs.lemmas.Sets.{get_set_other, get_set_same}
use Rattle.psy_ready.specs.Choice.{pending_deadline}
use Rattle.psy_tree.specs.declared.unit.AgentDecl.{AgentDecl}
use Rattle.psy_kernel.specs.declared.engine.Server.{Server}
use Rattle.psy_kernel.specs.Standing.{ready_of}
use Rattle.psy_kernel.specs.Starting.{deadline_at, deadline_on, home_at, seat_at, starts_at, waits_in}
use Rattle.psy_kernel.proofs.Engines.{server_there}

-- An item that is put where it stands
set_itself : {X : Type 0} (xs : List X) (place : ℕ) (x : X) → slice_get xs place ≡ Some x → slice_set xs place x ≡ xs
set_itself [] place x at = refl
set_itself (y ∷ xs) zero x at = (let same : x ≡ y = cc in ap (λ z. z ∷ xs) same)
set_itself (y ∷ xs) (suc place) x at = ap (λ rest. y ∷ rest) (set_itself xs place x at)

never_made : {X : Type 0} (home starts : Bool) (x y : X) → starts ≡ false → (if home then (if starts then y else x) else x) ≡ x
never_made true starts x y e = cond-false starts y x e
never_made false starts x y e = refl

module _ (date : ℕ) (agents : List AgentDecl) (seats : List Seat) (names : List ℕ) where
  abbrev test : ℕ → Bool
  test k = starts_at date (seat_at seats k)

  -- Of each processor, those up to a place of the list wait that start.
  abbrev pub AreWalked : ℕ → List Server → List Server → Type 0
  AreWalked place before after = (processor : ℕ) (old new : Server) → slice_get before processor ≡ Some old → slice_get after processor ≡ Some new
      → (new ≡ record old { ready = new.ready }) × Walked (λ k. starts_at date (seat_at seats k)) (deadline_on date agents seats processor) (length seats) names place old.ready new.ready

  unmade : (processor k : ℕ) (x : Option ℕ) → test k ≡ false → deadline_on date agents seats processor k x ≡ x
  unmade processor k x e = never_made (home_at agents k == processor) (test k) x (Some (seat_at seats k).deadline) e

  pub walk_begins : (servers : List Server) → NamesAll (λ k. starts_at date (seat_at seats k)) (length seats) 0 names → AreWalked 0 servers servers
  walk_begins servers all processor old new was there =
      let same : old ≡ new = same_Some old new (sym was ∙ there) in
      subst (λ (y : Server). (y ≡ record old { ready = y.ready }) × Walked test (deadline_on date agents seats processor) (length seats) names 0 old.ready y.ready) same
      (refl, walk_begun test (deadline_on date agents seats processor) (length seats) names old.ready all)

  module _ (before after : List Server) (as_many : length after ≡ length before) (waiting : (processor : ℕ) (old : Server) → slice_get before processor ≡ Some old → length old.ready ≡ length seats) where
    pub walk_ends : (place : ℕ) → length names ≤ place → AreWalked place before after → (processor : ℕ) (old new : Server) → slice_get before processor ≡ Some old → slice_get after processor ≡ Some new
        → (new ≡ record old { ready = new.ready }) × IsDoneBelow (deadline_on date agents seats processor) (length seats) old.ready new.ready
    walk_ends place l w processor old new was there =
        let h = w processor old new was there in
        (h.0, walk_done test (deadline_on date agents seats processor) (length seats) names old.ready (λ k x at e. unmade processor k x e) place new.ready l h.1)

    module _ (place : ℕ) (l : place < length names) (w : AreWalked place before after) (known : get_or names place 0 < length seats) where
      abbrev n : ℕ
      n = get_or names place 0

      -- The next one doesn't start.
      pub walk_rests : starts_at date (seat_at seats (get_or names place 0)) ≡ false → AreWalked (place + 1) before after
      walk_rests rests processor old new was there =
          let h = w processor old new was there in
          (h.0, walk_kept test (deadline_on date agents seats processor) (length seats) names old.ready (λ k x at e. unmade processor k x e) place new.ready new.ready l h.1 rests refl)

      waits_there : (processor : ℕ) (old new : Server) → slice_get before processor ≡ Some old → slice_get after processor ≡ Some new → slice_get new.ready n ≡ Some (get_or new.ready n None)
      waits_there processor old new was there =
          let h = w processor old new was there in
          slice_get-get_or new.ready n None (omega (arith, known, waiting processor old was, h.1.done.count))

      -- It does, on its own processor,
      module _ (home : ℕ) (home_is : home ≡ home_at agents (get_or names place 0)) (within : home < length after) (server : Server) (at : slice_get after home ≡ Some server) where
        was_there : (old : Server) × (slice_get before home ≡ Some old)
        was_there = server_there before home (omega (arith, within, as_many))

        -- for which it doesn't wait.
        pub free_there : waits_in agents before (get_or names place 0) ≡ None → pending_deadline server.ready (get_or names place 0) ≡ None
        free_there free =
            let old = was_there in
            let none : pending_deadline old.0.ready n ≡ None = sym (ap (λ o. pending_deadline (ready_of o) n) (ap (slice_get before) (sym home_is) ∙ old.1)) ∙ free in
            let h = w home old.0 server old.1 at in
            let same = walk_at test (deadline_on date agents seats home) (length seats) names old.0.ready place server.ready l h.1 in
            get_or_from_slice_get server.ready n None None (same ∙ slice_get-get_or old.0.ready n None (omega (arith, known, waiting home old.0 old.1)) ∙ ap (λ x. Some x) none)

        pub walk_starts : starts_at date (seat_at seats (get_or names place 0)) ≡ true → AreWalked (place + 1) before (slice_set after home (record server { ready = slice_set server.ready (get_or names place 0) (Some (seat_at seats (get_or names place 0)).deadline) }))
        walk_starts starts processor old new was there = elim (cases_eq processor home) [
          | inl same ↦
              (let made = deadline_on date agents seats processor in
              let ready : List (Option ℕ) = slice_set server.ready n (Some (seat_at seats n).deadline) in
              let next : Server = record server { ready = ready } in
              let new_is : new ≡ next = get_set_same after home next new (ap (slice_get (slice_set after home next)) (sym same) ∙ there) in
              let at_processor : slice_get after processor ≡ Some server = ap (slice_get after) same ∙ at in
              let h = w processor old server was at_processor in
              let x : Option ℕ = get_or server.ready n None in
              let due : Some (seat_at seats n).deadline ≡ made n x =
              sym (cond-true (home_at agents n == processor) (deadline_at date seats n x) x (eq-eqb (home_at agents n) processor (sym home_is ∙ sym same)) ∙ cond-true (test n) (Some (seat_at seats n).deadline) x starts) in
              subst (λ (y : Server). (y ≡ record old { ready = y.ready }) × Walked test made (length seats) names (place + 1) old.ready y.ready) (sym new_is) (
                ap (λ (s : Server). record s { ready = ready }) h.0,
                walk_on test made (length seats) names old.ready (λ k y at e. unmade processor k y e) place server.ready ready x l h.1 (waits_there processor old server was at_processor) (ap (slice_set server.ready n) due),
              ))
          | inr differs ↦
              (let made = deadline_on date agents seats processor in
              let next : Server = record server { ready = slice_set server.ready n (Some (seat_at seats n).deadline) } in
              let there_before : slice_get after processor ≡ Some new = sym (get_set_other after home processor next differs) ∙ there in
              let h = w processor old new was there_before in
              let x : Option ℕ = get_or new.ready n None in
              let has : slice_get new.ready n ≡ Some x = waits_there processor old new was there_before in
              let kept : made n x ≡ x = cond-false (home_at agents n == processor) (deadline_at date seats n x) x (ne_eqb (home_at agents n) processor (λ e. differs (sym e ∙ sym home_is))) in
              (h.0, walk_on test made (length seats) names old.ready (λ k y at e. unmade processor k y e) place new.ready new.ready x l h.1 has (sym (ap (slice_set new.ready n) kept ∙ set_itself new.ready n x has))))
        ]
