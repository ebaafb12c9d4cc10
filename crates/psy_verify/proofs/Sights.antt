-- What is there to see and to copy: by variable, by stream.
use Rattle.std.proofs.Common.{◌≡◌, ◌⊎◌, refl, sym, ap, subst, ◌∙◌, inl, inr, arith}
use Rattle.std.specs.Prelude.{ℕ, zero, suc, ◌+◌, ◌==◌, Bool, true, false, if◌then◌else◌, List, [], ◌∷◌, ◌++◌, length, map, Option, None, Some, slice_get, slice_set, ℤ}
use Rattle.std.proofs.lemmas.Bool.{false≢true}
use Rattle.std.proofs.lemmas.Option.{none-some, same_Some}
use Rattle.psy_lists.proofs.lemmas.Places.{mapped, mapped_from, there}
use Rattle.psy_code.specs.Execution.{Copy, copy_of, with_copy, view_then}
use Rattle.psy_code.specs.Views.{Call, Past, Ready, Send, Take, View, found_in, messages_of, past_of, without_first}
use Rattle.psy_tree.specs.declared.unit.StreamDecl.{StreamDecl}
use Rattle.psy_tree.specs.declared.unit.Unit.{Unit as Whole}
use Rattle.psy_tree.specs.declared.unit.VarDecl.{VarDecl}
use Rattle.psy_meaning.specs.Alike.{first_copies, is_there, owned_copy, owned_from}
use Rattle.psy_flow.specs.Owners.{Agent}
use Rattle.psy_flow.specs.Heights.{IsAmong}
use Rattle.psy_flow.specs.Verified.{Hears, Owns, Reaches}
use Rattle.psy_verify.specs.Standing.{Shows}

pub same_number : (n : ℕ) → (n == n) ≡ true
same_number n = grind arith

-- ---- copies

in_behind : {X : Type 0} (x : X) (xs ys : List X) → IsAmong x ys → IsAmong x (xs ++ ys)
in_behind x [] ys h = h
in_behind x (y ∷ xs) ys h = inr (in_behind x xs ys h)

abbrev variables_in : List Copy → List ℕ
variables_in copies = map (λ (c : Copy). c.variable) copies

owned_first : (agent number : ℕ) (w : VarDecl) (owner : Option ℕ) (rest : List Copy) → owner ≡ Some agent → IsAmong number (variables_in (owned_copy agent number w owner ++ rest))
owned_first agent number w None rest e = absurd (none-some agent e)
owned_first agent number w (Some owner) rest e =
    let same : owner ≡ agent = same_Some owner agent e in
    let on : (owner == agent) ≡ true = subst (λ n. (n == agent) ≡ true) (sym same) (same_number agent) in
    subst (λ (b : Bool). IsAmong number (variables_in ((if b then record { variable = number; value = w.init } ∷ [] else []) ++ rest))) (sym on) (inl refl)

owned_behind : (agent number k : ℕ) (w : VarDecl) (owner : Option ℕ) (rest : List Copy) → IsAmong k (variables_in rest) → IsAmong k (variables_in (owned_copy agent number w owner ++ rest))
owned_behind agent number k w None rest h = h
owned_behind agent number k w (Some owner) rest h = from (owner == agent)
  where
    from : (b : Bool) → IsAmong k (variables_in ((if b then record { variable = number; value = w.init } ∷ [] else []) ++ rest))
    from true = inr h
    from false = h

owned_among : (agent number n : ℕ) (vs : List VarDecl) (decl : VarDecl) → slice_get vs n ≡ Some decl → decl.owner ≡ Some agent → IsAmong (number + n) (variables_in (owned_from agent number vs))
owned_among agent number n [] decl at e = absurd (none-some decl at)
owned_among agent number zero (w ∷ rest) decl at e =
    let same : w ≡ decl = same_Some w decl at in
    subst (λ k. IsAmong k (variables_in (owned_copy agent number w w.owner ++ owned_from agent (number + 1) rest))) (omega arith)
    (owned_first agent number w w.owner (owned_from agent (number + 1) rest) (ap (λ (d : VarDecl). d.owner) same ∙ e))
owned_among agent number (suc n) (w ∷ rest) decl at e =
    subst (λ k. IsAmong k (variables_in (owned_copy agent number w w.owner ++ owned_from agent (number + 1) rest))) (omega arith)
    (owned_behind agent number (number + 1 + n) w w.owner (owned_from agent (number + 1) rest) (owned_among agent (number + 1) n rest decl at e))

copy_there : (variable : ℕ) (copies : List Copy) → IsAmong variable (variables_in copies) → (value : ℤ) × (copy_of variable copies ≡ Some value)
copy_there variable [] h = absurd h
copy_there variable (c ∷ rest) h = from (c.variable == variable) refl (copy_there variable rest) h
  where
    from : (b : Bool) → (c.variable == variable) ≡ b → (IsAmong variable (variables_in rest) → (value : ℤ) × (copy_of variable rest ≡ Some value))
        → (variable ≡ c.variable) ⊎ IsAmong variable (variables_in rest) → (value : ℤ) × ((if b then Some c.value else copy_of variable rest) ≡ Some value)
    from true e on h = (c.value, refl)
    from false e on (inl same) = absurd (false≢true (sym e ∙ subst (λ n. (n == variable) ≡ true) same (same_number variable)))
    from false e on (inr more) = on more

-- An agent has a copy of each variable that it owns.
pub own_copy : (unit : Whole) (agent variable : ℕ) (copies : List Copy) → variables_in copies ≡ variables_in (first_copies unit agent) → Owns unit (Agent agent) variable
    → (value : ℤ) × (copy_of variable copies ≡ Some value)
own_copy unit agent variable copies same (decl, at, owner) =
    copy_there variable copies (subst (IsAmong variable) (sym same) (subst (λ k. IsAmong k (variables_in (first_copies unit agent))) (omega arith) (owned_among agent 0 variable unit.variables decl at owner)))

-- Another value leaves copies of the same variables.
pub same_variables : (variable : ℕ) (v : ℤ) (copies : List Copy) → variables_in (with_copy variable v copies) ≡ variables_in copies
same_variables variable v [] = refl
same_variables variable v (c ∷ rest) = from (c.variable == variable) (same_variables variable v rest)
  where
    from : (b : Bool) → variables_in (with_copy variable v rest) ≡ variables_in rest → variables_in (if b then record c { value = v } ∷ rest else c ∷ with_copy variable v rest) ≡ c.variable ∷ variables_in rest
    from true e = refl
    from false e = ap (λ vs. c.variable ∷ vs) e

-- ---- looks

module _ (unit : Whole) (agent : ℕ) (view : View) (shows : Shows unit agent view) where
  pub past_there : (variable back : ℕ) → Reaches unit variable back → (value : ℤ) × (past_of view variable back ≡ Some value)
  past_there variable back (decl, at, deep) =
      let deeps = mapped (λ (d : VarDecl). d.depth) unit.variables variable decl at in
      let (values, here, many) = mapped_from length view.pasts variable decl.depth (ap (λ ds. slice_get ds variable) shows.depths ∙ deeps) in
      let (value, is) = there values back (omega (arith, deep, many)) in
      (value, subst (λ (found : Option (List ℤ)). found_in found (λ vs. slice_get vs back) ≡ Some value) (sym here) is)

  seen : (found : Option (List ℤ)) → is_there found ≡ true → (messages : List ℤ) × (found ≡ Some messages)
  seen None e = absurd (false≢true e)
  seen (Some messages) e = (messages, refl)

  pub messages_there : (stream : ℕ) → Hears unit (Agent agent) stream → (messages : List ℤ) × (messages_of view stream ≡ Some messages)
  messages_there stream (decl, at, receiver) =
      let mine = mapped (λ (d : StreamDecl). d.receiver == agent) unit.streams stream decl at in
      let (found, here, is) = mapped_from is_there view.messages stream (decl.receiver == agent) (ap (λ bs. slice_get bs stream) shows.streams ∙ mine) in
      let (messages, same) = seen found (is ∙ subst (λ n. (n == agent) ≡ true) (sym receiver) (same_number agent)) in
      (messages, subst (λ (f : Option (Option (List ℤ))). found_in f (λ m. m) ≡ Some messages) (sym here) same)

still_there : (found : Option (List ℤ)) → is_there (without_first found) ≡ is_there found
still_there None = refl
still_there (Some messages) = refl

taken_there : (messages : List (Option (List ℤ))) (stream : ℕ) → map is_there (slice_set messages stream (without_first (found_in (slice_get messages stream) (λ m. m)))) ≡ map is_there messages
taken_there [] stream = refl
taken_there (m ∷ rest) zero = ap (λ b. b ∷ map is_there rest) (still_there m)
taken_there (m ∷ rest) (suc stream) = ap (λ bs. is_there m ∷ bs) (taken_there rest stream)

-- What an instruction asks leaves a view that shows as much.
pub shows_then : (unit : Whole) (agent : ℕ) (view : View) (call : Option Call) → Shows unit agent view → Shows unit agent (view_then view call)
shows_then unit agent view None shows = shows
shows_then unit agent view (Some (Past variable back)) shows = shows
shows_then unit agent view (Some (Ready stream)) shows = shows
shows_then unit agent view (Some (Take stream)) shows = record { depths = shows.depths; streams = taken_there view.messages stream ∙ shows.streams }
shows_then unit agent view (Some (Send sent)) shows = shows
