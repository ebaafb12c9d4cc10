-- Values that are committed, agent by agent of those that a list names.
use Rattle.std.proofs.Common.{◌≡◌, ℕ, ◌+◌, ◌<◌, ◌≤◌, Bool, List, drop, length, get_or, Option, Some, None, refl, sym, ap, ◌∙◌, inl, inr, arith}
use Rattle.std.specs.Prelude.{if◌then◌else◌, ◌≢◌, ℤ, pos, slice_get, slice_set}
use Rattle.std.proofs.lemmas.Bool.{cases_eq, cases_lt, cond-false}
use Rattle.std.proofs.lemmas.List.{get_or-set_other, get_or-set_same, get_or_past, length-set}
use Rattle.std.proofs.lemmas.Option.{slice_get-get_or}
use Rattle.psy_tree.specs.Parts.{no_variable}
use Rattle.psy_tree.specs.declared.unit.VarDecl.{VarDecl}
use Rattle.psy_code.specs.declared.code.CopyInit.{CopyInit}
use Rattle.psy_dates.specs.declared.seat.Seat.{Seat}
use Rattle.psy_dates.specs.Movers.{NamesAll, ends_in}
use Rattle.psy_dates.specs.Moves.{commits_at, owner_of}
use Rattle.psy_dates.proofs.lemmas.Names.{named_last, named_next}

-- ---- the variables of one agent

-- Of the first so many of these variables the copies are committed, and those that aren't listed are as they were.
pub record CopiedTo (own : List CopyInit) (ended old now : List ℤ) (n : ℕ) : Type 0 where
  pub all : length now ≡ length old
  pub listed : (place : ℕ) (copy : CopyInit) → place < n → slice_get own place ≡ Some copy → get_or now copy.variable (pos 0) ≡ get_or ended copy.variable (pos 0)
  pub others : (variable : ℕ) → ((place : ℕ) (copy : CopyInit) → slice_get own place ≡ Some copy → copy.variable ≢ variable) → get_or now variable (pos 0) ≡ get_or old variable (pos 0)

module _ (own : List CopyInit) (ended old : List ℤ) where
  pub none_copied : CopiedTo own ended old old 0
  none_copied = record { all = refl; listed = λ place copy l at. absurd (omega (arith, l)); others = λ variable unlisted. refl }

  pub one_copied : (now : List ℤ) (n : ℕ) (copy : CopyInit) → slice_get own n ≡ Some copy → copy.variable < length now → CopiedTo own ended old now n → CopiedTo own ended old (slice_set now copy.variable (get_or ended copy.variable (pos 0))) (n + 1)
  one_copied now n copy at within h =
      let z = get_or ended copy.variable (pos 0) in
      record {
        all = length-set now copy.variable z ∙ h.all;
        listed = λ place d less is. elim (cases_eq d.variable copy.variable) [
          | inl e ↦ ap (λ k. get_or (slice_set now copy.variable z) k (pos 0)) e ∙ get_or-set_same now copy.variable z (pos 0) within ∙ ap (λ k. get_or ended k (pos 0)) (sym e)
          | inr differs ↦ elim (cases_eq place n) [
            | inl last ↦ absurd (differs (let both : Some d ≡ Some copy = sym is ∙ ap (slice_get own) last ∙ at in let same : d ≡ copy = cc in ap (λ (c : CopyInit). c.variable) same))
            | inr earlier ↦ get_or-set_other now copy.variable d.variable z (pos 0) differs ∙ h.listed place d (omega (arith, less, earlier)) is
          ]
        ];
        others = λ variable unlisted. get_or-set_other now copy.variable variable z (pos 0) (λ e. unlisted n copy at (sym e)) ∙ h.others variable unlisted;
      }

-- ---- agent by agent

module _ (variables : List VarDecl) (date : ℕ) (seats : List Seat) (ended old : List ℤ) (end : ℕ) (names : List ℕ) where
  -- What is committed of a variable, by its owner
  abbrev value : ℕ → ℕ → ℤ
  value owner variable = if ends_in date seats owner then get_or ended variable (pos 0) else get_or old variable (pos 0)

  -- Up to the agent that is named next all is committed, and the rest of the list names the others.
  pub record CommittedTo (place : ℕ) (now : List ℤ) : Type 0 where
    pub next : ℕ
    pub within : next ≤ end
    pub below : (variable owner : ℕ) → owner_of variables variable ≡ Some owner → owner < next → get_or now variable (pos 0) ≡ value owner variable
    pub above : (variable owner : ℕ) → owner_of variables variable ≡ Some owner → next ≤ owner → get_or now variable (pos 0) ≡ get_or old variable (pos 0)
    pub unowned : (variable : ℕ) → owner_of variables variable ≡ None → get_or now variable (pos 0) ≡ get_or old variable (pos 0)
    pub left : NamesAll (ends_in date seats) end next (drop place names)

  pub none_committed : NamesAll (ends_in date seats) end 0 names → CommittedTo 0 old
  none_committed all = record {
    next = 0;
    within = omega arith;
    below = λ variable owner of l. absurd (omega (arith, l));
    above = λ variable owner of l. refl;
    unowned = λ variable none. refl;
    left = all;
  }

  not_of : (variable owner agent : ℕ) → owner_of variables variable ≡ Some owner → (owner ≡ agent → ⊥) → owner_of variables variable ≢ Some agent
  not_of variable owner agent of differs e = (let both : Some owner ≡ Some agent = sym of ∙ e in let same : owner ≡ agent = cc in differs same)

  -- The agent that is named next commits what it owns, where it ends its action.
  module _ (place : ℕ) (now new : List ℤ) (h : CommittedTo place now) (l : place < length names) (ends : Bool) (ends_is : ends ≡ ends_in date seats (get_or names place 0))
      (own : (variable : ℕ) → owner_of variables variable ≡ Some (get_or names place 0) → get_or new variable (pos 0) ≡ (if ends then get_or ended variable (pos 0) else get_or now variable (pos 0)))
      (others : (variable : ℕ) → owner_of variables variable ≢ Some (get_or names place 0) → get_or new variable (pos 0) ≡ get_or now variable (pos 0)) where
    abbrev agent : ℕ
    agent = get_or names place 0

    one_below : (variable owner : ℕ) → owner_of variables variable ≡ Some owner → owner < agent + 1 → get_or new variable (pos 0) ≡ value owner variable
    one_below variable owner of low = elim (cases_eq owner agent) [
      | inl same ↦ (
          let mine : owner_of variables variable ≡ Some agent = of ∙ ap Some same in
          let was : get_or now variable (pos 0) ≡ get_or old variable (pos 0) = h.above variable agent mine (named_next (ends_in date seats) end h.next names place l h.left).0 in
          own variable mine
          ∙ ap (λ b. if b then get_or ended variable (pos 0) else get_or now variable (pos 0)) (ends_is ∙ ap (ends_in date seats) (sym same))
          ∙ ap (λ z. if ends_in date seats owner then get_or ended variable (pos 0) else z) was)
      | inr differs ↦ others variable (not_of variable owner agent of differs) ∙ elim (cases_lt owner h.next) [
        | inl done ↦ h.below variable owner of done
        | inr later ↦ h.above variable owner of later ∙ sym (cond-false (ends_in date seats owner) _ _ ((named_next (ends_in date seats) end h.next names place l h.left).2 owner later (omega (arith, low, differs))))
      ]
    ]

    pub one_committed : CommittedTo (place + 1) new
    one_committed =
        let (up, inside, gap, rest) = named_next (ends_in date seats) end h.next names place l h.left in
        record {
          next = agent + 1;
          within = omega (arith, inside);
          below = one_below;
          above = λ variable owner of high. others variable (not_of variable owner agent of (λ e. omega (arith, e, high))) ∙ h.above variable owner of (omega (arith, high, up));
          unowned = λ variable none. others variable (λ e. (let no : None ≡ Some agent = sym none ∙ e in absurd cc)) ∙ h.unowned variable none;
          left = rest;
        }

  -- Once all were gone through all is committed.
  pub all_committed : (place : ℕ) (now : List ℤ) → length names ≤ place → CommittedTo place now → (variable : ℕ) → ((owner : ℕ) → owner_of variables variable ≡ Some owner → owner < end)
      → get_or now variable (pos 0) ≡ (if commits_at date seats (owner_of variables variable) then get_or ended variable (pos 0) else get_or old variable (pos 0))
  all_committed place now l h variable known = from (owner_of variables variable) refl
    where
      from : (owner : Option ℕ) → owner_of variables variable ≡ owner → get_or now variable (pos 0) ≡ (if commits_at date seats (owner_of variables variable) then get_or ended variable (pos 0) else get_or old variable (pos 0))
      from None none = h.unowned variable none ∙ sym (ap (λ o. if commits_at date seats o then get_or ended variable (pos 0) else get_or old variable (pos 0)) none)
      from (Some owner) of =
          elim (cases_lt owner h.next) [
            | inl done ↦ h.below variable owner of done
            | inr later ↦ h.above variable owner of later ∙ sym (cond-false (ends_in date seats owner) _ _ (named_last (ends_in date seats) end h.next names place l h.left owner later (known owner of)))
          ]
          ∙ sym (ap (λ o. if commits_at date seats o then get_or ended variable (pos 0) else get_or old variable (pos 0)) of)

-- A variable that has an owner is one of the program.
pub owned_there : (variables : List VarDecl) (variable agent : ℕ) → owner_of variables variable ≡ Some agent → (v : VarDecl) × (slice_get variables variable ≡ Some v) × (v.owner ≡ Some agent)
owned_there variables variable agent owned = elim (cases_lt variable (length variables)) [
  | inl within ↦ (get_or variables variable no_variable, slice_get-get_or variables variable no_variable within, owned)
  | inr past ↦ (let none : None ≡ Some agent = ap (λ (v : VarDecl). v.owner) (sym (get_or_past variables variable no_variable past)) ∙ owned in absurd cc)
]
