-- A trace is legal where no line of it has a fault, wherever it is split; and what is found in the lines of one.
use Rattle.std.proofs.Common.{◌≡◌, ◌∙◌, refl, sym, ap, subst, suc, Bool, true, false, cond, not, List, [], ◌∷◌, ◌++◌, append_assoc, append-nil, map, length, Option, Some, None, inl, inr}
use Rattle.std.specs.Prelude.{◌⊎◌}
use Rattle.std.specs.List.{Contains, flat_map, list_any}
use Rattle.std.proofs.lemmas.List.Sums.{take_while-cons}
use Rattle.psy_lists.proofs.lemmas.Members.{contains_behind, contains_front}
use Rattle.psy_audit.specs.declared.said.Act.{Act}
use Rattle.psy_audit.specs.declared.said.Publication.{Publication}
use Rattle.psy_audit.specs.declared.said.Said.{Said}
use Rattle.psy_audit.specs.declared.said.Said.TheVariants.{Ended}
use Rattle.psy_audit.specs.declared.said.Segment.{Segment}
use Rattle.psy_audit.specs.Faults.{Fault, IsLegal, fault_of, fault_or, first_behind}
use Rattle.psy_audit.specs.Traces.{Judged, Lines, act_in, acts, body, is_end, last_of, publication_in, publications, segment_in, segments}
use Rattle.psy_legal.proofs.Lists.{flat_map_of_map}

-- ---- a trace without fault

module _ (j : Judged) (all : Lines) (each : (front : Lines) (line : Option Said) (back : Lines) → all ≡ front ++ line ∷ back → fault_of j all front line ≡ None) (ends : list_any is_end all ≡ true) where
  from_here : (before lines : Lines) → all ≡ before ++ lines → first_behind j all before lines ≡ None
  from_here before [] e =
      let ended : list_any is_end before ≡ true = subst (λ ls. list_any is_end ls ≡ true) (e ∙ append-nil before) ends in
      ap (λ t. cond {A = Option Fault} t None (Some (record { number = 1; line = suc (length before) }))) ended
  from_here before (line ∷ lines) e =
      let rest = first_behind j all (before ++ line ∷ []) lines in
      ap (λ f. fault_or f (suc (length before)) rest) (each before line lines e)
      ∙ from_here (before ++ line ∷ []) lines (e ∙ sym (append_assoc before (line ∷ []) lines))

  -- It is legal.
  pub legal_where : IsLegal j all
  legal_where = from_here [] all refl

-- ---- the lines before the end

-- None of these is the end.
abbrev pub NoEnd : List Said → Type 0
NoEnd xs = (x : Said) → Contains xs x → is_end (Some x) ≡ false

none_ends : (xs : List Said) → NoEnd xs → list_any is_end (map Some xs) ≡ false
none_ends [] none = refl
none_ends (x ∷ xs) none = rw (none x (contains_front x xs)) (none_ends xs (λ y c. none y (contains_behind x xs y c)))

pub ends_not : (xs : List Said) → NoEnd xs → list_any is_end (map Some xs) ≡ false
ends_not = none_ends

pub ends_last : (xs : List Said) → list_any is_end (map Some (xs ++ Ended ∷ [])) ≡ true
ends_last [] = refl
ends_last (x ∷ xs) = elim (true_or (is_end (Some x))) [
  | inl t ↦ rw t refl
  | inr f ↦ rw f (ends_last xs)
]
  where
    true_or : (b : Bool) → (b ≡ true) ⊎ (b ≡ false)
    true_or true = inl refl
    true_or false = inr refl

pub body_open : (xs : List Said) → NoEnd xs → body (map Some xs) ≡ map Some xs
body_open [] none = refl
body_open (x ∷ xs) none =
    take_while-cons (λ line. not (is_end line)) (Some x) (map Some xs)
    ∙ ap (λ t. cond (not t) (Some x ∷ body (map Some xs)) []) (none x (contains_front x xs))
    ∙ ap (λ ls. Some x ∷ ls) (body_open xs (λ y c. none y (contains_behind x xs y c)))

pub body_ended : (xs : List Said) → NoEnd xs → body (map Some (xs ++ Ended ∷ [])) ≡ map Some xs
body_ended [] none = refl
body_ended (x ∷ xs) none =
    take_while-cons (λ line. not (is_end line)) (Some x) (map Some (xs ++ Ended ∷ []))
    ∙ ap (λ t. cond (not t) (Some x ∷ body (map Some (xs ++ Ended ∷ []))) []) (none x (contains_front x xs))
    ∙ ap (λ ls. Some x ∷ ls) (body_ended xs (λ y c. none y (contains_behind x xs y c)))

-- ---- what is said of each kind

abbrev pub its_acts : List Said → List Act
its_acts xs = flat_map (λ x. act_in (Some x)) xs

abbrev pub its_publications : List Said → List Publication
its_publications xs = flat_map (λ x. publication_in (Some x)) xs

abbrev pub its_segments : List Said → List Segment
its_segments xs = flat_map (λ x. segment_in (Some x)) xs

module _ (xs : List Said) (none : NoEnd xs) where
  pub acts_open : acts (map Some xs) ≡ its_acts xs
  acts_open = ap (flat_map act_in) (body_open xs none) ∙ flat_map_of_map act_in Some xs

  pub acts_ended : acts (map Some (xs ++ Ended ∷ [])) ≡ its_acts xs
  acts_ended = ap (flat_map act_in) (body_ended xs none) ∙ flat_map_of_map act_in Some xs

  pub publications_open : publications (map Some xs) ≡ its_publications xs
  publications_open = ap (flat_map publication_in) (body_open xs none) ∙ flat_map_of_map publication_in Some xs

  pub publications_ended : publications (map Some (xs ++ Ended ∷ [])) ≡ its_publications xs
  publications_ended = ap (flat_map publication_in) (body_ended xs none) ∙ flat_map_of_map publication_in Some xs

  pub segments_open : segments (map Some xs) ≡ its_segments xs
  segments_open = ap (flat_map segment_in) (body_open xs none) ∙ flat_map_of_map segment_in Some xs

  pub segments_ended : segments (map Some (xs ++ Ended ∷ [])) ≡ its_segments xs
  segments_ended = ap (flat_map segment_in) (body_ended xs none) ∙ flat_map_of_map segment_in Some xs

-- ---- the last one

-- The last item of a list is none, or stands in it.
pub last_in : {X : Type 0} (xs : List X) (x : X) → last_of xs ≡ Some x → Contains xs x
last_in [] x e = absurd cc
last_in (y ∷ []) x e = (let same : y ≡ x = cc in subst (Contains (y ∷ [])) same (contains_front y []))
last_in (y ∷ z ∷ xs) x e = contains_behind y (z ∷ xs) x (last_in (z ∷ xs) x e)

pub last_pushed : {X : Type 0} (xs : List X) (x : X) → last_of (xs ++ x ∷ []) ≡ Some x
last_pushed [] x = refl
last_pushed (y ∷ []) x = refl
last_pushed (y ∷ z ∷ xs) x = last_pushed (z ∷ xs) x
