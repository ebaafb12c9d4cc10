-- What notes that come one by one tell of the owners of variables.
use Rattle.std.proofs.Common.{◌≡◌, ◌≢◌, ◌∙◌, ℕ, ◌+◌, ◌<◌, Bool, true, false, Bor, List, [], ◌∷◌, ◌++◌, Option, None, Some, cond, drop, get_or, length, map, set, take, refl, sym, ap, arith}
use Rattle.std.specs.Prelude.{bytes_eq}
use Rattle.std.specs.List.{flat_map}
use Rattle.std.proofs.lemmas.List.{drop_more, drop-set-lt, map-append, take_more, take_more_set}
use Rattle.psy_arith.specs.declared.operators.Trap.{Trap}
use Rattle.psy_log.specs.declared.note.Note.{Note}
use Rattle.psy_log.specs.declared.note.Note.TheVariants as note
use Rattle.psy_match.specs.Silences.{Owning, date_or, first_stop, owning_by, owning_of, stop_or, stopped_at, stopped_in}
use Rattle.psy_tree.specs.declared.unit.Unit.{Unit as Whole}
use Rattle.psy_tree.specs.declared.unit.VarDecl.{VarDecl}

-- Of a list one more is changed, and those behind it are as they were.
pub changed_more : {X Y : Type 0} (k : X → Y) (s : Y → Y) (xs ys : List X) (i : ℕ) (x y : X) → i < length xs → i < length ys
    → k y ≡ s (k (get_or xs i x)) → map k (take i xs) ≡ map s (map k (take i ys)) → drop i xs ≡ drop i ys
    → (map k (take (i + 1) (set xs i y)) ≡ map s (map k (take (i + 1) ys))) × (drop (i + 1) (set xs i y) ≡ drop (i + 1) ys)
changed_more k s xs ys i x y within there is front same =
    let behind : get_or xs i x ∷ drop (i + 1) xs ≡ get_or ys i x ∷ drop (i + 1) ys = sym (drop_more xs i x within) ∙ same ∙ drop_more ys i x there in
    let first : get_or xs i x ≡ get_or ys i x = ap (λ zs. get_or zs 0 x) behind in
    let next : i < i + 1 = omega arith in
    let whole : map k (take (i + 1) ys) ≡ map k (take i ys) ++ k (get_or ys i x) ∷ [] =
    ap (map k) (take_more ys i x there) ∙ map-append k (take i ys) (get_or ys i x ∷ []) in (
      ap (map k) (take_more_set xs i y within) ∙ map-append k (take i xs) (y ∷ []) ∙ ap (λ zs. zs ++ k y ∷ []) front
          ∙ ap (λ z. map s (map k (take i ys)) ++ z ∷ []) (is ∙ ap (λ z. s (k z)) first)
          ∙ sym (map-append s (map k (take i ys)) (k (get_or ys i x) ∷ [])) ∙ sym (ap (map s) whole),
      drop-set-lt (i + 1) xs i y next ∙ ap (drop 1) behind,
    )

-- ---- the first stop

-- The date of one note, or of those behind it
stop_behind : (agent : List ℕ) (n : Note) (other : Option ℕ) → stop_or agent n other ≡ date_or (stop_or agent n None) other
stop_behind agent (note.StopOverrun date name) other = by (bytes_eq name.now agent)
  where
    by : (b : Bool) → cond b (Some date) other ≡ date_or (cond b (Some date) None) other
    by true = refl
    by false = refl
stop_behind agent (note.StopTrap date name kind) other = by (bytes_eq name.now agent)
  where
    by : (b : Bool) → cond b (Some date) other ≡ date_or (cond b (Some date) None) other
    by true = refl
    by false = refl
stop_behind agent _ other = refl

three_dates : (a b c : Option ℕ) → date_or a (date_or b c) ≡ date_or (date_or a b) c
three_dates None b c = refl
three_dates (Some date) b c = refl

-- One note more
stop_more : (agent : List ℕ) (notes : List Note) (n : Note) → first_stop agent (notes ++ n ∷ []) ≡ date_or (first_stop agent notes) (stop_or agent n None)
stop_more agent [] n = refl
stop_more agent (m ∷ notes) n =
    ap (stop_or agent m) (stop_more agent notes n) ∙ stop_behind agent m (date_or (first_stop agent notes) (stop_or agent n None))
    ∙ three_dates (stop_or agent m None) (first_stop agent notes) (stop_or agent n None)
    ∙ ap (λ d. date_or d (stop_or agent n None)) (sym (stop_behind agent m (first_stop agent notes)))

-- What it tells of a variable
one_more : (notes : List Note) (n : Note) (o : Owning)
    → stopped_in (notes ++ n ∷ []) o ≡ record { variable = o.variable; agent = o.agent; since = date_or (first_stop o.agent notes) (stop_or o.agent n None) }
one_more notes n o = ap (λ since. record { variable = o.variable; agent = o.agent; since = since }) (stop_more o.agent notes n)

-- A stop stops its agent.
abbrev IsStop : Note → List ℕ → ℕ → Type 0
IsStop n name date = (agent : List ℕ) → stop_or agent n None ≡ cond (bytes_eq name agent) (Some date) None

pub stopped_more : (owning : List Owning) (notes : List Note) (n : Note) (name : List ℕ) (date : ℕ) → IsStop n name date
    → map (stopped_at name date) (map (stopped_in notes) owning) ≡ map (stopped_in (notes ++ n ∷ [])) owning
stopped_more [] notes n name date is = refl
stopped_more (o ∷ owning) notes n name date is =
    let one : stopped_at name date (stopped_in notes o) ≡ stopped_in (notes ++ n ∷ []) o =
    ap (λ d. record { variable = o.variable; agent = o.agent; since = date_or (first_stop o.agent notes) d }) (sym (is o.agent)) ∙ sym (one_more notes n o) in
    ap (λ x. x ∷ map (stopped_at name date) (map (stopped_in notes) owning)) one
    ∙ ap (λ xs. stopped_in (notes ++ n ∷ []) o ∷ xs) (stopped_more owning notes n name date is)

-- Another note stops nobody.
pub no_stop : (n : Note) → ((date : ℕ) (agent : Bor (List ℕ)) → n ≢ note.StopOverrun date agent)
    → ((date : ℕ) (agent : Bor (List ℕ)) (kind : Trap) → n ≢ note.StopTrap date agent kind) → (agent : List ℕ) → stop_or agent n None ≡ None
no_stop (note.StopOverrun date name) no_overrun no_trap agent = absurd (no_overrun date name refl)
no_stop (note.StopTrap date name kind) no_overrun no_trap agent = absurd (no_trap date name kind refl)
no_stop _ no_overrun no_trap agent = refl

or_none : (a : Option ℕ) → date_or a None ≡ a
or_none None = refl
or_none (Some date) = refl

pub as_before : (owning : List Owning) (notes : List Note) (n : Note) → ((agent : List ℕ) → stop_or agent n None ≡ None)
    → map (stopped_in notes) owning ≡ map (stopped_in (notes ++ n ∷ [])) owning
as_before [] notes n none = refl
as_before (o ∷ owning) notes n none =
    let since : first_stop o.agent notes ≡ date_or (first_stop o.agent notes) (stop_or o.agent n None) =
    sym (or_none (first_stop o.agent notes)) ∙ ap (date_or (first_stop o.agent notes)) (sym (none o.agent)) in
    let one : stopped_in notes o ≡ stopped_in (notes ++ n ∷ []) o =
    ap (λ d. record { variable = o.variable; agent = o.agent; since = d }) since ∙ sym (one_more notes n o) in
    ap (λ x. x ∷ map (stopped_in notes) owning) one ∙ ap (λ xs. stopped_in (notes ++ n ∷ []) o ∷ xs) (as_before owning notes n none)

-- Before any note nobody was stopped.
pub none_stopped : (unit : Whole) (variables : List VarDecl) → map (stopped_in []) (flat_map (owning_of unit) variables) ≡ flat_map (owning_of unit) variables
none_stopped unit [] = refl
none_stopped unit (v ∷ variables) =
    map-append (stopped_in []) (owning_of unit v) (flat_map (owning_of unit) variables)
    ∙ ap (λ os. os ++ map (stopped_in []) (flat_map (owning_of unit) variables)) (by v.owner)
    ∙ ap (λ os. owning_of unit v ++ os) (none_stopped unit variables)
  where
    by : (owner : Option ℕ) → map (stopped_in []) (owning_by unit v.name owner) ≡ owning_by unit v.name owner
    by None = refl
    by (Some owner) = refl
