-- What the inputs of a program publish, behind the notes of its run.
use Rattle.std.proofs.Common.{◌≡◌, ◌∙◌, ℕ, ℤ, zero, suc, ◌+◌, ◌≤◌, ◌==◌, ◌||◌, Bool, true, false, List, [], ◌∷◌, ◌++◌, Option, None, Some, append-nil, cond, drop, length, map, max, nat_le, not, option_map, pos, refl, sym, ap, subst, arith}
use Rattle.std.specs.Prelude.{bytes_eq, get_or, slice_get}
use Rattle.std.specs.List.{flat_map, fold, list_all, list_any, position, position_from}
use Rattle.std.proofs.lemmas.Bool.{and_parts, false≢true}
use Rattle.std.proofs.lemmas.Bool.Decides.{nat_tests}
use Rattle.std.proofs.lemmas.Iterator.Adapters.{position_from-zero}
use Rattle.std.proofs.lemmas.List.Elements.{filter-append}
use Rattle.std.proofs.lemmas.List.Folds.{list_all-append, list_any-append}
use Rattle.std.proofs.lemmas.List.Sums.{fold-append}
use Rattle.std.proofs.lemmas.Slice.Eq.{bytes_eq-Decides}
use Rattle.psy_lists.proofs.lemmas.Tests.{both, or_false, or_true}
use Rattle.psy_clock.specs.Dates.{date}
use Rattle.psy_clock.specs.declared.clock.Clock.{Clock}
use Rattle.psy_draw.specs.Dates.{date_of, last_date}
use Rattle.psy_draw.specs.Gathering.{is_dated, is_known, undated}
use Rattle.psy_draw.specs.Listing.{ends_agent, ends_stream, ends_variable, first_unasked, first_unlisted, is_listed, is_named}
use Rattle.psy_log.specs.declared.note.Note.{Note}
use Rattle.psy_log.specs.declared.note.Note.TheVariants as note
use Rattle.psy_match.specs.Belonging.{behind, first_in_run, foreign_in_run, is_next_agent, is_next_stream, is_next_variable, left_over}
use Rattle.psy_match.specs.Feeding.{AreFed, Published, all_input_values, input_values, is_value_of, published_at, published_by, published_by_input, variable_names}
use Rattle.psy_tree.specs.declared.unit.AgentDecl.{AgentDecl}
use Rattle.psy_tree.specs.declared.unit.StreamDecl.{StreamDecl}
use Rattle.psy_tree.specs.declared.unit.VarDecl.{VarDecl}
use Rattle.psy_tree.specs.declared.unit.Unit.{Unit as Whole}
use Rattle.psy_tree.specs.Parts.{clock_in, variable_at}

-- ---- values alone

-- All notes are values of variables of these names.
abbrev AreValues : List (List ℕ) → List Note → Type 0
AreValues names more = list_all (is_value_of names) more ≡ true

no_undated : (names : List (List ℕ)) (more : List Note) → AreValues names more → undated more ≡ []
no_undated names [] all = refl
no_undated names (note.Value date variable value ∷ more) all = no_undated names more (and_parts _ _ all).1
no_undated names (_ ∷ more) all = absurd (false≢true all)

no_agents : (names : List (List ℕ)) (called : List ℕ) (more : List Note) → AreValues names more → list_any (ends_agent called) more ≡ false
no_agents names called [] all = refl
no_agents names called (note.Value date variable value ∷ more) all = no_agents names called more (and_parts _ _ all).1
no_agents names called (_ ∷ more) all = absurd (false≢true all)

no_variables : (names : List (List ℕ)) (called : List ℕ) (more : List Note) → AreValues names more → list_any (ends_variable called) more ≡ false
no_variables names called [] all = refl
no_variables names called (note.Value date variable value ∷ more) all = no_variables names called more (and_parts _ _ all).1
no_variables names called (_ ∷ more) all = absurd (false≢true all)

no_streams : (names : List (List ℕ)) (called : List ℕ) (more : List Note) → AreValues names more → list_any (ends_stream called) more ≡ false
no_streams names called [] all = refl
no_streams names called (note.Value date variable value ∷ more) all = no_streams names called more (and_parts _ _ all).1
no_streams names called (_ ∷ more) all = absurd (false≢true all)

pub all_known : (names agents : List (List ℕ)) (more : List Note) → AreValues names more → list_all (is_known agents) more ≡ true
all_known names agents [] all = refl
all_known names agents (note.Value date variable value ∷ more) all = all_known names agents more (and_parts _ _ all).1
all_known names agents (_ ∷ more) all = absurd (false≢true all)

-- So the summary stays, and what it lists.
module _ (names : List (List ℕ)) (notes more : List Note) (all : AreValues names more) where
  pub same_undated : undated (notes ++ more) ≡ undated notes
  same_undated = filter-append (λ n. not (is_dated n)) notes more ∙ ap (λ rest. undated notes ++ rest) (no_undated names more all) ∙ append-nil (undated notes)

  same_any : (ends : Note → Bool) → list_any ends more ≡ false → list_any ends (notes ++ more) ≡ list_any ends notes
  same_any ends none = list_any-append ends notes more ∙ ap (λ b. list_any ends notes || b) none ∙ or_false (list_any ends notes)

  same_agent : (called : List ℕ) → list_any (ends_agent called) (notes ++ more) ≡ list_any (ends_agent called) notes
  same_agent called = same_any (ends_agent called) (no_agents names called more all)

  same_variable : (called : List ℕ) → list_any (ends_variable called) (notes ++ more) ≡ list_any (ends_variable called) notes
  same_variable called = same_any (ends_variable called) (no_variables names called more all)

  same_stream : (called : List ℕ) → list_any (ends_stream called) (notes ++ more) ≡ list_any (ends_stream called) notes
  same_stream called = same_any (ends_stream called) (no_streams names called more all)

  same_named : (called : List ℕ) → is_named (notes ++ more) called ≡ is_named notes called
  same_named called =
      ap (λ b. b || list_any (ends_variable called) (notes ++ more) || list_any (ends_stream called) (notes ++ more)) (same_agent called)
      ∙ ap (λ b. list_any (ends_agent called) notes || b || list_any (ends_stream called) (notes ++ more)) (same_variable called)
      ∙ ap (λ b. list_any (ends_agent called) notes || list_any (ends_variable called) notes || b) (same_stream called)

  pub same_unasked : (asked : List (List ℕ)) → first_unasked (notes ++ more) asked ≡ first_unasked notes asked
  same_unasked asked = ap (λ (named : List ℕ → Bool). position (λ called. not (named called)) asked) (λ i called. same_named called i)

  same_listed : (n : Note) → is_listed (notes ++ more) n ≡ is_listed notes n
  same_listed (note.StopOverrun date agent) = same_agent agent.now
  same_listed (note.StopTrap date agent kind) = same_agent agent.now
  same_listed (note.Value date variable value) = same_variable variable.now
  same_listed (note.Message date stream value) = same_stream stream.now
  same_listed _ = refl

-- ---- the name of a variable

-- It is among those of all.
pub name_among : (variables : List VarDecl) (n : ℕ) (v : VarDecl) → slice_get variables n ≡ Some v
    → list_any (bytes_eq v.name) (map (λ other. other.name) variables) ≡ true
name_among [] n v at = cc
name_among (first ∷ variables) zero v at =
    let is : first ≡ v = cc in
    subst (λ (w : VarDecl). list_any (bytes_eq w.name) (map (λ other. other.name) (first ∷ variables)) ≡ true) is
    (ap (λ b. b || list_any (bytes_eq first.name) (map (λ other. other.name) variables)) ((bytes_eq-Decides first.name first.name).1 refl))
name_among (first ∷ variables) (suc n) v at =
    ap (λ b. bytes_eq v.name first.name || b) (name_among variables n v at) ∙ or_true (bytes_eq v.name first.name)

-- ---- no later date

-- It isn't past this date.
abbrev is_by : ℕ → Published → Bool
is_by last published = nat_le published.date last

all_of : (q : Published → Bool) (f : ℕ → List Published) → ((n : ℕ) → list_all q (f n) ≡ true) → (ns : List ℕ) → list_all q (flat_map f ns) ≡ true
all_of q f each [] = refl
all_of q f each (n ∷ ns) = list_all-append q (f n) (flat_map f ns) ∙ both _ _ (each n) (all_of q f each ns)

published_by_then : (called : List ℕ) (clock : Clock) (last : ℕ) (values : List ℤ) (number : ℕ)
    → list_all (is_by last) (published_at called clock last values number) ≡ true
published_by_then called clock last values number = by (nat_le (date clock number) last) refl
  where
    one : List Published
    one = record { name = called; date = date clock number; value = get_or values number (pos 0) } ∷ []

    by : (b : Bool) → nat_le (date clock number) last ≡ b → list_all (is_by last) (cond b one []) ≡ true
    by true e = both _ _ e refl
    by false e = refl

inputs_by_then : (unit : Whole) (lists : List (List ℤ)) (last number : ℕ) (owner : Option ℕ)
    → list_all (is_by last) (published_by_input unit lists last number owner) ≡ true
inputs_by_then unit lists last number (Some owner) = refl
inputs_by_then unit lists last number None =
    all_of (is_by last) _ (published_by_then (variable_at unit number).name (clock_in unit (variable_at unit number).clock) last _) _

all_by_then : (unit : Whole) (lists : List (List ℤ)) (last : ℕ) → list_all (is_by last) (all_input_values unit lists last) ≡ true
all_by_then unit lists last = all_of (is_by last) (input_values unit lists last) (λ number. inputs_by_then unit lists last number (variable_at unit number).owner) _

later : (d last : ℕ) → nat_le d last ≡ true → max d last ≡ last
later d last e = let most : d ≤ last = grind (arith, nat_tests, e) in omega (arith, most)

-- The last date stays.
last_stays : (names : List (List ℕ)) (last : ℕ) (more : List Note) → AreValues names more → list_all (is_by last) (flat_map published_by more) ≡ true
    → fold (λ latest n. max (date_of n) latest) last more ≡ last
last_stays names last [] all low = refl
last_stays names last (note.Value date variable value ∷ more) all low =
    let parts = and_parts (nat_le date last) _ low in
    ap (λ l. fold (λ latest n. max (date_of n) latest) l more) (later date last parts.0) ∙ last_stays names last more (and_parts _ _ all).1 parts.1
last_stays names last (_ ∷ more) all low = absurd (false≢true all)

pub same_last : (unit : Whole) (lists : List (List ℤ)) (notes more : List Note) → AreFed unit lists notes more → last_date (notes ++ more) ≡ last_date notes
same_last unit lists notes more fed =
    fold-append (λ latest n. max (date_of n) latest) 0 notes more
    ∙ last_stays (variable_names unit) (last_date notes) more fed.alone
    (ap (list_all (is_by (last_date notes))) fed.values ∙ all_by_then unit lists (last_date notes))

-- ---- names that the summary lists

-- The summary lists this variable.
abbrev lists_it : List Note → VarDecl → Bool
lists_it notes variable = list_any (ends_variable variable.name) notes

-- Where it lists variables, it does with one note more before it.
still : (n : Note) (notes : List Note) (variables : List VarDecl) → list_all (lists_it notes) variables ≡ true → list_all (lists_it (n ∷ notes)) variables ≡ true
still n notes [] all = refl
still n notes (v ∷ variables) all =
    let parts = and_parts (lists_it notes v) _ all in
    both _ _ (by (ends_variable v.name n) (lists_it notes v) parts.0) (still n notes variables parts.1)
  where
    by : (a b : Bool) → b ≡ true → (a || b) ≡ true
    by true b e = refl
    by false b e = e

nothing_behind : (found : Option ℕ) → behind found ≡ None → found ≡ None
nothing_behind None e = refl
nothing_behind (Some k) e = cc

one_is : (k : ℕ) → ◌≡◌ {A = Option ℕ} (Some k) None → ⊥
one_is k e = cc

-- The first is the next one, and nothing is found behind it.
next_is : (b : Bool) (found : Option ℕ) → cond b (behind found) (Some 1) ≡ None → (b ≡ true) × (found ≡ None)
next_is true found e = (refl, nothing_behind found e)
next_is false found e = absurd (one_is 1 e)

none_left : (n : ℕ) → left_over n ≡ None → n ≡ 0
none_left n e = by (n == 0) refl e
  where
    by : (b : Bool) → (n == 0) ≡ b → cond {A = Option ℕ} b None (Some 1) ≡ None → n ≡ 0
    by true is _ = grind (arith, nat_tests, is)
    by false is e = absurd (one_is 1 e)

no_variable : (agents streams : ℕ) (variables : List VarDecl) → agents + length variables + streams ≡ 0 → variables ≡ []
no_variable agents streams [] e = refl
no_variable agents streams (v ∷ variables) e = absurd (omega (arith, e))

-- The next variable is this one.
is_this : (variables : List VarDecl) (called : List ℕ) (notes : List Note) (n : Note)
    → ((other : List ℕ) → ends_variable other n ≡ bytes_eq other called) → is_next_variable variables called ≡ true
    → list_all (lists_it (n ∷ notes)) (drop 1 variables) ≡ true → list_all (lists_it (n ∷ notes)) variables ≡ true
is_this [] called notes n is next all = refl
is_this (v ∷ variables) called notes n is next all =
    let named : called ≡ v.name = (bytes_eq-Decides called v.name).0 next in
    let own : ends_variable v.name n ≡ true = is v.name ∙ (bytes_eq-Decides v.name called).1 (sym named) in
    both _ _ (ap (λ b. b || lists_it notes v) own) all

all_listed : (agents : List AgentDecl) (variables : List VarDecl) (streams : List StreamDecl) (notes : List Note)
    → first_in_run agents variables streams notes ≡ None → list_all (lists_it notes) variables ≡ true
all_listed agents variables streams [] none =
    let no = no_variable (length agents) (length streams) variables (none_left _ none) in ap (list_all (lists_it [])) no
all_listed agents variables streams (note.AgentEnd agent count slack ∷ notes) none =
    still (note.AgentEnd agent count slack) notes variables (all_listed (drop 1 agents) variables streams notes (next_is (is_next_agent agents agent.now) _ none).1)
all_listed agents variables streams (note.VariableEnd variable size reach ∷ notes) none =
    let next = next_is (is_next_variable variables variable.now) _ none in
    is_this variables variable.now notes (note.VariableEnd variable size reach) (λ other. refl) next.0
    (still (note.VariableEnd variable size reach) notes (drop 1 variables) (all_listed agents (drop 1 variables) streams notes next.1))
all_listed agents variables streams (note.StreamEnd stream size held ∷ notes) none =
    still (note.StreamEnd stream size held) notes variables (all_listed agents variables (drop 1 streams) notes (next_is (is_next_stream streams stream.now) _ none).1)
all_listed agents variables streams (n ∷ notes) none =
    still n notes variables (all_listed agents variables streams notes (nothing_behind (first_in_run agents variables streams notes) none))

-- So it lists each name of a variable.
name_listed : (notes : List Note) (variables : List VarDecl) (called : List ℕ) → list_all (lists_it notes) variables ≡ true
    → list_any (bytes_eq called) (map (λ v. v.name) variables) ≡ true → list_any (ends_variable called) notes ≡ true
name_listed notes [] called all among = absurd (false≢true among)
name_listed notes (v ∷ variables) called all among =
    let parts = and_parts (lists_it notes v) (list_all (lists_it notes) variables) all in
    by (bytes_eq called v.name) refl among parts.0 (name_listed notes variables called parts.1)
  where
    by : (b : Bool) → bytes_eq called v.name ≡ b → (b || list_any (bytes_eq called) (map (λ v. v.name) variables)) ≡ true → lists_it notes v ≡ true
        → (list_any (bytes_eq called) (map (λ v. v.name) variables) ≡ true → list_any (ends_variable called) notes ≡ true)
        → list_any (ends_variable called) notes ≡ true
    by true e among own others = ap (λ other. list_any (ends_variable other) notes) ((bytes_eq-Decides called v.name).0 e) ∙ own
    by false e among own others = others among

-- The first that passes isn't behind a front where none behind it does.
position_front : {X : Type 0} (t : X → Bool) (i : ℕ) (xs ys : List X) → ((j : ℕ) → position_from t j ys ≡ None) → position_from t i (xs ++ ys) ≡ position_from t i xs
position_front t i [] ys none = none i
position_front t i (x ∷ xs) ys none = ap (cond (t x) (Some i)) (position_front t (i + 1) xs ys none)

none_of_values : (notes more : List Note) (variables : List VarDecl) → list_all (lists_it notes) variables ≡ true → AreValues (map (λ v. v.name) variables) more
    → (j : ℕ) → position_from (λ n. not (is_listed notes n)) j more ≡ None
none_of_values notes [] variables listed all j = refl
none_of_values notes (note.Value date variable value ∷ more) variables listed all j =
    let parts = and_parts (list_any (bytes_eq variable.now) (map (λ v. v.name) variables)) _ all in
    ap (λ b. cond (not b) (Some j) (position_from (λ n. not (is_listed notes n)) (j + 1) more)) (name_listed notes variables variable.now listed parts.0)
    ∙ none_of_values notes more variables listed parts.1 (j + 1)
none_of_values notes (_ ∷ more) variables listed all j = absurd (false≢true all)

pub same_unlisted : (unit : Whole) (notes more : List Note) → foreign_in_run unit notes ≡ None → AreValues (variable_names unit) more
    → first_unlisted (notes ++ more) ≡ first_unlisted notes
same_unlisted unit notes more own all =
    let t : Note → Bool = λ n. not (is_listed notes n) in
    let listed = all_listed unit.agents unit.variables unit.streams notes own in
    ap (λ (is : Note → Bool). option_map (λ k. k + 1) (position (λ n. not (is n)) (notes ++ more))) (λ i n. same_listed (variable_names unit) notes more all n i)
    ∙ ap (option_map (λ k. k + 1)) (position_from-zero t (notes ++ more) ∙ position_front t 0 notes more (none_of_values notes more unit.variables listed all)
    ∙ sym (position_from-zero t notes))
