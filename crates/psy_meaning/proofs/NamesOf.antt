-- The names of a unit's declarations are those of the program's, each at one place.
use Rattle.std.proofs.Common.{◌≡◌, ℕ, ◌+◌, ◌<◌, Bool, true, false, cond, ◌||◌, List, [], ◌∷◌, ◌++◌, map, take, length, Option, Some, refl, sym, ap, ◌∙◌, subst, inl, inr, arith, map-id}
use Rattle.std.specs.Prelude.{slice_get}
use Rattle.std.specs.List.{list_any}
use Rattle.std.proofs.lemmas.Bool.{false≢true, or_left, or_right, cases_lt}
use Rattle.std.proofs.lemmas.Option.{none-some, same_Some, slice_get_within, get_or_from_slice_get}
use Rattle.std.proofs.lemmas.List.Folds.{list_any_at}
use Rattle.std.proofs.lemmas.Slice.Eq.{bytes_eq-Decides}
use Rattle.psy_tree.specs.declared.raw.Item.{Item}
use Rattle.psy_tree.specs.declared.raw.Item.TheVariants as item
use Rattle.psy_tree.specs.declared.raw.Raw.{Raw}
use Rattle.psy_tree.specs.declared.rules.RuleKind.TheVariants as kind
use Rattle.psy_tree.specs.declared.unit.VarDecl.{VarDecl}
use Rattle.psy_tree.specs.declared.unit.StreamDecl.{StreamDecl}
use Rattle.psy_tree.specs.declared.unit.FunctionDecl.{FunctionDecl}
use Rattle.psy_tree.specs.declared.unit.AgentDecl.{AgentDecl}
use Rattle.psy_tree.specs.Scope.{item_name, slots_of}
use Rattle.psy_tree.specs.Places.{NamesItem, head_places}
use Rattle.psy_tree.specs.Rules.{NoFault, declares, names_slot, is_clock, is_agent, is_function, is_stream}
use Rattle.psy_tree.specs.Stands.{unit_of, counting, is_variable, clock_names, variables, streams, functions, agents, each_from}
use Rattle.psy_meaning.specs.Units.{AllDiffer, global_names}
use Rattle.psy_tree.proofs.lemmas.Among.{Among}
use Rattle.psy_tree.proofs.lemmas.Numbers.{Gives, each_from_some, flat_map-each, gives_clock_names, gives_variables, gives_streams, gives_functions, gives_agents}
use Rattle.psy_tree.proofs.lemmas.Lists.{only, slice_get-take, slice_get-either, slice_get_mapped}
use Rattle.psy_tree.proofs.lemmas.Faultless.{fine_head}

-- ---- two declarations

names_itself : (i : Item) → Among (NamesItem (item_name i)) (head_places i)
names_itself (item.Clock name by parent shift) = inl refl
names_itself (item.Temporal name owner clock init depth) = inl refl
names_itself (item.Input name clock init depth) = inl refl
names_itself (item.Stream name receiver keep clock) = inl refl
names_itself (item.Function name params locals stmts) = inl refl
names_itself (item.Agent name clock processor budget locals body stmts) = inl refl

module _ (raw : Raw) (none : NoFault raw) where
  -- The later of two declarations has another name.
  above : (j k : ℕ) (a b : Item) → j < k → slice_get raw.items j ≡ Some a → slice_get raw.items k ≡ Some b → (item_name a).text ≡ (item_name b).text → ⊥
  above j k a b h own_a own_b same =
      let text : List ℕ = (item_name b).text in
      let p : Item → Bool = λ i. declares (item_name b).text i || list_any (names_slot (item_name b).text) (slots_of i) in
      let there : slice_get (take k raw.items) j ≡ Some a = slice_get-take k raw.items j h ∙ own_a in
      let is : p a ≡ true = or_left (declares text a) (list_any (names_slot text) (slots_of a)) ((bytes_eq-Decides text (item_name a).text).1 (sym same)) in
      let any : list_any p (take k raw.items) ≡ true = list_any_at p (take k raw.items) j a (slice_get_within (take k raw.items) j a there) (ap p (get_or_from_slice_get (take k raw.items) j a a there) ∙ is) in
      absurd (false≢true (sym (fine_head raw none k b (NamesItem (item_name b)) own_b (names_itself b) kind.Twice) ∙ any))

  pub items_differ : (j k : ℕ) (a b : Item) → slice_get raw.items j ≡ Some a → slice_get raw.items k ≡ Some b → (item_name a).text ≡ (item_name b).text → j ≡ k
  items_differ j k a b own_a own_b same = elim (cases_lt j k) [
    | inl less ↦ absurd (above j k a b less own_a own_b same)
    | inr more ↦ elim (cases_lt k j) [
      | inl less ↦ absurd (above k j b a less own_b own_a (sym same))
      | inr even ↦ omega (arith, more, even)
    ]
  ]

-- A name of a declaration that passes the test
abbrev Source : List Item → (Option Item → Bool) → List ℕ → Type 0
Source items p name = (k : ℕ) × (i : Item) × (slice_get items k ≡ Some i) × (p (Some i) ≡ true) × (name ≡ (item_name i).text)

-- The names are some of such declarations, and differ.
pub record Named (items : List Item) (p : Option Item → Bool) (names : List (List ℕ)) : Type 0 where
  pub each : (n : ℕ) (name : List ℕ) → slice_get names n ≡ Some name → Source items p name
  pub differ : AllDiffer names

one_given : {A : Type 0} (l : List A) (a : A) (b : Bool) → l ≡ a ∷ [] → length l ≡ cond b 1 0 → b ≡ true
one_given l a true e n = refl
one_given l a false e n = absurd (omega (arith, n, ap length e))

module _ (raw : Raw) (none : NoFault raw) where
  -- The names of what the declarations that pass a test give
  pub named : {A : Type 0} (p : Option Item → Bool) (f : ℕ → Item → List A) (text : A → List ℕ) → Gives p f → ((k : ℕ) (i : Item) (a : A) → f k i ≡ a ∷ [] → text a ≡ (item_name i).text) → Named raw.items p (map text (each_from f 0 raw.items))
  named {A} p f text gives same = record {
    each = λ n name own. (let t = from n name own in (t.0, t.1, t.2, t.3, t.4));
    differ = λ m n name own_m own_n. (
        let s = from m name own_m in
        let t = from n name own_n in
        s.5 ∙ ap (λ k. counting p (take k raw.items)) (items_differ raw none s.0 t.0 s.1 t.1 s.2 t.2 (sym s.4 ∙ t.4)) ∙ sym t.5
        );
  }
    where
      from : (n : ℕ) (name : List ℕ) → slice_get (map text (each_from f 0 raw.items)) n ≡ Some name → (k : ℕ) × (i : Item) × (slice_get raw.items k ≡ Some i) × (p (Some i) ≡ true) × (name ≡ (item_name i).text) × (n ≡ counting p (take k raw.items))
      from n name own =
          let there = slice_get_mapped text (each_from f 0 raw.items) n name own in
          let it = each_from_some p f gives 0 raw.items n there.0 there.1 in
          (it.0, it.1, it.2, one_given (f (0 + it.0) it.1) there.0 (p (Some it.1)) it.3 (gives (0 + it.0) it.1), sym (same_Some _ _ there.2) ∙ same (0 + it.0) it.1 there.0 it.3, it.4)

  -- The names of two kinds of declarations, one behind the other
  pub both : (p q : Option Item → Bool) (xs ys : List (List ℕ)) → Named raw.items p xs → Named raw.items q ys → ((i : Item) → p (Some i) ≡ true → q (Some i) ≡ true → ⊥) → Named raw.items (λ o. p o || q o) (xs ++ ys)
  both p q xs ys a b apart = record {
    each = λ n name own. elim (slice_get-either xs ys n name own) [
      | inl there ↦ (let s = a.each n name there in (s.0, s.1, s.2, or_left (p (Some s.1)) (q (Some s.1)) s.3, s.4))
      | inr behind ↦ (let s = b.each behind.0 name behind.2 in (s.0, s.1, s.2, or_right (p (Some s.1)) (q (Some s.1)) s.3, s.4))
    ];
    differ = λ m n name own_m own_n. elim (slice_get-either xs ys m name own_m) [
      | inl s ↦ elim (slice_get-either xs ys n name own_n) [
        | inl t ↦ a.differ m n name s t
        | inr t ↦ absurd (never name (a.each m name s) (b.each t.0 name t.2))
      ]
      | inr s ↦ elim (slice_get-either xs ys n name own_n) [
        | inl t ↦ absurd (never name (a.each n name t) (b.each s.0 name s.2))
        | inr t ↦ s.1 ∙ ap (λ k. length xs + k) (b.differ s.0 t.0 name s.2 t.2) ∙ sym t.1
      ]
    ];
  }
    where
      never : (name : List ℕ) → Source raw.items p name → Source raw.items q name → ⊥
      never name s t =
          let k : s.0 ≡ t.0 = items_differ raw none s.0 t.0 s.1 t.1 s.2 t.2 (sym s.4 ∙ t.4) in
          let i : s.1 ≡ t.1 = same_Some s.1 t.1 (sym s.2 ∙ ap (slice_get raw.items) k ∙ t.2) in
          apart t.1 (ap (λ j. p (Some j)) (sym i) ∙ s.3) t.3

-- ---- all names

nothing : {A B : Type 0} (a : A) → [] ≡ a ∷ [] → B
nothing a e = absurd (none-some a (ap (λ l. slice_get l 0) e))

clock_named : (k : ℕ) (i : Item) (name : List ℕ) → clock_names i ≡ name ∷ [] → name ≡ (item_name i).text
clock_named k (item.Clock name by parent shift) a e = sym (only name.text a e)
clock_named k _ a e = nothing a e

variable_named : (items : List Item) (k : ℕ) (i : Item) (v : VarDecl) → variables items i ≡ v ∷ [] → v.name ≡ (item_name i).text
variable_named items k (item.Temporal name owner clock init depth) v e = sym (ap (λ (w : VarDecl). w.name) (only _ v e))
variable_named items k (item.Input name clock init depth) v e = sym (ap (λ (w : VarDecl). w.name) (only _ v e))
variable_named items k _ v e = nothing v e

stream_named : (items : List Item) (k : ℕ) (i : Item) (s : StreamDecl) → streams items i ≡ s ∷ [] → s.name ≡ (item_name i).text
stream_named items k (item.Stream name receiver keep clock) s e = sym (ap (λ (t : StreamDecl). t.name) (only _ s e))
stream_named items k _ s e = nothing s e

function_named : (items : List Item) (k : ℕ) (i : Item) (f : FunctionDecl) → functions items k i ≡ f ∷ [] → f.name ≡ (item_name i).text
function_named items k (item.Function name params locals stmts) f e = sym (ap (λ (g : FunctionDecl). g.name) (only _ f e))
function_named items k _ f e = nothing f e

agent_named : (items : List Item) (k : ℕ) (i : Item) (a : AgentDecl) → agents items k i ≡ a ∷ [] → a.name ≡ (item_name i).text
agent_named items k (item.Agent name clock processor budget locals body stmts) a e = sym (ap (λ (b : AgentDecl). b.name) (only _ a e))
agent_named items k _ a e = nothing a e

abbrev from_functions : Option Item → Bool
from_functions o = is_function o || is_agent o

abbrev from_streams : Option Item → Bool
from_streams o = is_stream o || from_functions o

abbrev from_variables : Option Item → Bool
from_variables o = is_variable o || from_streams o

clock_apart : (i : Item) → is_clock (Some i) ≡ true → from_variables (Some i) ≡ true → ⊥
clock_apart (item.Clock name by parent shift) e f = absurd (false≢true f)
clock_apart _ e f = absurd (false≢true e)

variable_apart : (i : Item) → is_variable (Some i) ≡ true → from_streams (Some i) ≡ true → ⊥
variable_apart (item.Temporal name owner clock init depth) e f = absurd (false≢true f)
variable_apart (item.Input name clock init depth) e f = absurd (false≢true f)
variable_apart _ e f = absurd (false≢true e)

stream_apart : (i : Item) → is_stream (Some i) ≡ true → from_functions (Some i) ≡ true → ⊥
stream_apart (item.Stream name receiver keep clock) e f = absurd (false≢true f)
stream_apart _ e f = absurd (false≢true e)

function_apart : (i : Item) → is_function (Some i) ≡ true → is_agent (Some i) ≡ true → ⊥
function_apart (item.Function name params locals stmts) e f = absurd (false≢true f)
function_apart _ e f = absurd (false≢true e)

module _ (raw : Raw) (none : NoFault raw) where
  clocks_named : Named raw.items is_clock (unit_of raw).clock_names
  clocks_named = subst (Named raw.items is_clock) (map-id (each_from (λ k. clock_names) 0 raw.items) ∙ sym (flat_map-each clock_names 0 raw.items)) (named raw none is_clock (λ k. clock_names) (λ name. name) gives_clock_names clock_named)

  variables_named : Named raw.items is_variable (map (λ (v : VarDecl). v.name) (unit_of raw).variables)
  variables_named =
      subst (λ vs. Named raw.items is_variable (map (λ (v : VarDecl). v.name) vs)) (sym (flat_map-each (variables raw.items) 0 raw.items))
      (named raw none is_variable (λ k. variables raw.items) (λ v. v.name) (gives_variables raw.items) (variable_named raw.items))

  streams_named : Named raw.items is_stream (map (λ (s : StreamDecl). s.name) (unit_of raw).streams)
  streams_named =
      subst (λ ss. Named raw.items is_stream (map (λ (s : StreamDecl). s.name) ss)) (sym (flat_map-each (streams raw.items) 0 raw.items))
      (named raw none is_stream (λ k. streams raw.items) (λ s. s.name) (gives_streams raw.items) (stream_named raw.items))

  functions_named : Named raw.items is_function (map (λ (f : FunctionDecl). f.name) (unit_of raw).functions)
  functions_named = named raw none is_function (functions raw.items) (λ f. f.name) (gives_functions raw.items) (function_named raw.items)

  agents_named : Named raw.items is_agent (map (λ (a : AgentDecl). a.name) (unit_of raw).agents)
  agents_named = named raw none is_agent (agents raw.items) (λ a. a.name) (gives_agents raw.items) (agent_named raw.items)

  pub names_differ : AllDiffer (global_names (unit_of raw))
  names_differ =
      let last = both raw none is_function is_agent _ _ functions_named agents_named function_apart in
      let more = both raw none is_stream from_functions _ _ streams_named last stream_apart in
      let most = both raw none is_variable from_streams _ _ variables_named more variable_apart in
      (both raw none is_clock from_variables _ _ clocks_named most clock_apart).differ
