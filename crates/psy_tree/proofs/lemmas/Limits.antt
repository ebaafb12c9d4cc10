-- What the limits say where no count passes its own.
use Rattle.std.proofs.Common.{◌≡◌, ℕ, ◌≤◌, Bool, true, false, cond, List, [], ◌∷◌, length, Some, None, refl, sym, ap, ◌∙◌}
use Rattle.std.specs.Prelude.{nat_lt, slice_get}
use Rattle.std.specs.List.{list_any, find}
use Rattle.std.proofs.lemmas.Bool.{ltb-false}
use Rattle.std.proofs.lemmas.Option.{slice_get_within, get_or_from_slice_get}
use Rattle.std.proofs.lemmas.List.Folds.{list_any_at}
use Rattle.psy_base.specs.declared.limits.TheConstants.{CLOCKS, AGENTS, VARIABLES, STREAMS, FUNCTIONS, NAMES, POINTS}
use Rattle.psy_tree.specs.declared.raw.Item.{Item}
use Rattle.psy_tree.specs.declared.rules.Count.{Count}
use Rattle.psy_tree.specs.declared.rules.Count.TheVariants.{Clocks, Agents, Variables, Streams, Functions, Names, Points}
use Rattle.psy_tree.specs.Scope.{slots_of}
use Rattle.psy_tree.specs.Rules.{is_clock, is_agent, is_function, is_stream}
use Rattle.psy_tree.specs.Stands.{passes, counts, counting, is_variable, points_of}

abbrev pub NonePasses : List Item → Type 0
NonePasses items = find (passes items) counts ≡ None

-- One test after another
first_none : (p : Count → Bool) (c : Count) (cs : List Count) (b : Bool) → p c ≡ b → find p (c ∷ cs) ≡ None → (p c ≡ false) × (find p cs ≡ None)
first_none p c cs true e h = absurd (let no : Some c ≡ None = sym (ap (λ x. cond x (Some c) (find p cs)) e) ∙ h in cc)
first_none p c cs false e h = (e, sym (ap (λ x. cond x (Some c) (find p cs)) e) ∙ h)

abbrev from_agents : List Count
from_agents = Agents ∷ (Variables ∷ (Streams ∷ (Functions ∷ (Names ∷ (Points ∷ [])))))

abbrev from_variables : List Count
from_variables = Variables ∷ (Streams ∷ (Functions ∷ (Names ∷ (Points ∷ []))))

abbrev from_streams : List Count
from_streams = Streams ∷ (Functions ∷ (Names ∷ (Points ∷ [])))

abbrev from_functions : List Count
from_functions = Functions ∷ (Names ∷ (Points ∷ []))

abbrev from_names : List Count
from_names = Names ∷ (Points ∷ [])

abbrev Rest : List Item → List Count → Type 0
Rest items cs = find (passes items) cs ≡ None

rest_agents : (items : List Item) → NonePasses items → (passes items Clocks ≡ false) × Rest items from_agents
rest_agents items h = first_none (passes items) Clocks from_agents (passes items Clocks) refl h

rest_variables : (items : List Item) → NonePasses items → (passes items Agents ≡ false) × Rest items from_variables
rest_variables items h = first_none (passes items) Agents from_variables (passes items Agents) refl (rest_agents items h).1

rest_streams : (items : List Item) → NonePasses items → (passes items Variables ≡ false) × Rest items from_streams
rest_streams items h = first_none (passes items) Variables from_streams (passes items Variables) refl (rest_variables items h).1

rest_functions : (items : List Item) → NonePasses items → (passes items Streams ≡ false) × Rest items from_functions
rest_functions items h = first_none (passes items) Streams from_functions (passes items Streams) refl (rest_streams items h).1

rest_names : (items : List Item) → NonePasses items → (passes items Functions ≡ false) × Rest items from_names
rest_names items h = first_none (passes items) Functions from_names (passes items Functions) refl (rest_functions items h).1

rest_points : (items : List Item) → NonePasses items → (passes items Names ≡ false) × Rest items (Points ∷ [])
rest_points items h = first_none (passes items) Names (Points ∷ []) (passes items Names) refl (rest_names items h).1

few_points : (items : List Item) → NonePasses items → passes items Points ≡ false
few_points items h = (first_none (passes items) Points [] (passes items Points) refl (rest_points items h).1).0

pub few_clocks : (items : List Item) → NonePasses items → counting is_clock items ≤ CLOCKS
few_clocks items h = ltb-false CLOCKS (counting is_clock items) (rest_agents items h).0

pub few_agents : (items : List Item) → NonePasses items → counting is_agent items ≤ AGENTS
few_agents items h = ltb-false AGENTS (counting is_agent items) (rest_variables items h).0

pub few_variables : (items : List Item) → NonePasses items → counting is_variable items ≤ VARIABLES
few_variables items h = ltb-false VARIABLES (counting is_variable items) (rest_streams items h).0

pub few_streams : (items : List Item) → NonePasses items → counting is_stream items ≤ STREAMS
few_streams items h = ltb-false STREAMS (counting is_stream items) (rest_functions items h).0

pub few_functions : (items : List Item) → NonePasses items → counting is_function items ≤ FUNCTIONS
few_functions items h = ltb-false FUNCTIONS (counting is_function items) (rest_names items h).0

any_at : (p : Item → Bool) (items : List Item) (k : ℕ) (i : Item) (b : Bool) → p i ≡ b → list_any p items ≡ false → slice_get items k ≡ Some i → p i ≡ false
any_at p items k i false e h g = e
any_at p items k i true e h g =
    absurd (let no : true ≡ false = sym (list_any_at p items k i (slice_get_within items k i g) (ap p (get_or_from_slice_get items k i i g) ∙ e)) ∙ h in cc)

pub names_of : (items : List Item) → NonePasses items → (k : ℕ) (i : Item) → slice_get items k ≡ Some i → length (slots_of i) ≤ NAMES
names_of items h k i g = ltb-false NAMES (length (slots_of i)) (any_at (λ j. nat_lt NAMES (length (slots_of j))) items k i _ refl (rest_points items h).0 g)

pub points_within : (items : List Item) → NonePasses items → (k : ℕ) (i : Item) → slice_get items k ≡ Some i → points_of i ≤ POINTS
points_within items h k i g = ltb-false POINTS (points_of i) (any_at (λ j. nat_lt POINTS (points_of j)) items k i _ refl (few_points items h) g)
