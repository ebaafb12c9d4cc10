-- The parts of a unit, put together.
use Rattle.std.proofs.Common.{◌≡◌, ℕ, List, length, Option, ap, ◌∙◌}
use Rattle.std.specs.Prelude.{option_to_list}
use Rattle.std.specs.List.{flat_map}
use Rattle.psy_clock.specs.declared.clock.Clock.{Clock}
use Rattle.psy_tree.specs.declared.raw.Raw.{Raw}
use Rattle.psy_tree.specs.declared.raw.Item.{Item}
use Rattle.psy_tree.specs.declared.unit.Unit.{Unit as Whole}
use Rattle.psy_tree.specs.declared.unit.VarDecl.{VarDecl}
use Rattle.psy_tree.specs.declared.unit.StreamDecl.{StreamDecl}
use Rattle.psy_tree.specs.declared.unit.FunctionDecl.{FunctionDecl}
use Rattle.psy_tree.specs.declared.unit.AgentDecl.{AgentDecl}
use Rattle.psy_tree.specs.Rules.{sound_clocks}
use Rattle.psy_tree.specs.Stands.{unit_of, clock_names, variables, streams, functions, agents, each_from}

abbrev whole : ℕ → List Clock → List (List ℕ) → List VarDecl → List StreamDecl → List FunctionDecl → List AgentDecl → Whole
whole q c n v s f a = record { quantum = q; clocks = c; clock_names = n; variables = v; streams = s; functions = f; agents = a }

same_whole : (q : ℕ) (c d : List Clock) (n m : List (List ℕ)) (v w : List VarDecl) (s t : List StreamDecl) (f g : List FunctionDecl) (a b : List AgentDecl) → c ≡ d → n ≡ m → v ≡ w → s ≡ t → f ≡ g → a ≡ b → whole q c n v s f a ≡ whole q d m w t g b
same_whole q c d n m v w s t f g a b e1 e2 e3 e4 e5 e6 = cc

-- A unit is built of the parts that the declarations give.
pub unit_of-parts : (raw : Raw) (items : List Item) (known : List (Option Clock)) (c : List Clock) (n : List (List ℕ)) (v : List VarDecl) (s : List StreamDecl) (f : List FunctionDecl) (a : List AgentDecl) →
    items ≡ raw.items → known ≡ sound_clocks raw.items (length raw.items) → c ≡ flat_map option_to_list known → n ≡ flat_map clock_names items → v ≡ flat_map (variables items) items → s ≡ flat_map (streams items) items →
    f ≡ each_from (functions items) 0 items → a ≡ each_from (agents items) 0 items → whole raw.quantum.value c n v s f a ≡ unit_of raw
unit_of-parts raw items known c n v s f a same sound e1 e2 e3 e4 e5 e6 =
    same_whole raw.quantum.value c _ n _ v _ s _ f _ a _
    (e1 ∙ ap (flat_map option_to_list) sound)
    (e2 ∙ ap (flat_map clock_names) same)
    (e3 ∙ ap (λ is. flat_map (variables is) is) same)
    (e4 ∙ ap (λ is. flat_map (streams is) is) same)
    (e5 ∙ ap (λ is. each_from (functions is) 0 is) same)
    (e6 ∙ ap (λ is. each_from (agents is) 0 is) same)
