-- A path of more edges than there are nodes goes round a closed path, which can be cut out of it.
use Rattle.std.proofs.Common.{◌≡◌, ◌⊎◌, ℕ, ◌+◌, ◌<◌, ◌≤◌, List, [], ◌∷◌, true, false, length, map, refl, sym, subst, ◌∙◌, inl, inr, arith}
use Rattle.std.specs.List.{All, AllByRecursion, IsDistinct, list_any}
use Rattle.std.proofs.Math.Dec.{eqb}
use Rattle.std.proofs.lemmas.Bool.{cases_eq, eqb-true, ne_eqb, or_cases}
use Rattle.std.proofs.lemmas.List.{length-map}
use Rattle.std.proofs.lemmas.List.Elements.{All-contains}
use Rattle.std.proofs.lemmas.Map.Steps.{length-le_from_distinct_below}
use Rattle.psy_base.specs.declared.edge.Edge.{Edge}
use Rattle.psy_base.specs.Paths.{IsPathFrom, weight_of, length_of}
use Rattle.psy_rate.specs.Lines.{IsClosed, end_of, due_of}
use Rattle.psy_window.specs.Windows.{IsEdge}

-- A path without a closed part of it: the rest isn't empty and begins at the same node.
pub record IsCut (graph : List Edge) (node : ℕ) (path : List Edge) : Type 0 where
  pub loop : List Edge
  pub rest : List Edge
  pub closed : IsClosed graph loop
  pub is_path : IsPathFrom graph node rest
  pub some : 1 ≤ length rest
  pub shorter : length rest < length path
  pub weight : weight_of path ≡ weight_of loop + weight_of rest
  pub due : due_of path ≡ length_of loop + due_of rest

-- A path up to a node on it, and from there on.
record IsSplit (graph : List Edge) (node at : ℕ) (path : List Edge) : Type 0 where
  before : List Edge
  after : List Edge
  leads : IsPathFrom graph node before
  there : end_of node before ≡ at
  is_path : IsPathFrom graph at after
  some : 1 ≤ length after
  shorter : length after ≤ length path
  weight : weight_of path ≡ weight_of before + weight_of after
  due : due_of path ≡ length_of before + due_of after

-- The nodes where its edges begin
abbrev pub starts : List Edge → List ℕ
starts path = map (λ e. e.from) path

-- An edge before a path that isn't empty is due its length later.
due_cons : (e : Edge) (path : List Edge) → 1 ≤ length path → due_of (e ∷ path) ≡ e.len + due_of path
due_cons e [] some = absurd (omega (arith, some))
due_cons e (f ∷ path) some = refl

-- A path comes to a node, or no edge of it begins there.
split : (graph : List Edge) (at node : ℕ) (path : List Edge) → IsPathFrom graph node path → IsSplit graph node at path ⊎ AllByRecursion (λ start. eqb at start ≡ false) (starts path)
split graph at node [] is = inr tt
split graph at node (e ∷ path) is =
    elim (cases_eq at e.from) [
      | inl here ↦ inl (record {
        before = [];
        after = e ∷ path;
        leads = tt;
        there = sym is.1 ∙ sym here;
        is_path = (is.0, sym here, is.2);
        some = omega arith;
        shorter = omega arith;
        weight = omega arith;
        due = omega arith;
      })
      | inr other ↦ elim (split graph at e.to path is.2) [
        | inl later ↦ inl (record {
          before = e ∷ later.before;
          after = later.after;
          leads = (is.0, is.1, later.leads);
          there = later.there;
          is_path = later.is_path;
          some = later.some;
          shorter = omega (arith, later.shorter);
          weight = omega (arith, later.weight);
          due = omega (arith, due_cons e path (omega (arith, later.some, later.shorter)), later.due);
        })
        | inr none ↦ inr (ne_eqb at e.from other, none)
      ]
    ]

-- A closed part can be cut out of a path, or no two of its edges begin at one node.
cut_cases : (graph : List Edge) (node : ℕ) (path : List Edge) → IsPathFrom graph node path → IsCut graph node path ⊎ IsDistinct eqb (starts path)
unfolding IsDistinct
cut_cases graph node [] is = inr tt
cut_cases graph node (e ∷ path) is =
    elim (cut_cases graph e.to path is.2) [
      | inl cut ↦ inl (record {
        loop = cut.loop;
        rest = e ∷ cut.rest;
        closed = cut.closed;
        is_path = (is.0, is.1, cut.is_path);
        some = omega arith;
        shorter = omega (arith, cut.shorter);
        weight = omega (arith, cut.weight);
        due = omega (arith, due_cons e path (omega (arith, cut.some, cut.shorter)), due_cons e cut.rest cut.some, cut.due);
      })
      | inr distinct ↦ elim (split graph e.from e.to path is.2) [
        | inl back ↦ inl (record {
          loop = e ∷ back.before;
          rest = back.after;
          closed = ((is.0, refl, back.leads), back.there);
          is_path = subst (λ m. IsPathFrom graph m back.after) is.1 back.is_path;
          some = back.some;
          shorter = omega (arith, back.shorter);
          weight = omega (arith, back.weight);
          due = omega (arith, due_cons e path (omega (arith, back.some, back.shorter)), back.due);
        })
        | inr none ↦ inr (none, distinct)
      ]
    ]

-- Where edges begin is below the number of nodes.
pub starts_below : (graph : List Edge) (nodes node : ℕ) (path : List Edge) → All (IsEdge nodes) graph → IsPathFrom graph node path → (q : ℕ) → list_any (eqb q) (starts path) ≡ true → q < nodes
starts_below graph nodes node [] edges is q some = cc
starts_below graph nodes node (e ∷ path) edges is q some =
    elim (or_cases (eqb q e.from) (list_any (eqb q) (starts path)) some) [
      | inl here ↦ omega (arith, eqb-true q e.from here, (All-contains (IsEdge nodes) graph e edges is.0).from)
      | inr later ↦ starts_below graph nodes e.to path edges is.2 q later
    ]

-- More edges than nodes
pub cut : (graph : List Edge) (nodes node : ℕ) (path : List Edge) → All (IsEdge nodes) graph → IsPathFrom graph node path → nodes < length path → IsCut graph node path
cut graph nodes node path edges is long =
    elim (cut_cases graph node path is) [
      | inl found ↦ found
      | inr distinct ↦ (
          let few : length (starts path) ≤ nodes = length-le_from_distinct_below (starts path) nodes distinct (starts_below graph nodes node path edges is) in
          absurd (omega (arith, few, long, length-map path (λ e. e.from))))
    ]
