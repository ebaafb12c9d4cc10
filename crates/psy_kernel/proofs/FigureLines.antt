-- The lines of the summary by what the agents have, the reaches and what was held, place by place.
use Rattle.std.proofs.Common.{◌≡◌, ℕ, suc, ◌+◌, ◌-◌, ◌<◌, List, ◌∷◌, ◌++◌, map, length, get_or, slice_get, Option, Some, refl, ap, ◌∙◌, arith, length-append}
use Rattle.std.specs.List.{range_with_len}
use Rattle.std.proofs.lemmas.List.{get_or_append_left, get_or-append_right}
use Rattle.std.proofs.lemmas.List.FromFn.{length-map-range_with_len, get_or-map-range_with_len}
use Rattle.std.proofs.lemmas.Option.{slice_get-get_or}
use Rattle.psy_dates.specs.declared.plan.Plan.{Plan}
use Rattle.psy_kernel.specs.declared.engine.Runner.{Runner}
use Rattle.psy_kernel.specs.Telling.{figure_line, figured_lines, held_line, reach_line}

-- ---- three lists made from numbers, one behind the other

module _ {X : Type 0} (f g h : ℕ → X) (m n o : ℕ) where
  abbrev first : List X
  first = map f (range_with_len 0 m)

  abbrev rest : List X
  rest = map g (range_with_len 0 n) ++ map h (range_with_len 0 o)

  rest_length : length rest ≡ n + o
  rest_length = omega (arith, length-append (map g (range_with_len 0 n)) (map h (range_with_len 0 o)), length-map-range_with_len g 0 n, length-map-range_with_len h 0 o)

  all_length : length (first ++ rest) ≡ m + n + o
  all_length = omega (arith, length-append first rest, length-map-range_with_len f 0 m, rest_length)

  in_first : (i : ℕ) → i < m → slice_get (first ++ rest) i ≡ Some (f i)
  in_first i l =
      slice_get-get_or (first ++ rest) i (f i) (omega (arith, all_length, l))
      ∙ ap Some (get_or_append_left first rest (f i) i (omega (arith, length-map-range_with_len f 0 m, l))
      ∙ get_or-map-range_with_len f 0 m i i (f i) l (omega arith))

  in_rest : (i j : ℕ) (x : X) → i ≡ m + j → j < n + o → get_or rest j x ≡ x → slice_get (first ++ rest) i ≡ Some x
  in_rest i j x e l at =
      slice_get-get_or (first ++ rest) i x (omega (arith, all_length, e, l))
      ∙ ap Some (get_or-append_right first rest m i x (length-map-range_with_len f 0 m) (omega (arith, e)) ∙ ap (λ k. get_or rest k x) (omega (arith, e)) ∙ at)

  in_second : (i j : ℕ) → i ≡ m + j → j < n → slice_get (first ++ rest) i ≡ Some (g j)
  in_second i j e l =
      in_rest i j (g j) e (omega (arith, l)) (get_or_append_left (map g (range_with_len 0 n)) (map h (range_with_len 0 o)) (g j) j (omega (arith, length-map-range_with_len g 0 n, l))
      ∙ get_or-map-range_with_len g 0 n j j (g j) l (omega arith))

  in_third : (i j : ℕ) → i ≡ m + (n + j) → j < o → slice_get (first ++ rest) i ≡ Some (h j)
  in_third i j e l =
      in_rest i (n + j) (h j) e (omega (arith, l)) (get_or-append_right (map g (range_with_len 0 n)) (map h (range_with_len 0 o)) n (n + j) (h j) (length-map-range_with_len g 0 n) (omega arith)
      ∙ get_or-map-range_with_len h 0 o (n + j - n) j (h j) (omega (arith, l)) (omega arith))

next_place : {X : Type 0} (x : X) (xs : List X) (place i : ℕ) → place ≡ suc i → slice_get (x ∷ xs) place ≡ slice_get xs i
next_place x xs place i e = ap (slice_get (x ∷ xs)) e

-- ---- the lines

module _ (plan : Plan) (runners : List Runner) (reaches : List (Option ℕ)) (helds : List ℕ) where
  abbrev agents : ℕ
  agents = length plan.unit.agents

  abbrev variables : ℕ
  variables = length plan.unit.variables

  abbrev streams : ℕ
  streams = length plan.unit.streams

  abbrev behind_first : List (List ℕ)
  behind_first = map (figure_line plan.unit runners) (range_with_len 0 agents) ++ (map (reach_line plan reaches) (range_with_len 0 variables) ++ map (held_line plan helds) (range_with_len 0 streams))

  pub agent_figured : (place agent : ℕ) → place ≡ suc agent → agent < agents → slice_get (figured_lines plan runners reaches helds) place ≡ Some (figure_line plan.unit runners agent)
  agent_figured place agent e l = next_place _ behind_first place agent e ∙ in_first (figure_line plan.unit runners) (reach_line plan reaches) (held_line plan helds) agents variables streams agent l

  pub variable_figured : (place variable : ℕ) → place ≡ suc (agents + variable) → variable < variables → slice_get (figured_lines plan runners reaches helds) place ≡ Some (reach_line plan reaches variable)
  variable_figured place variable e l =
      next_place _ behind_first place (agents + variable) e ∙ in_second (figure_line plan.unit runners) (reach_line plan reaches) (held_line plan helds) agents variables streams (agents + variable) variable refl l

  pub stream_figured : (place stream : ℕ) → place ≡ suc (agents + (variables + stream)) → stream < streams → slice_get (figured_lines plan runners reaches helds) place ≡ Some (held_line plan helds stream)
  stream_figured place stream e l =
      next_place _ behind_first place (agents + (variables + stream)) e ∙ in_third (figure_line plan.unit runners) (reach_line plan reaches) (held_line plan helds) agents variables streams (agents + (variables + stream)) stream refl l

  pub figured_length : length (figured_lines plan runners reaches helds) ≡ suc (agents + variables + streams)
  figured_length = ap suc (all_length (figure_line plan.unit runners) (reach_line plan reaches) (held_line plan helds) agents variables streams)
