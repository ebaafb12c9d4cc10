-- The tokens before a place, with the last one first.
use Rattle.std.proofs.Common.{◌≡◌, ℕ, ◌+◌, ◌<◌, List, [], ◌∷◌, length, take, get_or, map, reverse, sym, ap, ◌∙◌, add-one, inl, inr}
use Rattle.std.proofs.lemmas.List.{take_more, map-append, reverse-append}
use Rattle.psy_base.specs.declared.limits.TheConstants.{BRACKETS, OPERATORS}
use Rattle.psy_tree.specs.declared.token.Token.{Token}
use Rattle.psy_tree.specs.declared.token.Kind.{Kind}
use Rattle.psy_tree.specs.Deep.{bracket_depth, operators_since, IsTooDeep}

abbrev pub front : List Token → ℕ → List Kind
front tokens n = reverse (map (λ token. token.kind) (take n tokens))

-- One token more
pub front_more : (tokens : List Token) (i : ℕ) (token : Token) → i < length tokens → token ≡ get_or tokens i token → front tokens (i + 1) ≡ token.kind ∷ front tokens i
front_more tokens i token lt is =
    ap (λ (ts : List Token). reverse (map (λ t. t.kind) ts)) (take_more tokens i token lt)
    ∙ ap (λ (ks : List Kind). reverse ks) (map-append (λ (t : Token). t.kind) (take i tokens) (get_or tokens i token ∷ []))
    ∙ reverse-append (map (λ (t : Token). t.kind) (take i tokens)) ((get_or tokens i token).kind ∷ [])
    ∙ ap (λ (t : Token). t.kind ∷ front tokens i) (sym is)

-- Where neither number is that of a measure, none is reached
pub not_reached : (tokens : List Token) (i depth since : ℕ) → bracket_depth (front tokens (i + 1)) ≡ depth → operators_since (front tokens (i + 1)) ≡ since → (depth ≡ BRACKETS → ⊥) → (since ≡ OPERATORS → ⊥) → IsTooDeep tokens i → ⊥
not_reached tokens i depth since d r not_deep not_long (inl e) = not_deep (sym (rw add-one at d) ∙ e)
not_reached tokens i depth since d r not_deep not_long (inr e) = not_long (sym (rw add-one at r) ∙ e)
