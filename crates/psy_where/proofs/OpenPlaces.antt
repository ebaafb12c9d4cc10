-- The `{` that are open behind tokens, from the first token on.
use Rattle.std.proofs.Common.{◌≡◌, ℕ, zero, suc, ◌+◌, ◌-◌, Bool, true, false, if◌then◌else◌, List, [], ◌∷◌}
use Rattle.std.proofs.Common.{◌++◌, length, take, get_or, refl, sym, ap, ◌∙◌, arith, append-nil, append_assoc, Option, None, Some}
use Rattle.std.specs.Prelude.{slice_get}
use Rattle.std.proofs.lemmas.Bool.{ne_eqb}
use Rattle.std.proofs.lemmas.Option.{slice_get-get_or}
use Rattle.std.specs.Option.{option_or}
use Rattle.psy_tree.specs.declared.token.Token.{Token}
use Rattle.psy_expect.specs.declared.brace.Brace.{Brace}
use Rattle.psy_expect.specs.declared.brace.Brace.TheVariants.{Opens, Closes, Neither}
use Rattle.psy_expect.specs.Braces.{brace_of, closed_before, closed_with, is_open, open_brace}

-- A token by itself, by what it does to braces: the place of a `{`, where none of so many `}` behind it closes it
abbrev pub opened : Brace → ℕ → ℕ → List ℕ
opened b behind place = if is_open b behind then place ∷ [] else []

-- The places of the `{` that are open behind tokens, the innermost last
abbrev pub open_places : List Token → List ℕ
open_places [] = []
open_places (t ∷ more) = opened (brace_of t.kind) (closed_before more) t.place ++ open_places more

-- ---- the innermost

-- Where some are open behind a token, it isn't the innermost.
some_behind : (is : Bool) (place p : ℕ) (ps : List ℕ)
    → slice_get ((if is then place ∷ [] else []) ++ p ∷ ps) (length ((if is then place ∷ [] else []) ++ p ∷ ps) - 1) ≡ slice_get (p ∷ ps) (length ps)
some_behind true place p ps = let at : length (place ∷ p ∷ ps) - 1 ≡ suc (length ps) = omega arith in ap (slice_get (place ∷ p ∷ ps)) at
some_behind false place p ps = let at : length (p ∷ ps) - 1 ≡ length ps = omega arith in ap (slice_get (p ∷ ps)) at

last_with : (is : Bool) (place : ℕ) (ps : List ℕ) (there : Option ℕ) → there ≡ slice_get ps (length ps - 1)
    → option_or there (if is then Some place else None) ≡ slice_get ((if is then place ∷ [] else []) ++ ps) (length ((if is then place ∷ [] else []) ++ ps) - 1)
last_with true place [] there last = rw last refl
last_with false place [] there last = rw last refl
last_with is place (p ∷ ps) there last =
    let at : length (p ∷ ps) - 1 ≡ length ps = omega arith in
    let here : slice_get (p ∷ ps) (length ps) ≡ Some (get_or (p ∷ ps) (length ps) 0) = slice_get-get_or (p ∷ ps) (length ps) 0 (omega arith) in
    let some : there ≡ Some (get_or (p ∷ ps) (length ps) 0) = last ∙ ap (slice_get (p ∷ ps)) at ∙ here in
    ap (λ (o : Option ℕ). option_or o (if is then Some place else None)) some ∙ sym here ∙ sym (some_behind is place p ps)

-- The innermost `{` that is open behind tokens is the last.
pub innermost : (ts : List Token) → open_brace ts ≡ slice_get (open_places ts) (length (open_places ts) - 1)
unfolding open_brace
innermost [] = refl
innermost (t ∷ more) = last_with (is_open (brace_of t.kind) (closed_before more)) t.place (open_places more) (open_brace more) (innermost more)

-- ---- one token more

pub closed-more : (ts : List Token) (t : Token) → closed_with (brace_of t.kind) 0 ≡ 0 → closed_before (ts ++ t ∷ []) ≡ closed_before ts
unfolding closed_before
closed-more [] t none = none
closed-more (x ∷ ts) t none = ap (closed_with (brace_of x.kind)) (closed-more ts t none)

-- What closes none is open itself, or nothing is.
pub places-more : (ts : List Token) (t : Token) → closed_with (brace_of t.kind) 0 ≡ 0
    → open_places (ts ++ t ∷ []) ≡ open_places ts ++ opened (brace_of t.kind) 0 t.place
unfolding closed_before
places-more [] t none = append-nil _
places-more (x ∷ ts) t none =
    rw (closed-more ts t none, places-more ts t none)
    (sym (append_assoc (opened (brace_of x.kind) (closed_before ts) x.place) (open_places ts) (opened (brace_of t.kind) 0 t.place)))

-- What a `}` behind them changes, one token further up, by what that does to braces, how many close one above it, and what is open behind it
step : (b : Brace) (c place : ℕ) (os : List ℕ)
    → (closed_with b (c + (1 - length os)) ≡ closed_with b c + (1 - length (opened b c place ++ os)))
    × (opened b (c + (1 - length os)) place ++ take (length os - 1) os ≡ take (length (opened b c place ++ os) - 1) (opened b c place ++ os))
step Neither c place os = (refl, refl)
step Closes c place os = (omega arith, refl)
step Opens zero place [] = (refl, refl)
step Opens zero place (o ∷ os) =
    let some : 0 + (1 - length (o ∷ os)) ≡ 0 = omega arith in
    let fewer : length (o ∷ os) - 1 ≡ length os = omega arith in
    let first : length (place ∷ o ∷ os) - 1 ≡ suc (length os) = omega arith in
    let none : 0 - 1 ≡ (0 - 1) + (1 - length (place ∷ o ∷ os)) = omega arith in (
      ap (closed_with Opens) some ∙ none,
      ap (λ (n : ℕ). opened Opens n place ++ take (length (o ∷ os) - 1) (o ∷ os)) some ∙ ap (λ (n : ℕ). place ∷ take n (o ∷ os)) fewer
          ∙ sym (ap (λ (n : ℕ). take n (place ∷ o ∷ os)) first),
    )
step Opens (suc c) place os =
    let before : is_open Opens (suc c) ≡ false = ne_eqb (suc c) 0 (λ e. omega (arith, e)) in
    let behind : is_open Opens (suc c + (1 - length os)) ≡ false = ne_eqb (suc c + (1 - length os)) 0 (λ e. omega (arith, e)) in
    let fewer : suc c + (1 - length os) - 1 ≡ suc c - 1 + (1 - length os) = omega arith in (
      fewer ∙ sym (ap (λ (is : Bool). suc c - 1 + (1 - length ((if is then place ∷ [] else []) ++ os))) before),
      ap (λ (is : Bool). (if is then place ∷ [] else []) ++ take (length os - 1) os) behind
          ∙ sym (ap (λ (is : Bool). take (length ((if is then place ∷ [] else []) ++ os) - 1) ((if is then place ∷ [] else []) ++ os)) before),
    )

places-closed-both : (ts : List Token) (t : Token) → Closes ≡ brace_of t.kind
    → (closed_before (ts ++ t ∷ []) ≡ closed_before ts + (1 - length (open_places ts)))
    × (open_places (ts ++ t ∷ []) ≡ take (length (open_places ts) - 1) (open_places ts))
unfolding closed_before
places-closed-both [] t is = (rw (sym is) refl, rw (sym is) refl)
places-closed-both (x ∷ ts) t is =
    let behind = places-closed-both ts t is in
    let here = step (brace_of x.kind) (closed_before ts) x.place (open_places ts) in
    (ap (closed_with (brace_of x.kind)) behind.0 ∙ here.0, rw (behind.0, behind.1) here.1)

-- A `}` closes the innermost, where one is open.
pub places-closed : (ts : List Token) (t : Token) → Closes ≡ brace_of t.kind → open_places (ts ++ t ∷ []) ≡ take (length (open_places ts) - 1) (open_places ts)
places-closed ts t is = (places-closed-both ts t is).1
