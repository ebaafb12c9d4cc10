-- Braces that are open behind tokens, from the last token on.
use Rattle.std.proofs.Common.{◌≡◌, ◌≢◌, ℕ, ◌+◌, ◌-◌, ◌<◌, ◌≤◌, Bool, if◌then◌else◌, List, [], ◌∷◌, ◌++◌, length, take, drop, get_or, None, Some, refl, sym, subst, arith, ◌∙◌, ap}
use Rattle.std.proofs.lemmas.Bool.{ne_eqb}
use Rattle.std.proofs.lemmas.List.{drop_more, drop_all, take-append-drop}
use Rattle.psy_tree.specs.declared.token.Token.{Token}
use Rattle.psy_expect.specs.declared.brace.Brace.{Brace}
use Rattle.psy_expect.specs.declared.brace.Brace.TheVariants.{Opens}
use Rattle.psy_expect.specs.Braces.{brace_of, closed_before, closed_with, is_open, open_brace}

-- One step back in a list
pub drop_back : (ts : List Token) (at : ℕ) (t d : Token) → 0 < at → at ≤ length ts → t ≡ get_or ts (at - 1) d → drop (at - 1) ts ≡ t ∷ drop at ts
drop_back ts at t d some within is =
    let one : (at - 1) + 1 ≡ at = omega arith in
    subst (λ (u : Token). drop (at - 1) ts ≡ u ∷ drop at ts) (sym is)
    (subst (λ (n : ℕ). drop (at - 1) ts ≡ get_or ts (at - 1) d ∷ drop n ts) one (drop_more ts (at - 1) d (omega arith)))

-- The count of `}` that close one further up, one step back
pub closed-back : (ts : List Token) (at : ℕ) (t d : Token) (b : Brace) (n : ℕ) → 0 < at → at ≤ length ts → t ≡ get_or ts (at - 1) d → b ≡ brace_of t.kind
    → n ≡ closed_before (drop at ts) → closed_with b n ≡ closed_before (drop (at - 1) ts)
unfolding closed_before
closed-back ts at t d b n some within is kind closed = rw (drop_back ts at t d some within is, kind, closed) refl

-- The open brace, one step back where none was open behind it
pub open-back : (ts : List Token) (at : ℕ) (t d : Token) (b : Brace) (n : ℕ) → 0 < at → at ≤ length ts → t ≡ get_or ts (at - 1) d → b ≡ brace_of t.kind
    → n ≡ closed_before (drop at ts) → open_brace (drop at ts) ≡ None
    → open_brace (drop (at - 1) ts) ≡ (if is_open b n then Some t.place else None)
unfolding open_brace
open-back ts at t d b n some within is kind closed none = rw (drop_back ts at t d some within is, kind, closed, none) refl

-- A `{` that is closed behind it is not the open one.
pub none-back : (ts : List Token) (at : ℕ) (t : Token) (n : ℕ) → n ≢ 0 → 0 < at → at ≤ length ts → t ≡ get_or ts (at - 1) t → Opens ≡ brace_of t.kind
    → n ≡ closed_before (drop at ts) → open_brace (drop at ts) ≡ None → open_brace (drop (at - 1) ts) ≡ None
none-back ts at t n some here within is kind closed none =
    open-back ts at t t Opens n here within is kind closed none
    ∙ ap (λ (b : Bool). if b then Some t.place else None) (ne_eqb n 0 some)

found_behind : (ts more : List Token) (place : ℕ) → open_brace more ≡ Some place → open_brace (ts ++ more) ≡ Some place
unfolding open_brace
found_behind [] more place is = is
found_behind (t ∷ ts) more place is = rw (found_behind ts more place is) refl

-- What is open behind some of the tokens is the innermost of all.
pub found : (ts : List Token) (at : ℕ) (place : ℕ) → open_brace (drop at ts) ≡ Some place → open_brace ts ≡ Some place
found ts at place is = subst (λ (us : List Token). open_brace us ≡ Some place) (take-append-drop at ts) (found_behind (take at ts) (drop at ts) place is)

-- Behind the last token nothing is closed, and nothing is open.
pub closed-end : (ts : List Token) → 0 ≡ closed_before (drop (length ts) ts)
unfolding closed_before
closed-end ts = rw (drop_all (length ts) ts (omega arith)) refl

pub open-end : (ts : List Token) → open_brace (drop (length ts) ts) ≡ None
unfolding open_brace
open-end ts = rw (drop_all (length ts) ts (omega arith)) refl
