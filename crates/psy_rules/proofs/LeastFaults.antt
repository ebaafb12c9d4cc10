-- The least fault of two lists is the lesser of their least ones.
use Rattle.std.proofs.Common.{◌≡◌, ◌⊎◌, ℕ, Bool, true, false, cond, List, [], ◌∷◌, Option, Some, None, refl, sym, ap, ◌∙◌, subst, inl, inr, arith}
use Rattle.std.proofs.lemmas.Bool.Decides.{nat_tests}
use Rattle.psy_tree.specs.declared.raw.Raw.{Raw}
use Rattle.psy_tree.specs.declared.rules.RuleKind.{RuleKind}
use Rattle.psy_tree.specs.declared.rules.RuleKind.TheVariants as kind
use Rattle.psy_tree.specs.declared.raw.Name.{Name}
use Rattle.psy_tree.specs.declared.raw.Lit.{Lit}
use Rattle.psy_tree.specs.declared.reach.Asks.{Asks}
use Rattle.psy_tree.specs.Scope.{Site}
use Rattle.psy_rules.specs.Verdict.{Verdict}
use Rattle.psy_tree.specs.Places.{Place, NamesItem, NamesSlot, Derives, Uses, LooksBack, Acts, Returns, Loops, HasBody, Ranges, Sited, token_of, places}
use Rattle.psy_tree.specs.Rules.{NotAfter, rule_number, is_fault}
use Rattle.psy_tree.proofs.lemmas.Among.{Among, among, contains}
use Rattle.psy_rules.specs.declared.least.RuleAt.{RuleAt}
use Rattle.psy_rules.specs.Judged.{is_before, noted, judged, judged_sited}

-- l is the least of the faults that there are.
abbrev pub Best : (RuleKind → ℕ → Type 0) → Option RuleAt → Type 0
Best P None = (k : RuleKind) (t : ℕ) → P k t → ⊥
Best P (Some f) = P f.kind f.token × ((k : RuleKind) (t : ℕ) → P k t → NotAfter f.kind f.token k t)

-- The faults that there are, and one more where b is true
abbrev pub With : (RuleKind → ℕ → Type 0) → Bool → RuleKind → ℕ → RuleKind → ℕ → Type 0
With P b kind token k t = P k t ⊎ ((b ≡ true) × (k ≡ kind) × (t ≡ token))

best_same : (P Q : RuleKind → ℕ → Type 0) (l : Option RuleAt) → ((k : RuleKind) (t : ℕ) → P k t → Q k t) → ((k : RuleKind) (t : ℕ) → Q k t → P k t) → Best P l → Best Q l
best_same P Q None to from h = λ k t q. h k t (from k t q)
best_same P Q (Some f) to from h = (to f.kind f.token h.0, λ k t q. h.1 k t (from k t q))

not_after_refl : (k : RuleKind) (s : ℕ) → NotAfter k s k s
not_after_refl k s = inr (refl, omega arith)

not_after_same : (k l : RuleKind) (s t : ℕ) → l ≡ k → t ≡ s → NotAfter k s l t
not_after_same k l s t e f = inr (sym f, omega (arith, ap rule_number e))

-- What comes before f comes before all that f isn't after
before_then : (k : RuleKind) (s : ℕ) (f : RuleAt) (l : RuleKind) (t : ℕ) → is_before k s (Some f) ≡ true → NotAfter f.kind f.token l t → NotAfter k s l t
before_then k s f l t b h = grind (arith, nat_tests)

-- What doesn't come before f isn't before it
behind : (k : RuleKind) (s : ℕ) (f : RuleAt) → is_before k s (Some f) ≡ false → NotAfter f.kind f.token k s
behind k s f b = grind (arith, nat_tests)

noted_new : (P : RuleKind → ℕ → Type 0) (kind : RuleKind) (token : ℕ) (f : RuleAt) (b : Bool) → is_before kind token (Some f) ≡ b → Best P (Some f) → Best (With P true kind token) (cond b (Some (record { kind = kind; token = token })) (Some f))
noted_new P kind token f true e h = (
  inr (refl, refl, refl),
  λ k t q. elim q [
    | inl p ↦ before_then kind token f k t e (h.1 k t p)
    | inr s ↦ not_after_same kind k token t s.1 s.2
  ],
)
noted_new P kind token f false e h = (
  inl h.0,
  λ k t q. elim q [
    | inl p ↦ h.1 k t p
    | inr s ↦ (let there : NotAfter f.kind f.token kind token = behind kind token f e in
        let Q : RuleKind → Type 0 = λ x. NotAfter f.kind f.token x token in
        let R : ℕ → Type 0 = λ x. NotAfter f.kind f.token k x in
        subst R (sym s.2) (subst Q (sym s.1) there))
  ],
)

pub best_noted : (P : RuleKind → ℕ → Type 0) (b : Bool) (kind : RuleKind) (token : ℕ) (l : Option RuleAt) → Best P l → Best (With P b kind token) (noted b kind token l)
unfolding noted
best_noted P false kind token l h = best_same P (With P false kind token) l (λ k t p. inl p) (λ k t q. elim q [ inl p ↦ p | inr s ↦ (let no : false ≡ true = s.0 in cc) ]) h
best_noted P true kind token None h = (inr (refl, refl, refl), λ k t q. elim q [ inl p ↦ absurd (h k t p) | inr s ↦ not_after_same kind k token t s.1 s.2 ])
best_noted P true kind token (Some f) h = noted_new P kind token f (is_before kind token (Some f)) refl h

-- The faults that there are, and those of one more place
abbrev pub At : (RuleKind → ℕ → Type 0) → Site → Place → RuleKind → ℕ → Type 0
At P site p k t = P k t ⊎ ((is_fault k site p ≡ true) × (t ≡ token_of p))

one : (P : RuleKind → ℕ → Type 0) (site : Site) (p : Place) (kind : RuleKind) (b : Bool) (l : Option RuleAt) → ((k : RuleKind) → is_fault k site p ≡ true → k ≡ kind) → is_fault kind site p ≡ b → Best P l → Best (At P site p) (noted b kind (token_of p) l)
one P site p kind b l only e h =
    best_same (With P b kind (token_of p)) (At P site p) (noted b kind (token_of p) l)
    (λ k t q. elim q [
      | inl there ↦ inl there
      | inr s ↦ (let R : RuleKind → Type 0 = λ x. is_fault x site p ≡ true in inr (subst R (sym s.1) (e ∙ s.0), s.2))
    ])
    (λ k t q. elim q [
      | inl there ↦ inl there
      | inr s ↦ (let R : RuleKind → Type 0 = λ x. is_fault x site p ≡ true in let same : k ≡ kind = only k s.0 in inr (sym e ∙ subst R same s.0, same, s.1))
    ])
    (best_noted P b kind (token_of p) l h)

abbrev only_of : (site : Site) (p : Place) → RuleKind → Type 0
only_of site p kind = (k : RuleKind) → is_fault k site p ≡ true → k ≡ kind

only_NamesItem : (site : Site) (name : Name) → only_of site (NamesItem name) kind.Twice
only_NamesItem site name kind.Twice h = refl
only_NamesItem site name _ h = cc

only_NamesSlot : (site : Site) (n : ℕ) (name : Name) → only_of site (NamesSlot n name) kind.Twice
only_NamesSlot site n name kind.Twice h = refl
only_NamesSlot site n name _ h = cc

only_Derives : (site : Site) (name : Name) → only_of site (Derives name) kind.BadClock
only_Derives site name kind.BadClock h = refl
only_Derives site name _ h = cc

only_LooksBack : (site : Site) (name : Name) (back : Lit) → only_of site (LooksBack name back) kind.TooDeep
only_LooksBack site name back kind.TooDeep h = refl
only_LooksBack site name back _ h = cc

only_Acts : (site : Site) (token : ℕ) → only_of site (Acts token) kind.WrongKind
only_Acts site token kind.WrongKind h = refl
only_Acts site token _ h = cc

only_Returns : (site : Site) (token : ℕ) → only_of site (Returns token) kind.WrongKind
only_Returns site token kind.WrongKind h = refl
only_Returns site token _ h = cc

only_HasBody : (site : Site) (token : ℕ) (quiet : Bool) → only_of site (HasBody token quiet) kind.NoAdvance
only_HasBody site token quiet kind.NoAdvance h = refl
only_HasBody site token quiet _ h = cc

only_Ranges : (site : Site) (number : Lit) (low high : ℕ) → only_of site (Ranges number low high) kind.BadNumber
only_Ranges site number low high kind.BadNumber h = refl
only_Ranges site number low high _ h = cc

-- Two kinds at a loop
loop_kinds : (P : RuleKind → ℕ → Type 0) (site : Site) (token : ℕ) (bounded advances quiet : Bool) (k : RuleKind) (t : ℕ) → is_fault k site (Loops token bounded advances quiet) ≡ true → t ≡ token →
    With (With P (is_fault kind.NoMax site (Loops token bounded advances quiet)) kind.NoMax token) (is_fault kind.MixedLoop site (Loops token bounded advances quiet)) kind.MixedLoop token k t
loop_kinds P site token bounded advances quiet kind.NoMax t h e = inl (inr (h, refl, e))
loop_kinds P site token bounded advances quiet kind.MixedLoop t h e = inr (h, refl, e)
loop_kinds P site token bounded advances quiet _ t h e = absurd (cc)

-- Five at a use
abbrev pub used : Site → Name → Asks → RuleKind → Bool
used site name what k = is_fault k site (Uses name what)

abbrev pub Five : (RuleKind → ℕ → Type 0) → Site → Name → Asks → RuleKind → ℕ → Type 0
Five P site name what =
    With (With (With (With (With P (used site name what kind.Unknown) kind.Unknown name.token)
    (used site name what kind.WrongKind) kind.WrongKind name.token)
    (used site name what kind.NotOwner) kind.NotOwner name.token)
    (used site name what kind.NotReceiver) kind.NotReceiver name.token)
    (used site name what kind.CallsDown) kind.CallsDown name.token

use_kinds : (P : RuleKind → ℕ → Type 0) (site : Site) (name : Name) (what : Asks) (k : RuleKind) (t : ℕ) → is_fault k site (Uses name what) ≡ true → t ≡ name.token → Five P site name what k t
use_kinds P site name what kind.Unknown t h e = inl (inl (inl (inl (inr (h, refl, e)))))
use_kinds P site name what kind.WrongKind t h e = inl (inl (inl (inr (h, refl, e))))
use_kinds P site name what kind.NotOwner t h e = inl (inl (inr (h, refl, e)))
use_kinds P site name what kind.NotReceiver t h e = inl (inr (h, refl, e))
use_kinds P site name what kind.CallsDown t h e = inr (h, refl, e)
use_kinds P site name what _ t h e = absurd (cc)

with_at : (P Q : RuleKind → ℕ → Type 0) (site : Site) (p : Place) (kind : RuleKind) → ((k : RuleKind) (t : ℕ) → Q k t → At P site p k t) → (k : RuleKind) (t : ℕ) → With Q (is_fault kind site p) kind (token_of p) k t → At P site p k t
with_at P Q site p kind f k t q = elim q [
  | inl there ↦ f k t there
  | inr s ↦ (let R : RuleKind → Type 0 = λ x. is_fault x site p ≡ true in inr (subst R (sym s.1) s.0, s.2))
]

pub best_judged : (P : RuleKind → ℕ → Type 0) (site : Site) (p : Place) (l : Option RuleAt) → Best P l → Best (At P site p) (judged site p l)
unfolding judged
best_judged P site (NamesItem name) l h = one P site (NamesItem name) kind.Twice _ l (only_NamesItem site name) refl h
best_judged P site (NamesSlot n name) l h = one P site (NamesSlot n name) kind.Twice _ l (only_NamesSlot site n name) refl h
best_judged P site (Derives name) l h = one P site (Derives name) kind.BadClock _ l (only_Derives site name) refl h
best_judged P site (LooksBack name back) l h = one P site (LooksBack name back) kind.TooDeep _ l (only_LooksBack site name back) refl h
best_judged P site (Acts token) l h = one P site (Acts token) kind.WrongKind _ l (only_Acts site token) refl h
best_judged P site (Returns token) l h = one P site (Returns token) kind.WrongKind _ l (only_Returns site token) refl h
best_judged P site (HasBody token quiet) l h = one P site (HasBody token quiet) kind.NoAdvance _ l (only_HasBody site token quiet) refl h
best_judged P site (Ranges number low high) l h = one P site (Ranges number low high) kind.BadNumber _ l (only_Ranges site number low high) refl h
best_judged P site (Loops token bounded advances quiet) l h =
    let p : Place = Loops token bounded advances quiet in
    let P1 : RuleKind → ℕ → Type 0 = With P (is_fault kind.NoMax site (Loops token bounded advances quiet)) kind.NoMax token in
    best_same (With P1 (is_fault kind.MixedLoop site (Loops token bounded advances quiet)) kind.MixedLoop token) (At P site (Loops token bounded advances quiet)) _
    (with_at P P1 site (Loops token bounded advances quiet) kind.MixedLoop (with_at P P site (Loops token bounded advances quiet) kind.NoMax (λ k t q. inl q)))
    (λ k t q. elim q [ inl there ↦ inl (inl there) | inr s ↦ loop_kinds P site token bounded advances quiet k t s.0 s.1 ])
    (best_noted P1 _ kind.MixedLoop token _ (best_noted P _ kind.NoMax token l h))
best_judged P site (Uses name what) l h =
    let P1 : RuleKind → ℕ → Type 0 = With P (used site name what kind.Unknown) kind.Unknown name.token in
    let P2 : RuleKind → ℕ → Type 0 = With P1 (used site name what kind.WrongKind) kind.WrongKind name.token in
    let P3 : RuleKind → ℕ → Type 0 = With P2 (used site name what kind.NotOwner) kind.NotOwner name.token in
    let P4 : RuleKind → ℕ → Type 0 = With P3 (used site name what kind.NotReceiver) kind.NotReceiver name.token in
    best_same (Five P site name what) (At P site (Uses name what)) _
    (with_at P P4 site (Uses name what) kind.CallsDown (with_at P P3 site (Uses name what) kind.NotReceiver (with_at P P2 site (Uses name what) kind.NotOwner (with_at P P1 site (Uses name what) kind.WrongKind (with_at P P site (Uses name what) kind.Unknown (λ k t q. inl q))))))
    (λ k t q. elim q [ inl there ↦ inl (inl (inl (inl (inl there)))) | inr s ↦ use_kinds P site name what k t s.0 s.1 ])
    (best_noted P4 _ kind.CallsDown name.token _ (best_noted P3 _ kind.NotReceiver name.token _ (best_noted P2 _ kind.NotOwner name.token _ (best_noted P1 _ kind.WrongKind name.token _ (best_noted P _ kind.Unknown name.token l h)))))

-- ---- over all places

-- The faults that there are, and those of more places
abbrev pub Over : (RuleKind → ℕ → Type 0) → List Sited → RuleKind → ℕ → Type 0
Over P ps k t = P k t ⊎ ((p : Sited) × Among p ps × (is_fault k p.site p.place ≡ true) × (t ≡ token_of p.place))

best_sited : (P : RuleKind → ℕ → Type 0) (ps : List Sited) (l : Option RuleAt) → Best P l → Best (Over P ps) (judged_sited ps l)
best_sited P [] l h = best_same P (Over P []) l (λ k t q. inl q) (λ k t q. elim q [ inl there ↦ there | inr s ↦ absurd s.1 ]) h
best_sited P (p ∷ ps) l h =
    best_same (Over (At P p.site p.place) ps) (Over P (p ∷ ps)) (judged_sited (p ∷ ps) l)
    (λ k t q. elim q [
      | inl here ↦ elim here [ inl there ↦ inl there | inr s ↦ inr (p, inl refl, s.0, s.1) ]
      | inr s ↦ inr (s.0, inr s.1, s.2, s.3)
    ])
    (λ k t q. elim q [
      | inl there ↦ inl (inl there)
      | inr s ↦ elim s.1 [
        | inl same ↦ (let R : Sited → Type 0 = λ x. (is_fault k x.site x.place ≡ true) × (t ≡ token_of x.place) in inl (inr (subst R same (s.2, s.3))))
        | inr more ↦ inr (s.0, more, s.2, s.3)
      ]
    ])
    (best_sited (At P p.site p.place) ps (judged p.site p.place l) (best_judged P p.site p.place l h))

abbrev pub Nothing : RuleKind → ℕ → Type 0
Nothing k t = ⊥

verdict_of : (raw : Raw) (l : Option RuleAt) → Best (Over Nothing (places raw)) l → Verdict raw l
verdict_of raw None h = λ k t f. h k t (inr (f.0, among f.0 (places raw) f.1, f.2, sym f.3))
verdict_of raw (Some f) h = record {
  present = elim h.0 [ inl none ↦ absurd none | inr s ↦ (s.0, contains s.0 (places raw) s.1, s.2, sym s.3) ];
  least = λ k t g. h.1 k t (inr (g.0, among g.0 (places raw) g.1, g.2, sym g.3));
}

-- What is noted over all places of a program is its least fault, or there is none.
pub best_of : (raw : Raw) (l : Option RuleAt) → l ≡ judged_sited (places raw) None → Verdict raw l
best_of raw l e = verdict_of raw l (let B : Option RuleAt → Type 0 = Best (Over Nothing (places raw)) in subst B (sym e) (best_sited Nothing (places raw) None (λ k t h. h)))
