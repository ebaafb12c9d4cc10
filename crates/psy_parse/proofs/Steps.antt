-- Reading told twice, with turns enough and with more: while the tokens up to the next are the same, both do the same.
-- What was read is a function of what follows, so that its end may be another.
use Rattle.std.proofs.Common.{◌≡◌, ℕ, suc, ◌+◌, ◌<◌, ◌≤◌, List, [], ◌∷◌, ◌++◌, length, Result, Ok, Err, Option, Some, None, cond, refl, sym, ap, subst, ◌∙◌, append_assoc, arith}
use Rattle.std.proofs.lemmas.List.{append-nil}
use Rattle.psy_tree.specs.declared.token.Kind.{Kind}
use Rattle.psy_tree.specs.declared.token.Word.TheVariants as words
use Rattle.psy_tree.specs.declared.token.Sign.TheVariants as signs
use Rattle.psy_tree.specs.declared.raw.Raw.{Raw}
use Rattle.psy_tree.specs.declared.raw.Lit.{Lit}
use Rattle.psy_tree.specs.declared.raw.Item.{Item}
use Rattle.psy_tree.specs.Grammar.{Numbered, numeral, word, sign, Program}
use Rattle.psy_parse.specs.Reading.{◌>>=◌, given, stuck, is_end}

-- What was read, as a function of what follows
abbrev pub Front : Type 0
Front = List Numbered → List Numbered

-- What follows stands at its end
abbrev pub IsFront : Front → Type 0
IsFront front = (us : List Numbered) → front us ≡ front [] ++ us

pub both_fronts : (mid front : Front) → IsFront mid → IsFront front → IsFront (λ us. mid (front us))
both_fronts mid front m f us = m (front us) ∙ ap (λ (vs : List Numbered). mid [] ++ vs) (f us) ∙ sym (append_assoc (mid []) (front []) us) ∙ ap (λ (vs : List Numbered). vs ++ us) (sym (m (front [])))

-- The same token is next
pub data SameHead : List Numbered → List Numbered → Type 0 where
  same_head : {t : Numbered} {us vs : List Numbered} → SameHead (t ∷ us) (t ∷ vs)

same_behind : (front : List Numbered) {us vs : List Numbered} → SameHead us vs → SameHead (front ++ us) (front ++ vs)
same_behind [] h = h
same_behind (t ∷ front) h = same_head

pub same_front : (front : Front) → IsFront front → {us vs : List Numbered} → SameHead us vs → SameHead (front us) (front vs)
same_front front f {us = us} {vs = vs} h =
    subst (λ (xs : List Numbered). SameHead xs (front vs)) (sym (f us)) (subst (λ (xs : List Numbered). SameHead (front [] ++ us) xs) (sym (f vs)) (same_behind (front []) h))

-- The tokens of a text spell the tree
pub data IsText : Raw → List Numbered → Type 0 where
  text : {quantum : Lit} {items : List Item} {n a : ℕ} {ts : List Numbered} → Program ts items
      → IsText (record { quantum = quantum; items = items }) (word n words.Tick ∷ numeral quantum ∷ sign a signs.Semicolon ∷ ts)

-- The tokens of these kinds, with their numbers from n on
abbrev pub numbers : ℕ → List Kind → List Numbered
numbers n [] = []
numbers n (kind ∷ kinds) = (n, kind) ∷ numbers (suc n) kinds

-- Whatever the number of the next token, something behind what was read makes it a text
abbrev pub CanEnd : Front → Type 0
CanEnd front = (n : ℕ) → (kinds : List Kind) × (raw : Raw) × IsText raw (front (numbers n kinds))

-- With this token next
pub through : (front : Front) (kind : Kind) → ((n : ℕ) → CanEnd (λ us. front ((n, kind) ∷ us))) → CanEnd front
through front kind h n = let rest = h n (suc n) in (kind ∷ rest.0, rest.1, rest.2)

-- Nothing is claimed
abbrev pub Anything : List Numbered → Type 0
Anything us = Unit {0}

-- The relation holds whatever follows
abbrev pub Whatever : {A : Type 0} → (List Numbered → A → List Numbered → Type 0) → Front → A → Type 0
Whatever R mid x = (rest : List Numbered) → R (mid rest) x rest

-- Whatever of this kind was read behind pre can be completed
abbrev pub Ends : {A : Type 0} → Front → (Front → A → Type 0) → Type 0
Ends {A = A} pre R = (mid : Front) (x : A) → R mid x → CanEnd (λ us. pre (mid us))

-- What reading ts gives, behind pre, where the other reading does the same while the tokens up to the next are the same
pub data Read {A : Type 0} (pre : Front) (R : Front → A → Type 0) (E : List Numbered → Type 0) (ts : List Numbered)
    (other : List Numbered → Result (A × List Numbered) ℕ) (takes : ℕ) : Result (A × List Numbered) ℕ → Type 0 where
  done : {mid : Front} {x : A} {rest : List Numbered} → IsFront mid → ts ≡ mid rest → takes + length rest ≤ length ts → R mid x → E rest
      → ((us : List Numbered) → SameHead rest us → other (mid us) ≡ Ok (x, us)) → Read pre R E ts other takes (Ok (x, rest))
  failed : {mid : Front} {rest : List Numbered} → IsFront mid → ts ≡ mid rest → CanEnd (λ us. pre (mid us))
      → ((us : List Numbered) → SameHead rest us → other (mid us) ≡ Err (length us)) → Read pre R E ts other takes (Err (length rest))

-- Behind mid, of which c tokens at least were taken, reading goes on with k, and the other with k', where F holds of what follows
pub record Step {A : Type 0} (pre : Front) (R : Front → A → Type 0) (E : List Numbered → Type 0) (ts : List Numbered)
    (other : List Numbered → Result (A × List Numbered) ℕ) (takes bound : ℕ) (mid : Front) (c : ℕ) (F : List Numbered → Type 0)
    (k k' : List Numbered → Result (A × List Numbered) ℕ) : Type 0 where
  pub hope : CanEnd (λ us. pre (mid us))
  pub go : (us : List Numbered) → IsFront mid → ts ≡ mid us → c + length us ≤ length ts → length ts < bound → F us
      → ((vs : List Numbered) → SameHead us vs → other (mid vs) ≡ k' vs) → Read pre R E ts other takes (k us)

-- A part of the text, wherever it begins
abbrev pub Part : {A : Type 0} → (Front → A → Type 0) → (List Numbered → Type 0) → ℕ → ℕ → (k k' : List Numbered → Result (A × List Numbered) ℕ) → Type 0
Part R E takes bound k k' = (pre : Front) → Ends pre R → (ts : List Numbered) → Step pre R E ts k' takes bound (λ us. us) 0 Anything k k'

-- A token that may be next: what is found of it, or nothing while that token is next
pub data Seen {X J : Type 0} (peek : List Numbered → Option X) (token : J → Numbered) (found : J → List Numbered → X) : List Numbered → Option X → Type 0 where
  here : (j : J) {us : List Numbered} → Seen peek token found (token j ∷ us) (Some (found j us))
  elsewhere : {us : List Numbered} → peek us ≡ None → ((vs : List Numbered) → SameHead us vs → peek vs ≡ None) → Seen peek token found us None

-- It is found where it is next, and nothing while another token is
pub record Looks {X J : Type 0} (peek : List Numbered → Option X) (token : J → Numbered) (found : J → List Numbered → X) : Type 0 where
  pub finds : (j : J) (us : List Numbered) → peek (token j ∷ us) ≡ Some (found j us)
  pub seen : (us : List Numbered) → Seen peek token found us (peek us)

-- A token that has to be next
pub data Met {X J : Type 0} (read : List Numbered → Result X ℕ) (token : J → Numbered) (found : J → List Numbered → X) : List Numbered → Result X ℕ → Type 0 where
  met : (j : J) {us : List Numbered} → Met read token found (token j ∷ us) (Ok (found j us))
  missed : {us : List Numbered} → ((vs : List Numbered) → SameHead us vs → read vs ≡ Err (length vs)) → Met read token found us (Err (length us))

-- It is read where it is next, and reading is stuck while another token is
pub record Meets {X J : Type 0} (read : List Numbered → Result X ℕ) (token : J → Numbered) (found : J → List Numbered → X) : Type 0 where
  pub finds : (j : J) (us : List Numbered) → read (token j ∷ us) ≡ Ok (found j us)
  pub meets : (us : List Numbered) → Met read token found us (read us)

-- A list whose front was read before
pub data Listed {A : Type 0} (L : Front → List A → Type 0) (front : List A) (mid : Front) : List A → Type 0 where
  listed : {others : List A} → L mid others → Listed L front mid (front ++ others)

module _ {A : Type 0} {L : Front → List A → Type 0} (front : List A) where
  pub nothing_listed : {mid : Front} → L mid [] → Listed L front mid front
  nothing_listed {mid = mid} none = subst (λ (all : List A). Listed L front mid all) (append-nil front) (listed none)

  pub one_listed : (x : A) (one : Front) {mid : Front} {all : List A} → ((others : List A) → L mid others → L (λ us. one (mid us)) (x ∷ others))
      → Listed L (front ++ x ∷ []) mid all → Listed L front (λ us. one (mid us)) all
  one_listed x one {mid = mid} step (listed {others = others} l) =
      subst (λ (all : List A). Listed L front (λ us. one (mid us)) all) (sym (append_assoc front (x ∷ []) others)) (listed (step others l))

module _ {A : Type 0} {pre : Front} {R : Front → A → Type 0} {E : List Numbered → Type 0} {ts : List Numbered}
    {other : List Numbered → Result (A × List Numbered) ℕ} {takes : ℕ} {mid : Front} (bound c : ℕ) where
  bound_by : {B : Type 0} {S : Front → B → Type 0} {G : List Numbered → Type 0} {least : ℕ} {g' : List Numbered → Result (B × List Numbered) ℕ}
      (f f' : B × List Numbered → Result (A × List Numbered) ℕ)
      → ((m : Front) (y : B) → S m y → Step pre R E ts other takes bound (λ us. mid (m us)) (c + least) G (λ us. f (y, us)) (λ us. f' (y, us)))
      → (us : List Numbered) → IsFront mid → ts ≡ mid us → c + length us ≤ length ts → length ts < bound
      → ((vs : List Numbered) → SameHead us vs → other (mid vs) ≡ g' vs >>= f')
      → (r : Result (B × List Numbered) ℕ) → Read (λ vs. pre (mid vs)) S G us g' least r → Read pre R E ts other takes (r >>= f)
  bound_by f f' h us front is len lt alike _ (done {mid = m} {x = y} {rest = rest} inner at short s held again) =
      (h m y s).go rest (both_fronts mid m front inner) (is ∙ ap mid at) (omega arith) lt held
      (λ vs head. alike (m vs) (subst (λ (xs : List Numbered). SameHead xs (m vs)) (sym at) (same_front m inner head)) ∙ ap (λ r. r >>= f') (again vs head))
  bound_by f f' h us front is len lt alike _ (failed {mid = m} {rest = rest} inner at hope again) =
      failed (both_fronts mid m front inner) (is ∙ ap mid at) hope
      (λ vs head. alike (m vs) (subst (λ (xs : List Numbered). SameHead xs (m vs)) (sym at) (same_front m inner head)) ∙ ap (λ r. r >>= f') (again vs head))

  ended_by : {S : Front → A → Type 0} {G : List Numbered → Type 0} {least : ℕ} {g' : List Numbered → Result (A × List Numbered) ℕ}
      → takes ≤ c + least → ((us : List Numbered) → G us → E us) → ((m : Front) (x : A) → S m x → R (λ us. mid (m us)) x)
      → (us : List Numbered) → IsFront mid → ts ≡ mid us → c + length us ≤ length ts
      → ((vs : List Numbered) → SameHead us vs → other (mid vs) ≡ g' vs)
      → (r : Result (A × List Numbered) ℕ) → Read (λ vs. pre (mid vs)) S G us g' least r → Read pre R E ts other takes r
  ended_by enough ended whole us front is len alike _ (done {mid = m} {x = y} {rest = rest} inner at short s held again) =
      done (both_fronts mid m front inner) (is ∙ ap mid at) (omega arith) (whole m y s) (ended rest held)
      (λ vs head. alike (m vs) (subst (λ (xs : List Numbered). SameHead xs (m vs)) (sym at) (same_front m inner head)) ∙ again vs head)
  ended_by enough ended whole us front is len alike _ (failed {mid = m} {rest = rest} inner at hope again) =
      failed (both_fronts mid m front inner) (is ∙ ap mid at) hope
      (λ vs head. alike (m vs) (subst (λ (xs : List Numbered). SameHead xs (m vs)) (sym at) (same_front m inner head)) ∙ again vs head)

  met_by : {X J : Type 0} (read : List Numbered → Result X ℕ) (token : J → Numbered) (found : J → List Numbered → X) (f f' : X → Result (A × List Numbered) ℕ)
      → Meets read token found → CanEnd (λ us. pre (mid us))
      → ((j : J) → Step pre R E ts other takes bound (λ us. mid (token j ∷ us)) (suc c) Anything (λ us. f (found j us)) (λ us. f' (found j us)))
      → (us : List Numbered) → IsFront mid → ts ≡ mid us → c + length us ≤ length ts → length ts < bound
      → ((vs : List Numbered) → SameHead us vs → other (mid vs) ≡ read vs >>= f')
      → (r : Result X ℕ) → Met read token found us r → Read pre R E ts other takes (r >>= f)
  met_by read token found f f' m hope h _ front is len lt alike _ (met j {us = us}) =
      (h j).go us (both_fronts mid (λ vs. token j ∷ vs) front (λ _. refl)) is (omega arith) lt tt
      (λ vs head. alike (token j ∷ vs) same_head ∙ ap (λ r. r >>= f') (m.finds j vs))
  met_by read token found f f' m hope h us front is len lt alike _ (missed none) =
      failed front is hope (λ vs head. alike vs head ∙ ap (λ r. r >>= f') (none vs head))

  seen_by : {X J : Type 0} {F : List Numbered → Type 0} (peek : List Numbered → Option X) (token : J → Numbered) (found : J → List Numbered → X)
      (f f' : X → Result (A × List Numbered) ℕ) (g g' : List Numbered → Result (A × List Numbered) ℕ)
      → Looks peek token found
      → ((j : J) (us : List Numbered) → F (token j ∷ us) → Step pre R E ts other takes bound (λ us. mid (token j ∷ us)) (suc c) Anything (λ us. f (found j us)) (λ us. f' (found j us)))
      → Step pre R E ts other takes bound mid c (λ us. F us × (peek us ≡ None)) g g'
      → (us : List Numbered) → IsFront mid → ts ≡ mid us → c + length us ≤ length ts → length ts < bound → F us
      → ((vs : List Numbered) → SameHead us vs → other (mid vs) ≡ given (peek vs) f' (g' vs))
      → (o : Option X) → Seen peek token found us o → Read pre R E ts other takes (given o f (g us))
  seen_by peek token found f f' g g' m h k _ front is len lt held alike _ (here j {us = us}) =
      (h j us held).go us (both_fronts mid (λ vs. token j ∷ vs) front (λ _. refl)) is (omega arith) lt tt
      (λ vs head. alike (token j ∷ vs) same_head ∙ ap (λ o. given o f' (g' (token j ∷ vs))) (m.finds j vs))
  seen_by peek token found f f' g g' m h k us front is len lt held alike _ (elsewhere none again) =
      k.go us front is len lt (held, none) (λ vs head. alike vs head ∙ ap (λ o. given o f' (g' vs)) (again vs head))

  ending_by : {F : List Numbered → Type 0} (x : A) (g g' : List Numbered → Result (A × List Numbered) ℕ) → takes ≤ c → E [] → R mid x
      → Step pre R E ts other takes bound mid c F g g'
      → (us : List Numbered) → IsFront mid → ts ≡ mid us → c + length us ≤ length ts → length ts < bound → F us
      → ((vs : List Numbered) → SameHead us vs → other (mid vs) ≡ cond (is_end vs) (Ok (x, vs)) (g' vs))
      → Read pre R E ts other takes (cond (is_end us) (Ok (x, us)) (g us))
  unfolding is_end
  ending_by x g g' enough ended r h [] front is len lt held alike = done front is (omega arith) r ended (λ vs head. elim head [ ])
  ending_by x g g' enough ended r h (t ∷ us) front is len lt held alike = h.go (t ∷ us) front is len lt held alike_again where
    alike_again : (vs : List Numbered) → SameHead (t ∷ us) vs → other (mid vs) ≡ g' vs
    alike_again _ same_head = alike _ same_head

module _ {A : Type 0} {pre : Front} {R : Front → A → Type 0} {E : List Numbered → Type 0} {ts : List Numbered}
    {other : List Numbered → Result (A × List Numbered) ℕ} {takes bound : ℕ} {mid : Front} {c : ℕ} where
  -- the part is read
  pub done_step : {F : List Numbered → Type 0} {x : A} → Ends pre R → takes ≤ c → ((us : List Numbered) → F us → E us) → R mid x
      → Step pre R E ts other takes bound mid c F (λ us. Ok (x, us)) (λ us. Ok (x, us))
  done_step {x = x} ends enough ended r = record {
    hope = ends mid x r;
    go = λ us front is len lt held alike. done front is (omega arith) r (ended us held) alike;
  }

  -- reading can't go on
  pub stuck_step : {F : List Numbered → Type 0} → CanEnd (λ us. pre (mid us)) → Step pre R E ts other takes bound mid c F (λ us. stuck us) (λ us. stuck us)
  stuck_step hope = record {
    hope = hope;
    go = λ us front is len lt held alike. failed front is hope alike;
  }

  -- there are turns enough
  pub out_of_turns : {F : List Numbered → Type 0} {k k' : List Numbered → Result (A × List Numbered) ℕ} → CanEnd (λ us. pre (mid us)) → bound ≤ c
      → Step pre R E ts other takes bound mid c F k k'
  out_of_turns hope le = record {
    hope = hope;
    go = λ us front is len lt held alike. absurd (omega arith);
  }

  -- more may be known of what follows
  pub weaker_step : {F G : List Numbered → Type 0} {k k' : List Numbered → Result (A × List Numbered) ℕ} → ((us : List Numbered) → F us → G us)
      → Step pre R E ts other takes bound mid c G k k' → Step pre R E ts other takes bound mid c F k k'
  weaker_step h s = record {
    hope = s.hope;
    go = λ us front is len lt held alike. s.go us front is len lt (h us held) alike;
  }

  -- the same, told otherwise
  pub same_step : {F : List Numbered → Type 0} {k k' l l' : List Numbered → Result (A × List Numbered) ℕ} → ((us : List Numbered) → k us ≡ l us) → ((us : List Numbered) → k' us ≡ l' us)
      → Step pre R E ts other takes bound mid c F k k' → Step pre R E ts other takes bound mid c F l l'
  same_step e e' s = record {
    hope = s.hope;
    go = λ us front is len lt held alike. subst (λ r. Read pre R E ts other takes r) (e us) (s.go us front is len lt held (λ vs head. alike vs head ∙ sym (e' vs)));
  }

  -- a part, and what follows it
  pub bind_step : {B : Type 0} {F : List Numbered → Type 0} {S : Front → B → Type 0} {G : List Numbered → Type 0} {least enough : ℕ} {g g' : List Numbered → Result (B × List Numbered) ℕ}
      (f f' : B × List Numbered → Result (A × List Numbered) ℕ) → Part S G least enough g g' → bound ≤ c + enough
      → ((m : Front) (y : B) → S m y → Step pre R E ts other takes bound (λ us. mid (m us)) (c + least) G (λ us. f (y, us)) (λ us. f' (y, us)))
      → Step pre R E ts other takes bound mid c F (λ us. g us >>= f) (λ us. g' us >>= f')
  bind_step {g = g} f f' part le h =
      let ends : Ends (λ us. pre (mid us)) _ = λ m y s. (h m y s).hope in
      record {
        hope = (part (λ us. pre (mid us)) ends []).hope;
        go = λ us front is len lt held alike.
            bound_by bound c f f' h us front is len lt alike (g us) ((part (λ us. pre (mid us)) ends us).go us (λ _. refl) refl (omega arith) (omega arith) tt (λ _ _. refl));
      }

  -- a part with which the reading ends
  pub last_step : {F : List Numbered → Type 0} {S : Front → A → Type 0} {G : List Numbered → Type 0} {least enough : ℕ} {g g' : List Numbered → Result (A × List Numbered) ℕ}
      → Ends pre R → Part S G least enough g g' → bound ≤ c + enough → takes ≤ c + least → ((us : List Numbered) → G us → E us)
      → ((m : Front) (x : A) → S m x → R (λ us. mid (m us)) x) → Step pre R E ts other takes bound mid c F g g'
  last_step {g = g} ends part le enough ended whole =
      let inner : Ends (λ us. pre (mid us)) _ = λ m x s. ends (λ us. mid (m us)) x (whole m x s) in
      record {
        hope = (part (λ us. pre (mid us)) inner []).hope;
        go = λ us front is len lt held alike.
            ended_by bound c enough ended whole us front is len alike (g us) ((part (λ us. pre (mid us)) inner us).go us (λ _. refl) refl (omega arith) (omega arith) tt (λ _ _. refl));
      }

  -- a token that has to be next
  pub must_step : {X J : Type 0} {F : List Numbered → Type 0} (read : List Numbered → Result X ℕ) (token : J → Numbered) (found : J → List Numbered → X) (f f' : X → Result (A × List Numbered) ℕ)
      → Meets read token found → CanEnd (λ us. pre (mid us))
      → ((j : J) → Step pre R E ts other takes bound (λ us. mid (token j ∷ us)) (suc c) Anything (λ us. f (found j us)) (λ us. f' (found j us)))
      → Step pre R E ts other takes bound mid c F (λ us. read us >>= f) (λ us. read us >>= f')
  must_step read token found f f' m hope h = record {
    hope = hope;
    go = λ us front is len lt held alike. met_by bound c read token found f f' m hope h us front is len lt alike (read us) (m.meets us);
  }

  -- a token, or else; what is known of the tokens goes on
  pub given_step_with : {X J : Type 0} {F : List Numbered → Type 0} (peek : List Numbered → Option X) (token : J → Numbered) (found : J → List Numbered → X)
      (f f' : X → Result (A × List Numbered) ℕ) (g g' : List Numbered → Result (A × List Numbered) ℕ)
      → Looks peek token found
      → ((j : J) (us : List Numbered) → F (token j ∷ us) → Step pre R E ts other takes bound (λ us. mid (token j ∷ us)) (suc c) Anything (λ us. f (found j us)) (λ us. f' (found j us)))
      → Step pre R E ts other takes bound mid c (λ us. F us × (peek us ≡ None)) g g'
      → Step pre R E ts other takes bound mid c F (λ us. given (peek us) f (g us)) (λ us. given (peek us) f' (g' us))
  given_step_with peek token found f f' g g' m h k = record {
    hope = k.hope;
    go = λ us front is len lt held alike. seen_by bound c peek token found f f' g g' m h k us front is len lt held alike (peek us) (m.seen us);
  }

  -- a token, or else
  pub given_step : {X J : Type 0} {F : List Numbered → Type 0} (peek : List Numbered → Option X) (token : J → Numbered) (found : J → List Numbered → X)
      (f f' : X → Result (A × List Numbered) ℕ) (g g' : List Numbered → Result (A × List Numbered) ℕ)
      → Looks peek token found
      → ((j : J) → Step pre R E ts other takes bound (λ us. mid (token j ∷ us)) (suc c) Anything (λ us. f (found j us)) (λ us. f' (found j us)))
      → Step pre R E ts other takes bound mid c F g g'
      → Step pre R E ts other takes bound mid c F (λ us. given (peek us) f (g us)) (λ us. given (peek us) f' (g' us))
  given_step peek token found f f' g g' m h k = given_step_with peek token found f f' g g' m (λ j us held. h j) (weaker_step (λ us held. held.0) k)

  -- the end of the text, or else
  pub end_step : {F : List Numbered → Type 0} {x : A} {g g' : List Numbered → Result (A × List Numbered) ℕ} → Ends pre R → takes ≤ c → E [] → R mid x
      → Step pre R E ts other takes bound mid c F g g'
      → Step pre R E ts other takes bound mid c F (λ us. cond (is_end us) (Ok (x, us)) (g us)) (λ us. cond (is_end us) (Ok (x, us)) (g' us))
  end_step {x = x} {g = g} {g' = g'} ends enough ended r h = record {
    hope = ends mid x r;
    go = λ us front is len lt held alike. ending_by bound c x g g' enough ended r h us front is len lt held alike;
  }
