-- Reading one part after the other comes to what is cut of them one after the other.
use Rattle.std.proofs.Common.{◌≡◌, ◌∙◌, ℕ, ◌≤◌, List, [], ◌∷◌, ◌++◌, length, Result, Ok, Err, refl, sym, ap, subst, arith}
use Rattle.std.specs.Prelude.{⊤}
use Rattle.psy_snap.specs.declared.fault.ReadError.{ReadError}
use Rattle.psy_snap.specs.Cuts.{At, Cut, cut_each, on_behind}
use Rattle.psy_snap.specs.Faults.{Fault}
use Rattle.psy_snap.specs.Reading.{each_at, go_on}
use Rattle.psy_snap.proofs.Places.{Onward, onward_then}
use Rattle.psy_snap.proofs.Parts.{Fits, fits_then, seen}

-- What is cut of a part: its faults, where it goes on, and what is told to the next
pub record Leg (T : Type 0) : Type 0 where
  pub faults : List Fault
  pub on : At
  pub told : T

-- One leg, and those behind it
abbrev pub joined : {T : Type 0} → Leg T → (T → At → Leg T) → Leg T
joined leg next = record { faults = leg.faults ++ (next leg.told leg.on).faults; on = (next leg.told leg.on).on; told = (next leg.told leg.on).told }

unfoldable pub legs : {F T : Type 0} → (F → T → At → Leg T) → List F → T → At → Leg T
legs leg [] told at = record { faults = []; on = at; told = told }
legs leg (form ∷ forms) told at = joined (leg form told at) (legs leg forms)

-- What reading comes to by a leg, and that what was read shows what is told
abbrev pub Shown : {S T : Type 0} → (S → T → Type 0) → Result (S × List ℕ) ReadError → T → Type 0
Shown Shows (Ok x) told = Shows x.0 told
Shown Shows (Err error) told = ⊤

pub record Leads {S T : Type 0} (Shows : S → T → Type 0) (total len : ℕ) (r : Result (S × List ℕ) ReadError) (leg : Leg T) : Type 0 where
  pub fits : Fits total len r leg.faults leg.on
  pub shows : Shown Shows r leg.told

-- A step reads what a leg cuts.
pub record Follows {F S T : Type 0} (Shows : S → T → Type 0) (step : F → S → List ℕ → Result (S × List ℕ) ReadError) (leg : F → T → At → Leg T) : Type 0 where
  pub onward : (form : F) (told : T) (at : At) → Onward at (leg form told at).faults (leg form told at).on
  pub leads : (total : ℕ) (form : F) (s : S) (told : T) (bytes : List ℕ) → length bytes ≤ total → Shows s told
      → Leads Shows total (length bytes) (step form s bytes) (leg form told (seen total bytes))

pub onward_legs : {F T : Type 0} (leg : F → T → At → Leg T) → ((form : F) (told : T) (at : At) → Onward at (leg form told at).faults (leg form told at).on)
    → (forms : List F) (told : T) (at : At) → Onward at (legs leg forms told at).faults (legs leg forms told at).on
unfolding legs
onward_legs leg onward [] told at = λ later behind. behind
onward_legs leg onward (form ∷ forms) told at =
    onward_then at (leg form told at).on _ (leg form told at).faults _ (onward form told at) (onward_legs leg onward forms (leg form told at).told (leg form told at).on)

shows_then : {S T : Type 0} (Shows : S → T → Type 0) (r : Result (S × List ℕ) ReadError) (next : S → List ℕ → Result (S × List ℕ) ReadError) (told : T)
    → ((s : S) (rest : List ℕ) → r ≡ Ok (s, rest) → Shown Shows (next s rest) told) → Shown Shows (go_on r next) told
shows_then Shows (Ok x) next told behind = behind x.0 x.1 refl
shows_then Shows (Err error) next told behind = tt

pub shown : {S T : Type 0} (Shows : S → T → Type 0) (r : Result (S × List ℕ) ReadError) (told : T) (s : S) (rest : List ℕ) → r ≡ Ok (s, rest) → Shown Shows r told → Shows s told
shown Shows r told s rest is shows = subst (λ q. Shown Shows q told) is shows

-- Where it went on, where something was read
fits_on : {A : Type 0} (total len : ℕ) (r : Result (A × List ℕ) ReadError) (faults : List Fault) (on : At) (a : A) (rest : List ℕ) → r ≡ Ok (a, rest) → Fits total len r faults on
    → (on ≡ seen total rest) × (length rest ≤ len)
fits_on total len r faults on a rest is fits = let there = subst (λ q. Fits total len q faults on) is fits in (there.1, there.2)

pub each_leads : {F S T : Type 0} (Shows : S → T → Type 0) (step : F → S → List ℕ → Result (S × List ℕ) ReadError) (leg : F → T → At → Leg T) → Follows Shows step leg
    → (total : ℕ) (forms : List F) (s : S) (told : T) (bytes : List ℕ) → length bytes ≤ total → Shows s told
    → Leads Shows total (length bytes) (each_at step forms s bytes) (legs leg forms told (seen total bytes))
unfolding legs each_at
each_leads Shows step leg follows total [] s told bytes le shows = record { fits = (refl, refl, omega arith); shows = shows }
each_leads Shows step leg follows total (form ∷ forms) s told bytes le shows =
    let first = leg form told (seen total bytes) in
    let leads : Leads Shows total (length bytes) (step form s bytes) first = follows.leads total form s told bytes le shows in
    let later : (t : _) (rest : List ℕ) → step form s bytes ≡ Ok (t, rest)
    → Leads Shows total (length rest) (each_at step forms t rest) (legs leg forms first.told first.on) =
    λ t rest is.
    let (on, less) = fits_on total (length bytes) (step form s bytes) first.faults first.on t rest is leads.fits in
    subst (λ on. Leads Shows total (length rest) (each_at step forms t rest) (legs leg forms first.told on)) (sym on)
    (each_leads Shows step leg follows total forms t first.told rest (omega (arith, le, less)) (shown Shows (step form s bytes) first.told t rest is leads.shows)) in
    record {
      fits = fits_then total (length bytes) (step form s bytes) (λ t rest. each_at step forms t rest) first.faults _ first.on _ leads.fits
          (onward_legs leg follows.onward forms first.told first.on) (λ t rest is on less. (later t rest is).fits);
      shows = shows_then Shows (step form s bytes) (λ t rest. each_at step forms t rest) _ (λ t rest is. (later t rest is).shows);
    }

-- ---- parts that are cut one after the other

pub on_legs : {F T : Type 0} (cut : F → At → Cut) (leg : F → T → At → Leg T) → ((form : F) (told : T) (at : At) → (leg form told at).on ≡ (cut form at).on)
    → (forms : List F) (told : T) (at : At) → on_behind (cut_each cut forms at) at ≡ (legs leg forms told at).on
unfolding legs cut_each on_behind
on_legs cut leg same [] told at = refl
on_legs cut leg same (form ∷ forms) told at =
    on_legs cut leg same forms (leg form told at).told (cut form at).on
    ∙ ap (λ on. (legs leg forms (leg form told at).told on).on) (sym (same form told at))
