-- Two readings of one text go the same way.
use Rattle.std.proofs.Common.{◌≡◌, ◌≢◌, ⊎_elim, ℕ, suc, ◌≤◌, List, [], ◌∷◌, ◌++◌, None, length, map, refl, sym, ap, subst, ◌∙◌, append_assoc, append-nil, arith}
use Rattle.std.specs.Prelude.{Contains, IsTrue, IsFalse}
use Rattle.psy_log.specs.declared.note.Note.{Note}
use Rattle.psy_log.specs.Forms.{line_of, says}
use Rattle.psy_notes.specs.declared.stand.Stand.{Stand}
use Rattle.psy_notes.specs.Notes.{IsTold}
use Rattle.psy_notes.specs.Stands.{next_stand, may_end}
use Rattle.psy_notes.specs.Texts.{Steps, Leads, text_of, IsText, CannotGoOn, BreaksAt}
use Rattle.psy_notes.specs.Reading.{forms_at}
use Rattle.psy_notes.proofs.Lines.{length-line}
use Rattle.psy_notes.proofs.Apart.{all_apart-at, one_note}
use Rattle.psy_notes.proofs.Nexts.{alike, forms_by}

-- A text that begins with a line isn't empty
pub some_line : (note : Note) (more : List ℕ) → IsTold note → [] ≢ line_of note ++ more
some_line note more told is = omega (arith, length-line note more told, ap length is)

-- What cannot go on has no line that may stand there at its front
stuck : (from : Stand) (text : List ℕ) (note : Note) (to : Stand) (more : List ℕ) → CannotGoOn from text → Steps from note to → text ≡ line_of note ++ more → ⊥
stuck from text note to more cannot steps is = ⊎_elim (λ ended. some_line note more steps.0 (sym ended.0 ∙ is)) (λ none. none.1 note to more steps is) cannot

-- Two notes that may stand at the front of one text lead to one stand
same_step : (from : Stand) (some other : Note) (to on : Stand) (rest more : List ℕ) → Steps from some to → Steps from other on → line_of some ++ rest ≡ line_of other ++ more → (to ≡ on) × (rest ≡ more) × (says some ≡ says other)
same_step from some other to on rest more steps goes is =
    let one = one_note (forms_at from) (all_apart-at from) some other rest more steps.0 goes.0 (forms_by from some to steps.1) (forms_by from other on goes.1) is in
    let next : next_stand from some ≡ next_stand from other = alike from some other one.0 in
    let leads = steps.1 in
    let ends = goes.1 in
    (cc (next, leads, ends), one.1, one.0)

-- The lines of notes, one more in front
front : (note : Note) (notes : List Note) (rest : List ℕ) → text_of (note ∷ notes) ++ rest ≡ line_of note ++ (text_of notes ++ rest)
front note notes rest = append_assoc (line_of note) (text_of notes) rest

-- A whole text breaks nowhere
whole_or_broken : (from : Stand) (notes others : List Note) (last stop : Stand) (rest : List ℕ) → Leads from notes last → Leads from others stop → IsTrue (may_end last) → CannotGoOn stop rest → text_of notes ++ [] ≡ text_of others ++ rest → ⊥
whole_or_broken from [] [] last stop rest leads goes ends cannot is =
    let here : IsTrue (may_end stop) = subst (λ s. IsTrue (may_end s)) (sym leads ∙ goes) ends in
    ⊎_elim (λ ended. let no : IsFalse (may_end stop) = ended.1 in cc (here, no)) (λ none. none.0 (sym is)) cannot
whole_or_broken from [] (other ∷ others) last stop rest leads goes ends cannot is =
    some_line other (text_of others ++ rest) goes.1.0 (is ∙ front other others rest)
whole_or_broken from (note ∷ notes) [] last stop rest leads goes ends cannot is =
    stuck from rest note leads.0 (text_of notes ++ []) (subst (λ s. CannotGoOn s rest) (sym goes) cannot) leads.1 (sym is ∙ front note notes [])
whole_or_broken from (note ∷ notes) (other ∷ others) last stop rest leads goes ends cannot is =
    let same = same_step from note other leads.0 goes.0 (text_of notes ++ []) (text_of others ++ rest) leads.1 goes.1 (sym (front note notes []) ∙ is ∙ front other others rest) in
    whole_or_broken leads.0 notes others last stop rest leads.2 (subst (λ s. Leads s others stop) (sym same.0) goes.2) ends cannot same.1

-- A text breaks behind one number of lines
same_break : (from : Stand) (notes others : List Note) (last stop : Stand) (rest more : List ℕ) → Leads from notes last → Leads from others stop → CannotGoOn last rest → CannotGoOn stop more → text_of notes ++ rest ≡ text_of others ++ more → length notes ≡ length others
same_break from [] [] last stop rest more leads goes cannot ends is = refl
same_break from [] (other ∷ others) last stop rest more leads goes cannot ends is =
    absurd (stuck from rest other goes.0 (text_of others ++ more) (subst (λ s. CannotGoOn s rest) (sym leads) cannot) goes.1 (is ∙ front other others more))
same_break from (note ∷ notes) [] last stop rest more leads goes cannot ends is =
    absurd (stuck from more note leads.0 (text_of notes ++ rest) (subst (λ s. CannotGoOn s more) (sym goes) ends) leads.1 (sym is ∙ front note notes rest))
same_break from (note ∷ notes) (other ∷ others) last stop rest more leads goes cannot ends is =
    let same = same_step from note other leads.0 goes.0 (text_of notes ++ rest) (text_of others ++ more) leads.1 goes.1 (sym (front note notes rest) ∙ is ∙ front other others more) in
    ap suc (same_break leads.0 notes others last stop rest more leads.2 (subst (λ s. Leads s others stop) (sym same.0) goes.2) cannot ends same.1)

pub not_both : (first : Stand) (text : List ℕ) (notes : List Note) (line : ℕ) → IsText first text notes → BreaksAt first text line → ⊥
not_both first text notes line is breaks =
    whole_or_broken first notes breaks.notes is.last breaks.last breaks.rest is.leads breaks.leads is.ends breaks.stuck (simp append-nil (sym is.whole ∙ breaks.cut))

pub one_break : (first : Stand) (text : List ℕ) (line other : ℕ) → BreaksAt first text line → BreaksAt first text other → line ≡ other
one_break first text line other breaks stops =
    let same = same_break first breaks.notes stops.notes breaks.last stops.last breaks.rest stops.rest breaks.leads stops.leads breaks.stuck stops.stuck (sym breaks.cut ∙ stops.cut) in
    omega (arith, same, breaks.number, stops.number)

-- Where no note that is read there stands at the front, no line stands there behind which the text goes on
pub unread : (from : Stand) (text : List ℕ) → ((note : Note) (more : List ℕ) → IsTold note → Contains (forms_at from) (says note).0 → text ≢ line_of note ++ more) → (note : Note) (to : Stand) (more : List ℕ) → Steps from note to → text ≢ line_of note ++ more
unread from text none note to more steps is = none note more steps.0 (forms_by from note to steps.1) is

-- Nor where one stands there that may not
pub unfit : (from : Stand) (text : List ℕ) (some : Note) (rest : List ℕ) → IsTold some → Contains (forms_at from) (says some).0 → text ≡ line_of some ++ rest → next_stand from some ≡ None → (note : Note) (to : Stand) (more : List ℕ) → Steps from note to → text ≢ line_of note ++ more
unfit from text some rest told has is ends note to more steps eq =
    let one = one_note (forms_at from) (all_apart-at from) some note rest more told steps.0 has (forms_by from note to steps.1) (sym is ∙ eq) in
    cc (alike from some note one.0, ends, steps.1)

-- One note more
pub Leads-push : (from : Stand) (notes : List Note) (between : Stand) (note : Note) (to : Stand) → Leads from notes between → Steps between note to → Leads from (notes ++ note ∷ []) to
Leads-push from [] between note to leads steps = (to, subst (λ s. Steps s note to) (sym leads) steps, refl)
Leads-push from (first ∷ notes) between note to leads steps = (leads.0, leads.1, Leads-push leads.0 notes between note to leads.2 steps)

pub text_of-push : (notes : List Note) (note : Note) (rest : List ℕ) → text_of (notes ++ note ∷ []) ++ rest ≡ text_of notes ++ (line_of note ++ rest)
text_of-push [] note rest = simp append-nil
text_of-push (first ∷ notes) note rest = simp append_assoc (ap (λ t. line_of first ++ t) (text_of-push notes note rest))

-- What a whole reading has behind a front of another one
abbrev Behind : List Note → List Note → List ℕ → Stand → Stand → Type 0
Behind notes fronts rest mid last = (more : List Note) × Leads mid more last × (rest ≡ text_of more) × (map says notes ≡ map says fronts ++ map says more)

behind : (from : Stand) (notes fronts : List Note) (last mid : Stand) (rest : List ℕ) → Leads from notes last → Leads from fronts mid
    → text_of notes ≡ text_of fronts ++ rest → Behind notes fronts rest mid last
behind from notes [] last mid rest leads goes is = (notes, subst (λ s. Leads s notes last) goes leads, sym is, refl)
behind from [] (other ∷ fronts) last mid rest leads goes is = absurd (some_line other (text_of fronts ++ rest) goes.1.0 (is ∙ front other fronts rest))
behind from (note ∷ notes) (other ∷ fronts) last mid rest leads goes is =
    let same = same_step from note other leads.0 goes.0 (text_of notes) (text_of fronts ++ rest) leads.1 goes.1 (is ∙ front other fronts rest) in
    let found = behind leads.0 notes fronts last mid rest leads.2 (subst (λ s. Leads s fronts mid) (sym same.0) goes.2) same.1 in
    (found.0, found.1, found.2, ap (λ s. s ∷ map says notes) same.2 ∙ ap (λ ss. says other ∷ ss) found.3)

-- Each note has a byte at least
pub few_notes : (from to : Stand) (notes : List Note) → Leads from notes to → length notes ≤ length (text_of notes)
few_notes from to [] leads = omega arith
few_notes from to (note ∷ notes) leads = omega (arith, length-line note (text_of notes) leads.1.0, few_notes leads.0 to notes leads.2)

pub one_front : (first : Stand) (text : List ℕ) (notes fronts : List Note) (mid : Stand) (rest : List ℕ) → IsText first text notes → Leads first fronts mid → text ≡ text_of fronts ++ rest
    → (more : List Note) × (rest ≡ text_of more) × (length more ≤ length rest) × (map says notes ≡ map says fronts ++ map says more)
one_front first text notes fronts mid rest read leads is =
    let found = behind first notes fronts read.last mid rest read.leads leads (sym read.whole ∙ is) in
    let few : length found.0 ≤ length (text_of found.0) = few_notes mid read.last found.0 found.1 in
    (found.0, found.2, subst (λ t. length found.0 ≤ length t) (sym found.2) few, found.3)
