-- What a program and its inputs tell of a run, where they are given.
use Rattle.std.proofs.Common.{◌≡◌, ◌∙◌, ℕ, ℤ, true, Bor, List, [], ◌∷◌, ◌++◌, Option, None, Some, append-nil, map, refl, ap}
use Rattle.std.specs.List.{flat_map, list_all}
use Rattle.psy_draw.specs.Dates.{last_date}
use Rattle.psy_draw.specs.Gathering.{is_known, undated}
use Rattle.psy_draw.specs.Knowledge.{Knowledge}
use Rattle.psy_draw.specs.Listing.{first_unasked, first_unlisted}
use Rattle.psy_draw.specs.Sayings.{HasSummary}
use Rattle.psy_film.specs.Sources.{AreFedBy, AreFedWith, TakesIn, foreign_by, homes_by, knowledge_by, owning_by}
use Rattle.psy_film.specs.declared.source.Source.{Source}
use Rattle.psy_history.specs.declared.told.Inputs.{Inputs}
use Rattle.psy_log.specs.declared.note.Note.{Note}
use Rattle.psy_log.specs.Forms.{says}
use Rattle.psy_match.specs.Belonging.{Belongs, foreign_in_run}
use Rattle.psy_match.specs.Feeding.{AreFed}
use Rattle.psy_match.specs.Silences.{silence_of, stopped_in}
use Rattle.psy_match.specs.declared.run.Belonging.{Belonging}
use Rattle.psy_tree.specs.declared.unit.Unit.{Unit as Whole}

-- One note more is taken in.
pub takes_in_more : (source : Option Source) (notes : List Note) (n : Note) (old new : Belonging)
    → ((unit : Whole) (notes : List Note) → Belongs unit notes old → Belongs unit (notes ++ n ∷ []) new)
    → TakesIn source notes (Some old) → TakesIn source (notes ++ n ∷ []) (Some new)
takes_in_more None notes n old new more own = absurd own
takes_in_more (Some source) notes n old new more own = more source.unit.now notes own

-- What is known of a run by its program
pub known_so : (source : Option Source) (notes : List Note)
    → ◌≡◌ {A = Knowledge} (record { silences = flat_map silence_of (map (stopped_in notes) (owning_by source)); homes = homes_by source }) (knowledge_by source notes)
known_so None notes = refl
known_so (Some source) notes = refl

-- ---- one summary

abbrev pub OwnSummary : Type 0
OwnSummary = (unit : Whole) (summary some other : List Note) → HasSummary some summary → HasSummary other summary → foreign_in_run unit some ≡ None
    → foreign_in_run unit other ≡ None

pub own_alike : OwnSummary → (source : Option Source) (summary some other : List Note) → HasSummary some summary → HasSummary other summary
    → foreign_by source some ≡ None → foreign_by source other ≡ None
own_alike law None summary some other has also own = refl
own_alike law (Some source) summary some other has also own = law source.unit.now summary some other has also own

-- ---- notes behind those of a run

-- The laws of what inputs publish
abbrev pub Summary : Type 0
Summary = (unit : Whole) (lists : List (List ℤ)) (notes more : List Note) → AreFed unit lists notes more → undated (notes ++ more) ≡ undated notes

abbrev pub Last : Type 0
Last = (unit : Whole) (lists : List (List ℤ)) (notes more : List Note) → AreFed unit lists notes more → last_date (notes ++ more) ≡ last_date notes

abbrev pub Unlisted : Type 0
Unlisted = (unit : Whole) (lists : List (List ℤ)) (notes more : List Note) → foreign_in_run unit notes ≡ None → AreFed unit lists notes more
    → first_unlisted (notes ++ more) ≡ first_unlisted notes

abbrev pub Unasked : Type 0
Unasked = (unit : Whole) (lists : List (List ℤ)) (notes more : List Note) (names : List (List ℕ)) → AreFed unit lists notes more
    → first_unasked (notes ++ more) names ≡ first_unasked notes names

abbrev pub Known : Type 0
Known = (unit : Whole) (lists : List (List ℤ)) (notes more : List Note) (agents : List (List ℕ)) → AreFed unit lists notes more
    → list_all (is_known agents) more ≡ true

-- Where there are none, nothing changes.
none_more : {A : Type 0} (f : List Note → A) (notes more : List Note) → more ≡ [] → f (notes ++ more) ≡ f notes
none_more f notes more none = ap (λ rest. f (notes ++ rest)) none ∙ ap f (append-nil notes)

module _ (notes more : List Note) where
  with_inputs : {A : Type 0} (f : List Note → A) (unit : Whole) (inputs : Option (Bor Inputs))
      → ((lists : List (List ℤ)) → AreFed unit lists notes more → f (notes ++ more) ≡ f notes) → AreFedWith unit inputs notes more → f (notes ++ more) ≡ f notes
  with_inputs f unit None same fed = none_more f notes more fed
  with_inputs f unit (Some inputs) same fed = same inputs.now.lists fed

  -- What stays the same with what inputs publish
  by_source : {A : Type 0} (f : List Note → A)
      → ((unit : Whole) (lists : List (List ℤ)) → foreign_in_run unit notes ≡ None → AreFed unit lists notes more → f (notes ++ more) ≡ f notes)
      → (source : Option Source) → foreign_by source notes ≡ None → AreFedBy source notes more → f (notes ++ more) ≡ f notes
  by_source f same None own fed = none_more f notes more fed
  by_source f same (Some source) own fed = with_inputs f source.unit.now source.inputs (λ lists fed. same source.unit.now lists own fed) fed

  pub same_summary : Summary → (source : Option Source) (summary : List Note) → foreign_by source notes ≡ None → AreFedBy source notes more
      → HasSummary notes summary → HasSummary (notes ++ more) summary
  same_summary law source summary own fed has = ap (map says) (by_source undated (λ unit lists _ fed. law unit lists notes more fed) source own fed) ∙ has

  pub same_last : Last → (source : Option Source) → foreign_by source notes ≡ None → AreFedBy source notes more → last_date (notes ++ more) ≡ last_date notes
  same_last law = by_source last_date (λ unit lists _ fed. law unit lists notes more fed)

  pub same_unlisted : Unlisted → (source : Option Source) → foreign_by source notes ≡ None → AreFedBy source notes more
      → first_unlisted (notes ++ more) ≡ first_unlisted notes
  same_unlisted law = by_source first_unlisted (λ unit lists own fed. law unit lists notes more own fed)

  pub same_unasked : Unasked → (names : List (List ℕ)) (source : Option Source) → foreign_by source notes ≡ None → AreFedBy source notes more
      → first_unasked (notes ++ more) names ≡ first_unasked notes names
  same_unasked law names = by_source (λ ns. first_unasked ns names) (λ unit lists _ fed. law unit lists notes more names fed)

  known_with_inputs : Known → (agents : List (List ℕ)) (unit : Whole) (inputs : Option (Bor Inputs)) → AreFedWith unit inputs notes more
      → list_all (is_known agents) more ≡ true
  known_with_inputs law agents unit None fed = ap (list_all (is_known agents)) fed
  known_with_inputs law agents unit (Some inputs) fed = law unit inputs.now.lists notes more agents fed

  -- No agent is stopped there.
  pub all_known : Known → (agents : List (List ℕ)) (source : Option Source) → AreFedBy source notes more → list_all (is_known agents) more ≡ true
  all_known law agents None fed = ap (list_all (is_known agents)) fed
  all_known law agents (Some source) fed = known_with_inputs law agents source.unit.now source.inputs fed
