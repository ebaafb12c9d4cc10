-- What was taken in of notes in a row.
use Rattle.std.proofs.Common.{◌≡◌, ℕ, true, List, [], ◌∷◌, ◌++◌, Option, map, refl, sym, subst, ◌∙◌}
use Rattle.std.specs.Prelude.{string_bytes}
use Rattle.std.specs.List.{list_all}
use Rattle.std.proofs.lemmas.Bool.{and_parts}
use Rattle.std.proofs.lemmas.List.Folds.{list_all-append}
use Rattle.psy_log.specs.declared.note.Note.{Note}
use Rattle.psy_passes.specs.Telling.{Told, told_nothing, told_more}
use Rattle.psy_draw.specs.Columns.{Dated}
use Rattle.psy_draw.specs.Gathering.{Counts, Gathers, is_known}
use Rattle.psy_draw.specs.Homes.{housed_of}
use Rattle.psy_film.specs.declared.checking.Checking.{Checking}
use Rattle.psy_film.specs.declared.counting.Counting.{Counting}
use Rattle.psy_film.specs.declared.gathering.Gatherer.{Gatherer}
use Rattle.psy_film.specs.declared.matching.Matching.{Matching}
use Rattle.psy_film.specs.declared.source.Source.{Source}
use Rattle.psy_film.specs.Sources.{IsOwn}
use Rattle.psy_film.specs.Walks.{ChecksOn, CountsOn, GathersOn, KnowsMore, LooksThrough, MatchesOn}
use Rattle.psy_match.specs.Silences.{AreStopped, Owning}

-- Whether the notes of a walk are of a program
abbrev pub Matched : Matching → List Note → Matching → Type 0
Matched old notes new = (source : Option Source) → IsOwn source [] old.own → IsOwn source notes new.own

pub matched : (old : Matching) (notes : List Note) (text : List ℕ) (new : Matching) → Told MatchesOn old notes text new → Matched old notes new
matched old _ _ _ told_nothing = λ source own. own
matched old _ _ _ (told_more notes text now note piece next before step) = λ source own. step.own source notes (matched old notes text now before source own)

-- And whether their names are listed
abbrev pub Checked : Checking → List Note → Checking → Type 0
Checked old notes new =
    (new.listed ≡ old.listed) × ((source : Option Source) → IsOwn source [] old.own → IsOwn source notes new.own)
    × (LooksThrough old.listed.now [] old.notes old.unlisted → LooksThrough old.listed.now notes new.notes new.unlisted)

pub checked : (old : Checking) (notes : List Note) (text : List ℕ) (new : Checking) → Told ChecksOn old notes text new → Checked old notes new
checked old _ _ _ told_nothing = (refl, λ source own. own, λ looks. looks)
checked old _ _ _ (told_more notes text now note piece next before step) =
    let so_far = checked old notes text now before in
    let names = subst (λ listed. LooksThrough listed.now notes now.notes now.unlisted → LooksThrough listed.now (notes ++ note ∷ []) next.notes next.unlisted)
    so_far.0 (step.names notes) in
    (step.listed ∙ so_far.0, λ source own. step.own source notes (so_far.1 source own), λ looks. names (so_far.2 looks))

-- What is known of the notes of a walk
abbrev pub Counted : Counting → List Note → Counting → Type 0
Counted old notes new =
    (new.names ≡ old.names) × (new.from ≡ old.from) × (new.outset.firsts.names ≡ old.outset.firsts.names)
    × (Counts (map string_bytes old.names.now) old.from [] old.outset → Counts (map string_bytes old.names.now) old.from notes new.outset)

pub counted : (old : Counting) (notes : List Note) (text : List ℕ) (new : Counting) → Told CountsOn old notes text new → Counted old notes new
counted old _ _ _ told_nothing = (refl, refl, refl, λ counts. counts)
counted old _ _ _ (told_more notes text now note piece next before step) =
    let so_far = counted old notes text now before in
    let knows : KnowsMore (map string_bytes old.names.now) old.from note now.outset next.outset =
    subst (λ from. KnowsMore (map string_bytes old.names.now) from note now.outset next.outset) so_far.1
    (subst (λ names. KnowsMore (map string_bytes names.now) now.from note now.outset next.outset) so_far.0 step.knows) in
    (step.names ∙ so_far.0, step.from ∙ so_far.1, knows.same ∙ so_far.2, λ counts. knows.counts notes (so_far.3 counts))

-- What is gathered of them
abbrev pub Gathered : Gatherer → List Note → Gatherer → Type 0
Gathered old notes new =
    (new.by ≡ old.by) × (new.from ≡ old.from) × (new.again.firsts.names ≡ old.again.firsts.names)
    × (new.gathering.variables.names ≡ old.gathering.variables.names) × (new.gathering.streams.names ≡ old.gathering.streams.names)
    × (Counts (map string_bytes old.by.names.now) old.from [] old.again → Counts (map string_bytes old.by.names.now) old.from notes new.again)
    × ((values : List ℕ → List Dated) → list_all (is_known old.by.agents.now) notes ≡ true
    → Gathers old.by.scale.now (map housed_of old.by.homes.now) (map string_bytes old.by.names.now) values [] old.gathering
    → Gathers old.by.scale.now (map housed_of old.by.homes.now) (map string_bytes old.by.names.now) values notes new.gathering)
    × ((owning : List Owning) → AreStopped owning [] old.silencing → AreStopped owning notes new.silencing)

pub gathered : (old : Gatherer) (notes : List Note) (text : List ℕ) (new : Gatherer) → Told GathersOn old notes text new → Gathered old notes new
gathered old _ _ _ told_nothing = (refl, refl, refl, refl, refl, λ counts. counts, λ values known gathers. gathers, λ owning stopped. stopped)
gathered old _ _ _ (told_more notes text now note piece next before step) =
    let so_far = gathered old notes text now before in
    let knows : KnowsMore (map string_bytes old.by.names.now) old.from note now.again next.again =
    subst (λ from. KnowsMore (map string_bytes old.by.names.now) from note now.again next.again) so_far.1
    (subst (λ by. KnowsMore (map string_bytes by.names.now) now.from note now.again next.again) so_far.0 step.knows) in (
      step.by ∙ so_far.0,
      step.from ∙ so_far.1,
      knows.same ∙ so_far.2,
      step.variables ∙ so_far.3,
      step.streams ∙ so_far.4,
      λ counts. knows.counts notes (so_far.5 counts),
      λ values known gathers.
          let all = and_parts _ _ (sym (list_all-append (is_known old.by.agents.now) notes (note ∷ [])) ∙ known) in
          let one = and_parts _ _ all.1 in
          let more = subst
          (λ by. is_known by.agents.now note ≡ true → Gathers by.scale.now (map housed_of by.homes.now) (map string_bytes by.names.now) values notes now.gathering
          → Gathers by.scale.now (map housed_of by.homes.now) (map string_bytes by.names.now) values (notes ++ note ∷ []) next.gathering) so_far.0 (step.gathers values notes) in
          more one.0 (so_far.6 values all.0 gathers),
      λ owning stopped. step.stops owning notes (so_far.7 owning stopped),
    )
