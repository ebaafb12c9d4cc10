-- What is left of the proof of `filming::drawn`.
use Rattle.std.proofs.Common.{◌≡◌, ◌<◌, ◌++◌, arith, ap, map, refl, sym, subst, ◌∙◌}
use Rattle.std.specs.Prelude.{string_bytes}
use Rattle.std.specs.List.{flat_map}
use Rattle.psy_draw.specs.Gathering.{Counts}
use Rattle.psy_draw.specs.Homes.{housed_of}
use Rattle.psy_draw.specs.Knowledge.{Knowledge}
use Rattle.psy_draw.specs.Pictures.{IsFileOf}
use Rattle.psy_draw.specs.Places.{window_end}
use Rattle.psy_draw.specs.Silences.{silent_of}
use Rattle.psy_match.specs.Silences.{silence_of, stopped_in}
use Rattle.psy_film.specs.Films.{IsLogOf}
use Rattle.psy_film.specs.Sources.{AreFedBy, knowledge_by, owning_by}
use Rattle.psy_film.proofs.Faults.{of_late}
use Rattle.psy_film.proofs.Names.{has_summary, unlisted_same}
use Rattle.psy_film.proofs.Sources.{all_known, known_so, same_last, same_summary, same_unasked, same_unlisted}
use Rattle.psy_film.proofs.filming.drawn.Goals as goal

pub returns-in-Err-clause-cause : goal.returns-in-Err-clause-cause
returns-in-Err-clause-cause g c = of_late _ _ c.args.asked.source _ _ c.in-Err.fault c.in-Err.ensures.late

pub returns-in_default-clause-cause : goal.returns-in_default-clause-cause
returns-in_default-clause-cause g c =
    let source = c.args.asked.source in
    let names = map string_bytes c.args.asked.names.now in
    let counts = c.in-Ok.ensures.counts in
    let notes = counts.0 in
    let log = counts.1 in
    let has = has_summary _ _ _ c.args.ending.summary.now notes c.requires.summary log in
    let own = c.requires.own notes has in
    let more = c.as_slice.result.now in
    let fed = subst (AreFedBy source notes) (sym c.as_slice.ensures.value) (c.in_ok-more.ensures notes counts.2.last) in
    let so_far = subst (λ from. Counts names from notes c.in-Ok.outset) (sym c.first_date.ensures) counts.2 in
    let none = c.in_default.ensures.none refl _ _ (notes ++ more) (c.in_ok-known.ensures.counts notes so_far) in (
      notes,
      record { run = log.run; own = own },
      unlisted_same notes ∙ log.log.listed,
      c.requires.known notes has,
      subst (λ last. window_end c.args.asked.window last < c.args.asked.window.from) (same_last notes more c.fed_alike.ensures.last source own fed) none,
      c.in-Ok.ensures.read,
    )

pub gathered-requires-clause-counts : goal.gathered-requires-clause-counts
gathered-requires-clause-counts g c =
    let names = map string_bytes c.args.asked.names.now in
    let counts = c.in-Ok.ensures.counts in
    let notes = counts.0 in
    let so_far = subst (λ from. Counts names from notes c.in-Ok.outset) (sym c.first_date.ensures) counts.2 in
    let scale = c.in-Some.ensures.scale _ _ (notes ++ c.as_slice.result.now) (c.in_ok-known.ensures.counts notes so_far) in (
      notes,
      subst (λ files. IsLogOf files c.args.name.now c.args.ending.tail.now notes) (sym c.in-Ok.ensures.reel.1) counts.1,
      subst (λ from. Counts names from notes c.in-Ok.outset) (sym scale.from) counts.2,
    )

pub gathered-requires-clause-with_more : goal.gathered-requires-clause-with_more
gathered-requires-clause-with_more g c = λ notes known.
    let names = map string_bytes c.args.asked.names.now in
    let counts = c.in-Ok.ensures.counts in
    let so_far = subst (λ from. Counts names from counts.0 c.in-Ok.outset) (sym c.first_date.ensures) counts.2 in
    let scale = c.in-Some.ensures.scale _ _ (counts.0 ++ c.as_slice.result.now) (c.in_ok-known.ensures.counts counts.0 so_far) in
    let from = scale.from ∙ sym c.first_date.ensures in
    let with_more = c.in_ok-known.ensures.counts notes (subst (λ date. Counts names date notes c.in-Ok.outset) from known) in
    let same = c.as_slice.ensures.value ∙ sym c.as_slice-3.ensures.value in
    subst (λ more. Counts names c.in-Some.scale.from (notes ++ more) c.in_ok-known.known) same
    (subst (λ date. Counts names date (notes ++ c.as_slice.result.now) c.in_ok-known.known) (sym from) with_more)

pub gathered-requires-clause-known : goal.gathered-requires-clause-known
gathered-requires-clause-known g c = λ notes log.
    c.by_summary.ensures.known c.args.listed.now c.args.ending.summary.now notes
    (has_summary _ _ _ c.args.ending.summary.now notes c.requires.summary log) c.requires.listed (unlisted_same notes ∙ log.log.listed)

pub gathered-requires-clause-more : goal.gathered-requires-clause-more
gathered-requires-clause-more g c =
    let source = c.args.asked.source in
    let counts = c.in-Ok.ensures.counts in
    let fed = subst (AreFedBy source counts.0) (sym c.as_slice-3.ensures.value) (c.in_ok-more.ensures counts.0 counts.2.last) in
    all_known counts.0 c.as_slice-3.result.now c.fed_alike.ensures.known c.args.listed.now.agents source fed

pub returns-clause-picture : goal.returns-clause-picture
returns-clause-picture g c =
    let source = c.args.asked.source in
    let names = map string_bytes c.args.asked.names.now in
    let more = c.as_slice-3.result.now in
    let gathers = c.in-Ok-gathered.ensures.gathers in
    let notes = gathers.0 in
    let log = subst (λ files. IsLogOf files c.args.name.now c.args.ending.tail.now notes) c.in-Ok.ensures.reel.1 gathers.1 in
    let has = has_summary _ _ _ c.args.ending.summary.now notes c.requires.summary log in
    let own = c.requires.own notes has in
    let fed = subst (AreFedBy source notes) (sym c.as_slice-3.ensures.value) (c.in_ok-more.ensures notes gathers.2.last) in
    let counts = c.in-Ok.ensures.counts in
    let before = subst (λ from. Counts names from counts.0 c.in-Ok.outset) (sym c.first_date.ensures) counts.2 in
    let from = (c.in-Some.ensures.scale _ _ (counts.0 ++ c.as_slice.result.now) (c.in_ok-known.ensures.counts counts.0 before)).from ∙ sym c.first_date.ensures in
    let known = c.in_ok-known.ensures.counts notes (subst (λ date. Counts names date notes c.in-Ok.outset) from gathers.2) in
    let all = subst (λ ns. Counts names c.first_date.result (notes ++ ns) c.in_ok-known.known) (c.as_slice.ensures.value ∙ sym c.as_slice-3.ensures.value) known in
    let scale = c.in-Some.ensures.scale _ _ (notes ++ more) all in
    let silences = ap (map silent_of) c.as_slice-4.ensures.value
    ∙ c.in-Ok-silences.ensures (owning_by source) notes (gathers.4 (owning_by source) c.in_ok-silencing.ensures) in
    let homes = ap (map housed_of) c.as_slice-2.ensures.value ∙ c.in_ok-homes.ensures in
    let knows : ◌≡◌ {A = Knowledge} (record { silences = map silent_of c.as_slice-4.result.now; homes = map housed_of c.as_slice-2.result.now }) (knowledge_by source notes) =
    ap (λ ss. record { silences = ss; homes = map housed_of c.as_slice-2.result.now }) silences ∙ ap (λ hs. record { silences = flat_map silence_of (map (stopped_in notes) (owning_by source)); homes = hs }) homes
    ∙ known_so source notes in
    record {
      notes = notes;
      more = more;
      run = record { run = log.run; own = own };
      fed = fed;
      picture = record {
        listed = same_unlisted notes more c.fed_alike.ensures.unlisted source own fed ∙ unlisted_same notes ∙ log.log.listed;
        known = same_unasked notes more c.fed_alike.ensures.unasked names source own fed ∙ c.requires.known notes has;
        dated = scale.dated;
        file = subst (λ knowledge. IsFileOf c.args.name.now c.args.asked.window knowledge names (notes ++ more) c.in_ok-picture_of.field-0.items) knows
            (c.in_ok-picture_of.ensures.picture c.args.asked.window (notes ++ more)
            (same_summary notes more c.fed_alike.ensures.summary source c.args.ending.summary.now own fed has) scale gathers.3);
        small = omega (arith, c.in_ok-picture_of.field-0.ok.0, c.in_ok-picture_of.ensures.small);
      };
    }
