-- Code that fits a program by lists of ways goes well by them.
use Rattle.std.proofs.Common.{◌≡◌, ℕ, zero, suc, ◌<◌, ◌≤◌, Bool, false, List, [], ◌∷◌, length, get_or, refl, sym, ap, ◌∙◌, inl, inr, arith}
use Rattle.std.specs.Prelude.{◌==◌, ℤ, FitsSigned}
use Rattle.std.specs.Int.{w32}
use Rattle.std.specs.List.{Contains, list_any}
use Rattle.std.proofs.lemmas.Bool.{cases_Bool, or_parts}
use Rattle.std.proofs.lemmas.List.{length-map}
use Rattle.std.proofs.lemmas.Simd.{map-map}
use Rattle.std.proofs.lemmas.List.Elements.{All-contains, All-map}
use Rattle.std.proofs.lemmas.Option.{slice_get-get_or}
use Rattle.psy_base.specs.declared.ways.SendWay.{SendWay}
use Rattle.psy_base.specs.declared.ways.Ways.{Ways as WayLists}
use Rattle.psy_lists.proofs.lemmas.Places.{listed_at}
use Rattle.psy_budget.specs.declared.charge.Stall.{Stall}
use Rattle.psy_code.specs.declared.code.Code.{Code}
use Rattle.psy_code.specs.Execution.{copy_from}
use Rattle.psy_tree.specs.declared.unit.Unit.{Unit as Whole}
use Rattle.psy_tree.specs.Parts.{agent_at}
use Rattle.psy_history.specs.Actions.{System, plain, timing}
use Rattle.psy_history.specs.Compiled.{AreInputs, coded}
use Rattle.psy_meaning.specs.CodeWays.{agent_code_at}
use Rattle.psy_history.specs.Executors.{by_code}
use Rattle.psy_history.specs.Fitting.{FitsBy, undisturbed}
use Rattle.psy_history.specs.Openings.{MayCarry}
use Rattle.psy_history.specs.Runs.{IsRun}
use Rattle.psy_meaning.specs.KnownWays.{HasMost, Listed, any_to, is_sent, most_in}
use Rattle.psy_meaning.specs.Timing.{following}
use Rattle.psy_history.proofs.OpenedRuns.{goes_there}
use Rattle.psy_history.proofs.PlainOpenings.{plain_sound}

-- ---- what no element passes

-- Where none passes, neither does the one at a place, nor does what stands past the end.
fails_at : {X : Type 0} (test : X → Bool) (xs : List X) (i : ℕ) (d : X) → list_any test xs ≡ false → test d ≡ false → test (get_or xs i d) ≡ false
fails_at test [] i d none past = past
fails_at test (x ∷ xs) zero d none past = (or_parts (test x) (list_any test xs) none).0
fails_at test (x ∷ xs) (suc i) d none past = fails_at test xs i d (or_parts (test x) (list_any test xs) none).1 past

-- Where no way sends to a stream, the most to it is nothing.
most_none : (ways : List SendWay) (to stream : ℕ) → list_any (λ (way : SendWay). way.stream == stream) ways ≡ false → most_in ways to stream ≡ 0
most_none [] to stream none = refl
most_none (way ∷ ways) to stream none =
    let (other, rest) = or_parts (way.stream == stream) (list_any (λ (way : SendWay). way.stream == stream) ways) none in
    elim (cases_Bool (way.to == to)) [ inl there ↦ rw (there, other) (most_none ways to stream rest) | inr elsewhere ↦ rw elsewhere (most_none ways to stream rest) ]

module _ (unit : Whole) (code : Code) (ways : WayLists) (stalls : ℕ → List Stall) (inputs : List (List ℤ)) (fits : FitsBy unit code ways) where
  abbrev system : System
  system = coded unit code ways.nexts stalls inputs

  points : (agent point to : ℕ) → agent < length unit.agents → Contains (following (timing system agent) point) to → (1 ≤ to) × (to < length (agent_at unit agent).points)
  points agent point to less c =
      let lists = get_or ways.nexts agent [] in
      let nexts = get_or lists point [] in
      let count : length ways.nexts ≡ length unit.agents = sym (length-map ways.nexts length) ∙ ap length fits.lists.nexts.counts ∙ length-map unit.agents (λ a. length a.points) in
      let are = fits.lists.nexts.each agent point lists nexts (slice_get-get_or ways.nexts agent [] (omega (arith, less, count))) (listed_at lists point to c) in
      All-contains (λ to. (1 ≤ to) × (to < length (agent_at unit agent).points)) nexts to are.known c

  unsent : (agent point to stream : ℕ) → is_sent (Listed ways) stream ≡ false → HasMost (Listed ways) agent point to stream 0
  unsent agent point to stream none =
      let lists = get_or ways.sends agent [] in
      most_none (get_or lists point []) to stream (fails_at (list_any (λ (way : SendWay). way.stream == stream)) lists point [] (fails_at (any_to stream) ways.sends agent [] none refl) refl)

  carries : (agent : ℕ) → agent < length unit.agents → MayCarry unit code agent ((by_code code).first agent)
  carries agent less =
      let its = fits.parts.each agent less in
      let copies = (agent_code_at code agent).copies in
      record {
        cells = refl;
        values = its.cells;
        variables = map-map (λ c. c.variable) copy_from copies ∙ its.copies;
        copies = All-map (λ c. FitsSigned w32 c.value) copy_from copies its.inits;
      }

  pub fitted_run : AreInputs unit inputs → IsRun system (Listed ways) code
  fitted_run given = record {
    bare = fits.bare;
    inits = fits.inits;
    points = points;
    unsent = λ agent point to stream less inside c none. unsent agent point to stream none;
    coded = refl;
    agents = fits.parts.agents;
    inputs = given;
    opened = plain_sound unit code ways.nexts stalls inputs (Listed ways) fits.inits carries;
    runs = λ agent point start carried view less may carries sees.
        goes_there (undisturbed unit code ways.nexts) (plain unit ways.nexts (by_code code)) stalls inputs (Listed ways) code agent point carried view
        (fits.runs agent point start carried view less may carries sees);
  }
