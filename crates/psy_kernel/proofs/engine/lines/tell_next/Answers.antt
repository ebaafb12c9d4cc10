-- What is left of the proof of `engine::lines::tell_next`.
use Rattle.std.proofs.Common.{◌≡◌, ℕ, ◌+◌, ◌<◌, false, get_or, List, Some, length, refl, ap, subst, ◌∙◌, arith}
use Rattle.psy_dates.specs.Plans.{opened_of}
use Rattle.psy_history.specs.Lines.{is_date}
use Rattle.psy_tree.specs.Parts.{clock_in, no_clock, no_variable, variable_at}
use Rattle.psy_kernel.specs.Standing.{told_from}
use Rattle.psy_kernel.specs.Telling.{IsNextTold}
use Rattle.psy_kernel.proofs.PlacesTold.{walked_on, walked_to}
use Rattle.psy_kernel.proofs.Unpublished.{none_published}
use Rattle.psy_kernel.proofs.engine.lines.tell_next.Goals as goal

pub returns-then-told : goal.returns-then-told
returns-then-told c =
    let plan = c.args.plan.now in
    let within : c.walking.at < length plan.unit.agents + length plan.unit.variables = omega (arith, c.walking-test.true, c.len-agents.ensures, c.len.ensures) in
    record {
      told = λ opening stalls turns stands.
          subst (λ (line : List ℕ). IsNextTold (opened_of plan opening c.args.shared.now.inputs.lists stalls) c.args.date (length plan.unit.agents + length plan.unit.variables) c.args.place 0 (Some (record { place = c.walking.at + 1; shown = 0 })) line c.tell_place-told.new.line) c.walking.invariant.line
          (walked_to (opened_of plan opening c.args.shared.now.inputs.lists stalls) c.args.date c.args.place c.walking.at c.walking.line c.tell_place-told.new.line within (c.walking.invariant.told opening stalls turns stands) (c.if-told.ensures.told opening stalls turns stands));
      kept = λ none. absurd (cc);
    }

pub walking-preserved : goal.walking-preserved
walking-preserved c =
    let plan = c.args.plan.now in
    let within : c.walking.at < length plan.unit.agents + length plan.unit.variables = omega (arith, c.walking-test.true, c.len-agents.ensures, c.len.ensures) in
    record {
      within = omega (arith, c.may_tell-at-in-walking.ensures.within.1, c.len-agents.ensures, c.len.ensures);
      line = c.if-told.ensures.kept refl ∙ c.walking.invariant.line;
      told = λ opening stalls turns stands.
          c.may_tell-at-in-walking.ensures.told opening stalls turns stands ∙ walked_on (opened_of plan opening c.args.shared.now.inputs.lists stalls) c.args.date c.args.place c.walking.at c.walking.line c.tell_place-told.new.line within (c.walking.invariant.told opening stalls turns stands) (c.if-told.ensures.told opening stalls turns stands);
    }

pub returns-then-not-any_had-clause-told : goal.returns-then-not-any_had-clause-told
returns-then-not-any_had-clause-told c =
    let unit = c.args.plan.now.unit in
    let clocks = c.as_slice.result.now in
    let none : (clock : ℕ) → clock < length clocks → is_date (get_or clocks clock no_clock) c.args.date ≡ false = c.any_had.ensures.none c.if-not-any_had.true in
    let none_there : (clock : ℕ) → clock < length unit.clocks → is_date (clock_in unit clock) c.args.date ≡ false =
    subst (λ xs. (clock : ℕ) → clock < length xs → is_date (get_or xs clock no_clock) c.args.date ≡ false) c.as_slice.ensures none in
    let without : (variable : ℕ) → variable < length unit.variables → is_date (clock_in unit (variable_at unit variable).clock) c.args.date ≡ false =
    λ variable within. none_there (variable_at unit variable).clock (c.requires.plan.fits.bare.variables variable no_variable within).clock in
    let at : length unit.agents ≡ c.walking.at = omega (arith, c.if-at-agents.true, c.len-agents.ensures) in
    λ opening stalls turns stands.
    (let s = opened_of c.args.plan.now opening c.args.shared.now.inputs.lists stalls in
    (none_published s c.args.date without ∙ ap (λ place. told_from s c.args.date place 0) at ∙ c.walking.invariant.told opening stalls turns stands, c.walking.invariant.line))

pub returns : goal.returns
returns c =
    let plan = c.args.plan.now in
    let all : length plan.unit.agents + length plan.unit.variables ≡ c.walking.at = omega (arith, c.walking-test.false, c.walking.invariant.within, c.len-agents.ensures, c.len.ensures) in
    record {
      told = λ opening stalls turns stands.
          (ap (λ place. told_from (opened_of plan opening c.args.shared.now.inputs.lists stalls) c.args.date place 0) all ∙ c.walking.invariant.told opening stalls turns stands, c.walking.invariant.line);
      kept = λ none. c.walking.invariant.line;
    }
