-- What is left of the proof of `engine::lines::tell_shown`.
use Rattle.std.proofs.Common.{◌≡◌, ℕ, ◌+◌, ◌-◌, ◌<◌, ◌≤◌, true, false, List, Some, length, refl, subst, ◌∙◌, arith}
use Rattle.psy_dates.specs.Plans.{opened_of}
use Rattle.psy_kernel.specs.Telling.{IsNextTold, IsShownBy}
use Rattle.psy_kernel.proofs.StreamsTold.{shown_on, shown_to}
use Rattle.psy_kernel.proofs.ToldStreams.{at_end, end_of}
use Rattle.psy_kernel.proofs.engine.lines.tell_shown.Goals as goal

pub returns-then-tell_stream : goal.returns-then-tell_stream
returns-then-tell_stream c =
    let unit = c.args.plan.now.unit in
    let next : ℕ = c.streams.next in
    let stream : next - (c.len.result + c.len-2.result) ≡ next - length unit.agents - length unit.variables = omega (arith, c.len.ensures, c.len-2.ensures) in
    let past : length unit.agents + length unit.variables ≤ next = omega (arith, c.streams.invariant.past, c.len.ensures, c.len-2.ensures) in
    let within : next < length unit.agents + length unit.variables + length unit.streams = omega (arith, c.streams-test.true, c.len.ensures, c.len-2.ensures, c.len-3.ensures) in
    record {
      told = λ opening stalls turns stands.
          (let s = opened_of c.args.plan.now opening c.args.shared.now.inputs.lists stalls in
          let is = subst (λ k. IsShownBy s c.args.date k c.streams.behind true c.streams.line c.tell_stream.new.line) stream (c.if-tell_stream.ensures.told opening stalls turns stands) in
          subst (λ (line : List ℕ). IsNextTold s c.args.date (end_of s c.args.date) c.args.place c.args.shown (Some (record { place = next; shown = c.streams.behind + 1 })) line c.tell_stream.new.line) c.streams.invariant.line
          (shown_to s c.args.date c.args.place c.args.shown next c.streams.behind c.streams.line c.tell_stream.new.line past within (c.streams.invariant.told opening stalls turns stands) is));
    }

pub streams-preserved : goal.streams-preserved
streams-preserved c =
    let unit = c.args.plan.now.unit in
    let next : ℕ = c.streams.next in
    let stream : next - (c.len.result + c.len-2.result) ≡ next - length unit.agents - length unit.variables = omega (arith, c.len.ensures, c.len-2.ensures) in
    let past : length unit.agents + length unit.variables ≤ next = omega (arith, c.streams.invariant.past, c.len.ensures, c.len-2.ensures) in
    let within : next < length unit.agents + length unit.variables + length unit.streams = omega (arith, c.streams-test.true, c.len.ensures, c.len-2.ensures, c.len-3.ensures) in
    record {
      past = omega (arith, c.streams.invariant.past);
      within = omega (arith, c.streams-test.true);
      line = c.if-tell_stream.ensures.kept refl ∙ c.streams.invariant.line;
      told = λ opening stalls turns stands.
          (let s = opened_of c.args.plan.now opening c.args.shared.now.inputs.lists stalls in
          let is = subst (λ k. IsShownBy s c.args.date k c.streams.behind false c.streams.line c.tell_stream.new.line) stream (c.if-tell_stream.ensures.told opening stalls turns stands) in
          shown_on s c.args.date c.args.place c.args.shown next c.streams.behind c.streams.line c.tell_stream.new.line past within (c.streams.invariant.told opening stalls turns stands) is);
    }

pub returns : goal.returns
returns c =
    let unit = c.args.plan.now.unit in
    let all : length unit.agents + length unit.variables + length unit.streams ≡ c.streams.next = omega (arith, c.streams-test.false, c.streams.invariant.within, c.len.ensures, c.len-2.ensures, c.len-3.ensures) in
    record {
      told = λ opening stalls turns stands.
          (at_end (opened_of c.args.plan.now opening c.args.shared.now.inputs.lists stalls) c.args.date c.streams.next c.streams.behind all ∙ c.streams.invariant.told opening stalls turns stands, c.streams.invariant.line);
    }
