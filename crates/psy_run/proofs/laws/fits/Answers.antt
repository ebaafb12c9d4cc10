-- What is left of the proof of `laws::fits`.
use Rattle.std.proofs.Common.{◌≡◌, [], sym, subst}
use Rattle.psy_history.specs.Compiled.{IsCompiled}
use Rattle.psy_meaning.specs.BufferSizes.{AreSizes}
use Rattle.psy_meaning.specs.KnownWays.{Listed, OfText}
use Rattle.psy_run.specs.Services.{no_inputs}
use Rattle.psy_run.proofs.FittingPlans.{fits_by}
use Rattle.psy_history.proofs.lemmas.NoInputs.{are_no_inputs}
use Rattle.psy_run.proofs.laws.fits.Goals as goal

pub returns : goal.returns
returns c plan ways stated are =
    let unit = plan.unit in
    let text = stated.compiled.text in
    let same : ways.nexts ≡ plan.nexts = c.one_list.ensures.nexts unit ways.nexts plan.nexts are.nexts stated.compiled.followed in
    let compiled : IsCompiled unit plan.code ways.nexts = record { text = text; alike = stated.compiled.alike; followed = are.nexts } in
    let of = c.listed.ensures.known unit ways text are in
    let run = c.compiled.ensures.run unit plan.code ways.nexts (λ agent. []) (no_inputs unit) compiled (are_no_inputs unit) in
    let sizes = (c.listed_sizes.ensures.sizes unit ways plan.sizes text are).1 (subst (λ nexts. AreSizes unit (OfText unit) nexts plan.sizes) (sym same) stated.buffers) in
    record {
      ways = ways;
      fits = fits_by unit plan.code ways stated.compiled.alike of (c.listed.ensures.alike unit ways text are) (λ agent less. c.one_graph.ensures.timed unit ways agent text.bare of less) run;
      nexts = same;
      buffers = subst (λ nexts. AreSizes unit (Listed ways) nexts plan.sizes) same sizes;
      supplied = stated.supplied;
    }
