-- What is left of the proof of `shared::Shared::new`.
use Rattle.std.proofs.Common.{ℕ, ◌<◌, ◌≤◌, false, List, [], All, length, get_or, Option, Some, refl, sym, ap, subst, ◌∙◌}
use Rattle.std.specs.Prelude.{map, pos, replicate, ℤ}
use Rattle.psy_base.specs.declared.limits.TheConstants.{RING}
use Rattle.psy_tree.specs.declared.unit.VarDecl.{VarDecl}
use Rattle.psy_meaning.specs.KnownWays.{Listed}
use Rattle.psy_dates.specs.Calendars.{AreNext}
use Rattle.psy_dates.proofs.Opened.{first_stands, ring_places}
use Rattle.psy_dates.proofs.shared.Shared.new.Goals as goal

pub first_rings-requires-clause-places : goal.first_rings-requires-clause-places
first_rings-requires-clause-places c =
    subst (All (λ size. (1 ≤ size) × (size ≤ RING))) (sym c.as_slice-2.ensures) (ring_places c.args.plan.now (Listed c.requires.plan.ways) c.requires.plan.fits.bare c.requires.plan.buffers)

pub returns-clause-stands : goal.returns-clause-stands
returns-clause-stands c stalls =
    first_stands c.args.plan.now c.args.inputs.lists stalls _ (Listed c.requires.plan.ways) c.requires.plan.buffers (record {
      date = refl;
      seated = c.in_ok-first_seats.ensures.0 ∙ c.len-2.ensures;
      waiting = c.in_ok-first_seats.ensures.1;
      committed = c.in_ok-first_values-2.ensures ∙ ap (map (λ v. v.init)) c.as_slice-6.ensures;
      ended = c.in_ok-first_values.ensures ∙ ap (map (λ v. v.init)) c.as_slice-5.ensures;
      ringed = c.in_ok-first_rings.ensures.count ∙ ap length c.as_slice.ensures;
      rings = λ variable l.
          c.in_ok-first_rings.ensures.filled variable (subst (λ xs. variable < length xs) (sym c.as_slice.ensures) l)
          ∙ ap (λ xs. filled c.as_slice-2.result.now xs variable) c.as_slice.ensures
          ∙ ap (λ xs. filled xs c.args.plan.now.unit.variables variable) c.as_slice-2.ensures;
      queued = c.in_ok-first_queues.ensures.count ∙ ap length c.as_slice-3.ensures;
      queues = λ stream l. c.in_ok-first_queues.ensures.empty stream (subst (λ xs. stream < length xs) (sym c.as_slice-3.ensures) l) ∙ ap (λ xs. Some (record { size = get_or xs stream 0; messages = [] })) c.as_slice-3.ensures;
      boxed = c.in_ok-first_outboxes.ensures.count ∙ ap length c.as_slice-4.ensures;
      outboxes = λ agent l. c.in_ok-first_outboxes.ensures.empty agent (subst (λ xs. agent < length xs) (sym c.as_slice-4.ensures) l) ∙ ap (λ xs. Some (record { size = get_or xs agent 0; sends = [] })) c.as_slice-4.ensures;
      taking = c.in_ok-first_takes.ensures.0 ∙ c.len.ensures;
      taken = c.in_ok-first_takes.ensures.1;
      calendar = record {
        count = c.in_ok-new.ensures.count ∙ ap length c.as_slice-7.ensures;
        nexts = subst (λ clocks. AreNext clocks 0 c.in_ok-new.field-0) c.as_slice-7.ensures c.in_ok-new.ensures.nexts;
      };
      movers = c.in_ok-new-2.ensures ∙ ap (λ n. record { moved = record { size = n; agents = [] }; least = 0; stopped = false }) c.len-3.ensures;
    })
  where
    filled : List ℕ → List VarDecl → ℕ → Option (List ℤ)
    filled sizes variables variable = Some (replicate (get_or sizes variable 0) (get_or (map (λ v. v.init) variables) variable (pos 0)))
