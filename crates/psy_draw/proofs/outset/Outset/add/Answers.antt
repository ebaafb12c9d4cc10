-- What is left of the proof of `outset::Outset::add`.
use Rattle.std.proofs.Common.{◌+◌, ◌-◌, ◌^◌, [], ◌∷◌, ◌++◌, cond, map, max, min, sym, ap, ◌∙◌}
use Rattle.std.specs.Prelude.{string_bytes}
use Rattle.std.specs.List.{count_by}
use Rattle.std.proofs.lemmas.List.Sums.{fold-append}
use Rattle.psy_draw.specs.Dates.{date_of}
use Rattle.psy_draw.specs.Lanes.{may_have_lane}
use Rattle.psy_draw.proofs.Fed.{count_bounded, count_more}
use Rattle.psy_draw.proofs.outset.Outset.add.Goals as goal

pub returns-clause-counts : goal.returns-clause-counts
returns-clause-counts c = λ notes counts.
    let old = c.args.self.now in
    let note = c.args.note.now in
    let tells = may_have_lane (map string_bytes c.args.names.now) in
    record {
      last = c.max-self.ensures ∙ ap (λ d. max d old.last) c.date_of.ensures ∙ ap (max (date_of note)) counts.last
          ∙ sym (fold-append (λ last n. max (date_of n) last) 0 notes (note ∷ []));
      lanes = count_bounded (2 ^ 64 - 1) old.lanes (count_by tells notes) (cond (tells note) 1 0) c.saturating_add-self.result (count_by tells (notes ++ note ∷ []))
          counts.lanes (count_more tells notes note) (c.saturating_add-self.ensures ∙ ap (λ k. min (old.lanes + k) (2 ^ 64 - 1)) c.lanes_of.ensures);
      firsts = c.add.ensures.told notes counts.firsts;
    }
