-- What is left of the proof of `outset::Outset::add_all`.
use Rattle.std.proofs.Common.{◌∙◌, ◌++◌, append-nil, arith, map, refl, subst, sym, take}
use Rattle.std.specs.Prelude.{string_bytes}
use Rattle.psy_draw.specs.Gathering.{Counts}
use Rattle.psy_draw.proofs.Fed.{all_behind, one_behind}
use Rattle.psy_draw.proofs.outset.Outset.add_all.Goals as goal

pub loop-note-init : goal.loop-note-init
loop-note-init c =
    record {
      names = refl;
      counts = λ notes counts. subst (λ ns. Counts (map string_bytes c.args.names.now) c.args.from ns c.args.self.now) (sym (append-nil notes)) counts;
    }

pub loop-note-preserved : goal.loop-note-preserved
loop-note-preserved c =
    let so_far = c.loop-note.invariant in
    let more = c.args.more.now in
    record {
      names = c.add.ensures.names ∙ so_far.names;
      counts = λ notes counts. one_behind (λ ns. Counts (map string_bytes c.args.names.now) c.args.from ns c.add.new.self) notes more c.loop-note.note-index _
          c.loop-note-test.true (c.add.ensures.counts (notes ++ take c.loop-note.note-index more) (so_far.counts notes counts));
    }

pub returns-clause-counts : goal.returns-clause-counts
returns-clause-counts c = λ notes counts.
    all_behind (λ ns. Counts (map string_bytes c.args.names.now) c.args.from ns c.loop-note.self) notes c.args.more.now c.loop-note.note-index
    (omega (arith, c.loop-note-test.false)) (c.loop-note.invariant.counts notes counts)
