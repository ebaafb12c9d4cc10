-- What is left of the proof of `gathering::Gathering::add_all`.
use Rattle.std.proofs.Common.{◌∙◌, ◌++◌, append-nil, arith, map, refl, subst, sym, take}
use Rattle.std.specs.Prelude.{string_bytes}
use Rattle.psy_lists.proofs.lemmas.Searches.{all_at}
use Rattle.psy_draw.specs.Gathering.{Gathers, is_known}
use Rattle.psy_draw.specs.Homes.{housed_of}
use Rattle.psy_draw.proofs.Fed.{all_behind, one_behind}
use Rattle.psy_draw.proofs.gathering.Gathering.add_all.Goals as goal

pub loop-note-init : goal.loop-note-init
loop-note-init c =
    let scale = c.args.by.scale.now in
    let homes = map housed_of c.args.by.homes.now in
    let names = map string_bytes c.args.by.names.now in
    record {
      variables = refl;
      streams = refl;
      gathers = λ values notes known gathers. subst (λ ns. Gathers scale homes names values ns c.args.self.now) (sym (append-nil notes)) gathers;
    }

pub loop-note-preserved : goal.loop-note-preserved
loop-note-preserved c =
    let scale = c.args.by.scale.now in
    let homes = map housed_of c.args.by.homes.now in
    let names = map string_bytes c.args.by.names.now in
    let more = c.args.more.now in
    let so_far = c.loop-note.invariant in
    record {
      variables = c.in_ok-add.ensures.variables ∙ so_far.variables;
      streams = c.in_ok-add.ensures.streams ∙ so_far.streams;
      gathers = λ values notes known gathers. one_behind (λ ns. Gathers scale homes names values ns c.add.new.self) notes more c.loop-note.note-index _
          c.loop-note-test.true
          (c.in_ok-add.ensures.gathers values (notes ++ take c.loop-note.note-index more)
          (all_at (is_known c.args.by.agents.now) more c.loop-note.note-index _ c.loop-note-test.true known) (so_far.gathers values notes known gathers));
    }

pub returns-clause-gathers : goal.returns-clause-gathers
returns-clause-gathers c = λ values notes known gathers.
    all_behind (λ ns. Gathers c.args.by.scale.now (map housed_of c.args.by.homes.now) (map string_bytes c.args.by.names.now) values ns c.loop-note.self) notes
    c.args.more.now c.loop-note.note-index (omega (arith, c.loop-note-test.false)) (c.loop-note.invariant.gathers values notes known gathers)
