-- What is left of the proof of `eyes::EyesLook::ready`.
use Rattle.std.proofs.Common.{rules, ◌≡◌, ◌<◌, Some, length, refl, ap, ◌∙◌, arith}
use Rattle.std.proofs.lemmas.Option.{get_or_from_slice_get, slice_get_within}
use Rattle.psy_code.specs.Views.{found_in}
use Rattle.psy_kernel.specs.declared.eyes.Eyes.{Eyes}
use Rattle.psy_kernel.specs.Looking.{window_of}
use Rattle.psy_kernel.proofs.StreamsLeft.{left_count, messages_are, served}
use Rattle.psy_kernel.proofs.eyes.EyesLook.ready.Goals as goal

pub seen-requires : goal.seen-requires
seen-requires c =
    let eyes : Eyes = c.args.self.now in
    let its = served eyes.scene.now eyes.taken.now.items (window_of eyes).view refl c.args.stream c.requires.0 in
    slice_get_within eyes.scene.now.queues c.args.stream its.queue its.queued

pub index-requires : goal.index-requires
index-requires c =
    let eyes : Eyes = c.args.self.now in
    let its = served eyes.scene.now eyes.taken.now.items (window_of eyes).view refl c.args.stream c.requires.0 in
    let less : c.args.stream < length eyes.taken.now.items = slice_get_within eyes.taken.now.items c.args.stream its.n its.at in
    search rules

pub returns : goal.returns
returns c =
    let eyes : Eyes = c.args.self.now in
    let its = served eyes.scene.now eyes.taken.now.items (window_of eyes).view refl c.args.stream c.requires.0 in
    let place_is : c.index.result.now ≡ its.n = c.index.ensures ∙ get_or_from_slice_get eyes.taken.now.items c.args.stream its.n c.index.result.now its.at in
    ap (λ messages. found_in messages (λ messages. Some (length messages))) (messages_are eyes.scene.now eyes.taken.now.items (window_of eyes).view refl c.args.stream ∙ its.left)
    ∙ ap Some (left_count eyes.scene.now.start its.queue its.n ∙ omega (arith, place_is, c.seen.ensures its.queue its.queued, c.saturating_sub.ensures))
