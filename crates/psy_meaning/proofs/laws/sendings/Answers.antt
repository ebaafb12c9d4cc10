-- What is left of the proof of `laws::sendings`.
use Rattle.std.specs.List.{Contains}
use Rattle.psy_tree.proofs.lemmas.Among.{among, contains}
use Rattle.psy_meaning.specs.Sendings.{sendings_in}
use Rattle.psy_meaning.specs.Sound.{Each}
use Rattle.psy_meaning.specs.Ways.{Sending, To, unmetered, callee_ways}
use Rattle.psy_meaning.proofs.lemmas.Eaches.{each-among, each-look}
use Rattle.psy_meaning.proofs.NoSends.{callees_keep}
use Rattle.psy_meaning.proofs.SendWays.{keeps_rest}
use Rattle.psy_meaning.proofs.laws.sendings.Goals as goal

pub returns : goal.returns
returns c unit number agent from to met sending sound has way sends =
    let Fine : Sending → Type 0 = Contains (sendings_in agent.stmts) in
    let all : Each Fine (sendings_in agent.stmts) = each-among Fine (sendings_in agent.stmts) (λ x there. contains x (sendings_in agent.stmts) there) in
    let kept : Each Fine met.sends = keeps_rest Fine (callee_ways unit.functions) (callees_keep Fine unit.functions sound.functions) agent.stmts from all (To to) unmetered met way tt in
    each-look Fine met.sends sending kept (among sending met.sends sends)
