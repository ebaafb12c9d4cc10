-- What is left of the proof of `files::bytes_of`.
use Rattle.std.proofs.Common.{ap, option_map}
use Rattle.psy_door.proofs.lemmas.FilesLemmas.{named_map}
use Rattle.psy_door.proofs.files.bytes_of.Goals as goal

pub returns-in-None : goal.returns-in-None
returns-in-None c = let e = named_map c.args.name.now c.args.files.now in let f = ap (option_map (λ p. p.1.items)) c.in-None.ensures in cc

pub returns-in-Some : goal.returns-in-Some
returns-in-Some c = let e = named_map c.args.name.now c.args.files.now in let f = ap (option_map (λ p. p.1.items)) c.in-Some.ensures in cc
