-- What is left of the proof of `pass::number`.
use Rattle.std.proofs.Common.{◌≤◌, arith}
use Rattle.std.specs.Char.{is_ascii_digit}
use Rattle.std.specs.List.{prefix_len}
use Rattle.std.proofs.lemmas.Bool.Decides.{nat_tests}
use Rattle.psy_text.proofs.lemmas.Runs.{All-run}
use Rattle.psy_token.proofs.pass.number.Goals as goal

pub decimal_value-requires : goal.decimal_value-requires
decimal_value-requires c =
    let within : c.number_len-len.result ≤ prefix_len is_ascii_digit c.args.rest.now = grind (arith, nat_tests, c.number_len-len.ensures.value, c.requires.first) in
    All-run is_ascii_digit c.args.rest.now c.number_len-len.result within
