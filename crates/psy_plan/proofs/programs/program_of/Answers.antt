-- What is left of the proof of `programs::program_of`.
use Rattle.psy_plan.specs.Programs.{IsLexical, IsRefused, IsUnlawful, IsUnparsed, lexing, parsing}
use Rattle.psy_plan.proofs.Courses.{gives_then, stops_first, stops_later}
use Rattle.psy_plan.proofs.lemmas.Stopping.{exit_by}
use Rattle.psy_plan.proofs.programs.program_of.Goals as goal

pub returns-in_err-tokens-clause-refused : goal.returns-in_err-tokens-clause-refused
returns-in_err-tokens-clause-refused c =
    let bytes = c.args.bytes.now in
    exit_by (IsLexical bytes) (IsRefused bytes) (λ refusal. stops_first (lexing bytes) _ refusal) _ _ c.from_residual.ensures.1 c.in_err-tokens.ensures.refused

pub returns-in_err-raw-clause-refused : goal.returns-in_err-raw-clause-refused
returns-in_err-raw-clause-refused c =
    let bytes = c.args.bytes.now in
    let tokens = c.in_ok-tokens.tokens in
    exit_by (IsUnparsed tokens) (IsRefused bytes) (λ refusal stops. stops_later (lexing bytes) _ tokens c.in_ok-tokens.ensures.ok refusal (stops_first (parsing tokens) _ refusal stops)) _ _
    c.from_residual-in_err-raw.ensures.1 c.in_err-raw.ensures.refused

pub returns-in_err-unit-clause-refused : goal.returns-in_err-unit-clause-refused
returns-in_err-unit-clause-refused c =
    let bytes = c.args.bytes.now in
    let tokens = c.in_ok-tokens.tokens in
    let raw = c.in_ok-raw.raw in
    exit_by (IsUnlawful raw) (IsRefused bytes)
    (λ refusal stops. stops_later (lexing bytes) _ tokens c.in_ok-tokens.ensures.ok refusal (stops_later (parsing tokens) _ raw c.in_ok-raw.ensures.ok refusal stops)) _ _
    c.from_residual-in_err-unit.ensures.1 c.in_err-unit.ensures.refused

pub returns-clause-unit : goal.returns-clause-unit
returns-clause-unit c =
    let tokens = c.in_ok-tokens.tokens in
    gives_then (lexing c.args.bytes.now) _ tokens _ c.in_ok-tokens.ensures.ok (gives_then (parsing tokens) _ c.in_ok-raw.raw _ c.in_ok-raw.ensures.ok c.in_ok-unit.ensures.ok)
