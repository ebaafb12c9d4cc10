-- What each loop of `statements::+emit_stmt` keeps.
use Rattle.std.proofs.Common.{◌≡◌, ◌+◌, ◌++◌, drop, length}
use Rattle.psy_meaning.specs.Depths.{loops_in}
use Rattle.psy_gen.specs.Emission.{stmts_code, stmts_places}
use Rattle.psy_gen.proofs.statements.+emit_stmt.Given as goal

abbrev pub invariant-emit_stmts-loop-stmt : goal.invariant-emit_stmts-loop-stmt
invariant-emit_stmts-loop-stmt l = record {
  code : l.code ++ stmts_code l.layout (drop l.stmt-index l.stmts) l.body.loops (length l.code) ≡ l.fn.code ++ stmts_code l.layout l.stmts l.fn.body.loops (length l.fn.code);
  places : l.body.places ++ stmts_places (drop l.stmt-index l.stmts) (length l.code) ≡ l.fn.body.places ++ stmts_places l.stmts (length l.fn.code);
  loops : l.body.loops + loops_in (drop l.stmt-index l.stmts) ≡ l.fn.body.loops + loops_in l.stmts;
}
