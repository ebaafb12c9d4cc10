-- What a walk over statements rests on, from several files.
pub use Rattle.psy_rules.proofs.Judging.{judged_all_append}
pub use Rattle.psy_tree.proofs.lemmas.Advances.{positive_sum}
pub use Rattle.psy_tree.proofs.lemmas.Lists.{map_firsts as firsts, map_seconds as seconds}
