use Rattle.std.proofs.Common.{rules}
use Rattle.std.proofs.lemmas.List.{get_or_read}
use Rattle.svex_arena.proofs.Looking.{none_found}
use Rattle.svex_arena.proofs.arena.find.Goals as goal

pub returns-clause-none : goal.returns-clause-none
returns-clause-none c = none_found _ _ _ _ c.find.result _ c.requires.hashed c.hash.ensures (λ k within out same. search (rules, get_or_read)) c.find.ensures.none
