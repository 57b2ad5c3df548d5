use Rattle.std.proofs.Common.{◌≡◌, ◌+◌, ◌++◌, List, length}
use Rattle.lhs_alias.specs.declared.segs.Seg.{Seg}
use Rattle.compose_rounds.specs.Sources.{IsLinked}
use Rattle.compose_rounds.proofs.segments.link_all.Given as goal

abbrev pub invariant-segs : goal.invariant-segs
invariant-segs l = record {
  len : length l.older.items ≡ length l.initial.older.items + l.seg-index;
  linked : (before behind : List Seg) → length before ≡ length l.initial.older.items
      → IsLinked (before ++ l.segs ++ behind) l.initial.newest.items l.initial.older.items (length l.initial.older.items)
      → IsLinked (before ++ l.segs ++ behind) l.newest.items l.older.items (length l.older.items);
}
