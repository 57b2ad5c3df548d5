use Rattle.std.proofs.Common.{◌∙◌, sym, false, true}
use Rattle.std.proofs.lemmas.Bool.{false≢true}
use Rattle.node_memo.proofs.memo.Memo.clear.Goals as goal

pub returns-clause-memo : goal.returns-clause-memo
returns-clause-memo c = λ shapes h. record {
  values = h.values;
  marks = c.clear_marks.ensures.len ∙ h.marks;
  closed = λ k kl on. absurd (false≢true (sym (c.clear_marks.ensures.none k) ∙ on));
  parents_each = h.parents_each;
  parents_inside = h.parents_inside;
  parents = h.parents;
  path = h.path;
  path_room = h.path_room;
  stale_room = h.stale_room;
}
