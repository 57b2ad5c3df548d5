use Rattle.std.proofs.Common.{sym, ap, ◌∙◌}
use Rattle.std.specs.Option.{option_copied, option_map}
use Rattle.sv_modules.specs.Listed.{modules_of}
use Rattle.sv_levels.specs.Library.{known_is}
use Rattle.sv_levels.proofs.ByNumber.{known_at, tree_got, no_tree, no_above}
use Rattle.sv_levels.proofs.library.Library.known.Goals as goal

pub returns-in_err-tree : goal.returns-in_err-tree
returns-in_err-tree c = λ all h.
    ap (option_map known_is) c.from_residual.ensures
    ∙ no_tree c.list.result.now (modules_of c.args.self.now.modules) all c.args.number h.modules c.list.ensures c.in_err-tree.ensures.lookup.3

pub returns-in_err-above : goal.returns-in_err-above
returns-in_err-above c = λ all h.
    ap (option_map known_is) c.from_residual-in_err-above.ensures ∙ no_above all c.args.self.now.above c.args.number h.above (sym c.in_err-above.ensures)

pub returns : goal.returns
returns c = λ all h.
    sym (known_at (modules_of c.args.self.now.modules) all c.args.self.now.above c.args.number c.in_ok-tree.tree.now.now c.in_ok-above.above.now h.modules h.above
    (tree_got c.list.result.now (modules_of c.args.self.now.modules) c.args.number c.in_ok-tree.tree.now c.list.ensures c.in_ok-tree.ensures.lookup.3.0 c.in_ok-tree.ensures.lookup.1)
    (sym c.in_ok-above.ensures))
