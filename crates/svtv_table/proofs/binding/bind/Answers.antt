use Rattle.std.proofs.Common.{◌≡◌, map}
use Rattle.std.specs.Prelude.{All, []}
use Rattle.std.specs.List.{IsDistinct}
use Rattle.std.specs.Str.{bytes_eq}
use Rattle.svtv_table.specs.Binding.{HasWidth, IsBound, bind_faults, bound_of}
use Rattle.svtv_table.specs.Names.{name_of}
use Rattle.svtv_table.specs.Stimuli.{Means, Sets}
use Rattle.svtv_table.proofs.Bounds.{if_ok_bound, if_ok_fine, vars_distinct, vars_wide}
use Rattle.svtv_table.proofs.Meaning.{means, sets}
use Rattle.svtv_table.proofs.Shape.{is_bound}
use Rattle.svtv_table.proofs.binding.bind.Goals as goal

pub returns-clause-means : goal.returns-clause-means
returns-clause-means c =
    if_ok_fine (bind_faults c.args.wires.now c.args.table.now ≡ []) (Means c.args.wires.now c.args.table.now.rows) c.bind_table.result (bound_of c.args.wires.now c.args.table.now)
    c.bind_table.ensures.bound c.bind_table.ensures.fine (means c.args.wires.now c.args.table.now)

pub returns-clause-sets : goal.returns-clause-sets
returns-clause-sets c =
    if_ok_fine (bind_faults c.args.wires.now c.args.table.now ≡ []) (Sets c.args.wires.now c.args.table.now.rows) c.bind_table.result (bound_of c.args.wires.now c.args.table.now)
    c.bind_table.ensures.bound c.bind_table.ensures.fine (sets c.args.wires.now c.args.table.now)

pub returns-clause-is_bound : goal.returns-clause-is_bound
returns-clause-is_bound c =
    if_ok_fine (bind_faults c.args.wires.now c.args.table.now ≡ []) (IsBound c.args.wires.now) c.bind_table.result (bound_of c.args.wires.now c.args.table.now)
    c.bind_table.ensures.bound c.bind_table.ensures.fine (is_bound c.args.wires.now c.args.table.now c.requires.formed)

pub returns-clause-distinct : goal.returns-clause-distinct
unfolding bound_of
returns-clause-distinct c =
    if_ok_bound (λ b. IsDistinct bytes_eq (map name_of b.vars)) c.bind_table.result (bound_of c.args.wires.now c.args.table.now) c.bind_table.ensures.bound
    (vars_distinct c.args.wires.now c.args.table.now.rows)

pub returns-clause-var_widths : goal.returns-clause-var_widths
unfolding bound_of
returns-clause-var_widths c =
    if_ok_bound (λ b. All (λ v. HasWidth v.width) b.vars) c.bind_table.result (bound_of c.args.wires.now c.args.table.now) c.bind_table.ensures.bound
    (vars_wide c.args.wires.now c.args.table.now.rows c.requires.widths)
