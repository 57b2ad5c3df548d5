-- What is bound, once all rows are.
use Rattle.std.proofs.Common.{◌≡◌, ℕ, zero, suc, List, [], ◌∷◌, ◌++◌, map, get_or, Bool, true, false, cond, Option, Some, None, Result, Ok, Err, sym, ◌∙◌, ap, subst, arith}
use Rattle.std.specs.Prelude.{All, IfOk, OnOk}
use Rattle.std.specs.List.{AllByRecursion, IsDistinct, flat_map}
use Rattle.std.specs.Str.{bytes_eq}
use Rattle.std.proofs.lemmas.List.Elements.{All-from_recursion, recursion_from_All}
use Rattle.sv_outside.specs.declared.text.Signal.{Signal}
use Rattle.svtv_table.specs.Binding.{HasWidth, bind_faults, bound_of, declared_by, declared_in, drives_of, overs_of, row_faults, samples_of, variables_of}
use Rattle.svtv_table.specs.Faults.{at_each}
use Rattle.svtv_table.specs.Following.{Follows}
use Rattle.svtv_table.specs.Indexing.{with_var, with_vars}
use Rattle.svtv_table.specs.Names.{name_of, names_in, no_signal, signal_at, width_of, wire_of}
use Rattle.svtv_table.specs.declared.binding.Work.{Work}
use Rattle.svtv_table.specs.declared.bound.Bound.{Bound}
use Rattle.svtv_table.specs.declared.bound.Drive.{Drive}
use Rattle.svtv_table.specs.declared.bound.Sample.{Sample}
use Rattle.svtv_table.specs.declared.bound.VarDecl.{VarDecl}
use Rattle.table_cells.specs.declared.table.Row.{Row}
use Rattle.table_cells.specs.declared.table.RowKind.{RowKind}
use Rattle.table_cells.specs.declared.table.RowKind.TheVariants.{In, Over, Out}
use Rattle.table_cells.specs.declared.table.Table.{Table}
use Rattle.svtv_table.proofs.Declared.{all_distinct, collected}

abbrev pub made : ℕ → List VarDecl → List (ℕ × List Drive) → List (ℕ × List (Option Drive)) → List Sample → Bound
made phases vars drives overs samples = record { phases = phases; vars = vars; drives = drives; overs = overs; samples = samples }

pub bound_is : (wires ws : List Signal) (table : Table) (rows : List Row) (vars : List VarDecl) (work : Work) → ws ≡ wires → rows ≡ table.rows → vars ≡ variables_of ws rows → Follows ws vars rows work
    → made table.phases vars work.drives.rows work.overs.rows work.samples.list ≡ bound_of wires table
unfolding bound_of
bound_is wires ws table rows vars work e r v f =
    let all = variables_of wires table.rows in
    let named : vars ≡ all = v ∙ (ap (λ w. variables_of w rows) e ∙ ap (λ rs. variables_of wires rs) r) in
    let driven : work.drives.rows ≡ drives_of wires all table.rows =
    f.drives.rows ∙ (ap (λ w. drives_of w vars rows) e ∙ (ap (λ vs. drives_of wires vs rows) named ∙ ap (λ rs. drives_of wires all rs) r)) in
    let set : work.overs.rows ≡ overs_of wires all table.rows = f.overs.rows ∙ (ap (λ w. overs_of w vars rows) e ∙ (ap (λ vs. overs_of wires vs rows) named ∙ ap (λ rs. overs_of wires all rs) r)) in
    let sampled : work.samples.list ≡ samples_of wires table.rows = f.samples ∙ (ap (λ w. samples_of w rows) e ∙ ap (λ rs. samples_of wires rs) r) in
    λ i. made table.phases (named i) (driven i) (set i) (sampled i)

pub faults_are : (wires ws : List Signal) (table : Table) (rows : List Row) (vars : List VarDecl) → ws ≡ wires → rows ≡ table.rows → vars ≡ variables_of ws rows
    → at_each (row_faults ws vars rows) 0 rows ≡ bind_faults wires table
unfolding bind_faults
faults_are wires ws table rows vars e r v =
    ap (λ vs. at_each (row_faults ws vs rows) 0 rows) v ∙ (ap (λ w. at_each (row_faults w (variables_of w rows) rows) 0 rows) e ∙ ap (λ rs. at_each (row_faults wires (variables_of wires rs) rs) 0 rs) r)

-- ---- names and widths of the variables

pub vars_distinct : (wires : List Signal) (rows : List Row) → IsDistinct bytes_eq (map name_of (variables_of wires rows))
unfolding variables_of IsDistinct
vars_distinct wires rows = subst (λ vs. IsDistinct bytes_eq (map name_of vs)) (collected (flat_map (declared_in wires) rows)) (all_distinct [] (flat_map (declared_in wires) rows) tt)

abbrev AreWide : List VarDecl → Type 0
AreWide vars = AllByRecursion (λ v. HasWidth v.width) vars

wide_append : (us vs : List VarDecl) → AreWide us → AreWide vs → AreWide (us ++ vs)
wide_append [] vs h k = k
wide_append (u ∷ us) vs h k = (h.0, wide_append us vs h.1 k)

wide_var : (b : Bool) (vars : List VarDecl) (v : VarDecl) → AreWide vars → HasWidth v.width → AreWide (cond b vars (vars ++ v ∷ []))
wide_var true vars v h w = h
wide_var false vars v h w = wide_append vars (v ∷ []) h (w, tt)

wide_vars : (vars more : List VarDecl) → AreWide vars → AreWide more → AreWide (with_vars vars more)
wide_vars vars [] h k = h
wide_vars vars (v ∷ vs) h k = wide_vars (with_var vars v) vs (wide_var _ vars v h k.0) k.1

at_or : (wires : List Signal) (i : ℕ) → AllByRecursion (λ w. HasWidth w.width) wires → HasWidth (get_or wires i no_signal).width
at_or [] i h = (omega arith, omega arith)
at_or (w ∷ ws) zero h = h.0
at_or (w ∷ ws) (suc i) h = at_or ws i h.1

wide_signal : (wires : List Signal) (o : Option ℕ) → AllByRecursion (λ w. HasWidth w.width) wires → HasWidth (signal_at wires o).width
wide_signal wires None h = (omega arith, omega arith)
wide_signal wires (Some i) h = at_or wires i h

wide_names : (width : ℕ) (names : List (List ℕ)) → HasWidth width → AreWide (map (λ name. record { name = name; width = width }) names)
wide_names width [] h = tt
wide_names width (n ∷ ns) h = (h, wide_names width ns h)

wide_declared : (wires : List Signal) (kind : RowKind) (row : Row) → AllByRecursion (λ w. HasWidth w.width) wires → AreWide (declared_by wires kind row)
wide_declared wires In row h = wide_names (width_of wires row.path) (names_in row.cells) (wide_signal wires (wire_of wires row.path) h)
wide_declared wires Over row h = wide_names (width_of wires row.path) (names_in row.cells) (wide_signal wires (wire_of wires row.path) h)
wide_declared wires Out row h = tt

wide_rows : (wires : List Signal) (rows : List Row) → AllByRecursion (λ w. HasWidth w.width) wires → AreWide (flat_map (declared_in wires) rows)
wide_rows wires [] h = tt
wide_rows wires (r ∷ rs) h = wide_append (declared_in wires r) (flat_map (declared_in wires) rs) (wide_declared wires r.kind r h) (wide_rows wires rs h)

pub vars_wide : (wires : List Signal) (rows : List Row) → All (λ w. HasWidth w.width) wires → All (λ v. HasWidth v.width) (variables_of wires rows)
unfolding variables_of
vars_wide wires rows h =
    let k : AllByRecursion (λ w. HasWidth w.width) wires = recursion_from_All (λ w. HasWidth w.width) wires h in
    let vs = flat_map (declared_in wires) rows in
    All-from_recursion (λ v. HasWidth v.width) _ (subst AreWide (collected vs) (wide_vars [] vs tt (wide_rows wires rows k)))

pub if_ok_bound : {E : Type 0} (P : Bound → Type 0) (r : Result Bound E) (b : Bound) → IfOk r (λ x. x ≡ b) → P b → IfOk r P
if_ok_bound P (Ok x) b h p = subst P (sym h) p
if_ok_bound P (Err e) b h p = tt

pub if_ok_fine : {E : Type 0} (A : Type 0) (P : Bound → Type 0) (r : Result Bound E) (b : Bound) → IfOk r (λ x. x ≡ b) → OnOk r A → (A → P b) → IfOk r P
if_ok_fine A P (Ok x) b h a f = subst P (sym h) (f a)
if_ok_fine A P (Err e) b h a f = tt
