use Rattle.std.proofs.lemmas.Result.{IfOk-from_err}
use Rattle.std.proofs.Common.{◌≡◌, ℕ, ◌<◌, Bool, true, List, length, get_or, sym, ap, subst, ◌∙◌, arith}
use Rattle.std.specs.List.{All}
use Rattle.std.proofs.lemmas.List.{length-map, get_or_default}
use Rattle.std.proofs.Common.{map}
use Rattle.pair_words.specs.Rails.{IsWired}
use Rattle.svex_blast.specs.Reads.{word_in}
use Rattle.svex_blast.specs.Chosen.{planes_of}
use Rattle.svex_arena.specs.Marks.{IsMarked, IsClosed}
use Rattle.svex_shape.specs.Shapes.{width_at}
use Rattle.pair_words.specs.declared.pairs.Pair.{Pair}
use Rattle.svex_blast.specs.Sizes.{gates_to}
use Rattle.svex_blast.specs.Reads.{AreVectors}
use Rattle.svex_blast.specs.Knowns.{is_known_node, are_twins, AreShared}
use Rattle.svex_blast.proofs.Knowing.{rails_twins}
use Rattle.svex_blast.specs.Chosen.{Planes, widths_of, HasVariables, AreWired, AreRails}
use Rattle.svex_blast.proofs.Choosing.{extends_grown, kept_then, rails_are, rails_wired, at_root, gates_least}
use Rattle.aig.proofs.Values.{kept_values}
use Rattle.svex_blast.proofs.planes.blast.Goals as goal

pub all_vectors-requires-clause-node : goal.all_vectors-requires-clause-node
all_vectors-requires-clause-node c = c.len.ensures.graph.some

pub all_vectors-requires-clause-marks : goal.all_vectors-requires-clause-marks
all_vectors-requires-clause-marks c = ap (λ (t : List Bool). length t) c.deref.ensures.value ∙ c.in_ok-marks.ensures.len

pub all_vectors-requires-clause-closed : goal.all_vectors-requires-clause-closed
all_vectors-requires-clause-closed c = subst (λ (t : List Bool). IsClosed c.args.arena.now t 0) (sym c.deref.ensures.value) c.in_ok-marks.ensures.closed

pub all_vectors-requires-clause-vars_in : goal.all_vectors-requires-clause-vars_in
all_vectors-requires-clause-vars_in c = subst (λ (t : List (List Pair)). All (All (IsWired c.variables.new.aig)) t) (sym c.deref-2.ensures.value) (c.in_ok-words.ensures.made.inside)

pub all_vectors-requires-clause-twins : goal.all_vectors-requires-clause-twins
all_vectors-requires-clause-twins c = subst (λ (t : List (List Pair)). All (λ (w : List Pair). are_twins w ≡ true) t) (sym c.deref-2.ensures.value) (c.in_ok-words.ensures.made.twins)

pub all_rails-requires : goal.all_rails-requires
all_rails-requires c = λ k d lt.
    let root : get_or c.args.roots.now k 0 < length c.args.arena.now = c.requires.roots k lt in
    let at : get_or c.args.roots.now k d ≡ get_or c.args.roots.now k 0 = get_or_default c.args.roots.now k d 0 lt in
    let a : length c.deref-3.result.now ≡ length c.in_ok-done.done.items = ap (λ (t : List (List Pair)). length t) c.deref-3.ensures.value in
    let b : length c.deref.result.now ≡ length c.args.arena.now = ap (λ (t : List Bool). length t) c.deref.ensures.value ∙ c.in_ok-marks.ensures.len in
    omega (arith, root, at, a, b, c.in_ok-done.ensures.long)

pub returns : goal.returns
returns c =
    let shapes = c.args.arena.now in
    let roots = c.args.roots.now in
    let vars = c.args.vars.now in
    let old = c.args.aig.now in
    let mid = c.variables.new.aig in
    let new = c.all_vectors.new.aig in
    let marks : List Bool = c.in_ok-marks.marks.items in
    let words : List (List Pair) = c.in_ok-words.words.items in
    let done : List (List Pair) = c.in_ok-done.done.items in
    let all : List Planes = c.in_ok-rails.rails.items in
    let made : HasVariables (widths_of vars) old mid words = c.in_ok-words.ensures.made in
    let grew = c.in_ok-done.ensures.grew in
    let e1 : c.deref.result.now ≡ marks = c.deref.ensures.value in
    let e2 : c.deref-2.result.now ≡ words = c.deref-2.ensures.value in
    let long : length done ≡ length shapes = c.in_ok-done.ensures.long ∙ ap (λ (t : List Bool). length t) e1 ∙ c.in_ok-marks.ensures.len in
    let vectors : AreVectors shapes marks words new done =
    subst (λ (t : List Bool). AreVectors shapes t words new done) e1 (subst (λ (t : List (List Pair)). AreVectors shapes c.deref.result.now t new done) e2 c.in_ok-done.ensures.vectors) in
    let shared : AreShared (widths_of vars) shapes marks done =
    subst (λ (t : List Bool). AreShared (widths_of vars) shapes t done) e1 (subst (λ (t : List ℕ). AreShared t shapes c.deref.result.now done) (ap (λ (t : List (List Pair)). map (λ (w : List Pair). length w) t) e2 ∙ made.wide) c.in_ok-done.ensures.shared) in
    let shown : all ≡ map (λ k. planes_of (word_in done k)) roots =
    c.in_ok-rails.ensures ∙ ap (λ (t : List (List Pair)). map (λ k. planes_of (word_in t k)) roots) c.deref-3.ensures.value in
    let within : (i : ℕ) → i < length roots → get_or roots i 0 < length done = λ i lt. (let h : get_or roots i 0 < length shapes = c.requires.roots i lt in omega (arith, h, long)) in
    let marked : (i : ℕ) → i < length roots → IsMarked marks (get_or roots i 0) = λ i lt. c.in_ok-marks.ensures.roots.marked_roots i lt in
    let none = c.requires.no_inputs in
    record {
      inputs = omega (arith, grew.grows.inputs, made.count, none);
      long = ap (λ (t : List Planes). length t) shown ∙ length-map roots (λ k. planes_of (word_in done k));
      wired = at_root (λ node r. AreWired new (width_at shapes node) r) done roots all shown (λ i lt. rails_wired shapes new marks words done (get_or roots i 0) vectors (within i lt) (marked i lt));
      rails = at_root (λ node r. AreRails vars shapes new node r) done roots all shown
          (λ i lt. rails_are vars shapes old mid new marks words done (get_or roots i 0) none made c.len.ensures.graph c.len-2.ensures.graph grew.grows vectors (within i lt) (marked i lt));
      shared = at_root (λ node (r : Planes). is_known_node (widths_of vars) shapes node ≡ true → r.up ≡ r.low) done roots all shown
          (λ i lt known. rails_twins (word_in done (get_or roots i 0)) (shared.shared (get_or roots i 0) (within i lt) (marked i lt) known));
      nodes = λ most wide rooted closed.
          let least = gates_least shapes roots marks most wide c.in_ok-marks.ensures.only rooted closed (length most) in
          let same : gates_to shapes c.deref.result.now (length c.deref.result.now) ≡ gates_to shapes marks (length most) =
          ap (λ (t : List Bool). gates_to shapes t (length t)) e1 ∙ ap (λ n. gates_to shapes marks n) (c.in_ok-marks.ensures.len ∙ sym wide) in
          omega (arith, made.nodes, grew.nodes, least, same);
      extends = extends_grown old mid new made.extends grew.grows;
      kept = kept_then old mid new (omega (arith, made.nodes)) made.kept (kept_values mid new c.len.ensures.graph grew.grows.longer grew.grows.same);
      none = λ zero flat. grew.flat (omega (arith, made.nodes, zero, flat));
    }

pub returns-in_err-words-clause-extends : goal.returns-in_err-words-clause-extends
returns-in_err-words-clause-extends c = c.in_err-words.ensures.extends

pub returns-in_err-marks-clause-extends : goal.returns-in_err-marks-clause-extends
returns-in_err-marks-clause-extends c = c.in_ok-words.ensures.extends

pub returns-in_err-done-clause-extends : goal.returns-in_err-done-clause-extends
returns-in_err-done-clause-extends c = extends_grown c.args.aig.now c.variables.new.aig _ c.in_ok-words.ensures.extends c.in_err-done.ensures.grew.grows

pub returns-in_err-rails-clause-extends : goal.returns-in_err-rails-clause-extends
returns-in_err-rails-clause-extends c = extends_grown c.args.aig.now c.variables.new.aig _ c.in_ok-words.ensures.extends c.in_ok-done.ensures.grew.grows

pub returns-in_err-done-clause-inputs : goal.returns-in_err-done-clause-inputs
returns-in_err-done-clause-inputs c = IfOk-from_err _ _ c.from_residual-in_err-done.ensures.0

pub returns-in_err-done-clause-kept : goal.returns-in_err-done-clause-kept
returns-in_err-done-clause-kept c = IfOk-from_err _ _ c.from_residual-in_err-done.ensures.0

pub returns-in_err-done-clause-long : goal.returns-in_err-done-clause-long
returns-in_err-done-clause-long c = IfOk-from_err _ _ c.from_residual-in_err-done.ensures.0

pub returns-in_err-done-clause-nodes : goal.returns-in_err-done-clause-nodes
returns-in_err-done-clause-nodes c = IfOk-from_err _ _ c.from_residual-in_err-done.ensures.0

pub returns-in_err-done-clause-none : goal.returns-in_err-done-clause-none
returns-in_err-done-clause-none c = IfOk-from_err _ _ c.from_residual-in_err-done.ensures.0

pub returns-in_err-done-clause-rails : goal.returns-in_err-done-clause-rails
returns-in_err-done-clause-rails c = IfOk-from_err _ _ c.from_residual-in_err-done.ensures.0

pub returns-in_err-done-clause-shared : goal.returns-in_err-done-clause-shared
returns-in_err-done-clause-shared c = IfOk-from_err _ _ c.from_residual-in_err-done.ensures.0

pub returns-in_err-done-clause-wired : goal.returns-in_err-done-clause-wired
returns-in_err-done-clause-wired c = IfOk-from_err _ _ c.from_residual-in_err-done.ensures.0

pub returns-in_err-marks-clause-inputs : goal.returns-in_err-marks-clause-inputs
returns-in_err-marks-clause-inputs c = IfOk-from_err _ _ c.from_residual-in_err-marks.ensures.0

pub returns-in_err-marks-clause-kept : goal.returns-in_err-marks-clause-kept
returns-in_err-marks-clause-kept c = IfOk-from_err _ _ c.from_residual-in_err-marks.ensures.0

pub returns-in_err-marks-clause-long : goal.returns-in_err-marks-clause-long
returns-in_err-marks-clause-long c = IfOk-from_err _ _ c.from_residual-in_err-marks.ensures.0

pub returns-in_err-marks-clause-nodes : goal.returns-in_err-marks-clause-nodes
returns-in_err-marks-clause-nodes c = IfOk-from_err _ _ c.from_residual-in_err-marks.ensures.0

pub returns-in_err-marks-clause-none : goal.returns-in_err-marks-clause-none
returns-in_err-marks-clause-none c = IfOk-from_err _ _ c.from_residual-in_err-marks.ensures.0

pub returns-in_err-marks-clause-rails : goal.returns-in_err-marks-clause-rails
returns-in_err-marks-clause-rails c = IfOk-from_err _ _ c.from_residual-in_err-marks.ensures.0

pub returns-in_err-marks-clause-shared : goal.returns-in_err-marks-clause-shared
returns-in_err-marks-clause-shared c = IfOk-from_err _ _ c.from_residual-in_err-marks.ensures.0

pub returns-in_err-marks-clause-wired : goal.returns-in_err-marks-clause-wired
returns-in_err-marks-clause-wired c = IfOk-from_err _ _ c.from_residual-in_err-marks.ensures.0

pub returns-in_err-rails-clause-inputs : goal.returns-in_err-rails-clause-inputs
returns-in_err-rails-clause-inputs c = IfOk-from_err _ _ c.from_residual-in_err-rails.ensures.0

pub returns-in_err-rails-clause-kept : goal.returns-in_err-rails-clause-kept
returns-in_err-rails-clause-kept c = IfOk-from_err _ _ c.from_residual-in_err-rails.ensures.0

pub returns-in_err-rails-clause-long : goal.returns-in_err-rails-clause-long
returns-in_err-rails-clause-long c = IfOk-from_err _ _ c.from_residual-in_err-rails.ensures.0

pub returns-in_err-rails-clause-nodes : goal.returns-in_err-rails-clause-nodes
returns-in_err-rails-clause-nodes c = IfOk-from_err _ _ c.from_residual-in_err-rails.ensures.0

pub returns-in_err-rails-clause-none : goal.returns-in_err-rails-clause-none
returns-in_err-rails-clause-none c = IfOk-from_err _ _ c.from_residual-in_err-rails.ensures.0

pub returns-in_err-rails-clause-rails : goal.returns-in_err-rails-clause-rails
returns-in_err-rails-clause-rails c = IfOk-from_err _ _ c.from_residual-in_err-rails.ensures.0

pub returns-in_err-rails-clause-shared : goal.returns-in_err-rails-clause-shared
returns-in_err-rails-clause-shared c = IfOk-from_err _ _ c.from_residual-in_err-rails.ensures.0

pub returns-in_err-rails-clause-wired : goal.returns-in_err-rails-clause-wired
returns-in_err-rails-clause-wired c = IfOk-from_err _ _ c.from_residual-in_err-rails.ensures.0

pub returns-in_err-words-clause-inputs : goal.returns-in_err-words-clause-inputs
returns-in_err-words-clause-inputs c = IfOk-from_err _ _ c.from_residual.ensures.0

pub returns-in_err-words-clause-kept : goal.returns-in_err-words-clause-kept
returns-in_err-words-clause-kept c = IfOk-from_err _ _ c.from_residual.ensures.0

pub returns-in_err-words-clause-long : goal.returns-in_err-words-clause-long
returns-in_err-words-clause-long c = IfOk-from_err _ _ c.from_residual.ensures.0

pub returns-in_err-words-clause-nodes : goal.returns-in_err-words-clause-nodes
returns-in_err-words-clause-nodes c = IfOk-from_err _ _ c.from_residual.ensures.0

pub returns-in_err-words-clause-none : goal.returns-in_err-words-clause-none
returns-in_err-words-clause-none c = IfOk-from_err _ _ c.from_residual.ensures.0

pub returns-in_err-words-clause-rails : goal.returns-in_err-words-clause-rails
returns-in_err-words-clause-rails c = IfOk-from_err _ _ c.from_residual.ensures.0

pub returns-in_err-words-clause-shared : goal.returns-in_err-words-clause-shared
returns-in_err-words-clause-shared c = IfOk-from_err _ _ c.from_residual.ensures.0

pub returns-in_err-words-clause-wired : goal.returns-in_err-words-clause-wired
returns-in_err-words-clause-wired c = IfOk-from_err _ _ c.from_residual.ensures.0
