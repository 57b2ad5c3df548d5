use Rattle.std.proofs.lemmas.Option.{MatchOption-at_some}
use Rattle.std.proofs.lemmas.Result.{IfOk-from_err, on_ok_weaker, IfErr-weaker}
use Rattle.std.proofs.Common.{◌≡◌, ◌<◌, ◌≤◌, ◌∷◌, ◌-◌, [], suc, arith, refl, sym, ◌∙◌, ap, subst, length, reverse}
use Rattle.std.proofs.lemmas.Grind.{common_steps}
use Rattle.sv_preproc.specs.Directives as spec
use Rattle.sv_preproc.specs.Directives.{item}
use Rattle.sv_preproc.specs.Laws.{Possible}
use Rattle.sv_preproc.specs.Reached as reached
use Rattle.sv_preproc.specs.Reached.{at_once, begun, Reaches}
use Rattle.sv_preproc.specs.Roles.{between_quotes}
use Rattle.sv_preproc.specs.Seen.{seen, point, left, Steps, HasCause, NotIncluded, Enters}
use Rattle.sv_preproc.proofs.Errors.{handed_on, counts_on, faulty_counts, named_counts, not_down}
use Rattle.sv_preproc.proofs.Items.{stepped_on, stood_still, one_included, faulty_stops, include_stops, inner_stops, end_stops, told_as, some_open}
use Rattle.sv_preproc.proofs.Left.{reads_all}
use Rattle.sv_preproc.specs.declared.error.ItemErr.TheVariants.{Refused}
use Rattle.sv_preproc.proofs.reading.+read_all.Goals as goal

pub items-init : goal.items-init
items-init g t c =
    record {
      reached = rw c.new-frames.ensures.items at_once;
      within = c.requires;
      unchanged = λ other. refl;
      kept = refl;
    }

pub items-smaller-in-Behind : goal.items-smaller-in-Behind
items-smaller-in-Behind g t c =
    let whole : c.items.rest.now ≡ c.in-Some.first.now ∷ c.in-Some.after.now = (MatchOption-at_some _ _ _ c.in-Some.is c.split_first.ensures.cases).0 in
    let h : length c.in-Behind.behind.now ≤ length c.in-Some.after.now = subst (λ i. length (left i) ≤ length c.in-Some.after.now) c.in-Behind.is c.in_ok-inside.ensures.short in
    omega (arith, h, ap length whole)

pub items-preserved-in-Behind : goal.items-preserved-in-Behind
items-preserved-in-Behind g t c =
    let whole : c.items.rest.now ≡ c.in-Some.first.now ∷ c.in-Some.after.now = (MatchOption-at_some _ _ _ c.in-Some.is c.split_first.ensures.cases).0 in
    let step = subst (λ i. Steps (Possible (g.F.Files.contents c.args.files.now)) c.args.room (point c.items.live (reverse c.items.frames.items) (seen c.items.known) c.items.out.items (c.in-Some.first.now ∷ c.in-Some.after.now)) i (reverse c.read_item.new.frames.items) (seen c.read_item.new.known) c.read_item.new.out.items) c.in-Behind.is
    (c.in_ok-inside.ensures.steps (g.F.Files.contents c.args.files.now) c.args.room) in
    record {
      reached = stepped_on (Possible (g.F.Files.contents c.args.files.now)) c.args.room _ c.items.live c.in-Behind.inside (reverse c.items.frames.items) (reverse c.read_item.new.frames.items) (seen c.items.known) (seen c.read_item.new.known)
          c.items.out.items c.read_item.new.out.items c.items.rest.now c.in-Behind.behind.now c.in-Some.first.now c.in-Some.after.now whole c.items.invariant.reached step;
      within = c.in_ok-inside.ensures.within;
      unchanged = c.items.invariant.unchanged;
      kept = c.items.invariant.kept;
    }

pub items-smaller : goal.items-smaller
items-smaller g t c =
    let whole : c.items.rest.now ≡ c.in-Some.first.now ∷ c.in-Some.after.now = (MatchOption-at_some _ _ _ c.in-Some.is c.split_first.ensures.cases).0 in
    let h : length c.in-Include.behind.now ≤ length c.in-Some.after.now = subst (λ i. length (left i) ≤ length c.in-Some.after.now) c.in-Include.is c.in_ok-inside.ensures.short in
    omega (arith, h, ap length whole)

pub items-preserved : goal.items-preserved
items-preserved g t c =
    let whole : c.items.rest.now ≡ c.in-Some.first.now ∷ c.in-Some.after.now = (MatchOption-at_some _ _ _ c.in-Some.is c.split_first.ensures.cases).0 in
    let step = subst (λ i. Steps (Possible (g.F.Files.contents c.args.files.now)) c.args.room (point c.items.live (reverse c.items.frames.items) (seen c.items.known) c.items.out.items (c.in-Some.first.now ∷ c.in-Some.after.now)) i (reverse c.read_item.new.frames.items) (seen c.read_item.new.known) c.read_item.new.out.items) c.in-Include.is
    (c.in_ok-inside.ensures.steps (g.F.Files.contents c.args.files.now) c.args.room) in
    let stood = stood_still (Possible (g.F.Files.contents c.args.files.now)) c.args.room _ c.items.live (reverse c.items.frames.items) (reverse c.read_item.new.frames.items) (seen c.items.known) (seen c.read_item.new.known) c.items.out.items
    c.read_item.new.out.items c.items.rest.now c.in-Some.first.now c.in-Some.after.now whole c.items.invariant.reached step.1 in
    let room : c.args.room ≡ suc (c.args.room - 1) = omega (arith, c.in_ok-inner-in-Include.ensures.allowed) in
    record {
      reached = one_included (g.F.Files.contents c.items.files) (g.F.Files.contents c.include.new.files) (g.F.Files.contents c.args.files.now) c.args.room (c.args.room - 1) _ c.items.live
          (reverse c.read_item.new.frames.items) (seen c.read_item.new.known) (seen c.include.new.known) (seen c.read_all.new.known) c.read_item.new.out.items c.read_all.new.out.items
          (c.in-Some.first.now ∷ c.in-Some.after.now) c.in-Include.behind.now c.in_ok-inner-in-Include.inner.file.lines.items c.deref.result.now c.in-Include.directive.now (between_quotes c.in-Include.path.now.text)
          c.in_ok-inner-in-Include.inner.name c.in_ok-inner-in-Include.inner.file.end stood step.0 c.in_ok-inner-in-Include.ensures.named room c.items.invariant.unchanged
          (λ n. c.in_ok-inner-in-Include.ensures.unchanged n ∙ c.items.invariant.unchanged n) c.in_ok-inner-in-Include.ensures.enters c.deref.ensures.value c.in_ok-read_all-in-Include.ensures.reads;
      within = c.in_ok-read_all-in-Include.ensures.within;
      unchanged = λ n. c.in_ok-read_all-in-Include.ensures.unchanged n ∙ c.in_ok-inner-in-Include.ensures.unchanged n ∙ c.items.invariant.unchanged n;
      kept = c.in_ok-read_all-in-Include.ensures.kept ∙ c.in_ok-inner-in-Include.ensures.kept ∙ c.items.invariant.kept;
    }

pub returns-in_err-inside-clause-reads : goal.returns-in_err-inside-clause-reads
returns-in_err-inside-clause-reads g t c =
    IfOk-from_err _ _ c.from_residual.ensures.0

pub returns-in_err-inside-clause-within : goal.returns-in_err-inside-clause-within
returns-in_err-inside-clause-within g t c =
    IfOk-from_err _ _ c.from_residual.ensures.0

pub returns-in_err-inside-clause-kept : goal.returns-in_err-inside-clause-kept
returns-in_err-inside-clause-kept g t c =
    IfOk-from_err _ _ c.from_residual.ensures.0

pub returns-in_err-inside-clause-unchanged : goal.returns-in_err-inside-clause-unchanged
returns-in_err-inside-clause-unchanged g t c =
    c.items.invariant.unchanged

pub returns-in_err-inside-clause-caused : goal.returns-in_err-inside-clause-caused
returns-in_err-inside-clause-caused g t c =
    let whole : c.items.rest.now ≡ c.in-Some.first.now ∷ c.in-Some.after.now = (MatchOption-at_some _ _ _ c.in-Some.is c.split_first.ensures.cases).0 in
    let here = subst (λ i. Reaches (Possible (g.F.Files.contents c.args.files.now)) c.args.room (begun (seen c.args.known.now) c.args.out.now.items c.args.lines.now) (point c.items.live (reverse c.items.frames.items) (seen c.items.known) c.items.out.items i))
    whole c.items.invariant.reached in
    handed_on c.from_residual.result c.in_err-inside.field-0.0 _ c.from_residual.ensures.1 (faulty_stops (Possible (g.F.Files.contents c.args.files.now)) c.args.room (seen c.args.known.now) c.args.out.now.items c.args.lines.now c.args.end c.args.file.now (point c.items.live (reverse c.items.frames.items) (seen c.items.known) c.items.out.items (c.in-Some.first.now ∷ c.in-Some.after.now)) here c.in_err-inside.field-0.0 c.in_err-inside.ensures.faulty)

pub returns-in_err-inside-clause-counts : goal.returns-in_err-inside-clause-counts
returns-in_err-inside-clause-counts g t c =
    handed_on c.from_residual.result c.in_err-inside.field-0.0 _ c.from_residual.ensures.1 (faulty_counts (point c.items.live (reverse c.items.frames.items) (seen c.items.known) c.items.out.items (c.in-Some.first.now ∷ c.in-Some.after.now)) c.args.file.now c.in_err-inside.field-0.0 _ _ c.in_err-inside.ensures.faulty c.items.invariant.kept)

pub returns-in_err-inner-in-Include-clause-reads : goal.returns-in_err-inner-in-Include-clause-reads
returns-in_err-inner-in-Include-clause-reads g t c =
    IfOk-from_err _ _ c.from_residual-in_err-inner-in-Include.ensures.0

pub returns-in_err-inner-in-Include-clause-within : goal.returns-in_err-inner-in-Include-clause-within
returns-in_err-inner-in-Include-clause-within g t c =
    IfOk-from_err _ _ c.from_residual-in_err-inner-in-Include.ensures.0

pub returns-in_err-inner-in-Include-clause-kept : goal.returns-in_err-inner-in-Include-clause-kept
returns-in_err-inner-in-Include-clause-kept g t c =
    IfOk-from_err _ _ c.from_residual-in_err-inner-in-Include.ensures.0

pub returns-in_err-inner-in-Include-clause-unchanged : goal.returns-in_err-inner-in-Include-clause-unchanged
returns-in_err-inner-in-Include-clause-unchanged g t c =
    λ n. c.in_err-inner-in-Include.ensures.unchanged n ∙ c.items.invariant.unchanged n

pub returns-in_err-inner-in-Include-clause-caused : goal.returns-in_err-inner-in-Include-clause-caused
returns-in_err-inner-in-Include-clause-caused g t c =
    let whole : c.items.rest.now ≡ c.in-Some.first.now ∷ c.in-Some.after.now = (MatchOption-at_some _ _ _ c.in-Some.is c.split_first.ensures.cases).0 in
    let step = subst (λ i. Steps (Possible (g.F.Files.contents c.args.files.now)) c.args.room (point c.items.live (reverse c.items.frames.items) (seen c.items.known) c.items.out.items (c.in-Some.first.now ∷ c.in-Some.after.now)) i (reverse c.read_item.new.frames.items) (seen c.read_item.new.known) c.read_item.new.out.items) c.in-Include.is
    (c.in_ok-inside.ensures.steps (g.F.Files.contents c.args.files.now) c.args.room) in
    let stood = stood_still (Possible (g.F.Files.contents c.args.files.now)) c.args.room _ c.items.live (reverse c.items.frames.items) (reverse c.read_item.new.frames.items) (seen c.items.known) (seen c.read_item.new.known) c.items.out.items
    c.read_item.new.out.items c.items.rest.now c.in-Some.first.now c.in-Some.after.now whole c.items.invariant.reached step.1 in
    let same = told_as (g.F.Files.contents c.items.files) (g.F.Files.contents c.args.files.now) c.items.invariant.unchanged in
    let cause = subst (λ i. HasCause (NotIncluded (Possible i) c.args.room (seen c.read_item.new.known) (between_quotes c.in-Include.path.now.text) c.in-Include.directive.now.place c.args.file.now) c.in_err-inner-in-Include.field-0.0) same
    c.in_err-inner-in-Include.ensures.caused in
    handed_on c.from_residual-in_err-inner-in-Include.result c.in_err-inner-in-Include.field-0.0 _ c.from_residual-in_err-inner-in-Include.ensures.1
    (include_stops (Possible (g.F.Files.contents c.args.files.now)) c.args.room (seen c.args.known.now) c.args.out.now.items c.args.lines.now c.args.end c.args.file.now (point c.items.live (reverse c.read_item.new.frames.items) (seen c.read_item.new.known) c.read_item.new.out.items (c.in-Some.first.now ∷ c.in-Some.after.now)) stood c.in-Include.directive.now c.in-Include.behind.now (between_quotes c.in-Include.path.now.text) c.in_err-inner-in-Include.field-0.0 step.0 cause)

pub returns-in_err-inner-in-Include-clause-counts : goal.returns-in_err-inner-in-Include-clause-counts
returns-in_err-inner-in-Include-clause-counts g t c =
    handed_on c.from_residual-in_err-inner-in-Include.result c.in_err-inner-in-Include.field-0.0 _ c.from_residual-in_err-inner-in-Include.ensures.1 (counts_on c.in_err-inner-in-Include.field-0.0 _ _ _ c.items.invariant.kept c.in_err-inner-in-Include.ensures.counts)

pub returns-in_err-read_all-in-Include-clause-reads : goal.returns-in_err-read_all-in-Include-clause-reads
returns-in_err-read_all-in-Include-clause-reads g t c =
    IfOk-from_err _ _ c.from_residual-in_err-read_all-in-Include.ensures.0

pub returns-in_err-read_all-in-Include-clause-within : goal.returns-in_err-read_all-in-Include-clause-within
returns-in_err-read_all-in-Include-clause-within g t c =
    IfOk-from_err _ _ c.from_residual-in_err-read_all-in-Include.ensures.0

pub returns-in_err-read_all-in-Include-clause-kept : goal.returns-in_err-read_all-in-Include-clause-kept
returns-in_err-read_all-in-Include-clause-kept g t c =
    IfOk-from_err _ _ c.from_residual-in_err-read_all-in-Include.ensures.0

pub returns-in_err-read_all-in-Include-clause-unchanged : goal.returns-in_err-read_all-in-Include-clause-unchanged
returns-in_err-read_all-in-Include-clause-unchanged g t c =
    λ n. c.in_err-read_all-in-Include.ensures.unchanged n ∙ c.in_ok-inner-in-Include.ensures.unchanged n ∙ c.items.invariant.unchanged n

pub returns-in_err-read_all-in-Include-clause-caused : goal.returns-in_err-read_all-in-Include-clause-caused
returns-in_err-read_all-in-Include-clause-caused g t c =
    let whole : c.items.rest.now ≡ c.in-Some.first.now ∷ c.in-Some.after.now = (MatchOption-at_some _ _ _ c.in-Some.is c.split_first.ensures.cases).0 in
    let step = subst (λ i. Steps (Possible (g.F.Files.contents c.args.files.now)) c.args.room (point c.items.live (reverse c.items.frames.items) (seen c.items.known) c.items.out.items (c.in-Some.first.now ∷ c.in-Some.after.now)) i (reverse c.read_item.new.frames.items) (seen c.read_item.new.known) c.read_item.new.out.items) c.in-Include.is
    (c.in_ok-inside.ensures.steps (g.F.Files.contents c.args.files.now) c.args.room) in
    let stood = stood_still (Possible (g.F.Files.contents c.args.files.now)) c.args.room _ c.items.live (reverse c.items.frames.items) (reverse c.read_item.new.frames.items) (seen c.items.known) (seen c.read_item.new.known) c.items.out.items
    c.read_item.new.out.items c.items.rest.now c.in-Some.first.now c.in-Some.after.now whole c.items.invariant.reached step.1 in
    let room : c.args.room ≡ suc (c.args.room - 1) = omega (arith, c.in_ok-inner-in-Include.ensures.allowed) in
    let at = step.0 ∙ ap (λ n. spec.included c.in-Include.directive.now n c.in-Include.behind.now) (sym c.in_ok-inner-in-Include.ensures.named) in
    let started = g.F.Files.contents c.args.files.now in
    let same = told_as (g.F.Files.contents c.items.files) started c.items.invariant.unchanged in
    let later = told_as (g.F.Files.contents c.include.new.files) started (λ n. c.in_ok-inner-in-Include.ensures.unchanged n ∙ c.items.invariant.unchanged n) in
    let entered = subst (λ i. Enters (Possible i) (seen c.read_item.new.known) (seen c.include.new.known) c.in_ok-inner-in-Include.inner.name c.in_ok-inner-in-Include.inner.file.lines.items c.in_ok-inner-in-Include.inner.file.end) same c.in_ok-inner-in-Include.ensures.enters in
    let cause = subst (λ l. HasCause (reached.Stops (Possible started) (c.args.room - 1) (seen c.include.new.known) l c.in_ok-inner-in-Include.inner.file.end c.in_ok-inner-in-Include.inner.name) c.in_err-read_all-in-Include.field-0.0) c.deref.ensures.value
    (subst (λ i. HasCause (reached.Stops (Possible i) (c.args.room - 1) (seen c.include.new.known) c.deref.result.now c.in_ok-inner-in-Include.inner.file.end c.in_ok-inner-in-Include.inner.name) c.in_err-read_all-in-Include.field-0.0) later
    c.in_err-read_all-in-Include.ensures.caused) in
    handed_on c.from_residual-in_err-read_all-in-Include.result c.in_err-read_all-in-Include.field-0.0 _ c.from_residual-in_err-read_all-in-Include.ensures.1
    (inner_stops (Possible (g.F.Files.contents c.args.files.now)) c.args.room (seen c.args.known.now) c.args.out.now.items c.args.lines.now c.args.end c.args.file.now (point c.items.live (reverse c.read_item.new.frames.items) (seen c.read_item.new.known) c.read_item.new.out.items (c.in-Some.first.now ∷ c.in-Some.after.now)) stood (c.args.room - 1) (seen c.include.new.known) c.in-Include.directive.now c.in-Include.behind.now c.in_ok-inner-in-Include.inner.file.lines.items c.in_ok-inner-in-Include.inner.name c.in_ok-inner-in-Include.inner.file.end c.in_err-read_all-in-Include.field-0.0 at room entered cause)

pub returns-in_err-read_all-in-Include-clause-counts : goal.returns-in_err-read_all-in-Include-clause-counts
returns-in_err-read_all-in-Include-clause-counts g t c =
    handed_on c.from_residual-in_err-read_all-in-Include.result c.in_err-read_all-in-Include.field-0.0 _ c.from_residual-in_err-read_all-in-Include.ensures.1
    (counts_on c.in_err-read_all-in-Include.field-0.0 _ _ _ (c.in_ok-inner-in-Include.ensures.kept ∙ c.items.invariant.kept) c.in_err-read_all-in-Include.ensures.counts)

pub returns-clause-reads : goal.returns-clause-reads
returns-clause-reads g t c =
    let none : c.items.rest.now ≡ [] = grind (arith, common_steps) in
    on_ok_weaker c.closed.result (λ e. reads_all c.items.invariant.reached none (ap reverse (sym c.deref-2.ensures.value ∙ e))) c.closed.ensures.closed

pub returns-clause-within : goal.returns-clause-within
returns-clause-within g t c =
    on_ok_weaker c.closed.result (λ e. c.items.invariant.within) c.closed.ensures.closed

pub returns-clause-kept : goal.returns-clause-kept
returns-clause-kept g t c =
    on_ok_weaker c.closed.result (λ e. c.items.invariant.kept) c.closed.ensures.closed

pub returns-clause-unchanged : goal.returns-clause-unchanged
returns-clause-unchanged g t c =
    c.items.invariant.unchanged

pub returns-clause-caused : goal.returns-clause-caused
returns-clause-caused g t c =
    let none : c.items.rest.now ≡ [] = grind (arith, common_steps) in
    IfErr-weaker c.closed.result _ _ (λ e h. end_stops (Possible (g.F.Files.contents c.args.files.now)) c.args.room (seen c.args.known.now) c.args.out.now.items c.args.lines.now c.args.end c.args.file.now _ c.items.invariant.reached e none
    (some_open c.items.frames.items (subst (λ l. 0 < length l) c.deref-2.ensures.value h.0)) h.1) c.closed.ensures.refused

pub returns-clause-counts : goal.returns-clause-counts
returns-clause-counts g t c =
    IfErr-weaker c.closed.result _ _ (λ e h. named_counts (Refused 5) c.args.end c.args.file.now e _ _ h.1 c.items.invariant.kept) c.closed.ensures.refused

pub returns-in_err-inside-clause-counts_up : goal.returns-in_err-inside-clause-counts_up
returns-in_err-inside-clause-counts_up g t c = not_down _ _ c.items.invariant.kept

pub returns-in_err-inner-in-Include-clause-counts_up : goal.returns-in_err-inner-in-Include-clause-counts_up
returns-in_err-inner-in-Include-clause-counts_up g t c = omega (arith, c.in_err-inner-in-Include.ensures.counts_up, c.items.invariant.kept)

pub returns-in_err-read_all-in-Include-clause-counts_up : goal.returns-in_err-read_all-in-Include-clause-counts_up
returns-in_err-read_all-in-Include-clause-counts_up g t c = omega (arith, c.in_err-read_all-in-Include.ensures.counts_up, c.in_ok-inner-in-Include.ensures.kept, c.items.invariant.kept)

pub returns-clause-counts_up : goal.returns-clause-counts_up
returns-clause-counts_up g t c = not_down _ _ c.items.invariant.kept
