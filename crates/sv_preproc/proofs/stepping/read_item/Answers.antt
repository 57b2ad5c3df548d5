use Rattle.std.proofs.lemmas.Result.{on_ok_weaker}
use Rattle.std.proofs.Common.{◌≡◌, ◌∷◌, ◌++◌, [], sym, ◌∙◌, ap, refl, subst, arith, Some, None, reverse, ◌≤◌}
use Rattle.std.specs.Prelude.{◌&&◌, Bool, List}
use Rattle.sv_token.specs.declared.lexer.Lined.{Lined}
use Rattle.std.specs.Map.{update}
use Rattle.std.specs.Str.{bytes_eq}
use Rattle.sv_preproc.specs.Directives as spec
use Rattle.sv_preproc.specs.Directives.{item, State, with_definition, is_taken}
use Rattle.sv_preproc.specs.Laws.{Possible}
use Rattle.sv_preproc.specs.Reached as reached
use Rattle.sv_preproc.specs.Reached.{Passes}
use Rattle.sv_preproc.specs.Roles.{line_text, line_rest, between_quotes}
use Rattle.sv_preproc.specs.Seen.{seen, texts, shown, point, Uses, IsFaultyIn}
use Rattle.sv_preproc.proofs.Errors.{for_each}
use Rattle.sv_preproc.proofs.Branches.{turned}
use Rattle.sv_preproc.proofs.Items.{state_of, one_kept, one_passed, one_used, one_defined, one_forgotten, one_opened, one_ended, item_faulty, use_faulty, turn_faulty, turn_short}
use Rattle.sv_preproc.proofs.Steps.{goes_on, goes_on_with, still, wanting, refused_by}
use Rattle.sv_preproc.proofs.Lines.{item_short}
use Rattle.sv_preproc.proofs.stepping.read_item.Goals as goal

pub returns-in-Kept-clause-steps : goal.returns-in-Kept-clause-steps
returns-in-Kept-clause-steps c =
    let Read : Bool → List Lined → Type 0 = λ inside rest. (inside ≡ c.args.live) × (rest ≡ c.in-Kept.behind.now) × (c.keep.new.out.items ≡ c.args.out.now.items ++ c.in-Kept.token.now ∷ []) in
    let at : item c.args.live (c.args.first.now ∷ c.args.after.now) ≡ spec.kept c.in-Kept.token.now c.in-Kept.behind.now = sym c.item_at.ensures ∙ ap shown c.in-Kept.is in
    goes_on _ Read _ c.keep.ensures.kept (λ inside rest h told room. subst (λ i. Passes (Possible told) room (item c.args.live (c.args.first.now ∷ c.args.after.now)) (point c.args.live (reverse c.args.frames.now.items) (seen c.args.known.now) c.args.out.now.items (c.args.first.now ∷ c.args.after.now)) (point i (reverse c.args.frames.now.items) (seen c.args.known.now) c.keep.new.out.items rest.now)) (sym h.0)
    (one_kept (Possible told) room c.args.live (reverse c.args.frames.now.items) (seen c.args.known.now) c.args.out.now.items c.keep.new.out.items (c.args.first.now ∷ c.args.after.now) rest.now c.in-Kept.token.now (at ∙ ap (λ i. spec.kept c.in-Kept.token.now i) (sym h.1)) h.2))

pub returns-in-Kept-clause-short : goal.returns-in-Kept-clause-short
returns-in-Kept-clause-short c =
    let Read : Bool → List Lined → Type 0 = λ inside rest. (inside ≡ c.args.live) × (rest ≡ c.in-Kept.behind.now) × (c.keep.new.out.items ≡ c.args.out.now.items ++ c.in-Kept.token.now ∷ []) in
    let at : item c.args.live (c.args.first.now ∷ c.args.after.now) ≡ spec.kept c.in-Kept.token.now c.in-Kept.behind.now = sym c.item_at.ensures ∙ ap shown c.in-Kept.is in
    goes_on _ Read _ c.keep.ensures.kept (λ inside rest h. item_short c.args.live c.args.first.now c.args.after.now rest.now (spec.kept c.in-Kept.token.now c.in-Kept.behind.now) at (sym h.1))

pub returns-in-Kept-clause-faulty : goal.returns-in-Kept-clause-faulty
returns-in-Kept-clause-faulty c =
    wanting _ _ tt c.keep.ensures.failed

pub returns-in-Kept-clause-within : goal.returns-in-Kept-clause-within
returns-in-Kept-clause-within c =
    still _ _ c.requires

pub returns-in-Used-clause-steps : goal.returns-in-Used-clause-steps
returns-in-Used-clause-steps c =
    let Read : Bool → List Lined → Type 0 = λ inside rest. (inside ≡ c.args.live) × (rest ≡ c.in-Used.behind.now) × Uses (texts c.args.known.now.macros) c.in-Used.token.now c.args.out.now.items c.use_macro.new.out.items c.args.known.now.counted c.use_macro.new.known.counted in
    let at : item c.args.live (c.args.first.now ∷ c.args.after.now) ≡ spec.used c.in-Used.token.now c.in-Used.behind.now = sym c.item_at.ensures ∙ ap shown c.in-Used.is in
    let now : State = state_of (texts c.args.known.now.macros) c.args.known.now.files.items c.use_macro.new.known.counted in
    let same : seen c.use_macro.new.known ≡ now = ap (λ m. state_of m c.use_macro.new.known.files.items c.use_macro.new.known.counted) c.use_macro.ensures.same.0 ∙ ap (λ f. state_of (texts c.args.known.now.macros) f.items c.use_macro.new.known.counted) c.use_macro.ensures.same.1 in
    goes_on _ Read _ c.use_macro.ensures.used (λ inside rest h told room. subst (λ s. Passes (Possible told) room (item c.args.live (c.args.first.now ∷ c.args.after.now)) (point c.args.live (reverse c.args.frames.now.items) (seen c.args.known.now) c.args.out.now.items (c.args.first.now ∷ c.args.after.now)) (point inside (reverse c.args.frames.now.items) s c.use_macro.new.out.items rest.now)) (sym same)
    (subst (λ i. Passes (Possible told) room (item c.args.live (c.args.first.now ∷ c.args.after.now)) (point c.args.live (reverse c.args.frames.now.items) (seen c.args.known.now) c.args.out.now.items (c.args.first.now ∷ c.args.after.now)) (point i (reverse c.args.frames.now.items) now c.use_macro.new.out.items rest.now)) (sym h.0)
    (one_used (Possible told) room c.args.live (reverse c.args.frames.now.items) (texts c.args.known.now.macros) c.args.known.now.files.items c.args.known.now.counted c.use_macro.new.known.counted c.args.out.now.items c.use_macro.new.out.items
    (c.args.first.now ∷ c.args.after.now) rest.now c.in-Used.token.now (at ∙ ap (λ i. spec.used c.in-Used.token.now i) (sym h.1)) h.2)))

pub returns-in-Used-clause-short : goal.returns-in-Used-clause-short
returns-in-Used-clause-short c =
    let Read : Bool → List Lined → Type 0 = λ inside rest. (inside ≡ c.args.live) × (rest ≡ c.in-Used.behind.now) × Uses (texts c.args.known.now.macros) c.in-Used.token.now c.args.out.now.items c.use_macro.new.out.items c.args.known.now.counted c.use_macro.new.known.counted in
    let at : item c.args.live (c.args.first.now ∷ c.args.after.now) ≡ spec.used c.in-Used.token.now c.in-Used.behind.now = sym c.item_at.ensures ∙ ap shown c.in-Used.is in
    goes_on _ Read _ c.use_macro.ensures.used (λ inside rest h. item_short c.args.live c.args.first.now c.args.after.now rest.now (spec.used c.in-Used.token.now c.in-Used.behind.now) at (sym h.1))

pub returns-in-Used-clause-within : goal.returns-in-Used-clause-within
returns-in-Used-clause-within c =
    c.use_macro.ensures.within

pub returns-in-Used-clause-faulty : goal.returns-in-Used-clause-faulty
returns-in-Used-clause-faulty c =
    let at : item c.args.live (c.args.first.now ∷ c.args.after.now) ≡ spec.used c.in-Used.token.now c.in-Used.behind.now = sym c.item_at.ensures ∙ ap shown c.in-Used.is in
    refused_by _ _ _ c.use_macro.ensures.refused (λ e h. for_each (λ room end. IsFaultyIn room end (point c.args.live (reverse c.args.frames.now.items) (seen c.args.known.now) c.args.out.now.items (c.args.first.now ∷ c.args.after.now)) c.args.file.now) e
    (λ room end. use_faulty room end (point c.args.live (reverse c.args.frames.now.items) (seen c.args.known.now) c.args.out.now.items (c.args.first.now ∷ c.args.after.now)) c.args.file.now c.in-Used.token.now c.in-Used.behind.now h.0 e at h.1 h.2))

pub returns-in-Defined-clause-steps : goal.returns-in-Defined-clause-steps
returns-in-Defined-clause-steps c =
    let Read : Bool → List Lined → Type 0 = λ inside rest. (inside ≡ c.args.live) × (rest ≡ line_rest c.in-Defined.line c.in-Defined.behind.now) in
    let at : item c.args.live (c.args.first.now ∷ c.args.after.now) ≡ spec.defined c.in-Defined.name.now.text (line_text c.in-Defined.line c.in-Defined.behind.now) (line_rest c.in-Defined.line c.in-Defined.behind.now) = sym c.item_at.ensures ∙ ap shown c.in-Defined.is in
    goes_on_with _ _ Read _ c.define.ensures.defined c.define.ensures.rest (λ d inside rest h told room. subst (λ i. Passes (Possible told) room (item c.args.live (c.args.first.now ∷ c.args.after.now)) (point c.args.live (reverse c.args.frames.now.items) (seen c.args.known.now) c.args.out.now.items (c.args.first.now ∷ c.args.after.now)) (point i (reverse c.args.frames.now.items) (seen c.define.new.known) c.args.out.now.items rest.now)) (sym h.0)
    (one_defined (Possible told) room c.args.live (reverse c.args.frames.now.items) (seen c.args.known.now) (seen c.define.new.known) c.args.out.now.items (c.args.first.now ∷ c.args.after.now) (line_rest c.in-Defined.line c.in-Defined.behind.now) rest.now
    c.in-Defined.name.now.text (line_text c.in-Defined.line c.in-Defined.behind.now) at d h.1))

pub returns-in-Defined-clause-short : goal.returns-in-Defined-clause-short
returns-in-Defined-clause-short c =
    let Read : Bool → List Lined → Type 0 = λ inside rest. (inside ≡ c.args.live) × (rest ≡ line_rest c.in-Defined.line c.in-Defined.behind.now) in
    let at : item c.args.live (c.args.first.now ∷ c.args.after.now) ≡ spec.defined c.in-Defined.name.now.text (line_text c.in-Defined.line c.in-Defined.behind.now) (line_rest c.in-Defined.line c.in-Defined.behind.now) = sym c.item_at.ensures ∙ ap shown c.in-Defined.is in
    goes_on _ Read _ c.define.ensures.rest (λ inside rest h. item_short c.args.live c.args.first.now c.args.after.now rest.now (spec.defined c.in-Defined.name.now.text (line_text c.in-Defined.line c.in-Defined.behind.now) (line_rest c.in-Defined.line c.in-Defined.behind.now)) at (sym h.1))

pub returns-in-Defined-clause-faulty : goal.returns-in-Defined-clause-faulty
returns-in-Defined-clause-faulty c =
    wanting _ _ tt c.define.ensures.failed

pub returns-in-Defined-clause-within : goal.returns-in-Defined-clause-within
returns-in-Defined-clause-within c =
    let kept : seen c.define.new.known ≡ with_definition (seen c.args.known.now) c.in-Defined.name.now.text (Some (line_text c.in-Defined.line c.in-Defined.behind.now)) → c.define.new.known.counted ≤ spec.most_counted
    = λ d. let same : c.define.new.known.counted ≡ c.args.known.now.counted = ap {A = State} (λ i. i.counted) d in omega (arith, same, c.requires) in
    on_ok_weaker _ kept c.define.ensures.defined

pub returns-in-Opened-clause-steps : goal.returns-in-Opened-clause-steps
returns-in-Opened-clause-steps c =
    let Read : Bool → List Lined → Type 0 = λ inside rest. (inside ≡ (c.args.live && is_taken c.in-Opened.wanted c.in-Opened.name.now.text (texts c.args.known.now.macros))) × (rest ≡ c.in-Opened.behind.now) in
    let at : item c.args.live (c.args.first.now ∷ c.args.after.now) ≡ spec.opened c.in-Opened.wanted c.in-Opened.name.now.text c.in-Opened.behind.now = sym c.item_at.ensures ∙ ap shown c.in-Opened.is in
    goes_on_with _ _ Read _ c.open.ensures.begun c.open.ensures.inside (λ pushed inside rest h told room. one_opened (Possible told) room c.args.live inside (reverse c.args.frames.now.items) (reverse c.open.new.frames.items) (seen c.args.known.now) c.args.out.now.items (c.args.first.now ∷ c.args.after.now) rest.now
    c.in-Opened.wanted c.in-Opened.name.now.text (at ∙ ap (λ i. spec.opened c.in-Opened.wanted c.in-Opened.name.now.text i) (sym h.1)) h.0 (turned c.open.new.frames.items c.args.frames.now.items _ pushed))

pub returns-in-Opened-clause-short : goal.returns-in-Opened-clause-short
returns-in-Opened-clause-short c =
    let Read : Bool → List Lined → Type 0 = λ inside rest. (inside ≡ (c.args.live && is_taken c.in-Opened.wanted c.in-Opened.name.now.text (texts c.args.known.now.macros))) × (rest ≡ c.in-Opened.behind.now) in
    let at : item c.args.live (c.args.first.now ∷ c.args.after.now) ≡ spec.opened c.in-Opened.wanted c.in-Opened.name.now.text c.in-Opened.behind.now = sym c.item_at.ensures ∙ ap shown c.in-Opened.is in
    goes_on _ Read _ c.open.ensures.inside (λ inside rest h. item_short c.args.live c.args.first.now c.args.after.now rest.now (spec.opened c.in-Opened.wanted c.in-Opened.name.now.text c.in-Opened.behind.now) at (sym h.1))

pub returns-in-Opened-clause-faulty : goal.returns-in-Opened-clause-faulty
returns-in-Opened-clause-faulty c =
    wanting _ _ tt c.open.ensures.failed

pub returns-in-Opened-clause-within : goal.returns-in-Opened-clause-within
returns-in-Opened-clause-within c =
    still _ _ c.requires

pub returns-in-Ended-clause-steps : goal.returns-in-Ended-clause-steps
returns-in-Ended-clause-steps c =
    let Read : Bool → List Lined → Type 0 = λ inside rest. reached.Turns (texts c.args.known.now.macros) (reverse c.args.frames.now.items) c.args.first.now c.args.after.now inside (reverse c.end_branch.new.frames.items) rest in
    let at : item c.args.live (c.args.first.now ∷ c.args.after.now) ≡ spec.ended = sym c.item_at.ensures ∙ ap shown c.in-Ended.is in
    goes_on _ Read _ c.end_branch.ensures.ends (λ inside rest h told room. one_ended (Possible told) room c.args.live inside (reverse c.args.frames.now.items) (reverse c.end_branch.new.frames.items) (seen c.args.known.now) c.args.out.now.items c.args.first.now c.args.after.now rest.now at h)

pub returns-in-Ended-clause-short : goal.returns-in-Ended-clause-short
returns-in-Ended-clause-short c =
    let Read : Bool → List Lined → Type 0 = λ inside rest. reached.Turns (texts c.args.known.now.macros) (reverse c.args.frames.now.items) c.args.first.now c.args.after.now inside (reverse c.end_branch.new.frames.items) rest in
    goes_on _ Read _ c.end_branch.ensures.ends (λ inside rest h. turn_short (texts c.args.known.now.macros) (reverse c.args.frames.now.items) c.args.first.now c.args.after.now inside (reverse c.end_branch.new.frames.items) rest.now h)

pub returns-in-Ended-clause-within : goal.returns-in-Ended-clause-within
returns-in-Ended-clause-within c =
    still _ _ c.requires

pub returns-in-Ended-clause-faulty : goal.returns-in-Ended-clause-faulty
returns-in-Ended-clause-faulty c =
    let at : item c.args.live (c.args.first.now ∷ c.args.after.now) ≡ spec.ended = sym c.item_at.ensures ∙ ap shown c.in-Ended.is in
    refused_by _ _ _ c.end_branch.ensures.refused (λ e h. for_each (λ room end. IsFaultyIn room end (point c.args.live (reverse c.args.frames.now.items) (seen c.args.known.now) c.args.out.now.items (c.args.first.now ∷ c.args.after.now)) c.args.file.now) e
    (λ room end. turn_faulty room end (point c.args.live (reverse c.args.frames.now.items) (seen c.args.known.now) c.args.out.now.items (c.args.first.now ∷ c.args.after.now)) c.args.file.now c.args.first.now c.args.after.now h.0 e refl at h.1 h.2))

pub returns-in-Passed-clause-steps : goal.returns-in-Passed-clause-steps
returns-in-Passed-clause-steps c =
    let at : item c.args.live (c.args.first.now ∷ c.args.after.now) ≡ spec.passed c.in-Passed.behind.now = sym c.item_at.ensures ∙ ap shown c.in-Passed.is in
    λ told room. one_passed (Possible told) room c.args.live (reverse c.args.frames.now.items) (seen c.args.known.now) c.args.out.now.items (c.args.first.now ∷ c.args.after.now) c.in-Passed.behind.now at

pub returns-in-Passed-clause-short : goal.returns-in-Passed-clause-short
returns-in-Passed-clause-short c =
    let at : item c.args.live (c.args.first.now ∷ c.args.after.now) ≡ spec.passed c.in-Passed.behind.now = sym c.item_at.ensures ∙ ap shown c.in-Passed.is in
    item_short c.args.live c.args.first.now c.args.after.now _ (spec.passed c.in-Passed.behind.now) at refl

pub returns-in-Forgotten-clause-steps : goal.returns-in-Forgotten-clause-steps
returns-in-Forgotten-clause-steps c =
    let at : item c.args.live (c.args.first.now ∷ c.args.after.now) ≡ spec.forgotten c.in-Forgotten.name.now.text c.in-Forgotten.behind.now = sym c.item_at.ensures ∙ ap shown c.in-Forgotten.is in
    let now : State = state_of (texts c.forget.new.self) c.args.known.now.files.items c.args.known.now.counted in
    let state : now ≡ with_definition (seen c.args.known.now) c.in-Forgotten.name.now.text None
    = ap (λ m. state_of m c.args.known.now.files.items c.args.known.now.counted) (c.forget.ensures ∙ ap (λ n. update bytes_eq (texts c.args.known.now.macros) n None) c.bytes.ensures) in
    λ told room. one_forgotten (Possible told) room c.args.live (reverse c.args.frames.now.items) (seen c.args.known.now) now c.args.out.now.items (c.args.first.now ∷ c.args.after.now) c.in-Forgotten.behind.now c.in-Forgotten.name.now.text at state

pub returns-in-Forgotten-clause-short : goal.returns-in-Forgotten-clause-short
returns-in-Forgotten-clause-short c =
    let at : item c.args.live (c.args.first.now ∷ c.args.after.now) ≡ spec.forgotten c.in-Forgotten.name.now.text c.in-Forgotten.behind.now = sym c.item_at.ensures ∙ ap shown c.in-Forgotten.is in
    item_short c.args.live c.args.first.now c.args.after.now _ (spec.forgotten c.in-Forgotten.name.now.text c.in-Forgotten.behind.now) at refl

pub returns-in-Included-clause-steps : goal.returns-in-Included-clause-steps
returns-in-Included-clause-steps c =
    let at : item c.args.live (c.args.first.now ∷ c.args.after.now) ≡ spec.included c.in-Included.directive.now (between_quotes c.in-Included.path.now.text) c.in-Included.behind.now = sym c.item_at.ensures ∙ ap shown c.in-Included.is in
    λ told room. (at, refl)

pub returns-in-Included-clause-short : goal.returns-in-Included-clause-short
returns-in-Included-clause-short c =
    let at : item c.args.live (c.args.first.now ∷ c.args.after.now) ≡ spec.included c.in-Included.directive.now (between_quotes c.in-Included.path.now.text) c.in-Included.behind.now = sym c.item_at.ensures ∙ ap shown c.in-Included.is in
    item_short c.args.live c.args.first.now c.args.after.now _ (spec.included c.in-Included.directive.now (between_quotes c.in-Included.path.now.text) c.in-Included.behind.now) at refl

pub returns-in-Broken-clause-faulty : goal.returns-in-Broken-clause-faulty
returns-in-Broken-clause-faulty c =
    let at : item c.args.live (c.args.first.now ∷ c.args.after.now) ≡ spec.broken c.in-Broken.number c.in-Broken.place = sym c.item_at.ensures ∙ ap shown c.in-Broken.is in
    for_each (λ room end. IsFaultyIn room end (point c.args.live (reverse c.args.frames.now.items) (seen c.args.known.now) c.args.out.now.items (c.args.first.now ∷ c.args.after.now)) c.args.file.now) c.refusal.result
    (λ room end. item_faulty room end (point c.args.live (reverse c.args.frames.now.items) (seen c.args.known.now) c.args.out.now.items (c.args.first.now ∷ c.args.after.now)) c.args.file.now c.in-Broken.number c.in-Broken.place c.refusal.result (reached.broken at) c.refusal.ensures)
