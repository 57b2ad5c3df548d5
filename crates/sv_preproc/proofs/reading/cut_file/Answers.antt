use Rattle.std.proofs.lemmas.Result.{IfOk-from_err}
use Rattle.std.proofs.Common.{◌≡◌, ◌+◌, ◌-◌, ◌<◌, length, arith, subst, sym}
use Rattle.std.proofs.lemmas.Grind.{common_steps}
use Rattle.sv_token.specs.Cut.{IsRefused, refused, LexesLines}
use Rattle.sv_preproc.specs.Directives.{most_counted}
use Rattle.sv_preproc.specs.Reached.{no}
use Rattle.sv_preproc.specs.Seen.{seen, NotCut}
use Rattle.sv_preproc.proofs.Entering.{named_as, not_lexed, too_many}
use Rattle.sv_preproc.proofs.reading.cut_file.Goals as goal

pub returns-in-Err-No-clause-caused : goal.returns-in-Err-No-clause-caused
returns-in-Err-No-clause-caused c =
    let number : c.len.result ≡ length c.args.known.now.files.items = grind (arith, common_steps) in
    let h : IsRefused c.len.result c.args.text.now c.in-Err-No.refusal = rw c.in-Err-No.field-0-is at c.in-Err-No.ensures.refused in
    not_lexed (seen c.args.known.now) c.args.name.now c.args.text.now c.in-Err-No.refusal c.in_ok-file-in-Err-No.file (subst (λ n. IsRefused n c.args.text.now c.in-Err-No.refusal) number h) c.in_ok-file-in-Err-No.ensures

pub returns-then-len-left-clause-caused : goal.returns-then-len-left-clause-caused
returns-then-len-left-clause-caused c =
    let left = 4000000 - c.args.known.now.counted in
    let whole : c.args.known.now.counted + left ≡ most_counted = omega (arith, c.requires) in
    let number : c.len.result ≡ length c.args.known.now.files.items = grind (arith, common_steps) in
    let over : left < length c.in-Ok.lines.items = grind (arith, common_steps) in
    named_as (NotCut (seen c.args.known.now) c.args.name.now c.args.text.now) 4 c.index.result.now.token.place c.args.name.now c.refusal.result c.refusal.ensures
    (subst (λ i. NotCut (seen c.args.known.now) c.args.name.now c.args.text.now (no (refused 4 i.token.place)) c.args.name.now) (sym c.index.ensures)
    (too_many (seen c.args.known.now) c.args.name.now c.args.text.now c.in-Ok.lines.items left c.index.result.now (subst (λ n. LexesLines n c.args.text.now c.in-Ok.lines.items) number c.in-Ok.ensures.cut) whole over))

pub returns-in_err-file-in-Err-No-clause-cut : goal.returns-in_err-file-in-Err-No-clause-cut
returns-in_err-file-in-Err-No-clause-cut c = IfOk-from_err _ _ c.from_residual.ensures.0

pub returns-in_err-file-in-Err-No-clause-within : goal.returns-in_err-file-in-Err-No-clause-within
returns-in_err-file-in-Err-No-clause-within c = IfOk-from_err _ _ c.from_residual.ensures.0
