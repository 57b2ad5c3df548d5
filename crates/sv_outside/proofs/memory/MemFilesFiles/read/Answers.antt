use Rattle.std.proofs.Common.{◌≡◌, subst, Result, Ok, IfOk, IfErr, List, ℕ}
use Rattle.sv_outside.specs.declared.outside.FileErr.{FileErr}
use Rattle.sv_outside.specs.Memory.{read_of, IsErrorOf}
use Rattle.sv_outside.specs.Outside.{is_failed}
use Rattle.sv_outside.proofs.Contents.{read_told, answer_whole, answer_long, faults_alike, after_told}
use Rattle.sv_outside.proofs.memory.MemFilesFiles.read.Goals as goal

pub returns-clause-answered : goal.returns-clause-answered
returns-clause-answered c =
    let told = read_told c.self.inside.list.items (λ v. v.items) c.self.inside.failing.items c.self.inside.calls c.self.inside.faults c.saturating_add-self-inside.result c.is_among-is_to_fail.result c.args.name.now c.args.self.now c.saturating_add-self-inside.ensures (rw c.deref.ensures.value at c.is_among-is_to_fail.ensures) c.self.view_is in
    let P : Result (List ℕ) FileErr → Type 0 = λ t. IfOk c.answer_of-answer.result (λ bytes. t ≡ Ok bytes.items) in
    subst P told (rw c.deref-2.ensures.value at c.answer_of-answer.ensures.answered)

pub returns-clause-refused : goal.returns-clause-refused
returns-clause-refused c =
    let told = read_told c.self.inside.list.items (λ v. v.items) c.self.inside.failing.items c.self.inside.calls c.self.inside.faults c.saturating_add-self-inside.result c.is_among-is_to_fail.result c.args.name.now c.args.self.now c.saturating_add-self-inside.ensures (rw c.deref.ensures.value at c.is_among-is_to_fail.ensures) c.self.view_is in
    let P : Result (List ℕ) FileErr → Type 0 = λ t. IfErr c.answer_of-answer.result (λ e. IsErrorOf e t) in
    subst P told (rw c.deref-2.ensures.value at c.answer_of-answer.ensures.refused)

pub returns-clause-whole : goal.returns-clause-whole
returns-clause-whole c = answer_whole c.answer_of-answer.result (λ v. v.items) c.args.self.now c.args.name.now (returns-clause-answered c)

pub returns-clause-long : goal.returns-clause-long
returns-clause-long c = answer_long c.answer_of-answer.result c.args.self.now c.args.name.now (returns-clause-refused c)

pub returns-clause-after : goal.returns-clause-after
returns-clause-after c =
    let alike = faults_alike c.answer_of-answer.result (λ v. v.items) (read_of c.args.self.now c.args.name.now) (returns-clause-answered c) (returns-clause-refused c) in
    after_told _ _ c.self.inside.calls c.self.inside.faults _ _ (is_failed c.answer_of-answer.result) c.args.name.now c.args.self.now c.saturating_add-self-inside.ensures c.faults_then-self-inside.ensures alike c.self.view_is
