use Rattle.std.proofs.Common.{◌*◌, List, length, ap, ◌∙◌, arith}
use Rattle.std.proofs.lemmas.Result.{IfOk-at_ok}
use Rattle.std.proofs.lemmas.Bool.{ltb-true}
use Rattle.aig.specs.declared.gate.Lit.{Lit}
use Rattle.aig_words.specs.Words.{number}
use Rattle.aig_words.proofs.Grown.{Grew-wider, if_ok}
use Rattle.pair_words.specs.Truths.{truths}
use Rattle.pair_words.proofs.Growing.{within_square, within_squares, within_both, if_both, one_word}
use Rattle.pair_words.proofs.Truths.{added, taken, multiplied, quotient_is, rest_is, less_is, signed_less_is}
use Rattle.pair_words.proofs.numbers.computed.Goals as goal

pub returns-in-Add-clause-grew : goal.returns-in-Add-clause-grew
returns-in-Add-clause-grew c = Grew-wider _ (100 * length c.args.a.now * length c.args.a.now) _ _ (within_square 7 (length c.args.a.now) 100 (omega arith) c.requires.some) c.add.ensures.grew

pub returns-in-Sub-clause-grew : goal.returns-in-Sub-clause-grew
returns-in-Sub-clause-grew c = Grew-wider _ (100 * length c.args.a.now * length c.args.a.now) _ _ (within_square 7 (length c.args.a.now) 100 (omega arith) c.requires.some) c.sub.ensures.grew

pub returns-in-Mul-clause-grew : goal.returns-in-Mul-clause-grew
returns-in-Mul-clause-grew c = Grew-wider _ (100 * length c.args.a.now * length c.args.a.now) _ _ (within_squares 10 (length c.args.a.now) 100 (omega arith)) c.mul.ensures.grew

pub returns-in-Div-clause-grew : goal.returns-in-Div-clause-grew
returns-in-Div-clause-grew c = Grew-wider _ (100 * length c.args.a.now * length c.args.a.now) _ _ (within_squares 11 (length c.args.a.now) 100 (omega arith)) c.div.ensures.grew

pub returns-in-Rem-clause-grew : goal.returns-in-Rem-clause-grew
returns-in-Rem-clause-grew c = Grew-wider _ (100 * length c.args.a.now * length c.args.a.now) _ _ (within_squares 11 (length c.args.a.now) 100 (omega arith)) c.rem.ensures.grew

pub returns-in-Lt-clause-grew : goal.returns-in-Lt-clause-grew
returns-in-Lt-clause-grew c = Grew-wider _ (100 * length c.args.a.now * length c.args.a.now) _ _ (within_square 4 (length c.args.a.now) 100 (omega arith) c.requires.some) c.lt.ensures.grew

pub returns-in-Slt-clause-grew : goal.returns-in-Slt-clause-grew
returns-in-Slt-clause-grew c = Grew-wider _ (100 * length c.args.a.now * length c.args.a.now) _ _ (within_square 4 (length c.args.a.now) 100 (omega arith) c.requires.some) c.slt.ensures.grew

pub returns-in-Sdiv-clause-grew : goal.returns-in-Sdiv-clause-grew
returns-in-Sdiv-clause-grew c = Grew-wider _ (100 * length c.args.a.now * length c.args.a.now) _ _ (within_both (length c.args.a.now) c.requires.some) c.signed_quotient.ensures.grew

pub returns-in-Srem-clause-grew : goal.returns-in-Srem-clause-grew
returns-in-Srem-clause-grew c = Grew-wider _ (100 * length c.args.a.now * length c.args.a.now) _ _ (within_both (length c.args.a.now) c.requires.some) c.signed_rest.ensures.grew

pub returns-in-Add-clause-word : goal.returns-in-Add-clause-word
returns-in-Add-clause-word c = rw c.in-Add.is c.add.ensures.word

pub returns-in-Add-clause-value : goal.returns-in-Add-clause-value
returns-in-Add-clause-value c = rw c.in-Add.is (if_both c.add.result _ _ _ c.add.ensures.word c.add.ensures.value (λ r w h v o d. added v c.args.a.now c.args.b.now r.items w.long (h.obeyed v o)))

pub returns-in-Sub-clause-word : goal.returns-in-Sub-clause-word
returns-in-Sub-clause-word c = rw c.in-Sub.is c.sub.ensures.word

pub returns-in-Sub-clause-value : goal.returns-in-Sub-clause-value
returns-in-Sub-clause-value c = rw c.in-Sub.is (if_both c.sub.result _ _ _ c.sub.ensures.word c.sub.ensures.value (λ r w h v o d. taken v c.args.a.now c.args.b.now r.items w.long (h.obeyed v o)))

pub returns-in-Mul-clause-word : goal.returns-in-Mul-clause-word
returns-in-Mul-clause-word c = rw c.in-Mul.is c.mul.ensures.word

pub returns-in-Mul-clause-value : goal.returns-in-Mul-clause-value
returns-in-Mul-clause-value c = rw c.in-Mul.is (if_both c.mul.result _ _ _ c.mul.ensures.word c.mul.ensures.value (λ r w h v o d. multiplied v c.args.a.now c.args.b.now r.items w.long (h.obeyed v o)))

pub returns-in-Div-clause-word : goal.returns-in-Div-clause-word
returns-in-Div-clause-word c = rw c.in-Div.is c.div.ensures.word

pub returns-in-Div-clause-value : goal.returns-in-Div-clause-value
returns-in-Div-clause-value c = rw c.in-Div.is (if_both c.div.result _ _ _ c.div.ensures.word c.div.ensures.value (λ r w h v o d. let some = ltb-true 0 (number v c.args.b.now) d in quotient_is v c.args.a.now c.args.b.now r.items w.long some (h.obeyed v o some)))

pub returns-in-Rem-clause-word : goal.returns-in-Rem-clause-word
returns-in-Rem-clause-word c = rw c.in-Rem.is c.rem.ensures.word

pub returns-in-Rem-clause-value : goal.returns-in-Rem-clause-value
returns-in-Rem-clause-value c = rw c.in-Rem.is (if_both c.rem.result _ _ _ c.rem.ensures.word c.rem.ensures.value (λ r w h v o d. let some = ltb-true 0 (number v c.args.b.now) d in rest_is v c.args.a.now c.args.b.now r.items w.long some (h.obeyed v o some)))

pub returns-in-Sdiv-clause-word : goal.returns-in-Sdiv-clause-word
returns-in-Sdiv-clause-word c = rw c.in-Sdiv.is c.signed_quotient.ensures.word

pub returns-in-Sdiv-clause-value : goal.returns-in-Sdiv-clause-value
returns-in-Sdiv-clause-value c = rw c.in-Sdiv.is (if_ok c.signed_quotient.result _ _ c.signed_quotient.ensures.value (λ r h v o d. h v o (ltb-true 0 (number v c.args.b.now) d)))

pub returns-in-Srem-clause-word : goal.returns-in-Srem-clause-word
returns-in-Srem-clause-word c = rw c.in-Srem.is c.signed_rest.ensures.word

pub returns-in-Srem-clause-value : goal.returns-in-Srem-clause-value
returns-in-Srem-clause-value c = rw c.in-Srem.is (if_ok c.signed_rest.result _ _ c.signed_rest.ensures.value (λ r h v o d. h v o (ltb-true 0 (number v c.args.b.now) d)))

pub returns-in-Lt-clause-word : goal.returns-in-Lt-clause-word
returns-in-Lt-clause-word c = rw c.in-Lt.is (if_ok c.single.result _ _ c.single.ensures (λ r h. one_word _ r.items h.0 h.2 (IfOk-at_ok _ h.1 c.lt.ensures.within)))

pub returns-in-Lt-clause-value : goal.returns-in-Lt-clause-value
returns-in-Lt-clause-value c = rw c.in-Lt.is (if_ok c.single.result _ _ c.single.ensures (λ r h v o d. ap (λ (xs : List Lit). truths v xs) h.2 ∙ less_is v c.args.a.now c.args.b.now h.0 ((IfOk-at_ok _ h.1 c.lt.ensures.value).obeyed v o)))

pub returns-in-Slt-clause-word : goal.returns-in-Slt-clause-word
returns-in-Slt-clause-word c = rw c.in-Slt.is (if_ok c.single-in-Slt.result _ _ c.single-in-Slt.ensures (λ r h. one_word _ r.items h.0 h.2 (IfOk-at_ok _ h.1 c.slt.ensures.within)))

pub returns-in-Slt-clause-value : goal.returns-in-Slt-clause-value
returns-in-Slt-clause-value c = rw c.in-Slt.is (if_ok c.single-in-Slt.result _ _ c.single-in-Slt.ensures (λ r h v o d. ap (λ (xs : List Lit). truths v xs) h.2 ∙ signed_less_is v c.args.a.now c.args.b.now h.0 c.requires.some c.requires.same ((IfOk-at_ok _ h.1 c.slt.ensures.value).obeyed v o)))

pub add-requires-clause-some : goal.add-requires-clause-some
add-requires-clause-some c = c.requires.some

pub sub-requires-clause-some : goal.sub-requires-clause-some
sub-requires-clause-some c = c.requires.some

pub mul-requires-clause-some : goal.mul-requires-clause-some
mul-requires-clause-some c = c.requires.some

pub div-requires-clause-some : goal.div-requires-clause-some
div-requires-clause-some c = c.requires.some

pub rem-requires-clause-some : goal.rem-requires-clause-some
rem-requires-clause-some c = c.requires.some

pub signed_quotient-requires-clause-some : goal.signed_quotient-requires-clause-some
signed_quotient-requires-clause-some c = c.requires.some

pub signed_rest-requires-clause-some : goal.signed_rest-requires-clause-some
signed_rest-requires-clause-some c = c.requires.some

pub slt-requires-clause-some : goal.slt-requires-clause-some
slt-requires-clause-some c = c.requires.some

pub add-requires-clause-same : goal.add-requires-clause-same
add-requires-clause-same c = c.requires.same

pub add-requires-clause-a_in : goal.add-requires-clause-a_in
add-requires-clause-a_in c = c.requires.a_in

pub add-requires-clause-b_in : goal.add-requires-clause-b_in
add-requires-clause-b_in c = c.requires.b_in

pub sub-requires-clause-same : goal.sub-requires-clause-same
sub-requires-clause-same c = c.requires.same

pub sub-requires-clause-a_in : goal.sub-requires-clause-a_in
sub-requires-clause-a_in c = c.requires.a_in

pub sub-requires-clause-b_in : goal.sub-requires-clause-b_in
sub-requires-clause-b_in c = c.requires.b_in

pub mul-requires-clause-same : goal.mul-requires-clause-same
mul-requires-clause-same c = c.requires.same

pub mul-requires-clause-a_in : goal.mul-requires-clause-a_in
mul-requires-clause-a_in c = c.requires.a_in

pub mul-requires-clause-b_in : goal.mul-requires-clause-b_in
mul-requires-clause-b_in c = c.requires.b_in

pub div-requires-clause-same : goal.div-requires-clause-same
div-requires-clause-same c = c.requires.same

pub div-requires-clause-a_in : goal.div-requires-clause-a_in
div-requires-clause-a_in c = c.requires.a_in

pub div-requires-clause-b_in : goal.div-requires-clause-b_in
div-requires-clause-b_in c = c.requires.b_in

pub rem-requires-clause-same : goal.rem-requires-clause-same
rem-requires-clause-same c = c.requires.same

pub rem-requires-clause-a_in : goal.rem-requires-clause-a_in
rem-requires-clause-a_in c = c.requires.a_in

pub rem-requires-clause-b_in : goal.rem-requires-clause-b_in
rem-requires-clause-b_in c = c.requires.b_in

pub signed_quotient-requires-clause-same : goal.signed_quotient-requires-clause-same
signed_quotient-requires-clause-same c = c.requires.same

pub signed_quotient-requires-clause-a_in : goal.signed_quotient-requires-clause-a_in
signed_quotient-requires-clause-a_in c = c.requires.a_in

pub signed_quotient-requires-clause-b_in : goal.signed_quotient-requires-clause-b_in
signed_quotient-requires-clause-b_in c = c.requires.b_in

pub signed_rest-requires-clause-same : goal.signed_rest-requires-clause-same
signed_rest-requires-clause-same c = c.requires.same

pub signed_rest-requires-clause-a_in : goal.signed_rest-requires-clause-a_in
signed_rest-requires-clause-a_in c = c.requires.a_in

pub signed_rest-requires-clause-b_in : goal.signed_rest-requires-clause-b_in
signed_rest-requires-clause-b_in c = c.requires.b_in

pub slt-requires-clause-same : goal.slt-requires-clause-same
slt-requires-clause-same c = c.requires.same

pub slt-requires-clause-a_in : goal.slt-requires-clause-a_in
slt-requires-clause-a_in c = c.requires.a_in

pub slt-requires-clause-b_in : goal.slt-requires-clause-b_in
slt-requires-clause-b_in c = c.requires.b_in

pub lt-requires-clause-same : goal.lt-requires-clause-same
lt-requires-clause-same c = c.requires.same

pub lt-requires-clause-a_in : goal.lt-requires-clause-a_in
lt-requires-clause-a_in c = c.requires.a_in

pub lt-requires-clause-b_in : goal.lt-requires-clause-b_in
lt-requires-clause-b_in c = c.requires.b_in
