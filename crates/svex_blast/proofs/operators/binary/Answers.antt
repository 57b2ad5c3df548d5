use Rattle.svex_blast.proofs.operators.binary.Goals as goal

pub returns-in-And-clause-grew : goal.returns-in-And-clause-grew
returns-in-And-clause-grew c = rw c.in-And.is c.bitwise.ensures.grew

pub returns-in-And-clause-word : goal.returns-in-And-clause-word
returns-in-And-clause-word c = rw c.in-And.is c.bitwise.ensures.word

pub returns-in-And-clause-value : goal.returns-in-And-clause-value
returns-in-And-clause-value c = rw c.in-And.is c.bitwise.ensures.value

pub returns-in-Or-clause-grew : goal.returns-in-Or-clause-grew
returns-in-Or-clause-grew c = rw c.in-Or.is c.bitwise-in-Or.ensures.grew

pub returns-in-Or-clause-word : goal.returns-in-Or-clause-word
returns-in-Or-clause-word c = rw c.in-Or.is c.bitwise-in-Or.ensures.word

pub returns-in-Or-clause-value : goal.returns-in-Or-clause-value
returns-in-Or-clause-value c = rw c.in-Or.is c.bitwise-in-Or.ensures.value

pub returns-in-Xor-clause-grew : goal.returns-in-Xor-clause-grew
returns-in-Xor-clause-grew c = rw c.in-Xor.is c.bitwise_by_square.ensures.grew

pub returns-in-Xor-clause-word : goal.returns-in-Xor-clause-word
returns-in-Xor-clause-word c = rw c.in-Xor.is c.bitwise_by_square.ensures.word

pub returns-in-Xor-clause-value : goal.returns-in-Xor-clause-value
returns-in-Xor-clause-value c = rw c.in-Xor.is c.bitwise_by_square.ensures.value

pub returns-in-Eq-clause-grew : goal.returns-in-Eq-clause-grew
returns-in-Eq-clause-grew c = rw c.in-Eq.is c.same.ensures.grew

pub returns-in-Eq-clause-word : goal.returns-in-Eq-clause-word
returns-in-Eq-clause-word c = rw c.in-Eq.is c.same.ensures.word

pub returns-in-Eq-clause-value : goal.returns-in-Eq-clause-value
returns-in-Eq-clause-value c = rw c.in-Eq.is c.same.ensures.value

pub returns-in-Lt-clause-grew : goal.returns-in-Lt-clause-grew
returns-in-Lt-clause-grew c = rw c.in-Lt.is c.number.ensures.grew

pub returns-in-Lt-clause-word : goal.returns-in-Lt-clause-word
returns-in-Lt-clause-word c = rw c.in-Lt.is c.number.ensures.word

pub returns-in-Lt-clause-value : goal.returns-in-Lt-clause-value
returns-in-Lt-clause-value c = rw c.in-Lt.is c.number.ensures.value

pub returns-in-Slt-clause-grew : goal.returns-in-Slt-clause-grew
returns-in-Slt-clause-grew c = rw c.in-Slt.is c.number-in-Slt.ensures.grew

pub returns-in-Slt-clause-word : goal.returns-in-Slt-clause-word
returns-in-Slt-clause-word c = rw c.in-Slt.is c.number-in-Slt.ensures.word

pub returns-in-Slt-clause-value : goal.returns-in-Slt-clause-value
returns-in-Slt-clause-value c = rw c.in-Slt.is c.number-in-Slt.ensures.value

pub returns-in-Add-clause-grew : goal.returns-in-Add-clause-grew
returns-in-Add-clause-grew c = rw c.in-Add.is c.number-in-Add.ensures.grew

pub returns-in-Add-clause-word : goal.returns-in-Add-clause-word
returns-in-Add-clause-word c = rw c.in-Add.is c.number-in-Add.ensures.word

pub returns-in-Add-clause-value : goal.returns-in-Add-clause-value
returns-in-Add-clause-value c = rw c.in-Add.is c.number-in-Add.ensures.value

pub returns-in-Sub-clause-grew : goal.returns-in-Sub-clause-grew
returns-in-Sub-clause-grew c = rw c.in-Sub.is c.number-in-Sub.ensures.grew

pub returns-in-Sub-clause-word : goal.returns-in-Sub-clause-word
returns-in-Sub-clause-word c = rw c.in-Sub.is c.number-in-Sub.ensures.word

pub returns-in-Sub-clause-value : goal.returns-in-Sub-clause-value
returns-in-Sub-clause-value c = rw c.in-Sub.is c.number-in-Sub.ensures.value

pub returns-in-Mul-clause-grew : goal.returns-in-Mul-clause-grew
returns-in-Mul-clause-grew c = rw c.in-Mul.is c.number-in-Mul.ensures.grew

pub returns-in-Mul-clause-word : goal.returns-in-Mul-clause-word
returns-in-Mul-clause-word c = rw c.in-Mul.is c.number-in-Mul.ensures.word

pub returns-in-Mul-clause-value : goal.returns-in-Mul-clause-value
returns-in-Mul-clause-value c = rw c.in-Mul.is c.number-in-Mul.ensures.value

pub returns-in-Div-clause-grew : goal.returns-in-Div-clause-grew
returns-in-Div-clause-grew c = rw c.in-Div.is c.number-in-Div.ensures.grew

pub returns-in-Div-clause-word : goal.returns-in-Div-clause-word
returns-in-Div-clause-word c = rw c.in-Div.is c.number-in-Div.ensures.word

pub returns-in-Div-clause-value : goal.returns-in-Div-clause-value
returns-in-Div-clause-value c = rw c.in-Div.is c.number-in-Div.ensures.value

pub returns-in-Rem-clause-grew : goal.returns-in-Rem-clause-grew
returns-in-Rem-clause-grew c = rw c.in-Rem.is c.number-in-Rem.ensures.grew

pub returns-in-Rem-clause-word : goal.returns-in-Rem-clause-word
returns-in-Rem-clause-word c = rw c.in-Rem.is c.number-in-Rem.ensures.word

pub returns-in-Rem-clause-value : goal.returns-in-Rem-clause-value
returns-in-Rem-clause-value c = rw c.in-Rem.is c.number-in-Rem.ensures.value

pub returns-in-Sdiv-clause-grew : goal.returns-in-Sdiv-clause-grew
returns-in-Sdiv-clause-grew c = rw c.in-Sdiv.is c.number-in-Sdiv.ensures.grew

pub returns-in-Sdiv-clause-word : goal.returns-in-Sdiv-clause-word
returns-in-Sdiv-clause-word c = rw c.in-Sdiv.is c.number-in-Sdiv.ensures.word

pub returns-in-Sdiv-clause-value : goal.returns-in-Sdiv-clause-value
returns-in-Sdiv-clause-value c = rw c.in-Sdiv.is c.number-in-Sdiv.ensures.value

pub returns-in-Srem-clause-grew : goal.returns-in-Srem-clause-grew
returns-in-Srem-clause-grew c = rw c.in-Srem.is c.number-in-Srem.ensures.grew

pub returns-in-Srem-clause-word : goal.returns-in-Srem-clause-word
returns-in-Srem-clause-word c = rw c.in-Srem.is c.number-in-Srem.ensures.word

pub returns-in-Srem-clause-value : goal.returns-in-Srem-clause-value
returns-in-Srem-clause-value c = rw c.in-Srem.is c.number-in-Srem.ensures.value

pub returns-in-Res-clause-grew : goal.returns-in-Res-clause-grew
returns-in-Res-clause-grew c = rw c.in-Res.is c.bitwise_by_square-in-Res.ensures.grew

pub returns-in-Res-clause-word : goal.returns-in-Res-clause-word
returns-in-Res-clause-word c = rw c.in-Res.is c.bitwise_by_square-in-Res.ensures.word

pub returns-in-Res-clause-value : goal.returns-in-Res-clause-value
returns-in-Res-clause-value c = rw c.in-Res.is c.bitwise_by_square-in-Res.ensures.value

pub returns-in-Shl-clause-grew : goal.returns-in-Shl-clause-grew
returns-in-Shl-clause-grew c = rw c.in-Shl.is c.up.ensures.grew

pub returns-in-Shl-clause-word : goal.returns-in-Shl-clause-word
returns-in-Shl-clause-word c = rw c.in-Shl.is c.up.ensures.word

pub returns-in-Shl-clause-value : goal.returns-in-Shl-clause-value
returns-in-Shl-clause-value c = rw c.in-Shl.is c.up.ensures.value

pub returns-in-Shr-clause-grew : goal.returns-in-Shr-clause-grew
returns-in-Shr-clause-grew c = rw c.in-Shr.is c.down.ensures.grew

pub returns-in-Shr-clause-word : goal.returns-in-Shr-clause-word
returns-in-Shr-clause-word c = rw c.in-Shr.is c.down.ensures.word

pub returns-in-Shr-clause-value : goal.returns-in-Shr-clause-value
returns-in-Shr-clause-value c = rw c.in-Shr.is c.down.ensures.value

pub returns-in-Sar-clause-grew : goal.returns-in-Sar-clause-grew
returns-in-Sar-clause-grew c = rw c.in-Sar.is c.down_signed.ensures.grew

pub returns-in-Sar-clause-word : goal.returns-in-Sar-clause-word
returns-in-Sar-clause-word c = rw c.in-Sar.is c.down_signed.ensures.word

pub returns-in-Sar-clause-value : goal.returns-in-Sar-clause-value
returns-in-Sar-clause-value c = rw c.in-Sar.is c.down_signed.ensures.value

pub returns-in-Concat-clause-grew : goal.returns-in-Concat-clause-grew
returns-in-Concat-clause-grew c = rw c.in-Concat.is c.concat.ensures.grew

pub returns-in-Concat-clause-word : goal.returns-in-Concat-clause-word
returns-in-Concat-clause-word c = rw c.in-Concat.is c.concat.ensures.word

pub returns-in-Concat-clause-value : goal.returns-in-Concat-clause-value
returns-in-Concat-clause-value c = rw c.in-Concat.is c.concat.ensures.value
