use Rattle.sv_types.proofs.Valuing.{plain_word, plain_sign, plain_none}
use Rattle.sv_types.proofs.params.plain_kind.Goals as goal

pub returns-in-Some : goal.returns-in-Some
returns-in-Some c = λ at. plain_word at c.args.word c.in-Some.field-0 c.args.sign c.has_sign.result c.in-Some.is c.has_sign.ensures

pub returns-in-Some-sign : goal.returns-in-Some-sign
returns-in-Some-sign c = λ at. plain_sign at c.args.word c.args.sign c.in-Some-sign.sign c.is_signed.result c.in-None.is c.in-Some-sign.is c.is_signed.ensures

pub returns-in-None-sign : goal.returns-in-None-sign
returns-in-None-sign c = λ at. plain_none at c.args.word c.args.sign c.in-None.is c.in-None-sign.is
