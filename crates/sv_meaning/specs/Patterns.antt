-- Trees as the definitions match on them: a boxed part stands for itself.
use Rattle.sv_outside.specs.declared.refusal.Place.{Place}
use Rattle.sv_tree.specs.declared.word.Word.{Word}
use Rattle.sv_tree.specs.declared.exprs.Expr.{Expr, Paren', CastLiteral', CastName', CastParen', CastSign', System', Unary', Binary', Choose', end_of-Expr, more_of-Expr}
use Rattle.sv_tree.specs.declared.exprs.Select.{Select, Index', Range'}
use Rattle.sv_tree.specs.declared.exprs.Sign.{Sign}
use Rattle.sv_tree.specs.declared.exprs.SystemName.{SystemName}
use Rattle.sv_tree.specs.declared.exprs.UnaryOp.{UnaryOp}
use Rattle.sv_tree.specs.declared.exprs.BinaryOp.{BinaryOp}
use Rattle.sv_tree.specs.declared.exprs.RangeMark.{RangeMark}

pattern abbrev pub paren : Place → Expr → Expr
paren p x = Paren' p tt (more_of-Expr x end_of-Expr)

pattern abbrev pub cast_literal : Word → Expr → Expr
cast_literal w x = CastLiteral' w tt (more_of-Expr x end_of-Expr)

pattern abbrev pub cast_name : Word → Expr → Expr
cast_name w x = CastName' w tt (more_of-Expr x end_of-Expr)

pattern abbrev pub cast_paren : Place → Expr → Expr → Expr
cast_paren p n x = CastParen' p tt (more_of-Expr n end_of-Expr) tt (more_of-Expr x end_of-Expr)

pattern abbrev pub cast_sign : Sign → Place → Expr → Expr
cast_sign s p x = CastSign' s p tt (more_of-Expr x end_of-Expr)

pattern abbrev pub system : SystemName → Place → Expr → Expr
system f p x = System' f p tt (more_of-Expr x end_of-Expr)

pattern abbrev pub unary : UnaryOp → Place → Expr → Expr
unary op p x = Unary' op p tt (more_of-Expr x end_of-Expr)

pattern abbrev pub binary : Expr → BinaryOp → Place → Expr → Expr
binary x op p y = Binary' tt (more_of-Expr x end_of-Expr) op p tt (more_of-Expr y end_of-Expr)

pattern abbrev pub choose : Expr → Expr → Expr → Expr
choose c x y = Choose' tt (more_of-Expr c end_of-Expr) tt (more_of-Expr x end_of-Expr) tt (more_of-Expr y end_of-Expr)

pattern abbrev pub index : Place → Expr → Select
index p x = Index' p tt (more_of-Expr x end_of-Expr)

pattern abbrev pub range : Place → Expr → RangeMark → Expr → Select
range p x m y = Range' p tt (more_of-Expr x end_of-Expr) m tt (more_of-Expr y end_of-Expr)
