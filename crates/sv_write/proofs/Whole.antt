-- Whole texts are written as they are spelled.
use Rattle.std.proofs.Common.{◌≡◌, List, [], Result, Ok, Err, IfOk, refl, sym, ap, ◌∙◌, append-nil}
use Rattle.std.specs.declared.alloc.AllocError.{AllocError}
use Rattle.sv_tree.specs.declared.design.Source.{Source}
use Rattle.sv_write.specs.declared.lexeme.Lexeme.{Lexeme}
use Rattle.sv_write.specs.declared.lexeme.Writer.{Writer}
use Rattle.sv_write.specs.Adds.{Adds}
use Rattle.sv_write.specs.Modules.{write_source}
use Rattle.sv_write.specs.Spelt.{AreLexemesOf}
use Rattle.sv_write.proofs.ModulesLaws.{law_source}

if_ok : {A E : Type 0} (r : Result A E) (P : A → Type 0) → ((x : A) → r ≡ Ok x → P x) → IfOk r P
if_ok (Ok x) P h = h x refl
if_ok (Err e) P h = tt

all_of : {E : Type 0} → Result (List Lexeme) E → List Lexeme
all_of (Ok all) = all
all_of (Err e) = []

pub spelt : (x : Source) (r : Result (List Lexeme) AllocError) {a b : Writer} → a.written ≡ Ok [] → Adds (write_source x) a b → r ≡ b.written → IfOk r (AreLexemesOf x)
unfolding all_of
spelt x r none p e = if_ok r _ (λ all is tokens h. let s = p.says all (sym e ∙ is) in (law_source x).says [] tokens [] h ∙ (append-nil (write_source x []) ∙ (ap (write_source x) (ap all_of (sym none ∙ s.1)) ∙ sym s.2)))
