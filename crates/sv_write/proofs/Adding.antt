-- Parts that are written one behind the other.
use Rattle.std.proofs.Common.{◌≡◌, List, refl, sym, ap, ◌∙◌}
use Rattle.sv_write.specs.declared.lexeme.Lexeme.{Lexeme}
use Rattle.sv_write.specs.declared.lexeme.Writer.{Writer}
use Rattle.sv_write.specs.Writing.{Write, ◌⨾◌, nothing}
use Rattle.sv_write.specs.Adds.{Adds}

infixr 30 ◌▷◌
pub ◌▷◌ : {f g : Write} {a b c : Writer} → Adds f a b → Adds g b c → Adds (f ⨾ g) a c
◌▷◌ {g = g} p q = record { says = λ all e. let s = q.says all e in let r = p.says s.0 s.1 in (r.0, r.1, s.2 ∙ ap g r.2) }

pub turned : {f g : Write} {a b : Writer} → ((l : List Lexeme) → g l ≡ f l) → Adds f a b → Adds g a b
turned same p = record { says = λ all e. let s = p.says all e in (s.0, s.1, s.2 ∙ sym (same s.0)) }

pub nothing_added : {a : Writer} → Adds nothing a a
nothing_added = record { says = λ all e. (all, e, refl) }

-- ---- what is written of a part, where the part is known under another name

pub under : {A : Type 0} (f : A → Write) {x y : A} {a b : Writer} → x ≡ y → Adds (f x) a b → Adds (f y) a b
under f {x} {y} same p = turned (λ l. ap (λ (x : _). f x l) (sym same)) p

pub both_under : {A B : Type 0} (f : A → B → Write) {x y : A} {s t : B} {a b : Writer} → x ≡ y → s ≡ t → Adds (f x s) a b → Adds (f y t) a b
both_under f {y = y} {s = s} same also p = under (f y) also (under (λ (x : _). f x s) same p)

-- a tree that is made of parts, which are written
pub made : {A : Type 0} (f : A → Write) {x y : A} {g : Write} {a b : Writer} → x ≡ y → ((l : List Lexeme) → f y l ≡ g l) → Adds g a b → Adds (f x) a b
made f same is p = turned (λ l. ap (λ (x : _). f x l) same ∙ is l) p
