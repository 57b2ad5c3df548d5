-- Loops over lists of parts, of which the first n are written.
use Rattle.std.proofs.Common.{◌≡◌, ℕ, ◌+◌, ◌-◌, ◌<◌, ◌≤◌, List, [], ◌∷◌, length, take, drop, get_or, sym, ap, ◌∙◌, arith}
use Rattle.std.proofs.lemmas.List.{take_all, drop_all, drop_more}
use Rattle.sv_write.specs.declared.lexeme.Lexeme.{Lexeme}
use Rattle.sv_write.specs.declared.lexeme.Writer.{Writer}
use Rattle.sv_write.specs.Adds.{Adds}
use Rattle.sv_write.specs.Writing.{Write, each, behind_comma, commas}
use Rattle.sv_write.proofs.Adding.{◌▷◌, turned, nothing_added}

-- with the parts that are left behind it, the whole is written
pub record Left {A : Type 0} (f : A → Write) (all : List A) (n : ℕ) (whole : Write) (old now : Writer) : Type 0 where
  pub done : (later : Writer) → Adds (each f (drop n all)) now later → Adds whole old later

dropped : {A : Type 0} (n : ℕ) (all : List A) (x : A) → n < length all → x ≡ get_or all n x → drop n all ≡ x ∷ drop (n + 1) all
dropped n all x lt e = drop_more all n x lt ∙ ap (λ a. a ∷ drop (n + 1) all) (sym e)

pub left_first : {A : Type 0} (f : A → Write) (all : List A) (old : Writer) → Left f all 0 (each f all) old old
left_first f all old = record { done = λ later p. p }

pub left_next : {A : Type 0} {f : A → Write} {all : List A} {n : ℕ} {x : A} {whole : Write} {old now new : Writer} → n < length all → x ≡ get_or all n x → Left f all n whole old now → Adds (f x) now new → Left f all (n + 1) whole old new
unfolding each
left_next {f = f} {all = all} {n = n} {x = x} lt at left p = record { done = λ later q. left.done later (turned (λ l. ap (λ (r : List _). each f r l) (dropped n all x lt at)) (p ▷ q)) }

none_left : {A : Type 0} (f : A → Write) (n : ℕ) (all : List A) (l : List Lexeme) → length all ≤ n → each f (drop n all) l ≡ l
unfolding each
none_left f n all l le = ap (λ (r : List _). each f r l) (drop_all n all le)

pub left_last : {A : Type 0} {f : A → Write} {all : List A} {n : ℕ} {whole : Write} {old now : Writer} → length all ≤ n → Left f all n whole old now → Adds whole old now
left_last {f = f} {all = all} {n = n} {now = now} le left = left.done now (turned (λ l. none_left f n all l le) nothing_added)

-- ---- parts with commas between them

-- the parts behind the first
abbrev pub others : {A : Type 0} → List A → List A
others all = take (length all - 1) (drop 1 all)

pub commas_first : {A : Type 0} (f : A → Write) (all : List A) (x : A) {old now : Writer} → 1 ≤ length all → x ≡ get_or all 0 x → Adds (f x) old now → Left (behind_comma f) (others all) 0 (commas f all) old now
commas_first f [] x le at p = absurd (omega arith)
commas_first f (a ∷ all) x le at p =
    record { done = λ later q. turned (λ l. ap (λ (r : List _). each (behind_comma f) r (f a l)) (sym (take_all (length (a ∷ all) - 1) all (omega arith))) ∙ ap (λ (y : _). each (behind_comma f) (take (length (a ∷ all) - 1) all) (f y l)) (sym at)) (p ▷ q) }
