-- What is left of variables behind a place.
use Rattle.std.proofs.Common.{◌≡◌, ℕ, ◌+◌, ◌/◌, ◌^◌, ◌<◌, ◌≤◌, List, [], ◌∷◌, ◌++◌, length, get_or, drop, sym, ◌∙◌, ap, append_assoc, append-nil}
use Rattle.std.proofs.lemmas.List.{drop_more, drop_all}
use Rattle.fourvec.specs.declared.Bit.{Bit}
use Rattle.fourvec.specs.Bits.{vector}
use Rattle.svtv_table.specs.declared.bound.VarDecl.{VarDecl}
use Rattle.svtv_choices.specs.Choices.{bits_of, choice_of}

pub bits_more : (vars : List VarDecl) (i : ℕ) (v : VarDecl) → i < length vars → v ≡ get_or vars i v → bits_of (drop i vars) ≡ v.width + bits_of (drop (i + 1) vars)
unfolding bits_of
bits_more vars i v h e = ap bits_of (drop_more vars i v h) ∙ ap (λ (x : VarDecl). x.width + bits_of (drop (i + 1) vars)) (sym e)

-- one variable more
pub choice_more : (vars : List VarDecl) (i n : ℕ) (v : VarDecl) (so_far all : List (List Bit)) → i < length vars → v ≡ get_or vars i v → so_far ++ choice_of (drop i vars) n ≡ all
    → (so_far ++ vector v.width n ∷ []) ++ choice_of (drop (i + 1) vars) (n / 2 ^ v.width) ≡ all
unfolding choice_of
choice_more vars i n v so_far all h d e =
    append_assoc so_far (vector v.width n ∷ []) (choice_of (drop (i + 1) vars) (n / 2 ^ v.width))
    ∙ (ap (λ (x : VarDecl). so_far ++ vector x.width n ∷ choice_of (drop (i + 1) vars) (n / 2 ^ x.width)) d
    ∙ (sym (ap (λ vs. so_far ++ choice_of vs n) (drop_more vars i v h)) ∙ e))

-- ---- at the end

pub bits_end : (vars : List VarDecl) (i : ℕ) → length vars ≤ i → bits_of (drop i vars) ≡ 0
unfolding bits_of
bits_end vars i h = ap bits_of (drop_all i vars h)

pub none_left : (vars : List VarDecl) (i n : ℕ) (so_far all : List (List Bit)) → length vars ≤ i → so_far ++ choice_of (drop i vars) n ≡ all → so_far ≡ all
unfolding choice_of
none_left vars i n so_far all h e = sym (append-nil so_far) ∙ (sym (ap (λ vs. so_far ++ choice_of vs n) (drop_all i vars h)) ∙ e)
