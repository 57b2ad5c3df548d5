-- Forms that name no signal, from parts that name none.
use Rattle.std.proofs.Common.{◌≡◌, Bool, ◌&&◌, List, sym, ap, ◌∙◌, IsTrue}
use Rattle.fourvec.proofs.Order.{both}
use Rattle.sv_literal.specs.declared.meaning.Literal as l
use Rattle.sv_typed.specs.declared.tree.Root.{Root}
use Rattle.sv_typed.specs.declared.tree.Pick.{Pick}
use Rattle.sv_typed.specs.declared.tree.Typed.{Typed}
use Rattle.sv_typed.specs.declared.tree.TypedForm.{TypedForm}
use Rattle.sv_typed.specs.declared.tree.TypedForm.TheVariants as f
use Rattle.sv_lower.specs.Lowering.{each_root, each_form, each_signal, each_of, each_of_picks, no_signal}
use Rattle.sv_lower.proofs.Trees.{each_literal, each_named, each_chosen}

pub none_of_one : (z : TypedForm) (x a : Typed) (g : Typed → TypedForm) → ((y : Typed) → each_form no_signal (g y) ≡ each_signal no_signal y) → z ≡ g a → x ≡ a
    → {b : Bool} → (IsTrue b → IsTrue (each_signal no_signal x)) → IsTrue b → IsTrue (each_form no_signal z)
none_of_one z x a g law e i h b = ap (each_form no_signal) e ∙ law a ∙ ap (each_signal no_signal) (sym i) ∙ h b

pub none_of_parts : (z : TypedForm) (x a : List Typed) (g : List Typed → TypedForm) → ((y : List Typed) → each_form no_signal (g y) ≡ each_of no_signal y) → z ≡ g a → x ≡ a
    → {b : Bool} → (IsTrue b → IsTrue (each_of no_signal x)) → IsTrue b → IsTrue (each_form no_signal z)
none_of_parts z x a g law e i h b = ap (each_form no_signal) e ∙ law a ∙ ap (each_of no_signal) (sym i) ∙ h b

pub none_of_two : (z : TypedForm) (x y a b : Typed) (g : Typed → Typed → TypedForm) → ((v w : Typed) → each_form no_signal (g v w) ≡ (each_signal no_signal v && each_signal no_signal w)) → z ≡ g a b → x ≡ a → y ≡ b
    → IsTrue (each_signal no_signal x) → {c : Bool} → (IsTrue c → IsTrue (each_signal no_signal y)) → IsTrue c → IsTrue (each_form no_signal z)
none_of_two z x y a b g law e i j h k c =
    ap (each_form no_signal) e ∙ law a b ∙ both _ _ (ap (each_signal no_signal) (sym i) ∙ h) (ap (each_signal no_signal) (sym j) ∙ k c)

pub none_of_three : (z : TypedForm) (x y w a b c : Typed) → z ≡ f.Chosen a b c → x ≡ a → y ≡ b → w ≡ c
    → IsTrue (each_signal no_signal x) → IsTrue (each_signal no_signal y) → {d : Bool} → (IsTrue d → IsTrue (each_signal no_signal w)) → IsTrue d → IsTrue (each_form no_signal z)
none_of_three z x y w a b c e i j k h l m d =
    ap (each_form no_signal) e ∙ each_chosen no_signal a b c
    ∙ both _ _ (ap (each_signal no_signal) (sym i) ∙ h) (both _ _ (ap (each_signal no_signal) (sym j) ∙ l) (ap (each_signal no_signal) (sym k) ∙ m d))

pub none_of_literal : (z : TypedForm) (x : l.Literal) → z ≡ f.Literal x → IsTrue (each_form no_signal z)
none_of_literal z x e = ap (each_form no_signal) e ∙ each_literal no_signal x

pub none_of_named : (z : TypedForm) (root : Root) (picks xs : List Pick) → z ≡ f.Named root picks → xs ≡ picks → IsTrue (each_root no_signal root) → {b : Bool} → (IsTrue b → IsTrue (each_of_picks no_signal xs)) → IsTrue b → IsTrue (each_form no_signal z)
none_of_named z root picks xs e i h k b = ap (each_form no_signal) e ∙ each_named no_signal root picks ∙ both _ _ h (ap (each_of_picks no_signal) (sym i) ∙ k b)
