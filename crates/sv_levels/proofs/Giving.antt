-- What is given to parameters.
use Rattle.std.proofs.Common.{◌≡◌, ℕ, Bool, true, false, cond, List, [], ◌∷◌, map, bytes_eq, Option, Some, None, Result, Ok, refl, sym, ap, ◌∙◌, subst, if◌then◌else◌}
use Rattle.std.specs.List.{find, slice_get}
use Rattle.std.specs.Option.{unwrap_or}
use Rattle.std.specs.Cmp.Lexicographic.{nat_list_eq_equiv}
use Rattle.sv_outside.specs.declared.refusal.TextErr.{TextErr}
use Rattle.sv_tree.specs.declared.word.Word.{Word}
use Rattle.sv_tree.specs.declared.exprs.Expr.{Expr}
use Rattle.sv_tree.specs.declared.exprs.Expr.TheVariants as tree
use Rattle.sv_tree.specs.declared.exprs.Expr.TheBlock.{shape-the_row-Select-0, hidden-the_row-Select-0}
use Rattle.sv_tree.specs.declared.exprs.Select.{Select}
use Rattle.sv_tree.specs.declared.design.ParamWord.{ParamWord}
use Rattle.sv_tree.specs.declared.design.ParamWord.TheVariants as param_word
use Rattle.sv_tree.specs.declared.design.ParamType.{ParamType}
use Rattle.sv_meaning.specs.Layouts.{Name, Scope}
use Rattle.sv_meaning.specs.Faults.{Judged}
use Rattle.sv_meaning.specs.Params.{ParamKind, kept, name_alone, param_kind, value_as}
use Rattle.sv_meaning.specs.Values.{mean}
use Rattle.sv_names.specs.declared.layout.Known.{Known}
use Rattle.sv_types.specs.declared.kinds.ParamKind.{ParamKind as Kind}
use Rattle.sv_types.specs.Values.{JudgesKind, JudgesValue}
use Rattle.name_index.specs.declared.index.NameIndex.{NameIndex}
use Rattle.name_index.specs.Indexing.{Indexes, number_under}
use Rattle.sv_levels.proofs.PortsIndexed.{first_at, first_missing}
use Rattle.sv_hierarchy.specs.Scopes as m
use Rattle.sv_levels.specs.declared.tasks.Given.{Given}
use Rattle.sv_levels.specs.Overriding.{given_name}
use Rattle.sv_levels.specs.Tasks.{given_is}

-- ---- what is given

given_first : (n : Name) (all : List Given) (other : Given) → given_is (unwrap_or (find (λ g. bytes_eq n (given_name g)) all) other) ≡ m.given_or n (map given_is all) (given_is other)
unfolding m.given_or
given_first n [] other = refl
given_first n (g ∷ all) other = by_test (bytes_eq n (given_name g)) (bytes_eq (given_name g) n) (find (λ x. bytes_eq n (given_name x)) all) (m.given_or n (map given_is all) (given_is other)) (nat_list_eq_equiv.symm n (given_name g)) (given_first n all other)
  where
    by_test : (b c : Bool) (o : Option Given) (w : m.Given) → b ≡ c → given_is (unwrap_or o other) ≡ w → given_is (unwrap_or (cond b (Some g) o) other) ≡ (if c then given_is g else w)
    by_test true true o w e h = refl
    by_test true false o w e h = cc
    by_test false true o w e h = cc
    by_test false false o w e h = h

-- what is given under a number, by an index of the names
pub given_at : (index : NameIndex) (n : Name) (all : List Given) (i : ℕ) (o : Option Given) (other given : Given) → Indexes index (map given_name all) → Some i ≡ number_under index n → o ≡ slice_get all i → given ≡ unwrap_or o other →
    given_is given ≡ m.given_or n (map given_is all) (given_is other)
given_at index n all i o other given indexed e g h =
    ap given_is h ∙ ap (λ (p : Option Given). given_is (unwrap_or p other)) (g ∙ first_at given_name index all n i indexed e) ∙ given_first n all other

pub not_given : (index : NameIndex) (n : Name) (all : List Given) (other : Given) → Indexes index (map given_name all) → None ≡ number_under index n → given_is other ≡ m.given_or n (map given_is all) (given_is other)
not_given index n all other indexed e =
    sym (ap (λ (p : Option Given). given_is (unwrap_or p other)) (first_missing given_name index all n indexed e)) ∙ given_first n all other

pub given_local : (n : Name) (w : ParamWord) (all : List m.Given) (other : m.Given) → w ≡ param_word.Localparam → m.given_or n (m.overriding w all) other ≡ other
unfolding m.given_or
given_local n w all other h = ap (λ (x : ParamWord). m.given_or n (m.overriding x all) other) h

-- ---- a name that stands for itself

named_alone : (d : Word) → tree.Name d [] ≡ name_alone d
unfolding shape-the_row-Select-0 hidden-the_row-Select-0 denote.Hole.Carrier.hidden
named_alone d = refl

pub value_alone : (names : Scope) (k : ParamKind) (d : Word) (text : Name) (none : List Select) (r : Result Known TextErr) → text ≡ d.text → none ≡ [] →
    JudgesValue (value_as k (mean names (tree.Name (record { text = text; place = d.place }) none))) r → JudgesValue (value_as k (mean names (name_alone d))) r
value_alone names k d text none r a b h =
    subst (λ (x : Expr). JudgesValue (value_as k (mean names x)) r)
    ((λ i. tree.Name (record { text = a i; place = d.place }) (b i)) ∙ named_alone d) h

-- ---- the kind of an entry

pub kind_written : (w : Option ParamWord) (t : Option ParamType) (form : ParamType) (k : ParamKind) (at : Scope) (r : Result Kind TextErr) → t ≡ Some form → JudgesKind (param_kind at (Some form)) r → JudgesKind (m.kind_or w t k at) r
kind_written w t form k at r e h = subst (λ (j : Judged ParamKind). JudgesKind j r) (sym (ap (λ (x : Option ParamType). m.kind_or w x k at) e ∙ written w)) h
  where
    written : (x : Option ParamWord) → m.kind_or x (Some form) k at ≡ param_kind at (Some form)
    written None = refl
    written (Some y) = refl

pub kind_by_word : (w : Option ParamWord) (t : Option ParamType) (x : ParamWord) (k : ParamKind) (at : Scope) → t ≡ None → w ≡ Some x → m.kind_or w t k at ≡ Ok kept
kind_by_word w t x k at e h = ap (λ (y : Option ParamType). m.kind_or w y k at) e ∙ ap (λ (y : Option ParamWord). m.kind_or y None k at) h

pub kind_before : (w : Option ParamWord) (t : Option ParamType) (k : ParamKind) (at : Scope) → t ≡ None → w ≡ None → m.kind_or w t k at ≡ Ok k
kind_before w t k at e h = ap (λ (y : Option ParamType). m.kind_or w y k at) e ∙ ap (λ (y : Option ParamWord). m.kind_or y None k at) h
