-- Items are taken word by word, and what is begun can be ended.
use Rattle.std.proofs.Common.{◌≡◌, ℕ, zero, suc, ◌+◌, ◌<◌, Bool, true, false, not, ◌&&◌, List, [], ◌∷◌, ◌++◌, length, replicate, codes, None, Some, bytes_eq, refl, ap, ◌∙◌, arith}
use Rattle.std.specs.Prelude.{◌==◌, nat_le, if◌then◌else◌}
use Rattle.std.specs.List.{flat_map, list_all}
use Rattle.std.specs.Cmp.Lexicographic.{bytes_decides}
use Rattle.std.proofs.lemmas.Bool.{not-true, and_parts, and_from, false_from_ne_true, ne_eqb}
use Rattle.std.proofs.lemmas.List.{length-replicate}
use Rattle.sv_outside.specs.declared.refusal.Place.{Place}
use Rattle.fourvec.specs.declared.Bit.{Bit}
use Rattle.vcd_text.specs.declared.waves.VcdVar.{VcdVar}
use Rattle.vcd_text.specs.declared.role.Role.{Role}
use Rattle.vcd_text.specs.declared.role.Role.TheVariants.{Scope, Upscope, Var, Ending, Skipped, Dump, End, Other}
use Rattle.vcd_text.specs.declared.role.Lead.{Lead}
use Rattle.vcd_text.specs.declared.role.Lead.TheVariants.{Time, Scalar, Vector, Real}
use Rattle.vcd_text.specs.declared.waves.VarKind.{VarKind}
use Rattle.vcd_text.specs.declared.waves.VarKind.TheVariants.{Bits}
use Rattle.vcd_text.specs.Words.{Text, Word, begins_with, start}
use Rattle.vcd_text.specs.Forms.{is_code, are_code_bytes, is_end, is_real, are_bits, number_to, value_after, bits_of, role_of, lead_of, kind_of, chain}
use Rattle.vcd_text.specs.Waves.{Item, scope, upscope, var, ending, skipped, dump, dump_end, time, scalar, vector, real, item_words, IsEnd, is_plain, is_open, IsRange, HasForm, Told, may_come, with_item, with_change, with_var, but_last, width_under, agrees, Tell}
use Rattle.vcd_text.specs.Steps.{Wait, between, scope_kind, scope_name, scope_end, up_end, var_kind, var_width, var_code, var_name, var_range, var_end, ending_end, skipping, vector_code, real_code, State, goes, lead_step, change_step, role_step, first_step, wait_step, step, run, is_done}

-- ---- one word

-- a word that may come
pub taken : (s next last : State) (w : Word) (more : List Word) → step s w ≡ Some next → run next more ≡ Some last → run s (w ∷ more) ≡ Some last
unfolding run
taken s next last w more e h = ap (λ o. chain o (λ n. run n more)) e ∙ h

-- the same as a step of an equation
on : (s next : State) (w : Word) (more : List Word) → step s w ≡ Some next → run s (w ∷ more) ≡ run next more
unfolding run
on s next w more e = ap (λ o. chain o (λ n. run n more)) e

abbrev at : Wait → Told → State
at wait told = record { wait = wait; told = told }

first_is : (told : Told) (w : Word) (r : Role) (s : State) → role_of w.text ≡ r → role_step told w.text r ≡ Some s → step (record { wait = between; told = told }) w ≡ Some s
unfolding wait_step first_step
first_is told w r s e h = ap (role_step told w.text) e ∙ h

-- a change or a time
led_is : (told : Told) (w : Word) (first : ℕ) (rest : Text) (l : Lead) (s : State) → role_of w.text ≡ Other → w.text ≡ first ∷ rest → lead_of first ≡ l → told.ended ≡ true → lead_step told rest l ≡ Some s
    → step (record { wait = between; told = told }) w ≡ Some s
unfolding change_step
led_is told w first rest l s r is e ended h =
    first_is told w Other s r
    (ap (change_step told) is ∙ ap (λ b. if b then lead_step told rest (lead_of first) else None) ended ∙ ap (lead_step told rest) e ∙ h)

if_true : {w : Wait} {t : Told} (b : Bool) → b ≡ true → goes b w t ≡ Some (record { wait = w; told = t })
if_true {w} {t} b e = ap (λ x. goes x w t) e

if_plain : {w : Wait} {t : Told} (b : Bool) → b ≡ false → goes (not b) w t ≡ Some (record { wait = w; told = t })
if_plain {w} {t} b e = ap (λ x. goes (not x) w t) e

-- ---- items

skips_all : (told : Told) (text : List Word) (e : Word) (rest : List Word) → list_all is_plain text ≡ true → IsEnd e
    → run (record { wait = skipping; told = told }) ((text ++ e ∷ []) ++ rest) ≡ run (record { wait = between; told = told }) rest
unfolding wait_step
skips_all told [] e rest all pe =
    on (record { wait = skipping; told = told }) (record { wait = between; told = told }) e rest (ap (λ b. goes true (if b then between else skipping) told) pe)
skips_all told (w ∷ text) e rest all pe =
    let parts = and_parts (is_plain w) (list_all is_plain text) all in
    on (record { wait = skipping; told = told }) (record { wait = skipping; told = told }) w ((text ++ e ∷ []) ++ rest) (ap (λ b. goes true (if b then between else skipping) told) (not-true (is_end w.text) parts.0))
    ∙ skips_all told text e rest parts.1 pe

ranges : (told : Told) (kind : VarKind) (width : ℕ) (code name : Text) (place : Place) (range : List Word) (e : Word) (rest : List Word) → IsRange range → IsEnd e
    → run (record { wait = var_range kind width code name place; told = told }) ((range ++ e ∷ []) ++ rest) ≡ run (record { wait = between; told = with_var told kind width code name place }) rest
unfolding wait_step
ranges told kind width code name place [] e rest r pe =
    on (record { wait = var_range kind width code name place; told = told }) (record { wait = between; told = with_var told kind width code name place }) e rest
    (ap (λ b. if b then goes true between (with_var told kind width code name place) else goes (begins_with is_open e.text) (var_end kind width code name place) told) pe)
ranges told kind width code name place (w ∷ []) e rest r pe =
    on (record { wait = var_range kind width code name place; told = told }) (record { wait = var_end kind width code name place; told = told }) w (e ∷ rest)
    (ap (λ b. if b then goes true between (with_var told kind width code name place) else goes (begins_with is_open w.text) (var_end kind width code name place) told) (no_end w.text r)
    ∙ ap (λ b. goes b (var_end kind width code name place) told) r)
    ∙ on (record { wait = var_end kind width code name place; told = told }) (record { wait = between; told = with_var told kind width code name place }) e rest
    (ap (λ b. goes b between (with_var told kind width code name place)) pe)
  where
    no_end : (t : Text) → begins_with is_open t ≡ true → is_end t ≡ false
    no_end t opens = false_from_ne_true (is_end t) (λ same. clash (ap (begins_with is_open) ((bytes_decides t (codes "$end")).0 same)) opens)
      where
        clash : begins_with is_open t ≡ false → begins_with is_open t ≡ true → ⊥
        clash a b = cc
ranges told kind width code name place (w ∷ v ∷ more) e rest r pe = absurd r

pub item_taken : (told : Told) (x : Item) (rest : List Word) → HasForm x → may_come told x ≡ true
    → run (record { wait = between; told = told }) (item_words x ++ rest) ≡ run (record { wait = between; told = with_item told x }) rest
unfolding HasForm may_come with_item item_words wait_step
item_taken told (scope a kind name e) rest form may =
    on (at between told) (at scope_kind told) a (kind ∷ name ∷ e ∷ rest) (first_is told a Scope (at scope_kind told) form.0 (if_true (not told.ended) may))
    ∙ on (at scope_kind told) (at scope_name told) kind (name ∷ e ∷ rest) (if_plain (is_end kind.text) form.1.0)
    ∙ on (at scope_name told) (at (scope_end name.text) told) name (e ∷ rest) (if_plain (is_end name.text) form.1.1.0)
    ∙ on (at (scope_end name.text) told) (at between (record told { scopes = told.scopes ++ name.text ∷ [] })) e rest (if_true (is_end e.text) form.1.1.1)
item_taken told (upscope a e) rest form may =
    on (at between told) (at up_end told) a (e ∷ rest) (first_is told a Upscope (at up_end told) form.0 (if_true (not told.ended && not (length told.scopes == 0)) may))
    ∙ on (at up_end told) (at between (record told { scopes = but_last told.scopes })) e rest (if_true (is_end e.text) form.1)
item_taken told (var a kind width w code name range e) rest form may =
    let mays = and_parts (not told.ended) (agrees (width_under told.vars code.text) width) may in
    on (at between told) (at var_kind told) a (kind ∷ w ∷ code ∷ name ∷ ((range ++ e ∷ []) ++ rest)) (first_is told a Var (at var_kind told) form.0 (if_true (not told.ended) mays.0))
    ∙ on (at var_kind told) (at (var_width (kind_of kind.text)) told) kind (w ∷ code ∷ name ∷ ((range ++ e ∷ []) ++ rest)) (if_plain (is_end kind.text) form.1.0)
    ∙ on (at (var_width (kind_of kind.text)) told) (at (var_code (kind_of kind.text) width) told) w (code ∷ name ∷ ((range ++ e ∷ []) ++ rest)) (ap (λ o. chain o (λ n. goes true (var_code (kind_of kind.text) n) told)) form.1.1.0)
    ∙ on (at (var_code (kind_of kind.text) width) told) (at (var_name (kind_of kind.text) width code.text) told) code (name ∷ ((range ++ e ∷ []) ++ rest))
    (if_true (is_code code.text && agrees (width_under told.vars code.text) width) (and_from (is_code code.text) (agrees (width_under told.vars code.text) width) form.1.1.1.0 mays.1))
    ∙ on (at (var_name (kind_of kind.text) width code.text) told) (at (var_range (kind_of kind.text) width code.text name.text name.place) told) name ((range ++ e ∷ []) ++ rest) (if_plain (is_end name.text) form.1.1.1.1.0)
    ∙ ranges told (kind_of kind.text) width code.text name.text name.place range e rest form.1.1.1.1.1.0 form.1.1.1.1.1.1
item_taken told (ending a e) rest form may =
    on (at between told) (at ending_end told) a (e ∷ rest) (first_is told a Ending (at ending_end told) form.0 (if_true (not told.ended) may))
    ∙ on (at ending_end told) (at between (record told { ended = true })) e rest (if_true (is_end e.text) form.1)
item_taken told (skipped a text e) rest form may =
    on (at between told) (at skipping told) a ((text ++ e ∷ []) ++ rest) (first_is told a Skipped (at skipping told) form.0 refl)
    ∙ skips_all told text e rest form.1.0 form.1.1
item_taken told (dump a) rest form may =
    on (at between told) (at between (record told { dumping = true })) a rest (first_is told a Dump (at between (record told { dumping = true })) form (if_true (told.ended && not told.dumping) may))
item_taken told (dump_end e) rest form may =
    on (at between told) (at between (record told { dumping = false })) e rest (first_is told e End (at between (record told { dumping = false })) form (if_true told.dumping may))
item_taken told (time w first digits t) rest form may =
    let mays = and_parts told.ended (nat_le told.time t) may in
    on (at between told) (at between (record told { time = t })) w rest
    (led_is told w first digits Time (at between (record told { time = t })) form.0 form.1.0 form.1.1.0 mays.0
    (ap (λ o. chain o (λ n. goes (nat_le told.time n) between (record told { time = n }))) form.1.1.1 ∙ if_true (nat_le told.time t) mays.1))
item_taken told (scalar w first b code) rest form may =
    on (at between told) (at between (with_change told code (b ∷ []))) w rest
    (led_is told w first code (Scalar b) (at between (with_change told code (b ∷ []))) form.0 form.1.0 form.1.1.0 may (if_true (is_code code) form.1.1.1))
item_taken told (vector w first digits bits code) rest form may =
    on (at between told) (at (vector_code digits) told) w (code ∷ rest)
    (led_is told w first digits Vector (at (vector_code digits) told) form.0 form.1.0 form.1.1.0 may (if_true (are_bits digits) form.1.1.1.0))
    ∙ on (at (vector_code digits) told) (at between (with_change told code.text bits)) code rest
    (ap (λ o. chain o (λ bs. goes (is_code code.text) between (with_change told code.text bs))) form.1.1.1.1.0 ∙ if_true (is_code code.text) form.1.1.1.1.1)
item_taken told (real w first number code) rest form may =
    on (at between told) (at real_code told) w (code ∷ rest) (led_is told w first number Real (at real_code told) form.0 form.1.0 form.1.1.0 may (if_true (is_real number) form.1.1.1.0))
    ∙ on (at real_code told) (at between told) code rest (if_true (is_code code.text) form.1.1.1.1)

pub items_taken : (told last : Told) (items : List Item) → Tell told items last → run (record { wait = between; told = told }) (flat_map item_words items) ≡ Some (record { wait = between; told = last })
unfolding Tell run
items_taken told last [] t = ap (λ x. Some (record { wait = between; told = x })) t
items_taken told last (x ∷ items) t = item_taken told x (flat_map item_words items) t.0 t.1.0 ∙ items_taken (with_item told x) last items t.1.1

-- ---- ends

-- some words lead to an end
pub record Finishes (s : State) : Type 0 where
  pub rest : List Word
  pub last : State
  pub runs : run s rest ≡ Some last
  pub done : is_done last ≡ true

abbrev word : Text → Word
word t = record { text = t; place = start }

-- a word in front
finishes_on : (s next : State) (w : Word) → step s w ≡ Some next → Finishes next → Finishes s
finishes_on s next w e f = record { rest = w ∷ f.rest; last = f.last; runs = taken s next f.last w f.rest e f.runs; done = f.done }

abbrev end_word : Word
end_word = word (codes "$end")

end_here : (told : Told) → told.ended ≡ true → told.dumping ≡ false → Finishes (record { wait = between; told = told })
unfolding run is_done
end_here told ended calm = record {
  rest = [];
  last = record { wait = between; told = told };
  runs = refl;
  done = and_from told.ended (not told.dumping) ended (ap not calm);
}

out_of_dump : (told : Told) → told.dumping ≡ true → Finishes (record { wait = between; told = record told { dumping = false } }) → Finishes (record { wait = between; told = told })
unfolding role_of
out_of_dump told dumping f =
    finishes_on (at between told) (at between (record told { dumping = false })) end_word
    (first_is told end_word End (at between (record told { dumping = false })) refl (if_true told.dumping dumping)) f

end_open : (told : Told) → told.ended ≡ false → told.dumping ≡ false → Finishes (record { wait = between; told = told })
unfolding role_of wait_step
end_open told early calm =
    finishes_on (at between told) (at ending_end told) (word (codes "$enddefinitions"))
    (first_is told (word (codes "$enddefinitions")) Ending (at ending_end told) refl (if_plain told.ended early))
    (finishes_on (at ending_end told) (at between (record told { ended = true })) end_word refl (end_here (record told { ended = true }) refl calm))

finished_at : (told : Told) (a b : Bool) → told.ended ≡ a → told.dumping ≡ b → Finishes (record { wait = between; told = told })
finished_at told true false ended calm = end_here told ended calm
finished_at told true true ended dumping = out_of_dump told dumping (end_here (record told { dumping = false }) ended refl)
finished_at told false false early calm = end_open told early calm
finished_at told false true early dumping = out_of_dump told dumping (end_open (record told { dumping = false }) early refl)

finished : (told : Told) → Finishes (record { wait = between; told = told })
finished told = finished_at told told.ended told.dumping refl refl

-- ---- a code that no signal has

pub not_nil : (b : ℕ) (t : Text) → not (length (b ∷ t) == 0) ≡ true
not_nil b t = ap not (ne_eqb (length (b ∷ t)) 0 (λ e. omega (arith, e)))

longest : List VcdVar → ℕ
longest [] = 0
longest (v ∷ more) = length v.code + longest more

fresh_is : (vars : List VcdVar) (code : Text) → longest vars < length code → width_under vars code ≡ None
unfolding width_under longest
fresh_is [] code h = refl
fresh_is (v ∷ more) code h =
    let other : bytes_eq code v.code ≡ false = false_from_ne_true (bytes_eq code v.code) (λ same. let e : length code ≡ length v.code = ap length ((bytes_decides code v.code).0 same) in omega (arith, h, e)) in
    ap (λ b. if b then Some v.width else width_under more code) other ∙ fresh_is more code (omega (arith, h))

all_marks : (n : ℕ) → are_code_bytes (replicate n 33) ≡ true
all_marks zero = refl
all_marks (suc n) = all_marks n

abbrev fresh : List VcdVar → Text
fresh vars = replicate (suc (longest vars)) 33

fresh_agrees : (vars : List VcdVar) (width : ℕ) → (is_code (fresh vars) && agrees (width_under vars (fresh vars)) width) ≡ true
fresh_agrees vars width =
    let none : width_under vars (fresh vars) ≡ None = fresh_is vars (fresh vars) (omega (arith, length-replicate {A = ℕ} (suc (longest vars)) 33)) in
    and_from (is_code (fresh vars)) (agrees (width_under vars (fresh vars)) width)
    (and_from (not (length (fresh vars) == 0)) (are_code_bytes (fresh vars)) (not_nil 33 (replicate (longest vars) 33)) (all_marks (longest vars))) (ap (λ o. agrees o width) none)

-- ---- each wait

-- the bits are bits
abbrev pub Fits : Wait → Type 0
Fits (vector_code digits) = (bits : List Bit) × (bits_of digits ≡ Some bits)
Fits wait = Unit {0}

abbrev name_word : Word
name_word = word (codes "a")

from_scope_end : (told : Told) (name : Text) → Finishes (record { wait = scope_end name; told = told })
unfolding wait_step
from_scope_end told name = finishes_on (at (scope_end name) told) (at between (record told { scopes = told.scopes ++ name ∷ [] })) end_word refl (finished (record told { scopes = told.scopes ++ name ∷ [] }))

from_scope_name : (told : Told) → Finishes (record { wait = scope_name; told = told })
unfolding wait_step
from_scope_name told = finishes_on (at scope_name told) (at (scope_end (codes "a")) told) name_word refl (from_scope_end told (codes "a"))

from_var_end : (told : Told) (kind : VarKind) (width : ℕ) (code name : Text) (place : Place) → Finishes (record { wait = var_end kind width code name place; told = told })
unfolding wait_step
from_var_end told kind width code name place = finishes_on (at (var_end kind width code name place) told) (at between (with_var told kind width code name place)) end_word refl (finished (with_var told kind width code name place))

from_var_range : (told : Told) (kind : VarKind) (width : ℕ) (code name : Text) (place : Place) → Finishes (record { wait = var_range kind width code name place; told = told })
unfolding wait_step
from_var_range told kind width code name place = finishes_on (at (var_range kind width code name place) told) (at between (with_var told kind width code name place)) end_word refl (finished (with_var told kind width code name place))

from_var_name : (told : Told) (kind : VarKind) (width : ℕ) (code : Text) → Finishes (record { wait = var_name kind width code; told = told })
unfolding wait_step
from_var_name told kind width code = finishes_on (at (var_name kind width code) told) (at (var_range kind width code (codes "a") start) told) name_word refl (from_var_range told kind width code (codes "a") start)

from_var_code : (told : Told) (kind : VarKind) (width : ℕ) → Finishes (record { wait = var_code kind width; told = told })
unfolding wait_step
from_var_code told kind width =
    finishes_on (at (var_code kind width) told) (at (var_name kind width (fresh told.vars)) told) (word (fresh told.vars))
    (if_true (is_code (fresh told.vars) && agrees (width_under told.vars (fresh told.vars)) width) (fresh_agrees told.vars width)) (from_var_name told kind width (fresh told.vars))

from_var_width : (told : Told) (kind : VarKind) → Finishes (record { wait = var_width kind; told = told })
unfolding wait_step number_to value_after
from_var_width told kind = finishes_on (at (var_width kind) told) (at (var_code kind 1) told) (word (codes "1")) refl (from_var_code told kind 1)

abbrev mark_word : Word
mark_word = word (codes "!")

pub finishes : (wait : Wait) (told : Told) → Fits wait → Finishes (record { wait = wait; told = told })
unfolding wait_step
finishes between told fits = finished told
finishes scope_kind told fits = finishes_on (at scope_kind told) (at scope_name told) name_word refl (from_scope_name told)
finishes scope_name told fits = from_scope_name told
finishes (scope_end name) told fits = from_scope_end told name
finishes up_end told fits = finishes_on (at up_end told) (at between (record told { scopes = but_last told.scopes })) end_word refl (finished (record told { scopes = but_last told.scopes }))
finishes var_kind told fits = finishes_on (at var_kind told) (at (var_width Bits) told) name_word refl (from_var_width told Bits)
finishes (var_width kind) told fits = from_var_width told kind
finishes (var_code kind width) told fits = from_var_code told kind width
finishes (var_name kind width code) told fits = from_var_name told kind width code
finishes (var_range kind width code name place) told fits = from_var_range told kind width code name place
finishes (var_end kind width code name place) told fits = from_var_end told kind width code name place
finishes ending_end told fits = finishes_on (at ending_end told) (at between (record told { ended = true })) end_word refl (finished (record told { ended = true }))
finishes skipping told fits = finishes_on (at skipping told) (at between told) end_word refl (finished told)
finishes (vector_code digits) told fits =
    finishes_on (at (vector_code digits) told) (at between (with_change told (codes "!") fits.0)) mark_word
    (ap (λ o. chain o (λ bs. goes true between (with_change told (codes "!") bs))) fits.1) (finished (with_change told (codes "!") fits.0))
finishes real_code told fits = finishes_on (at real_code told) (at between told) mark_word refl (finished told)
