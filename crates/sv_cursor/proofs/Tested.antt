-- The tokens of which tests tell something are those of the grammar.
use Rattle.std.proofs.Common.{◌≡◌, ℕ, Bool, true, false, List, [], ◌∷◌, Option, Some, None, IsTrue, if◌then◌else◌, codes, refl, sym, ◌∙◌, ap, subst, rules}
use denote.Enum.Bare.{same_true, true_same}
use Rattle.sv_outside.specs.Words.{is_id}
use Rattle.sv_outside.specs.declared.refusal.Place.{Place}
use Rattle.sv_outside.specs.declared.text.Kind.{Kind}
use Rattle.sv_outside.specs.declared.text.Kind.TheVariants as k
use Rattle.sv_outside.specs.declared.text.Token.{Token}
use Rattle.sv_tree.specs.declared.word.Word.{Word}
use Rattle.std.specs.Str.{bytes_eq}
use Rattle.sv_tree.specs.declared.exprs.SystemName.{SystemName}
use Rattle.sv_tree.specs.declared.exprs.SystemName.TheVariants as system_name
use Rattle.sv_tree.specs.GrammarExprs.{system_word}
use Rattle.sv_tree.specs.Spelling.{name, literal, mark_at, key_at, system_at}
use Rattle.sv_cursor.specs.contracts.sort.Keyword as keyword_row
use Rattle.sv_cursor.specs.contracts.sort.Mark as mark_row
use Rattle.sv_cursor.specs.declared.sort.Keyword.{Keyword}
use Rattle.sv_cursor.specs.declared.sort.Mark.{Mark as MarkName}
use Rattle.sv_cursor.specs.declared.sort.Sort.{Sort}
use Rattle.sv_cursor.specs.declared.sort.Sort.TheVariants as s
use Rattle.sv_cursor.specs.Sorts.{keyword, mark, system, keyword_or_id, mark_sort, system_sort, kind_sort, sort, keyword_text, mark_text}
use Rattle.sv_cursor.specs.Tests.{same_mark, same_keyword, is_mark, is_keyword, if_so, mark_test, keyword_test, id_by, literal_by, id_test, literal_test, system_by, system_test}
use Rattle.sv_cursor.proofs.Readers.{Told}
use Rattle.sv_cursor.proofs.Sorted.{keyword_found, mark_found, keyword_is, mark_is, keyword_no_id, equal}

-- ---- marks

word_no_mark : (q : Option Keyword) (text : List ℕ) (m : MarkName) → keyword_or_id q text ≡ s.Mark m → ⊥
word_no_mark (Some x) text m h = cc
word_no_mark None text m h = by_id (is_id text) h
  where
    by_id : (b : Bool) → (if b then s.Id else s.Other) ≡ s.Mark m → ⊥
    by_id true h = cc
    by_id false h = cc

mark_of_sort : (q : Option MarkName) (m : MarkName) → mark_sort q ≡ s.Mark m → q ≡ Some m
mark_of_sort (Some x) m h = let e : x ≡ m = cc in ap Some e
mark_of_sort None m h = absurd (cc)

system_no_mark : (q : Option _) (m : MarkName) → system_sort q ≡ s.Mark m → ⊥
system_no_mark (Some x) m h = cc
system_no_mark None m h = cc

pub sort_mark : (kd : Kind) (text : List ℕ) (m : MarkName) → kind_sort kd text ≡ s.Mark m → (kd ≡ k.Mark) × (text ≡ mark_text m)
sort_mark k.Word text m h = absurd (word_no_mark (keyword text) text m h)
sort_mark k.Mark text m h = (refl, mark_found text m (mark_of_sort (mark text) m h))
sort_mark k.System text m h = absurd (system_no_mark (system text) m h)
sort_mark k.Literal text m h = absurd (cc)
sort_mark k.Quoted text m h = absurd (cc)
sort_mark k.Directive text m h = absurd (cc)
sort_mark k.Continue text m h = absurd (cc)

pub mark_here : (a : Token) (m : MarkName) → a.kind ≡ k.Mark → a.text ≡ mark_text m → sort a ≡ s.Mark m
unfolding sort
mark_here a m e f = ap (λ kd. kind_sort kd a.text) e ∙ (ap (λ t. mark_sort (mark t)) f ∙ ap mark_sort (mark_is m))

so_some : {A : Type 0} (b : Bool) (x y : A) → if_so b x ≡ Some y → (b ≡ true) × (x ≡ y)
so_some true x y h = (refl, cc)
so_some false x y h = absurd (cc)

is_mark_so : (m : MarkName) (x : Sort) → is_mark m x ≡ true → x ≡ s.Mark m
unfolding same_mark
is_mark_so m (s.Mark n) h = ap s.Mark (same_true mark_row.the_type (search rules) n m h)
is_mark_so m _ h = absurd (cc)

pub mark_told : (m : MarkName) (a : Token) (p : Place) → mark_test m a ≡ Some p → (a.kind ≡ k.Mark) × (a.text ≡ mark_text m) × (a.place ≡ p)
unfolding mark_test sort
mark_told m a p h =
    let g = so_some (is_mark m (sort a)) a.place p h in
    let e = sort_mark a.kind a.text m (is_mark_so m (sort a) g.0) in (e.0, e.1, g.1)

pub mark_tells : (m : MarkName) (a : Token) (p : Place) → (a.kind ≡ k.Mark) × (a.text ≡ mark_text m) × (a.place ≡ p) → mark_test m a ≡ Some p
unfolding mark_test same_mark
mark_tells m a p h = rw (mark_here a m h.0 h.1) (rw (true_same mark_row.the_type m m refl) (ap Some h.2))

pub mark_at_of : (m : MarkName) (p : Place) (i o : List Token) → Told (mark_test m) p i o → mark_at (mark_text m) p i o
mark_at_of m p [] o h = absurd h
mark_at_of m p (a ∷ i) o h = (mark_told m a p h.0, h.1)

pub told_of_mark_at : (m : MarkName) (p : Place) (i o : List Token) → mark_at (mark_text m) p i o → Told (mark_test m) p i o
told_of_mark_at m p [] o h = absurd h
told_of_mark_at m p (a ∷ i) o h = (mark_tells m a p h.0, h.1)

-- ---- literals

if_no_literal : (b : Bool) → (if b then s.Id else s.Other) ≡ s.Literal → ⊥
if_no_literal true h = cc
if_no_literal false h = cc

word_no_literal : (q : Option Keyword) (text : List ℕ) → keyword_or_id q text ≡ s.Literal → ⊥
word_no_literal (Some x) text h = cc
word_no_literal None text h = if_no_literal (is_id text) h

mark_no_literal : (q : Option MarkName) → mark_sort q ≡ s.Literal → ⊥
mark_no_literal (Some x) h = cc
mark_no_literal None h = cc

system_no_literal : (q : Option SystemName) → system_sort q ≡ s.Literal → ⊥
system_no_literal (Some x) h = cc
system_no_literal None h = cc

sort_literal : (kd : Kind) (text : List ℕ) → kind_sort kd text ≡ s.Literal → kd ≡ k.Literal
sort_literal k.Word text h = absurd (word_no_literal (keyword text) text h)
sort_literal k.Mark text h = absurd (mark_no_literal (mark text) h)
sort_literal k.System text h = absurd (system_no_literal (system text) h)
sort_literal k.Literal text h = refl
sort_literal k.Quoted text h = absurd (cc)
sort_literal k.Directive text h = absurd (cc)
sort_literal k.Continue text h = absurd (cc)

literal_by_so : (x : Sort) (r w : Word) → literal_by x r ≡ Some w → (x ≡ s.Literal) × (r ≡ w)
literal_by_so s.Literal r w h = (refl, cc)
literal_by_so _ r w h = absurd (cc)

pub literal_here : (a : Token) → a.kind ≡ k.Literal → sort a ≡ s.Literal
unfolding sort
literal_here a e = ap (λ kd. kind_sort kd a.text) e

pub literal_of : (w : Word) (i o : List Token) → Told literal_test w i o → literal w i o
unfolding literal_test sort
literal_of w [] o h = absurd h
literal_of w (a ∷ i) o h =
    let g = literal_by_so (sort a) (record { text = a.text; place = a.place }) w h.0 in
    ((sort_literal a.kind a.text g.0, ap (λ (w : Word). w.text) g.1, ap (λ (w : Word). w.place) g.1), h.1)

pub told_of_literal : (w : Word) (i o : List Token) → literal w i o → Told literal_test w i o
unfolding literal_test
told_of_literal w [] o h = absurd h
told_of_literal w (a ∷ i) o h =
    (rw (literal_here a h.0.0) (let e : ◌≡◌ {A = Word} (record { text = a.text; place = a.place }) w = (λ i. record { text = h.0.1 i; place = h.0.2 i }) in ap Some e), h.1)

-- ---- names

if_id : (b : Bool) → (if b then s.Id else s.Other) ≡ s.Id → b ≡ true
if_id true h = refl
if_id false h = absurd (cc)

word_id : (q : Option Keyword) (text : List ℕ) → keyword_or_id q text ≡ s.Id → is_id text ≡ true
word_id (Some x) text h = absurd (cc)
word_id None text h = if_id (is_id text) h

mark_no_id : (q : Option MarkName) → mark_sort q ≡ s.Id → ⊥
mark_no_id (Some x) h = cc
mark_no_id None h = cc

system_no_id : (q : Option SystemName) → system_sort q ≡ s.Id → ⊥
system_no_id (Some x) h = cc
system_no_id None h = cc

sort_id : (kd : Kind) (text : List ℕ) → kind_sort kd text ≡ s.Id → (kd ≡ k.Word) × (is_id text ≡ true)
sort_id k.Word text h = (refl, word_id (keyword text) text h)
sort_id k.Mark text h = absurd (mark_no_id (mark text) h)
sort_id k.System text h = absurd (system_no_id (system text) h)
sort_id k.Literal text h = absurd (cc)
sort_id k.Quoted text h = absurd (cc)
sort_id k.Directive text h = absurd (cc)
sort_id k.Continue text h = absurd (cc)

no_keyword : (text : List ℕ) (q : Option Keyword) → keyword text ≡ q → is_id text ≡ true → q ≡ None
no_keyword text None e h = refl
no_keyword text (Some x) e h = let f : is_id text ≡ false = ap is_id (keyword_found text x e) ∙ keyword_no_id x in absurd (cc)

pub id_here : (a : Token) → a.kind ≡ k.Word → is_id a.text ≡ true → sort a ≡ s.Id
unfolding sort
id_here a e h =
    ap (λ kd. kind_sort kd a.text) e ∙ (ap (λ q. keyword_or_id q a.text) (no_keyword a.text (keyword a.text) refl h) ∙ ap (λ b. if b then s.Id else s.Other) h)

id_by_so : (x : Sort) (r w : Word) → id_by x r ≡ Some w → (x ≡ s.Id) × (r ≡ w)
id_by_so s.Id r w h = (refl, cc)
id_by_so _ r w h = absurd (cc)

pub name_of : (w : Word) (i o : List Token) → Told id_test w i o → name w i o
unfolding id_test sort
name_of w [] o h = absurd h
name_of w (a ∷ i) o h =
    let g = id_by_so (sort a) (record { text = a.text; place = a.place }) w h.0 in
    let f = sort_id a.kind a.text g.0 in
    ((f.0, ap (λ (w : Word). w.text) g.1, ap (λ (w : Word). w.place) g.1, subst (λ t. IsTrue (is_id t)) (ap (λ (w : Word). w.text) g.1) f.1), h.1)

pub told_of_name : (w : Word) (i o : List Token) → name w i o → Told id_test w i o
unfolding id_test
told_of_name w [] o h = absurd h
told_of_name w (a ∷ i) o h =
    (rw (id_here a h.0.0 (subst (λ t. IsTrue (is_id t)) (sym h.0.1) h.0.3)) (let e : ◌≡◌ {A = Word} (record { text = a.text; place = a.place }) w = (λ i. record { text = h.0.1 i; place = h.0.2 i }) in ap Some e), h.1)

-- ---- keywords

if_no_keyword : (b : Bool) (x : Keyword) → (if b then s.Id else s.Other) ≡ s.Keyword x → ⊥
if_no_keyword true x h = cc
if_no_keyword false x h = cc

word_keyword : (q : Option Keyword) (text : List ℕ) (x : Keyword) → keyword_or_id q text ≡ s.Keyword x → q ≡ Some x
word_keyword (Some y) text x h = let e : y ≡ x = cc in ap Some e
word_keyword None text x h = absurd (if_no_keyword (is_id text) x h)

mark_no_keyword : (q : Option MarkName) (x : Keyword) → mark_sort q ≡ s.Keyword x → ⊥
mark_no_keyword (Some y) x h = cc
mark_no_keyword None x h = cc

system_no_keyword : (q : Option SystemName) (x : Keyword) → system_sort q ≡ s.Keyword x → ⊥
system_no_keyword (Some y) x h = cc
system_no_keyword None x h = cc

sort_keyword : (kd : Kind) (text : List ℕ) (x : Keyword) → kind_sort kd text ≡ s.Keyword x → (kd ≡ k.Word) × (text ≡ keyword_text x)
sort_keyword k.Word text x h = (refl, keyword_found text x (word_keyword (keyword text) text x h))
sort_keyword k.Mark text x h = absurd (mark_no_keyword (mark text) x h)
sort_keyword k.System text x h = absurd (system_no_keyword (system text) x h)
sort_keyword k.Literal text x h = absurd (cc)
sort_keyword k.Quoted text x h = absurd (cc)
sort_keyword k.Directive text x h = absurd (cc)
sort_keyword k.Continue text x h = absurd (cc)

pub keyword_here : (a : Token) (x : Keyword) → a.kind ≡ k.Word → a.text ≡ keyword_text x → sort a ≡ s.Keyword x
unfolding sort
keyword_here a x e f = ap (λ kd. kind_sort kd a.text) e ∙ (ap (λ t. keyword_or_id (keyword t) t) f ∙ ap (λ q. keyword_or_id q (keyword_text x)) (keyword_is x))

is_keyword_so : (x : Keyword) (y : Sort) → is_keyword x y ≡ true → y ≡ s.Keyword x
unfolding same_keyword
is_keyword_so x (s.Keyword n) h = ap s.Keyword (same_true keyword_row.the_type (search rules) n x h)
is_keyword_so x _ h = absurd (cc)

pub key_at_of : (x : Keyword) (p : Place) (i o : List Token) → Told (keyword_test x) p i o → key_at (keyword_text x) p i o
unfolding keyword_test sort
key_at_of x p [] o h = absurd h
key_at_of x p (a ∷ i) o h =
    let g = so_some (is_keyword x (sort a)) a.place p h.0 in
    let e = sort_keyword a.kind a.text x (is_keyword_so x (sort a) g.0) in ((e.0, e.1, g.1), h.1)

pub told_of_key_at : (x : Keyword) (p : Place) (i o : List Token) → key_at (keyword_text x) p i o → Told (keyword_test x) p i o
unfolding keyword_test same_keyword
told_of_key_at x p [] o h = absurd h
told_of_key_at x p (a ∷ i) o h = (rw (keyword_here a x h.0.0 h.0.1) (rw (true_same keyword_row.the_type x x refl) (ap Some h.0.2)), h.1)

-- ---- system names

system_by_bytes : (text : List ℕ) (a b c : Bool) (f : SystemName) → bytes_eq text (codes "$signed") ≡ a → bytes_eq text (codes "$unsigned") ≡ b → bytes_eq text (codes "$clog2") ≡ c
    → (if a then Some system_name.Signed else (if b then Some system_name.Unsigned else (if c then Some system_name.Clog2 else None))) ≡ Some f → text ≡ system_word f
system_by_bytes text true b c f x y z h = let e : system_name.Signed ≡ f = cc in equal text (codes "$signed") x ∙ ap system_word e
system_by_bytes text false true c f x y z h = let e : system_name.Unsigned ≡ f = cc in equal text (codes "$unsigned") y ∙ ap system_word e
system_by_bytes text false false true f x y z h = let e : system_name.Clog2 ≡ f = cc in equal text (codes "$clog2") z ∙ ap system_word e
system_by_bytes text false false false f x y z h = absurd (cc)

system_found : (text : List ℕ) (f : SystemName) → system text ≡ Some f → text ≡ system_word f
unfolding system
system_found text f h = system_by_bytes text _ _ _ f refl refl refl h

system_is : (f : SystemName) → system (system_word f) ≡ Some f
unfolding system
system_is system_name.Signed = refl
system_is system_name.Unsigned = refl
system_is system_name.Clog2 = refl

if_no_system : (b : Bool) (f : SystemName) → (if b then s.Id else s.Other) ≡ s.System f → ⊥
if_no_system true f h = cc
if_no_system false f h = cc

word_no_system : (q : Option Keyword) (text : List ℕ) (f : SystemName) → keyword_or_id q text ≡ s.System f → ⊥
word_no_system (Some x) text f h = cc
word_no_system None text f h = if_no_system (is_id text) f h

mark_no_system : (q : Option MarkName) (f : SystemName) → mark_sort q ≡ s.System f → ⊥
mark_no_system (Some x) f h = cc
mark_no_system None f h = cc

system_of_sort : (q : Option SystemName) (f : SystemName) → system_sort q ≡ s.System f → q ≡ Some f
system_of_sort (Some x) f h = let e : x ≡ f = cc in ap Some e
system_of_sort None f h = absurd (cc)

sort_system : (kd : Kind) (text : List ℕ) (f : SystemName) → kind_sort kd text ≡ s.System f → (kd ≡ k.System) × (text ≡ system_word f)
sort_system k.Word text f h = absurd (word_no_system (keyword text) text f h)
sort_system k.Mark text f h = absurd (mark_no_system (mark text) f h)
sort_system k.System text f h = (refl, system_found text f (system_of_sort (system text) f h))
sort_system k.Literal text f h = absurd (cc)
sort_system k.Quoted text f h = absurd (cc)
sort_system k.Directive text f h = absurd (cc)
sort_system k.Continue text f h = absurd (cc)

pub system_here : (a : Token) (f : SystemName) → a.kind ≡ k.System → a.text ≡ system_word f → sort a ≡ s.System f
unfolding sort
system_here a f e g = ap (λ kd. kind_sort kd a.text) e ∙ (ap (λ t. system_sort (system t)) g ∙ ap system_sort (system_is f))

system_by_so : (x : Sort) (p : Place) (c : SystemName × Place) → system_by x p ≡ Some c → (x ≡ s.System c.0) × (p ≡ c.1)
system_by_so (s.System f) p c h = let e : ◌≡◌ {A = SystemName × Place} (f, p) c = cc in (ap (λ c. s.System c.0) e, ap (λ c. c.1) e)
system_by_so _ p c h = absurd (cc)

pub system_at_of : (c : SystemName × Place) (i o : List Token) → Told system_test c i o → system_at (system_word c.0) c.1 i o
unfolding system_test sort
system_at_of c [] o h = absurd h
system_at_of c (a ∷ i) o h =
    let g = system_by_so (sort a) a.place c h.0 in
    let e = sort_system a.kind a.text c.0 g.0 in ((e.0, e.1, g.1), h.1)

pub told_of_system_at : (c : SystemName × Place) (i o : List Token) → system_at (system_word c.0) c.1 i o → Told system_test c i o
unfolding system_test
told_of_system_at c [] o h = absurd h
told_of_system_at c (a ∷ i) o h = (rw (system_here a c.0 h.0.0 h.0.1) (ap (λ p. Some (c.0, p)) h.0.2), h.1)
