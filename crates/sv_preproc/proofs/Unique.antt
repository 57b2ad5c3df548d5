-- A text stands for one list at most.
use Rattle.std.proofs.Common.{◌≡◌, ℕ, zero, suc, ◌+◌, List, [], ◌∷◌, ◌++◌, Bool, true, refl, sym, ◌∙◌, ap, subst, length, drop, Option, Some, None}
use Rattle.std.specs.Prelude.{◌&&◌, ◌||◌, not}
use Rattle.sv_outside.specs.declared.text.Token.{Token}
use Rattle.sv_outside.specs.declared.refusal.Place.{Place}
use Rattle.sv_outside.specs.Text.{TokenList}
use Rattle.sv_token.specs.declared.lexer.Lined.{Lined}
use Rattle.sv_token.specs.Cut.{LexesLines, past, start}
use Rattle.sv_token.proofs.Cutting.{one_way}
use Rattle.sv_preproc.specs.declared.role.Role.{Role}
use Rattle.sv_preproc.specs.declared.role.Role.TheVariants as role
use Rattle.sv_preproc.specs.Roles.{role_of}
use Rattle.std.specs.Prelude.{IfSome}
use Rattle.sv_preproc.specs.Laws.{Told, Possible}
use Rattle.sv_preproc.specs.Directives as spec
use Rattle.sv_preproc.specs.Directives.{Macros, Expands, placed, Item, State, Part, branch, choice, Contents, Relation, Turn, Choose, Elsif, Level, Stands, Holds, IsFile, IsText, has, is_taken, name_of, with_definition, with_count, entered, deepest_use, deepest_include}

-- ---- macros' texts

kept_used : (a : Token) → role_of a ≡ role.Kept → role_of a ≡ role.Used → ⊥
kept_used a e f = let bad : role.Kept ≡ role.Used = sym e ∙ f in cc

pub same_text : (name : List ℕ) (macros : Macros) (a b : List Token) → macros name ≡ Some a → macros name ≡ Some b → a ≡ b
same_text name macros a b e f = let h : Some a ≡ Some b = sym e ∙ f in cc

joined : (a b c d : List Token) → a ≡ b → c ≡ d → a ++ c ≡ b ++ d
joined a b c d e f = rw (e, f) refl

summed : (a b c d : ℕ) → a ≡ b → c ≡ d → a + c + 1 ≡ b + d + 1
summed a b c d e f = rw (e, f) refl

pub one_expansion : {macros : Macros} {place : Place} {depth other m n : ℕ} {text a b : List Token} → Expands macros place depth text a m → Expands macros place other text b n → (a ≡ b) × (m ≡ n)
one_expansion spec.ended spec.ended = (refl, refl)
one_expansion {place = place} (spec.kept {a = a} e x) (spec.kept f y) = let h = one_expansion x y in (ap (λ i. placed place a ∷ i) h.0, ap (λ i. i + 1) h.1)
one_expansion (spec.kept {a = a} e x) (spec.used f l y z) = absurd (kept_used a e f)
one_expansion (spec.used {a = a} e l x y) (spec.kept f z) = absurd (kept_used a f e)
one_expansion {macros = macros} {place = place} (spec.used {m = m} {n = n} {a = a} {inner = i} {front = front} {out = out} e l x y) (spec.used {depth = d} {m = m'} {n = n'} {inner = j} {front = front'} {out = out'} f k z w) =
    let same = same_text (name_of a) macros i j l k in
    let g = one_expansion x (subst (λ t. Expands macros place d t front' m') (sym same) z) in
    let h = one_expansion y w in
    (joined front front' out out' g.0 h.0, summed m m' n n' g.1 h.1)

-- ---- levels

pub record Same (o p : List Token) (s t : State) (u v : List Lined) : Type 0 where
  pub out : o ≡ p
  pub state : s ≡ t
  pub rest : u ≡ v

abbrev Agrees : Relation → Relation → Type 0
Agrees G H = (room : ℕ) (part : Part) (s : State) (from : List Lined) (o : List Token) (s1 : State) (t : List Lined) (p : List Token) (s2 : State) (u : List Lined)
    → G room part s from o s1 t → H room part s from p s2 u → Same o p s1 s2 t u

-- what one says of a file is what the other says
abbrev pub Agree : Contents → Contents → Type 0
Agree C D = (name text other : List ℕ) → C name text → D name other → text ≡ other

pub one_file : (C D : Contents) → Agree C D → (number : ℕ) (name text other : List ℕ) (a b : List Lined) → IsFile C number name text a → IsFile D number name other b → (text ≡ other) × (a ≡ b)
one_file C D one number name text other a b h k =
    let same = one name text other h.held k.held in
    (same, one_way h.cut (subst (λ i. LexesLines number i b) (sym same) k.cut))

moved : (H : Relation) (room : ℕ) (part : Part) (s r : State) (from other : List Lined) (out : List Token) (after : State) (to : List Lined) → s ≡ r → from ≡ other
    → H room part r other out after to → H room part s from out after to
moved H room part s r from other out after to e f h =
    subst (λ i. H room part i from out after to) (sym e) (subst (λ i. H room part r i out after to) (sym f) h)

turn_one : (C D : Contents) (G H : Relation) → Agree C D → Agrees G H → (i : Item) (room : ℕ) (live : Bool) (s : State) (from : List Lined) (o : List Token) (s1 : State) (t : List Lined) (p : List Token) (s2 : State) (u : List Lined)
    → Turn C G room live s i from o s1 t → Turn D H room live s i from p s2 u → Same o p s1 s2 t u
turn_one C D G H one agrees spec.ended room live s from o s1 t p s2 u h k = record { out = h.0 ∙ sym k.0; state = h.1 ∙ sym k.1; rest = h.2 ∙ sym k.2 }
turn_one C D G H one agrees (spec.kept a rest) room live s from o s1 t p s2 u h k =
    let r = agrees room (branch live) s rest h.0 s1 t k.0 s2 u h.2 k.2 in
    record { out = h.1 ∙ ap (λ i. a ∷ i) r.out ∙ sym k.1; state = r.state; rest = r.rest }
turn_one C D G H one agrees (spec.passed rest) room live s from o s1 t p s2 u h k = agrees room (branch live) s rest o s1 t p s2 u h k
turn_one C D G H one agrees (spec.used a rest) room live s from o s1 t p s2 u h k =
    let same = same_text (name_of a) s.macros h.0 k.0 h.4 k.4 in
    let ex = one_expansion h.5 (subst (λ i. Expands s.macros a.place deepest_use i k.1 k.3) (sym same) k.5) in
    let r = agrees room (branch live) (with_count s h.3) rest h.2 s1 t k.2 s2 u h.7 (subst (λ n. H room (branch live) (with_count s n) rest k.2 s2 u) (sym ex.1) k.7) in
    record { out = h.6 ∙ joined h.1 k.1 h.2 k.2 ex.0 r.out ∙ sym k.6; state = r.state; rest = r.rest }
turn_one C D G H one agrees (spec.defined name text rest) room live s from o s1 t p s2 u h k =
    agrees room (branch live) (with_definition s name (Some text)) rest o s1 t p s2 u h k
turn_one C D G H one agrees (spec.forgotten name rest) room live s from o s1 t p s2 u h k =
    agrees room (branch live) (with_definition s name None) rest o s1 t p s2 u h k
turn_one C D G H one agrees (spec.included a name rest) room live s from o s1 t p s2 u h k =
    let same : suc h.0 ≡ suc k.0 = sym h.6 ∙ k.6 in
    let less : h.0 ≡ k.0 = cc in
    let file = one_file C D one (length s.files) name h.1 k.1 h.2 k.2 h.7 k.7 in
    let g = agrees h.0 (branch true) (entered s name h.2) h.2 h.3 h.5 [] k.3 k.5 [] h.8
    (subst (λ i. H i (branch true) (entered s name h.2) h.2 k.3 k.5 []) (sym less) (subst (λ i. H k.0 (branch true) (entered s name i) i k.3 k.5 []) (sym file.1) k.8)) in
    let r = agrees room (branch live) h.5 rest h.4 s1 t k.4 s2 u h.10 (moved H room (branch live) h.5 k.5 rest rest k.4 s2 u g.state refl k.10) in
    record { out = h.9 ∙ joined h.3 k.3 h.4 k.4 g.out r.out ∙ sym k.9; state = r.state; rest = r.rest }
turn_one C D G H one agrees (spec.opened wanted name rest) room live s from o s1 t p s2 u h k =
    let holds : Bool = is_taken wanted name s.macros in
    let a = agrees room (branch (live && holds)) s rest h.0 h.3 h.5 k.0 k.3 k.5 h.7 k.7 in
    let b = agrees room (choice live holds) h.3 h.5 h.1 h.4 h.6 k.1 k.4 k.6 h.8 (moved H room (choice live holds) h.3 k.3 h.5 k.5 k.1 k.4 k.6 a.state a.rest k.8) in
    let c = agrees room (branch live) h.4 h.6 h.2 s1 t k.2 s2 u h.10 (moved H room (branch live) h.4 k.4 h.6 k.6 k.2 s2 u b.state b.rest k.10) in
    record { out = h.9 ∙ joined h.0 k.0 (h.1 ++ h.2) (k.1 ++ k.2) a.out (joined h.1 k.1 h.2 k.2 b.out c.out) ∙ sym k.9; state = c.state; rest = c.rest }
turn_one C D G H one agrees (spec.broken number place) room live s from o s1 t p s2 u h k = absurd h

elsif_one : (G H : Relation) → Agrees G H → (room : ℕ) (live taken : Bool) (s : State) (ts : List Lined) (o : List Token) (s1 : State) (t : List Lined) (p : List Token) (s2 : State) (u : List Lined)
    → Elsif G room live taken s ts o s1 t → Elsif H room live taken s ts p s2 u → Same o p s1 s2 t u
elsif_one G H agrees room live taken s [] o s1 t p s2 u h k = absurd h
elsif_one G H agrees room live taken s (name ∷ ts) o s1 t p s2 u h k =
    let x = agrees room (branch (live && not taken && has name.token.text s.macros)) s ts h.0 h.2 h.3 k.0 k.2 k.3 h.5 k.5 in
    let y = agrees room (choice live (taken || has name.token.text s.macros)) h.2 h.3 h.1 s1 t k.1 s2 u h.6
    (moved H room (choice live (taken || has name.token.text s.macros)) h.2 k.2 h.3 k.3 k.1 s2 u x.state x.rest k.6) in
    record { out = h.7 ∙ joined h.0 k.0 h.1 k.1 x.out y.out ∙ sym k.7; state = y.state; rest = y.rest }

choose_one : (G H : Relation) → Agrees G H → (r : Role) (room : ℕ) (live taken : Bool) (s : State) (ts : List Lined) (o : List Token) (s1 : State) (t : List Lined) (p : List Token) (s2 : State) (u : List Lined)
    → Choose G r room live taken s ts o s1 t → Choose H r room live taken s ts p s2 u → Same o p s1 s2 t u
choose_one G H agrees role.Endif room live taken s ts o s1 t p s2 u h k = record { out = h.0 ∙ sym k.0; state = h.1 ∙ sym k.1; rest = h.2 ∙ sym k.2 }
choose_one G H agrees role.Else room live taken s ts o s1 t p s2 u h k =
    let x = agrees room (branch (live && not taken)) s ts o s1 (h.0 ∷ t) p s2 (k.0 ∷ u) h.2 k.2 in
    record { out = x.out; state = x.state; rest = ap (drop 1) x.rest }
choose_one G H agrees role.Elsif room live taken s ts o s1 t p s2 u h k = elsif_one G H agrees room live taken s ts o s1 t p s2 u h k
choose_one G H agrees role.Kept room live taken s ts o s1 t p s2 u h k = absurd h
choose_one G H agrees role.Continued room live taken s ts o s1 t p s2 u h k = absurd h
choose_one G H agrees role.Used room live taken s ts o s1 t p s2 u h k = absurd h
choose_one G H agrees role.Define room live taken s ts o s1 t p s2 u h k = absurd h
choose_one G H agrees role.Undef room live taken s ts o s1 t p s2 u h k = absurd h
choose_one G H agrees role.Ifdef room live taken s ts o s1 t p s2 u h k = absurd h
choose_one G H agrees role.Ifndef room live taken s ts o s1 t p s2 u h k = absurd h
choose_one G H agrees role.Include room live taken s ts o s1 t p s2 u h k = absurd h
choose_one G H agrees role.Line room live taken s ts o s1 t p s2 u h k = absurd h

level_one : (C D : Contents) (G H : Relation) → Agree C D → Agrees G H → Agrees (Level C G) (Level D H)
level_one C D G H one agrees room (branch live) s from o s1 t p s2 u h k = turn_one C D G H one agrees (spec.item live from) room live s from o s1 t p s2 u h k
level_one C D G H one agrees room (choice live taken) s [] o s1 t p s2 u h k = absurd h
level_one C D G H one agrees room (choice live taken) s (a ∷ ts) o s1 t p s2 u h k = choose_one G H agrees (role_of a.token) room live taken s ts o s1 t p s2 u h k

stands_one : (C D : Contents) → Agree C D → (m n : ℕ) → Agrees (Stands C m) (Stands D n)
unfolding Stands
stands_one C D one zero n room part s from o s1 t p s2 u h k = absurd h
stands_one C D one (suc m) zero room part s from o s1 t p s2 u h k = absurd k
stands_one C D one (suc m) (suc n) room part s from o s1 t p s2 u h k = level_one C D (Stands C m) (Stands D n) one (stands_one C D one m n) room part s from o s1 t p s2 u h k

-- a part stands for one list, and ends in one way
pub holds_one : (C D : Contents) → Agree C D → Agrees (Holds C) (Holds D)
holds_one C D one room part s from o s1 t p s2 u h k = stands_one C D one h.0 k.0 room part s from o s1 t p s2 u h.1 k.1

lists : (a b : TokenList) → a.list ≡ b.list → a.files ≡ b.files → a.end ≡ b.end → a ≡ b
lists a b e f g = ap (λ (x : List Token). record { list = x; files = a.files; end = a.end }) e ∙ ap (λ (x : List (List ℕ)). record { list = b.list; files = x; end = a.end }) f
    ∙ ap (λ (x : Place). record { list = b.list; files = b.files; end = x }) g

pub one_list : (C D : Contents) → Agree C D → (main : List ℕ) (a b : TokenList) (s t : State) → IsText C main a s → IsText D main b t → a ≡ b
one_list C D one main a b s t h k =
    let file = one_file C D one 0 main h.text k.text h.tokens k.tokens h.file k.file in
    let r = holds_one C D one deepest_include (branch true) (entered spec.at_first main h.tokens) h.tokens a.list s [] b.list t [] h.stands
    (subst (λ i. Holds D deepest_include (branch true) (entered spec.at_first main i) i b.list t []) (sym file.1) k.stands) in
    lists a b r.out (h.files ∙ ap (λ i. i.files) r.state ∙ sym k.files) (h.end ∙ ap (past (start 0)) file.0 ∙ sym k.end)

pub told_once : (told : List ℕ → Option (List ℕ)) → Agree (Told told) (Told told)
told_once told name text other e f = let h : Some text ≡ Some other = sym e ∙ f in cc

pub possible_told : (told : List ℕ → Option (List ℕ)) → Agree (Possible told) (Told told)
possible_told told name text other h e = let P : Option (List ℕ) → Type 0 = λ o. IfSome o (λ own. text ≡ own) in subst P e h

pub told_possible : (told : List ℕ → Option (List ℕ)) → Agree (Told told) (Possible told)
told_possible told name text other e h = sym (possible_told told name other text h e)
