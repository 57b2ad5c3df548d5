-- Names with their selects.
use Rattle.std.proofs.Common.{◌≡◌, ℕ, ◌-◌, ◌*◌, ◌≤◌, Bool, true, false, ◌&&◌, nat_lt, List, [], ◌∷◌, ◌++◌, length, Option, Some, None, refl, sym, ap, ◌∙◌, subst, arith, pos, if◌then◌else◌, Bor, option_map}
use Rattle.std.specs.Option.{option_copied}
use Rattle.sv_names.specs.declared.layout.What.{What as What'}
use Rattle.sv_names.specs.Kinds.{what_is}
use Rattle.std.proofs.lemmas.Bool.Decides.{nat_tests}
use Rattle.std.proofs.lemmas.Int.{ints}
use Rattle.std.specs.List.{Contains, All}
use Rattle.fourvec.specs.declared.Bit.{Bit}
use Rattle.sv_outside.specs.declared.refusal.Place.{Place}
use Rattle.sv_outside.specs.declared.refusal.TextErr.{TextErr}
use Rattle.sv_outside.specs.declared.refusal.TextErr.TheVariants.{No}
use Rattle.sv_tree.specs.declared.word.Word.{Word}
use Rattle.sv_meaning.specs.Faults.{Faults, not_constant, unknown_name}
use Rattle.sv_meaning.specs.Layouts.{Layout, width, is_signed, plain, count_between, What, number_is, type_is, signal_is, genvar_is, Origin, NamedSignal, Read}
use Rattle.sv_meaning.specs.Meanings.{Meaning, Step, chain_layout, chain_faults, chain_bits, all_indices, selected, constant_named, named, index_faults, extend, bits_from}
use Rattle.sv_typed.specs.declared.tree.Pick.{Pick}
use Rattle.sv_typed.specs.declared.tree.Root.{Root}
use Rattle.sv_typed.specs.declared.tree.Root.TheVariants.{Number, Signal}
use Rattle.sv_typed.specs.declared.tree.Typed.{Typed}
use Rattle.sv_typed.specs.Typed.{IsNamed, Stands, IsSound, RootIsSound, PickIsSound, origin_is, root_width, root_bits, root_names, root_is_constant, picked, picked_width, are_constant_picks, names_picked}
use Rattle.sv_names.specs.declared.cursor.Cursor.{Cursor}
use Rattle.sv_typing.specs.declared.chain.Chain.{Chain}
use Rattle.sv_names.specs.Cursors.{cursor_is}
use Rattle.sv_typing.specs.Judging.{IsTyped, IsCause}
use Rattle.sv_typing.specs.Picks.{Follows}
use Rattle.sv_typing.specs.Roots.{RootIs, IsSignal, IsChain}
use Rattle.sv_typing.proofs.Lists.{contains_both}

-- ---- why a name is refused

pub no_value_cause : (w : Word) (c : Bool) → Contains ((named w None []).faults c) (record { number = if c then not_constant else unknown_name; place = w.place; count = 0 })
no_value_cause w true = (0, omega arith, refl)
no_value_cause w false = (0, omega arith, refl)

pub none_root : (w : Word) (c : Bool) (all : List Step) (e : TextErr) → e ≡ No (record { number = if c then not_constant else unknown_name; place = w.place; count = 0 }) → IsCause ((named w None all).faults c) e
none_root w c all e h = subst (IsCause ((named w None all).faults c)) (sym h) (no_value_cause w c)

pub type_root : (w : Word) (x : Layout) (c : Bool) (all : List Step) (e : TextErr) → e ≡ No (record { number = if c then not_constant else unknown_name; place = w.place; count = 0 }) → IsCause ((named w (Some (type_is x)) all).faults c) e
type_root w x c all e h = subst (IsCause ((named w (Some (type_is x)) all).faults c)) (sym h) (no_value_cause w c)

pub genvar_root : (w : Word) (c : Bool) (all : List Step) (e : TextErr) → e ≡ No (record { number = if c then not_constant else unknown_name; place = w.place; count = 0 }) → IsCause ((named w (Some genvar_is) all).faults c) e
genvar_root w c all e h = subst (IsCause ((named w (Some genvar_is) all).faults c)) (sym h) (no_value_cause w c)

sel_faults : (o : Option Layout) (k : Bool) (why : Bool → Faults) (p : Place) (names : List NamedSignal) (all : List Step) (x : Layout) (f : Read → List Bit) (c : Bool) → (selected o k why p names all x f).faults c ≡ why c
sel_faults None k why p names all x f c = refl
sel_faults (Some y) k why p names all x f c = refl

pub signal_cause : (w : Word) (o : Origin) (n : ℕ) (x : Layout) (all : List Step) → Contains ((named w (Some (signal_is o n x)) all).faults true) (record { number = not_constant; place = w.place; count = 0 })
signal_cause w o n x all =
    subst (λ f. Contains f (record { number = not_constant; place = w.place; count = 0 })) (sym (sel_faults (chain_layout x all) false _ w.place _ all x _ true)) (0, omega arith, refl)

-- ---- the whole

some_bits : (n : ℕ) → 1 ≤ n → nat_lt 0 n ≡ true
some_bits n h = grind (arith, nat_tests)

-- what stands against an index that is judged as its expression is
abbrev pub index_faults_so : Bool → Meaning → Faults
index_faults_so c m = m.faults c

-- what stands against a name with selects
pub named_faults : (w : Word) (what : Option What) (c : Bool) (at : Cursor) (root : Root) (all : List Step) → RootIs what c at root → (named w what all).faults c ≡ chain_faults (index_faults_so c) (cursor_is at) all
named_faults w None c at root all h = absurd h
named_faults w (Some (type_is t)) c at root all h = absurd h
named_faults w (Some genvar_is) c at root all h = absurd h
named_faults w (Some (number_is v s)) true at root all h =
    ap (λ b. (constant_named b w v s all).faults true) (some_bits (length v) h.0) ∙ sel_faults (chain_layout (plain (length v) s) all) true _ w.place [] all _ _ true
    ∙ ap (λ x. chain_faults (λ m. m.faults true) x all) (sym h.2)
named_faults w (Some (number_is v s)) false at root all h =
    ap (λ b. (constant_named b w v s all).faults false) (some_bits (length v) h.0) ∙ sel_faults (chain_layout (plain (length v) s) all) true _ w.place [] all _ _ false
    ∙ ap (λ x. chain_faults (λ m. m.faults false) x all) (sym h.2)
named_faults w (Some (signal_is o n x)) true at root all h = cc
named_faults w (Some (signal_is o n x)) false at root all h =
    sel_faults (chain_layout x all) false _ w.place _ all x _ false ∙ ap (λ y. chain_faults (λ m. m.faults false) y all) (sym h.1)

-- what is selected, where the chain is sound
sel_named : (o : Option Layout) (y : Layout) (k : Bool) (why : Bool → Faults) (p : Place) (names : List NamedSignal) (all : List Step) (x : Layout) (f : Read → List Bit) (root : Root) (picks : List Pick) (s : Bool) →
    o ≡ Some y → width y ≡ picked_width picks (root_width root) → is_signed y ≡ s → ((read : Read) → chain_bits read x all (f read) ≡ picked read picks (root_bits root read)) →
    (k && (all_indices all).constant) ≡ (root_is_constant root && are_constant_picks picks) → ((n : NamedSignal) → Contains (root_names root ++ names_picked picks) n → Contains (names ++ (all_indices all).names) n) →
    IsNamed root picks s (selected o k why p names all x f)
sel_named None y k why p names all x f root picks s h w g v c n = cc
sel_named (Some z) y k why p names all x f root picks s h w g v c n =
    let i : z ≡ y = cc in
    record {
      size = ap width i ∙ w;
      sign = ap is_signed i ∙ g;
      value = λ read u t. ap (extend t u) (v read);
      constant = c;
      literal = refl;
      names = n;
    }

plain_width : (n : ℕ) (s : Bool) → 1 ≤ n → width (plain n s) ≡ n
plain_width n s h = let e : count_between (pos (n - 1)) (pos 0) * 1 ≡ n = omega (arith, ints) in e

pub number_named : (w : Word) (v : List Bit) (s : Bool) (c : Bool) (at : Cursor) (root : Root) (all : List Step) (chain : Chain) (j : Meaning → Faults) → RootIs (Some (number_is v s)) c at root → IsChain j (cursor_is at) all chain →
    IsNamed root chain.picks chain.signed (named w (Some (number_is v s)) all)
number_named w v s c at root all chain j h k =
    let f : Follows j (plain (length v) s) all chain.picks k.layout = subst (λ x. Follows j x all chain.picks k.layout) h.2 k.follows in
    let P : Root → Type 0 = λ r. IsNamed r chain.picks chain.signed (named w (Some (number_is v s)) all) in
    let Q : Bool → Type 0 = λ b. IsNamed (Number v) chain.picks chain.signed (constant_named b w v s all) in
    subst P (sym h.3) (subst Q (sym (some_bits (length v) h.0))
    (sel_named (chain_layout (plain (length v) s) all) k.layout true (index_faults (plain (length v) s) all) w.place [] all (plain (length v) s) (λ read. v) (Number v) chain.picks chain.signed
    f.layout (sym f.width ∙ ap (picked_width chain.picks) (plain_width (length v) s h.0)) k.signed (λ read. f.bits read v) f.constant f.names))

signal_at : (w : Word) (o : Origin) (n : ℕ) (x : Layout) (root : Root) (all : List Step) (chain : Chain) (j : Meaning → Faults) (y : Layout) → IsSignal o n x root → Follows j x all chain.picks y → is_signed y ≡ chain.signed →
    IsNamed root chain.picks chain.signed (named w (Some (signal_is o n x)) all)
signal_at w o n x (Number v) all chain j y h f g = absurd h
signal_at w o n x (Signal p m u) all chain j y h f g =
    sel_named (chain_layout x all) y false _ w.place (record { owner = o; number = n; width = width x } ∷ []) all x (λ read. bits_from (read o n) 0 (width x)) (Signal p m u) chain.picks chain.signed
    f.layout (sym f.width ∙ ap (picked_width chain.picks) (sym h.2)) g
    (λ read. f.bits read (bits_from (read o n) 0 (width x)) ∙ ap (picked read chain.picks) (bits read))
    refl
    (λ z. contains_both (record { owner = origin_is p; number = m; width = u } ∷ []) (names_picked chain.picks) (record { owner = o; number = n; width = width x } ∷ []) (all_indices all).names z (name z) (f.names z))
  where
    bits : (read : Read) → bits_from (read o n) 0 (width x) ≡ bits_from (read (origin_is p) m) 0 u
    bits read = ap (λ q. bits_from (read q n) 0 (width x)) (sym h.0) ∙ ap (λ q. bits_from (read (origin_is p) q) 0 (width x)) (sym h.1) ∙ ap (bits_from (read (origin_is p) m) 0) (sym h.2)

    same : Path NamedSignal (record { owner = origin_is p; number = m; width = u }) (record { owner = o; number = n; width = width x })
    same = λ i. record { owner = h.0 i; number = h.1 i; width = h.2 i }

    name : (z : NamedSignal) → Contains (record { owner = origin_is p; number = m; width = u } ∷ []) z → Contains (record { owner = o; number = n; width = width x } ∷ []) z
    name z q = subst (λ t. Contains (t ∷ []) z) same q

pub name_is : (w : Word) (what : Option What) (c : Bool) (at : Cursor) (root : Root) (all : List Step) (chain : Chain) → RootIs what c at root → IsChain (index_faults_so c) (cursor_is at) all chain → IsNamed root chain.picks chain.signed (named w what all)
name_is w None c at root all chain h k = absurd h
name_is w (Some (type_is t)) c at root all chain h k = absurd h
name_is w (Some genvar_is) c at root all chain h k = absurd h
name_is w (Some (number_is v s)) c at root all chain h k = number_named w v s c at root all chain (index_faults_so c) h k
name_is w (Some (signal_is o n x)) c at root all chain h k =
    signal_at w o n x root all chain (index_faults_so c) k.layout h.2 (subst (λ y. Follows (index_faults_so c) y all chain.picks k.layout) h.1 k.follows) k.signed

-- ---- what code finds under a name

pub what_at : (o : Option (Bor What')) (f : Bor What') (w : What') → o ≡ Some f → f.now ≡ w → option_map what_is (option_copied o) ≡ Some (what_is w)
what_at o f w h k = ap (λ (z : Option (Bor What')). option_map what_is (option_copied z)) h ∙ ap (λ (z : What'). Some (what_is z)) k

pub name_ok : (w : Word) (what : Option What) (c : Bool) (at : Cursor) (root : Root) (all : List Step) (chain : Chain) (t : Typed) → RootIs what c at root → IsChain (index_faults_so c) (cursor_is at) all chain →
    ((m : Meaning) → IsNamed root chain.picks chain.signed m → Stands t m) → (RootIsSound root → All PickIsSound chain.picks → IsSound t) → IsTyped (named w what all) ((named w what all).faults c) t
name_ok w what c at root all chain t h k s y = record {
  clear = named_faults w what c at root all h ∙ k.follows.clear;
  stands = s (named w what all) (name_is w what c at root all chain h k);
  sound = y (root_sound what c at root h) k.follows.sound;
}
  where
    root_sound : (o : Option What) (d : Bool) (u : Cursor) (r : Root) → RootIs o d u r → RootIsSound r
    root_sound None d u r i = absurd i
    root_sound (Some (type_is t)) d u r i = absurd i
    root_sound (Some genvar_is) d u r i = absurd i
    root_sound (Some (number_is v s)) d u r i = subst RootIsSound (sym i.3) (i.0, i.1)
    root_sound (Some (signal_is o n x)) d u (Number v) i = absurd i.2
    root_sound (Some (signal_is o n x)) d u (Signal p m q) i = let e = i.2.2 in let f = i.3 in let g = i.4 in (omega arith, omega arith)

pub name_cause : (w : Word) (what : Option What) (c : Bool) (at : Cursor) (root : Root) (all : List Step) (e : TextErr) → RootIs what c at root → IsCause (chain_faults (index_faults_so c) (cursor_is at) all) e → IsCause ((named w what all).faults c) e
name_cause w what c at root all e h k = subst (λ f. IsCause f e) (sym (named_faults w what c at root all h)) k
