-- What is taken word by word is made of items, and items are taken word by word.
use Rattle.std.proofs.Common.{◌≡◌, ◌⊎◌, inl, inr, ℕ, Bool, true, false, not, ◌&&◌, List, [], ◌∷◌, ◌++◌, length, Option, None, Some, is_some, refl, sym, ap, ◌∙◌, subst, append_assoc, append-nil}
use Rattle.std.specs.Prelude.{◌==◌, nat_le, if◌then◌else◌}
use Rattle.std.specs.List.{flat_map, list_all}
use Rattle.std.proofs.lemmas.Bool.{not-true, and_parts, and_from}
use Rattle.sv_outside.specs.declared.refusal.Place.{Place}
use Rattle.fourvec.specs.declared.Bit.{Bit}
use Rattle.vcd_text.specs.declared.role.Role.{Role}
use Rattle.vcd_text.specs.declared.role.Role.TheVariants.{Scope, Upscope, Var, Ending, Skipped, Dump, End, Other}
use Rattle.vcd_text.specs.declared.role.Lead.{Lead}
use Rattle.vcd_text.specs.declared.role.Lead.TheVariants.{Time, Scalar, Vector, Real, Nothing}
use Rattle.vcd_text.specs.declared.waves.VarKind.{VarKind}
use Rattle.vcd_text.specs.Words.{Text, Word, begins_with}
use Rattle.vcd_text.specs.Forms.{is_code, is_end, is_real, are_bits, all_bits, is_bit, bit_of, bits_behind, number_to, most_width, most_time, bits_of, role_of, lead_of, kind_of, chain}
use Rattle.vcd_text.specs.Waves.{Item, scope, upscope, var, ending, skipped, dump, dump_end, time, scalar, vector, real, item_words, IsPlain, IsEnd, is_plain, is_open, IsRange, HasForm, Told, nothing_told, may_come, with_item, with_change, with_var, but_last, width_under, agrees, Tell}
use Rattle.vcd_text.specs.Steps.{Wait, between, scope_kind, scope_name, scope_end, up_end, var_kind, var_width, var_code, var_name, var_range, var_end, ending_end, skipping, vector_code, real_code, State, at_start, goes, lead_step, change_step, role_step, first_step, wait_step, step, run}

-- ---- small steps

goes_is : (b : Bool) (w : Wait) (t : Told) (s : State) → goes b w t ≡ Some s → (b ≡ true) × (s ≡ record { wait = w; told = t })
goes_is true w t s h = (refl, cc)
goes_is false w t s h = cc

pub chain_is : {A B : Type 0} (o : Option A) (f : A → Option B) (b : B) → chain o f ≡ Some b → (a : A) × (o ≡ Some a) × (f a ≡ Some b)
chain_is None f b h = cc
chain_is (Some a) f b h = (a, refl, h)

bits_said : (front : List Bit) (t : Text) → all_bits t ≡ true → (bits : List Bit) × (bits_behind front t ≡ Some bits)
unfolding bits_behind
bits_said front [] all = (front, refl)
bits_said front (d ∷ t) all =
    let parts = and_parts (is_bit d) (all_bits t) all in
    by_case (bit_of d) refl parts.0 (λ b. bits_said (front ++ b ∷ []) t parts.1)
  where
    by_case : (o : Option Bit) → bit_of d ≡ o → is_some (bit_of d) ≡ true → ((b : Bit) → (bits : List Bit) × (bits_behind (front ++ b ∷ []) t ≡ Some bits))
        → (bits : List Bit) × (chain (bit_of d) (λ b. bits_behind (front ++ b ∷ []) t) ≡ Some bits)
    by_case None e some more = let no : false ≡ true = ap is_some (sym e) ∙ some in cc
    by_case (Some b) e some more = ((more b).0, ap (λ o. chain o (λ x. bits_behind (front ++ x ∷ []) t)) e ∙ (more b).1)

-- ---- items that are begun

-- the words are those of an item, which may come and makes this of what is told
pub record Makes (told : Told) (list : List Word) (new : Told) : Type 0 where
  pub item : Item
  pub is : list ≡ item_words item
  pub form : HasForm item
  pub may : may_come told item ≡ true
  pub new_is : with_item told item ≡ new

-- the words so far begin an item, of which the rest is waited for
abbrev pub Within : Told → Wait → List Word → Type 0
Within told between part = part ≡ []
Within told scope_kind part = (kind name e : Word) → IsPlain kind → IsPlain name → IsEnd e → Makes told (part ++ kind ∷ name ∷ e ∷ []) (record told { scopes = told.scopes ++ name.text ∷ [] })
Within told scope_name part = (name e : Word) → IsPlain name → IsEnd e → Makes told (part ++ name ∷ e ∷ []) (record told { scopes = told.scopes ++ name.text ∷ [] })
Within told (scope_end name) part = (e : Word) → IsEnd e → Makes told (part ++ e ∷ []) (record told { scopes = told.scopes ++ name ∷ [] })
Within told up_end part = (e : Word) → IsEnd e → Makes told (part ++ e ∷ []) (record told { scopes = but_last told.scopes })
Within told var_kind part = (kind w code name : Word) (range : List Word) (e : Word) (width : ℕ) → IsPlain kind → number_to most_width w.text ≡ Some width
    → (is_code code.text && agrees (width_under told.vars code.text) width) ≡ true → IsPlain name → IsRange range → IsEnd e
    → Makes told (part ++ kind ∷ w ∷ code ∷ name ∷ (range ++ e ∷ [])) (with_var told (kind_of kind.text) width code.text name.text name.place)
Within told (var_width kind) part = (w code name : Word) (range : List Word) (e : Word) (width : ℕ) → number_to most_width w.text ≡ Some width
    → (is_code code.text && agrees (width_under told.vars code.text) width) ≡ true → IsPlain name → IsRange range → IsEnd e
    → Makes told (part ++ w ∷ code ∷ name ∷ (range ++ e ∷ [])) (with_var told kind width code.text name.text name.place)
Within told (var_code kind width) part = (code name : Word) (range : List Word) (e : Word)
    → (is_code code.text && agrees (width_under told.vars code.text) width) ≡ true → IsPlain name → IsRange range → IsEnd e
    → Makes told (part ++ code ∷ name ∷ (range ++ e ∷ [])) (with_var told kind width code.text name.text name.place)
Within told (var_name kind width code) part = (name : Word) (range : List Word) (e : Word) → IsPlain name → IsRange range → IsEnd e
    → Makes told (part ++ name ∷ (range ++ e ∷ [])) (with_var told kind width code name.text name.place)
Within told (var_range kind width code name place) part = (range : List Word) (e : Word) → IsRange range → IsEnd e
    → Makes told (part ++ (range ++ e ∷ [])) (with_var told kind width code name place)
Within told (var_end kind width code name place) part = (e : Word) → IsEnd e → Makes told (part ++ e ∷ []) (with_var told kind width code name place)
Within told ending_end part = (e : Word) → IsEnd e → Makes told (part ++ e ∷ []) (record told { ended = true })
Within told skipping part = (text : List Word) (e : Word) → list_all is_plain text ≡ true → IsEnd e → Makes told (part ++ (text ++ e ∷ [])) told
Within told (vector_code digits) part =
    ((bits : List Bit) × (bits_of digits ≡ Some bits)) × ((bits : List Bit) (code : Word) → bits_of digits ≡ Some bits → is_code code.text ≡ true → Makes told (part ++ code ∷ []) (with_change told code.text bits))
Within told real_code part = (code : Word) → is_code code.text ≡ true → Makes told (part ++ code ∷ []) told

-- one word more: the item goes on, or it is made
abbrev pub Moved : Told → State → List Word → Type 0
Moved told s part = ((s.told ≡ told) × Within told s.wait part) ⊎ ((s.wait ≡ between) × Makes told part s.told)

stays : (b : Bool) (wait : Wait) (told : Told) (s : State) (part : List Word) → goes b wait told ≡ Some s → (b ≡ true → Within told wait part) → Moved told s part
stays b wait told s part e h =
    let is = goes_is b wait told s e in
    subst (λ x. Moved told x part) (sym is.1) (inl (refl, h is.0))

makes : (b : Bool) (told new : Told) (s : State) (part : List Word) → goes b between new ≡ Some s → (b ≡ true → Makes told part new) → Moved told s part
makes b told new s part e h =
    let is = goes_is b between new s e in
    subst (λ x. Moved told x part) (sym is.1) (inr (refl, h is.0))

-- a word that was put to the front of what is left
onward : (told new : Told) (part : List Word) (w : Word) (rest : List Word) → Makes told (part ++ w ∷ rest) new → Makes told ((part ++ w ∷ []) ++ rest) new
onward told new part w rest h = subst (λ ws. Makes told ws new) (sym (append_assoc part (w ∷ []) rest)) h

-- ---- the first word

led : (told : Told) (w : Word) (b : ℕ) (rest : Text) (s : State) (l : Lead) → role_of w.text ≡ Other → w.text ≡ b ∷ rest → told.ended ≡ true → lead_of b ≡ l → lead_step told rest l ≡ Some s
    → Moved told s (w ∷ [])
unfolding HasForm may_come with_item item_words
led told w b rest s Time r is ended l h =
    let number = chain_is (number_to most_time rest) (λ t. goes (nat_le told.time t) between (record told { time = t })) s h in
    makes (nat_le told.time number.0) told (record told { time = number.0 }) s (w ∷ []) number.2
    (λ later. record { item = time w b rest number.0; is = refl; form = (r, (is, (l, number.1))); may = and_from told.ended (nat_le told.time number.0) ended later; new_is = refl })
led told w b rest s (Scalar bit) r is ended l h =
    makes (is_code rest) told (with_change told rest (bit ∷ [])) s (w ∷ []) h
    (λ code. record { item = scalar w b bit rest; is = refl; form = (r, (is, (l, code))); may = ended; new_is = refl })
led told w b rest s Vector r is ended l h =
    stays (are_bits rest) (vector_code rest) told s (w ∷ []) h
    (λ all. (bits_said [] rest (and_parts (not (length rest == 0)) (all_bits rest) all).1, λ bits code said word. record { item = vector w b rest bits code; is = refl; form = (r, (is, (l, (all, (said, word))))); may = ended; new_is = refl }))
led told w b rest s Real r is ended l h =
    stays (is_real rest) real_code told s (w ∷ []) h
    (λ number code word. record { item = real w b rest code; is = refl; form = (r, (is, (l, (number, word)))); may = ended; new_is = refl })
led told w b rest s Nothing r is ended l h = cc

changed : (told : Told) (w : Word) (text : Text) (s : State) (v : Bool) → role_of w.text ≡ Other → w.text ≡ text → told.ended ≡ v → change_step told text ≡ Some s → Moved told s (w ∷ [])
unfolding change_step
changed told w [] s v r is ended h = cc
changed told w (b ∷ rest) s true r is ended h = led told w b rest s (lead_of b) r is ended refl (sym (ap (λ x. if x then lead_step told rest (lead_of b) else None) ended) ∙ h)
changed told w (b ∷ rest) s false r is ended h =
    let none : None ≡ Some s = sym (ap (λ x. if x then lead_step told rest (lead_of b) else None) ended) ∙ h in cc

first : (told : Told) (w : Word) (s : State) (r : Role) → role_of w.text ≡ r → role_step told w.text r ≡ Some s → Moved told s (w ∷ [])
unfolding HasForm may_come with_item item_words
first told w s Scope r h =
    stays (not told.ended) scope_kind told s (w ∷ []) h
    (λ may kind name e pk pn pe. record { item = scope w kind name e; is = refl; form = (r, (pk, (pn, pe))); may = may; new_is = refl })
first told w s Upscope r h =
    stays (not told.ended && not (length told.scopes == 0)) up_end told s (w ∷ []) h
    (λ may e pe. record { item = upscope w e; is = refl; form = (r, pe); may = may; new_is = refl })
first told w s Var r h =
    stays (not told.ended) var_kind told s (w ∷ []) h
    (λ may kind width code name range e n pk number free pn pr pe.
    let parts = and_parts (is_code code.text) (agrees (width_under told.vars code.text) n) free in
    record { item = var w kind n width code name range e; is = refl; form = (r, (pk, (number, (parts.0, (pn, (pr, pe)))))); may = and_from (not told.ended) (agrees (width_under told.vars code.text) n) may parts.1; new_is = refl })
first told w s Ending r h =
    stays (not told.ended) ending_end told s (w ∷ []) h
    (λ may e pe. record { item = ending w e; is = refl; form = (r, pe); may = may; new_is = refl })
first told w s Skipped r h =
    stays true skipping told s (w ∷ []) h
    (λ may text e all pe. record { item = skipped w text e; is = refl; form = (r, (all, pe)); may = refl; new_is = refl })
first told w s Dump r h =
    makes (told.ended && not told.dumping) told (record told { dumping = true }) s (w ∷ []) h
    (λ may. record { item = dump w; is = refl; form = r; may = may; new_is = refl })
first told w s End r h =
    makes told.dumping told (record told { dumping = false }) s (w ∷ []) h
    (λ may. record { item = dump_end w; is = refl; form = r; may = may; new_is = refl })
first told w s Other r h = changed told w w.text s told.ended r refl refl h

-- ---- any word

ranged : (told : Told) (kind : VarKind) (width : ℕ) (code name : Text) (place : Place) (part : List Word) (w : Word) (s : State) (v : Bool)
    → Within told (var_range kind width code name place) part → is_end w.text ≡ v
    → (if v then goes true between (with_var told kind width code name place) else goes (begins_with is_open w.text) (var_end kind width code name place) told) ≡ Some s → Moved told s (part ++ w ∷ [])
ranged told kind width code name place part w s true h v e =
    makes true told (with_var told kind width code name place) s (part ++ w ∷ []) e (λ _. h [] w tt v)
ranged told kind width code name place part w s false h v e =
    stays (begins_with is_open w.text) (var_end kind width code name place) told s (part ++ w ∷ []) e
    (λ opens last pe. onward told (with_var told kind width code name place) part w (last ∷ []) (h (w ∷ []) last opens pe))

skips : (told : Told) (part : List Word) (w : Word) (s : State) (v : Bool) → Within told skipping part → is_end w.text ≡ v
    → goes true (if v then between else skipping) told ≡ Some s → Moved told s (part ++ w ∷ [])
skips told part w s true h v e = makes true told told s (part ++ w ∷ []) e (λ _. h [] w refl v)
skips told part w s false h v e =
    stays true skipping told s (part ++ w ∷ []) e
    (λ _ text last all pe. onward told told part w (text ++ last ∷ []) (h (w ∷ text) last (and_from (is_plain w) (list_all is_plain text) (ap not v) all) pe))

pub moves : (told : Told) (wait : Wait) (part : List Word) (w : Word) (s : State) → Within told wait part → wait_step wait told w ≡ Some s → Moved told s (part ++ w ∷ [])
unfolding wait_step first_step
moves told between part w s h e = subst (λ ws. Moved told s (ws ++ w ∷ [])) (sym h) (first told w s (role_of w.text) refl e)
moves told scope_kind part w s h e =
    stays (not (is_end w.text)) scope_name told s (part ++ w ∷ []) e
    (λ plain name last pn pe. onward told (record told { scopes = told.scopes ++ name.text ∷ [] }) part w (name ∷ last ∷ []) (h w name last (not-true (is_end w.text) plain) pn pe))
moves told scope_name part w s h e =
    stays (not (is_end w.text)) (scope_end w.text) told s (part ++ w ∷ []) e
    (λ plain last pe. onward told (record told { scopes = told.scopes ++ w.text ∷ [] }) part w (last ∷ []) (h w last (not-true (is_end w.text) plain) pe))
moves told (scope_end name) part w s h e = makes (is_end w.text) told (record told { scopes = told.scopes ++ name ∷ [] }) s (part ++ w ∷ []) e (λ last. h w last)
moves told up_end part w s h e = makes (is_end w.text) told (record told { scopes = but_last told.scopes }) s (part ++ w ∷ []) e (λ last. h w last)
moves told var_kind part w s h e =
    stays (not (is_end w.text)) (var_width (kind_of w.text)) told s (part ++ w ∷ []) e
    (λ plain width code name range last n number free pn pr pe.
    onward told (with_var told (kind_of w.text) n code.text name.text name.place) part w (width ∷ code ∷ name ∷ (range ++ last ∷ []))
    (h w width code name range last n (not-true (is_end w.text) plain) number free pn pr pe))
moves told (var_width kind) part w s h e =
    let number = chain_is (number_to most_width w.text) (λ n. goes true (var_code kind n) told) s e in
    stays true (var_code kind number.0) told s (part ++ w ∷ []) number.2
    (λ _ code name range last free pn pr pe.
    onward told (with_var told kind number.0 code.text name.text name.place) part w (code ∷ name ∷ (range ++ last ∷ []))
    (h w code name range last number.0 number.1 free pn pr pe))
moves told (var_code kind width) part w s h e =
    stays (is_code w.text && agrees (width_under told.vars w.text) width) (var_name kind width w.text) told s (part ++ w ∷ []) e
    (λ free name range last pn pr pe. onward told (with_var told kind width w.text name.text name.place) part w (name ∷ (range ++ last ∷ [])) (h w name range last free pn pr pe))
moves told (var_name kind width code) part w s h e =
    stays (not (is_end w.text)) (var_range kind width code w.text w.place) told s (part ++ w ∷ []) e
    (λ plain range last pr pe. onward told (with_var told kind width code w.text w.place) part w (range ++ last ∷ []) (h w range last (not-true (is_end w.text) plain) pr pe))
moves told (var_range kind width code name place) part w s h e = ranged told kind width code name place part w s (is_end w.text) h refl e
moves told (var_end kind width code name place) part w s h e = makes (is_end w.text) told (with_var told kind width code name place) s (part ++ w ∷ []) e (λ last. h w last)
moves told ending_end part w s h e = makes (is_end w.text) told (record told { ended = true }) s (part ++ w ∷ []) e (λ last. h w last)
moves told skipping part w s h e = skips told part w s (is_end w.text) h refl e
moves told (vector_code digits) part w s h e =
    let said = chain_is (bits_of digits) (λ bits. goes (is_code w.text) between (with_change told w.text bits)) s e in
    makes (is_code w.text) told (with_change told w.text said.0) s (part ++ w ∷ []) said.2 (λ code. h.1 said.0 w said.1 code)
moves told real_code part w s h e = makes (is_code w.text) told told s (part ++ w ∷ []) e (λ code. h w code)

-- ---- all words

-- items that are told, and a part of one more
pub record Reached (list : List Word) (s : State) : Type 0 where
  pub items : List Item
  pub part : List Word
  pub is : list ≡ flat_map item_words items ++ part
  pub tell : Tell nothing_told items s.told
  pub within : Within s.told s.wait part

tell_more : (old mid new : Told) (items : List Item) (x : Item) → Tell old items mid → HasForm x → may_come mid x ≡ true → with_item mid x ≡ new → Tell old (items ++ x ∷ []) new
unfolding Tell
tell_more old mid new [] x t form may is = (form, (subst (λ m. may_come m x ≡ true) (sym t) may, ap (λ m. with_item m x) t ∙ is))
tell_more old mid new (y ∷ items) x t form may is = (t.0, (t.1.0, tell_more (with_item old y) mid new items x t.1.1 form may is))

words_more : (items : List Item) (x : Item) → flat_map item_words (items ++ x ∷ []) ≡ flat_map item_words items ++ item_words x
words_more [] x = append-nil (item_words x)
words_more (y ∷ items) x = ap (λ ws. item_words y ++ ws) (words_more items x) ∙ sym (append_assoc (item_words y) (flat_map item_words items) (item_words x))

reach_more : (list : List Word) (s next : State) (w : Word) → Reached list s → step s w ≡ Some next → Reached (list ++ w ∷ []) next
reach_more list s next w r e = by_case (moves s.told s.wait r.part w next r.within e)
  where
    by_case : Moved s.told next (r.part ++ w ∷ []) → Reached (list ++ w ∷ []) next
    by_case (inl stay) = record {
      items = r.items;
      part = r.part ++ w ∷ [];
      is = ap (λ l. l ++ w ∷ []) r.is ∙ append_assoc (flat_map item_words r.items) r.part (w ∷ []);
      tell = subst (λ t. Tell nothing_told r.items t) (sym stay.0) r.tell;
      within = subst (λ t. Within t next.wait (r.part ++ w ∷ [])) (sym stay.0) stay.1;
    }
    by_case (inr made) = record {
      items = r.items ++ made.1.item ∷ [];
      part = [];
      is = ap (λ l. l ++ w ∷ []) r.is ∙ append_assoc (flat_map item_words r.items) r.part (w ∷ []) ∙ ap (λ l. flat_map item_words r.items ++ l) made.1.is
          ∙ sym (words_more r.items made.1.item) ∙ sym (append-nil (flat_map item_words (r.items ++ made.1.item ∷ [])));
      tell = tell_more nothing_told s.told next.told r.items made.1.item r.tell made.1.form made.1.may made.1.new_is;
      within = subst (λ x. Within next.told x []) (sym made.0) refl;
    }

reach_all : (list more : List Word) (s last : State) → Reached list s → run s more ≡ Some last → Reached (list ++ more) last
unfolding run
reach_all list [] s last r e = subst (λ l. Reached l last) (sym (append-nil list)) (subst (λ x. Reached list x) (let same : s ≡ last = cc in same) r)
reach_all list (w ∷ more) s last r e =
    let on = chain_is (step s w) (λ next. run next more) last e in
    subst (λ l. Reached l last) (append_assoc list (w ∷ []) more) (reach_all (list ++ w ∷ []) more on.0 last (reach_more list s on.0 w r on.1) on.2)

pub reached : (list : List Word) (last : State) → run at_start list ≡ Some last → Reached list last
unfolding Tell
reached list last e = reach_all [] list at_start last (record { items = []; part = []; is = refl; tell = refl; within = refl }) e
