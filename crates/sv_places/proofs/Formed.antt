-- What stands against a type, against the value of a parameter and against the pins of an instance stands at places of theirs. The names that a
-- type declares are kept with their places, and the pins with their expressions. A structure of no bits is refused at no place. Only one without
-- a member, or with members without a name, has none, since each type that is found or declared has a bit.
use Rattle.std.proofs.Common.{◌≡◌, ◌⊎◌, ℕ, ◌+◌, ◌≤◌, Bool, true, false, ◌&&◌, List, [], ◌∷◌, Option, Some, None, bytes_eq, refl, inl, inr, arith}
use Rattle.std.specs.Prelude.{ℤ, pos, ◌+ℤ◌, not, nat_le, IfSome, if◌then◌else◌}
use Rattle.std.proofs.lemmas.Bool.{lt-ltb, ltb-true}
use mathlib.Core.Former.{Count}
use Rattle.sv_outside.specs.declared.refusal.Place.{Place}
use Rattle.sv_tree.specs.declared.word.Word.{Word}
use Rattle.sv_tree.specs.declared.exprs.Expr.{Expr}
use Rattle.sv_tree.specs.declared.forms.Range.{Range}
use Rattle.sv_tree.specs.declared.forms.EnumLabel.{EnumLabel}
use Rattle.sv_tree.specs.declared.forms.TypeTree.{TypeTree, Vector, Integer, Struct', Enum, Named, Row_of-Member, end_of-Member, more_of-Member}
use Rattle.sv_tree.specs.declared.forms.Member.{Of', end_of-TypeTree, more_of-TypeTree}
use Rattle.sv_tree.specs.declared.design.ParamType.{ParamType}
use Rattle.sv_tree.specs.declared.design.ParamType.TheVariants as param_type
use Rattle.sv_tree.specs.declared.design.Pin.{Pin}
use Rattle.sv_tree.specs.declared.design.Pin.TheVariants as pin
use Rattle.sv_tree.specs.declared.design.NamedPin.{NamedPin}
use Rattle.sv_tree.specs.declared.design.Pins.{Pins}
use Rattle.sv_tree.specs.declared.design.Pins.TheVariants as pins
use Rattle.sv_meaning.specs.Faults.{fault_if, provided, ◌>>=◌, both, bad_width, not_constant}
use Rattle.sv_meaning.specs.Layouts.{Name, Entry, Layout, scalar, dim, struct, Members, width, width_all, depth, Scope, with_names, What, number_is, type_is, signal_is, genvar_is, or_else, last_of, find}
use Rattle.sv_meaning.specs.Meanings.{Meaning, fixed_faults, fixed_faults_at, is_width, nowhere_in_text}
use Rattle.sv_meaning.specs.Values.{mean}
use Rattle.sv_meaning.specs.Forms.{Declared, Formed, entry_of, entries_of, has_sign, most_levels, bound_faults, bound, bounds, sized, ranged_layout, over_ranges, vector_layout, struct_layout, option_to_list, named_layout, label_number, label_entry, labels, member_faults, some_member, members_of, form, forms}
use Rattle.sv_meaning.specs.Params.{untyped, with_sign, converted_faults, typed, range_width, ParamKind, kept, signed_as, sized_as, param_kind, value_as, Connection, pinned, pin_faults, by_name, in_order, connections}
use Rattle.sv_places.specs.Within.{Each, InWord, InExpr, InRange, InLabel, InNames, InType, InMembers, MoreIn, InParamType, InPin, InNamedPin, InPins}
use Rattle.sv_places.proofs.Told.{Told, Any, JudgedIn, told_append, told_then, told_if, provided_in, bind_in, both_in, both_any, each_append}
use Rattle.sv_places.proofs.Meant.{MeaningIn, fixed_in, fixed_at_in, mean_in}

-- a layout of so many bits has one, unless P holds of no place
abbrev pub Wide : (Place → Type 0) → ℕ → Type 0
Wide P n = (1 ≤ n) ⊎ P nowhere_in_text

abbrev LayoutIn : (Place → Type 0) → Layout → Type 0
LayoutIn P x = Wide P (width x)

-- so each type that is declared
abbrev pub WhatIn : (Place → Type 0) → What → Type 0
WhatIn P (number_is v s) = Unit {0}
WhatIn P (type_is t) = LayoutIn P t
WhatIn P (signal_is o n x) = Unit {0}
WhatIn P genvar_is = Unit {0}

abbrev pub EntryIn : (Place → Type 0) → Entry → Type 0
EntryIn P e = WhatIn P e.1

abbrev pub ScopeIn : (Place → Type 0) → Scope → Type 0
ScopeIn P at = Each (EntryIn P) at.all

abbrev pub DeclaredAt : (Place → Type 0) → Declared → Type 0
DeclaredAt P d = InWord P d.0 × WhatIn P d.1

abbrev pub FormedIn : (Place → Type 0) → Formed → Type 0
FormedIn P x = LayoutIn P x.0 × Each (DeclaredAt P) x.1

-- members are of some bits, where there are any
abbrev RowIn : (Place → Type 0) → {m : Count} → Row_of-Member m → Members → Type 0
RowIn P end_of-Member x = Unit {0}
RowIn P (more_of-Member t all) x = Wide P (width_all x)

abbrev FormsIn : (Place → Type 0) → {m : Count} → Row_of-Member m → Members × List Declared → Type 0
FormsIn P all x = RowIn P all x.0 × Each (DeclaredAt P) x.1

abbrev pub ConnectionIn : (Place → Type 0) → Connection → Type 0
ConnectionIn P c = IfSome c.1 (InExpr P)

module _ (P : Place → Type 0) where
  -- ---- ranges

  bound_in : (at : Scope) (p : Place) (x : Expr) → P p → InExpr P x → JudgedIn P Any (bound at p x)
  bound_in at p x q h = provided_in P Any (bound_faults p (mean at x)) _ (told_then P (fixed_faults (mean at x)) _ (fixed_in P (mean at x) (mean_in P at x h)) (told_if P _ bad_width p q)) tt

  bounds_in : (at : Scope) (r : Range) → InRange P r → JudgedIn P Any (bounds at r)
  bounds_in at r h = both_any P (bound at r.place r.left) (bound at r.place r.right) (bound_in at r.place r.left h.0 h.1) (bound_in at r.place r.right h.0 h.2)

  some_bits : (n : ℕ) (b : Bool) → is_width n && b ≡ true → 1 ≤ n
  some_bits n b h = grind (arith, ltb-true 0 n)

  sized_in : (p : Place) (x : Layout) → P p → JudgedIn P (LayoutIn P) (sized p x)
  sized_in p x q = go (is_width (width x) && nat_le (depth x) most_levels) refl
    where
      go : (b : Bool) → is_width (width x) && nat_le (depth x) most_levels ≡ b → JudgedIn P (LayoutIn P) (provided (fault_if (not b) bad_width p) x)
      go true e = inl (some_bits (width x) (nat_le (depth x) most_levels) e)
      go false e = (q, tt)

  over_in : (at : Scope) (s : Bool) (ranges : List Range) (x : Layout) → Each (InRange P) ranges → LayoutIn P x → JudgedIn P (LayoutIn P) (over_ranges at s ranges x)
  unfolding over_ranges
  over_in at s [] x h w = w
  over_in at s (r ∷ more) x h w =
      bind_in P (λ found. LayoutIn P found.0 × Unit {0}) (LayoutIn P) (both (over_ranges at false more x) (bounds at r)) (ranged_layout r.place s)
      (both_in P (LayoutIn P) Any (over_ranges at false more x) (bounds at r) (over_in at false more x h.1 w) (bounds_in at r h.0)) (λ found k. sized_in r.place (dim s found.1.0 found.1.1 found.0) h.0.0)

  vector_in : (at : Scope) (s : Bool) (ranges : List Range) → Each (InRange P) ranges → JudgedIn P (LayoutIn P) (vector_layout at s ranges)
  vector_in at s [] h = inl (omega arith)
  vector_in at s (r ∷ more) h = over_in at s (r ∷ more) (scalar false) h (inl (omega arith))

  struct_in : (at : Scope) (s : Bool) (ranges : List Range) (all : Members) → Each (InRange P) ranges → Wide P (width_all all) → JudgedIn P (LayoutIn P) (struct_layout at s ranges all)
  struct_in at s [] all h w = w
  struct_in at s (r ∷ more) all h w = over_in at s (r ∷ more) (struct false all) h w

  named_in : (at : Scope) (w : Word) (x : Option What) (ranges : List Range) → InWord P w → IfSome x (WhatIn P) → Each (InRange P) ranges → JudgedIn P (LayoutIn P) (named_layout at w x ranges)
  named_in at w (Some (type_is t)) ranges q k h = over_in at false ranges t h k
  named_in at w x ranges q k h = (q, tt)

  option_in : (r : Option Range) → IfSome r (InRange P) → Each (InRange P) (option_to_list r)
  option_in None h = tt
  option_in (Some r) h = (h, tt)

  -- ---- enumerations and structures

  number_in : (at : Scope) (w : ℕ) (next : ℤ) (x : Option Expr) → IfSome x (InExpr P) → JudgedIn P Any (label_number at w next x)
  number_in at w next None h = tt
  number_in at w next (Some x) h = provided_in P Any (fixed_faults_at w (mean at x)) _ (fixed_at_in P w (mean at x) (mean_in P at x h)) tt

  entry_in : (w : ℕ) (s : Bool) (name : Word) (n : ℤ) → InWord P name → JudgedIn P (DeclaredAt P) (label_entry w s name n)
  entry_in w s name n h = provided_in P (DeclaredAt P) _ _ (told_if P _ bad_width name.place h) (h, tt)

  labels_in : (at : Scope) (w : ℕ) (s : Bool) (next : ℤ) (all : List EnumLabel) → Each (InLabel P) all → JudgedIn P (Each (DeclaredAt P)) (labels at w s next all)
  unfolding labels
  labels_in at w s next [] h = tt
  labels_in at w s next (x ∷ more) h =
      bind_in P Any (Each (DeclaredAt P)) (label_number at w next x.value) _ (number_in at w next x.value h.0.1)
      (λ n u. bind_in P (DeclaredAt P) (Each (DeclaredAt P)) (label_entry w s x.name n) _ (entry_in w s x.name n h.0.0)
      (λ e k. bind_in P (Each (DeclaredAt P)) (Each (DeclaredAt P)) (labels (with_names at (entry_of e ∷ [])) w s (n +ℤ pos 1) more) _
      (labels_in (with_names at (entry_of e ∷ [])) w s (n +ℤ pos 1) more h.1) (λ rest l. (k, l))))

  members_told : (used : List Name) (bits : ℕ) (x : Layout) (names : List Word) → Each (InWord P) names → Told P (member_faults used bits x names)
  unfolding member_faults
  members_told used bits x [] h = tt
  members_told used bits x (n ∷ more) h = let rest = members_told (n.text ∷ used) (bits + width x) x more h.1 in search (told_then P, told_append P, told_if P)

  members_wide : (names : List Word) (x : Layout) (rest : Members) → InNames P names → Wide P (width x) → Wide P (width_all (members_of names x rest))
  unfolding members_of
  members_wide [] x rest h w = inr h
  members_wide (n ∷ more) x rest h (inl w) = inl (omega (arith, w))
  members_wide (n ∷ more) x rest h (inr z) = inr z

  row_wide : {m : Count} (all : Row_of-Member m) (x : Members) → InMembers P all → RowIn P all x → Wide P (width_all x)
  row_wide end_of-Member x h w = inr h
  row_wide (more_of-Member t all) x h w = w

  more_of_in : {m : Count} (all : Row_of-Member m) → InMembers P all → MoreIn P all
  more_of_in end_of-Member h = tt
  more_of_in (more_of-Member t all) h = h

  some_told : (all : Members) → Wide P (width_all all) → Told P (some_member all)
  some_told all (inl w) = rw (lt-ltb 0 (width_all all) w) tt
  some_told all (inr z) = told_if P _ bad_width nowhere_in_text z

  names_of_in : (names : List Word) → InNames P names → Each (InWord P) names
  names_of_in [] h = tt
  names_of_in (w ∷ more) h = h

  -- ---- names

  entries_in : (all : List Declared) → Each (DeclaredAt P) all → Each (EntryIn P) (entries_of all)
  entries_in [] h = tt
  entries_in (d ∷ more) h = (h.0.1, entries_in more h.1)

  with_in : (at : Scope) (all : List Declared) → ScopeIn P at → Each (DeclaredAt P) all → ScopeIn P (with_names at (entries_of all))
  with_in at all h k = each_append (EntryIn P) at.all (entries_of all) h (entries_in all k)

  or_else_in : (x y : Option What) → IfSome x (WhatIn P) → IfSome y (WhatIn P) → IfSome (or_else x y) (WhatIn P)
  or_else_in (Some x) y h k = h
  or_else_in None y h k = k

  if_some : (b : Bool) (x : What) → WhatIn P x → IfSome (if b then Some x else None) (WhatIn P)
  if_some true x h = h
  if_some false x h = tt

  last_in : (n : Name) (all : List Entry) → Each (EntryIn P) all → IfSome (last_of n all) (WhatIn P)
  unfolding last_of
  last_in n [] h = tt
  last_in n (e ∷ more) h = or_else_in (last_of n more) (if bytes_eq e.0 n then Some e.1 else None) (last_in n more h.1) (if_some (bytes_eq e.0 n) e.1 h.0)

  -- ---- types

  mutual
    unfolding form forms

    pub form_in : (at : Scope) (t : TypeTree) → ScopeIn P at → InType P t → JudgedIn P (FormedIn P) (form at t)
    form_in at (Vector word s ranges) z h = bind_in P (LayoutIn P) (FormedIn P) (vector_layout at (has_sign s) ranges) _ (vector_in at (has_sign s) ranges h) (λ x w. (w, tt))
    form_in at Integer z h = (inl (omega arith), tt)
    form_in at (Named w ranges) z h =
        bind_in P (LayoutIn P) (FormedIn P) (named_layout at w (find w.text at) ranges) _ (named_in at w (find w.text at) ranges h.0 (last_in w.text at.all z) h.1) (λ x w. (w, tt))
    form_in at (Enum word s r all) z h =
        bind_in P (LayoutIn P) (FormedIn P) (vector_layout at (has_sign s) (option_to_list r)) _ (vector_in at (has_sign s) (option_to_list r) (option_in r h.0))
        (λ base w. bind_in P (Each (DeclaredAt P)) (FormedIn P) (labels at (width base) (has_sign s) (pos 0) all) _ (labels_in at (width base) (has_sign s) (pos 0) all h.1) (λ found k. (w, k)))
    form_in at (Struct' s r all ranges) z h =
        bind_in P (FormsIn P all) (FormedIn P) (forms at [] 0 all >>= λ found. provided (some_member found.0) found) _
        (bind_in P (FormsIn P all) (FormsIn P all) (forms at [] 0 all) _ (forms_in at [] 0 all z (more_of_in all h.0))
        (λ found k. provided_in P (FormsIn P all) (some_member found.0) found (some_told found.0 (row_wide all found.0 h.0 k.0)) k))
        (λ found k. bind_in P (LayoutIn P) (FormedIn P) (struct_layout (with_names at (entries_of found.1)) (has_sign s) ranges found.0) _
        (struct_in _ (has_sign s) ranges found.0 h.1 (row_wide all found.0 h.0 k.0)) (λ x w. (w, k.1)))

    forms_in : {m : Count} (at : Scope) (used : List Name) (bits : ℕ) (all : Row_of-Member m) → ScopeIn P at → MoreIn P all → JudgedIn P (FormsIn P all) (forms at used bits all)
    forms_in at used bits end_of-Member z h = (tt, tt)
    forms_in at used bits (more_of-Member (Of' r (more_of-TypeTree t end_of-TypeTree) names) all) z h =
        bind_in P (FormedIn P) (FormsIn P (more_of-Member (Of' r (more_of-TypeTree t end_of-TypeTree) names) all)) (form at t) _ (form_in at t z h.0.0)
        (λ x k. bind_in P (FormedIn P) (FormsIn P (more_of-Member (Of' r (more_of-TypeTree t end_of-TypeTree) names) all)) (provided (member_faults used bits x.0 names) x) _
        (provided_in P (FormedIn P) (member_faults used bits x.0 names) x (members_told used bits x.0 names (names_of_in names h.0.1)) k)
        (λ y l. bind_in P (FormsIn P all) (FormsIn P (more_of-Member (Of' r (more_of-TypeTree t end_of-TypeTree) names) all)) _ _ (forms_in (with_names at (entries_of y.1)) _ _ all (with_in at y.1 z l.1) h.1)
        (λ rest n. (members_wide names y.0 rest.0 h.0.1 l.0, each_append (DeclaredAt P) y.1 rest.1 l.1 n.1))))

  -- ---- the values of parameters

  untyped_in : (m : Meaning) → MeaningIn P m → JudgedIn P (WhatIn P) (untyped m)
  untyped_in m h = provided_in P (WhatIn P) (fixed_faults m) _ (fixed_in P m h) tt

  signed_in : (s : Bool) (m : Meaning) → MeaningIn P m → JudgedIn P (WhatIn P) (with_sign s m)
  signed_in s m h = provided_in P (WhatIn P) (fixed_faults m) _ (fixed_in P m h) tt

  pub converted_told : (w : ℕ) (m : Meaning) → MeaningIn P m → Told P (converted_faults w m)
  converted_told w m h = told_then P (m.faults true) _ (h.0 true) (told_if P _ not_constant m.start h.1)

  typed_in : (w : ℕ) (s : Bool) (m : Meaning) → MeaningIn P m → JudgedIn P (WhatIn P) (typed w s m)
  typed_in w s m h = provided_in P (WhatIn P) (converted_faults w m) _ (converted_told w m h) tt

  width_in : (at : Scope) (r : Range) → InRange P r → JudgedIn P Any (range_width at r)
  width_in at r h = bind_in P Any Any (bounds at r) _ (bounds_in at r h) (λ b u. provided_in P Any _ _ (told_if P _ bad_width r.place h.0) tt)

  pub kind_in : (at : Scope) (t : Option ParamType) → IfSome t (InParamType P) → JudgedIn P Any (param_kind at t)
  kind_in at None h = tt
  kind_in at (Some (param_type.Whole word s)) h = tt
  kind_in at (Some (param_type.Bits None None None)) h = tt
  kind_in at (Some (param_type.Bits None (Some s) None)) h = tt
  kind_in at (Some (param_type.Bits word s (Some r))) h = bind_in P Any Any (range_width at r) _ (width_in at r h) (λ w u. tt)
  kind_in at (Some (param_type.Bits (Some word) s None)) h = tt

  pub value_in : (k : ParamKind) (m : Meaning) → MeaningIn P m → JudgedIn P (WhatIn P) (value_as k m)
  value_in kept m h = untyped_in m h
  value_in (signed_as s) m h = signed_in s m h
  value_in (sized_as w s) m h = typed_in w s m h

  -- ---- pins

  pinned_in : (w : Word) (x : Pin) → InWord P w → InPin P x → IfSome (pinned w x) (InExpr P)
  pinned_in w pin.Same q h = (q, tt)
  pinned_in w pin.Open q h = tt
  pinned_in w (pin.Given x) q h = h

  pin_told : (names used : List Name) (w : Word) → InWord P w → Told P (pin_faults names used w)
  pin_told names used w h = search (told_then P, told_if P)

  abbrev PinsIn : NamedPin × List Connection → Type 0
  PinsIn z = InNamedPin P z.0 × Each (ConnectionIn P) z.1

  by_name_in : (names used : List Name) (all : List NamedPin) → Each (InNamedPin P) all → JudgedIn P (Each (ConnectionIn P)) (by_name names used all)
  unfolding by_name
  by_name_in names used [] h = tt
  by_name_in names used (x ∷ more) h =
      bind_in P PinsIn (Each (ConnectionIn P)) (both (provided (pin_faults names used x.name) x) (by_name names (x.name.text ∷ used) more)) _
      (both_in P (InNamedPin P) (Each (ConnectionIn P)) (provided (pin_faults names used x.name) x) (by_name names (x.name.text ∷ used) more)
      (provided_in P (InNamedPin P) (pin_faults names used x.name) x (pin_told names used x.name h.0.0) h.0) (by_name_in names (x.name.text ∷ used) more h.1))
      (λ found k. (pinned_in found.0.name found.0.pin k.0.0 k.0.1, k.1))

  in_order_in : (at : Scope) (names : List Name) (all : List Expr) → Each (InExpr P) all → JudgedIn P (Each (ConnectionIn P)) (in_order at names all)
  unfolding in_order
  in_order_in at names [] h = tt
  in_order_in at [] (x ∷ more) h = ((mean_in P at x h.0).1, tt)
  in_order_in at (n ∷ names) (x ∷ more) h =
      bind_in P (Each (ConnectionIn P)) (Each (ConnectionIn P)) (in_order at names more) _ (in_order_in at names more h.1) (λ rest k. (h.0, k))

  pub connections_in : (at : Scope) (names : List Name) (all : Option Pins) → IfSome all (InPins P) → JudgedIn P (Each (ConnectionIn P)) (connections at names all)
  connections_in at names None h = tt
  connections_in at names (Some (pins.Named all)) h = by_name_in names [] all h
  connections_in at names (Some (pins.Ordered all)) h = in_order_in at names all h
