-- What was driven, overridden and sampled, one row on.
use Rattle.std.proofs.Common.{◌≡◌, ◌≢◌, ◌<◌, ℕ, List, [], ◌∷◌, ◌++◌, map, length, get_or, set, Bool, true, false, ◌||◌, Option, Some, Result, Ok, Err, ◌⊎◌, inl, inr, refl, sym, ◌∙◌, ap, subst, arith, ⊎_elim, get_or-set_same, get_or-set_other}
use Rattle.std.specs.Prelude.{OnOk, unwrap_or}
use Rattle.std.specs.List.{flat_map, list_any}
use Rattle.std.specs.Str.{bytes_eq}
use Rattle.std.specs.Cmp.Lexicographic.{nat_list_eq_equiv, bytes_decides}
use Rattle.std.proofs.lemmas.Bool.{cases_Bool, cases_eq}
use Rattle.std.proofs.lemmas.List.{append-nil, length-set}
use Rattle.std.proofs.lemmas.Grind.{flat_map-append}
use Rattle.sv_outside.specs.declared.text.Signal.{Signal}
use Rattle.svtv_table.specs.Binding.{cell_sample, driven_by, driven_in, drives_path, overridden_by, overridden_in, overrides_path, phase_over, sampled_by, sampled_in, samples_of}
use Rattle.svtv_table.specs.Drives.{phase_drive}
use Rattle.svtv_table.specs.Faults.{at_each}
use Rattle.svtv_table.specs.Following.{AreNamed, Follows, Gathers}
use Rattle.svtv_table.specs.Names.{path_of, width_of, wire_number, wire_of}
use Rattle.svtv_table.specs.declared.binding.Marked.{Marked}
use Rattle.svtv_table.specs.declared.binding.Work.{Work}
use Rattle.svtv_table.specs.declared.bound.Drive.{Drive}
use Rattle.svtv_table.specs.declared.bound.Sample.{Sample}
use Rattle.svtv_table.specs.declared.bound.VarDecl.{VarDecl}
use Rattle.svtv_table.specs.declared.samples.Samples.{Samples}
use Rattle.table_cells.specs.declared.table.Row.{Row}
use Rattle.table_cells.specs.declared.table.RowKind.{RowKind}
use Rattle.table_cells.specs.declared.table.RowKind.TheVariants.{In, Over, Out}
use Rattle.svtv_table.proofs.Places.{same_place}

pub on_ok_both : {T E A B C : Type 0} (r : Result T E) → OnOk r A → OnOk r B → (A → B → C) → OnOk r C
on_ok_both (Ok x) a b f = f a b
on_ok_both (Err e) a b f = tt

or_true : (a b : Bool) → b ≡ true → (a || (b || false)) ≡ true
or_true true b h = refl
or_true false true h = refl
or_true false false h = cc

or_false : (a b : Bool) → b ≡ false → (a || (b || false)) ≡ a
or_false true b h = refl
or_false false true h = cc
or_false false false h = refl

any_push : {A : Type 0} (p : A → Bool) (xs : List A) (x : A) → list_any p (xs ++ x ∷ []) ≡ (list_any p xs || (p x || false))
any_push p [] x = refl
any_push p (y ∷ ys) x = ap (λ b. p y || b) (any_push p ys x) ∙ or_assoc (p y) (list_any p ys) (p x || false)
  where
    or_assoc : (a b c : Bool) → (a || (b || c)) ≡ ((a || b) || c)
    or_assoc true b c = refl
    or_assoc false b c = refl

flat_push : {A B : Type 0} (f : A → List B) (xs : List A) (x : A) → flat_map f (xs ++ x ∷ []) ≡ flat_map f xs ++ f x
flat_push f xs x = flat_map-append f xs (x ∷ []) ∙ ap (λ ys. flat_map f xs ++ ys) (append-nil (f x))

-- ---- rows of one kind, told by a test of kinds and paths

abbrev Test : Type 0
Test = RowKind → List ℕ → List ℕ → Bool

abbrev is_there : Test → List Row → List ℕ → Bool
is_there p rows path = list_any (λ row. p row.kind row.path path) rows

module _ (p : Test) (wires : List Signal) (before : List Row) (row : Row) where
  -- a wire is marked once a row of the kind has its path
  marked : (marks new : List Bool) (w : ℕ) → ((path : List ℕ) → p row.kind row.path path ≡ bytes_eq row.path path) → wire_of wires row.path ≡ Some w → w < length marks → new ≡ set marks w true
      → ((path : List ℕ) (wire : ℕ) → wire_of wires path ≡ Some wire → get_or marks wire false ≡ is_there p before path)
      → (path : List ℕ) (wire : ℕ) → wire_of wires path ≡ Some wire → get_or new wire false ≡ is_there p (before ++ row ∷ []) path
  marked marks new w kind here within made old path wire found =
      let whole : is_there p (before ++ row ∷ []) path ≡ (is_there p before path || (bytes_eq row.path path || false)) =
      any_push (λ (r : Row). p r.kind r.path path) before row ∙ ap (λ b. is_there p before path || (b || false)) (kind path) in
      ap (λ m. get_or m wire false) made ∙ ⊎_elim
      (λ (e : wire ≡ w).
      let one : row.path ≡ path = same_place (map path_of wires) row.path path w here (found ∙ ap (λ n. Some n) e) in
      let same : bytes_eq row.path path ≡ true = subst (λ q. bytes_eq row.path q ≡ true) one (nat_list_eq_equiv.refl row.path) in
      ap (λ n. get_or (set marks w true) n false) e ∙ (get_or-set_same marks w true false within ∙ sym (whole ∙ or_true (is_there p before path) (bytes_eq row.path path) same)))
      (λ (n : wire ≢ w).
      let other : bytes_eq row.path path ≡ false = ⊎_elim (λ y. absurd (n (let a : row.path ≡ path = (bytes_decides row.path path).0 y in let b : Some wire ≡ Some w = sym found ∙ (ap (wire_of wires) (sym a) ∙ here) in cc))) (λ f. f) (cases_Bool (bytes_eq row.path path)) in
      get_or-set_other marks w wire true false n ∙ (old path wire found ∙ sym (whole ∙ or_false (is_there p before path) (bytes_eq row.path path) other)))
      (cases_eq wire w)

  module _ {T : Type 0} (f : Row → List (ℕ × List T)) where
    abbrev Behind : Marked T → Type 0
    Behind marks = Gathers wires (flat_map f (before ++ row ∷ [])) (is_there p (before ++ row ∷ [])) marks

    -- a row of the kind was put in
    gathers_more : (old new : Marked T) (w : ℕ) (cells : List T) → f row ≡ (w, cells) ∷ [] → ((path : List ℕ) → p row.kind row.path path ≡ bytes_eq row.path path) → wire_of wires row.path ≡ Some w → w < length wires
        → Gathers wires (flat_map f before) (is_there p before) old → new.rows ≡ old.rows ++ (w, cells) ∷ [] → new.marks.items ≡ set old.marks.items w true → Behind new
    gathers_more old new w cells this kind here within g put made = record {
      rows = put ∙ (ap (λ rows. rows ++ (w, cells) ∷ []) g.rows ∙ (ap (λ rows. flat_map f before ++ rows) (sym this) ∙ sym (flat_push f before row)));
      room = ap length made ∙ (length-set old.marks.items w true ∙ g.room);
      marks = marked old.marks.items new.marks.items w kind here (omega (arith, g.room)) made g.marks;
    }

    -- a row of another kind changes nothing
    gathers_same : (old : Marked T) → f row ≡ [] → ((path : List ℕ) → p row.kind row.path path ≡ false) → Gathers wires (flat_map f before) (is_there p before) old → Behind old
    gathers_same old none kind g = record {
      rows = g.rows ∙ (sym (append-nil (flat_map f before)) ∙ (ap (λ rows. flat_map f before ++ rows) (sym none) ∙ sym (flat_push f before row)));
      room = g.room;
      marks = λ path wire found. g.marks path wire found ∙ sym (any_push (λ (r : Row). p r.kind r.path path) before row ∙ or_false (is_there p before path) (p row.kind row.path path) (kind path));
    }

-- ---- the work behind one row more

module _ (wires : List Signal) (vars : List VarDecl) (before : List Row) (row : Row) where
  unsampled : row.kind ≡ In ⊎ row.kind ≡ Over → sampled_in wires row ≡ []
  unsampled (inl e) = ap (λ k. sampled_by wires k row) e
  unsampled (inr e) = ap (λ k. sampled_by wires k row) e

  samples_same : (samples : List Sample) → samples ≡ samples_of wires before → sampled_in wires row ≡ [] → samples ≡ samples_of wires (before ++ row ∷ [])
  samples_same samples e none = e ∙ (sym (append-nil (samples_of wires before)) ∙ (ap (λ ss. samples_of wires before ++ ss) (sym none) ∙ sym (flat_push (sampled_in wires) before row)))

  pub after_in : (old : Work) (new : Marked Drive) (w width : ℕ) → row.kind ≡ In → wire_of wires row.path ≡ Some w → w < length wires → width ≡ width_of wires row.path → Follows wires vars before old
      → new.rows ≡ old.drives.rows ++ (w, at_each (phase_drive width vars row.cells) 0 row.cells) ∷ [] → new.marks.items ≡ set old.drives.marks.items w true
      → Follows wires vars (before ++ row ∷ []) (record old { drives = new })
  after_in old new w width kind here within wide f put made =
      let number : wire_number wires row.path ≡ w = ap (λ o. unwrap_or o 0) here in
      let this : driven_in wires vars row ≡ (w, at_each (phase_drive width vars row.cells) 0 row.cells) ∷ [] =
      ap (λ k. driven_by wires vars k row) kind
      ∙ (ap (λ n. (n, at_each (phase_drive (width_of wires row.path) vars row.cells) 0 row.cells) ∷ []) number ∙ ap (λ n. (w, at_each (phase_drive n vars row.cells) 0 row.cells) ∷ []) (sym wide)) in
      record {
        drives = gathers_more drives_path wires before row (driven_in wires vars) old.drives new w (at_each (phase_drive width vars row.cells) 0 row.cells) this (λ path. ap (λ k. drives_path k row.path path) kind) here within f.drives put made;
        overs = gathers_same overrides_path wires before row (overridden_in wires vars) old.overs (ap (λ k. overridden_by wires vars k row) kind) (λ path. ap (λ k. overrides_path k row.path path) kind) f.overs;
        samples = samples_same old.samples.list f.samples (unsampled (inl kind));
        named = f.named;
      }

  pub after_over : (old : Work) (new : Marked (Option Drive)) (w width : ℕ) → row.kind ≡ Over → wire_of wires row.path ≡ Some w → w < length wires → width ≡ width_of wires row.path → Follows wires vars before old
      → new.rows ≡ old.overs.rows ++ (w, at_each (phase_over width vars) 0 row.cells) ∷ [] → new.marks.items ≡ set old.overs.marks.items w true
      → Follows wires vars (before ++ row ∷ []) (record old { overs = new })
  after_over old new w width kind here within wide f put made =
      let number : wire_number wires row.path ≡ w = ap (λ o. unwrap_or o 0) here in
      let this : overridden_in wires vars row ≡ (w, at_each (phase_over width vars) 0 row.cells) ∷ [] =
      ap (λ k. overridden_by wires vars k row) kind
      ∙ (ap (λ n. (n, at_each (phase_over (width_of wires row.path) vars) 0 row.cells) ∷ []) number ∙ ap (λ n. (w, at_each (phase_over n vars) 0 row.cells) ∷ []) (sym wide)) in
      record {
        drives = gathers_same drives_path wires before row (driven_in wires vars) old.drives (ap (λ k. driven_by wires vars k row) kind) (λ path. ap (λ k. drives_path k row.path path) kind) f.drives;
        overs = gathers_more overrides_path wires before row (overridden_in wires vars) old.overs new w (at_each (phase_over width vars) 0 row.cells) this (λ path. ap (λ k. overrides_path k row.path path) kind) here within f.overs put made;
        samples = samples_same old.samples.list f.samples (unsampled (inr kind));
        named = f.named;
      }

  pub after_out : (old : Work) (new : Samples) (w width : ℕ) → row.kind ≡ Out → wire_of wires row.path ≡ Some w → width ≡ width_of wires row.path → Follows wires vars before old
      → new.list ≡ old.samples.list ++ at_each (cell_sample w width) 0 row.cells → AreNamed new
      → Follows wires vars (before ++ row ∷ []) (record old { samples = new })
  after_out old new w width kind here wide f put named =
      let number : wire_number wires row.path ≡ w = ap (λ o. unwrap_or o 0) here in
      let this : sampled_in wires row ≡ at_each (cell_sample w width) 0 row.cells =
      ap (λ k. sampled_by wires k row) kind
      ∙ (ap (λ n. at_each (cell_sample n (width_of wires row.path)) 0 row.cells) number ∙ ap (λ n. at_each (cell_sample w n) 0 row.cells) (sym wide)) in
      record {
        drives = gathers_same drives_path wires before row (driven_in wires vars) old.drives (ap (λ k. driven_by wires vars k row) kind) (λ path. ap (λ k. drives_path k row.path path) kind) f.drives;
        overs = gathers_same overrides_path wires before row (overridden_in wires vars) old.overs (ap (λ k. overridden_by wires vars k row) kind) (λ path. ap (λ k. overrides_path k row.path path) kind) f.overs;
        samples = put ∙ (ap (λ ss. ss ++ at_each (cell_sample w width) 0 row.cells) f.samples ∙ (ap (λ ss. samples_of wires before ++ ss) (sym this) ∙ sym (flat_push (sampled_in wires) before row)));
        named = named;
      }
