-- The bits of a sound expression are as many as its context has.
use Rattle.std.proofs.Common.{◌≡◌, ℕ, zero, suc, ◌≤◌, max, Bool, true, false, ◌&&◌, ◌||◌, List, length, replicate, Option, Some, None, refl, sym, ap, ◌∙◌, arith, cond}
use Rattle.std.proofs.lemmas.List.{length-replicate, length-append}
use mathlib.Core.Former.{Count}
use Rattle.fourvec.specs.declared.Bit.{Bit}
use Rattle.fourvec.specs.declared.Bit.TheVariants.{Unknown}
use Rattle.fourvec.specs.Bits.{first, is_known, truth_of}
use Rattle.fourvec.proofs.Widths as widths
use Rattle.sv_literal.specs.declared.meaning.Literal as l
use Rattle.sv_meaning.specs.Layouts.{Read}
use Rattle.sv_meaning.specs.Meanings.{power_of, bits_at, bits_from, extend, top_goes_on, literal_value}
use Rattle.sv_meaning.proofs.Good.{length-extend, length-quotient, length-remainder, length-moved_down, length-less}
use Rattle.sv_meaning.proofs.Rising.{length-copies, length-fitted, length-bits_at}
use Rattle.sv_typed.specs.declared.ops.Turn.{Turn}
use Rattle.sv_typed.specs.declared.ops.Turn.TheVariants as turn
use Rattle.sv_typed.specs.declared.ops.Reduction.{Reduction}
use Rattle.sv_typed.specs.declared.ops.Reduction.TheVariants as red
use Rattle.sv_typed.specs.declared.ops.Arithmetic.{Arithmetic}
use Rattle.sv_typed.specs.declared.ops.Arithmetic.TheVariants as op
use Rattle.sv_typed.specs.declared.ops.Shift.{Shift}
use Rattle.sv_typed.specs.declared.ops.Shift.TheVariants as move
use Rattle.sv_typed.specs.declared.ops.Comparison.{Comparison}
use Rattle.sv_typed.specs.declared.ops.Comparison.TheVariants as cmp
use Rattle.sv_typed.specs.declared.ops.Logic.{Logic}
use Rattle.sv_typed.specs.declared.ops.Logic.TheVariants as logic
use Rattle.sv_typed.specs.declared.tree.Root.{Root}
use Rattle.sv_typed.specs.declared.tree.Root.TheVariants.{Number, Signal}
use Rattle.sv_typed.specs.declared.tree.Typed.{Typed}
use Rattle.sv_typed.specs.declared.tree.TypedForm.{TypedForm, Literal, Named', Turned', Reduced', Computed', Moved', Compared', Combined', Chosen', Power', Concat', Repeat', Standing', Fitted', Row_of-Typed, end_of-Typed, more_of-Typed, Row_of-Pick, end_of-Pick, more_of-Pick}
use Rattle.sv_typed.specs.Ops.{turned, reduced, computed, moved, compared, combined, combined_truths}
use Rattle.sv_typed.specs.Typed.{form_worth, row_together, row_picked, row_width, row_picked_width, place_in, root_bits, root_width, raised, FormIsSound, RowIsSound, IsSound, worth, own}

-- ---- operators

pub length-turned : (op : Turn) (a : List Bit) → length (turned op a) ≡ length a
length-turned turn.Plus a = refl
length-turned turn.Minus a = widths.length-neg_of a
length-turned turn.Not a = widths.length-not_of a

pub length-reduced : (op : Reduction) (a : List Bit) → length (reduced op a) ≡ 1
length-reduced red.LogicNot a = widths.length-not_of (truth_of a) ∙ widths.length-truth_of a
length-reduced red.And a = refl
length-reduced red.Nand a = widths.length-not_of _
length-reduced red.Or a = refl
length-reduced red.Nor a = widths.length-not_of _
length-reduced red.Xor a = refl
length-reduced red.Xnor a = widths.length-not_of _

pub length-computed : (op : Arithmetic) (s : Bool) (a b : List Bit) → length a ≡ length b → length (computed op s a b) ≡ length a
length-computed op.Mul s a b e = widths.length-mul_of a b
length-computed op.Div s a b e = length-quotient s a b
length-computed op.Rem s a b e = length-remainder s a b
length-computed op.Add s a b e = widths.length-add_of a b
length-computed op.Sub s a b e = widths.length-sub_of a b
length-computed op.And s a b e = widths.length-and_of a b e
length-computed op.Xor s a b e = widths.length-xor_of a b e
length-computed op.Xnor s a b e = widths.length-not_of _ ∙ widths.length-xor_of a b e
length-computed op.Or s a b e = widths.length-or_of a b e

pub length-moved : (op : Shift) (s : Bool) (a b : List Bit) → length (moved op s a b) ≡ length a
length-moved move.Left s a b = widths.length-shl_of a b
length-moved move.Right s a b = widths.length-shr_of a b
length-moved move.SignedRight s a b = length-moved_down s a b

pub length-compared : (op : Comparison) (s : Bool) (a b : List Bit) → length (compared op s a b) ≡ 1
length-compared cmp.Lt s a b = length-less s a b
length-compared cmp.Le s a b = widths.length-not_of _ ∙ length-less s b a
length-compared cmp.Gt s a b = length-less s b a
length-compared cmp.Ge s a b = widths.length-not_of _ ∙ length-less s a b
length-compared cmp.Eq s a b = widths.length-eq_of a b
length-compared cmp.Ne s a b = widths.length-not_of _ ∙ widths.length-eq_of a b

one_bit : (op : Logic) (a b : List Bit) → length a ≡ 1 → length b ≡ 1 → length (combined_truths op a b) ≡ 1
one_bit logic.And a b e h = widths.length-and_of a b (e ∙ sym h) ∙ e
one_bit logic.Or a b e h = widths.length-or_of a b (e ∙ sym h) ∙ e
one_bit logic.Implies a b e h = let n = widths.length-not_of a in widths.length-or_of _ b (n ∙ e ∙ sym h) ∙ n ∙ e
one_bit logic.Equivalent a b e h = widths.length-not_of _ ∙ widths.length-xor_of a b (e ∙ sym h) ∙ e

pub length-combined : (op : Logic) (a b : List Bit) → length (combined op a b) ≡ 1
length-combined op a b = one_bit op (truth_of a) (truth_of b) (widths.length-truth_of a) (widths.length-truth_of b)

length-power : (w : ℕ) (a : List Bit) (n : ℕ) → length (power_of w a n) ≡ w
length-power w a zero = widths.length_either true w 1
length-power w a (suc n) = widths.length_either (is_known a) w _

pub length-raised : (w : ℕ) (a : List Bit) (n : Option ℕ) → length (raised w a n) ≡ w
length-raised w a None = length-replicate w Unknown
length-raised w a (Some n) = length-power w a n

-- ---- names

length-bits_from : (f : ℕ → Bit) (k w : ℕ) → length (bits_from f k w) ≡ w
unfolding bits_from
length-bits_from f k zero = refl
length-bits_from f k (suc w) = ap suc (length-bits_from f (suc k) w)

pub length-root : (root : Root) (read : Read) → length (root_bits root read) ≡ root_width root
length-root (Number v) read = refl
length-root (Signal o n w) read = length-bits_from _ 0 w

row_picked_long : {k : Count} (picks : Row_of-Pick k) (read : Read) (a : List Bit) (w : ℕ) → length a ≡ w → length (row_picked picks read a) ≡ row_picked_width picks w
unfolding form_worth row_picked_width
row_picked_long end_of-Pick read a w e = e
row_picked_long (more_of-Pick v c place all) read a w e = row_picked_long all read (bits_at (place_in place read) v a) v (length-bits_at (place_in place read) v a)

-- ---- trees

literal_long : (x : l.Literal) (n w : ℕ) (s : Bool) → length x.value ≡ n → n ≤ w → length (literal_value x w s) ≡ w
literal_long x n w s e h = either x.fill
  where
    either : (b : Bool) → length (cond b (replicate w (first x.value)) (extend (top_goes_on x || s) w x.value)) ≡ w
    either true = length-replicate w (first x.value)
    either false = length-extend (top_goes_on x || s) w x.value (omega arith)

mutual
  unfolding form_worth FormIsSound row_width

  form_long : (n : ℕ) (x : TypedForm) → FormIsSound n x → (read : Read) (w : ℕ) (s : Bool) → n ≤ w → length (form_worth n x read w s) ≡ w
  form_long n (Literal l) h read w s k = literal_long l n w s h.2 k
  form_long n (Named' root t picks) h read w s k = length-extend s w _ (let e = row_picked_long picks read (root_bits root read) (root_width root) (length-root root read) in let f = h.3 in omega arith)
  form_long n (Turned' op t (more_of-Typed u p c x end_of-Typed)) h read w s k = length-turned op _ ∙ form_long u x h.1 read w s (let g = h.2 in omega arith)
  form_long n (Reduced' op t (more_of-Typed u p c x end_of-Typed)) h read w s k = length-extend s w _ (let e = length-reduced op (form_worth u x read u p) in let g = h.0 in omega arith)
  form_long n (Computed' op t (more_of-Typed u p c x end_of-Typed) r (more_of-Typed v q d y end_of-Typed)) h read w s k =
      let e = form_long u x h.1 read w s (let g = h.3 in omega arith) in
      let f = form_long v y h.2 read w s (let g = h.4 in omega arith) in
      length-computed op s _ _ (e ∙ sym f) ∙ e
  form_long n (Moved' op t (more_of-Typed u p c x end_of-Typed) r (more_of-Typed v q d y end_of-Typed)) h read w s k =
      length-moved op s _ _ ∙ form_long u x h.1 read w s (let g = h.3 in omega arith)
  form_long n (Compared' op t (more_of-Typed u p c x end_of-Typed) r (more_of-Typed v q d y end_of-Typed)) h read w s k =
      length-extend s w _ (let e = length-compared op (p && q) (form_worth u x read (max u v) (p && q)) (form_worth v y read (max u v) (p && q)) in let g = h.0 in omega arith)
  form_long n (Combined' op t (more_of-Typed u p c x end_of-Typed) r (more_of-Typed v q d y end_of-Typed)) h read w s k =
      length-extend s w _ (let e = length-combined op (form_worth u x read u p) (form_worth v y read v q) in let g = h.0 in omega arith)
  form_long n (Chosen' i (more_of-Typed b o e z end_of-Typed) t (more_of-Typed u p c x end_of-Typed) r (more_of-Typed v q d y end_of-Typed)) h read w s k =
      let e = form_long u x h.2 read w s (let g = h.4 in omega arith) in
      let f = form_long v y h.3 read w s (let g = h.5 in omega arith) in
      widths.length-cond_of _ _ _ (e ∙ sym f) ∙ e
  form_long n (Power' t (more_of-Typed u p c x end_of-Typed) e) h read w s k = length-raised w _ e
  form_long n (Concat' t all) h read w s k = length-extend s w _ (let e = row_long all h.1 read in let g = h.2 in omega arith)
  form_long n (Repeat' count t all) h read w s k =
      length-extend s w _ (let e = length-copies count (row_width all) (row_together all read) (row_long all h.1 read) in let g = h.2 in omega arith)
  form_long n (Standing' t (more_of-Typed u p c x end_of-Typed)) h read w s k = length-extend s w _ (let e = form_long u x h.0 read u p (omega arith) in let g = h.1 in omega arith)
  form_long n (Fitted' t (more_of-Typed u p c x end_of-Typed)) h read w s k = length-extend s w _ (let e = length-fitted p n (form_worth u x read u p) in omega arith)

  row_long : {k : Count} (all : Row_of-Typed k) → RowIsSound all → (read : Read) → length (row_together all read) ≡ row_width all
  row_long end_of-Typed h read = refl
  row_long (more_of-Typed u p c x all) h read =
      let e = length-append (row_together all read) (form_worth u x read u p) in
      let f = row_long all h.1 read in
      let g = form_long u x h.0 read u p (omega arith) in
      omega arith

pub length-worth : (t : Typed) → IsSound t → (read : Read) (w : ℕ) (s : Bool) → t.width ≤ w → length (worth t read w s) ≡ w
unfolding IsSound
length-worth t h read w s k = form_long t.width t.form h read w s k

pub length-own : (t : Typed) → IsSound t → (read : Read) → length (own t read) ≡ t.width
length-own t h read = length-worth t h read t.width t.signed (omega arith)

pub ruleset lengths = (length-worth, length-own)
