-- The texts of a self test are no longer than a file may be.
use Rattle.std.proofs.Common.{◌≡◌, ℕ, ◌+◌, ◌-◌, ◌*◌, ◌^◌, ◌<◌, ◌≤◌, Bool, true, false, cond, leb, zero, suc, ◌++◌, length, bytes_eq, Some, codes, refl, subst, arith}
use Rattle.std.specs.Prelude.{decimal}
use Rattle.std.specs.List.{flat_map, range_with_len}
use Rattle.std.proofs.lemmas.Bool.{leb-true}
use Rattle.std.proofs.lemmas.Fmt.{length-decimal-le}
use Rattle.std.proofs.lemmas.List.{length-append}
use Rattle.svtv_selftest.specs.Texts.{Text, design_name, design_text, each_from, goals_name, goals_text, handing, most, often, registers, table_name, table_text, text_under, told}

-- ---- parts

short : (t : Text) (m k : ℕ) → length t ≤ m → m ≤ k → length t ≤ k
short t m k h l = omega (arith, h, l)

join : (a : Text) (m : ℕ) → length a ≤ m → (b : Text) (n : ℕ) → length b ≤ n → length (a ++ b) ≤ m + n
join a m h b n k = let e : length (a ++ b) ≡ length a + length b = length-append a b in omega (arith, e, h, k)

last : (w : Text) (m : ℕ) → leb (length w) m ≡ true → length w ≤ m
last w m e = leb-true (length w) m e

word : (w : Text) (m : ℕ) → leb (length w) m ≡ true → (b : Text) (n : ℕ) → length b ≤ n → length (w ++ b) ≤ m + n
word w m e b n k = join w m (last w m e) b n k

number : (n : ℕ) → n < 100 → (b : Text) (m : ℕ) → length b ≤ m → length (decimal n ++ b) ≤ 2 + m
number n h b m k = join (decimal n) 2 (length-decimal-le 2 n (omega arith) (omega arith) (omega (arith, h))) b m k

each : (a n : ℕ) (f : ℕ → Text) → ((i : ℕ) → i < a + n → length (f i) ≤ 200) → length (each_from a n f) ≤ n * 200
unfolding each_from
each a zero f h = omega arith
each a (suc n) f h =
    let first : length (f a) ≤ 200 = h a (omega arith) in
    let rest : length (flat_map f (range_with_len (a + 1) n)) ≤ n * 200 = each (a + 1) n f (λ i l. h i (omega (arith, l))) in
    let e : length (f a ++ flat_map f (range_with_len (a + 1) n)) ≡ length (f a) + length (flat_map f (range_with_len (a + 1) n)) = length-append (f a) (flat_map f (range_with_len (a + 1) n)) in
    omega (arith, e, first, rest)

lines : (a n : ℕ) (f : ℕ → Text) → ((i : ℕ) → i < a + n → length (f i) ≤ 200) → (b : Text) (m : ℕ) → length b ≤ m → length (each_from a n f ++ b) ≤ n * 200 + m
lines a n f h b m k = join (each_from a n f) (n * 200) (each a n f h) b m k

cells : (n : ℕ) (w : Text) → leb (length w) 200 ≡ true → (b : Text) (m : ℕ) → length b ≤ m → length (often n w ++ b) ≤ n * 200 + m
cells n w e b m k = lines 0 n (λ i. w) (λ i l. last w 200 e) b m k

-- ---- lines

registers_short : (i : ℕ) → i < 100 → length (registers i) ≤ 200
registers_short i h =
    short (registers i) _ 200 (word (codes "  logic [31:0] r") 20 refl _ _ (number i h _ _ (word (codes "; logic [7:0] t") 20 refl _ _ (number i h _ _ (last (codes ";\n") 2 refl))))) (omega arith)

handing_short : (i : ℕ) → i < 100 → length (handing i) ≤ 200
handing_short i h =
    let k : i - 1 < 100 = omega (arith, h) in
    short (handing i) _ 200 (word (codes "    r") 20 refl _ _ (number i h _ _ (word (codes " <= {r") 20 refl _ _ (number (i - 1) k _ _ (word (codes "[30:0], ~r") 20 refl _ _ (number (i - 1) k _ _
    (word (codes "[31]}; t") 20 refl _ _ (number i h _ _ (word (codes " <= t") 20 refl _ _ (number (i - 1) k _ _ (last (codes ";\n") 2 refl))))))))))) (omega arith)

-- ---- texts

design_short : (n : ℕ) → n ≤ most → length (design_text n) ≤ 2 ^ 24
unfolding design_text
design_short n h =
    let k : n < 100 = omega (arith, h) in
    short (design_text n) _ (2 ^ 24)
    (word (codes "module st(input logic clk, input logic [31:0] a, input logic [7:0] p, q, output logic [31:0] y, output logic [7:0] u);\n") 200 refl _ _
    (lines 1 n registers (λ i l. registers_short i (omega (arith, l, h))) _ _
    (word (codes "  always_ff @(posedge clk) begin\n    r1 <= {a[30:0], ~a[31]}; t1 <= p + q;\n") 200 refl _ _
    (lines 2 (n - 1) handing (λ i l. handing_short i (omega (arith, l, h))) _ _
    (word (codes "  end\n  assign y = r") 40 refl _ _ (number n k _ _ (word (codes "; assign u = t") 40 refl _ _ (number n k _ _ (last (codes ";\nendmodule\n") 40 refl)))))))))
    (omega (arith, h))

table_short : (n : ℕ) → n ≤ most → length (table_text n) ≤ 2 ^ 24
unfolding table_text
table_short n h =
    let m = 2 * n - 1 in
    short (table_text n) _ (2 ^ 24)
    (word (codes "in,clk,0") 20 refl _ _ (cells m (codes ",~") refl _ _
    (word (codes "\nin,a,a") 20 refl _ _ (cells m (codes ",_") refl _ _
    (word (codes "\nin,p,p") 20 refl _ _ (cells m (codes ",_") refl _ _
    (word (codes "\nin,q,q") 20 refl _ _ (cells m (codes ",_") refl _ _
    (word (codes "\nout,y") 20 refl _ _ (cells m (codes ",") refl _ _
    (word (codes ",s\nout,u") 20 refl _ _ (cells m (codes ",") refl _ _
    (last (codes ",w\n") 20 refl)))))))))))))
    (omega (arith, h))

goals_short : (n : ℕ) → n ≤ most → length (goals_text n) ≤ 2 ^ 24
unfolding goals_text
goals_short n h =
    short (goals_text n) _ (2 ^ 24)
    (word (codes "goal turn { claim s == {a[") 40 refl _ _ (number (31 - n) (omega arith) _ _ (word (codes ":0], ~a[31:") 40 refl _ _ (number (32 - n) (omega arith) _ _
    (last (codes "]}; }\ngoal sum { claim w == q + p; }\ngoal same { claim s == a; }\n") 100 refl)))))
    (omega arith)

either : (b : Bool) (x y : Text) → length x ≤ 2 ^ 24 → length y ≤ 2 ^ 24 → length (cond b x y) ≤ 2 ^ 24
either true x y h k = h
either false x y h k = k

text_short : (n : ℕ) (name : Text) → n ≤ most → length (text_under n name) ≤ 2 ^ 24
text_short n name h = either (bytes_eq name design_name) _ _ (design_short n h) (either (bytes_eq name table_name) _ _ (table_short n h) (either (bytes_eq name goals_name) _ _ (goals_short n h) (omega arith)))

-- what is told of a file is no longer
pub told_short : (n : ℕ) (name text : Text) → n ≤ most → told n name ≡ Some text → length text ≤ 2 ^ 24
told_short n name text h e =
    let same : text_under n name ≡ text = cc in
    subst (λ (t : Text). length t ≤ 2 ^ 24) same (text_short n name h)
