-- The texts of a self test (this project's rules): a vector and a sum go through as many registers as the test has.
use Rattle.std.specs.Prelude.{ℕ, ◌-◌, ◌*◌, List, [], ◌++◌, Option, Some, bytes_eq, codes, decimal, if◌then◌else◌}
use Rattle.std.specs.List.{flat_map, range_with_len}

abbrev pub Text : Type 0
Text = List ℕ

-- the most registers
abbrev pub most : ℕ
most = 30

-- ---- repetition

-- the texts of so many numbers, from a first one on
unfoldable pub each_from : ℕ → ℕ → (ℕ → Text) → Text
each_from first count f = flat_map f (range_with_len first count)

-- a text so often
abbrev pub often : ℕ → Text → Text
often count text = each_from 0 count (λ k. text)

-- ---- the design

-- `  logic [31:0] r<i>; logic [7:0] t<i>;`
abbrev pub registers : ℕ → Text
registers i = codes "  logic [31:0] r" ++ (decimal i ++ (codes "; logic [7:0] t" ++ (decimal i ++ codes ";\n")))

-- `    r<i> <= {r<i-1>[30:0], ~r<i-1>[31]}; t<i> <= t<i-1>;`
abbrev pub handing : ℕ → Text
handing i =
    codes "    r" ++ (decimal i ++ (codes " <= {r" ++ (decimal (i - 1) ++ (codes "[30:0], ~r" ++ (decimal (i - 1) ++ (codes "[31]}; t" ++ (decimal i ++ (codes " <= t" ++ (decimal (i - 1) ++ codes ";\n")))))))))

-- the module of so many registers
unfoldable pub design_text : ℕ → Text
design_text n =
    codes "module st(input logic clk, input logic [31:0] a, input logic [7:0] p, q, output logic [31:0] y, output logic [7:0] u);\n"
    ++ (each_from 1 n registers
    ++ (codes "  always_ff @(posedge clk) begin\n    r1 <= {a[30:0], ~a[31]}; t1 <= p + q;\n"
    ++ (each_from 2 (n - 1) handing
    ++ (codes "  end\n  assign y = r" ++ (decimal n ++ (codes "; assign u = t" ++ (decimal n ++ codes ";\nendmodule\n")))))))

-- ---- the table

-- 2n phases: the clock goes up and down, the inputs stay, and the outputs are sampled in the last
unfoldable pub table_text : ℕ → Text
table_text n =
    let others = 2 * n - 1 in
    codes "in,clk,0" ++ (often others (codes ",~")
    ++ (codes "\nin,a,a" ++ (often others (codes ",_")
    ++ (codes "\nin,p,p" ++ (often others (codes ",_")
    ++ (codes "\nin,q,q" ++ (often others (codes ",_")
    ++ (codes "\nout,y" ++ (often others (codes ",")
    ++ (codes ",s\nout,u" ++ (often others (codes ",")
    ++ codes ",w\n")))))))))))

-- ---- the goals

-- the vector came out turned by n bits, the sum came out, and the vector came out as it went in
unfoldable pub goals_text : ℕ → Text
goals_text n =
    codes "goal turn { claim s == {a[" ++ (decimal (31 - n) ++ (codes ":0], ~a[31:" ++ (decimal (32 - n)
    ++ codes "]}; }\ngoal sum { claim w == q + p; }\ngoal same { claim s == a; }\n")))

-- ---- the files

abbrev pub design_name : Text
design_name = codes "st.sv"

abbrev pub table_name : Text
table_name = codes "st.csv"

abbrev pub goals_name : Text
goals_name = codes "st.txt"

-- the text of that name; any other name is that of an empty file
abbrev pub text_under : ℕ → Text → Text
text_under n name =
    if bytes_eq name design_name then design_text n
    else if bytes_eq name table_name then table_text n
    else if bytes_eq name goals_name then goals_text n
    else []

-- what is told of the files of a self test
abbrev pub told : ℕ → Text → Option Text
told n name = Some (text_under n name)
