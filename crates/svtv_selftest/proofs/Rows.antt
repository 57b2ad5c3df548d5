-- The texts of one register and of two, written out.
use Rattle.std.proofs.Common.{◌≡◌, ◌++◌, codes, refl}
use Rattle.std.specs.Fmt.{digits}
use Rattle.svtv_selftest.specs.Texts.{design_text, each_from, goals_text, table_text}

one_register :
    design_text 1
    ≡ codes "module st(input logic clk, input logic [31:0] a, input logic [7:0] p, q, output logic [31:0] y, output logic [7:0] u);\n"
    ++ (codes "  logic [31:0] r1; logic [7:0] t1;\n"
    ++ (codes "  always_ff @(posedge clk) begin\n"
    ++ (codes "    r1 <= {a[30:0], ~a[31]}; t1 <= p + q;\n"
    ++ (codes "  end\n"
    ++ (codes "  assign y = r1; assign u = t1;\n"
    ++ codes "endmodule\n")))))
unfolding design_text each_from digits
one_register = refl

two_registers :
    design_text 2
    ≡ codes "module st(input logic clk, input logic [31:0] a, input logic [7:0] p, q, output logic [31:0] y, output logic [7:0] u);\n"
    ++ (codes "  logic [31:0] r1; logic [7:0] t1;\n"
    ++ (codes "  logic [31:0] r2; logic [7:0] t2;\n"
    ++ (codes "  always_ff @(posedge clk) begin\n"
    ++ (codes "    r1 <= {a[30:0], ~a[31]}; t1 <= p + q;\n"
    ++ (codes "    r2 <= {r1[30:0], ~r1[31]}; t2 <= t1;\n"
    ++ (codes "  end\n"
    ++ (codes "  assign y = r2; assign u = t2;\n"
    ++ codes "endmodule\n")))))))
unfolding design_text each_from digits
two_registers = refl

two_phases :
    table_text 1
    ≡ codes "in,clk,0,~\n"
    ++ (codes "in,a,a,_\n"
    ++ (codes "in,p,p,_\n"
    ++ (codes "in,q,q,_\n"
    ++ (codes "out,y,,s\n"
    ++ codes "out,u,,w\n"))))
unfolding table_text each_from
two_phases = refl

four_phases :
    table_text 2
    ≡ codes "in,clk,0,~,~,~\n"
    ++ (codes "in,a,a,_,_,_\n"
    ++ (codes "in,p,p,_,_,_\n"
    ++ (codes "in,q,q,_,_,_\n"
    ++ (codes "out,y,,,,s\n"
    ++ codes "out,u,,,,w\n"))))
unfolding table_text each_from
four_phases = refl

turned_by_one : goals_text 1 ≡ codes "goal turn { claim s == {a[30:0], ~a[31:31]}; }\n" ++ (codes "goal sum { claim w == q + p; }\n" ++ codes "goal same { claim s == a; }\n")
unfolding goals_text digits
turned_by_one = refl

turned_by_two : goals_text 2 ≡ codes "goal turn { claim s == {a[29:0], ~a[31:30]}; }\n" ++ (codes "goal sum { claim w == q + p; }\n" ++ codes "goal same { claim s == a; }\n")
unfolding goals_text digits
turned_by_two = refl

turned_by_most : goals_text 30 ≡ codes "goal turn { claim s == {a[1:0], ~a[31:2]}; }\n" ++ (codes "goal sum { claim w == q + p; }\n" ++ codes "goal same { claim s == a; }\n")
unfolding goals_text digits
turned_by_most = refl
