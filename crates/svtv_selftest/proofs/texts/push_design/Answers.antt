use Rattle.std.proofs.Common.{◌≡◌, ◌++◌, ◌-◌, codes, decimal}
use Rattle.svtv_selftest.specs.Texts.{design_text, each_from, handing, registers}
use Rattle.svtv_selftest.proofs.Turns.{five_more, on_ok}
use Rattle.svtv_selftest.proofs.texts.push_design.Goals as goal

pub returns : goal.returns
unfolding design_text
returns c =
    on_ok c.push_parts.result _ (c.push_parts.new.text.items ≡ c.args.text.now.items ++ design_text c.args.count)
    (λ h. five_more c.args.text.now.items c.extend_from_slice.new.self.items c.push_all_registers.new.text.items c.extend_from_slice-2.new.self.items c.push_all_handing.new.text.items c.push_parts.new.text.items
    (codes "module st(input logic clk, input logic [31:0] a, input logic [7:0] p, q, output logic [31:0] y, output logic [7:0] u);\n") (each_from 1 c.args.count registers)
    (codes "  always_ff @(posedge clk) begin\n    r1 <= {a[30:0], ~a[31]}; t1 <= p + q;\n") (each_from 2 (c.args.count - 1) handing)
    (codes "  end\n  assign y = r" ++ (decimal c.args.count ++ (codes "; assign u = t" ++ (decimal c.args.count ++ codes ";\nendmodule\n"))))
    c.in_ok-extend_from_slice.ensures.items c.in_ok-push_all_registers.ensures c.in_ok-extend_from_slice-2.ensures.items c.in_ok-push_all_handing.ensures h)
    c.push_parts.ensures
