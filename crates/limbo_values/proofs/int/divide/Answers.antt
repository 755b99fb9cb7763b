use Rattle.std.proofs.Common.{◌≡◌, sym, ap, ap₂, ◌∙◌, arith, w32, to_z, of_z, Ok, ◌≤◌, ◌^◌}
use Rattle.std.specs.Prelude.{int_div, unsigned_abs}
use Rattle.std.specs.Int.{int_wrap, int_wrapping_div}
use Rattle.std.proofs.lemmas.Int.{to_z-of_z}
use Rattle.limbo_values.proofs.Division.{unless_zero-is}
use Rattle.limbo_values.proofs.Signed.{read_wrapped, unsigned_abs-div, unsigned_abs-fits}
use Rattle.limbo_values.proofs.int.divide.Goals as goal

pub returns : goal.returns
returns c =
    let quotient = int_div c.args.a c.args.b in
    let small : unsigned_abs quotient ≤ 2 ^ 31 =
    omega (arith, unsigned_abs-div c.args.a c.args.b, unsigned_abs-fits w32 c.args.a c.ranges.a) in
    let is : to_z w32 (of_z w32 quotient) ≡ int_wrap w32 quotient = read_wrapped w32 quotient small (omega arith) in
    let given : to_z w32 (of_z w32 c.wrapping_div.result) ≡ int_wrap w32 quotient =
    to_z-of_z w32 _ (record { sfits = c.wrapping_div.type_inv }) ∙ c.wrapping_div.ensures
    ∙ ap₂ (int_wrapping_div w32) (to_z-of_z w32 c.args.a c.ranges.a) (to_z-of_z w32 c.args.b c.ranges.b) ∙ is in
    ap Ok given ∙ sym (unless_zero-is c.args.b (int_wrap w32 quotient) (λ zero. c.if-b-eq0.false (ap (of_z w32) zero)))
