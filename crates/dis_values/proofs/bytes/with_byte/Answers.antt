use Rattle.std.proofs.Common.{◌^◌, ◌-◌, ◌/◌, ◌%◌, ℕ, sym, subst, ap, ◌∙◌, arith}
use Rattle.dis_values.proofs.Packed.{Small, small, changed_at, changed_here, changed_apart}
use Rattle.dis_values.proofs.bytes.with_byte.Goals as goal

pub nonzero_div-result : goal.nonzero_div-result
nonzero_div-result c = (let s = subst (λ (p : ℕ). Small c.args.number c.args.value p) (sym c.worth-one.ensures)
    (small c.args.number c.args.value c.args.k (omega arith) c.requires (omega arith)) in omega (arith, s.some))

pub overflow_mul-result-2 : goal.overflow_mul-result-2
overflow_mul-result-2 c = (let s = subst (λ (p : ℕ). Small c.args.number c.args.value p) (sym c.worth-one.ensures)
    (small c.args.number c.args.value c.args.k (omega arith) c.requires (omega arith)) in omega (arith, s.placed))

pub nonzero_rem-result : goal.nonzero_rem-result
nonzero_rem-result c = (let s = subst (λ (p : ℕ). Small c.args.number c.args.value p) (sym c.worth-one.ensures)
    (small c.args.number c.args.value c.args.k (omega arith) c.requires (omega arith)) in omega (arith, s.some))

pub overflow_add-result-2 : goal.overflow_add-result-2
overflow_add-result-2 c = (let s = subst (λ (p : ℕ). Small c.args.number c.args.value p) (sym c.worth-one.ensures)
    (small c.args.number c.args.value c.args.k (omega arith) c.requires (omega arith)) in omega (arith, s.all))

pub returns-clause-here : goal.returns-clause-here
returns-clause-here c =
    ap (λ (p : ℕ). changed_at c.args.number c.args.value p / 256 ^ (3 - c.args.k) % 256) c.worth-one.ensures
    ∙ changed_here c.args.number c.args.value c.args.k c.requires (omega arith)

pub returns-clause-apart : goal.returns-clause-apart
returns-clause-apart c j h a =
    ap (λ (p : ℕ). changed_at c.args.number c.args.value p / 256 ^ (3 - j) % 256) c.worth-one.ensures
    ∙ changed_apart c.args.number c.args.value c.args.k j c.requires (omega arith) h a
