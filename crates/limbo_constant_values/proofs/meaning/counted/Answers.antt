use Rattle.std.proofs.Common.{◌≡◌, ◌%◌, ◌/◌, ℕ, pos, ap, ◌∙◌, w32, w64, arith}
use Rattle.std.proofs.lemmas.Int.{to_z-of_z, to_z_pos}
use Rattle.std.proofs.lemmas.Nat.{div-add-mod'}
use Rattle.limbo_values.specs.declared.number.Kind.TheVariants.{Int}
use Rattle.limbo_values.specs.declared.number.Number.TheVariants as number
use Rattle.limbo_values.specs.Numbers.{wrapped}
use Rattle.limbo_values.proofs.Wrapping.{alike}
use Rattle.limbo_constants.specs.declared.constant.Constant.TheVariants as constant
use Rattle.limbo_constant_values.proofs.meaning.counted.Goals as goal

rest : (i : ℕ) → wrapped Int (pos (i % 4294967296)) ≡ wrapped Int (pos i)
rest i = alike Int (pos (i % 4294967296)) (pos i) (i / 4294967296) 0
    (let e = div-add-mod' i 4294967296 in ap pos (omega arith))

pub returns : goal.returns
returns c = ap (λ z. constant.Number (number.Int z)) (to_z-of_z w32 _ (record { sfits = c.wrap.type_inv }) ∙ c.wrap.ensures ∙ ap (wrapped Int) (to_z_pos w64 (c.args.iota % 4294967296) (omega arith)) ∙ rest c.args.iota)
