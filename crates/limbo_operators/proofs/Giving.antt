-- The rows give what operations give.
use Rattle.std.proofs.Common.{ℕ, List, [], ◌∷◌, refl, inl, inr}
use Rattle.limbo_types.specs.Types.{Ty, Int, RefAdt, RefPick}
use Rattle.limbo_typed.specs.limbo_layout.Adts.{Def}
use Rattle.limbo_typed.specs.declared.operation.Operation.{Operation}
use Rattle.limbo_typed.specs.Fitting.{Gives, IsReference, IsRefOf, ComparesTwo}
use Rattle.limbo_typed.specs.Sound.{IsSettled}
use Rattle.limbo_values.specs.declared.operator.Comparison.{Comparison}
use Rattle.limbo_operators.specs.declared.signs.Binary.{Binary}
use Rattle.limbo_operators.specs.Rows.{Row, Identifies, AreLike, BinaryRow}
use Rattle.limbo_operators.specs.Rows as rule

compares : (defs : List Def) (c : Comparison) (o : Operation) (t u : Ty) → Identifies c o → ComparesTwo (t ∷ u ∷ []) Int
    → Gives defs o (t ∷ u ∷ []) Int
compares defs _ _ t u rule.equal h = h
compares defs _ _ t u rule.unequal h = h

ref_reference : (n : ℕ) (t : Ty) → IsRefOf n t → IsReference t
ref_reference n (RefAdt m) h = tt
ref_reference n (RefPick m v) h = tt
ref_reference n _ h = absurd h

like_compares : (t u : Ty) → AreLike t u → ComparesTwo (t ∷ u ∷ []) Int
like_compares _ _ (rule.refs n t u f g) = (ref_reference n t f, inr (n, f, g), refl)
like_compares _ _ (rule.channels t) = (tt, inl refl, refl)

pub binary_gives : (defs : List Def) (b : Binary) (t u : Ty) (r : Row) → BinaryRow b t u r → IsSettled r.result
    → Gives defs r.operation (r.left ∷ r.right ∷ []) r.result
binary_gives defs _ _ _ _ (rule.numbers o k) s = (refl, refl)
binary_gives defs _ _ _ _ (rule.texts t u p q) s = (refl, refl)
binary_gives defs _ _ _ _ (rule.shifts h k) s = (refl, refl)
binary_gives defs _ _ _ _ (rule.compared c k) s = (refl, refl)
binary_gives defs _ _ _ _ (rule.ordered c t u o p q) s = (refl, refl)
binary_gives defs _ _ _ _ (rule.same_text c t u p q e) s = (refl, refl)
binary_gives defs _ _ _ _ (rule.identified c o t u i l) s = compares defs c o t u i (like_compares t u l)
binary_gives defs _ _ _ _ (rule.with_nil c o t i f h) s = compares defs c o t t i (f, inl refl, refl)
binary_gives defs _ _ _ _ (rule.nil_with c o t i f h) s = compares defs c o t t i (f, inl refl, refl)
binary_gives defs _ _ _ _ (rule.puts t u i j p q h) s = (j, inl refl, refl, refl)
binary_gives defs _ _ _ _ (rule.puts_open t u i j p q h) s = absurd s
