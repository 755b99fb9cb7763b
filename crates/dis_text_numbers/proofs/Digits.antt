-- Numbers that are read digit by digit, as they wrap, and numbers of a kind.
use Rattle.std.proofs.Common.{◌≡◌, ℕ, ℤ, pos, negsuc, refl, ◌+◌, ◌-◌, ◌*◌, ◌/◌, ◌%◌, List, [], ◌∷◌, Bool, true, false, cond, sym, ap, ◌∙◌, arith}
use Rattle.std.proofs.Math.Nat.{mod-add-div', add-mul-mod_self_right}
use Rattle.inf_text.specs.InFront.{is_digit, number_after}
use Rattle.limbo_values.specs.declared.number.Kind.{Kind}
use Rattle.limbo_values.specs.declared.number.Kind.TheVariants.{Byte, Int, Big}
use Rattle.limbo_values.specs.Numbers.{kind_of, number_of, value_of, wrapped}

-- one digit more, of a number and of its remainder
next_digit : (a d m : ℕ) → (10 * a + d) % m ≡ (10 * (a % m) + d) % m
next_digit a d m =
    let apart : 10 * a + d ≡ (10 * (a % m) + d) + (10 * (a / m)) * m = omega (arith, mod-add-div' a m) in
    ap (λ n. n % m) apart ∙ add-mul-mod_self_right (10 * (a % m) + d) (10 * (a / m)) m

chosen : (t : Bool) (x y u v m : ℕ) → x % m ≡ u % m → y % m ≡ v % m → cond t x y % m ≡ cond t u v % m
chosen true x y u v m first second = first
chosen false x y u v m first second = second

-- numbers with one remainder go on to numbers with one remainder
pub number_after_same : (cs : List ℕ) (a b m : ℕ) → a % m ≡ b % m → number_after a cs % m ≡ number_after b cs % m
number_after_same [] a b m same = same
number_after_same (c ∷ cs) a b m same =
    let next : (10 * a + (c - 48)) % m ≡ (10 * b + (c - 48)) % m =
    next_digit a (c - 48) m ∙ ap (λ n. (10 * n + (c - 48)) % m) same ∙ sym (next_digit b (c - 48) m) in
    chosen (is_digit c) (number_after (10 * a + (c - 48)) cs) a (number_after (10 * b + (c - 48)) cs) b m
    (number_after_same cs (10 * a + (c - 48)) (10 * b + (c - 48)) m next) same

-- a digit at the front is taken into the number
pub number_after_digit : (n c : ℕ) (cs : List ℕ) → is_digit c ≡ true → number_after n (c ∷ cs) ≡ number_after (10 * n + (c - 48)) cs
number_after_digit n c cs digit = ap (λ t. cond t (number_after (10 * n + (c - 48)) cs) n) digit

-- ---- numbers of a kind

pub value_wrapped : (kind : Kind) (z : ℤ) → value_of (number_of kind (wrapped kind z)) ≡ wrapped kind z
value_wrapped Byte (pos a) = refl
value_wrapped Byte (negsuc a) = refl
value_wrapped Int z = refl
value_wrapped Big z = refl

pub kind_numbered : (kind : Kind) (z : ℤ) → kind_of (number_of kind z) ≡ kind
kind_numbered Byte z = refl
kind_numbered Int z = refl
kind_numbered Big z = refl
