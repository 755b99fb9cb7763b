-- The table read in both directions: an operation stands at its tag, and only there.
use Rattle.std.proofs.Common.{◌≡◌, ◌↔◌, ℕ, zero, suc, ◌+◌, ◌≤◌, List, [], ◌∷◌, length, Option, Some, None, Bor}
use Rattle.std.proofs.Common.{refl, sym, ◌∙◌, ap, arith, rules, add-zero, zero-add}
use Rattle.std.specs.Prelude.{slice_get}
use Rattle.std.specs.Option.{option_copied}
use Rattle.std.specs.Slice.{IsItemAt}
use Rattle.std.proofs.lemmas.Option.{slice_get_past, slice_get_read}
use denote.Enum.Declared.{tag_of}
use Rattle.dis_isa.specs.declared.op.Op.{Op}
use Rattle.dis_isa.specs.declared.op.Op.TheVariants.{Nop}
use Rattle.dis_isa.specs.contracts.op.Op.{the_type}
use Rattle.dis_isa.specs.Opcodes.{opcodes, opcode_at}

pub stands_at_tag : (op : Op) → opcode_at (tag_of the_type op) ≡ Some op
unfolding opcode_at opcodes
stands_at_tag Nop = refl
stands_at_tag _ = refl

-- Each item of the list has its place, counted from i, for a tag.
abbrev numbered_from : {X : Type 0} → (X → ℕ) → ℕ → List X → Type 0
numbered_from tag i [] = Unit {0}
numbered_from tag i (x ∷ xs) = (tag x ≡ i) × numbered_from tag (suc i) xs

tag_at :
    {X : Type 0} (tag : X → ℕ) (i n : ℕ) (xs : List X) (x : X) →
    numbered_from tag i xs → slice_get xs n ≡ Some x → tag x ≡ i + n
tag_at tag i n [] x h e = cc
tag_at tag i zero (y ∷ ys) x h e =
    let same : y ≡ x = cc in ap tag (sym same) ∙ h.0 ∙ sym (add-zero i)
tag_at tag i (suc n) (y ∷ ys) x h e = let rest = tag_at tag (suc i) n ys x h.1 e in omega (arith, rest)

numbered : numbered_from (tag_of the_type) 0 opcodes
unfolding opcodes
numbered = search rules

pub tag_is_place : (n : ℕ) (op : Op) → opcode_at n ≡ Some op → tag_of the_type op ≡ n
unfolding opcode_at opcodes
tag_is_place n op e = tag_at (tag_of the_type) 0 n opcodes op numbered e ∙ zero-add n

past_end : {X : Type 0} (n : ℕ) (xs : List X) → slice_get xs n ≡ None → length xs ≤ n
past_end n [] e = omega arith
past_end zero (x ∷ xs) e = cc
past_end (suc n) (x ∷ xs) e = let rest = past_end n xs e in omega (arith, rest)

pub none_past_table : (n : ℕ) → (opcode_at n ≡ None) ↔ (160 ≤ n)
unfolding opcode_at opcodes
none_past_table n = (past_end n opcodes, slice_get_past opcodes n)

-- What `get` lends, copied, is the item at that place.
pub copied_item :
    {X : Type 0} (xs : List X) (i : ℕ) (r : Option (Bor X)) →
    IsItemAt xs i r → option_copied r ≡ slice_get xs i
copied_item xs i None h = sym (slice_get_past xs i h.3)
copied_item xs i (Some x) h = sym (slice_get_read xs (length xs) i x.now refl h.3.0 h.1)
