-- Why it is asked for that the words of a box that gets an answer are accounted for.
use Rattle.std.proofs.Common.{◌≡◌, ℕ, ℤ, zero, suc, ◌*◌, ◌/◌, ◌<◌, List, [], ◌∷◌, Option, Some, None, refl, subst, inl, inr, arith}
use Rattle.std.specs.Prelude.{slice_get}
use Rattle.heap_model.specs.Heap.{Heap}
use Rattle.heap_model.specs.Facts.{Fact, Named, refers, chars}
use Rattle.limbo_types.specs.Types as ty
use Rattle.limbo_types.specs.Types.{Ty}
use Rattle.limbo_layout.specs.Adts.{Has}
use Rattle.heap_model.proofs.Alike.{covers_not_inner}
use Rattle.limbo_values.specs.declared.number.Kind.TheVariants as kind
use Rattle.limbo_values.specs.Numbers.{InRange}
use Rattle.dis_meaning.specs.Words.{Word, Refer, Plain}
use Rattle.dis_memory.specs.Blocks.{Block, Record, words_in}
use Rattle.value_words.specs.Forms.{Form, Cells, OwnedBy}
use Rattle.value_words.specs.Facts.{Facts}
use Rattle.value_frames.specs.Standing.{IsOwn}
use Rattle.value_frames.specs.Frames.{box_bytes, room_for}
use Rattle.value_roots.specs.Accounts.{Accounted, to_value, to_inner, AllAccounted, none, more}

-- ---- block 0 is a record of frame 9, made by process 4; block 1 is a cell of a list and stands for value 5

abbrev known_of : ℕ → Option (Fact Block)
known_of zero = None
known_of (suc zero) = Some (Named 5)
known_of (suc (suc n)) = None

abbrev formed_of : ℕ → Option Form
formed_of zero = Some (OwnedBy 9)
formed_of (suc zero) = Some (Cells ty.Int)
formed_of (suc (suc n)) = None

abbrev maker_of : ℕ → Option ℕ
maker_of zero = Some 4
maker_of (suc n) = None

one_block : (m n n' : ℕ) → known_of n ≡ Some (Named m) → known_of n' ≡ Some (Named m) → n ≡ n'
one_block m (suc zero) (suc zero) e f = refl
one_block m zero n' e f = absurd cc
one_block m (suc (suc n)) n' e f = absurd cc
one_block m (suc zero) zero e f = absurd cc
one_block m (suc zero) (suc (suc n)) e f = absurd cc

abbrev known : Facts
known = record { fact = known_of; maker = maker_of; form = formed_of; once = one_block }

abbrev inner : List Word
inner = Refer (Some 1) ∷ []

abbrev heap : Heap Block
heap = Some (Record inner) ∷ Some (Record []) ∷ []

-- ---- a box that is to get an answer, a tuple with a list, and that refers to a cell which isn't named

abbrev pair : Ty
pair = ty.Tuple (ty.MoreTys (ty.ListOf ty.Int) ty.NoTys)

only_first : (w : ℕ) (r : Option ℕ) → slice_get inner w ≡ Some (Refer r) → Has (0 ∷ []) (4 * w)
only_first zero r e = inl refl
only_first (suc w) r e = absurd cc

no_numbers : (n : ℕ) (z : ℤ) → slice_get inner n ≡ Some (Plain z) → InRange kind.Int z
no_numbers zero z e = absurd (let f : Refer (Some 1) ≡ Plain z = cc in cc)
no_numbers (suc n) z e = absurd cc

refers_first : (o : ℕ) → Has (0 ∷ []) o → (r : Option ℕ) × (slice_get inner (o / 4) ≡ Some (Refer r))
refers_first o (inl e) = subst (λ (p : ℕ). (r : Option ℕ) × (slice_get inner (p / 4) ≡ Some (Refer r))) e (Some 1, refl)
refers_first o (inr n) = absurd n

waits_with : IsOwn [] known heap 9 (Refer (Some 0) ∷ []) 0 (box_bytes [] pair) (room_for [] pair).references 0 inner
waits_with = record {
  word = refl;
  there = refl;
  free = tt;
  formed = refl;
  kind = record { many = refl; ranged = no_numbers; refer = refers_first; only = only_first };
}

cell_not : Accounted known 4 heap (λ n. 0) (Refer (Some 1)) → ⊥
cell_not (to_value _ (refers m n r)) = absurd (omega (arith, n))
cell_not (to_value _ (chars text e)) = absurd cc
cell_not (to_inner _ block i e mine all) = i

cells_not : (ws : List Word) → ws ≡ inner → AllAccounted known 4 heap (λ n. 0) ws → ⊥
cells_not _ e none = absurd cc
cells_not _ e (more w ws a all) = cell_not (let f : w ≡ Refer (Some 1) = cc in subst (λ (v : Word). Accounted known 4 heap (λ n. 0) v) f a)

box_not : Accounted known 4 heap (λ n. 0) (Refer (Some 0)) → ⊥
box_not (to_value _ c) = covers_not_inner known (λ m. 0 < 0) 0 tt c
box_not (to_inner _ block i e mine all) =
    let same : block ≡ Record inner = let z : Some (Record inner) ≡ Some block = e in cc in
    cells_not inner refl (subst (λ (b : Block). AllAccounted known 4 heap (λ n. 0) (words_in b)) same all)
