-- Places grow, and formats are laid piece by piece.
use Rattle.std.proofs.Common.{◌≡◌, ℕ, zero, suc, ◌+◌, ◌-◌, ◌<◌, ◌≤◌, List, [], ◌∷◌, ◌++◌, take, Option, Some, None, refl, ap, arith}
use Rattle.limbo_values.specs.declared.number.Kind.{Kind}
use Rattle.limbo_values.specs.declared.number.Kind.TheVariants.{Byte, Int, Big}
use Rattle.limbo_typed.specs.declared.print.Piece.{Piece}
use Rattle.limbo_typed.specs.declared.print.Piece.TheVariants as piece
use Rattle.slot_code.specs.Layout.{size_of, place_for, place_in, end_of}
use Rattle.dis_objects.specs.Frames.{printed_kinds}
use Rattle.slot_code.specs.Code.{Inst, Function, GlobalVariable}
use Rattle.dis_objects.specs.Objects.{most_printed, most_of_all}
use Rattle.dis_objects.specs.Code.{format_text, globals_bytes, global_bytes}
use Rattle.dis_objects.specs.Sites.{piece_kinds, piece_text}

-- The next place is less than eight bytes away.
pub rounds : (k : Option Kind) (from : ℕ) → (from ≤ place_for k from) × (place_for k from ≤ from + 7)
rounds None from = (omega arith, omega arith)
rounds (Some Byte) from = (omega arith, omega arith)
rounds (Some Int) from = (omega arith, omega arith)
rounds (Some Big) from = (omega arith, omega arith)

pub end_grows : (from : ℕ) (ks : List (Option Kind)) → from ≤ end_of from ks
end_grows from [] = omega arith
end_grows from (k ∷ ks) = let r = end_grows (place_for k from + size_of k) ks in let g = rounds k from in omega (arith, r, g.0)

-- One of them stands before the end, from the first place on.
pub place_before : (from : ℕ) (ks : List (Option Kind)) (n : ℕ) → place_in from ks n ≤ end_of from ks
place_before from [] n = omega arith
place_before from (k ∷ ks) zero = let r = end_grows (place_for k from + size_of k) ks in omega (arith, r)
place_before from (k ∷ ks) (suc n) = place_before (place_for k from + size_of k) ks n

pub place_behind_first : (from : ℕ) (ks : List (Option Kind)) (n : ℕ) → from ≤ place_in from ks n
place_behind_first from [] n = omega arith
place_behind_first from (k ∷ ks) zero = (rounds k from).0
place_behind_first from (k ∷ ks) (suc n) = let r = place_behind_first (place_for k from + size_of k) ks n in let g = rounds k from in
    omega (arith, r, g.0)

-- The first ones end no later.
pub end_of_take : (n from : ℕ) (ks : List (Option Kind)) → end_of from (take n ks) ≤ end_of from ks
end_of_take zero from ks = end_grows from ks
end_of_take (suc n) from [] = omega arith
end_of_take (suc n) from (k ∷ ks) = end_of_take n (place_for k from + size_of k) ks

pub place_first : (from : ℕ) (k : Option Kind) (ks : List (Option Kind)) (n : ℕ) → n ≡ 0 → place_in from (k ∷ ks) n ≡ place_for k from
place_first from k ks zero e = refl
place_first from k ks (suc n) e = absurd (omega (arith, e))

pub place_more : (from : ℕ) (k : Option Kind) (ks : List (Option Kind)) (n : ℕ) → 0 < n →
    place_in from (k ∷ ks) n ≡ place_in (place_for k from + size_of k) ks (n - 1)
place_more from k ks zero h = absurd (omega (arith, h))
place_more from k ks (suc n) h = let e : n ≡ suc n - 1 = omega arith in ap (place_in (place_for k from + size_of k) ks) e

pub printed_piece : (p : Piece) (ps : List Piece) → printed_kinds (p ∷ ps) ≡ piece_kinds p ++ printed_kinds ps
printed_piece (piece.Chars cs) ps = refl
printed_piece (piece.Hole h) ps = refl

-- A format begins with the text of its first piece.
pub format_text_piece : (p : Piece) (ps : List Piece) → format_text (p ∷ ps) ≡ piece_text p ++ format_text ps
format_text_piece (piece.Chars cs) ps = refl
format_text_piece (piece.Hole h) ps = refl

-- ---- variables of the module

pub taken_none : (n : ℕ) (gs : List GlobalVariable) → n ≡ 0 → globals_bytes (take n gs) ≡ 0
taken_none zero gs e = refl
taken_none (suc n) gs e = absurd (omega (arith, e))

pub taken_more : (n : ℕ) (g : GlobalVariable) (gs : List GlobalVariable) → 0 < n →
    globals_bytes (take n (g ∷ gs)) ≡ global_bytes g.kind + globals_bytes (take (n - 1) gs)
taken_more zero g gs h = absurd (omega (arith, h))
taken_more (suc n) g gs h = let e : n ≡ suc n - 1 = omega arith in ap (λ n. global_bytes g.kind + globals_bytes (take n gs)) e

pub taken_few : (n : ℕ) (gs : List GlobalVariable) → globals_bytes (take n gs) ≤ globals_bytes gs
taken_few zero gs = omega arith
taken_few (suc n) [] = omega arith
taken_few (suc n) (g ∷ gs) = let r = taken_few n gs in omega (arith, r)

-- ---- prints

pub printed_least : (is : List Inst) → 36 ≤ most_printed is
printed_least [] = omega arith
printed_least (i ∷ is) = let r = printed_least is in omega (arith, r)

pub all_least : (fs : List Function) → 36 ≤ most_of_all fs
all_least [] = omega arith
all_least (f ∷ fs) = let r = all_least fs in omega (arith, r)
