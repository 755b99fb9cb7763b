-- Values in a row stand for the same where the same bytes are, behind the linkage of a frame.
use Rattle.std.proofs.Common.{◌≡◌, ℕ, ◌+◌, ◌<◌, ◌≤◌, ◌%◌, ◌/◌, List, [], ◌∷◌, refl, sym, ap, ◌∙◌, subst, arith, inl, inr}
use Rattle.std.specs.Prelude.{slice_get}
use Rattle.std.specs.Int.{next_multiple_of}
use Rattle.limbo_types.specs.Types as ty
use Rattle.limbo_types.specs.Types.{Ty}
use Rattle.limbo_layout.specs.Adts.{Def}
use Rattle.limbo_layout.specs.Layout.{Room, AllLaid, none_laid, more_laid, is_alone, number, reference, behind, all_behind}
use Rattle.limbo_layout.specs.Laying.{rooms_of}
use Rattle.limbo_layout.proofs.Rooms.{all_grow}
use Rattle.limbo_values.specs.declared.number.Kind.TheVariants as kind
use Rattle.limbo_typed.specs.declared.print.Hole.TheVariants as hole
use Rattle.limbo_typed.specs.declared.print.Piece.{Piece}
use Rattle.limbo_typed.specs.declared.print.Piece.TheVariants as piece
use Rattle.limbo_meaning.specs.Values.{Value}
use Rattle.core_code.specs.Rooms.{rooms_in}
use Rattle.core_typing.specs.Needs.{printed}
use Rattle.dis_meaning.specs.Words.{Word}
use Rattle.value_words.specs.Contents.{content, content_in, AreInRange}
use Rattle.value_words.specs.Facts.{Facts}
use Rattle.value_words.specs.Stands.{AllStand, none_stand, more_stand}
use Rattle.value_words.proofs.Aligned.{IsPower, laid_power, suits, inside}
use Rattle.value_words.proofs.Moved as bytes

-- a place suits an alignment behind the linkage, too
behind_linkage : (a n : ℕ) → IsPower a → n % a ≡ 0 → (32 + n) % a ≡ 0
behind_linkage a n (inl e) f = on 1 e (omega arith)
  where
    on : (b : ℕ) → a ≡ b → (32 + n) % b ≡ 0 → (32 + n) % a ≡ 0
    on b e g = ap (λ (c : ℕ). (32 + n) % c) e ∙ g
behind_linkage a n (inr (inl e)) f =
    let g : n % 4 ≡ 0 = ap (λ (c : ℕ). n % c) (sym e) ∙ f in
    ap (λ (c : ℕ). (32 + n) % c) e ∙ omega (arith, g)
behind_linkage a n (inr (inr e)) f =
    let g : n % 8 ≡ 0 = ap (λ (c : ℕ). n % c) (sym e) ∙ f in
    ap (λ (c : ℕ). (32 + n) % c) e ∙ omega (arith, g)

module _ (defs : List Def) where
  abbrev pub rooms : List Ty → List Room
  rooms ts = rooms_of (rooms_in defs) ts

  -- what is printed has a layout
  pub printed_laid : (ps : List Piece) → AllLaid defs (printed ps) (rooms (printed ps))
  printed_laid [] = none_laid
  printed_laid (piece.Chars cs ∷ ps) = printed_laid ps
  printed_laid (piece.Hole (hole.Decimal kind.Byte) ∷ ps) =
      more_laid ty.Int (printed ps) (number 4) (rooms (printed ps)) (is_alone ty.Int (number 4) refl) (printed_laid ps)
  printed_laid (piece.Hole (hole.Decimal kind.Int) ∷ ps) =
      more_laid ty.Int (printed ps) (number 4) (rooms (printed ps)) (is_alone ty.Int (number 4) refl) (printed_laid ps)
  printed_laid (piece.Hole (hole.Decimal kind.Big) ∷ ps) =
      more_laid ty.Big (printed ps) (number 8) (rooms (printed ps)) (is_alone ty.Big (number 8) refl) (printed_laid ps)
  printed_laid (piece.Hole hole.Character ∷ ps) =
      more_laid ty.Int (printed ps) (number 4) (rooms (printed ps)) (is_alone ty.Int (number 4) refl) (printed_laid ps)
  printed_laid (piece.Hole hole.Hexadecimal ∷ ps) =
      more_laid ty.Int (printed ps) (number 4) (rooms (printed ps)) (is_alone ty.Int (number 4) refl) (printed_laid ps)
  printed_laid (piece.Hole hole.Chars ∷ ps) =
      more_laid ty.Chars (printed ps) reference (rooms (printed ps)) (is_alone ty.Chars reference refl) (printed_laid ps)
  printed_laid (piece.Hole hole.Error ∷ ps) = printed_laid ps

  module _ (k : Facts) (source others : List Word) (first : AreInRange source) (third : AreInRange others) (low size : ℕ) where
    pub row_moves : (from at : ℕ) (w : Room) (ts : List Ty) (rs : List Room) (vs : List Value) → at ≡ 32
        → ((o : ℕ) → low ≤ o → o < size → content others (at + o) ≡ content source (from + o))
        → low ≤ w.size → (all_behind w rs).size ≤ size → AllLaid defs ts rs
        → AllStand defs k source from w ts rs vs → AllStand defs k others at w ts rs vs
    row_moves _ at _ _ _ _ is same far near laid (none_stand from w) = none_stand at w
    row_moves _ at _ _ _ _ is same far near laid (more_stand from w t ts r rs v vs s rest) =
        let both = inside defs t ts r rs laid in
        let even = suits defs w t ts r rs laid in
        let grown = all_grow (behind w r) rs in
        let off = next_multiple_of w.size r.align in
        more_stand at w t ts r rs v vs
        (bytes.moved source others first third defs k (from + next_multiple_of w.size r.align) (at + next_multiple_of w.size r.align) t r v both.0
        (subst (λ (n : ℕ). (n + next_multiple_of w.size r.align) % r.align ≡ 0) (sym is)
        (behind_linkage r.align (next_multiple_of w.size r.align) (laid_power defs t r both.0) even))
        (λ o l.
        let e : at + next_multiple_of w.size r.align + o ≡ at + (next_multiple_of w.size r.align + o) = omega arith in
        let f : from + (next_multiple_of w.size r.align + o) ≡ from + next_multiple_of w.size r.align + o = omega arith in
        ap (content others) e ∙ (same (next_multiple_of w.size r.align + o) (omega (arith, far)) (omega (arith, near, grown, l)) ∙ ap (content source) f)) s)
        (row_moves from at (behind w r) ts rs vs is same (omega (arith, far)) near both.1 rest)

-- Bytes of the same words are the same.
pub same_content : (words others : List Word) (b : ℕ) → slice_get others (b / 4) ≡ slice_get words (b / 4) → content others b ≡ content words b
same_content words others b e = ap (λ o. content_in o (b % 4)) e
