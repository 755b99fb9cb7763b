-- Each block that a block names stands for a value that its value names, for a part of one, or for a string.
use Rattle.std.proofs.Common.{◌≡◌, ℕ, zero, suc, ◌+◌, ◌*◌, ◌<◌, ◌/◌, pos, List, ◌∷◌, Option, Some, None, sym, ap}
use Rattle.std.proofs.Common.{◌∙◌, arith, inl, inr}
use Rattle.std.specs.Prelude.{slice_get}
use Rattle.heap_model.specs.Facts.{Covers, itself, slice, refers, chars}
use Rattle.limbo_types.specs.Types as ty
use Rattle.limbo_types.specs.Types.{Ty}
use Rattle.limbo_layout.specs.Adts.{Def}
use Rattle.limbo_layout.specs.Layout.{Room, nothing, Laid}
use Rattle.limbo_meaning.specs.Values.{Value, references, references_in}
use Rattle.limbo_meaning.specs.Memory as source
use Rattle.limbo_meaning.specs.Memory.{HeapValue, inside}
use Rattle.limbo_meaning.specs.Origins.{Name}
use Rattle.dis_meaning.specs.Words.{Word, Refer, Found, word_at}
use Rattle.dis_memory.specs.Blocks.{Block}
use Rattle.dis_memory.specs.Naming as machine
use Rattle.value_words.specs.Forms.{Form, Cells}
use Rattle.value_words.specs.Facts.{Facts, IsName}
use Rattle.value_words.specs.Stands.{Stands}
use Rattle.value_words.proofs.Bytes.{word_there}
use Rattle.value_words.proofs.Covered.{IsCovered, covered, all_covered, behind_nothing, names_it}
use Rattle.value_words.proofs.Rows.{is_there}
use Rattle.value_heaps.specs.Blocks.{Constant, IsBlock, elements, cell, record_of, channel, instance_of, globals_place, IsWithin, ReferOnlyThere}
use Rattle.value_heaps.proofs.Words.{named_where, names_among}

-- the word of this number is the one at a byte
found_there : (words : List Word) (w b at : ℕ) → slice_get words w ≡ Some (Refer (Some b)) → at ≡ 4 * w
    → word_at words (pos at) ≡ Found (Refer (Some b))
found_there words w b at e f =
    let g : w ≡ at / 4 = omega arith in
    word_there words at (Refer (Some b)) (omega arith) (ap (λ n. slice_get words n) (sym g) ∙ e)

module _ (defs : List Def) (globals : List Ty) (constants : List Constant) (facts : Facts) where
  by_names : (ns : List (Option ℕ)) (v : HeapValue) (q : ℕ) → ((m : ℕ) → Name ns m → 0 < inside v m) → IsCovered facts ns q
      → Covers facts (λ m. 0 < inside v m) q
  by_names ns v q all (inl h) = refers h.0 (all h.0 h.1) (elim h.2 [ inl i ↦ itself i | inr i ↦ slice i.0 i.1.0 i.1.1 ])
  by_names ns v q all (inr h) = chars h.0 h.1.0

  -- of a value at the front of a block
  at_front : (t : Ty) (r : Room) (words : List Word) (v : Value) (w q : ℕ) → Laid defs t r → Stands defs facts words 0 t v
      → ReferOnlyThere words 0 r → ((w b : ℕ) → slice_get words w ≡ Some (Refer (Some b)) → IsWithin 0 r.size w)
      → slice_get words w ≡ Some (Refer (Some q)) → IsCovered facts (references v) q
  at_front t r words v w q l s there only e =
      let i = there w (Some q) e (only w q e) in
      covered defs facts words 0 t r v i.0 q l s i.1 (found_there words w q (0 + i.0) e i.2)

  by_tail : (head : Value) (asked : Option Form) (rest tail : Option ℕ) (q : ℕ) → IsName facts asked rest tail → rest ≡ Some q
      → Covers facts (λ m. 0 < inside (source.Cell head tail) m) q
  by_tail head asked None tail q e f = absurd cc
  by_tail head asked (Some b) None q e f = absurd e
  by_tail head None (Some b) (Some n) q e f = absurd e
  by_tail head (Some form) (Some b) (Some n) q e f =
      let g : b ≡ q = cc in
      let h = names_it n in
      refers n (omega arith) (itself (ap facts.fact (sym g) ∙ e.fact))

  pub block_covers : (n : ℕ) (v : HeapValue) (b : Block) (q : ℕ) → IsBlock defs globals constants facts n v b → 0 < machine.inside b q
      → Covers facts (λ m. 0 < inside v m) q
  block_covers n _ _ q (elements t r words vs f l few whole each only) h =
      let w = named_where words q h in
      let i = only w.0 (Some q) w.1 in
      let v = is_there vs i.0 i.1 in
      let o = i.2 in
      by_names (references v.0) (source.Elements vs) q (λ m. names_among vs i.0 v.0 m v.1)
      (covered defs facts words (i.0 * r.size) t r v.0 o.0 q l (each i.0 v.0 v.1) o.1
      (found_there words w.0 q (i.0 * r.size + o.0) w.1 o.2))
  block_covers n _ _ q (cell t r words v tail rest formed l whole s there only e older) h =
      let w = named_where (Refer rest ∷ words) q h in go w.0 w.1
    where
      go : (w : ℕ) → slice_get (Refer rest ∷ words) w ≡ Some (Refer (Some q)) → Covers facts (λ m. 0 < inside (source.Cell v tail) m) q
      go zero f = by_tail v (Some (Cells t)) rest tail q e (let g : Refer rest ≡ Refer (Some q) = cc in cc)
      go (suc w) f =
          by_names (references v) (source.Cell v tail) q (λ m k. omega (arith, k)) (at_front t r words v w q l s there only f)
  block_covers n _ _ q (record_of a r words v f l whole s there only) h =
      let w = named_where words q h in
      by_names (references v) (source.Record v) q (λ m k. k) (at_front (ty.Adt a) r words v w.0 q l s there only w.1)
  block_covers n _ _ q (channel t desc f) h = absurd (omega (arith, h))
  block_covers n _ _ q (instance_of object rs words vs f l whole all there only fixed) h =
      let w = named_where words q h in
      elim (only w.0 q w.1) [
        | inl i ↦
            let o = there w.0 (Some q) w.1 i in
            by_names (references_in vs) (source.Instance vs) q (λ m k. k)
            (behind_nothing defs facts words o.0 (all_covered defs facts words globals_place nothing globals rs vs o.0 q l all o.1
            (found_there words w.0 q (globals_place + o.0) w.1 o.2)))
        | inr i ↦ chars i.0 i.1
      ]
