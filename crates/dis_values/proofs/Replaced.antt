-- One of several references to a text is given away for one to another.
use Rattle.std.proofs.Common.{◌≡◌, ℕ, ◌<◌, List, [], ◌∷◌, ◌++◌, Option, Some, None, refl, sym, ap, subst, ◌∙◌, arith}
use Rattle.std.specs.Prelude.{map, length, slice_get, slice_set, Result, Ok, Err, IfOk}
use Rattle.std.proofs.Common.{zero, suc}
use Rattle.ref_heap.specs.declared.word.Ref.{Ref}
use Rattle.ref_heap.specs.declared.kind.Kind.TheVariants.{Text}
use Rattle.ref_heap.specs.declared.kind.HeapFault.{HeapFault}
use Rattle.ref_heap.specs.declared.kind.Freed.{Freed}
use Rattle.ref_heap.specs.Words.{Cell, Content, cells, compact, wide, plain, IsCompact, with_cell, with_more}
use Rattle.ref_heap.specs.Answers.{answer_for, drop_answer, set_answer, fits_there}
use Rattle.ref_heap.specs.Store.{Store, Block, IsHeap, at, live_numbers, fresh, one_less, with_block, with_content}
use Rattle.dis_values.specs.Making.{Makes}
use Rattle.dis_values.specs.Texts.{text_of, numbers_or_none, IsTextBlock, Apart, InPlace, Becomes, Made, Copied}
use Rattle.dis_values.proofs.Made.{other_new, not_next}

-- the old text is there after the new one is made
pub still_there : (h h1 : Store) (s made : ℕ) (b c : Block) → IsHeap h → at h s ≡ Some b → Makes h h1 made c → at h1 s ≡ Some b
still_there h h1 s made b c ok is m = ap (λ (v : Store). at v s) m.makes ∙ other_new h c s (not_next h s b ok is) ∙ is

pub drops : (r : Result Freed HeapFault) (e : HeapFault) (h : Store) (s : ℕ) (b : Block) → at h s ≡ Some b → r ≡ answer_for drop_answer (at h s) → r ≡ Err e → ⊥
drops r e h s b is ans f = (let g : Err e ≡ Ok (drop_answer b) = sym f ∙ ans ∙ ap (answer_for drop_answer) is in cc)

pub apart : (h h1 h2 : Store) (s made : ℕ) (text : List ℕ) → IsHeap h → (t : IsTextBlock h s) → 1 < t.block.count → Makes h h1 made (fresh Text (compact text))
    → ((b : Block) → at h1 s ≡ Some b → 1 < b.count → (n : ℕ) → at h2 n ≡ at (with_block h1 s (one_less b)) n) → h2.made ≡ h1.made
    → Apart h h2 s made text
apart h h1 h2 s made text ok t more m lowered same =
    record {
      block = t.block;
      live = t.live;
      shared = more;
      serial = m.serial;
      rest = λ n. lowered t.block (still_there h h1 s made t.block (fresh Text (compact text)) ok t.live m) more n ∙ ap (λ (v : Store). at (with_block v s (one_less t.block)) n) m.makes;
      count = same ∙ ap (λ (v : Store). v.made) m.makes;
    }

compact_of : (c : Content) → IsCompact c → (ns : List ℕ) × (c ≡ compact ns)
compact_of (wide ws) p = absurd p
compact_of (compact ns) p = (ns, refl)

-- the codes of a text
pub codes_are : (h : Store) (s : ℕ) (t : IsTextBlock h s) → t.block.content ≡ compact (text_of h (Some s))
codes_are h s t =
    let p = compact_of t.block.content t.compact in
    let e : text_of h (Some s) ≡ p.0 = ap (λ (o : Option Block). numbers_or_none (live_numbers o)) t.live ∙ ap (λ (c : Content). numbers_or_none (live_numbers (Some (record t.block { content = c })))) p.1 in
    p.1 ∙ ap compact (sym e)

pub grown : (h new : Store) (s : ℕ) (more : List ℕ) (t : IsTextBlock h s) → t.block.count ≡ 1 → new ≡ with_block h s (with_content t.block (with_more t.block.content more)) → InPlace h new s (text_of h (Some s) ++ more)
grown h new s more t alone e = record {
  block = t.block;
  live = t.live;
  alone = alone;
  changed = e ∙ ap (λ (c : Content). with_block h s (with_content t.block (with_more c more))) (codes_are h s t);
}

pub put_in_place : (h new : Store) (s i c : ℕ) (t : IsTextBlock h s) → t.block.count ≡ 1 → new ≡ with_block h s (with_content t.block (with_cell t.block.content i (plain c))) → InPlace h new s (slice_set (text_of h (Some s)) i c)
put_in_place h new s i c t alone e = record {
  block = t.block;
  live = t.live;
  alone = alone;
  changed = e ∙ ap (λ (v : Content). with_block h s (with_content t.block (with_cell v i (plain c)))) (codes_are h s t);
}

pub copied_as : (r : Result Ref HeapFault) (h new : Store) (s : ℕ) (text text' : List ℕ) → text ≡ text' → IfOk r (λ (m : Ref). Apart h new s m.serial text) → IfOk r (λ (m : Ref). Becomes h new (Some s) m.serial text')
copied_as (Err e) h new s text text' same a = tt
copied_as (Ok m) h new s text text' same a = subst (λ (t : List ℕ). Becomes h new (Some s) m.serial t) same (Copied a)

pub made_as : (r : Result Ref HeapFault) (h new : Store) (text text' : List ℕ) → text ≡ text' → IfOk r (λ (m : Ref). Makes h new m.serial (fresh Text (compact text))) → IfOk r (λ (m : Ref). Becomes h new None m.serial text')
made_as (Err e) h new text text' same a = tt
made_as (Ok m) h new text text' same a = subst (λ (t : List ℕ). Becomes h new None m.serial t) same (Made a.serial a.makes)

plain_there : (ns : List ℕ) (i : ℕ) → i < length ns → (v : ℕ) × (slice_get (map plain ns) i ≡ Some (plain v))
plain_there [] i h = absurd (omega arith)
plain_there (n ∷ ns) zero h = (n, refl)
plain_there (n ∷ ns) (suc i) h = plain_there ns i (omega arith)

-- a number may stand in place of another
pub can_put : (h : Store) (s i c : ℕ) (t : IsTextBlock h s) → i < length (text_of h (Some s)) → set_answer (at h s) i (plain c) ≡ Ok tt
can_put h s i c t within =
    let p = plain_there (text_of h (Some s)) i within in
    ap (λ (o : Option Block). set_answer o i (plain c)) t.live
    ∙ ap (λ (v : Content). fits_there (slice_get (cells v) i) (plain c)) (codes_are h s t)
    ∙ ap (λ (o : Option Cell). fits_there o (plain c)) p.1
