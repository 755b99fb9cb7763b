-- A slice of an array or of a slice.
use Rattle.std.proofs.Common.{◌≡◌, ℕ, ◌+◌, ◌-◌, ◌*◌, ◌^◌, ◌<◌, ◌≤◌, List, [], ◌∷◌, Option, Some, sym, ap, ◌∙◌, arith}
use Rattle.std.specs.Prelude.{slice_range, Result, Ok, Err, OnOk, IfOk}
use Rattle.ref_heap.specs.declared.word.Ref.{Ref}
use Rattle.ref_heap.specs.declared.kind.Kind.{Kind}
use Rattle.ref_heap.specs.declared.kind.Kind.TheVariants.{Array, Slice}
use Rattle.ref_heap.specs.declared.kind.HeapFault.{HeapFault}
use Rattle.ref_heap.specs.Words.{Cell, refer, wide}
use Rattle.ref_heap.specs.Store.{Store, Block, IsHeap, at, one, outside, words_of, fresh, one_more, with_block, with_new}
use Rattle.dis_values.specs.Arrays.{Part, part_in, part_by, part_of, IsArray, Slices, size_of, elements, elements_by, elements_in}
use Rattle.dis_values.proofs.Made.{new_there, block_there, other_new, not_next}
use Rattle.dis_values.proofs.Parts.{range_elements}

pub slices : (r : Result Ref HeapFault) (h new : Store) (s k f from to : ℕ) → IsArray h s → k ≡ (part_of h s).array → f ≡ (part_of h s).from
    → IfOk r (λ (m : Ref). m.serial ≡ h.made)
    → ((b : Block) → at h k ≡ Some b → OnOk r (new ≡ with_new (with_block h k (one_more b)) (fresh (Slice (f + from) (to - from)) (wide (refer (Some k) ∷ [])))))
    → IfOk r (λ (m : Ref). (n : ℕ) → outside new n ≡ outside h n + one m.serial n)
    → IfOk r (λ (m : Ref). Slices h new (part_of h s) from to m.serial)
slices (Err e) h new s k f from to a same first serial ok held = tt
slices (Ok m) h new s k f from to a same first serial ok held =
    let b = a.whole.block in
    let live : at h k ≡ Some b = ap (at h) same ∙ a.whole.live in
    let e : new ≡ with_new (with_block h k (one_more b)) (fresh (Slice (f + from) (to - from)) (wide (refer (Some k) ∷ []))) = ok b live in
    record {
      block = b;
      live = a.whole.live;
      serial = serial;
      makes = e
          ∙ ap (λ (q : ℕ). with_new (with_block h q (one_more b)) (fresh (Slice (f + from) (to - from)) (wide (refer (Some q) ∷ [])))) same
          ∙ ap (λ (q : ℕ). with_new (with_block h (part_of h s).array (one_more b)) (fresh (Slice (q + from) (to - from)) (wide (refer (Some (part_of h s).array) ∷ [])))) first;
      held = held;
    }

-- what a slice stands for
pub record Sliced (h new : Store) (s from to made : ℕ) : Type 0 where
  pub elements_are : elements new made ≡ slice_range (elements h s) from to
  pub array : IsArray new made

pub sliced : (h new : Store) (s from to made : ℕ) → IsHeap h → IsArray h s → from ≤ to → to ≤ (part_of h s).length → Slices h new (part_of h s) from to made → Sliced h new s from to made
sliced h new s from to made ok a rising within sl =
    let p = part_of h s in
    let b = sl.block in
    let h1 = with_block h p.array (one_more b) in
    let c = fresh (Slice (p.from + from) (to - from)) (wide (refer (Some p.array) ∷ [])) in
    let here : at new made ≡ Some c = ap (λ (v : Store). at v made) sl.makes ∙ ap (at (with_new h1 c)) sl.serial ∙ new_there h1 c in
    let base : at new p.array ≡ Some (one_more b) = ap (λ (v : Store). at v p.array) sl.makes ∙ other_new h1 c p.array (not_next h p.array b ok sl.live) ∙ block_there h p.array (one_more b) in
    let same : part_of new made ≡ part_in made (Some c) = ap (part_in made) here in
    let old : elements h s ≡ elements_in (size_of b.kind) (words_of b) p.from p.length = ap (λ (o : Option Block). elements_by o p.from p.length) sl.live in
    let young : elements new made ≡ elements_in (size_of b.kind) (words_of b) (p.from + from) (to - from) =
    ap (λ (q : Part). elements_by (at new q.array) q.from q.length) same ∙ ap (λ (o : Option Block). elements_by o (p.from + from) (to - from)) base in
    let block : a.whole.block ≡ b = (let f : Some a.whole.block ≡ Some b = sym a.whole.live ∙ sl.live in cc) in
    let first : (part_of new made).from ≡ p.from + from = ap (λ (q : Part). q.from) same in
    let long : (part_of new made).length ≡ to - from = ap (λ (q : Part). q.length) same in
    let w = a.within in
    record {
      elements_are = young ∙ range_elements (size_of b.kind) (words_of b) p.from p.length from to rising within ∙ sym (ap (λ (xs : List (List Cell)). slice_range xs from to) old);
      array = record {
        size = a.size;
        length = a.length;
        whole = record {
          block = one_more b;
          live = ap (λ (q : Part). at new q.array) same ∙ base;
          kind = sym (ap (λ (x : Block). x.kind) block) ∙ a.whole.kind;
          bytes = a.whole.bytes;
          small = a.whole.small;
        };
        within = omega arith;
      };
    }

pub sliced_ok : (r : Result Ref HeapFault) (h new : Store) (s from to : ℕ) → IsHeap h → IsArray h s → from ≤ to → to ≤ (part_of h s).length
    → IfOk r (λ (m : Ref). Slices h new (part_of h s) from to m.serial) → IfOk r (λ (m : Ref). Sliced h new s from to m.serial)
sliced_ok (Ok m) h new s from to ok a rising within sl = sliced h new s from to m.serial ok a rising within sl
sliced_ok (Err e) h new s from to ok a rising within sl = tt

pub if_map : {A E : Type 0} (r : Result A E) (P Q : A → Type 0) → ((a : A) → P a → Q a) → IfOk r P → IfOk r Q
if_map (Ok x) P Q f p = f x p
if_map (Err x) P Q f p = tt

-- a zeroed array is one
pub made_array : (h new : Store) (made size length : ℕ) (b : Block) → made ≡ h.made → new ≡ with_new h b → b.kind ≡ Array size length → size * length ≤ 268435456 → length < 2 ^ 32 → IsArray new made
made_array h new made size length b serial makes kind bytes small =
    let here : at new made ≡ Some b = ap (λ (v : Store). at v made) makes ∙ ap (at (with_new h b)) serial ∙ new_there h b in
    let same : part_of new made ≡ record { array = made; from = 0; length = length } = ap (part_in made) here ∙ whole made b kind in
    let first : (part_of new made).from ≡ 0 = ap (λ (q : Part). q.from) same in
    let long : (part_of new made).length ≡ length = ap (λ (q : Part). q.length) same in
    record {
      size = size;
      length = length;
      whole = record { block = b; live = ap (λ (q : Part). at new q.array) same ∙ here; kind = kind; bytes = bytes; small = small };
      within = omega arith;
    }
  where
    whole : (s : ℕ) (b : Block) → b.kind ≡ Array size length → part_in s (Some b) ≡ record { array = s; from = 0; length = length }
    whole s b e = ap (λ (k : Kind). part_by s k (words_of b)) e
