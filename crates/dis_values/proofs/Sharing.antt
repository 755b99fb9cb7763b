-- Elements with references, copied: the words that move, and what they name.
use Rattle.std.proofs.Common.{◌≡◌, ◌⊎◌, ℕ, zero, suc, ◌+◌, ◌-◌, ◌*◌, ◌/◌, ◌%◌, ◌<◌, ◌≤◌, Bool, false, List, [], ◌∷◌, ◌++◌, take}
use Rattle.std.proofs.Common.{drop, length, Option, Some, None, refl, sym, ap, subst, ◌∙◌, arith, inl, inr}
use Rattle.std.specs.Prelude.{eqb, slice_get, slice_range, Result, Ok, Err, IfErr}
use Rattle.std.proofs.lemmas.Bool.{cases_lt}
use Rattle.std.proofs.lemmas.Bool.Decides.{eqb_tells}
use Rattle.std.proofs.lemmas.List.{take-append-drop}
use Rattle.std.proofs.Math.Seq.{take-add}
use Rattle.ref_heap.specs.declared.kind.Kind.{Kind}
use Rattle.ref_heap.specs.declared.kind.Kind.TheVariants.{Array}
use Rattle.ref_heap.specs.Words.{Cell, Content, cells, naming, is_reference, wide}
use Rattle.ref_heap.specs.Answers.{most}
use Rattle.ref_heap.specs.Store.{Store, Block, IsHeap, at, count, inside, limit, naming_in, outside, words_of, with_block, with_content}
use Rattle.ref_heap.specs.Drops.{Drops, IsPart, IsSameBut}
use Rattle.ref_heap.proofs.Sums.{sum_has}
use Rattle.dis_values.specs.Arrays.{Part, part_of, part_in, part_by, elements, elements_in, IsArray, IsWhole}
use Rattle.dis_values.specs.References.{raised, naming_all, Holds, HaveRoom, CanPut, CanCopy, Puts, Moves, IsMarked, CopiesHeld}
use Rattle.dis_values.proofs.Made.{block_there, other_block}
use Rattle.dis_values.proofs.Packed.{part_kept}
use Rattle.dis_values.proofs.Parts.{range_elements}
use Rattle.dis_values.proofs.Stays.{elements_stay}
use Rattle.dis_values.proofs.Taken.{Pieces, Took, took, place_within, times_le, elements_at, words_within}
use Rattle.dis_values.proofs.Written.{element_alike, elements_length, word_element}
use Rattle.dis_values.proofs.Referring.{naming_append, naming_some, get_cell_drop, length_take}

-- what stood there was held by nothing else than the block
pub given_held : (h g cur : Store) (k from : ℕ) (cs gs : List Cell) (t : CanPut h k from cs) → Holds h g (naming cs)
    → ((n : ℕ) → outside g n ≡ outside h n + naming cs n) → Puts g cur k from cs
    → gs ≡ take (length cs) (drop from t.words) → (n : ℕ) → outside cur n ≡ outside h n + naming gs n
given_held h g cur k from cs gs t a o p e n =
    let raised_block : Block = record t.block { count = t.block.count + naming cs k } in
    let there : at g k ≡ Some raised_block = a.each k ∙ ap (raised (naming cs k)) t.live in
    let same : p.block ≡ raised_block = (let f : Some p.block ≡ Some raised_block = sym p.live ∙ there in cc) in
    let inner : wide p.words ≡ wide t.words = sym p.content ∙ ap (λ (x : Block). x.content) same ∙ t.content in
    let words : p.words ≡ t.words = cc in
    let f : naming (take (length cs) (drop from p.words)) n ≡ naming gs n =
    ap (λ (ws : List Cell). naming (take (length cs) (drop from ws)) n) words ∙ sym (ap (λ (xs : List Cell). naming xs n) e) in
    let b = p.held n in
    let c = o n in
    omega arith

-- what words in a live block name is live
named_live : (h : Store) (k n : ℕ) (b : Block) → IsHeap h → at h k ≡ Some b → 0 < naming (words_of b) n → 0 < count (at h) n
named_live h k n b ok is some =
    let q = ok.bounded k b is in
    let a : naming_in (at h k) n ≤ inside h n = sum_has (limit h) (λ s. naming_in (at h s) n) k q in
    let e : naming_in (at h k) n ≡ naming (words_of b) n = ap (λ (o : Option Block). naming_in o n) is in
    let c = ok.enough n in
    omega arith

naming_part : (ws : List Cell) (x i n : ℕ) → naming (take i (drop x ws)) n ≤ naming ws n
naming_part ws x i n =
    let a = naming_some (drop x ws) i n in
    let e : naming (take x ws ++ drop x ws) n ≡ naming ws n = ap (λ (cs : List Cell). naming cs n) (take-append-drop x ws) in
    let f = naming_append (take x ws) (drop x ws) n in
    omega arith

pub room_for : (h : Store) (k x i : ℕ) (b : Block) → IsHeap h → at h k ≡ Some b
    → ((n : ℕ) → 0 < naming (take i (drop x (words_of b))) n → count (at h) n + naming (take i (drop x (words_of b))) n ≤ most)
    → HaveRoom h (naming (take i (drop x (words_of b))))
room_for h k x i b ok is fits n some = (named_live h k n b ok is (let p = naming_part (words_of b) x i n in omega arith), fits n some)

get_take : (cs : List Cell) (i q : ℕ) → q < i → slice_get (take i cs) q ≡ slice_get cs q
get_take cs zero q h = absurd (omega arith)
get_take [] (suc i) q h = refl
get_take (c ∷ cs) (suc i) zero h = refl
get_take (c ∷ cs) (suc i) (suc q) h = get_take cs i q (omega arith)

-- the words of some elements
pub words_get : (ws : List Cell) (x i q : ℕ) → q < i → slice_get (take i (drop x ws)) q ≡ slice_get ws (x + q)
words_get ws x i q h = get_take (drop x ws) i q h ∙ get_cell_drop ws x q

length_drop : (ws : List Cell) (x : ℕ) → length (drop x ws) ≡ length ws - x
length_drop ws zero = omega arith
length_drop [] (suc x) = omega arith
length_drop (w ∷ ws) (suc x) = omega (arith, length_drop ws x)

pub words_length : (ws : List Cell) (x i : ℕ) → x + i ≤ length ws → length (take i (drop x ws)) ≡ i
words_length ws x i h = length_take (drop x ws) i (omega (arith, length_drop ws x))

drop_none : (y : ℕ) → drop y (let e : List Cell = [] in e) ≡ []
drop_none zero = refl
drop_none (suc y) = refl

drop_twice : (ws : List Cell) (x y : ℕ) → drop y (drop x ws) ≡ drop (x + y) ws
drop_twice ws zero y = (let e : y ≡ 0 + y = omega arith in ap (λ (k : ℕ). drop k ws) e)
drop_twice [] (suc x) y = drop_none y ∙ sym (drop_none (suc x + y))
drop_twice (w ∷ ws) (suc x) y = drop_twice ws x y ∙ (let e : suc (x + y) ≡ suc x + y = omega arith in ap (λ (k : ℕ). drop k (w ∷ ws)) e)

pub names_elements : (size : ℕ) (ws : List Cell) (f m n : ℕ) → eqb size 1 ≡ false
    → naming_all (elements_in size ws f m) n ≡ naming (take (m * (size / 4)) (drop (f * (size / 4)) ws)) n
names_elements size ws f zero n other = (let e : 0 ≡ 0 * (size / 4) = omega arith in ap
    (λ (k : ℕ). naming (take k (drop (f * (size / 4)) ws)) n) e)
names_elements size ws f (suc m) n other =
    let k = size / 4 in
    let l = drop (f * k) ws in
    let e : suc m * k ≡ k + m * k = omega arith in
    let d : f * k + k ≡ suc f * k = omega arith in
    let split : take (suc m * k) l ≡ take k l ++ take (m * k) (drop (suc f * k) ws) =
    ap (λ (x : ℕ). take x l) e ∙ take-add k (m * k) l ∙ ap (λ (xs : List Cell). take k l ++ take (m * k) xs) (drop_twice ws (f * k) k
    ∙ ap (λ (x : ℕ). drop x ws) d) in
    let a = ap (λ (xs : List Cell). naming xs n) split ∙ naming_append (take k l) (take (m * k) (drop (suc f * k) ws)) n in
    let b = ap (λ (xs : List Cell). naming xs n) (word_element size ws f other) in
    let c = names_elements size ws (suc f) m n other in
    omega arith

pub pieces_of : (size base from n : ℕ) (ws new src : List Cell) → eqb size 1 ≡ false
    → ((q : ℕ) → q < n * (size / 4) → slice_get new (base * (size / 4) + q) ≡ slice_get src (from * (size / 4) + q))
    → ((i : ℕ) → (i < base * (size / 4)) ⊎ (base * (size / 4) + n * (size / 4) ≤ i) → slice_get new i ≡ slice_get ws i)
    → Pieces size ws new src base from n
pieces_of size base from n ws new src other here apart = record {
  here = λ q l. element_alike size new src (base + q) (from + q) other (λ r m.
      let e : (base + q) * (size / 4) + r ≡ base * (size / 4) + (q * (size / 4) + r) = omega arith in
      let f : from * (size / 4) + (q * (size / 4) + r) ≡ (from + q) * (size / 4) + r = omega arith in
      ap (slice_get new) e ∙ here (q * (size / 4) + r) (place_within q r n (size / 4) l m) ∙ ap (slice_get src) f);
  apart = λ j o. element_alike size new ws j j other (λ r m. apart (j * (size / 4) + r) (outer j r m o));
}
  where
    outer : (j r : ℕ) → r < size / 4 → (j < base) ⊎ (base + n ≤ j) → (j * (size / 4) + r < base * (size / 4)) ⊎
        (base * (size / 4) + n * (size / 4) ≤ j * (size / 4) + r)
    outer j r m (inl l) = inl (place_within j r base (size / 4) l m)
    outer j r m (inr l) = inr (let f = times_le (base + n) j (size / 4) l in omega arith)

-- an array whose block got other words
after_put : (h new : Store) (t k size len : ℕ) (b : Block) (c : Content) → at h k ≡ Some b → b.kind ≡ Array size len
    → new ≡ with_block h k (with_content b c) → IsArray h t → IsArray new t
after_put h new t k size len b c is kind made a =
    let p = part_of h t in
    let b' = with_content b c in
    let same : part_of new t ≡ p = ap (λ (v : Store). part_of v t) made ∙ part_kept h t k size len b b' is kind refl in
    let within : (part_of new t).from + (part_of new t).length ≤ a.length =
    subst (λ (q : Part). q.from + q.length ≤ a.length) (sym same) a.within in
    elim (eqb_tells p.array k) [
      | inl y ↦
          let live : at new (part_of new t).array ≡ Some b' = ap (λ (q : Part). at new q.array) same ∙ ap (at new) y.1
          ∙ ap (λ (v : Store). at v k) made ∙ block_there h k b' in
          let one : a.whole.block ≡ b = (let f : Some a.whole.block ≡ Some b = sym a.whole.live ∙ ap (at h) y.1 ∙ is in cc) in
          record {
            size = a.size;
            length = a.length;
            whole = record {
              block = b';
              live = live;
              kind =
                  sym (ap (λ (x : Block). x.kind) one) ∙ a.whole.kind;
              bytes = a.whole.bytes;
              small = a.whole.small;
            };
            within = within;
          }
      | inr y ↦
          let stay : at new (part_of new t).array ≡ at h p.array = ap (λ (q : Part). at new q.array) same
          ∙ ap (λ (v : Store). at v p.array) made ∙ other_block h k b' p.array y.1 in
          record {
            size = a.size;
            length = a.length;
            whole = record {
              block = a.whole.block;
              live = stay
                  ∙ a.whole.live;
              kind = a.whole.kind;
              bytes = a.whole.bytes;
              small = a.whole.small;
            };
            within = within;
          }
    ]

self_array : (h : Store) (k size len : ℕ) → IsWhole h k size len → IsArray h k
self_array h k size len w =
    let same : part_of h k ≡ record { array = k; from = 0; length = len } = ap (part_in k) w.live
    ∙ ap (λ (q : Kind). part_by k q (words_of w.block)) w.kind in
    record {
      size = size;
      length = len;
      whole = subst (λ (q : Part). IsWhole h q.array size len) (sym same) w;
      within = subst (λ (q : Part). q.from + q.length ≤ len) (sym same) (omega arith);
    }

raised_part : (g m : Store) (f : ℕ → ℕ) → ((n : ℕ) → at m n ≡ raised (f n) (at g n)) → IsPart (at g) (at m)
raised_part g m f e s = subst (λ (o : Option Block). IsSameBut (at g s) o) (sym (e s)) (go (at g s))
  where
    go : (o : Option Block) → IsSameBut o (raised (f s) o)
    go None = tt
    go (Some b) = (refl, refl)

not_one : (size : ℕ) → size % 4 ≡ 0 → eqb size 1 ≡ false
not_one size even = elim (eqb_tells size 1) [ inl y ↦ absurd (omega (arith, y.1)) | inr y ↦ y.0 ]

-- words that move are elements that are copied
pub copies : (h new : Store) (t s from size : ℕ) (marks : List Bool) (a : IsMarked h t size marks) (b : IsMarked h s size marks)
    → from + (part_of h s).length ≤ (part_of h t).length
    → Moves h new (part_of h t).array (((part_of h t).from + from) * (size / 4))
    (take ((part_of h s).length * (size / 4)) (drop ((part_of h s).from * (size / 4)) (words_of b.whole.block)))
    → CopiesHeld h new t from (elements h s)
copies h new t s from size marks a b fits m =
    let k = size / 4 in
    let p = part_of h t in
    let q0 = part_of h s in
    let src = words_of b.whole.block in
    let cs = take (q0.length * k) (drop (q0.from * k) src) in
    let other = not_one size a.even in
    let wide_src : src ≡ b.words = ap cells b.content in
    let there : q0.from * k + q0.length * k ≤ length src = (let f = words_within (q0.from + q0.length) b.all size b.within in let g =
    b.enough in let e = ap length wide_src in omega arith) in
    let long : length cs ≡ q0.length * k = words_length src (q0.from * k) (q0.length * k) there in
    let same : m.block ≡ a.whole.block = (let f : Some m.block ≡ Some a.whole.block = sym m.live ∙ a.whole.live in cc) in
    let old_words : words_of a.whole.block ≡ m.words = ap words_of (sym same) ∙ ap cells m.content in
    let g = with_block h p.array (with_content m.block (wide m.put)) in
    let made : g ≡ with_block h p.array (with_content a.whole.block (wide m.put)) =
    ap (λ (x : Block). with_block h p.array (with_content x (wide m.put))) same in
    let pieces = pieces_of size (p.from + from) q0.from q0.length (words_of a.whole.block) m.put src other
    (λ q l. m.here q (omega (arith, long)) ∙ words_get src (q0.from * k) (q0.length * k) q l)
    (λ i o. m.apart i (past i o) ∙ sym (ap (λ (ws : List Cell). slice_get ws i) old_words)) in
    let tk = took h g t from size q0.from q0.length a.all src (wide m.put) a.whole a.within fits made pieces in
    let ys : elements_in size src q0.from q0.length ≡ elements h s = sym
    (elements_at h s size b.all b.whole.block b.whole.live b.whole.kind) in
    let t2 = subst (λ (zs : List (List Cell)). Took h g t from zs) ys tk in
    let lies : IsArray h t = record { size = size; length = a.all; whole = a.whole; within = a.within } in
    let part : IsPart (at g) (at m.middle) = raised_part g m.middle (naming cs) m.held in
    let counted : (n : ℕ) → naming cs n ≡ naming_all (elements h s) n =
    (λ (n : ℕ). sym (ap (λ (zs : List (List Cell)). naming_all zs n) (sym ys) ∙ names_elements size src q0.from q0.length n other)) in
    let many : length (elements h s) ≡ q0.length = sym (ap length ys) ∙ elements_length size src q0.from q0.length in
    let range : slice_range (elements h t) from (from + length (elements h s)) ≡ elements_in size (words_of a.whole.block)
    (p.from + from) q0.length =
    ap (λ (zs : List (List Cell)). slice_range zs from (from + length (elements h s)))
    (elements_at h t size a.all a.whole.block a.whole.live a.whole.kind)
    ∙ ap (λ (z : ℕ). slice_range (elements_in size (words_of a.whole.block) p.from p.length) from (from + z)) many
    ∙ sym (range_elements size (words_of a.whole.block) p.from p.length from (from + q0.length) (omega arith) fits)
    ∙ (let e : from + q0.length - from ≡ q0.length = omega arith in ap (elements_in size (words_of a.whole.block) (p.from + from)) e) in
    let gave : (n : ℕ) → naming (take (length cs) (drop ((p.from + from) * k) m.words)) n ≡ naming_all
    (slice_range (elements h t) from (from + length (elements h s))) n =
    (λ (n : ℕ). ap (λ (z : ℕ). naming (take z (drop ((p.from + from) * k) m.words)) n) long
    ∙ ap (λ (ws : List Cell). naming (take (q0.length * k) (drop ((p.from + from) * k) ws)) n) (sym old_words)
    ∙ sym (ap (λ (zs : List (List Cell)). naming_all zs n) range ∙ names_elements size (words_of a.whole.block)
    (p.from + from) q0.length n other)) in
    record {
      block = m.block;
      live = m.live;
      content = wide m.put;
      middle = m.middle;
      made = m.made;
      held = λ n. m.held n ∙ ap (λ (z : ℕ). raised z (at g n)) (counted n);
      array = elements_stay g m.middle p.array part (after_put h g p.array p.array size a.all a.whole.block
          (wide m.put) a.whole.live a.whole.kind made (self_array h p.array size a.all a.whole)) ∙ t2.array.array;
      shown = elements_stay g m.middle t part (after_put h g t p.array size a.all a.whole.block
          (wide m.put) a.whole.live a.whole.kind made lies) ∙ t2.elements_are;
      drops = subst (λ (f : ℕ → ℕ). Drops m.middle new f) (λ i n. gave n i) m.drops;
      lists = m.lists;
    }
  where
    past : (i : ℕ)
        → (i < ((part_of h t).from + from) * (size / 4)) ⊎ (((part_of h t).from + from) * (size / 4) + (part_of h s).length *
        (size / 4) ≤ i)
        → (i < ((part_of h t).from + from) * (size / 4))
        ⊎ (((part_of h t).from + from) * (size / 4) + length (take ((part_of h s).length * (size / 4))
        (drop ((part_of h s).from * (size / 4)) (words_of b.whole.block))) ≤ i)
    past i (inl l) = inl l
    past i (inr l) =
        let k = size / 4 in
        let q0 = part_of h s in
        let src = words_of b.whole.block in
        let wide_src : src ≡ b.words = ap cells b.content in
        let there : q0.from * k + q0.length * k ≤ length src = (let f = words_within (q0.from + q0.length) b.all size b.within in let g =
        b.enough in let e = ap length wide_src in omega arith) in
        inr (omega (arith, words_length src (q0.from * k) (q0.length * k) there))

not_in : (cs : List Cell) (i q : ℕ) (y : Cell) → i ≤ q → slice_get (take i cs) q ≡ Some y → ⊥
not_in cs zero q y l e = cc
not_in [] (suc i) q y l e = cc
not_in (c ∷ cs) (suc i) zero y l e = absurd (omega arith)
not_in (c ∷ cs) (suc i) (suc q) y l e = not_in cs i q y (omega arith) e

-- and they may be put there
pub can_copy : (h : Store) (t s from size : ℕ) (marks : List Bool) (a : IsMarked h t size marks) (b : IsMarked h s size marks)
    → from + (part_of h s).length ≤ (part_of h t).length
    → CanCopy h (part_of h t).array (((part_of h t).from + from) * (size / 4)) (part_of h s).array ((part_of h s).from * (size / 4))
    ((part_of h s).length * (size / 4))
can_copy h t s from size marks a b fits =
    let k = size / 4 in
    let p = part_of h t in
    let q0 = part_of h s in
    let src = words_of b.whole.block in
    let wide_src : src ≡ b.words = ap cells b.content in
    let there : q0.from * k + q0.length * k ≤ length src = (let f = words_within (q0.from + q0.length) b.all size b.within in let g =
    b.enough in let e = ap length wide_src in omega arith) in
    let long : length (take (q0.length * k) (drop (q0.from * k) src)) ≡ q0.length * k =
    words_length src (q0.from * k) (q0.length * k) there in
    let w = a.within in
    let room : (p.from + from) * k + q0.length * k ≤ length a.words = (let f =
    words_within (p.from + from + q0.length) a.all size (omega arith) in let g = a.enough in omega arith) in
    record {
      source = record { block = b.whole.block; live = b.whole.live; enough = there };
      put = record { block = a.whole.block; live = a.whole.live; words = a.words; content = a.content; room = omega arith; fits = alike };
    }
  where
    alike : (q : ℕ) (x y : Cell) → slice_get a.words (((part_of h t).from + from) * (size / 4) + q) ≡ Some x
        → slice_get (take ((part_of h s).length * (size / 4)) (drop ((part_of h s).from * (size / 4)) (words_of b.whole.block))) q ≡ Some
        y → is_reference x ≡ is_reference y
    alike q x y ex ey = elim (cases_lt q ((part_of h s).length * (size / 4))) [
      | inl l ↦
          let k = size / 4 in
          let p = part_of h t in
          let q0 = part_of h s in
          let src = words_of b.whole.block in
          let some : 0 < k = elim (eqb_tells k 0) [
            | inl z ↦ absurd (let f : q0.length * k ≡ q0.length * 0 =
                ap (λ (v : ℕ). q0.length * v) z.1 in omega arith)
            | inr z ↦ omega (arith, z.1)
          ] in
          let i = q / k in
          let r = q % k in
          let less : r < k = omega arith in
          let whole : k * i + r ≡ q = omega arith in
          let e1 : (p.from + from) * k + q ≡ (p.from + from + i) * k + r = omega arith in
          let e2 : (q0.from + i) * k + r ≡ q0.from * k + q = omega arith in
          let m1 = a.marked (p.from + from + i) r x less (ap (slice_get a.words) (sym e1) ∙ ex) in
          let there : slice_get src (q0.from * k + q) ≡ Some y = sym (words_get src (q0.from * k) (q0.length * k) q l) ∙ ey in
          let m2 = b.marked (q0.from + i) r y less (ap (λ (ws : List Cell). slice_get ws ((q0.from + i) * k + r))
          (sym (ap cells b.content)) ∙ ap (slice_get src) e2 ∙ there) in
          m1 ∙ sym m2
      | inr l ↦ absurd (not_in (drop ((part_of h s).from * (size / 4)) (words_of b.whole.block))
          ((part_of h s).length * (size / 4)) q y l ey)
    ]

-- what the words name is what the elements name
pub named_alike : (h : Store) (s size : ℕ) (marks : List Bool) (b : IsMarked h s size marks) (n : ℕ)
    → naming (take ((part_of h s).length * (size / 4)) (drop ((part_of h s).from * (size / 4)) (words_of b.whole.block))) n ≡ naming_all
    (elements h s) n
named_alike h s size marks b n =
    sym (ap (λ (zs : List (List Cell)). naming_all zs n) (elements_at h s size b.all b.whole.block b.whole.live b.whole.kind)
    ∙ names_elements size (words_of b.whole.block) (part_of h s).from (part_of h s).length n (not_one size b.even))

-- the same at a call, where parts are known by what they equal
pub record Call (h : Store) (t s from size into to out sf n z : ℕ) : Type 0 where
  pub into_is : into ≡ (part_of h t).array
  pub to_is : to ≡ (part_of h t).from
  pub out_is : out ≡ (part_of h s).array
  pub sf_is : sf ≡ (part_of h s).from
  pub n_is : n ≡ (part_of h s).length
  pub z_is : z ≡ size

pub call_copy : (h : Store) (t s from size into to out sf n z : ℕ) → Call h t s from size into to out sf n z
    → CanCopy h (part_of h t).array (((part_of h t).from + from) * (size / 4)) (part_of h s).array ((part_of h s).from * (size / 4))
    ((part_of h s).length * (size / 4))
    → CanCopy h into ((to + from) * (z / 4)) out (sf * (z / 4)) (n * (z / 4))
call_copy h t s from size into to out sf n z k a =
    let p = part_of h t in
    let q = part_of h s in
    let a1 = subst (λ (x : ℕ). CanCopy h x ((p.from + from) * (size / 4)) q.array (q.from * (size / 4)) (q.length * (size / 4)))
    (sym k.into_is) a in
    let a2 = subst (λ (x : ℕ). CanCopy h into ((x + from) * (size / 4)) q.array (q.from * (size / 4)) (q.length * (size / 4)))
    (sym k.to_is) a1 in
    let a3 = subst (λ (x : ℕ). CanCopy h into ((to + from) * (size / 4)) x (q.from * (size / 4)) (q.length * (size / 4)))
    (sym k.out_is) a2 in
    let a4 = subst (λ (x : ℕ). CanCopy h into ((to + from) * (size / 4)) out (x * (size / 4)) (q.length * (size / 4))) (sym k.sf_is) a3 in
    let a5 = subst (λ (x : ℕ). CanCopy h into ((to + from) * (size / 4)) out (sf * (size / 4)) (x * (size / 4))) (sym k.n_is) a4 in
    subst (λ (x : ℕ). CanCopy h into ((to + from) * (x / 4)) out (sf * (x / 4)) (n * (x / 4))) (sym k.z_is) a5

pub call_cells : (h : Store) (t s from size into to out sf n z : ℕ) (ws : List Cell) → Call h t s from size into to out sf n z
    → take (n * (z / 4)) (drop (sf * (z / 4)) ws) ≡ take ((part_of h s).length * (size / 4)) (drop ((part_of h s).from * (size / 4)) ws)
call_cells h t s from size into to out sf n z ws k =
    ap (λ (x : ℕ). take (x * (z / 4)) (drop (sf * (z / 4)) ws)) k.n_is
    ∙ ap (λ (x : ℕ). take ((part_of h s).length * (z / 4)) (drop (x * (z / 4)) ws)) k.sf_is
    ∙ ap (λ (x : ℕ). take ((part_of h s).length * (x / 4)) (drop ((part_of h s).from * (x / 4)) ws)) k.z_is

pub call_moves : (h new : Store) (t s from size into to out sf n z : ℕ) (marks : List Bool) (a : IsMarked h t size marks)
    (b : IsMarked h s size marks) → Call h t s from size into to out sf n z
    → from + (part_of h s).length ≤ (part_of h t).length
    → ((x : Block) → at h out ≡ Some x → Moves h new into ((to + from) * (z / 4)) (take (n * (z / 4)) (drop (sf * (z / 4)) (words_of x))))
    → CopiesHeld h new t from (elements h s)
call_moves h new t s from size into to out sf n z marks a b k fits moves =
    let p = part_of h t in
    let ws = words_of b.whole.block in
    let m0 = moves b.whole.block (ap (at h) k.out_is ∙ b.whole.live) in
    let m1 = subst (λ (cs : List Cell). Moves h new into ((to + from) * (z / 4)) cs)
    (call_cells h t s from size into to out sf n z ws k) m0 in
    let cs = take ((part_of h s).length * (size / 4)) (drop ((part_of h s).from * (size / 4)) ws) in
    let m2 = subst (λ (x : ℕ). Moves h new x ((to + from) * (z / 4)) cs) k.into_is m1 in
    let m3 = subst (λ (x : ℕ). Moves h new p.array ((x + from) * (z / 4)) cs) k.to_is m2 in
    let m4 = subst (λ (x : ℕ). Moves h new p.array ((p.from + from) * (x / 4)) cs) k.z_is m3 in
    copies h new t s from size marks a b fits m4

pub if_err_map : {A E : Type 0} (r : Result A E) (P Q : E → Type 0) → ((e : E) → P e → Q e) → IfErr r P → IfErr r Q
if_err_map (Ok x) P Q f p = tt
if_err_map (Err x) P Q f p = f x p
